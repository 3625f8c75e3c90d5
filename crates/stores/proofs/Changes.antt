-- Laws of what a call leaves: at a cell that is tested and fitted, in any layer.
-- Assumes nothing.
use Rattle.std.proofs.Common.{◌≡◌, ℕ, ◌<◌, Bool, true, false, cond, ltb, Ok, Err, Result, sym, refl, ap, ◌∙◌, subst, ap₂, ⊎_elim, arith}
use mathlib.Core.Path.{fun_ext}
use Rattle.std.proofs.lemmas.Bool.{cases_eq, lt-ltb, ltb-true, eq-eqb, ne_eqb}
use Rattle.stores.specs.declared.fault.Cause.TheVariants.{PastCount, TooWide}
use Rattle.stores.specs.declared.fault.Fault.{Fault}
use Rattle.stores.specs.Faults.{fault}
use Rattle.stores.specs.Meaning.{Meaning, content_limit, tested, and_then, granted, write_answer, with_content, changed}
use Rattle.stores.specs.Layers.{layered}

-- a test that is passed says that the cell is below the count and the number fits
pub tested_tells : (layer count cell number : ℕ) → tested layer count cell number ≡ Ok tt → (cell < count) × (number < content_limit)
tested_tells layer count cell number e = go (ltb cell count) (ltb number content_limit) refl refl e
  where
    go
        : (a b : Bool) → ltb cell count ≡ a → ltb number content_limit ≡ b
        → ◌≡◌ {A = Result (Unit {0}) Fault} (cond a (cond b (Ok tt) (Err (fault TooWide layer cell))) (Err (fault PastCount layer cell))) (Ok tt)
        → (cell < count) × (number < content_limit)
    go true true p q h = (ltb-true cell count p, ltb-true number content_limit q)
    go true false p q h = let z : ◌≡◌ {A = ℕ} 0 1 = cc in absurd (omega arith)
    go false b p q h = let z : ◌≡◌ {A = ℕ} 0 1 = cc in absurd (omega arith)

-- the test as the code made it, with the count that it asked for
pub passed_at : (layer asked count cell number : ℕ) → asked ≡ count → Ok tt ≡ tested layer asked cell number → tested layer count cell number ≡ Ok tt
passed_at layer asked count cell number is e = ap (λ (n : ℕ). tested layer n cell number) (sym is) ∙ sym e

pub tested_passes : (layer count cell number : ℕ) → cell < count → number < content_limit → tested layer count cell number ≡ Ok tt
tested_passes layer count cell number h n = rw (lt-ltb cell count h, lt-ltb number content_limit n) refl

module _ (m : Meaning) (cell number : ℕ) (passed : tested m.layer m.count cell number ≡ Ok tt) where
  -- once the tests are passed, the cell alone decides
  pub answer_by_cell : write_answer m cell number ≡ granted (m.at cell)
  answer_by_cell = ap (λ t. and_then t (granted (m.at cell))) passed

  pub answer_fitted : (held : ℕ) → m.at cell ≡ Ok held → write_answer m cell number ≡ Ok tt
  answer_fitted held e = answer_by_cell ∙ ap granted e

  pub changed_fitted
      : (new : ℕ → ℕ) (held : ℕ) → m.at cell ≡ Ok held
      → changed m cell new (write_answer m cell number) (m.at cell) ≡ with_content m cell (new held)
  changed_fitted new held e = ap₂ (λ t r. changed m cell new (and_then t (granted r)) r) passed e

abbrev meaning_of : ℕ → ℕ → (ℕ → Result ℕ Fault) → Meaning
meaning_of layer count cells = record { layer = layer; count = count; at = cells }

-- a layer whose cells differ from another's at one cell
pub layered_with
    : (layer count : ℕ) (after before : ℕ → Result ℕ Fault) (cell content : ℕ) → cell < count → after cell ≡ Ok content
    → ((i : ℕ) → (i ≡ cell → ⊥) → after i ≡ before i)
    → layered layer count after ≡ with_content (layered layer count before) cell content
layered_with layer count after before cell content h here other =
    ap (meaning_of layer count) (fun_ext (λ i. ⊎_elim
    (λ e. subst (λ (k : ℕ). (layered layer count after).at k ≡ (with_content (layered layer count before) cell content).at k) (sym e)
    (rw (lt-ltb cell count h, eq-eqb cell cell refl) here))
    (λ ne. rw (ne_eqb i cell ne, other i ne) refl)
    (cases_eq i cell)))

pub layered_below : (layer count : ℕ) (cells : ℕ → Result ℕ Fault) (i : ℕ) → i < count → (layered layer count cells).at i ≡ cells i
layered_below layer count cells i h = rw (lt-ltb i count h) refl
