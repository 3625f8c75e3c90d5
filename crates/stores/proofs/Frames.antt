-- What no call changes: layer, count, faults, and which cells are fitted.
-- Assumes nothing.
use Rattle.std.proofs.Common.{◌≡◌, ℕ, cond, is_ok, Ok, Err, Result, sym, refl, ap, ◌∙◌, ⊎_elim, arith}
use lib.Bits.{bit_xor}
use Rattle.std.proofs.lemmas.Bool.{cases_eq, eq-eqb, ne_eqb}
use Rattle.stores.specs.declared.fault.Fault.{Fault}
use Rattle.stores.specs.Meaning.{Meaning, with_content, changed, write_answer, SameFrame, FrameStays}

same : (m : Meaning) → SameFrame m m
same m = record { layer = refl; count = refl; faults = λ cell f e. e; fitted = λ cell content e. ap is_ok e }

with_same : (m : Meaning) (cell held content : ℕ) → m.at cell ≡ Ok held → SameFrame m (with_content m cell content)
with_same m cell held content is = record {
  layer = refl;
  count = refl;
  faults = λ i f e. ⊎_elim
      (λ here. let both : ◌≡◌ {A = Result ℕ Fault} (Ok held) (Err f) = sym is ∙ ap m.at (sym here) ∙ e in let z : ◌≡◌ {A = ℕ} 0 1 = cc in absurd (omega arith))
      (λ other. ap (λ t. cond t (Ok content) (m.at i)) (ne_eqb i cell other) ∙ e)
      (cases_eq i cell);
  fitted = λ i v e. ⊎_elim
      (λ here. ap (λ t. is_ok (cond t (Ok content) (m.at i))) (eq-eqb i cell here))
      (λ other. ap (λ t. is_ok (cond t (Ok content) (m.at i))) (ne_eqb i cell other) ∙ ap is_ok e)
      (cases_eq i cell);
}

changed_same : (m : Meaning) (cell : ℕ) (new : ℕ → ℕ) (answer : Result (Unit {0}) Fault) (held : Result ℕ Fault) → m.at cell ≡ held → SameFrame m (changed m cell new answer held)
changed_same m cell new (Ok u) (Ok v) is = with_same m cell v (new v) is
changed_same m cell new (Ok u) (Err f) is = same m
changed_same m cell new (Err f) held is = same m

pub frame_stays : (m : Meaning) → FrameStays m
frame_stays m cell number = (
  changed_same m cell (λ old. number) (write_answer m cell number) (m.at cell) refl,
  changed_same m cell (λ old. bit_xor old number) (write_answer m cell number) (m.at cell) refl,
)
