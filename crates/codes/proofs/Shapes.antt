-- The shape of the columns from a place on: one column, and the rest.
-- Assumes nothing.
use Rattle.std.specs.Prelude.{ℕ, ◌+◌, ◌^◌, ◌<◌, ◌≤◌, List, length, drop, ◌≢◌, slice_index, refl}
use Rattle.std.proofs.Common.{sym, subst}
use Rattle.std.specs.List.{ContainsAt}
use Rattle.std.proofs.ByRecursion.{all-has, All-from_get_or, has_get_or}
use Rattle.std.proofs.lemmas.List.{drop_all}
use Rattle.codes.specs.Columns.{ThreeOrFive}
use Rattle.codes.specs.Tables.{Shape}
use Rattle.codes.proofs.Loops.{rest_at}

-- one column of a list that has the shape, and the rest
pub record First (c : ℕ) (rest : List ℕ) : Type 0 where
  pub fits : (c < 2 ^ 6) × ThreeOrFive c
  pub once : ContainsAt rest c → ⊥

module _ (cs : List ℕ) (i : ℕ) (inside : i < length cs) where
  pub shape_first : Shape (drop i cs) → First (slice_index cs i) (drop (i + 1) cs)
  shape_first shape =
      let here = subst Shape (rest_at cs i inside) shape in
      record { fits = (here.0.0, here.1.0); once = λ has. all-has (λ x. x ≢ slice_index cs i) (drop (i + 1) cs) (slice_index cs i) here.2.0 has refl }

  pub shape_rest : Shape (drop i cs) → Shape (drop (i + 1) cs)
  shape_rest shape = let here = subst Shape (rest_at cs i inside) shape in (here.0.1, here.1.1, here.2.1)

  pub shape_more : First (slice_index cs i) (drop (i + 1) cs) → Shape (drop (i + 1) cs) → Shape (drop i cs)
  shape_more first rest =
      let absent = All-from_get_or (λ x. x ≢ slice_index cs i) (drop (i + 1) cs) 0
      (λ k h e. first.once (subst (ContainsAt (drop (i + 1) cs)) e (has_get_or (drop (i + 1) cs) k 0 h))) in
      subst Shape (sym (rest_at cs i inside)) ((first.fits.0, rest.0), (first.fits.1, rest.1), (absent, rest.2))

pub shape_all : (cs : List ℕ) (i : ℕ) → length cs ≤ i → Shape (drop i cs)
shape_all cs i h = subst Shape (sym (drop_all i cs h)) (tt, tt, tt)
