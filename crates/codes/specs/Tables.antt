-- Whether a list of numbers can serve as columns: a test that computes, which decides it.
-- Assumes nothing.
use Rattle.std.specs.Prelude.{◌≡◌, ℕ, ◌^◌, ◌<◌, Bool, true, false, not, ◌&&◌, ◌||◌, List, [], ◌∷◌, length, Decides, ◌==◌, ◌≢◌, nat_lt, refl}
use Rattle.std.specs.Int.Count.{ones}
use Rattle.std.specs.List.{AllByRecursion, list_any}
use Rattle.std.proofs.ByRecursion.{Decides-by_and}
use Rattle.std.proofs.lemmas.Bool.Decides.{Decides-like, Decides-not, Decides-and, Decides-or, Decides-eqb, Decides-ltb}
use Rattle.codes.specs.Cells.{word_bits}
use Rattle.codes.specs.Columns.{am2960_columns, Different, ThreeOrFive, Columns}

-- below 64, of three or five ones
abbrev pub column_test : ℕ → Bool
column_test c = nat_lt c 64 && (ones c == 3 || ones c == 5)

-- c is none of the numbers
abbrev pub absent_test : ℕ → List ℕ → Bool
absent_test c xs = not (list_any (λ x. x == c) xs)

-- a column, and none of those behind it
abbrev pub first_test : ℕ → List ℕ → Bool
first_test c behind = column_test c && absent_test c behind

abbrev pub columns_test : List ℕ → Bool
columns_test [] = true
columns_test (c ∷ cs) = first_test c cs && columns_test cs

ones_decide : (c : ℕ) → Decides (ones c == 3 || ones c == 5) (ThreeOrFive c)
ones_decide c = Decides-or (ones c == 3) (ones c == 5) (Decides-eqb (ones c) 3) (Decides-eqb (ones c) 5)

column_decides : (c : ℕ) → Decides (column_test c) ((c < 2 ^ 6) × ThreeOrFive c)
column_decides c = Decides-and (nat_lt c 64) (ones c == 3 || ones c == 5) (Decides-ltb c 64) (ones_decide c)

absent_decides : (c : ℕ) (xs : List ℕ) → Decides (absent_test c xs) (AllByRecursion (λ x. x ≢ c) xs)
absent_decides c =
    Decides-by_and (λ x. not (x == c)) (λ x. x ≢ c) (absent_test c) (λ x. Decides-not (x == c) (Decides-eqb x c)) refl (λ x xs. either (x == c) (list_any (λ y. y == c) xs))
  where
    either : (a b : Bool) → not (a || b) ≡ (not a && not b)
    either true b = refl
    either false b = refl

-- what the columns are, but for their number
abbrev pub Shape : List ℕ → Type 0
Shape cs = AllByRecursion (λ c. c < 2 ^ 6) cs × AllByRecursion ThreeOrFive cs × Different cs

shape_decides : (cs : List ℕ) → Decides (columns_test cs) (Shape cs)
shape_decides [] = (λ e. (tt, tt, tt), λ s. refl)
shape_decides (c ∷ cs) =
    Decides-like (columns_test (c ∷ cs)) (λ p. ((p.0.0.0, p.1.0), (p.0.0.1, p.1.1), (p.0.1, p.1.2))) (λ s. (((s.0.0, s.1.0), s.2.0), (s.0.1, s.1.1, s.2.1)))
    (Decides-and (first_test c cs) (columns_test cs) (Decides-and (column_test c) (absent_test c cs) (column_decides c) (absent_decides c cs)) (shape_decides cs))

pub columns_from_shape : (cs : List ℕ) → length cs ≡ word_bits → Shape cs → Columns cs
columns_from_shape cs long s = record { sixteen = long; small = s.0; three_or_five = s.1; different = s.2 }

pub shape_from_columns : (cs : List ℕ) → Columns cs → Shape cs
shape_from_columns cs good = (good.small, good.three_or_five, good.different)

pub columns_decide : (cs : List ℕ) → length cs ≡ word_bits → Decides (columns_test cs) (Columns cs)
columns_decide cs long = Decides-like (columns_test cs) (columns_from_shape cs long) (shape_from_columns cs) (shape_decides cs)

pub am2960_fits : Columns am2960_columns
unfolding ones
am2960_fits = (columns_decide am2960_columns refl).0 refl
