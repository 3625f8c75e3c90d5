-- Codes by columns, and the Am2960's. Each data bit has a column, a number of k bits: the check bits that it takes part in.
-- Assumes nothing.
use Rattle.std.specs.Prelude.{◌≡◌, ℕ, ◌*◌, ◌/◌, ◌%◌, ◌^◌, ◌<◌, cond, ◌⊎◌, List, [], ◌∷◌, length, ◌==◌, ◌≢◌, bit_xor, count_ones}
use Rattle.std.specs.List.{AllByRecursion}
use Rattle.codes.specs.Cells.{judgement, Coding, by_syndrome, word_bits, most_checks}
use Rattle.codes.specs.Law.{Lawful}
use Rattle.codes.specs.declared.verdict.Judgement.{Judgement}
use Rattle.codes.specs.declared.verdict.Verdict.TheVariants.{Sound, Mended, Bad}

-- the columns of data bits 0 to 15 of the Am2960; check bits 0 to 5 are CX, C0, C1, C2, C4 and C8
abbrev pub am2960_columns : List ℕ
am2960_columns = 14 ∷ 11 ∷ 19 ∷ 21 ∷ 22 ∷ 25 ∷ 26 ∷ 28 ∷ 35 ∷ 37 ∷ 38 ∷ 41 ∷ 42 ∷ 44 ∷ 49 ∷ 52 ∷ []

-- the checks of the word 0: C1 and C2 are odd parities, the others even
abbrev pub checks_of_zero : ℕ
checks_of_zero = 12

-- start, joined by exclusive or with the column of each set bit of the word, in order
unfoldable pub folded_columns : ℕ → List ℕ → ℕ → ℕ
folded_columns start [] word = start
folded_columns start (c ∷ cs) word = folded_columns (cond (word % 2 == 1) (bit_xor start c) start) cs (word / 2)

-- the data bit that a syndrome names, as a mask: the bit whose column it is, 0 where it is no column
unfoldable pub named_bit : List ℕ → ℕ → ℕ
named_bit [] s = 0
named_bit (c ∷ cs) s = cond (c == s) 1 (2 * named_bit cs s)

-- syndrome 0 is sound; an even number of ones is bad; an odd one is mended, with the bit that it names inverted
abbrev pub judged_by_columns : List ℕ → ℕ → ℕ → Judgement
judged_by_columns cs stored s =
    cond (s == 0) (judgement Sound stored s) (cond (count_ones s % 2 == 0) (judgement Bad stored s) (judgement Mended (bit_xor stored (named_bit cs s)) s))

-- the Am2960's rules with any columns in the place of its own
abbrev pub column_code : List ℕ → Coding
column_code cs = by_syndrome word_bits 6 1 2 (folded_columns checks_of_zero cs) (judged_by_columns cs)

abbrev pub am2960 : Coding
am2960 = column_code am2960_columns

-- no two numbers of the list are equal
abbrev pub Different : List ℕ → Type 0
Different [] = Unit {0}
Different (c ∷ cs) = AllByRecursion (λ x. x ≢ c) cs × Different cs

-- three or five ones
abbrev pub ThreeOrFive : ℕ → Type 0
ThreeOrFive c = (count_ones c ≡ 3) ⊎ (count_ones c ≡ 5)

-- sixteen different numbers below 64, each of three or five ones
pub record Columns (cs : List ℕ) : Type 0 where
  pub sixteen : length cs ≡ word_bits
  pub small : AllByRecursion (λ c. c < 2 ^ 6) cs
  pub three_or_five : AllByRecursion ThreeOrFive cs
  pub different : Different cs

-- with any such columns the law is kept
abbrev pub AnyColumnsLawful : Type 0
AnyColumnsLawful = (cs : List ℕ) → Columns cs → Lawful word_bits most_checks (column_code cs)
