-- What is left of the columns from a place on, and what they come to there.
-- Assumes nothing.
use Rattle.std.specs.Prelude.{◌≡◌, ℕ, ◌+◌, ◌*◌, ◌/◌, ◌%◌, ◌^◌, ◌<◌, ◌≤◌, cond, List, ◌∷◌, length, drop, ◌==◌, bit_xor, slice_index, refl}
use Rattle.std.proofs.Common.{sym, ap, ◌∙◌, add-one, drop-cons}
use Rattle.std.proofs.lemmas.Nat.{shr-shr}
use Rattle.std.proofs.lemmas.List.{drop_all}
use Rattle.codes.specs.Columns.{folded_columns, named_bit}

-- what is left of a list from place i on, by its first element
pub rest_at : (cs : List ℕ) (i : ℕ) → i < length cs → drop i cs ≡ slice_index cs i ∷ drop (i + 1) cs
rest_at cs i h = drop-cons cs i 0 h ∙ ap (λ (k : ℕ). slice_index cs i ∷ drop k cs) (sym (add-one i))

pub folded_more
    : (start : ℕ) (cs : List ℕ) (i word : ℕ) → i < length cs
    → folded_columns start (drop i cs) (word / 2 ^ i)
    ≡ folded_columns (cond (word / 2 ^ i % 2 == 1) (bit_xor start (slice_index cs i)) start) (drop (i + 1) cs) (word / 2 ^ (i + 1))
unfolding folded_columns
folded_more start cs i word h =
    ap (λ xs. folded_columns start xs (word / 2 ^ i)) (rest_at cs i h)
    ∙ ap (folded_columns (cond (word / 2 ^ i % 2 == 1) (bit_xor start (slice_index cs i)) start) (drop (i + 1) cs)) (shr-shr word i 1)

pub folded_all : (start : ℕ) (cs : List ℕ) (i word : ℕ) → length cs ≤ i → folded_columns start (drop i cs) word ≡ start
unfolding folded_columns
folded_all start cs i word h = rw (drop_all i cs h) refl

pub named_more : (cs : List ℕ) (i s : ℕ) → i < length cs → named_bit (drop i cs) s ≡ cond (slice_index cs i == s) 1 (2 * named_bit (drop (i + 1) cs) s)
unfolding named_bit
named_more cs i s h = ap (λ xs. named_bit xs s) (rest_at cs i h)

pub named_all : (cs : List ℕ) (i s : ℕ) → length cs ≤ i → named_bit (drop i cs) s ≡ 0
unfolding named_bit
named_all cs i s h = rw (drop_all i cs h) refl
