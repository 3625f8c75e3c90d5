-- The chains over the columns, by the definitions that they compute.
-- Assumes nothing.
use Rattle.std.specs.Prelude.{◌≡◌, ℕ, ◌+◌, ◌*◌, ◌/◌, ◌%◌, ◌^◌, Bool, true, false, ◌&&◌, cond, Some, None, Option, MatchOption, List, [], ◌∷◌, ◌==◌, bit_and, bit_xor, position, length, drop, refl}
use Rattle.std.proofs.Common.{sym, ap, ap₂, ◌∙◌, mul-zero, mul-one, pow-suc, add-one, mul_assoc, arith}
use Rattle.std.specs.List.{position_from, enumerate_from, fold, list_all}
use Rattle.std.proofs.lemmas.Nat.{shr-shr, and_mask, one_shl}
use Rattle.std.proofs.lemmas.Iterator.Adapters.{position_from-zero}
use Rattle.std.proofs.lemmas.List.Quantifiers.{position-Some}
use Rattle.std.proofs.lemmas.List.{drop-drop}
use Rattle.codes.specs.Columns.{folded_columns, named_bit}
use Rattle.codes.specs.Tables.{first_test, columns_test}

-- the mask of the place that was found, 0 where none was
abbrev pub mask_of : Option ℕ → ℕ
mask_of (Some i) = 2 ^ i
mask_of None = 0

pub named_from : (s i : ℕ) (cs : List ℕ) → mask_of (position_from (λ c. c == s) i cs) ≡ 2 ^ i * named_bit cs s
unfolding named_bit
named_from s i [] = sym (mul-zero (2 ^ i))
named_from s i (c ∷ cs) =
    go (c == s) (named_from s (i + 1) cs ∙ ap (λ (x : ℕ). x * named_bit cs s) (ap (λ (x : ℕ). 2 ^ x) (add-one i) ∙ pow-suc 2 i) ∙ mul_assoc (2 ^ i) 2 (named_bit cs s))
  where
    go
        : (b : Bool) → mask_of (position_from (λ x. x == s) (i + 1) cs) ≡ 2 ^ i * (2 * named_bit cs s)
        → mask_of (cond b (Some i) (position_from (λ x. x == s) (i + 1) cs)) ≡ 2 ^ i * cond b 1 (2 * named_bit cs s)
    go true rest = sym (mul-one (2 ^ i))
    go false rest = rest

-- the column of a set bit of the word joins the checks, that of another does not
abbrev pub joined : ℕ → ℕ → ℕ × ℕ → ℕ
joined word a p = cond (bit_and (word / 2 ^ p.0) 1 == 1) (bit_xor a p.1) a

folded_from : (start word i : ℕ) (cs : List ℕ) → fold (joined word) start (enumerate_from i cs) ≡ folded_columns start cs (word / 2 ^ i)
unfolding folded_columns
folded_from start word i [] = refl
folded_from start word i (c ∷ cs) =
    let next : ℕ = cond (word / 2 ^ i % 2 == 1) (bit_xor start c) start in
    let step : joined word start (i, c) ≡ next = ap (λ (b : ℕ). cond (b == 1) (bit_xor start c) start) (and_mask (word / 2 ^ i) 1) in
    ap (λ (a : ℕ). fold (joined word) a (enumerate_from (i + 1) cs)) step ∙ folded_from next word (i + 1) cs
    ∙ ap (folded_columns next cs) (sym (shr-shr word i 1))

pub folded_is : (start word : ℕ) (cs : List ℕ) → fold (joined word) start (enumerate_from 0 cs) ≡ folded_columns start cs word
folded_is start word cs =
    let whole : word / 2 ^ 0 ≡ word = omega arith in
    folded_from start word 0 cs ∙ ap (folded_columns start cs) whole

named_is : (s : ℕ) (cs : List ℕ) → mask_of (position (λ c. c == s) cs) ≡ named_bit cs s
named_is s cs =
    let once : 2 ^ 0 * named_bit cs s ≡ named_bit cs s = omega arith in
    ap mask_of (position_from-zero (λ c. c == s) cs) ∙ named_from s 0 cs ∙ once

-- the place found as a mask of 16 bits, or 0
pub found_mask
    : (s : ℕ) (cs : List ℕ) (place : Option ℕ) (mask : ℕ) → length cs ≡ 16 → place ≡ position (λ c. c == s) cs
    → MatchOption place (mask ≡ 0) (λ i. mask ≡ 1 * 2 ^ i % 2 ^ 16) → mask ≡ named_bit cs s
found_mask s cs None mask long at shifted = shifted ∙ ap mask_of at ∙ named_is s cs
found_mask s cs (Some i) mask long at shifted =
    let inside = (position-Some (λ c. c == s) cs i 0 (sym at)).0 in
    shifted ∙ one_shl i 16 (omega arith) ∙ ap mask_of at ∙ named_is s cs

-- a numbered column, with those behind it
abbrev pub place_test : List ℕ → ℕ × ℕ → Bool
place_test cs p = first_test p.1 (drop (p.0 + 1) cs)

fits_from : (cs rest : List ℕ) (i : ℕ) → rest ≡ drop i cs → list_all (place_test cs) (enumerate_from i rest) ≡ columns_test rest
fits_from cs [] i e = refl
fits_from cs (c ∷ rest) i e =
    let behind : rest ≡ drop (i + 1) cs = ap (drop 1) e ∙ drop-drop 1 i cs in
    ap₂ (λ xs b. first_test c xs && b) (sym behind) (fits_from cs rest (i + 1) behind)

pub fits_is : (cs : List ℕ) → list_all (place_test cs) (enumerate_from 0 cs) ≡ columns_test cs
fits_is cs = fits_from cs cs 0 refl
