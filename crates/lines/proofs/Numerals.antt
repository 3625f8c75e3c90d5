-- Laws of the number that digits write. Assumes nothing.
use Rattle.std.proofs.Common.{◌≡◌, ℕ, suc, ◌+◌, ◌-◌, ◌*◌, ◌^◌, ◌<◌, ◌≤◌, Bool, true, false, cond, List, [], ◌∷◌, length, get_or, drop, Some, None, refl, ◌∙◌, subst, mul_assoc, add-mul, mul-le-mul_left, arith}
use native.Mathlib.Nat.{pow-succ', one-le-pow}
use Rattle.std.proofs.lemmas.List.{drop_more}
use Rattle.std.proofs.lemmas.Bool.{lt-leb}
use Rattle.std.proofs.lemmas.Bool.Decides.{nat_tests}
use Rattle.lines.specs.Numbers.{digit, digits, value, numeral, at_most}

-- the front of ds gave sum, which is in bounds, and rest is left
pub record Summed (base most sum : ℕ) (rest ds : List ℕ) : Type 0 where
  pub within : sum ≤ most
  pub checked : digits base ds ≡ digits base rest
  pub valued : value base ds ≡ sum * base ^ length rest + value base rest

refused_large : (base most : ℕ) (ds : List ℕ) → most < value base ds → None ≡ at_most most (numeral base ds)
refused_large base most [] h = refl
refused_large base most (b ∷ bs) h = by (digits base (b ∷ bs))
  where
    by : (t : Bool) → None ≡ at_most most (cond t (Some (value base (b ∷ bs))) None)
    by true = rw (lt-leb _ most h)
    by false = refl

-- the value of what is read and what is left, before and after a digit d
carried : (base sum d n v : ℕ) → sum * base ^ suc n + (d * base ^ n + v) ≡ (sum * base + d) * base ^ n + v
carried base sum d n v = rw pow-succ' (omega (arith, add-mul (sum * base) d (base ^ n), mul_assoc sum base (base ^ n)))

digit_base : (base b : ℕ) → digit base b ≡ true → 0 < base
digit_base base b e = grind (arith, nat_tests)

module _ {base most sum : ℕ} {ds : List ℕ} {i : ℕ} (h : i < length ds) (front : Summed base most sum (drop i ds) ds) where
  opened : Summed base most sum (get_or ds i 0 ∷ drop (i + 1) ds) ds
  opened = subst (λ l. Summed base most sum l ds) (drop_more ds i 0 h) front

  grown : value base ds ≡ (sum * base + (get_or ds i 0 - 48)) * base ^ length (drop (i + 1) ds) + value base (drop (i + 1) ds)
  grown = opened.valued ∙ carried base sum (get_or ds i 0 - 48) (length (drop (i + 1) ds)) (value base (drop (i + 1) ds))

  pub too_large : digit base (get_or ds i 0) ≡ true → most < sum * base + (get_or ds i 0 - 48) → None ≡ at_most most (numeral base ds)
  too_large e large =
      let weight : 1 ≤ base ^ length (drop (i + 1) ds) = one-le-pow _ _ (digit_base base (get_or ds i 0) e) in
      refused_large base most ds (omega (arith, grown, mul-le-mul_left (sum * base + (get_or ds i 0 - 48)) weight))

  pub one_more : digit base (get_or ds i 0) ≡ true → sum * base + (get_or ds i 0 - 48) ≤ most → Summed base most (sum * base + (get_or ds i 0 - 48)) (drop (i + 1) ds) ds
  one_more e le = record { within = le; checked = opened.checked ∙ rw e; valued = grown }
