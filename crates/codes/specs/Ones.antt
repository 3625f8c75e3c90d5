-- Exclusive or, and the number of ones.
-- Assumes nothing.
use Rattle.std.specs.Prelude.{◌≡◌, ℕ, zero, suc, ◌+◌, ◌/◌, ◌%◌, ◌^◌, ◌<◌, ◌⊎◌, bit_xor, refl}
use Rattle.std.proofs.Common.{sym, ap, ap₂, ◌∙◌, inl, inr, pow-suc, arith}
use Rattle.std.specs.Int.Bits.{xor_assoc, xor_self, xor_zero_r, xor_zero_l}
use Rattle.std.proofs.lemmas.Nat.{xor_comm, xor_mod, xor_shr}
use Rattle.std.specs.Int.Count.{ones, ones_step}

pub bit_cases : (n : ℕ) → (n % 2 ≡ 0) ⊎ (n % 2 ≡ 1)
bit_cases n = grind arith

pub xor_swap : (a b c d : ℕ) → bit_xor (bit_xor a b) (bit_xor c d) ≡ bit_xor (bit_xor a c) (bit_xor b d)
xor_swap a b c d =
    xor_assoc a b (bit_xor c d)
    ∙ ap (bit_xor a) (sym (xor_assoc b c d) ∙ ap (λ (x : ℕ). bit_xor x d) (xor_comm b c) ∙ xor_assoc c b d)
    ∙ sym (xor_assoc a c (bit_xor b d))

pub xor_cancel : (a b : ℕ) → bit_xor a (bit_xor a b) ≡ b
xor_cancel a b = sym (xor_assoc a a b) ∙ ap (λ (x : ℕ). bit_xor x b) (xor_self a) ∙ xor_zero_l b

-- two numbers whose exclusive or is 0 are equal
pub xor_apart : (a b : ℕ) → bit_xor a b ≡ 0 → a ≡ b
xor_apart a b e = sym (xor_zero_r a) ∙ ap (bit_xor a) (sym e) ∙ xor_cancel a b

pub ones_zero : (n : ℕ) → n ≡ 0 → ones n ≡ 0
unfolding ones
ones_zero n e = ap ones e

-- the lowest bit of an exclusive or, by those of its two parts
low_bit : (a b x y z : ℕ) → a % 2 ≡ x → b % 2 ≡ y → bit_xor x y ≡ z → bit_xor a b % 2 ≡ z
low_bit a b x y z ea eb ez = xor_mod a b 1 ∙ ap₂ bit_xor ea eb ∙ ez

-- the ones of an exclusive or are as even as those of its two parts together
pub ones_xor : (k a b : ℕ) → a < 2 ^ k → b < 2 ^ k → ones (bit_xor a b) % 2 ≡ (ones a + ones b) % 2
unfolding ones
ones_xor zero a b ha hb =
    let ea : a ≡ 0 = omega arith in
    let eb : b ≡ 0 = omega arith in
    rw (ea, eb) refl
ones_xor (suc k) a b ha hb =
    let double = pow-suc 2 k in
    let rest = ones_xor k (a / 2) (b / 2) (omega arith) (omega arith) in
    let step = ones_step (bit_xor a b) in
    let halves : ones (bit_xor a b / 2) ≡ ones (bit_xor (a / 2) (b / 2)) = ap ones (xor_shr a b 1) in
    let step_a = ones_step a in
    let step_b = ones_step b in
    elim (bit_cases a) [
      | inl ea ↦ elim (bit_cases b) [
        | inl eb ↦ let low = low_bit a b 0 0 0 ea eb refl in omega arith
        | inr eb ↦ let low = low_bit a b 0 1 1 ea eb refl in omega arith
      ]
      | inr ea ↦ elim (bit_cases b) [
        | inl eb ↦ let low = low_bit a b 1 0 1 ea eb refl in omega arith
        | inr eb ↦ let low = low_bit a b 1 1 0 ea eb refl in omega arith
      ]
    ]
