-- What is read of the control word after it is written. Assumes nothing.
use Rattle.std.proofs.Common.{◌≡◌, ℕ, ◌*◌, ◌/◌, ◌%◌, ◌^◌, ◌<◌, Bool, true, false, ◌∙◌, ap₂, arith}
use lib.Bits.{bit_and, bit_or, and_mask, and_shr, or_shr, and_mod, or_mod, and_zero_r, or_zero_l, or_zero_r}
use Rattle.std.proofs.lemmas.Nat.Bits.{bit_at_and, and_pow}
use Rattle.std.specs.Int.{bit_at}
use Rattle.rules.specs.declared.control.Control.{Control}
use Rattle.rules.specs.declared.registers.Registers.{Registers}
use Rattle.rules.specs.Control.{kept_bits, high_address, diagnostic, on}
use Rattle.rules.specs.Registers.{field, control_written, with_control, ReadsAsWritten}

-- a mask keeps the bits that it has
pub kept_bit : (n mask k : ℕ) → bit_at mask k ≡ 1 → on (bit_and n mask) (2 ^ k) ≡ on n (2 ^ k)
kept_bit n mask k e =
    let digit : bit_at (bit_and n mask) k ≡ bit_at n k = omega (arith, bit_at_and n mask k) in
    rw (and_pow (bit_and n mask) k, and_pow n k, digit)

field_small : (h d : Bool) (r : Registers) → field h d r < 128
field_small false false r = omega arith
field_small true false r = omega arith
field_small false true r = omega arith
field_small true true r = omega arith

-- a field in bits 5 to 11 over the kept bits of a word, cut at bit k
module _ (f word : ℕ) (small : f < 128) where
  pub low : bit_or (f * 32) (bit_and word kept_bits) % 2 ^ 5 ≡ word % 2 ^ 5
  low = grind (arith, or_mod (f * 32) (bit_and word kept_bits) 5, and_mod word kept_bits 5, and_mask (word % 32) 5, or_zero_l (word % 32))

  pub middle : bit_or (f * 32) (bit_and word kept_bits) / 2 ^ 5 % 2 ^ 7 ≡ f
  middle =
      grind (arith, or_shr (f * 32) (bit_and word kept_bits) 5, or_mod f (bit_and word kept_bits / 32) 7, and_shr word kept_bits 5, and_mod (word / 32) 1792 7, and_zero_r (word / 32 % 128), or_zero_r f)

  pub bit_12 : bit_or (f * 32) (bit_and word kept_bits) / 2 ^ 12 % 2 ≡ 0
  bit_12 =
      grind (arith, or_shr (f * 32) (bit_and word kept_bits) 12, and_shr word kept_bits 12, or_zero_l (bit_and (word / 4096) 14), and_mod (word / 4096) 14 1, and_zero_r (word / 4096 % 2))

  pub high : bit_or (f * 32) (bit_and word kept_bits) / 2 ^ 13 ≡ word / 2 ^ 13 % 2 ^ 3
  high =
      grind (arith, or_shr (f * 32) (bit_and word kept_bits) 13, and_shr word kept_bits 13, and_mask (word / 8192) 3, or_zero_l (word / 8192 % 8))

pub reads_as_written : (before : Registers) (c : Control) (word : ℕ) → ReadsAsWritten (with_control before (control_written c word)) word
reads_as_written before c word =
    let r = with_control before (control_written c word) in
    let bits = bit_and word kept_bits in
    let f = field (on bits high_address) (on bits diagnostic) r in
    let small = field_small (on bits high_address) (on bits diagnostic) r in
    record {
      low = low f word small;
      middle = middle f word small ∙ ap₂ (λ h d. field h d r) (kept_bit word kept_bits 14 (omega arith)) (kept_bit word kept_bits 2 (omega arith));
      bit_12 = bit_12 f word small;
      high = high f word small;
    }
