-- The law of byte parity.
-- Assumes nothing.
use Rattle.std.specs.Prelude.{◌≡◌, ℕ, ◌+◌, ◌/◌, ◌%◌, ◌^◌, ◌<◌, true, ◌≢◌, bit_xor, count_ones, refl}
use Rattle.std.proofs.Common.{sym, ap, ◌∙◌, inl, inr, mod-lt, arith, lit<, lit≤}
use Rattle.std.specs.Int.Bits.{xor_self, xor_zero_r}
use Rattle.std.proofs.lemmas.Nat.{xor_mod, xor_shr, zero_from_ones}
use Rattle.std.proofs.lemmas.Bool.{cases_eq}
use Rattle.codes.specs.Cells.{word_bits, most_checks}
use Rattle.codes.specs.Law.{Lawful}
use Rattle.codes.specs.Parity.{parity_checks, judged_by_parity, byte_parity}
use Rattle.codes.specs.Ones.{xor_cancel, xor_apart, ones_zero, ones_xor}
use Rattle.codes.specs.Fields.{ones_parts}
use Rattle.codes.specs.Syndromes.{Changes, lawful_by_syndrome}
use Rattle.codes.specs.Verdicts.{judges_by_tests, lost_bad}

-- checks fit two bits, whatever the word
checks_below : (word : ℕ) → word < 2 ^ 16 → parity_checks word < 2 ^ 2
checks_below word h = omega arith

-- the ones of each byte of a changed word, odd or even
low_byte : (w d : ℕ) → count_ones (bit_xor w d % 2 ^ 8) % 2 ≡ (count_ones (w % 2 ^ 8) + count_ones (d % 2 ^ 8)) % 2
low_byte w d =
    ap (λ (x : ℕ). count_ones x % 2) (xor_mod w d 8) ∙ ones_xor 8 (w % 2 ^ 8) (d % 2 ^ 8) (mod-lt w (lit< tt)) (mod-lt d (lit< tt))

high_byte : (w d : ℕ) → w < 2 ^ 16 → d < 2 ^ 16 → count_ones (bit_xor w d / 2 ^ 8) % 2 ≡ (count_ones (w / 2 ^ 8) + count_ones (d / 2 ^ 8)) % 2
high_byte w d hw hd =
    ap (λ (x : ℕ). count_ones x % 2) (xor_shr w d 8) ∙ ones_xor 8 (w / 2 ^ 8) (d / 2 ^ 8) (omega arith) (omega arith)

-- equal parity bits come of equally odd numbers
parity_tells : (m n : ℕ) → (m + 1) % 2 ≡ (n + 1) % 2 → m % 2 ≡ n % 2
parity_tells m n e = omega arith

-- with one data bit changed, one byte's parity bit differs
data_shown : (w d : ℕ) → w < 2 ^ 16 → d < 2 ^ 16 → count_ones d ≡ 1 → parity_checks (bit_xor w d) ≢ parity_checks w
data_shown w d hw hd one same =
    let high = parity_tells (count_ones (bit_xor w d / 2 ^ 8)) (count_ones (w / 2 ^ 8)) (omega arith) in
    let low = parity_tells (count_ones (bit_xor w d % 2 ^ 8)) (count_ones (w % 2 ^ 8)) (omega arith) in
    let low_is = low_byte w d in
    let high_is = high_byte w d hw hd in
    let parts = ones_parts 8 d in
    elim (cases_eq (count_ones (d % 2 ^ 8)) 0) [ inl n ↦ omega arith | inr n ↦ omega arith ]

-- one changed place leaves a syndrome
one_shown
    : (w d e : ℕ) → w < 2 ^ 16 → d < 2 ^ 16 → e < 2 ^ 2 → count_ones e + count_ones d ≡ 1
    → bit_xor (parity_checks (bit_xor w d)) (bit_xor (parity_checks w) e) ≢ 0
one_shown w d e hw hd he one q =
    let same = xor_apart (parity_checks (bit_xor w d)) (bit_xor (parity_checks w) e) q in
    elim (cases_eq (count_ones e) 0) [
      | inl z ↦
          let e0 : e ≡ 0 = zero_from_ones e z in
          data_shown w d hw hd (omega arith) (same ∙ ap (bit_xor (parity_checks w)) e0 ∙ xor_zero_r (parity_checks w))
      | inr z ↦
          let d0 : d ≡ 0 = zero_from_ones d (omega arith) in
          let back : bit_xor (parity_checks w) e ≡ parity_checks w = sym same ∙ ap parity_checks (ap (bit_xor w) d0 ∙ xor_zero_r w) in
          let e0 : e ≡ 0 = sym (xor_cancel (parity_checks w) e) ∙ ap (bit_xor (parity_checks w)) back ∙ xor_self (parity_checks w) in
          let none = ones_zero e e0 in
          omega arith
    ]

changes : Changes word_bits 2 parity_checks judged_by_parity checks_below most_checks 0 1
changes = record {
  narrow = lit≤ tt;
  ordered = lit≤ tt;
  alert = lit≤ tt;
  mended = λ word d e h hd he some few. absurd (omega arith);
  found = λ word d e h hd he some few.
      lost_bad (λ _. true) (λ stored _. stored) (bit_xor word d) (bit_xor (parity_checks (bit_xor word d)) (bit_xor (parity_checks word) e))
      (one_shown word d e h hd he (omega arith)) refl;
}

pub parity_lawful : Lawful word_bits most_checks byte_parity
parity_lawful =
    lawful_by_syndrome word_bits 2 most_checks 0 1 parity_checks judged_by_parity checks_below
    (judges_by_tests (λ _. true) (λ stored _. stored) word_bits (λ stored s h. h)) changes
