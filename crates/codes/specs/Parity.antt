-- Byte parity: a check bit for each byte of the word.
-- Assumes nothing.
use Rattle.std.specs.Prelude.{ℕ, ◌+◌, ◌*◌, ◌/◌, ◌%◌, ◌^◌, cond, ◌==◌, count_ones}
use Rattle.codes.specs.Cells.{judgement, Coding, by_syndrome, word_bits}
use Rattle.codes.specs.declared.verdict.Judgement.{Judgement}
use Rattle.codes.specs.declared.verdict.Verdict.TheVariants.{Sound, Bad}

-- the bit that makes the ones of n and itself odd
abbrev pub odd_parity : ℕ → ℕ
odd_parity n = (count_ones n + 1) % 2

-- check bit 0 is that of data bits 0 to 7, check bit 1 that of bits 8 to 15
abbrev pub parity_checks : ℕ → ℕ
parity_checks word = odd_parity (word / 2 ^ 8) * 2 + odd_parity (word % 2 ^ 8)

-- syndrome 0 is sound, any other bad
abbrev pub judged_by_parity : ℕ → ℕ → Judgement
judged_by_parity stored s = cond (s == 0) (judgement Sound stored s) (judgement Bad stored s)

abbrev pub byte_parity : Coding
byte_parity = by_syndrome word_bits 2 0 1 parity_checks judged_by_parity
