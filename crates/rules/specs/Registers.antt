-- The registers: the control word with its check latch, and the log of an error's block and syndrome.
-- Assumes nothing.
use Rattle.std.specs.Prelude.{◌≡◌, ℕ, ◌*◌, ◌/◌, ◌%◌, ◌^◌, Bool, true, false, cond, not, ◌&&◌, Some, None, Option, bit_and, bit_or}
use Rattle.codes.specs.declared.verdict.Verdict.{Verdict}
use Rattle.rules.specs.declared.control.Control.{Control}
use Rattle.rules.specs.declared.registers.Registers.{Registers}
use Rattle.rules.specs.Control.{diagnostic, high_address, kept_bits, on, treatment, logs, bits_after, latches}

abbrev pub control_of : (bits latch : ℕ) → Control
control_of bits latch = record { bits = bits; latch = latch }

-- the registers as the power-up leaves them
abbrev pub cleared : Registers
cleared = record { control = control_of 0 0; block = 0; syndrome = 0 }

-- the field that bits 5 to 11 show, by bits 14 and 2
abbrev pub field : (high diag : Bool) → Registers → ℕ
-- address bits 11 to 17 of the log
field false false r = r.block % 2 ^ 7
-- address bits 18 to 21 of the log
field true false r = r.block / 2 ^ 7 % 2 ^ 4
-- the check latch
field false true r = r.control.latch % 2 ^ 6
-- the logged syndrome
field true true r = r.syndrome % 2 ^ 6

-- the control word as it is read
abbrev pub shown : Registers → ℕ
shown r = bit_or (field (on r.control.bits high_address) (on r.control.bits diagnostic) r * 2 ^ 5) r.control.bits

-- the control word after it is written: with bit 2 set and bit 14 clear, bits 5 to 10 go to the check latch
abbrev pub control_written : Control → ℕ → Control
control_written c word =
    control_of (bit_and word kept_bits) (cond (on word diagnostic && not (on word high_address)) (word / 2 ^ 5 % 2 ^ 6) c.latch)

abbrev pub with_control : Registers → Control → Registers
with_control r c = record { control = c; block = r.block; syndrome = r.syndrome }

-- the log takes the block and the syndrome
abbrev pub logged : Bool → Registers → (block syndrome : ℕ) → Registers
logged true r block syndrome = record { control = r.control; block = block; syndrome = syndrome }
logged false r block syndrome = r

-- the registers after the examination of a cell
abbrev pub examined_registers : Registers → Bool → Verdict → (block syndrome : ℕ) → Registers
examined_registers r guard verdict block syndrome =
    with_control (logged (logs r.control.bits guard (treatment r.control.bits guard verdict)) r block syndrome)
    (control_of (bits_after r.control.bits guard verdict) r.control.latch)

-- the check latch takes the stored checks of a word that is read
abbrev pub latch_loaded : Control → Bool → ℕ → Control
latch_loaded c guard checks = control_of c.bits (cond (latches c.bits guard) checks c.latch)

-- the latch, where a word is written with its checks in the place of the word's own
abbrev pub checks_latched : Control → Bool → Option ℕ
checks_latched c guard = cond (latches c.bits guard) (Some c.latch) None

-- What is read of the control word right after a word was written to it: bits 0 to 4 and 13 to 15 as written, the field in bits 5 to 11
-- that the written bits 14 and 2 choose, and bit 12 as 0.
pub record ReadsAsWritten (r : Registers) (word : ℕ) : Type 0 where
  pub low : shown r % 2 ^ 5 ≡ word % 2 ^ 5
  pub middle : shown r / 2 ^ 5 % 2 ^ 7 ≡ field (on word high_address) (on word diagnostic) r
  pub bit_12 : shown r / 2 ^ 12 % 2 ≡ 0
  pub high : shown r / 2 ^ 13 ≡ word / 2 ^ 13 % 2 ^ 3
