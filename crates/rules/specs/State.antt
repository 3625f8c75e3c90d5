-- The state of a module: all that calls can change.
-- Assumes nothing.
use Rattle.std.specs.Prelude.{ℕ}
use Rattle.stores.specs.Meaning.{Meaning}
use Rattle.rules.specs.declared.control.Control.{Control}
use Rattle.rules.specs.declared.registers.Registers.{Registers}
use Rattle.rules.specs.declared.tally.Tallies.{Tallies}
use Rattle.rules.specs.Registers.{with_control}

-- what the store means, the registers, the tallies and the sweep's place
pub record State : Type 0 where
  pub store : Meaning
  pub registers : Registers
  pub tallies : Tallies
  pub place : ℕ

-- the bits of the control word
abbrev pub bits_of : State → ℕ
bits_of s = s.registers.control.bits

abbrev pub with_store : State → Meaning → State
with_store s m = record { store = m; registers = s.registers; tallies = s.tallies; place = s.place }

abbrev pub with_registers : State → Registers → State
with_registers s r = record { store = s.store; registers = r; tallies = s.tallies; place = s.place }

abbrev pub with_control_word : State → Control → State
with_control_word s c = with_registers s (with_control s.registers c)
