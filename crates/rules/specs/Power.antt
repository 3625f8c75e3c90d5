-- Power-up: the fill, and the state of a module fresh from it.
-- Assumes nothing.
use Rattle.std.specs.Prelude.{ℕ, cond, Ok, Err, Result, nat_lt}
use Rattle.codes.specs.Cells.{Coding, word_bits, encoding}
use Rattle.stores.specs.Meaning.{Meaning}
use Rattle.stores.specs.declared.fault.Fault.{Fault}
use Rattle.rules.specs.Targets.{Placed}
use Rattle.rules.specs.Registers.{cleared}
use Rattle.rules.specs.Tallies.{no_tallies}
use Rattle.rules.specs.State.{State}

-- a fitted cell takes the content, another keeps its fault
abbrev pub refilled : ℕ → Result ℕ Fault → Result ℕ Fault
refilled content (Ok old) = Ok content
refilled content (Err f) = Err f

-- every fitted cell below n holds the content, and nothing else changes
abbrev pub filled : Meaning → (n content : ℕ) → Meaning
filled m n content =
    record { layer = m.layer; count = m.count; at = λ i. cond (nat_lt i n) (refilled content (m.at i)) (m.at i) }

-- The power-up fill: the encoding of 0 in every fitted cell below the capacity; registers, tallies and the sweep's place 0.
abbrev pub powered_up : Coding → Placed → Meaning → State
powered_up code p m =
    record { store = filled m p.capacity (encoding word_bits code 0); registers = cleared; tallies = no_tallies; place = 0 }
