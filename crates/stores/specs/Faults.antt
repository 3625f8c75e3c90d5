-- Faults by their numbers.
-- Assumes nothing.
use Rattle.std.specs.Prelude.{ℕ}
use Rattle.stores.specs.declared.fault.Cause.{Cause}
use Rattle.stores.specs.declared.fault.Cause.TheVariants.{PastCount, TooWide, NotFitted}
use Rattle.stores.specs.declared.fault.Fault.{Fault}

-- 1: at or past the count; 2: the content is too wide; 3: not fitted
abbrev pub cause_number : Cause → ℕ
cause_number PastCount = 1
cause_number TooWide = 2
cause_number NotFitted = 3

-- the fault of that cause, raised by the layer of that number, of that cell of it
abbrev pub fault : Cause → ℕ → ℕ → Fault
fault cause layer cell = record { cause = cause; layer = layer; cell = cell }
