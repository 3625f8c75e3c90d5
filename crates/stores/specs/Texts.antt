-- Faults as text. Assumes nothing.
use Rattle.std.specs.Prelude.{ℕ, List, ◌++◌, codes, decimal}
use Rattle.stores.specs.declared.fault.Fault.{Fault}
use Rattle.stores.specs.Faults.{cause_number}

-- the numbers of a fault: why a store refused, which layer said so, and of which of its cells
abbrev pub numbers_text : Fault → List ℕ
numbers_text f = decimal (cause_number f.cause) ++ (codes " layer " ++ (decimal f.layer ++ (codes " cell " ++ decimal f.cell)))

abbrev pub fault_text : Fault → List ℕ
fault_text f = codes "cause " ++ numbers_text f
