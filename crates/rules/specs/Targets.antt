-- Placements as values, and what a bus address names to one.
-- Assumes nothing.
use Rattle.std.specs.Prelude.{ℕ, ◌+◌, ◌-◌, ◌*◌, ◌/◌, ◌%◌, ◌^◌, Bool, cond, ◌&&◌, Ok, Err, Result, ◌==◌, nat_le, nat_lt}
use Rattle.rules.specs.declared.placement.Placement.{Placement}
use Rattle.rules.specs.declared.placement.make.Misplaced.{Misplaced}
use Rattle.rules.specs.declared.placement.make.Misplaced.TheVariants as misplaced
use Rattle.rules.specs.declared.placement.make.Target.{Target}
use Rattle.rules.specs.declared.placement.make.Target.TheVariants.{Word, ControlWord}
use Rattle.rules.specs.declared.refusal.Refusal.{Refusal}
use Rattle.rules.specs.declared.refusal.Refusal.TheVariants.{PastBus, NotOwned}
use Rattle.rules.specs.Placements.{capacity_granted, start_granted, control_granted}

-- A placement by its three numbers: the capacity in words, the starting word and the control number.
pub record Placed : Type 0 where
  pub capacity : ℕ
  pub start : ℕ
  pub control : ℕ

abbrev pub placed : Placement → Placed
placed p = record { capacity = p.capacity; start = p.start; control = p.control }

-- 1: the capacity; 2: the start; 3: the control number
abbrev pub misplaced_number : Misplaced → ℕ
misplaced_number misplaced.Capacity = 1
misplaced_number misplaced.Start = 2
misplaced_number misplaced.Control = 3

-- a placement by its numbers, or the refusal by its number
abbrev pub made_placement : Result Placement Misplaced → Result Placed ℕ
made_placement (Ok p) = Ok (placed p)
made_placement (Err e) = Err (misplaced_number e)

-- the placement of these three numbers, or the first refusal that fits
abbrev pub new_placement : (capacity start control : ℕ) → Result Placed ℕ
new_placement capacity start control =
    cond (capacity_granted capacity)
    (cond (start_granted capacity start)
    (cond (control_granted control) (Ok (record { capacity = capacity; start = start; control = control })) (Err 3))
    (Err 2))
    (Err 1)

-- the bytes of the bus; a word of the bus is two of them, whichever of the two is addressed
abbrev pub bus_bytes : ℕ
bus_bytes = 4194304

-- the control word of number 0, octal address 17772100, as a word of the bus
abbrev pub first_control : ℕ
first_control = 2095648

-- a word of the bus is one of the module's
abbrev pub owns : Placed → ℕ → Bool
owns p word = nat_le p.start word && nat_lt word (p.start + p.capacity)

-- the byte address of a word of the module, and its block: address bits 11 to 21
abbrev pub address_of : Placed → ℕ → ℕ
address_of p word = 2 * (p.start + word)

abbrev pub block_of : Placed → ℕ → ℕ
block_of p word = address_of p word / 2 ^ 11 % 2 ^ 11

-- the number of a word is counted from the module's first
abbrev pub target_of : Placed → ℕ → Result Target Refusal
target_of p address =
    cond (nat_lt address bus_bytes)
    (cond (owns p (address / 2)) (Ok (Word (address / 2 - p.start)))
    (cond (address / 2 == first_control + p.control) (Ok ControlWord)
    (Err NotOwned)))
    (Err PastBus)
