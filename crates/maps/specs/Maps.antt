-- Bank maps as values, and what a map over a store means.
-- Assumes nothing.
use Rattle.std.specs.Prelude.{◌≡◌, ℕ, ◌<◌, cond, List, Some, None, Ok, Err, Option, Result}
use Rattle.std.proofs.Common.{arith}
use Rattle.maps.specs.declared.bank.Bank.{Bank}
use Rattle.maps.specs.declared.banks.BankMap.{BankMap}
use Rattle.maps.specs.declared.banks.make.NoMap.{NoMap}
use Rattle.stores.specs.declared.fault.Cause.TheVariants.{NotFitted}
use Rattle.stores.specs.declared.fault.Fault.{Fault}
use Rattle.stores.specs.Faults.{fault}
use Rattle.stores.specs.Meaning.{Meaning, Proper, content_limit}
use Rattle.stores.specs.Layers.{layered}
use Rattle.stores.specs.Proper.{layered_proper}
use Rattle.maps.specs.Banks.{is_map, banks_in, cell_below}

-- the count of a map, and its banks
abbrev pub count_of : BankMap → ℕ
count_of map = map.count

abbrev pub banks_of : BankMap → List Bank
banks_of map = banks_in map.banks

-- the number of the refusal of a count and banks that are no map
abbrev pub no_map_number : ℕ
no_map_number = 4

-- a map by its count and banks, or the refusal by its number
abbrev pub made_map : Result BankMap NoMap → Result (ℕ × List Bank) ℕ
made_map (Ok map) = Ok (count_of map, banks_of map)
made_map (Err no_map) = Err no_map_number

abbrev pub new_map : ℕ → List Bank → Result (ℕ × List Bank) ℕ
new_map count banks = cond (is_map count banks) (Ok (count, banks)) (Err no_map_number)

-- Map, layer 3: a cell in a bank is the cell below that it stands for; another is not fitted
abbrev pub mapped_cell : Meaning → ℕ → Option ℕ → Result ℕ Fault
mapped_cell below cell (Some j) = below.at j
mapped_cell below cell None = Err (fault NotFitted 3 cell)

abbrev pub mapped_by : ℕ → List Bank → Meaning → Meaning
mapped_by count banks below = layered 3 count (λ i. mapped_cell below i (cell_below banks 0 i))

abbrev pub mapped : BankMap → Meaning → Meaning
mapped map below = mapped_by (count_of map) (banks_of map) below

-- a map over a proper store is proper
mapped_narrow : (below : Meaning) → Proper below → (i v : ℕ) (j : Option ℕ) → mapped_cell below i j ≡ Ok v → v < content_limit
mapped_narrow below p i v (Some j) e = p.narrow j v e
mapped_narrow below p i v None e = absurd (cc e)

pub mapped_proper : (map : BankMap) (below : Meaning) → Proper below → Proper (mapped map below)
mapped_proper map below p =
    layered_proper 3 map.count (λ i. mapped_cell below i (cell_below (banks_of map) 0 i)) (grind (arith, map.lawful))
    (λ i v. mapped_narrow below p i v (cell_below (banks_of map) 0 i))
