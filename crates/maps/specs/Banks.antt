-- Bank maps: which counts and pairs make a map, and which cell below a cell stands for.
-- Assumes nothing.
use Rattle.std.specs.Prelude.{ℕ, ◌+◌, ◌-◌, Bool, true, cond, ◌&&◌, List, [], ◌∷◌, filter, length, Some, None, Option, nat_le, nat_lt}
use Rattle.maps.specs.declared.bank.Bank.{Bank}
use Rattle.stores.specs.Meaning.{most_cells}

-- a map has at most this many banks
abbrev pub most_banks : ℕ
most_banks = 8

-- the banks that stand in a row of places: those that have cells
abbrev pub banks_in : List Bank → List Bank
banks_in places = filter (λ bank. nat_lt 0 bank.length) places

-- the number after the bank's last cell
abbrev pub end_of : Bank → ℕ
end_of bank = bank.offset + bank.length

-- the bank begins at or after `from`, is not empty, and ends within the count
abbrev pub follows : ℕ → ℕ → Bank → Bool
follows count from bank = nat_le from bank.offset && (nat_lt 0 bank.length && nat_le (end_of bank) count)

-- each bank follows the one before it
abbrev pub in_order : ℕ → ℕ → List Bank → Bool
in_order count from [] = true
in_order count from (bank ∷ banks) = follows count from bank && in_order count (end_of bank) banks

-- a count and banks that make a map
abbrev pub is_map : ℕ → List Bank → Bool
is_map count banks = nat_le count most_cells && (nat_le (length banks) most_banks && in_order count 0 banks)

-- the cell lies in the bank
abbrev pub inside : Bank → ℕ → Bool
inside bank cell = nat_le bank.offset cell && nat_lt cell (end_of bank)

-- the cell below: the lengths of earlier banks, here `before`, and the distance from the offset; none where no bank holds the cell
abbrev pub cell_below : List Bank → ℕ → ℕ → Option ℕ
cell_below [] before cell = None
cell_below (bank ∷ banks) before cell =
    cond (inside bank cell) (Some (before + (cell - bank.offset))) (cell_below banks (before + bank.length) cell)
