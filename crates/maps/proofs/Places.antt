-- Places for banks: what an empty bank in one of them does not change, and how long each may be.
-- Assumes nothing.
use Rattle.std.proofs.Common.{◌≡◌, ℕ, None, zero, suc, ◌+◌, ◌<◌, ◌≤◌, true, List, [], ◌∷◌, ◌++◌, length, get_or, take, drop, replicate, refl, sym, ap, ◌∙◌, ◌-◌, arith}
use Rattle.std.proofs.Math.Seq.{take-append_seam}
use Rattle.std.proofs.lemmas.List.{drop-replicate, drop_more}
use Rattle.maps.specs.declared.bank.Bank.{Bank}
use Rattle.stores.specs.Meaning.{most_cells}
use Rattle.maps.specs.Banks.{banks_in, end_of, in_order, is_map, cell_below}

abbrev pub no_bank : Bank
no_bank = record { offset = 0; length = 0 }

-- an empty bank holds no cell
pub cell_below_places : (places : List Bank) (before cell : ℕ) → cell_below places before cell ≡ cell_below (banks_in places) before cell
cell_below_places [] before cell = grind arith
cell_below_places (b ∷ bs) before cell = grind (arith, cell_below_places bs (before + b.length) cell)

none_in : (n : ℕ) → banks_in (replicate n no_bank) ≡ []
none_in zero = refl
none_in (suc n) = none_in n

-- banks in order have cells
pub banks_padded : (count from n : ℕ) (banks : List Bank) → in_order count from banks ≡ true → banks_in (banks ++ drop n (replicate 8 no_bank)) ≡ banks
banks_padded count from n [] e = ap banks_in (drop-replicate n 8 no_bank) ∙ none_in (8 - n)
banks_padded count from n (b ∷ bs) e = grind (arith, banks_padded count (end_of b) n bs)

-- so the first places, as many as there are banks, are the banks
pub taken_padded : (count from n : ℕ) (banks : List Bank) → in_order count from banks ≡ true → take (length banks) (banks ++ drop n (replicate 8 no_bank)) ≡ banks_in (banks ++ drop n (replicate 8 no_bank))
taken_padded count from n banks e = take-append_seam banks (drop n (replicate 8 no_bank)) ∙ sym (banks_padded count from n banks e)

-- banks in order from a number are so from 0
pub from_zero : (count from : ℕ) (banks : List Bank) → in_order count from banks ≡ true → in_order count 0 banks ≡ true
from_zero count from [] e = refl
from_zero count from (b ∷ bs) e = grind arith

order_rest : (count from : ℕ) (b : Bank) (bs : List Bank) → in_order count from (b ∷ bs) ≡ true → in_order count 0 bs ≡ true
order_rest count from b bs e = from_zero count (end_of b) bs (grind arith)

pub order_behind : (count i : ℕ) (banks : List Bank) → i < length banks → in_order count 0 (drop i banks) ≡ true → in_order count 0 (drop (i + 1) banks) ≡ true
order_behind count i banks h e = order_rest count 0 (get_or banks i no_bank) (drop (i + 1) banks) (rw (drop_more banks i no_bank h) at e)

short_first : (count from : ℕ) (b : Bank) (bs : List Bank) → in_order count from (b ∷ bs) ≡ true → b.length ≤ count
short_first count from b bs e = grind arith

pub short_at : (count i : ℕ) (banks : List Bank) → i < length banks → in_order count 0 (drop i banks) ≡ true → (get_or banks i no_bank).length ≤ count
short_at count i banks h e = short_first count 0 (get_or banks i no_bank) (drop (i + 1) banks) (rw (drop_more banks i no_bank h) at e)

-- banks in order hold no cell before the first of them
pub none_earlier : (count from before cell : ℕ) (banks : List Bank) → in_order count from banks ≡ true → cell < from → cell_below banks before cell ≡ None
none_earlier count from before cell [] e h = refl
none_earlier count from before cell (b ∷ bs) e h = grind (arith, none_earlier count (end_of b) (before + b.length) cell bs)

places_short : (count from : ℕ) (places : List Bank) → in_order count from (banks_in places) ≡ true → (k : ℕ) → k < length places → (get_or places k no_bank).length ≤ count
places_short count from [] e k h = omega arith
places_short count from (b ∷ bs) e zero h = grind arith
places_short count from (b ∷ bs) e (suc k) h = grind (arith, places_short count from bs, places_short count (end_of b) bs)

-- no bank of a map is longer than a store can be
pub map_short : (count : ℕ) (places : List Bank) → is_map count (banks_in places) ≡ true → (k : ℕ) → k < length places → (get_or places k no_bank).length ≤ most_cells
map_short count places e k h = grind (arith, places_short count 0 places)
