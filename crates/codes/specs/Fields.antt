-- The two fields of a cell: how they are cut out, put together and changed, for any numbers of data and check bits.
-- Assumes nothing.
use Rattle.std.specs.Prelude.{◌≡◌, ℕ, ◌+◌, ◌-◌, ◌*◌, ◌/◌, ◌%◌, ◌^◌, ◌<◌, ◌≤◌, bit_and, bit_or, bit_xor, count_ones}
use Rattle.std.proofs.Common.{sym, ap, ◌∙◌, subst, mod-lt, mod-eq_of_lt, div-add-mod', add_comm, pow_pos}
use Rattle.std.proofs.lemmas.Nat.{shr_high, mod_low, shr_below, mod-pow-add, shl_whole, one_shl, xor_mod, xor_shr, xor_lt, or_shifted, and_mask, ones_cat}
use Rattle.codes.specs.Cells.{data_of, checks_of, places_of, cell_of}

-- `(hi << k) | lo` at a type of w bits
pub packed : (hi j lo k w : ℕ) → hi < 2 ^ j → lo < 2 ^ k → j + k ≤ w → bit_or (hi * 2 ^ k % 2 ^ w) lo ≡ hi * 2 ^ k + lo
packed hi j lo k w h l room = ap (λ (x : ℕ). bit_or x lo) (shl_whole hi j k w h room) ∙ or_shifted hi k lo l

-- `n & ((1 << k) - 1)` at a type of w bits
pub masked : (n k w : ℕ) → k < w → bit_and n (1 * 2 ^ k % 2 ^ w - 1) ≡ n % 2 ^ k
masked n k w h = ap (λ (x : ℕ). bit_and n (x - 1)) (one_shl k w h) ∙ and_mask n k

module _ (b : ℕ) where
  pub data_below : (cell : ℕ) → data_of b cell < 2 ^ b
  data_below cell = mod-lt cell (pow_pos b)

  pub data_of_cell : (word checks : ℕ) → word < 2 ^ b → data_of b (cell_of b word checks) ≡ word
  data_of_cell word checks h = mod_low checks b word h

  pub checks_of_cell : (k word checks : ℕ) → word < 2 ^ b → checks < 2 ^ k → checks_of b k (cell_of b word checks) ≡ checks
  checks_of_cell k word checks h l = ap (λ (x : ℕ). x % 2 ^ k) (shr_high checks b word h) ∙ mod-eq_of_lt l

  -- the places of a cell are its data and its checks
  pub places_parts : (k cell : ℕ) → places_of b k cell ≡ cell_of b (data_of b cell) (checks_of b k cell)
  places_parts k cell = ap (λ (x : ℕ). cell % 2 ^ x) (add_comm b k) ∙ mod-pow-add cell k b

  pub data_of_places : (k cell : ℕ) → data_of b (places_of b k cell) ≡ data_of b cell
  data_of_places k cell = ap (data_of b) (places_parts k cell) ∙ data_of_cell (data_of b cell) (checks_of b k cell) (data_below cell)

  pub checks_of_places : (k cell : ℕ) → checks_of b k (places_of b k cell) ≡ checks_of b k cell
  checks_of_places k cell =
      ap (checks_of b k) (places_parts k cell)
      ∙ checks_of_cell k (data_of b cell) (checks_of b k cell) (data_below cell) (mod-lt (cell / 2 ^ b) (pow_pos k))

  -- the places that a mask strikes are those of its two fields
  pub ones_parts : (mask : ℕ) → count_ones mask ≡ count_ones (mask / 2 ^ b) + count_ones (mask % 2 ^ b)
  ones_parts mask = ap count_ones (sym (div-add-mod' mask (2 ^ b))) ∙ ones_cat b (mask / 2 ^ b) (mask % 2 ^ b) (mod-lt mask (pow_pos b))

  pub mask_checks_below : (k mask : ℕ) → mask < 2 ^ (b + k) → mask / 2 ^ b < 2 ^ k
  mask_checks_below k mask h = shr_below mask k b (subst (λ (x : ℕ). mask < 2 ^ x) (add_comm b k) h)

  pub changed_data : (word checks mask : ℕ) → word < 2 ^ b → data_of b (bit_xor (cell_of b word checks) mask) ≡ bit_xor word (mask % 2 ^ b)
  changed_data word checks mask h =
      xor_mod (cell_of b word checks) mask b ∙ ap (λ (x : ℕ). bit_xor x (mask % 2 ^ b)) (mod_low checks b word h)

  pub changed_checks
      : (k word checks mask : ℕ) → word < 2 ^ b → checks < 2 ^ k → mask < 2 ^ (b + k)
      → checks_of b k (bit_xor (cell_of b word checks) mask) ≡ bit_xor checks (mask / 2 ^ b)
  changed_checks k word checks mask h c l =
      ap (λ (x : ℕ). x % 2 ^ k)
      (xor_shr (cell_of b word checks) mask b ∙ ap (λ (x : ℕ). bit_xor x (mask / 2 ^ b)) (shr_high checks b word h))
      ∙ mod-eq_of_lt (xor_lt k checks (mask / 2 ^ b) c (mask_checks_below k mask l))
