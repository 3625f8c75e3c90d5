-- Cells in lent memory: one element set anew, its other bits and the other elements kept.
-- Assumes nothing.
use Rattle.std.proofs.Common.{◌≡◌, ℕ, ◌/◌, ◌%◌, ◌^◌, ◌<◌, List, map, get_or, set, mod-eq_of_lt, div-add-mod', arith}
use native.Mathlib.Nat.{div-eq_of_lt}
use lib.Bits.{bit_xor, bit_and, xor_zero_r, xor_block, and_mask}
use lib.Seq.{map-set, set-get_or}
use Rattle.std.proofs.lemmas.Nat.{xor_mod, xor_shr, mod_below}
use Rattle.stores.specs.Meaning.{content_limit}
use Rattle.stores.specs.Layers.{split_content}

-- an upset by a mask of few bits changes the low bits alone
pub xor_low : (bits x mask : ℕ) → mask < 2 ^ bits → bit_xor x mask % 2 ^ bits ≡ bit_xor (x % 2 ^ bits) mask
xor_low bits x mask h = rw (xor_mod x mask bits, mod-eq_of_lt h)

pub xor_high : (bits x mask : ℕ) → mask < 2 ^ bits → bit_xor x mask / 2 ^ bits ≡ x / 2 ^ bits
xor_high bits x mask h = rw (xor_shr x mask bits, div-eq_of_lt h, xor_zero_r)

-- an element that keeps its unused bits
pub unused_kept : (unused : ℕ → ℕ) (xs : List ℕ) (i w : ℕ) → unused w ≡ unused (get_or xs i 0) → map unused (set xs i w) ≡ map unused xs
unused_kept unused xs i w same = rw (map-set unused xs i w, same, ← map-set unused xs i (get_or xs i 0), set-get_or)

-- an upset of the content is an upset of both arrays
pub content_upset
    : (word checks mask : ℕ) → mask < content_limit
    → split_content (bit_xor word (bit_and mask 65535)) (bit_xor checks (mask / 65536)) ≡ bit_xor (split_content word checks) mask
content_upset word checks mask h =
    let low_below = mod_below mask 65536 (omega arith) in
    let low = xor_low 16 word (mask % 65536) low_below in
    let high = xor_low 6 checks (mask / 65536) (omega arith) in
    let joined = xor_block 16 (checks % 64) (mask / 65536) (word % 65536) (mask % 65536) (mod_below word 65536 (omega arith)) low_below in
    rw (and_mask mask 16, low, high, ← joined, div-add-mod' mask 65536)
