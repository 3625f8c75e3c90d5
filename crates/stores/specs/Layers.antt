-- The meanings of the flat, the split and the pair store.
-- Assumes nothing.
use Rattle.std.specs.Prelude.{ℕ, ◌+◌, ◌*◌, ◌/◌, ◌%◌, ◌^◌, min, cond, List, length, Ok, Err, Result, ◌==◌, nat_lt, slice_index}
use Rattle.stores.specs.declared.fault.Cause.TheVariants.{PastCount}
use Rattle.stores.specs.declared.fault.Fault.{Fault}
use Rattle.stores.specs.Faults.{fault}
use Rattle.stores.specs.Meaning.{Meaning, most_cells, content_bits}

-- a count that would pass the greatest is the greatest
abbrev pub limited : ℕ → ℕ
limited n = min n most_cells

-- a layer of that number and count: its cells below the count, and past it the fault of cause 1
abbrev pub layered : (layer count : ℕ) → (ℕ → Result ℕ Fault) → Meaning
layered layer count cells =
    record { layer = layer; count = count; at = λ i. cond (nat_lt i count) (cells i) (Err (fault PastCount layer i)) }

-- Flat, layer 1: 32-bit numbers, the content in their low 22 bits
abbrev pub flat_count : List ℕ → ℕ
flat_count elements = limited (length elements)

abbrev pub flat : List ℕ → Meaning
flat elements = layered 1 (flat_count elements) (λ i. Ok (slice_index elements i % 2 ^ content_bits))

-- Split, layer 1: 16-bit data and 8-bit checks, of which the low 6 bits count; the lesser length is the count
abbrev pub split_count : List ℕ → List ℕ → ℕ
split_count words checks = limited (min (length words) (length checks))

-- the content of data and checks
abbrev pub split_content : ℕ → ℕ → ℕ
split_content word checks = checks % 2 ^ 6 * 2 ^ 16 + word % 2 ^ 16

abbrev pub split : List ℕ → List ℕ → Meaning
split words checks = layered 1 (split_count words checks) (λ i. Ok (split_content (slice_index words i) (slice_index checks i)))

-- Pair, layer 2: cell 2i is cell i of the first, 2i + 1 is cell i of the second; the count is twice the lesser
abbrev pub pair_count : Meaning → Meaning → ℕ
pair_count first second = limited (2 * min first.count second.count)

abbrev pub pair_cell : Meaning → Meaning → ℕ → Result ℕ Fault
pair_cell first second i = cond (i % 2 == 0) (first.at (i / 2)) (second.at (i / 2))

abbrev pub pair : Meaning → Meaning → Meaning
pair first second = layered 2 (pair_count first second) (pair_cell first second)
