-- Flat, split and pair stores are proper.
-- Assumes nothing.
use Rattle.std.specs.Prelude.{◌≡◌, ℕ, ◌/◌, ◌%◌, ◌<◌, ◌≤◌, List, Ok, Result, slice_index}
use Rattle.std.proofs.Common.{arith}
use Rattle.stores.specs.declared.fault.Fault.{Fault}
use Rattle.stores.specs.Meaning.{Meaning, Proper, most_cells, content_limit}
use Rattle.stores.specs.Layers.{layered, flat, flat_count, split, split_count, split_content, pair, pair_count, pair_cell}

-- a layer is proper if its cells hold contents of 22 bits
pub layered_proper
    : (layer count : ℕ) (cells : ℕ → Result ℕ Fault) → count ≤ most_cells → ((i v : ℕ) → cells i ≡ Ok v → v < content_limit)
    → Proper (layered layer count cells)
layered_proper layer count cells few narrow =
    record { few = few; past = λ i h. grind arith; narrow = λ i v e. grind (arith, narrow i v) }

pub flat_proper : (elements : List ℕ) → Proper (flat elements)
flat_proper elements = layered_proper 1 (flat_count elements) (λ i. Ok (slice_index elements i % 4194304)) (omega arith) (λ i v e. grind arith)

pub split_proper : (words checks : List ℕ) → Proper (split words checks)
split_proper words checks =
    layered_proper 1 (split_count words checks) (λ i. Ok (split_content (slice_index words i) (slice_index checks i))) (omega arith) (λ i v e. grind arith)

pub pair_proper : (first second : Meaning) → Proper first → Proper second → Proper (pair first second)
pair_proper first second p q =
    layered_proper 2 (pair_count first second) (pair_cell first second) (omega arith)
    (λ i v e. grind (arith, p.narrow (i / 2) v, q.narrow (i / 2) v))
