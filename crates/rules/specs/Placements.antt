-- Which placements there can be.
-- Assumes nothing.
use Rattle.std.specs.Prelude.{ℕ, ◌+◌, ◌%◌, Bool, ◌&&◌, ◌==◌, nat_le, nat_lt}

-- no module has more words than this
abbrev pub most_words : ℕ
most_words = 524288

-- capacities and starting words are multiples of this
abbrev pub block_words : ℕ
block_words = 8192

-- the words of the bus below the page of the device registers
abbrev pub memory_words : ℕ
memory_words = 1966080

abbrev pub most_control : ℕ
most_control = 15

abbrev pub capacity_granted : ℕ → Bool
capacity_granted capacity = nat_lt 0 capacity && (nat_le capacity most_words && capacity % block_words == 0)

abbrev pub start_granted : ℕ → ℕ → Bool
start_granted capacity start = start % block_words == 0 && nat_le (start + capacity) memory_words

abbrev pub control_granted : ℕ → Bool
control_granted control = nat_le control most_control

abbrev pub is_placement : (capacity start control : ℕ) → Bool
is_placement capacity start control = capacity_granted capacity && (start_granted capacity start && control_granted control)
