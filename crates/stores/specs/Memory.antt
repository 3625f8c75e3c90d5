-- What lies outside the cells in the memory that a store was lent, and that no call changes.
-- Assumes nothing.
use Rattle.std.specs.Prelude.{ℕ, ◌/◌, ◌^◌, List, map, drop}

-- A lent slice by its identity, the bits of each element that cells do not use, and the elements past the cells; or two such.
pub data Outside : Type 0 where
  slice : (identity : ℕ) → (unused : List ℕ) → (past : List ℕ) → Outside
  both : Outside → Outside → Outside

-- a slice of which the first `count` elements are cells, where `unused` gives the bits of an element that cells do not use
abbrev pub outside_cells : (ℕ → ℕ) → (count identity : ℕ) → List ℕ → Outside
outside_cells unused count identity elements = slice identity (map unused elements) (drop count elements)

-- the bits above the low k
abbrev pub above : ℕ → ℕ → ℕ
above k x = x / 2 ^ k

-- no bits
abbrev pub none : ℕ → ℕ
none x = 0
