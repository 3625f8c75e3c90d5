-- A map over a store: no two cells stand for one below, so a change below is a change of one cell.
-- Assumes nothing.
use Rattle.std.proofs.Common.{◌≡◌, ℕ, ◌+◌, ◌≤◌, cond, eqb, List, [], ◌∷◌, Some, None, Ok, Option, refl, arith}
use Rattle.maps.specs.declared.bank.Bank.{Bank}
use Rattle.stores.specs.Meaning.{Meaning, Proper, tested, write_answer, with_content, changed}
use Rattle.maps.specs.Banks.{cell_below}
use Rattle.maps.specs.Maps.{mapped_cell, mapped_by}

-- a cell below comes after those of earlier banks
cell_after : (banks : List Bank) (before i j : ℕ) → cell_below banks before i ≡ Some j → before ≤ j
cell_after [] before i j e = grind arith
cell_after (b ∷ bs) before i j e = grind (arith, cell_after bs (before + b.length) i j)

-- no two cells stand for one cell below
pub cell_once : (banks : List Bank) (before i k j : ℕ) → cell_below banks before i ≡ Some j → cell_below banks before k ≡ Some j → i ≡ k
cell_once [] before i k j e f = grind arith
cell_once (b ∷ bs) before i k j e f =
    grind (arith, cell_once bs (before + b.length) i k j, cell_after bs (before + b.length) i j, cell_after bs (before + b.length) k j)

-- a content that is set at the cell below is set at one cell of the map
mapped_set
    : (banks : List Bank) (below : Meaning) (i j v k : ℕ) → cell_below banks 0 i ≡ Some j
    → mapped_cell (with_content below j v) k (cell_below banks 0 k) ≡ cond (eqb k i) (Ok v) (mapped_cell below k (cell_below banks 0 k))
mapped_set banks below i j v k stands = go (cell_below banks 0 k) refl
  where
    go : (o : Option ℕ) → cell_below banks 0 k ≡ o → mapped_cell (with_content below j v) k o ≡ cond (eqb k i) (Ok v) (mapped_cell below k o)
    go None e = grind arith
    go (Some h) e = grind (arith, cell_once banks 0 i k j)

-- a call that a map passes on to the cell below does to the map what it should
pub mapped_leaves
    : (count : ℕ) (banks : List Bank) (below : Meaning) → Proper below → (i j number : ℕ) (new : ℕ → ℕ)
    → Ok tt ≡ tested 3 count i number → cell_below banks 0 i ≡ Some j
    → mapped_by count banks (changed below j new (write_answer below j number) (below.at j))
    ≡ changed (mapped_by count banks below) i new (write_answer (mapped_by count banks below) i number) ((mapped_by count banks below).at i)
mapped_leaves count banks below proper i j number new test stands = grind (arith, mapped_set banks below i j, proper.past j)
