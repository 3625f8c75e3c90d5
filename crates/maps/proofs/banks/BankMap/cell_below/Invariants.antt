use Rattle.std.proofs.Common.{◌≡◌, true, ◌*◌, ◌≤◌, drop, take}
use Rattle.stores.specs.Meaning.{most_cells}
use Rattle.maps.specs.Banks.{in_order, cell_below}
use Rattle.maps.proofs.banks.BankMap.cell_below.Given as goal

abbrev pub invariant-loop-bank : goal.invariant-loop-bank
invariant-loop-bank l =
    (cell_below (drop l.bank-index (take l.self.used l.self.banks)) l.before l.cell ≡ cell_below (take l.self.used l.self.banks) 0 l.cell)
    × (in_order l.self.count 0 (drop l.bank-index (take l.self.used l.self.banks)) ≡ true) × (l.before ≤ most_cells * l.bank-index)
