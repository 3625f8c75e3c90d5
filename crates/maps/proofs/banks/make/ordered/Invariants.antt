use Rattle.std.proofs.Common.{◌≡◌, drop}
use Rattle.maps.specs.Banks.{in_order}
use Rattle.maps.proofs.banks.make.ordered.Given as goal

abbrev pub invariant-loop-bank : goal.invariant-loop-bank
invariant-loop-bank l = in_order l.count l.from (drop l.bank-index l.banks) ≡ in_order l.count 0 l.banks
