use Rattle.std.proofs.Common.{length, arith}
use Rattle.maps.proofs.Places.{banks_padded, taken_padded}
use Rattle.maps.proofs.banks.BankMap.new.Goals as goal

pub invariant_of-result : goal.invariant_of-result
invariant_of-result c =
    let same = banks_padded c.args.count 0 (length c.args.banks.now) c.args.banks.now in
    let taken = taken_padded c.args.count 0 (length c.args.banks.now) c.args.banks.now in
    record { lawful = grind arith; placed = grind arith; few = grind arith }

pub returns : goal.returns
returns c =
    let same = banks_padded c.args.count 0 (length c.args.banks.now) c.args.banks.now in
    grind arith
