use Rattle.std.proofs.Common.{arith}
use Rattle.maps.proofs.MapCells.{mapped_leaves}
use Rattle.maps.proofs.map.MapStore.write.Goals as goal

pub returns-clause-leaves : goal.returns-clause-leaves
returns-clause-leaves g c = grind (arith, mapped_leaves, g.S.Store.proper)
