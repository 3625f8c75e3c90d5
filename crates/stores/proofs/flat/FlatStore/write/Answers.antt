use Rattle.std.proofs.Common.{arith, length-set}
use Rattle.std.proofs.lemmas.List.{drop-set-lt}
use Rattle.stores.proofs.Elements.{unused_kept}
use Rattle.stores.proofs.flat.FlatStore.write.Goals as goal

pub returns-clause-keeps : goal.returns-clause-keeps
returns-clause-keeps c = grind (arith, length-set, drop-set-lt, unused_kept)
