use Rattle.std.proofs.Common.{arith, length-set, get_or-set_same, get_or-set_other}
use lib.Bits.{and_mask}
use Rattle.std.proofs.lemmas.List.{drop-set-lt}
use Rattle.stores.proofs.Elements.{unused_kept}
use Rattle.stores.proofs.split.SplitStore.write.Goals as goal

pub returns-clause-leaves : goal.returns-clause-leaves
returns-clause-leaves c = grind (arith, length-set, get_or-set_same, get_or-set_other, and_mask c.args.content 16)

pub returns-clause-keeps : goal.returns-clause-keeps
returns-clause-keeps c = grind (arith, length-set, drop-set-lt, unused_kept)
