use Rattle.std.proofs.Common.{◌/◌, get_or, arith, length-set, get_or-set_same, get_or-set_other}
use Rattle.std.proofs.lemmas.List.{drop-set-lt}
use Rattle.stores.proofs.Elements.{content_upset, xor_high, unused_kept}
use Rattle.stores.proofs.split.SplitBench.upset.Goals as goal

pub returns-clause-leaves : goal.returns-clause-leaves
returns-clause-leaves c =
    let words = c.args.self.now.words.now in
    let checks = c.args.self.now.checks.now in
    grind (arith, length-set, get_or-set_same, get_or-set_other, content_upset (get_or words c.args.cell 0) (get_or checks c.args.cell 0) c.args.mask)

pub returns-clause-keeps : goal.returns-clause-keeps
returns-clause-keeps c =
    grind (arith, length-set, drop-set-lt, unused_kept, xor_high 6 (get_or c.args.self.now.checks.now c.args.cell 0) (c.args.mask / 65536))
