use Rattle.std.proofs.Common.{get_or, arith, length-set, get_or-set_same, get_or-set_other}
use Rattle.std.proofs.lemmas.List.{drop-set-lt}
use Rattle.stores.specs.Meaning.{content_bits}
use Rattle.stores.proofs.Elements.{xor_low, xor_high, unused_kept}
use Rattle.stores.proofs.flat.FlatBench.upset.Goals as goal

pub returns-clause-leaves : goal.returns-clause-leaves
returns-clause-leaves c =
    grind (arith, length-set, get_or-set_same, get_or-set_other, xor_low content_bits (get_or c.args.self.now.cells.now c.args.cell 0) c.args.mask)

pub returns-clause-keeps : goal.returns-clause-keeps
returns-clause-keeps c =
    grind (arith, length-set, drop-set-lt, unused_kept, xor_high content_bits (get_or c.args.self.now.cells.now c.args.cell 0) c.args.mask)
