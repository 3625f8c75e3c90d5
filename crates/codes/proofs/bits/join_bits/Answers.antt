use Rattle.std.proofs.Common.{arith}
use Rattle.codes.specs.Fields.{packed}
use Rattle.codes.proofs.bits.join_bits.Goals as goal

pub returns : goal.returns
returns c = packed c.args.high 16 c.args.low c.args.k 32 c.requires.high_fits c.requires.low_fits (omega arith)
