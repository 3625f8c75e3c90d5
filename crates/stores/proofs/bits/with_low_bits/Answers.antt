use Rattle.std.proofs.Common.{◌/◌, ◌^◌, div-add-mod', arith}
use lib.Bits.{or_shifted}
use Rattle.stores.proofs.bits.with_low_bits.Goals as goal

pub returns : goal.returns
returns c =
    grind (arith, or_shifted (c.args.old / 2 ^ c.args.k) c.args.k c.args.low, div-add-mod' c.args.old (2 ^ c.args.k))
