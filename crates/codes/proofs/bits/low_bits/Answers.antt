use Rattle.std.proofs.Common.{◌^◌, ◌≤◌, sym, mod-eq_of_lt, arith, pow_mono}
use Rattle.codes.specs.Fields.{masked}
use Rattle.codes.proofs.bits.low_bits.Goals as goal

pub returns-then-k-lt32 : goal.returns-then-k-lt32
returns-then-k-lt32 c = masked c.args.n c.args.k 32 c.if-k-lt32.true

pub returns-else-k-lt32 : goal.returns-else-k-lt32
returns-else-k-lt32 c =
    let wide : 2 ^ 32 ≤ 2 ^ c.args.k = pow_mono c.if-k-lt32.false in
    sym (mod-eq_of_lt (omega arith))
