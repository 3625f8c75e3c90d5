use Rattle.std.proofs.Common.{arith}
use lib.Bits.{or_zero_r}
use Rattle.rules.proofs.control.Control.mark.Goals as goal

pub returns-then-matches : goal.returns-then-matches
returns-then-matches c = grind (arith, or_zero_r)

pub returns-else-matches : goal.returns-else-matches
returns-else-matches c = grind (arith, or_zero_r)
