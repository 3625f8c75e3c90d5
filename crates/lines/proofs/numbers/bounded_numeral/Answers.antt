use Rattle.std.proofs.Common.{rules}
use Rattle.lines.proofs.Numerals.{too_large, one_more}
use Rattle.lines.proofs.numbers.bounded_numeral.Goals as goal

pub returns-then-sum-from : goal.returns-then-sum-from
returns-then-sum-from c = too_large c.loop-byte-test.true c.loop-byte.invariant (search rules) (search rules)

pub loop-byte-preserved : goal.loop-byte-preserved
loop-byte-preserved c = simp (c.from.ensures, c.from-in-loop-byte.ensures) (one_more c.loop-byte-test.true c.loop-byte.invariant (search rules) (search rules))
