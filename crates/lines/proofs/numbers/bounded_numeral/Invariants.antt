use Rattle.std.proofs.Common.{drop}
use Rattle.lines.proofs.Numerals.{Summed}
use Rattle.lines.proofs.numbers.bounded_numeral.Given as goal

abbrev pub invariant-loop-byte : goal.invariant-loop-byte
invariant-loop-byte l = Summed l.base l.most l.sum (drop l.byte-index l.digits) l.digits
