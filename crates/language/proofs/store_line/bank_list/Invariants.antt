use Rattle.std.proofs.Common.{length}
use Rattle.lines.specs.Lines.{left}
use Rattle.language.proofs.Banks.{Read}
use Rattle.language.proofs.store_line.bank_list.Given as goal

abbrev pub invariant-loop-word : goal.invariant-loop-word
invariant-loop-word l = Read l.list (left l.words) (left l.initial.words)

abbrev pub decreases-loop-word : goal.decreases-loop-word
decreases-loop-word l = length (left l.words)
