use Rattle.std.proofs.Common.{rules}
use Rattle.std.proofs.lemmas.Result.{err_from_is_err_and}
use Rattle.lines.specs.Lines.{left}
use Rattle.language.proofs.Banks.{no_length, one_more}
use Rattle.language.proofs.store_line.bank_list.Goals as goal

pub returns-in_err-length : goal.returns-in_err-length
returns-in_err-length c =
    let p = err_from_is_err_and c.from_residual-in_err-length.result c.from_residual-in_err-length.ensures.1 in
    rw (p.1, p.2) (no_length (left c.loop-word.words) (left c.args.words) c.in-Some.word.now c.in-Some.ensures.steps.word c.loop-word.invariant c.in_ok-offset.offset _ (search rules) (search rules))

pub loop-word-preserved : goal.loop-word-preserved
loop-word-preserved c = one_more (left c.loop-word.words) (left c.args.words) c.in-Some.word.now c.in-Some.ensures.steps.word c.loop-word.invariant (left c.next-in-Some.new.self) c.in_ok-offset.offset c.in_ok-length.length _ (search rules) (search rules) (search rules) (search rules)
