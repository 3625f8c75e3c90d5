use Rattle.std.proofs.Common.{Some, Ok, sym, ap, ◌∙◌}
use Rattle.std.proofs.lemmas.Result.{err_from_is_err_and}
use Rattle.lines.specs.Lines.{left}
use Rattle.lines.proofs.Lines.{by_first}
use Rattle.language.specs.Acts.{and_then, asked}
use Rattle.language.proofs.parse.parse_line.Goals as goal

-- Both exits after the acts go by the line's words, so that no search walks through the acts.
pub returns-in_err-act_after-in-Some : goal.returns-in_err-act_after-in-Some
returns-in_err-act_after-in-Some c =
    let p = err_from_is_err_and c.from_residual.result c.from_residual.ensures.1 in
    let next = c.in-Some.ensures.steps in
    let split = by_first (left c.new-words.result) _ c.in-Some.keyword.now next.word next.rest in
    rw (p.1, p.2) (ap (λ m. and_then m (λ a. Ok (Some a))) c.in_err-act_after-in-Some.ensures ∙ ap (asked c.args.dialect) (sym split ∙ c.new-words.ensures))

pub returns-in_ok-act_after-in-Some : goal.returns-in_ok-act_after-in-Some
returns-in_ok-act_after-in-Some c =
    let next = c.in-Some.ensures.steps in
    let split = by_first (left c.new-words.result) _ c.in-Some.keyword.now next.word next.rest in
    ap (λ m. and_then m (λ a. Ok (Some a))) c.in_ok-act_after-in-Some.ensures ∙ ap (asked c.args.dialect) (sym split ∙ c.new-words.ensures)
