use Rattle.std.proofs.Common.{◌≡◌, Some, rules}
use Rattle.lines.specs.Lines.{left}
use Rattle.lines.proofs.Lines.{by_first}
use Rattle.language.proofs.store_line.store_act.Goals as goal

pub returns : goal.returns
returns c =
    let next = c.next.ensures.steps in
    let is : c.next.result ≡ Some c.in_ok-make.make = search rules in
    rw (by_first (left c.args.words) _ c.in_ok-make.make.now (rw is at next.word) next.rest) c.make_act.ensures
