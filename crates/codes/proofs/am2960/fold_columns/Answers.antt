use Rattle.std.proofs.Common.{ℕ, ◌∙◌, rules}
use Rattle.std.proofs.lemmas.Iterator.{YieldsList-from_slice}
use Rattle.std.proofs.lemmas.Iterator.Consumers.{YieldsList-from_enumerate, fold_from_yields_List}
use borrow.Author.Tests.{tests}
use Rattle.codes.specs.Columns.{checks_of_zero}
use Rattle.codes.proofs.Chains.{joined, folded_is}
use Rattle.codes.proofs.am2960.fold_columns.Goals as goal

pub returns : goal.returns
returns c =
    let word : ℕ = c.args.word in
    fold_from_yields_List _ (joined word) checks_of_zero _ c.fold.ensures.ran
    (YieldsList-from_enumerate (YieldsList-from_slice c.args.columns.now cc) cc)
    (λ a x b q k. search (rules, tests))
    ∙ folded_is checks_of_zero word c.args.columns.now
