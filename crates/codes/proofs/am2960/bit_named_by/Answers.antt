use Rattle.std.proofs.Common.{ℕ, ◌==◌, rules}
use Rattle.std.proofs.lemmas.Iterator.{YieldsList-from_slice}
use Rattle.std.proofs.lemmas.Iterator.Search.{position_from_yields_List}
use borrow.Author.Tests.{tests}
use Rattle.codes.proofs.Chains.{found_mask}
use Rattle.codes.proofs.am2960.bit_named_by.Goals as goal

pub returns : goal.returns
returns c =
    let s : ℕ = c.args.syndrome in
    let cs = c.args.columns.now in
    found_mask s cs c.position.result c.map_or.result c.told-columns
    (position_from_yields_List (λ x. x == s) _ _ _ c.position.ensures.ran (YieldsList-from_slice cs cc) (λ x b q k. search (rules, tests)))
    (search rules)
