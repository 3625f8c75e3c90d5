use Rattle.std.proofs.Common.{◌≡◌, subst, sym, Decides, ◌∙◌, rules}
use Rattle.std.specs.List.{list_all, enumerate_from}
use Rattle.std.proofs.lemmas.Slice.{between_to_end}
use Rattle.std.proofs.lemmas.Iterator.{YieldsList-from_slice}
use Rattle.std.proofs.lemmas.Iterator.Consumers.{YieldsList-from_enumerate}
use Rattle.std.proofs.lemmas.Iterator.Search.{all_from_yields_List}
use borrow.Author.Tests.{tests}
use Rattle.codes.specs.Columns.{Columns}
use Rattle.codes.specs.ColumnLaw.{any_columns_lawful}
use Rattle.codes.specs.Tables.{columns_decide}
use Rattle.codes.proofs.Chains.{place_test, fits_is}
use Rattle.codes.proofs.columns.columns_fit.Goals as goal

pub returns : goal.returns
returns c =
    let cs = c.args.columns.now in
    let is : c.all.result ≡ list_all (place_test cs) (enumerate_from 0 cs) =
    all_from_yields_List (place_test cs) _ _ _ c.all.ensures.ran (YieldsList-from_enumerate (YieldsList-from_slice cs cc) cc) (λ x b q k. search (rules, tests, between_to_end))
    in
    record { decides = subst (λ b. Decides b (Columns cs)) (sym (is ∙ fits_is cs)) (columns_decide cs c.told-columns); lawful = any_columns_lawful }
