-- What the lines of a job answer, one after the other. Assumes nothing.
use Rattle.std.specs.Prelude.{ℕ, Some, None, Ok, Err, Option, Result}
use Rattle.codes.specs.Cells.{Coding, word_bits, cell_of}
use Rattle.codes.specs.Names.{coding_of}
use Rattle.codes.specs.declared.names.CodeName.{CodeName}
use Rattle.stores.specs.Meaning.{Meaning, write_answer, upset_by}
use Rattle.stores.specs.declared.fault.Fault.{Fault}
use Rattle.std.specs.declared.ops.ControlFlow.{ControlFlow}
use Rattle.std.specs.declared.ops.ControlFlow.TheVariants.{Continue, Break}
use Rattle.language.specs.declared.act.Act.{Act}
use Rattle.language.specs.declared.act.AskedPlacement.{AskedPlacement}
use Rattle.language.specs.declared.dialect.Dialect.{Dialect}
use Rattle.language.specs.declared.make.Make.{Make}
use Rattle.language.specs.declared.act.Act.TheVariants as act
use Rattle.answers.specs.declared.answer.Answer.{Answer}
use Rattle.answers.specs.declared.answer.Answer.TheVariants as answer
use Rattle.answers.specs.declared.totals.Totals.{Totals}
use Rattle.answers.specs.Answers.{counted}
use Rattle.language.specs.declared.wrong.Expected.{Expected}
use Rattle.language.specs.declared.wrong.Expected.TheVariants.{CodeFirst, StoreFirst, PlaceFirst, HeadOnce}

-- the answers of a code
abbrev pub checks_answer : Coding → ℕ → Answer
checks_answer code word = answer.Checks (code.checks word)

abbrev pub judged_answer : Coding → ℕ → ℕ → Answer
judged_answer code stored checks = answer.Judged (code.judged (cell_of word_bits stored checks))

-- At the head of a job: what an act answers under the code that is chosen so far, or the store that it asks for.
abbrev pub performed : Option CodeName → Act → Result (ControlFlow (CodeName × Make) (Option Answer)) Expected
performed chosen (act.Code name) = Ok (Continue None)
performed None (act.Store make) = Err CodeFirst
performed (Some name) (act.Store make) = Ok (Break (name, make))
performed chosen (act.Place place) = Err StoreFirst
performed None (act.Checks word) = Err CodeFirst
performed (Some name) (act.Checks word) = Ok (Continue (Some (checks_answer (coding_of name) word)))
performed None (act.Judge stored checks) = Err CodeFirst
performed (Some name) (act.Judge stored checks) = Ok (Continue (Some (judged_answer (coding_of name) stored checks)))
performed chosen (act.Dati address) = Err PlaceFirst
performed chosen (act.Datip address) = Err PlaceFirst
performed chosen (act.Dato address word) = Err PlaceFirst
performed chosen (act.Datob address byte) = Err PlaceFirst
performed chosen (act.Strike cell mask) = Err StoreFirst
performed chosen (act.Cell cell) = Err StoreFirst

-- the code that is chosen after an act
abbrev pub chosen_after : Option CodeName → Act → Option CodeName
chosen_after chosen (act.Code name) = Some name
chosen_after chosen (act.Store make) = chosen
chosen_after chosen (act.Place place) = chosen
chosen_after chosen (act.Checks word) = chosen
chosen_after chosen (act.Judge stored checks) = chosen
chosen_after chosen (act.Dati address) = chosen
chosen_after chosen (act.Datip address) = chosen
chosen_after chosen (act.Dato address word) = chosen
chosen_after chosen (act.Datob address byte) = chosen
chosen_after chosen (act.Strike cell mask) = chosen
chosen_after chosen (act.Cell cell) = chosen

-- a strike was carried out, or the store refused it
abbrev pub struck_answer : Result (Unit {0}) Fault → Answer
struck_answer (Ok done) = answer.Struck
struck_answer (Err f) = answer.Faulted f

-- the content of a cell, or its fault
abbrev pub content_answer : Result ℕ Fault → Answer
content_answer (Ok content) = answer.Content content
content_answer (Err f) = answer.Faulted f

-- With a store: what an act answers under the code of the head, or the placement that it asks for.
abbrev pub performed_on : Dialect → CodeName → Meaning → Act → Result (ControlFlow AskedPlacement (Option Answer)) Expected
performed_on dialect name store (act.Code other) = Err (HeadOnce dialect)
performed_on dialect name store (act.Store make) = Err (HeadOnce dialect)
performed_on dialect name store (act.Place place) = Ok (Break place)
performed_on dialect name store (act.Checks word) = Ok (Continue (Some (checks_answer (coding_of name) word)))
performed_on dialect name store (act.Judge stored checks) = Ok (Continue (Some (judged_answer (coding_of name) stored checks)))
performed_on dialect name store (act.Dati address) = Err PlaceFirst
performed_on dialect name store (act.Datip address) = Err PlaceFirst
performed_on dialect name store (act.Dato address word) = Err PlaceFirst
performed_on dialect name store (act.Datob address byte) = Err PlaceFirst
performed_on dialect name store (act.Strike cell mask) = Ok (Continue (Some (struck_answer (write_answer store cell mask))))
performed_on dialect name store (act.Cell cell) = Ok (Continue (Some (content_answer (store.at cell))))

-- what an act leaves of the store: a strike upsets it, and nothing else does
abbrev pub store_after : Meaning → Act → Meaning
store_after store (act.Code name) = store
store_after store (act.Store make) = store
store_after store (act.Place place) = store
store_after store (act.Checks word) = store
store_after store (act.Judge stored checks) = store
store_after store (act.Dati address) = store
store_after store (act.Datip address) = store
store_after store (act.Dato address word) = store
store_after store (act.Datob address byte) = store
store_after store (act.Strike cell mask) = upset_by store cell mask
store_after store (act.Cell cell) = store

-- what an act leaves of the totals, by what it gives
abbrev pub totals_by : {T : Type 0} → Totals → Result (ControlFlow T (Option Answer)) Expected → Totals
totals_by t (Ok (Continue (Some a))) = counted t a
totals_by t (Ok (Continue None)) = t
totals_by t (Ok (Break next)) = t
totals_by t (Err e) = t
