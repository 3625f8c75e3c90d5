-- What the lines of a job on a card answer, and what they leave of it. Assumes nothing.
use Rattle.std.specs.Prelude.{Some, Ok, Err, Option, Result}
use Rattle.std.specs.declared.convert.Infallible.{Infallible}
use Rattle.std.specs.declared.ops.ControlFlow.{ControlFlow}
use Rattle.std.specs.declared.ops.ControlFlow.TheVariants.{Continue}
use Rattle.language.specs.declared.dialect.Dialect.TheVariants.{Cards}
use Rattle.codes.specs.Cells.{Coding}
use Rattle.stores.specs.Meaning.{write_answer, upset_by}
use Rattle.rules.specs.Calls.{dati, datip, dato, datob, read, wrote, refused, Answer as CallAnswer}
use Rattle.rules.specs.Targets.{Placed}
use Rattle.rules.specs.State.{State, with_store}
use Rattle.rules.specs.Transfers.{act as call}
use Rattle.language.specs.declared.act.Act.{Act}
use Rattle.language.specs.declared.act.Act.TheVariants as act
use Rattle.language.specs.declared.wrong.Expected.{Expected}
use Rattle.language.specs.declared.wrong.Expected.TheVariants.{HeadOnce}
use Rattle.answers.specs.declared.answer.Answer.{Answer}
use Rattle.answers.specs.declared.answer.Answer.TheVariants as answer
use Rattle.answers.specs.declared.refused.Refused.TheVariants.{Call}
use Rattle.answers.specs.declared.totals.Totals.{Totals}
use Rattle.answers.specs.Answers.{counted}
use Rattle.bench.specs.Jobs.{checks_answer, judged_answer, struck_answer, content_answer}

-- the answer of a call, as the bench says it
abbrev pub call_answer : CallAnswer → Answer
call_answer (read word treatment parity) = answer.Word (record { word = word; treatment = treatment; parity = parity })
call_answer (wrote treatment) = answer.Treated treatment
call_answer (refused r) = answer.Refused (Call r)

-- an act on a card gives an answer, or is wrong there
abbrev pub answered : Result Answer Expected → Result (ControlFlow Infallible (Option Answer)) Expected
answered (Ok a) = Ok (Continue (Some a))
answered (Err e) = Err e

-- what it leaves of the totals
abbrev pub totals_after : Totals → Result Answer Expected → Totals
totals_after t (Ok a) = counted t a
totals_after t (Err e) = t

module _ (code : Coding) (p : Placed) (s : State) where
  -- what an act answers on a card in that state
  abbrev pub performed_card : Act → Result Answer Expected
  performed_card (act.Code name) = Err (HeadOnce Cards)
  performed_card (act.Store make) = Err (HeadOnce Cards)
  performed_card (act.Place place) = Err (HeadOnce Cards)
  performed_card (act.Checks word) = Ok (checks_answer code word)
  performed_card (act.Judge stored checks) = Ok (judged_answer code stored checks)
  performed_card (act.Dati address) = Ok (call_answer (call code p s (dati address)).answer)
  performed_card (act.Datip address) = Ok (call_answer (call code p s (datip address)).answer)
  performed_card (act.Dato address word) = Ok (call_answer (call code p s (dato address word)).answer)
  performed_card (act.Datob address byte) = Ok (call_answer (call code p s (datob address byte)).answer)
  performed_card (act.Strike cell mask) = Ok (struck_answer (write_answer s.store cell mask))
  performed_card (act.Cell cell) = Ok (content_answer (s.store.at cell))

  -- the state that it leaves: a transfer's is the card's own, a strike upsets the store, and nothing else changes anything
  abbrev pub card_after : Act → State
  card_after (act.Code name) = s
  card_after (act.Store make) = s
  card_after (act.Place place) = s
  card_after (act.Checks word) = s
  card_after (act.Judge stored checks) = s
  card_after (act.Dati address) = (call code p s (dati address)).after
  card_after (act.Datip address) = (call code p s (datip address)).after
  card_after (act.Dato address word) = (call code p s (dato address word)).after
  card_after (act.Datob address byte) = (call code p s (datob address byte)).after
  card_after (act.Strike cell mask) = with_store s (upset_by s.store cell mask)
  card_after (act.Cell cell) = s
