-- The calls of a module and their answers.
-- Assumes nothing.
use Rattle.std.specs.Prelude.{ℕ, Bool, Some, None, Ok, Err, Option, Result}
use Rattle.codes.specs.declared.verdict.Verdict.{Verdict}
use Rattle.stores.specs.declared.fault.Fault.{Fault}
use Rattle.rules.specs.declared.answer.WordRead.{WordRead}
use Rattle.rules.specs.declared.refusal.Refusal.{Refusal}
use Rattle.rules.specs.declared.refusal.Refusal.TheVariants.{PastBus, NotOwned, ControlByte, Store}

-- a call, with what it is given
pub data Call : Type 0 where
  dati : (address : ℕ) → Call
  datip : (address : ℕ) → Call
  dato : (address word : ℕ) → Call
  datob : (address byte : ℕ) → Call

-- what a call answers
pub data Answer : Type 0 where
  -- DATI, DATIP: the word, its treatment, and whether the parity mark is given
  read : (word : ℕ) → Verdict → (parity : Bool) → Answer
  -- DATO, DATOB: the treatment
  wrote : Verdict → Answer
  -- a refusal
  refused : Refusal → Answer

-- each refusal by its number and what it carries: a store's fault, with the bus address as given
abbrev pub refusal_says : Refusal → ℕ × Option (ℕ × Fault)
refusal_says PastBus = (5, None)
refusal_says NotOwned = (6, None)
refusal_says ControlByte = (7, None)
refusal_says (Store address f) = (8, Some (address, f))

-- its number alone
abbrev pub refusal_number : Refusal → ℕ
refusal_number r = (refusal_says r).0

-- the answers of the calls that read, and of those that write
abbrev pub read_answer : Result WordRead Refusal → Answer
read_answer (Ok r) = read r.word r.treatment r.parity
read_answer (Err r) = refused r

abbrev pub wrote_answer : Result Verdict Refusal → Answer
wrote_answer (Ok treated) = wrote treated
wrote_answer (Err r) = refused r

-- a store's answer, with its fault as the refusal of a call to that address
abbrev pub carried : {T : Type 0} → ℕ → Result T Fault → Result T Refusal
carried address (Ok x) = Ok x
carried address (Err f) = Err (Store address f)
