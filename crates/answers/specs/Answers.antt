-- The texts of answers, and of what a job comes to. Assumes nothing.
use Rattle.std.specs.Prelude.{ℕ, ◌+◌, min, Bool, true, false, List, [], ◌++◌, codes, decimal, Option, Some, None}
use Rattle.codes.specs.Texts.{verdict_text}
use Rattle.stores.specs.declared.fault.Fault.{Fault}
use Rattle.stores.specs.Texts.{fault_text}
use Rattle.maps.specs.Maps.{no_map_number}
use Rattle.rules.specs.Targets.{misplaced_number}
use Rattle.rules.specs.Calls.{refusal_says, refusal_number}
use Rattle.answers.specs.declared.answer.Answer.{Answer}
use Rattle.answers.specs.declared.answer.Answer.TheVariants.{Checks, Judged, Word, Treated, Struck, Content, Faulted, Refused}
use Rattle.answers.specs.declared.refused.Refused.{Refused as Why}
use Rattle.answers.specs.declared.refused.Refused.TheVariants.{Map, Placement, Call, Numbered}
use Rattle.answers.specs.declared.totals.Totals.{Totals}

-- the parity mark, where it is given
abbrev pub parity_text : Bool → List ℕ
parity_text true = codes " parity"
parity_text false = codes ""

-- the number of a refusal
abbrev pub refused_number : Why → ℕ
refused_number (Map m) = no_map_number
refused_number (Placement m) = misplaced_number m
refused_number (Call r) = refusal_number r
refused_number (Numbered number carried) = number

-- what a refusal carries, if anything: the bus address as given and the store's fault
abbrev pub refused_carries : Why → Option (ℕ × Fault)
refused_carries (Map m) = None
refused_carries (Placement m) = None
refused_carries (Call r) = (refusal_says r).1
refused_carries (Numbered number carried) = carried

abbrev pub carried_text : Option (ℕ × Fault) → List ℕ
carried_text None = []
carried_text (Some c) = codes " address " ++ (decimal c.0 ++ (codes " " ++ fault_text c.1))

abbrev pub refused_text : Why → List ℕ
refused_text r = decimal (refused_number r) ++ carried_text (refused_carries r)

-- the answer to an act
abbrev pub answer_text : Answer → List ℕ
answer_text (Checks checks) = codes "checks " ++ decimal checks
answer_text (Judged j) = verdict_text j.verdict ++ (codes " " ++ (decimal j.word ++ (codes " syndrome " ++ decimal j.syndrome)))
answer_text (Word r) = codes "word " ++ (decimal r.word ++ (codes " " ++ (verdict_text r.treatment ++ parity_text r.parity)))
answer_text (Treated treatment) = verdict_text treatment
answer_text Struck = codes "struck"
answer_text (Content content) = codes "content " ++ decimal content
answer_text (Faulted fault) = codes "fault " ++ fault_text fault
answer_text (Refused r) = codes "refused " ++ refused_text r

-- totals stop at the largest number of 64 bits
abbrev pub one_more : ℕ → ℕ
one_more n = min (n + 1) 18446744073709551615

abbrev pub totals_of : (granted refused struck : ℕ) → Totals
totals_of granted refused struck = record { granted = granted; refused = refused; struck = struck }

-- the totals after one answer: calls that were granted, calls that were refused, and strikes that were carried out
abbrev pub counted : Totals → Answer → Totals
counted t (Checks checks) = t
counted t (Judged j) = t
counted t (Word r) = totals_of (one_more t.granted) t.refused t.struck
counted t (Treated treatment) = totals_of (one_more t.granted) t.refused t.struck
counted t Struck = totals_of t.granted t.refused (one_more t.struck)
counted t (Content content) = t
counted t (Faulted fault) = t
counted t (Refused r) = totals_of t.granted (one_more t.refused) t.struck

-- the closing line of a job
abbrev pub totals_text : Totals → List ℕ
totals_text t =
    codes "done: " ++ (decimal (min (t.granted + t.refused) 18446744073709551615) ++ (codes " calls, " ++ (decimal t.granted ++ (codes " granted, "
    ++ (decimal t.refused ++ (codes " refused, " ++ (decimal t.struck ++ codes " struck")))))))
