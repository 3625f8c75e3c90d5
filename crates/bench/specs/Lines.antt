-- What the lines of a job give and leave, whatever its stage. Assumes nothing.
use Rattle.std.specs.Prelude.{◌≡◌, ℕ, List, Some, None, Ok, Err, Option, Result}
use Rattle.language.specs.declared.act.Act.{Act}
use Rattle.language.specs.declared.dialect.Dialect.{Dialect}
use Rattle.language.specs.declared.wrong.Expected.{Expected}
use Rattle.lines.specs.Lines.{uncommented, words, first}
use Rattle.language.specs.Acts.{Mistake, and_then, parsed}

-- a mistake is said of the line's first word
abbrev pub said_of : {T : Type 0} → List ℕ → Result T Expected → Result T Mistake
said_of line (Ok x) = Ok x
said_of line (Err e) = Err (e, first (words (uncommented line)))

-- what a line gives, where `perform` says what an act gives and `nothing` is what a line without an act gives
abbrev pub by_act : {T : Type 0} → (Act → Result T Expected) → T → List ℕ → Option Act → Result T Mistake
by_act perform nothing line None = Ok nothing
by_act perform nothing line (Some a) = said_of line (perform a)

abbrev pub line_given : {T : Type 0} → Dialect → (Act → Result T Expected) → T → List ℕ → Result T Mistake
line_given dialect perform nothing line = and_then (parsed dialect line) (by_act perform nothing line)

-- what a line leaves, where `Leaves` says what an act leaves: a wrong line and one without an act change nothing
abbrev pub LineLeaves : {S : Type 0} → (Act → S → Type 0) → S → S → Result (Option Act) Mistake → Type 0
LineLeaves Leaves before after (Ok None) = after ≡ before
LineLeaves Leaves before after (Ok (Some a)) = Leaves a after
LineLeaves Leaves before after (Err m) = after ≡ before
