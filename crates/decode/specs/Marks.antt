-- What the marks of a printed decode table mean.
-- Assumes nothing.
use Rattle.std.specs.Prelude.{ℕ, Some, None, Option, bit_xor}
use Rattle.codes.specs.Cells.{judgement}
use Rattle.codes.specs.declared.verdict.Judgement.{Judgement}
use Rattle.codes.specs.declared.verdict.Verdict.TheVariants.{Sound, Mended, Bad}
use Rattle.decode.specs.declared.marks.Mark.{Mark}
use Rattle.decode.specs.declared.marks.Mark.TheVariants.{Clear, Check, Data, Two, More}

-- the judgement of a cell that holds the word and shows the syndrome s; none where more than two places are struck
abbrev pub meaning_of : Mark → ℕ → ℕ → Option Judgement
meaning_of Clear word s = Some (judgement Sound word s)
meaning_of Check word s = Some (judgement Mended word s)
meaning_of (Data bit) word s = Some (judgement Mended (bit_xor word bit) s)
meaning_of Two word s = Some (judgement Bad word s)
meaning_of More word s = None
