-- Worked examples of checks and judgements, as one list under one statement.
-- Assumes nothing.
use Rattle.std.specs.Prelude.{◌≡◌, List, [], ◌∷◌}
use Rattle.codes.specs.Cells.{word_bits, cell_of, judgement}
use Rattle.codes.specs.Names.{coding_of}
use Rattle.codes.specs.declared.examples.Example.{Example}
use Rattle.codes.specs.declared.examples.Example.TheVariants.{Checks, Judged}
use Rattle.codes.specs.declared.names.CodeName.TheVariants.{Am2960, Parity}
use Rattle.codes.specs.declared.verdict.Verdict.TheVariants.{Mended, Bad}

-- the code gives the word those checks, or the cell of those data and checks that judgement
abbrev pub Holds : Example → Type 0
Holds (Checks code word checks) = (coding_of code).checks word ≡ checks
Holds (Judged code stored checks judged) =
    (coding_of code).judged (cell_of word_bits stored checks) ≡ judged

abbrev pub worked_examples : List Example
worked_examples =
    Checks Am2960 0 12 ∷ Checks Am2960 65535 12 ∷ Checks Am2960 1 2 ∷ Checks Am2960 512 41 ∷ Checks Parity 0 3 ∷ Checks Parity 1 2
    ∷ Judged Am2960 512 12 (judgement Mended 0 37) ∷ Judged Am2960 0 13 (judgement Mended 0 1) ∷ Judged Am2960 3 12 (judgement Bad 3 5) ∷ Judged Am2960 0 0 (judgement Bad 0 12)
    ∷ Judged Am2960 3 14 (judgement Mended 3 7) ∷ Judged Parity 1 3 (judgement Bad 1 1) ∷ []
