-- The worked examples hold: each is a computation.
-- Assumes nothing.
use Rattle.std.proofs.Common.{refl}
use lib.Count.{ones}
use Rattle.std.specs.List.{AllByRecursion}
use Rattle.codes.specs.Columns.{folded_columns, named_bit}
use Rattle.codes.specs.Examples.{Holds, worked_examples}

pub examples_hold : AllByRecursion Holds worked_examples
unfolding folded_columns named_bit ones
examples_hold = (refl, (refl, (refl, (refl, (refl, (refl, (refl, (refl, (refl, (refl, (refl, (refl, tt))))))))))))
