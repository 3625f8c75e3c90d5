-- The two codes by name.
-- Assumes nothing.
use Rattle.codes.specs.Cells.{Coding}
use Rattle.codes.specs.Columns.{am2960}
use Rattle.codes.specs.Parity.{byte_parity}
use Rattle.codes.specs.declared.names.CodeName.{CodeName}
use Rattle.codes.specs.declared.names.CodeName.TheVariants.{Am2960, Parity}

-- what the named code means
abbrev pub coding_of : CodeName → Coding
coding_of Am2960 = am2960
coding_of Parity = byte_parity
