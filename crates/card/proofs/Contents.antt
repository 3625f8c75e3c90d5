-- What a module writes is a content that stores take. Assumes nothing.
use Rattle.std.proofs.Common.{ℕ, ◌^◌, ◌<◌, ◌≤◌, arith, pow_mono}
use Rattle.codes.specs.Cells.{Coding, word_bits, most_checks, cell_of, encoding}
use Rattle.codes.specs.Law.{Lawful}
use Rattle.stores.specs.Meaning.{content_limit}

-- a word with the checks of a lawful code, or with as many bits, has 22 bits
pub cell_narrow
    : {code : Coding} → Lawful word_bits most_checks code → (word checks : ℕ) → word < 2 ^ word_bits → checks < 2 ^ code.width
    → cell_of word_bits word checks < content_limit
cell_narrow {code} law word checks w c =
    let few : 2 ^ code.width ≤ 2 ^ most_checks = pow_mono law.narrow in
    omega arith

pub encoding_narrow : {code : Coding} → Lawful word_bits most_checks code → (word : ℕ) → word < 2 ^ word_bits → encoding word_bits code word < content_limit
encoding_narrow {code} law word w = cell_narrow law word (code.checks word) w (law.checks_fit word w)
