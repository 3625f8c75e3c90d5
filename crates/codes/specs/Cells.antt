-- Cells and codes by their meaning. A cell holds b data bits and, from bit b up, k check bits; these b + k bits are its places.
-- Numbers have no width here: b and k are parameters, so that the laws hold of any kind of cell.
-- Assumes nothing.
use Rattle.std.specs.Prelude.{ℕ, ◌+◌, ◌*◌, ◌/◌, ◌%◌, ◌^◌, Some, None, Option, bit_xor}
use Rattle.codes.specs.declared.verdict.Judgement.{Judgement}
use Rattle.codes.specs.declared.verdict.Verdict.{Verdict}
use Rattle.codes.specs.declared.verdict.Verdict.TheVariants.{Sound, Mended, Bad}

-- the data bits of our cells, and the most check bits that a code may have there
abbrev pub word_bits : ℕ
word_bits = 16

abbrev pub most_checks : ℕ
most_checks = 6

-- the stored data of a cell
abbrev pub data_of : ℕ → ℕ → ℕ
data_of b cell = cell % 2 ^ b

-- its stored checks
abbrev pub checks_of : ℕ → ℕ → ℕ → ℕ
checks_of b k cell = cell / 2 ^ b % 2 ^ k

-- its places: the bits that a code of k check bits looks at
abbrev pub places_of : ℕ → ℕ → ℕ → ℕ
places_of b k cell = cell % 2 ^ (b + k)

-- the cell of a word and its checks, all higher bits 0
abbrev pub cell_of : ℕ → ℕ → ℕ → ℕ
cell_of b word checks = checks * 2 ^ b + word

-- the syndrome: the checks of the stored data, joined by exclusive or with the stored checks
abbrev pub syndrome_of : ℕ → ℕ → (ℕ → ℕ) → ℕ → ℕ
syndrome_of b k checks cell = bit_xor (checks (data_of b cell)) (checks_of b k cell)

-- what judging answers: the verdict, the data and the syndrome
abbrev pub judgement : Verdict → (word syndrome : ℕ) → Judgement
judgement verdict word syndrome = record { verdict = verdict; word = word; syndrome = syndrome }

-- the word, where the verdict is sound
abbrev pub if_sound : Verdict → ℕ → Option ℕ
if_sound Sound word = Some word
if_sound Mended word = None
if_sound Bad word = None

-- What a code means. Its figures never change, its checks hang on the word alone, its judgement on the cell alone.
pub record Coding : Type 0 where
  -- K: the number of check bits
  pub width : ℕ
  -- R: how many struck places it mends
  pub mends : ℕ
  -- S: how many struck places it finds
  pub finds : ℕ
  -- the checks of a word
  pub checks : ℕ → ℕ
  -- the judgement of a cell
  pub judged : ℕ → Judgement

-- K, R and S together
abbrev pub figures : Coding → ℕ × ℕ × ℕ
figures code = (code.width, code.mends, code.finds)

-- the encoding of a word: the word with its checks above it
abbrev pub encoding : ℕ → Coding → ℕ → ℕ
encoding b code word = cell_of b word (code.checks word)

-- a code that judges a cell by its stored data and its syndrome
abbrev pub by_syndrome : ℕ → (k r s : ℕ) → (ℕ → ℕ) → (ℕ → ℕ → Judgement) → Coding
by_syndrome b k r s checks judge =
    record { width = k; mends = r; finds = s; checks = checks; judged = λ cell. judge (data_of b cell) (syndrome_of b k checks cell) }
