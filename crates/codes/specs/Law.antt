-- The law of check codes: what every code owes, over all words, all cells and all changes of places.
-- A change of places is a mask: it strikes as many places as it has ones, wherever they lie.
-- Assumes nothing.
use Rattle.std.specs.Prelude.{◌≡◌, ℕ, ◌+◌, ◌^◌, ◌<◌, ◌≤◌, bit_xor, count_ones}
use Rattle.codes.specs.Cells.{judgement, Coding, data_of, places_of, syndrome_of, encoding}
use Rattle.codes.specs.declared.verdict.Verdict.TheVariants.{Sound, Mended, Bad}

-- a code for words of b bits, with at most `most` check bits
pub record Lawful (b most : ℕ) (code : Coding) : Type 0 where
  -- the figures: K is at most `most`, R at most S, S at least 1
  pub narrow : code.width ≤ most
  pub ordered : code.mends ≤ code.finds
  pub alert : 1 ≤ code.finds
  -- checks have K bits, and the data answered b
  pub checks_fit : (word : ℕ) → word < 2 ^ b → code.checks word < 2 ^ code.width
  pub data_fit : (cell : ℕ) → (code.judged cell).word < 2 ^ b
  -- only the places of a cell are looked at
  pub placed : (cell : ℕ) → code.judged cell ≡ code.judged (places_of b code.width cell)
  -- the syndrome is the exclusive or of the checks of the stored data with the stored checks
  pub syndrome : (cell : ℕ) → (code.judged cell).syndrome ≡ syndrome_of b code.width code.checks cell
  -- a verdict is sound exactly when the syndrome is 0
  pub sound_clear : (cell : ℕ) → (code.judged cell).verdict ≡ Sound → (code.judged cell).syndrome ≡ 0
  pub clear_sound : (cell : ℕ) → (code.judged cell).syndrome ≡ 0 → (code.judged cell).verdict ≡ Sound
  -- a bad verdict carries the stored data
  pub bad_stored : (cell : ℕ) → (code.judged cell).verdict ≡ Bad → (code.judged cell).word ≡ data_of b cell
  -- the encoding of a word is judged sound with that word
  pub intact : (word : ℕ) → word < 2 ^ b → code.judged (encoding b code word) ≡ judgement Sound word 0
  -- with 1 to R places changed it is judged mended, with that word
  pub mended
      : (word mask : ℕ) → word < 2 ^ b → mask < 2 ^ (b + code.width) → 1 ≤ count_ones mask → count_ones mask ≤ code.mends
      → ((code.judged (bit_xor (encoding b code word) mask)).verdict ≡ Mended) × ((code.judged (bit_xor (encoding b code word) mask)).word ≡ word)
  -- with R + 1 to S places changed it is judged bad
  pub found
      : (word mask : ℕ) → word < 2 ^ b → mask < 2 ^ (b + code.width) → code.mends + 1 ≤ count_ones mask → count_ones mask ≤ code.finds
      → (code.judged (bit_xor (encoding b code word) mask)).verdict ≡ Bad

-- the places of the cell are the encoding of the word
abbrev pub Encodes : ℕ → Coding → ℕ → ℕ → Type 0
Encodes b code cell word = (word < 2 ^ b) × (places_of b code.width cell ≡ encoding b code word)

-- a cell is judged sound exactly when its places are a word's encoding, and then yields that word
abbrev pub SoundIsEncoding : ℕ → Coding → Type 0
SoundIsEncoding b code =
    ((cell word : ℕ) → Encodes b code cell word → code.judged cell ≡ judgement Sound word 0)
    × ((cell : ℕ) → (code.judged cell).verdict ≡ Sound → Encodes b code cell (code.judged cell).word)

-- a code that calls every cell bad cannot keep the law, and neither can one that calls every cell sound
abbrev pub TellsCellsApart : Coding → Type 0
TellsCellsApart code = (((cell : ℕ) → (code.judged cell).verdict ≡ Bad) → ⊥) × (((cell : ℕ) → (code.judged cell).verdict ≡ Sound) → ⊥)
