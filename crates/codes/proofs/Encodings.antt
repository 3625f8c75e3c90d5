-- Under every lawful code a cell is judged sound exactly when its places are a word's encoding, and some cells are not.
-- Assumes nothing.
use Rattle.std.proofs.Common.{◌≡◌, ℕ, ◌+◌, ◌^◌, ◌<◌, sym, ap, ◌∙◌, subst, ⊎_elim, arith, MatchOption}
use lib.Bits.{bit_xor}
use lib.Count.{ones-ones}
use Rattle.std.proofs.lemmas.Nat.{pow_pos, pow_below}
use Rattle.std.proofs.lemmas.Bool.{cases_lt}
use Rattle.codes.specs.Cells.{judgement, Coding, data_of, checks_of, cell_of, encoding, if_sound}
use Rattle.codes.specs.Law.{Lawful, Encodes, SoundIsEncoding, TellsCellsApart}
use Rattle.codes.specs.declared.verdict.Judgement.{Judgement}
use Rattle.codes.specs.declared.verdict.Verdict.{Verdict}
use Rattle.codes.specs.declared.verdict.Verdict.TheVariants.{Sound, Mended, Bad}
use Rattle.codes.specs.Fields.{data_below, places_parts}
use Rattle.codes.specs.Ones.{xor_apart}

module _ (b most : ℕ) (code : Coding) (law : Lawful b most code) where
  encodes_judged : (cell word : ℕ) → Encodes b code cell word → code.judged cell ≡ judgement Sound word 0
  encodes_judged cell word e = law.placed cell ∙ ap code.judged e.1 ∙ law.intact word e.0

  sound_encodes_data : (cell : ℕ) → (code.judged cell).verdict ≡ Sound → Encodes b code cell (data_of b cell)
  sound_encodes_data cell e =
      let same : code.checks (data_of b cell) ≡ checks_of b code.width cell =
      xor_apart (code.checks (data_of b cell)) (checks_of b code.width cell) (sym (law.syndrome cell) ∙ law.sound_clear cell e)
      in
      (data_below b cell, places_parts b code.width cell ∙ ap (cell_of b (data_of b cell)) (sym same))

  sound_encodes : (cell : ℕ) → (code.judged cell).verdict ≡ Sound → Encodes b code cell (code.judged cell).word
  sound_encodes cell e =
      let own = sound_encodes_data cell e in
      rw (encodes_judged cell (data_of b cell) own) own

  pub sound_is_encoding : SoundIsEncoding b code
  sound_is_encoding = (encodes_judged, sound_encodes)

  -- the word of the judgement, if it is sound, is the one that the cell encodes
  pub word_exact
      : (cell : ℕ) (j : Judgement) → j ≡ code.judged cell
      → MatchOption (if_sound j.verdict j.word) ((word : ℕ) → Encodes b code cell word → ⊥) (Encodes b code cell)
  word_exact cell j is = go j.verdict j.word (cc) (cc)
    where
      go
          : (v : Verdict) (w : ℕ) → v ≡ (code.judged cell).verdict → w ≡ (code.judged cell).word
          → MatchOption (if_sound v w) ((word : ℕ) → Encodes b code cell word → ⊥) (Encodes b code cell)
      go Sound w ev ew = subst (Encodes b code cell) (sym ew) (sound_encodes cell (sym ev))
      go Mended w ev ew = λ word e. cc (encodes_judged cell word e)
      go Bad w ev ew = λ word e. cc (encodes_judged cell word e)

  -- the encoding of 0 is sound, and with its lowest place struck it is not
  pub tells_cells_apart : 0 < b → TellsCellsApart code
  tells_cells_apart some = (
    λ all. cc (all (encoding b code 0), law.intact 0 (pow_pos b)),
    λ all.
        let struck = bit_xor (encoding b code 0) 1 in
        let place : 1 < 2 ^ (b + code.width) = pow_below 0 (b + code.width) (omega arith) in
        let one = ones-ones 1 in
        ⊎_elim
        (λ mends. cc (all struck, (law.mended 0 1 (pow_pos b) place (omega arith) (omega arith)).0))
        (λ none. let finds = law.alert in cc (all struck, law.found 0 1 (pow_pos b) place (omega arith) (omega arith)))
        (cases_lt 0 code.mends),
  )
