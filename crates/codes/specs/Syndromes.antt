-- Codes that judge a cell by its stored data and its syndrome: their law, from what they say of each syndrome.
-- Assumes nothing.
use Rattle.std.specs.Prelude.{◌≡◌, ℕ, ◌+◌, ◌/◌, ◌%◌, ◌^◌, ◌<◌, ◌≤◌, bit_xor, count_ones}
use Rattle.std.proofs.Common.{sym, ap, ap₂, ◌∙◌, arith}
use Rattle.std.specs.Int.Bits.{xor_self}
use Rattle.codes.specs.Cells.{judgement, data_of, cell_of, syndrome_of, by_syndrome}
use Rattle.codes.specs.Law.{Lawful}
use Rattle.codes.specs.declared.verdict.Judgement.{Judgement}
use Rattle.codes.specs.declared.verdict.Verdict.TheVariants.{Sound, Mended, Bad}
use Rattle.codes.specs.Fields.{data_below, data_of_cell, checks_of_cell, data_of_places, checks_of_places, changed_data, changed_checks, ones_parts, mask_checks_below}

-- what such a code says of a word of b bits and a syndrome
pub record Judges (b : ℕ) (judge : ℕ → ℕ → Judgement) : Type 0 where
  pub clear : (stored : ℕ) → judge stored 0 ≡ judgement Sound stored 0
  pub shown : (stored s : ℕ) → (judge stored s).syndrome ≡ s
  pub sound_clear : (stored s : ℕ) → (judge stored s).verdict ≡ Sound → s ≡ 0
  pub bad_stored : (stored s : ℕ) → (judge stored s).verdict ≡ Bad → (judge stored s).word ≡ stored
  pub fits : (stored s : ℕ) → stored < 2 ^ b → (judge stored s).word < 2 ^ b

module _ (b k : ℕ) (checks : ℕ → ℕ) (judge : ℕ → ℕ → Judgement) (fit : (word : ℕ) → word < 2 ^ b → checks word < 2 ^ k) where
  -- the judgement of a word whose data a mask changes by d and whose checks by e
  abbrev pub after_change : (word d e : ℕ) → Judgement
  after_change word d e = judge (bit_xor word d) (bit_xor (checks (bit_xor word d)) (bit_xor (checks word) e))

  -- the figures and the changes are what is left to show of each code
  pub record Changes (most r s : ℕ) : Type 0 where
    pub narrow : k ≤ most
    pub ordered : r ≤ s
    pub alert : 1 ≤ s
    pub mended
        : (word d e : ℕ) → word < 2 ^ b → d < 2 ^ b → e < 2 ^ k → 1 ≤ count_ones e + count_ones d → count_ones e + count_ones d ≤ r
        → ((after_change word d e).verdict ≡ Mended) × ((after_change word d e).word ≡ word)
    pub found
        : (word d e : ℕ) → word < 2 ^ b → d < 2 ^ b → e < 2 ^ k → r + 1 ≤ count_ones e + count_ones d → count_ones e + count_ones d ≤ s
        → (after_change word d e).verdict ≡ Bad

module _ (b k most r s : ℕ) (checks : ℕ → ℕ) (judge : ℕ → ℕ → Judgement) (fit : (word : ℕ) → word < 2 ^ b → checks word < 2 ^ k) (says : Judges b judge) where
  judged_changed
      : (word mask : ℕ) → word < 2 ^ b → mask < 2 ^ (b + k)
      → (by_syndrome b k r s checks judge).judged (bit_xor (cell_of b word (checks word)) mask)
      ≡ after_change b k checks judge fit word (mask % 2 ^ b) (mask / 2 ^ b)
  judged_changed word mask h l =
      ap₂ (λ (d e : ℕ). judge d (bit_xor (checks d) e)) (changed_data b word (checks word) mask h)
      (changed_checks b k word (checks word) mask h (fit word h) l)

  judged_encoding : (word : ℕ) → word < 2 ^ b → (by_syndrome b k r s checks judge).judged (cell_of b word (checks word)) ≡ judgement Sound word 0
  judged_encoding word h =
      ap₂ (λ (d e : ℕ). judge d (bit_xor (checks d) e)) (data_of_cell b word (checks word) h) (checks_of_cell b k word (checks word) h (fit word h))
      ∙ ap (judge word) (xor_self (checks word)) ∙ says.clear word

  pub lawful_by_syndrome : Changes b k checks judge fit most r s → Lawful b most (by_syndrome b k r s checks judge)
  lawful_by_syndrome changes = record {
    narrow = changes.narrow;
    ordered = changes.ordered;
    alert = changes.alert;
    checks_fit = fit;
    data_fit = λ cell. says.fits (data_of b cell) (syndrome_of b k checks cell) (data_below b cell);
    placed = λ cell.
        ap₂ (λ (d e : ℕ). judge d (bit_xor (checks d) e)) (sym (data_of_places b k cell)) (sym (checks_of_places b k cell));
    syndrome = λ cell. says.shown (data_of b cell) (syndrome_of b k checks cell);
    sound_clear = λ cell e.
        says.shown (data_of b cell) (syndrome_of b k checks cell) ∙ says.sound_clear (data_of b cell) (syndrome_of b k checks cell) e;
    clear_sound = λ cell e.
        let s0 = sym (says.shown (data_of b cell) (syndrome_of b k checks cell)) ∙ e in
        let clear = ap (judge (data_of b cell)) s0 ∙ says.clear (data_of b cell) in
        cc;
    bad_stored = λ cell. says.bad_stored (data_of b cell) (syndrome_of b k checks cell);
    intact = judged_encoding;
    mended = λ word mask h l some few.
        let j = judged_changed word mask h l in
        let parts = ones_parts b mask in
        let m = changes.mended word (mask % 2 ^ b) (mask / 2 ^ b) h (data_below b mask) (mask_checks_below b k mask l) (omega arith) (omega arith) in
        (cc, cc);
    found = λ word mask h l some few.
        let parts = ones_parts b mask in
        let j = judged_changed word mask h l in
        let bad = changes.found word (mask % 2 ^ b) (mask / 2 ^ b) h (data_below b mask) (mask_checks_below b k mask l) (omega arith) (omega arith) in
        cc;
  }
