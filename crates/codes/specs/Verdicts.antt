-- Judging by two tests of the syndrome: is it 0, and if not, is the word lost.
-- Assumes nothing.
use Rattle.std.specs.Prelude.{◌≡◌, ℕ, ◌^◌, ◌<◌, Bool, true, false, cond, ◌==◌, ◌≢◌, refl}
use Rattle.std.proofs.Common.{ap₂}
use Rattle.std.proofs.lemmas.Bool.{eqb-true, ne_eqb}
use Rattle.codes.specs.Cells.{judgement}
use Rattle.codes.specs.declared.verdict.Judgement.{Judgement}
use Rattle.codes.specs.declared.verdict.Verdict.TheVariants.{Sound, Mended, Bad}
use Rattle.codes.specs.Syndromes.{Judges}

abbrev pub by_tests : Bool → Bool → (stored word s : ℕ) → Judgement
by_tests clear lost stored word s = cond clear (judgement Sound stored s) (cond lost (judgement Bad stored s) (judgement Mended word s))

shown : (clear lost : Bool) (stored word s : ℕ) → (by_tests clear lost stored word s).syndrome ≡ s
shown true lost stored word s = refl
shown false true stored word s = refl
shown false false stored word s = refl

sound_clear : (clear lost : Bool) (stored word s : ℕ) → (by_tests clear lost stored word s).verdict ≡ Sound → clear ≡ true
sound_clear true lost stored word s e = refl
sound_clear false true stored word s e = cc
sound_clear false false stored word s e = cc

bad_stored : (clear lost : Bool) (stored word s : ℕ) → (by_tests clear lost stored word s).verdict ≡ Bad → (by_tests clear lost stored word s).word ≡ stored
bad_stored true lost stored word s e = refl
bad_stored false true stored word s e = refl
bad_stored false false stored word s e = cc

fits : (clear lost : Bool) (stored word s n : ℕ) → stored < n → word < n → (by_tests clear lost stored word s).word < n
fits true lost stored word s n h l = h
fits false true stored word s n h l = h
fits false false stored word s n h l = l

module _ (lost : ℕ → Bool) (word : ℕ → ℕ → ℕ) where
  abbrev pub judge_by_tests : ℕ → ℕ → Judgement
  judge_by_tests stored s = by_tests (s == 0) (lost s) stored (word stored s) s

  pub judges_by_tests : (b : ℕ) → ((stored s : ℕ) → stored < 2 ^ b → word stored s < 2 ^ b) → Judges b judge_by_tests
  judges_by_tests b below = record {
    clear = λ stored. refl;
    shown = λ stored s. shown (s == 0) (lost s) stored (word stored s) s;
    sound_clear = λ stored s e. eqb-true s 0 (sound_clear (s == 0) (lost s) stored (word stored s) s e);
    bad_stored = λ stored s. bad_stored (s == 0) (lost s) stored (word stored s) s;
    fits = λ stored s h. fits (s == 0) (lost s) stored (word stored s) s (2 ^ b) h (below stored s h);
  }

  pub lost_bad : (stored s : ℕ) → (s ≢ 0) → lost s ≡ true → (judge_by_tests stored s).verdict ≡ Bad
  lost_bad stored s some gone = ap₂ (λ x y. (by_tests x y stored (word stored s) s).verdict) (ne_eqb s 0 some) gone

  pub kept_mended : (stored s : ℕ) → (s ≢ 0) → lost s ≡ false → judge_by_tests stored s ≡ judgement Mended (word stored s) s
  kept_mended stored s some left = ap₂ (λ x y. by_tests x y stored (word stored s) s) (ne_eqb s 0 some) left
