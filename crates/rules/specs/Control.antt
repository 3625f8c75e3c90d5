-- The control word: its bits, and what they say of a word, of a verdict and of the checks that are written.
-- Assumes nothing.
use Rattle.std.specs.Prelude.{ℕ, ◌/◌, Bool, true, false, cond, not, ◌&&◌, ◌||◌, ◌==◌, bit_and, bit_or}
use Rattle.codes.specs.declared.verdict.Verdict.{Verdict}
use Rattle.codes.specs.declared.verdict.Verdict.TheVariants.{Sound, Mended, Bad}

-- the bits by their weights: 0, 1, 2, 3, 4, 13, 14 and 15
abbrev pub parity_enable : ℕ
parity_enable = 1

abbrev pub correction_off : ℕ
correction_off = 2

abbrev pub diagnostic : ℕ
diagnostic = 4

abbrev pub pointer : ℕ
pointer = 8

abbrev pub single_error : ℕ
single_error = 16

abbrev pub inhibit : ℕ
inhibit = 8192

abbrev pub high_address : ℕ
high_address = 16384

abbrev pub uncorrectable : ℕ
uncorrectable = 32768

-- these eight bits together: the ones that are kept as they are written
abbrev pub kept_bits : ℕ
kept_bits = 57375

-- the bit of this weight is set
abbrev pub on : ℕ → ℕ → Bool
on bits bit = not (bit_and bits bit == 0)

-- the words of one half of the part that can be guarded
abbrev pub half_words : ℕ
half_words = 16384

-- A guarded word takes no part in diagnostics: bit 13 is set, and the word lies in the half that bit 3 points at.
abbrev pub guarded : ℕ → ℕ → Bool
guarded bits word = on bits inhibit && word / half_words == cond (on bits pointer) 1 0

-- The treatment of a cell: the verdict on it, but where correction is off and the word is not guarded, mended becomes bad.
abbrev pub treatment : ℕ → Bool → Verdict → Verdict
treatment bits guard Sound = Sound
treatment bits guard Mended = cond (on bits correction_off && not guard) Bad Mended
treatment bits guard Bad = Bad

abbrev pub is_mended : Verdict → Bool
is_mended Sound = false
is_mended Mended = true
is_mended Bad = false

abbrev pub is_bad : Verdict → Bool
is_bad Sound = false
is_bad Mended = false
is_bad Bad = true

-- bit 4 is set by a mended verdict, but for a guarded word while correction is off outside diagnostic mode
abbrev pub marks_single : ℕ → Bool → Verdict → Bool
marks_single bits guard verdict = is_mended verdict && not (on bits correction_off && (not (on bits diagnostic) && guard))

-- Block and syndrome are logged outside diagnostic mode, but for a guarded word while correction is off:
-- by a bad treatment always, by a mended one while bit 15 is clear, by a sound one never.
abbrev pub logs : ℕ → Bool → Verdict → Bool
logs bits guard treated =
    (not (on bits diagnostic) && not (on bits correction_off && guard))
    && (is_bad treated || (is_mended treated && not (on bits uncorrectable)))

-- the bits after an examination: bit 4 and bit 15 may come on
abbrev pub bits_after : ℕ → Bool → Verdict → ℕ
bits_after bits guard verdict =
    bit_or (bit_or bits (cond (marks_single bits guard verdict) single_error 0))
    (cond (is_bad (treatment bits guard verdict)) uncorrectable 0)

-- checks go to and from the latch in diagnostic mode, but for a guarded word
abbrev pub latches : ℕ → Bool → Bool
latches bits guard = on bits diagnostic && not guard
