-- Tallies: how many treatments were mended and bad, for each bank of 65,536 words.
-- Assumes nothing.
use Rattle.std.specs.Prelude.{ℕ, ◌+◌, ◌/◌, ◌%◌, min, replicate, slice_index_or, slice_set}
use Rattle.codes.specs.declared.verdict.Verdict.{Verdict}
use Rattle.codes.specs.declared.verdict.Verdict.TheVariants.{Sound, Mended, Bad}
use Rattle.rules.specs.declared.tally.Tally.{Tally}
use Rattle.rules.specs.declared.tally.Tallies.{Tallies}

-- the words of a bank
abbrev pub bank_words : ℕ
bank_words = 65536

-- the bank of a word: bits 16 to 18 of its number
abbrev pub bank_of : ℕ → ℕ
bank_of word = word / bank_words % 8

-- a count stops at this
abbrev pub most_count : ℕ
most_count = 65535

abbrev pub one_more : ℕ → ℕ
one_more n = min (n + 1) most_count

abbrev pub tally_of : (mended bad : ℕ) → Tally
tally_of mended bad = record { mended = mended; bad = bad }

-- a tally after one treatment: a mended one and a bad one add 1 to their count
abbrev pub tallied : Tally → Verdict → Tally
tallied t Sound = t
tallied t Mended = tally_of (one_more t.mended) t.bad
tallied t Bad = tally_of t.mended (one_more t.bad)

-- the eight tallies as the power-up leaves them
abbrev pub no_tallies : Tallies
no_tallies = record { banks = replicate 8 (tally_of 0 0) }

-- the tallies after a treatment of that word
abbrev pub tallied_at : Tallies → ℕ → Verdict → Tallies
tallied_at ts word treated =
    record { banks = slice_set ts.banks (bank_of word) (tallied (slice_index_or ts.banks (bank_of word) (tally_of 0 0)) treated) }
