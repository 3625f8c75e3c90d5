-- Laws of a line's words. Assumes nothing.
use Rattle.std.proofs.Common.{◌≡◌, ℕ, ◌<◌, ◌≤◌, Bool, true, false, not, List, [], ◌∷◌, length, take, drop, Some, None, position, sym, refl, ap, ◌∙◌, one-add, arith, inl, inr, ◌⊎◌, nat_lt, subst}
use Rattle.std.specs.List.{position_or_len, before_first}
use Rattle.std.proofs.lemmas.Bool.{cases_lt, cond_below, ltb-true}
use Rattle.std.proofs.lemmas.Option.{cond_some, none-some, same_Some}
use Rattle.lines.specs.Lines.{blank, lengthened, pieces, nonempty, words, first, others}

-- a byte of a word
abbrev pub other : ℕ → Bool
other b = not (blank b)

-- how many blanks stand at the front
abbrev pub gap : List ℕ → ℕ
gap bs = position_or_len other bs

-- how many bytes stand before the first blank
abbrev pub run : List ℕ → ℕ
run bs = position_or_len blank bs

others_lengthened : (b : ℕ) (ws : List (List ℕ)) → others (lengthened b ws) ≡ others ws
others_lengthened b [] = refl
others_lengthened b (w ∷ ws) = refl

-- the first piece ends at the first blank
record FirstPiece (bs : List ℕ) : Type 0 where
  ends : pieces bs ≡ take (run bs) bs ∷ others (pieces bs)
  leaves : nonempty (others (pieces bs)) ≡ words (drop (run bs) bs)

first_piece : (bs : List ℕ) → FirstPiece bs
first_piece [] = record { ends = refl; leaves = refl }
first_piece (b ∷ bs) = by (blank b) refl (first_piece bs)
  where
    by : (t : Bool) → blank b ≡ t → FirstPiece bs → FirstPiece (b ∷ bs)
    by true e more = record { ends = simp e; leaves = simp e }
    by false e more =
        let same = others_lengthened b (pieces bs) in
        record { ends = rw (e, one-add, same) (ap (lengthened b) more.ends); leaves = rw (e, one-add, same) more.leaves }

-- blanks alone are no word
no_words : (bs : List ℕ) → length bs ≤ gap bs → words bs ≡ []
no_words [] h = refl
no_words (b ∷ bs) h = by (blank b) refl (no_words bs) h
  where
    by : (t : Bool) → blank b ≡ t → (length bs ≤ gap bs → words bs ≡ []) → length (b ∷ bs) ≤ gap (b ∷ bs) → words (b ∷ bs) ≡ []
    by true e more h = rw e (more (omega (arith, (rw (e, one-add) at h))))
    by false e more h = absurd (omega (arith, (rw e at h)))

-- the words from a place on, which is that of the first byte of a word
abbrev pub WordsFrom : List ℕ → ℕ → Type 0
WordsFrom bs i = words bs ≡ before_first blank (drop i bs) ∷ words (drop (run (drop i bs)) (drop i bs))

words_from_gap : (bs : List ℕ) → gap bs < length bs → WordsFrom bs (gap bs)
words_from_gap [] h = absurd (omega arith)
words_from_gap (b ∷ bs) h = by (blank b) refl (words_from_gap bs) h
  where
    by : (t : Bool) → blank b ≡ t → (gap bs < length bs → WordsFrom bs (gap bs)) → gap (b ∷ bs) < length (b ∷ bs) → WordsFrom (b ∷ bs) (gap (b ∷ bs))
    by true e more h = simp (e, one-add) (more (omega (arith, (rw (e, one-add) at h))))
    by false e more h =
        let piece = first_piece bs in
        let opened : nonempty (lengthened b (pieces bs)) ≡ (b ∷ take (run bs) bs) ∷ words (drop (run bs) bs) = ap (λ ps. nonempty (lengthened b ps)) piece.ends ∙ ap (λ ws. (b ∷ take (run bs) bs) ∷ ws) piece.leaves in
        simp (e, one-add) opened

pub no_word : (bs : List ℕ) → position other bs ≡ None → words bs ≡ []
no_word bs none = by (cases_lt (gap bs) (length bs))
  where
    by : (gap bs < length bs) ⊎ (length bs ≤ gap bs) → words bs ≡ []
    by (inl h) = absurd (none-some (gap bs) (sym none ∙ sym (cond_below (gap bs) (length bs) (Some (gap bs)) None h)))
    by (inr h) = no_words bs h

pub words_from : (bs : List ℕ) (i : ℕ) → position other bs ≡ Some i → WordsFrom bs i
words_from bs i some =
    let found = cond_some (nat_lt (gap bs) (length bs)) (gap bs) i some in
    subst (WordsFrom bs) found.1 (words_from_gap bs (ltb-true (gap bs) (length bs) found.0))

-- words by the first and the others
pub by_first : (ws rest : List (List ℕ)) (v : List ℕ) → Some v ≡ first ws → rest ≡ others ws → ws ≡ v ∷ rest
by_first [] rest v some follows = absurd (none-some v (sym some))
by_first (w ∷ ws) rest v some follows = λ i. sym (same_Some v w some) i ∷ sym follows i
