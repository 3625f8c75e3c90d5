-- A line of bytes as its words. Assumes nothing.
use Rattle.std.specs.Prelude.{ℕ, ◌-◌, Bool, cond, ◌||◌, List, [], ◌∷◌, length, take, ◌==◌, slice_index, Option, Some, None, ◌≡◌, option_map}
use Rattle.std.specs.Borrow.{Bor}
use Rattle.std.specs.List.{before_first}
use Rattle.lines.specs.declared.words.Words.{Words}

-- how many bytes end a line: a line feed, or a carriage return and a line feed; the last line of a text may have neither
abbrev pub end_length : List ℕ → ℕ
end_length bs = cond (slice_index bs (length bs - 1) == 10) (cond (slice_index bs (length bs - 2) == 13) 2 1) 0

-- a line without its end
abbrev pub without_end : List ℕ → List ℕ
without_end bs = take (length bs - end_length bs) bs

-- what stands before the first `#`, which is 35
abbrev pub uncommented : List ℕ → List ℕ
uncommented bs = before_first (λ b. b == 35) bs

-- a space, which is 32, or a tab, which is 9
abbrev pub blank : ℕ → Bool
blank b = b == 32 || b == 9

-- a byte more at the front of the first piece
abbrev pub lengthened : ℕ → List (List ℕ) → List (List ℕ)
lengthened b [] = (b ∷ []) ∷ []
lengthened b (w ∷ ws) = (b ∷ w) ∷ ws

-- the pieces that the blanks of a line part, with the empty ones
abbrev pub pieces : List ℕ → List (List ℕ)
pieces [] = [] ∷ []
pieces (b ∷ bs) = cond (blank b) ([] ∷ pieces bs) (lengthened b (pieces bs))

-- the pieces that are not empty
abbrev pub nonempty : List (List ℕ) → List (List ℕ)
nonempty [] = []
nonempty ([] ∷ ws) = nonempty ws
nonempty ((b ∷ w) ∷ ws) = (b ∷ w) ∷ nonempty ws

-- the words of a line
abbrev pub words : List ℕ → List (List ℕ)
words bs = nonempty (pieces bs)

-- the first word, if there is one
abbrev pub first : List (List ℕ) → Option (List ℕ)
first [] = None
first (w ∷ ws) = Some w

-- the words after the first
abbrev pub others : List (List ℕ) → List (List ℕ)
others [] = []
others (w ∷ ws) = ws

-- the words that a cursor has yet to give
abbrev pub left : Words → List (List ℕ)
left c = words c.rest.now

-- a cursor gave the first of the words that were left, if there was one, and goes on with the others
pub record GivesWord (before : Words) (given : Option (Bor (List ℕ))) (after : Words) : Type 0 where
  pub word : option_map (λ w. w.now) given ≡ first (left before)
  pub rest : left after ≡ others (left before)
