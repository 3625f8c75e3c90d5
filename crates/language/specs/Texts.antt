-- The texts of mistakes. Assumes nothing.
use Rattle.std.specs.Prelude.{Option, Some, None, option_map, ℕ, ◌/◌, ◌%◌, Bool, cond, not, ◌&&◌, List, [], ◌∷◌, ◌++◌, codes, decimal, ◌==◌, nat_le}
use Rattle.std.specs.List.{flat_map}
use Rattle.std.specs.Char.{digit_char}
use Rattle.language.specs.declared.dialect.Dialect.TheVariants.{Stores, Cards}
use Rattle.language.specs.declared.wrong.Expected.{Expected}
use Rattle.language.specs.declared.wrong.Expected.TheVariants.{Act, CodeName, Make, Number, End, CodeFirst, StoreFirst, PlaceFirst, HeadOnce}
use Rattle.language.specs.declared.wrong.Wrong.{Wrong}

-- what a line should have had
abbrev pub expected_text : Expected → List ℕ
expected_text (Act Stores) = codes "code, store, checks, judge, strike or cell"
expected_text (Act Cards) = codes "code, store, place, checks, judge, dati, datip, dato, datob, strike or cell"
expected_text CodeName = codes "am2960 or parity"
expected_text Make = codes "flat, split, pair, map or banks"
expected_text (Number most) = codes "a number at most " ++ decimal most
expected_text End = codes "the end of the line"
expected_text CodeFirst = codes "a code line first"
expected_text StoreFirst = codes "a store line first"
expected_text PlaceFirst = codes "a place line first"
expected_text (HeadOnce Stores) = codes "code and store once each, in this order"
expected_text (HeadOnce Cards) = codes "code, store and place once each, in this order"

-- a printable byte of ASCII that is no space and no backslash
abbrev pub visible : ℕ → Bool
visible b = nat_le 33 b && (nat_le b 126 && not (b == 92))

-- a visible byte as it is, and any other as `\x` and two hexadecimal digits
abbrev pub escaped : ℕ → List ℕ
escaped b = cond (visible b) (b ∷ []) (codes "\\x" ++ (digit_char (b / 16) ∷ digit_char (b % 16) ∷ []))

-- the word that was found, or the end of the line
abbrev pub found_text : Option (List ℕ) → List ℕ
found_text None = codes "the end of the line"
found_text (Some w) = flat_map escaped w

-- what was expected and what was found
abbrev pub mistake_text : Wrong → List ℕ
mistake_text w = codes "expected " ++ (expected_text w.expected ++ (codes ", found " ++ found_text (option_map (λ word. word.now) w.found)))

-- the message on a mistake in the line of that number
abbrev pub wrong_text : ℕ → Wrong → List ℕ
wrong_text line w = codes "line " ++ (decimal line ++ (codes ": " ++ mistake_text w))
