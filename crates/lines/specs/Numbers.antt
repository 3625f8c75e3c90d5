-- The number that a word writes. Assumes nothing.
use Rattle.std.specs.Prelude.{ℕ, ◌+◌, ◌-◌, ◌*◌, ◌^◌, Bool, true, cond, ◌&&◌, List, [], ◌∷◌, length, take, drop, Some, None, codes, Option, nat_le, nat_lt}
use Rattle.std.specs.Str.{bytes_eq}

-- a digit of the base: `0` is 48, and the others follow it
abbrev pub digit : ℕ → ℕ → Bool
digit base b = nat_le 48 b && nat_lt b (48 + base)

-- digits of the base and nothing else
abbrev pub digits : ℕ → List ℕ → Bool
digits base [] = true
digits base (b ∷ bs) = digit base b && digits base bs

-- the sum of the digits, each times the base to the power of its place
abbrev pub value : ℕ → List ℕ → ℕ
value base [] = 0
value base (b ∷ bs) = (b - 48) * base ^ length bs + value base bs

-- the value of one digit or more
abbrev pub numeral : ℕ → List ℕ → Option ℕ
numeral base [] = None
numeral base (b ∷ bs) = cond (digits base (b ∷ bs)) (Some (value base (b ∷ bs))) None

-- the number that a word writes: octal after `0o`, else decimal
abbrev pub written : List ℕ → Option ℕ
written w = cond (bytes_eq (take 2 w) (codes "0o")) (numeral 8 (drop 2 w)) (numeral 10 w)

-- the number, if it does not pass the limit
abbrev pub at_most : ℕ → Option ℕ → Option ℕ
at_most most None = None
at_most most (Some n) = cond (nat_le n most) (Some n) None
