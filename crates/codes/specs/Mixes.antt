-- The columns of the set bits of a mask, joined: what a change of these data bits adds to the syndrome. For any list of columns.
-- Assumes nothing.
use Rattle.std.specs.Prelude.{◌≡◌, ℕ, suc, ◌*◌, ◌/◌, ◌%◌, ◌^◌, ◌<◌, Bool, true, false, cond, ◌⊎◌, List, [], ◌∷◌, length, ◌==◌, ◌≢◌, bit_xor, refl}
use Rattle.std.proofs.Common.{sym, ap, ap₂, ◌∙◌, inl, inr, pow-suc, arith, pow_pos}
use Rattle.std.specs.Int.Bits.{xor_assoc, xor_self, xor_zero_r, xor_zero_l}
use Rattle.std.proofs.lemmas.Nat.{xor_mod, xor_shr, xor_lt, zero_from_ones}
use Rattle.std.specs.Int.Count.{ones, ones_step}
use Rattle.std.specs.List.{AllByRecursion}
use Rattle.std.proofs.lemmas.Bool.{ne_eqb, eq-eqb}
use Rattle.codes.specs.Columns.{folded_columns, named_bit, Different}
use Rattle.codes.specs.Ones.{bit_cases, xor_swap, xor_apart, ones_zero, ones_xor}

-- the column where the lowest bit of n is set
abbrev pick : ℕ → ℕ → ℕ
pick n c = cond (n % 2 == 1) c 0

unfoldable pub mix : List ℕ → ℕ → ℕ
mix [] n = 0
mix (c ∷ cs) n = bit_xor (pick n c) (mix cs (n / 2))

pub folded_mix : (start : ℕ) (cs : List ℕ) (word : ℕ) → folded_columns start cs word ≡ bit_xor start (mix cs word)
unfolding folded_columns mix
folded_mix start [] word = sym (xor_zero_r start)
folded_mix start (c ∷ cs) word = folded_mix (cond (word % 2 == 1) (bit_xor start c) start) cs (word / 2) ∙ go (word % 2 == 1)
  where
    go : (b : Bool) → bit_xor (cond b (bit_xor start c) start) (mix cs (word / 2)) ≡ bit_xor start (bit_xor (cond b c 0) (mix cs (word / 2)))
    go true = xor_assoc start c (mix cs (word / 2))
    go false = ap (bit_xor start) (sym (xor_zero_l (mix cs (word / 2))))

pick_xor : (a b c : ℕ) → pick (bit_xor a b) c ≡ bit_xor (pick a c) (pick b c)
pick_xor a b c = ap (λ (x : ℕ). cond (x == 1) c 0) (xor_mod a b 1) ∙ go (bit_cases a) (bit_cases b)
  where
    go
        : (a % 2 ≡ 0) ⊎ (a % 2 ≡ 1) → (b % 2 ≡ 0) ⊎ (b % 2 ≡ 1)
        → cond (bit_xor (a % 2) (b % 2) == 1) c 0 ≡ bit_xor (pick a c) (pick b c)
    go (inl ea) (inl eb) = rw (ea, eb) refl
    go (inl ea) (inr eb) = rw (ea, eb) (sym (xor_zero_l c))
    go (inr ea) (inl eb) = rw (ea, eb) (sym (xor_zero_r c))
    go (inr ea) (inr eb) = rw (ea, eb) (sym (xor_self c))

-- the change by two masks together is the change by one after the other
pub mix_xor : (cs : List ℕ) (a b : ℕ) → mix cs (bit_xor a b) ≡ bit_xor (mix cs a) (mix cs b)
unfolding mix
mix_xor [] a b = refl
mix_xor (c ∷ cs) a b =
    ap₂ bit_xor (pick_xor a b c) (ap (mix cs) (xor_shr a b 1) ∙ mix_xor cs (a / 2) (b / 2))
    ∙ xor_swap (pick a c) (pick b c) (mix cs (a / 2)) (mix cs (b / 2))

pub mix_zero : (cs : List ℕ) → mix cs 0 ≡ 0
unfolding mix
mix_zero [] = refl
mix_zero (c ∷ cs) = xor_zero_l (mix cs 0) ∙ mix_zero cs

pub mix_below : (k : ℕ) (cs : List ℕ) (n : ℕ) → AllByRecursion (λ c. c < 2 ^ k) cs → mix cs n < 2 ^ k
unfolding mix
mix_below k [] n h = pow_pos k
mix_below k (c ∷ cs) n h = xor_lt k (pick n c) (mix cs (n / 2)) (go (n % 2 == 1)) (mix_below k cs (n / 2) h.1)
  where
    go : (b : Bool) → cond b c 0 < 2 ^ k
    go true = h.0
    go false = pow_pos k

half_below : (k n : ℕ) → n < 2 ^ suc k → n / 2 < 2 ^ k
half_below k n h = let double = pow-suc 2 k in omega arith

-- where every column has an odd number of ones, the syndrome of a change is as even as its places
pub mix_ones
    : (k : ℕ) (cs : List ℕ) (n : ℕ) → AllByRecursion (λ c. c < 2 ^ k) cs → AllByRecursion (λ c. ones c % 2 ≡ 1) cs → n < 2 ^ length cs
    → ones (mix cs n) % 2 ≡ ones n % 2
unfolding mix ones
mix_ones k [] n below odd h = let z : n ≡ 0 = omega arith in rw z refl
mix_ones k (c ∷ cs) n below odd h =
    let step = ones_step n in
    let rest = mix_ones k cs (n / 2) below.1 odd.1 (half_below (length cs) n h) in
    elim (bit_cases n) [
      | inl z ↦ rw (z, xor_zero_l (mix cs (n / 2))) (omega arith)
      | inr z ↦
          let both = ones_xor k c (mix cs (n / 2)) below.0 (mix_below k cs (n / 2) below.1) in
          let here = odd.0 in
          rw z (omega arith)
    ]

-- with one set bit the mix is a column, so it has what every column has
pub one_column : (P : ℕ → Type 0) (cs : List ℕ) (n : ℕ) → n < 2 ^ length cs → ones n ≡ 1 → AllByRecursion P cs → P (mix cs n)
unfolding mix
one_column P [] n h one all = absurd (let none = ones_zero n (omega arith) in omega arith)
one_column P (c ∷ cs) n h one all =
    let step = ones_step n in
    elim (bit_cases n) [
      | inl z ↦ rw (z, xor_zero_l (mix cs (n / 2))) (one_column P cs (n / 2) (half_below (length cs) n h) (omega arith) all.1)
      | inr z ↦
          let rest : n / 2 ≡ 0 = zero_from_ones (n / 2) (omega arith) in
          rw (z, rest, mix_zero cs, xor_zero_r c) all.0
    ]

-- a set bit is named by its column, where the columns differ
pub named_by_column : (cs : List ℕ) (n : ℕ) → n < 2 ^ length cs → ones n ≡ 1 → Different cs → named_bit cs (mix cs n) ≡ n
unfolding mix named_bit
named_by_column [] n h one apart = absurd (let none = ones_zero n (omega arith) in omega arith)
named_by_column (c ∷ cs) n h one apart =
    let step = ones_step n in
    elim (bit_cases n) [
      | inl z ↦
          let rest : ones (n / 2) ≡ 1 = omega arith in
          let other = one_column (λ x. x ≢ c) cs (n / 2) (half_below (length cs) n h) rest apart.0 in
          let no = ne_eqb c (mix cs (n / 2)) (λ q. other (sym q)) in
          let again = named_by_column cs (n / 2) (half_below (length cs) n h) rest apart.1 in
          rw (z, xor_zero_l (mix cs (n / 2)), no, again) (omega arith)
      | inr z ↦
          let rest : n / 2 ≡ 0 = zero_from_ones (n / 2) (omega arith) in
          let yes = eq-eqb c c refl in
          rw (z, rest, mix_zero cs, xor_zero_r c, yes) (omega arith)
    ]

-- two set bits never cancel, where the columns differ
pub two_columns : (cs : List ℕ) (n : ℕ) → n < 2 ^ length cs → ones n ≡ 2 → Different cs → mix cs n ≢ 0
unfolding mix
two_columns [] n h two apart = let none = ones_zero n (omega arith) in λ e. omega arith
two_columns (c ∷ cs) n h two apart =
    let step = ones_step n in
    elim (bit_cases n) [
      | inl z ↦ rw (z, xor_zero_l (mix cs (n / 2))) (two_columns cs (n / 2) (half_below (length cs) n h) (omega arith) apart.1)
      | inr z ↦
          let other = one_column (λ x. x ≢ c) cs (n / 2) (half_below (length cs) n h) (omega arith) apart.0 in
          rw z (λ q. other (sym (xor_apart c (mix cs (n / 2)) q)))
    ]

-- a syndrome that is no column names nothing
pub names_nothing : (cs : List ℕ) (s : ℕ) → AllByRecursion (λ x. x ≢ s) cs → named_bit cs s ≡ 0
unfolding named_bit
names_nothing [] s none = refl
names_nothing (c ∷ cs) s none = let no = ne_eqb c s none.0 in let rest = names_nothing cs s none.1 in rw (no, rest) refl

pub named_below : (cs : List ℕ) (s : ℕ) → named_bit cs s < 2 ^ length cs
unfolding named_bit
named_below [] s = omega arith
named_below (c ∷ cs) s = go (c == s) (named_below cs s)
  where
    go : (b : Bool) → named_bit cs s < 2 ^ length cs → cond b 1 (2 * named_bit cs s) < 2 ^ length (c ∷ cs)
    go true rest = let double = pow-suc 2 (length cs) in omega arith
    go false rest = let double = pow-suc 2 (length cs) in omega arith
