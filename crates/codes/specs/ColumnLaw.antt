-- The law of codes by columns: for any different columns, each with an odd number of ones and more than one.
-- By linearity: the syndrome of a changed word hangs on the change alone.
-- Assumes nothing.
use Rattle.std.specs.Prelude.{◌≡◌, ℕ, ◌+◌, ◌%◌, ◌^◌, ◌<◌, ◌≤◌, List, length, ◌≢◌, bit_xor, count_ones, nat_eq, refl}
use Rattle.std.proofs.Common.{sym, ap, ap₂, ◌∙◌, subst, inl, inr, arith, lit<, lit≤}
use Rattle.std.specs.Int.Bits.{xor_assoc, xor_self, xor_zero_r, xor_zero_l}
use Rattle.std.proofs.lemmas.Nat.{xor_lt, zero_from_ones}
use Rattle.std.specs.List.{AllByRecursion}
use Rattle.std.proofs.ByRecursion.{All-weaker}
use Rattle.std.proofs.lemmas.Bool.{eq-eqb, ne_eqb, cases_eq}
use Rattle.codes.specs.Cells.{most_checks, by_syndrome}
use Rattle.codes.specs.Law.{Lawful}
use Rattle.codes.specs.declared.verdict.Judgement.{Judgement}
use Rattle.codes.specs.Columns.{folded_columns, named_bit, judged_by_columns, checks_of_zero, Different, ThreeOrFive, AnyColumnsLawful}
use Rattle.codes.specs.Ones.{xor_swap, xor_apart, ones_zero, ones_xor}
use Rattle.codes.specs.Mixes.{mix, folded_mix, mix_xor, mix_zero, mix_below, mix_ones, one_column, named_by_column, two_columns, names_nothing, named_below}
use Rattle.codes.specs.Syndromes.{after_change, Changes, lawful_by_syndrome}
use Rattle.codes.specs.Verdicts.{judges_by_tests, lost_bad, kept_mended}

-- a syndrome with an odd number of ones is not 0
odd_some : (s : ℕ) → count_ones s % 2 ≡ 1 → s ≢ 0
odd_some s odd z = let none = ones_zero s z in omega arith

module _ (k start : ℕ) (cs : List ℕ) (start_below : start < 2 ^ k) (small : AllByRecursion (λ c. c < 2 ^ k) cs) (odd : AllByRecursion (λ c. count_ones c % 2 ≡ 1) cs) (several : AllByRecursion (λ c. count_ones c ≢ 1) cs) (different : Different cs) where
  checks_below : (word : ℕ) → folded_columns start cs word < 2 ^ k
  checks_below word = rw (folded_mix start cs word) (xor_lt k start (mix cs word) start_below (mix_below k cs word small))

  -- the syndrome of a word changed by d in its data and by e in its checks
  syndrome_of_change
      : (word d e : ℕ)
      → bit_xor (folded_columns start cs (bit_xor word d)) (bit_xor (folded_columns start cs word) e) ≡ bit_xor (mix cs d) e
  syndrome_of_change word d e =
      let base : ℕ = bit_xor start (mix cs word) in
      ap₂ (λ (x y : ℕ). bit_xor x (bit_xor y e)) (folded_mix start cs (bit_xor word d) ∙ ap (bit_xor start) (mix_xor cs word d)) (folded_mix start cs word)
      ∙ ap (λ (x : ℕ). bit_xor x (bit_xor base e)) (sym (xor_assoc start (mix cs word) (mix cs d)))
      ∙ xor_swap base (mix cs d) base e ∙ ap (λ (x : ℕ). bit_xor x (bit_xor (mix cs d) e)) (xor_self base) ∙ xor_zero_l (bit_xor (mix cs d) e)

  judged_change : (word d e : ℕ)
      → after_change (length cs) k (folded_columns start cs) (judged_by_columns cs) (λ w h. checks_below w) word d e
      ≡ judged_by_columns cs (bit_xor word d) (bit_xor (mix cs d) e)
  judged_change word d e = ap (judged_by_columns cs (bit_xor word d)) (syndrome_of_change word d e)

  -- the syndrome is as even as the number of places changed
  even_change : (d e : ℕ) → d < 2 ^ length cs → e < 2 ^ k → count_ones (bit_xor (mix cs d) e) % 2 ≡ (count_ones e + count_ones d) % 2
  even_change d e hd he =
      let both = ones_xor k (mix cs d) e (mix_below k cs d small) he in
      let part = mix_ones k cs d small odd hd in
      omega arith

  -- one check bit is no column
  no_column : (e : ℕ) → count_ones e ≡ 1 → AllByRecursion (λ c. c ≢ e) cs
  no_column e one = All-weaker (λ c. count_ones c ≢ 1) (λ c. c ≢ e) (λ c many same. many (ap count_ones same ∙ one)) cs several

  -- one changed place: the word comes back
  one_back : (word d e : ℕ) → d < 2 ^ length cs → e < 2 ^ k → count_ones e + count_ones d ≡ 1 → bit_xor (bit_xor word d) (named_bit cs (bit_xor (mix cs d) e)) ≡ word
  one_back word d e hd he one =
      elim (cases_eq (count_ones d) 0) [
        | inl z ↦
            let d0 : d ≡ 0 = zero_from_ones d z in
            let none : named_bit cs e ≡ 0 = names_nothing cs e (no_column e (omega arith)) in
            rw (d0, mix_zero cs, xor_zero_l e, none, xor_zero_r word, xor_zero_r word) refl
        | inr z ↦
            let e0 : e ≡ 0 = zero_from_ones e (omega arith) in
            let named : named_bit cs (mix cs d) ≡ d = named_by_column cs d hd (omega arith) different in
            rw (e0, xor_zero_r (mix cs d), named) (xor_assoc word d d ∙ ap (bit_xor word) (xor_self d) ∙ xor_zero_r word)
      ]

  -- two changed places never cancel
  two_shown : (d e : ℕ) → d < 2 ^ length cs → e < 2 ^ k → count_ones e + count_ones d ≡ 2 → bit_xor (mix cs d) e ≢ 0
  two_shown d e hd he two q =
      let same : mix cs d ≡ e = xor_apart (mix cs d) e q in
      elim (cases_eq (count_ones d) 0) [
        | inl z ↦
            let e0 : e ≡ 0 = sym same ∙ ap (mix cs) (zero_from_ones d z) ∙ mix_zero cs in
            let none = ones_zero e e0 in
            omega arith
        | inr z ↦ elim (cases_eq (count_ones d) 1) [
          | inl one ↦ one_column (λ c. c ≢ e) cs d hd one (no_column e (omega arith)) same
          | inr more ↦ two_columns cs d hd (omega arith) different (same ∙ zero_from_ones e (omega arith))
        ]
      ]

  changes : (most : ℕ) → k ≤ most → Changes (length cs) k (folded_columns start cs) (judged_by_columns cs) (λ w h. checks_below w) most 1 2
  changes most narrow = record {
    narrow = narrow;
    ordered = lit≤ tt;
    alert = lit≤ tt;
    mended = λ word d e h hd he some few.
        let s : ℕ = bit_xor (mix cs d) e in
        let one : count_ones e + count_ones d ≡ 1 = omega arith in
        let odd_s : count_ones s % 2 ≡ 1 = even_change d e hd he ∙ ap (λ (x : ℕ). x % 2) one in
        let is = judged_change word d e
        ∙ kept_mended (λ (x : ℕ). nat_eq (count_ones x % 2) 0) (λ (stored x : ℕ). bit_xor stored (named_bit cs x)) (bit_xor word d) s (odd_some s odd_s) (ne_eqb (count_ones s % 2) 0 (λ z. omega arith)) in
        (ap (λ (j : Judgement). j.verdict) is, ap (λ (j : Judgement). j.word) is ∙ one_back word d e hd he one);
    found = λ word d e h hd he some few.
        let s : ℕ = bit_xor (mix cs d) e in
        let two : count_ones e + count_ones d ≡ 2 = omega arith in
        let even_s : count_ones s % 2 ≡ 0 = even_change d e hd he ∙ ap (λ (x : ℕ). x % 2) two in
        ap (λ (j : Judgement). j.verdict) (judged_change word d e)
        ∙ lost_bad (λ (x : ℕ). nat_eq (count_ones x % 2) 0) (λ (stored x : ℕ). bit_xor stored (named_bit cs x)) (bit_xor word d) s (two_shown d e hd he two) (eq-eqb (count_ones s % 2) 0 even_s);
  }

  pub columns_lawful : (most : ℕ) → k ≤ most → Lawful (length cs) most (by_syndrome (length cs) k 1 2 (folded_columns start cs) (judged_by_columns cs))
  columns_lawful most narrow =
      lawful_by_syndrome (length cs) k most 1 2 (folded_columns start cs) (judged_by_columns cs) (λ w h. checks_below w)
      (judges_by_tests (λ (x : ℕ). nat_eq (count_ones x % 2) 0) (λ (stored x : ℕ). bit_xor stored (named_bit cs x)) (length cs)
      (λ stored s h. xor_lt (length cs) stored (named_bit cs s) h (named_below cs s)))
      (changes most narrow)

pub any_columns_lawful : AnyColumnsLawful
any_columns_lawful cs good =
    let odd = All-weaker ThreeOrFive (λ c. count_ones c % 2 ≡ 1) (λ c h. grind arith) cs good.three_or_five in
    let several = All-weaker ThreeOrFive (λ c. count_ones c ≢ 1) (λ c h e. grind arith) cs good.three_or_five in
    subst (λ (b : ℕ). Lawful b most_checks (by_syndrome b 6 1 2 (folded_columns checks_of_zero cs) (judged_by_columns cs))) good.sixteen
    (columns_lawful 6 checks_of_zero cs (lit< tt) good.small odd several good.different most_checks (lit≤ tt))
