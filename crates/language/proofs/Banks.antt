-- Laws of the list of a line's banks. Assumes nothing.
use Rattle.std.proofs.Common.{◌≡◌, ℕ, ◌+◌, ◌<◌, ◌≤◌, List, [], ◌∷◌, ◌++◌, length, take, set, replicate, Some, Ok, Err, Result, sym, refl, ap, ◌∙◌, append_assoc, arith}
use Rattle.std.proofs.lemmas.List.{same_lists, places, length-set, get_or-set_same, take-append-le, length_push}
use Rattle.std.proofs.lemmas.Option.{none-some, same_Some}
use Rattle.std.proofs.lemmas.Bool.{cases_eq}
use Rattle.maps.specs.declared.bank.Bank.{Bank}
use Rattle.language.specs.declared.make.BankList.{BankList}
use Rattle.lines.specs.Lines.{first, others}
use Rattle.language.specs.Acts.{Mistake, and_then, numbered, most_number, pairs, bank, banks_of, most_listed, listed, bank_list}

-- the first of the places that are left takes y
filled : {X : Type 0} (n : ℕ) (e : X) (xs : List X) (y : X) → length xs < n → set (take n (xs ++ replicate n e)) (length xs) y ≡ take n ((xs ++ y ∷ []) ++ replicate n e)
filled n e xs y h = same_lists _ _ (grind (arith, places, length-set)) (λ k d l. grind (arith, places, length-set, get_or-set_same, cases_eq k (length xs)))

-- no place is left for y
full : {X : Type 0} (n : ℕ) (e : X) (xs : List X) (y : X) → n ≤ length xs → take n (xs ++ replicate n e) ≡ take n ((xs ++ y ∷ []) ++ replicate n e)
full n e xs y h = simp (append_assoc, take-append-le)

module _ {list : BankList} (seen : List Bank) (b : Bank) (is : list ≡ listed seen) where
  pub listed_more : list.used < most_listed → record { banks = set list.banks list.used b; used = list.used + 1 } ≡ listed (seen ++ b ∷ [])
  listed_more h =
      let n : list.used ≡ length seen = omega (arith, ap (λ l. l.used) is) in
      let more = filled most_listed (bank 0 0) seen b (omega arith) in
      let first_banks : set list.banks list.used b ≡ (listed (seen ++ b ∷ [])).banks = rw (n, ap (λ l. l.banks) is) more in
      let counted : list.used + 1 ≡ (listed (seen ++ b ∷ [])).used = simp length_push (omega arith) in
      λ i. record { banks = first_banks i; used = counted i }

  pub listed_all : most_listed ≤ list.used → list ≡ listed (seen ++ b ∷ [])
  listed_all h =
      let n : most_listed ≤ length seen = omega (arith, ap (λ l. l.used) is) in
      let more = full most_listed (bank 0 0) seen b n in
      let counted : (listed seen).used ≡ (listed (seen ++ b ∷ [])).used = simp length_push (omega arith) in
      is ∙ (λ i. record { banks = more i; used = counted i })

-- the words before the rest gave the list
pub record Read (list : BankList) (rest all : List (List ℕ)) : Type 0 where
  pub seen : List Bank
  pub lists : list ≡ listed seen
  pub follows : bank_list all ≡ and_then (banks_of (pairs rest)) (λ banks. Ok (listed (seen ++ banks)))

pairs_first : (ws : List (List ℕ)) (v : List ℕ) → Some v ≡ first ws → pairs ws ≡ (v, first (others ws)) ∷ pairs (others (others ws))
pairs_first [] v some = absurd (none-some v (sym some))
pairs_first (w ∷ []) v some = rw (same_Some v w some) refl
pairs_first (w ∷ x ∷ ws) v some = rw (same_Some v w some) refl

-- a bank more after those that were seen is one more before those that follow
regrouped : (seen : List Bank) (b : Bank) (r : Result (List Bank) Mistake) → and_then (and_then r (λ banks. Ok (b ∷ banks))) (λ banks. Ok (listed (seen ++ banks))) ≡ and_then r (λ banks. Ok (listed ((seen ++ b ∷ []) ++ banks)))
regrouped seen b (Ok banks) = simp append_assoc
regrouped seen b (Err m) = refl

module _ {list : BankList} (rest all : List (List ℕ)) (v : List ℕ) (some : Some v ≡ first rest) (read : Read list rest all) where
  opened : bank_list all ≡ and_then (banks_of ((v, first (others rest)) ∷ pairs (others (others rest)))) (λ banks. Ok (listed (read.seen ++ banks)))
  opened = rw (pairs_first rest v some) at read.follows

  pub no_length : (offset : ℕ) (m : Mistake) → Ok offset ≡ numbered most_number (Some v) → Err m ≡ numbered most_number (first (others rest)) → Err m ≡ bank_list all
  no_length offset m e f = sym (opened ∙ rw (← e, ← f))

  pub one_more : (after : List (List ℕ)) (offset cells : ℕ) (longer : BankList) → after ≡ others (others rest) → Ok offset ≡ numbered most_number (Some v) → Ok cells ≡ numbered most_number (first (others rest)) → ((seen : List Bank) → list ≡ listed seen → longer ≡ listed (seen ++ bank offset cells ∷ [])) → Read longer after all
  one_more after offset cells longer is e f pushed =
      let b = bank offset cells in
      let next = regrouped read.seen b (banks_of (pairs after)) in
      record { seen = read.seen ++ b ∷ []; lists = pushed read.seen read.lists; follows = opened ∙ rw (← e, ← f, ← is) next }
