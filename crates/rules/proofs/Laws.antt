-- The transfers keep their laws. Assumes nothing.
use Rattle.std.proofs.Common.{◌≡◌, ℕ, true, false, Ok, Err, Result, refl, arith}
use Rattle.codes.specs.Cells.{Coding}
use Rattle.codes.specs.declared.verdict.Verdict.TheVariants.{Bad}
use Rattle.stores.specs.Meaning.{Meaning, with_content}
use Rattle.rules.specs.declared.placement.make.Target.{Target}
use Rattle.rules.specs.declared.placement.make.Target.TheVariants.{Word, ControlWord}
use Rattle.rules.specs.declared.refusal.Refusal.{Refusal}
use Rattle.rules.specs.Calls.{Call, dati, datip, dato, datob, wrote}
use Rattle.rules.specs.State.{State}
use Rattle.rules.specs.Targets.{Placed, target_of}
use Rattle.rules.specs.Transfers.{act, byte_to}
use Rattle.rules.specs.Laws.{is_refused, goes_to, TransferLaws}

-- a cell that is set to what it holds
pub same_content : (m : Meaning) (cell content : ℕ) → m.at cell ≡ Ok content → with_content m cell content ≡ m
same_content m cell content e = grind arith

module _ (code : Coding) (p : Placed) where
  stays : (s : State) (q : Call) → is_refused (act code p s q).answer ≡ true → (act code p s q).after ≡ s
  unfolding act
  stays s (dati address) e = grind arith
  stays s (datip address) e = grind arith
  stays s (dato address given) e = grind arith
  stays s (datob address byte) e = grind arith

  others_stay : (s : State) (q : Call) (word : ℕ) → goes_to p q word ≡ false → (act code p s q).after.store.at word ≡ s.store.at word
  unfolding act
  others_stay s (dati address) word e = grind arith
  others_stay s (datip address) word e = grind arith
  others_stay s (dato address given) word e = grind arith
  others_stay s (datob address byte) word e = grind arith

  byte_leaves : (s : State) (address byte : ℕ) (to : Result Target Refusal) → (byte_to code p s address byte to).answer ≡ wrote Bad → (byte_to code p s address byte to).after.store ≡ s.store
  byte_leaves s address byte (Ok (Word word)) e = grind (arith, same_content s.store word)
  byte_leaves s address byte (Ok ControlWord) e = refl
  byte_leaves s address byte (Err r) e = refl

  pub transfer_laws : TransferLaws code p
  unfolding act
  transfer_laws = record {
    refusals_change_nothing = stays;
    other_cells_stay = others_stay;
    dati_leaves_cells = λ s address. grind arith;
    datip_leaves_cells = λ s address. grind arith;
    lost_bytes_leave_cells = λ s address byte. byte_leaves s address byte (target_of p address);
  }
