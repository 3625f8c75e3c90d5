-- What the transfers are for, over every state and every call.
-- Assumes nothing.
use Rattle.std.specs.Prelude.{◌≡◌, ℕ, Bool, true, false, Ok, Err, Result, ◌==◌}
use Rattle.codes.specs.Cells.{Coding}
use Rattle.codes.specs.declared.verdict.Verdict.TheVariants.{Bad}
use Rattle.rules.specs.declared.placement.make.Target.{Target}
use Rattle.rules.specs.declared.placement.make.Target.TheVariants.{Word, ControlWord}
use Rattle.rules.specs.declared.refusal.Refusal.{Refusal}
use Rattle.rules.specs.Calls.{Call, dati, datip, dato, datob, Answer, read, wrote, refused}
use Rattle.rules.specs.State.{State}
use Rattle.rules.specs.Targets.{Placed, target_of}
use Rattle.rules.specs.Transfers.{act}

abbrev pub is_refused : Answer → Bool
is_refused (read word treatment parity) = false
is_refused (wrote treatment) = false
is_refused (refused r) = true

-- the call goes to the cell of that word
abbrev pub is_word : ℕ → Result Target Refusal → Bool
is_word word (Ok (Word named)) = word == named
is_word word (Ok ControlWord) = false
is_word word (Err r) = false

abbrev pub goes_to : Placed → Call → ℕ → Bool
goes_to p (dati address) word = is_word word (target_of p address)
goes_to p (datip address) word = is_word word (target_of p address)
goes_to p (dato address given) word = is_word word (target_of p address)
goes_to p (datob address byte) word = is_word word (target_of p address)

pub record TransferLaws (code : Coding) (p : Placed) : Type 0 where
  -- a refused call changes nothing
  pub refusals_change_nothing : (s : State) (q : Call) → is_refused (act code p s q).answer ≡ true → (act code p s q).after ≡ s
  -- a call changes no cell but that of the word that it goes to
  pub other_cells_stay : (s : State) (q : Call) (word : ℕ) → goes_to p q word ≡ false → (act code p s q).after.store.at word ≡ s.store.at word
  -- no read changes a cell, whatever it mends
  pub dati_leaves_cells : (s : State) (address : ℕ) → (act code p s (dati address)).after.store ≡ s.store
  pub datip_leaves_cells : (s : State) (address : ℕ) → (act code p s (datip address)).after.store ≡ s.store
  -- a byte that is answered bad leaves every cell, so that the word it was given to stays bad
  pub lost_bytes_leave_cells
      : (s : State) (address byte : ℕ) → (act code p s (datob address byte)).answer ≡ wrote Bad → (act code p s (datob address byte)).after.store ≡ s.store
