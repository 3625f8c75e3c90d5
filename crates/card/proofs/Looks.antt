-- Laws of a look at a cell. Assumes nothing.
use Rattle.std.proofs.Common.{◌≡◌, ℕ, Ok, Err, Result, refl}
use Rattle.codes.specs.Cells.{Coding}
use Rattle.stores.specs.declared.fault.Fault.{Fault}
use Rattle.rules.specs.declared.look.Look.{Look}
use Rattle.rules.specs.Calls.{carried}
use Rattle.rules.specs.State.{State}
use Rattle.rules.specs.Targets.{Placed}
use Rattle.rules.specs.Transfers.{look_at, looked}

module _ (code : Coding) (p : Placed) (s : State) (word : ℕ) where
  -- a look that is granted saw the content of the cell
  pub look_tells : (address : ℕ) (held : Result ℕ Fault) (look : Look) → Ok look ≡ carried address (look_at code p s word held) → held ≡ Ok look.content
  look_tells address (Ok content) look e = cc
  look_tells address (Err f) look e = cc

  -- no look changes a cell
  pub look_keeps : (held : Result ℕ Fault) → (looked code p s word held).store ≡ s.store
  look_keeps (Ok content) = refl
  look_keeps (Err f) = refl
