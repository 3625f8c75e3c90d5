-- What a module means to the bus, and what its calls never change.
-- Assumes nothing.
use Rattle.std.specs.Prelude.{◌≡◌}
use Rattle.codes.specs.Cells.{Coding}
use Rattle.stores.specs.Meaning.{Meaning}
use Rattle.stores.specs.Memory.{Outside}
use Rattle.rules.specs.Calls.{Call, Answer}
use Rattle.rules.specs.State.{State}
use Rattle.rules.specs.Targets.{Placed, placed}
use Rattle.rules.specs.Transfers.{act}
use Rattle.card.specs.declared.module.Module.{Module}

-- the state of a module, whose store's meaning is given
abbrev pub state_of : {S C : Type 0} → (S → Meaning) → Module S C → State
state_of meaning m = record { store = meaning m.store; registers = m.registers; tallies = m.tallies; place = m.place }

-- a definition over code, placement and state, at a module
abbrev pub on_module : {S C T : Type 0} → (Coding → Placed → State → T) → Coding → (S → Meaning) → Module S C → T
on_module f code meaning m = f code (placed m.placement) (state_of meaning m)

-- what the rules have a module answer to a call, and the state that they have it left in
abbrev pub answer_to : {S C : Type 0} → Coding → (S → Meaning) → Module S C → Call → Answer
answer_to code meaning m q = (on_module act code meaning m q).answer

abbrev pub state_after : {S C : Type 0} → Coding → (S → Meaning) → Module S C → Call → State
state_after code meaning m q = (on_module act code meaning m q).after

-- What no call changes: the placement, the code, and what lies outside the cells in the memory that the store was lent.
pub record Stays {S C : Type 0} (outside : S → Outside) (before after : Module S C) : Type 0 where
  pub placement : after.placement ≡ before.placement
  pub code : after.code ≡ before.code
  pub memory : outside after.store ≡ outside before.store
