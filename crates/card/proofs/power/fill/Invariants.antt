use Rattle.std.proofs.Common.{◌≡◌}
use Rattle.rules.specs.Power.{filled}
use Rattle.card.proofs.power.fill.Given as goal

abbrev pub invariant-loop-cell : goal.invariant-loop-cell
invariant-loop-cell g l =
    (g.S.Store.meaning l.store ≡ filled (g.S.Store.meaning l.initial.store) l.cell l.content.bits)
    × (g.S.Store.outside l.store ≡ g.S.Store.outside l.initial.store)
