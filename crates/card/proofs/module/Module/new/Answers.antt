use Rattle.rules.proofs.Laws.{transfer_laws}
use Rattle.rules.specs.Targets.{placed}
use Rattle.card.proofs.module.Module.new.Goals as goal

pub returns-clause-laws : goal.returns-clause-laws
returns-clause-laws g c = transfer_laws g.C.Code.meaning (placed c.args.placement)
