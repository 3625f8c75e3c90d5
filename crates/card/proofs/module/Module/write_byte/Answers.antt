use Rattle.std.proofs.Common.{is_ok, ap, ◌∙◌}
use Rattle.rules.specs.Calls.{carried}
use Rattle.card.specs.Modules.{state_of}
use Rattle.rules.specs.Targets.{placed}
use Rattle.card.proofs.Looks.{look_tells, look_keeps}
use Rattle.card.proofs.module.Module.write_byte.Goals as goal
use Rattle.card.proofs.module.Module.write_byte.Goals.{in-Bad, in_default}

-- The cell was granted to the look, so it is fitted, and what it held is a content.
pub put_fitted-requires : goal.put_fitted-requires
put_fitted-requires g c =
    let code = g.C.Code.meaning in
    let p = placed c.args.self.now.placement in
    let s = state_of g.S.Store.meaning c.args.self.now in
    let word = c.args.word in
    let held = s.store.at word in
    let saw = look_tells code p s word c.args.address held c.in_ok-look.look (c.in_ok-look.ensures ∙ ap (carried c.args.address) c.look.ensures.answers) in
    let same = ap (λ t. t.store) c.look.ensures.leaves ∙ look_keeps code p s word held in
    ap (λ m. is_ok (m.at word)) same ∙ ap is_ok saw

pub invariant_of-content : goal.invariant_of-content
invariant_of-content g c =
    let p = placed c.args.self.now.placement in
    let s = state_of g.S.Store.meaning c.args.self.now in
    let word = c.args.word in
    let look = c.in_ok-look.look in
    let saw = look_tells g.C.Code.meaning p s word c.args.address (s.store.at word) look (c.in_ok-look.ensures ∙ ap (carried c.args.address) c.look.ensures.answers) in
    let narrow = (g.S.Store.proper c.args.self.now.store).narrow word look.content saw in
    record {
      narrow =
          elim c.match-look.branch [
            | in-Bad w ↦ rw (ap (λ x. x.0) w.content-is) narrow
            | in_default w ↦ rw (ap (λ x. x.0) w.content-is) w.cell_for-content.result.narrow
          ];
    }
