use Rattle.std.proofs.Common.{◌^◌, ◌<◌, mod-lt, arith, pow_pos}
use Rattle.card.proofs.Contents.{cell_narrow}
use Rattle.card.proofs.content.Content.with_latch.Goals as goal

pub invariant_of-result : goal.invariant_of-result
invariant_of-result g c =
    let low : c.stored_checks-checks.result < 2 ^ g.C.Code.meaning.width = rw c.stored_checks-checks.ensures (mod-lt _ (pow_pos _)) in
    record { narrow = rw c.pack-2.ensures (cell_narrow g.met.C.Code.lawful c.args.word c.stored_checks-checks.result (omega arith) low) }
