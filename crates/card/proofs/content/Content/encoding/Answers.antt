use Rattle.std.proofs.Common.{arith}
use Rattle.card.proofs.Contents.{encoding_narrow}
use Rattle.card.proofs.content.Content.encoding.Goals as goal

pub invariant_of-result : goal.invariant_of-result
invariant_of-result g c = record { narrow = rw c.encode.ensures (encoding_narrow g.met.C.Code.lawful c.args.word (omega arith)) }
