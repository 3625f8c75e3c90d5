use Rattle.std.proofs.Common.{lit<}
use Rattle.codes.specs.Cells.{word_bits, most_checks}
use Rattle.codes.proofs.Encodings.{sound_is_encoding, word_exact, tells_cells_apart}
use Rattle.codes.proofs.cells.encoded_word.Goals as goal

pub returns : goal.returns
returns g c =
    let code = g.C.Code.meaning in
    let law = g.met.C.Code.lawful in
    record {
      exact = rw c.sound.ensures (word_exact word_bits most_checks code law c.args.cell c.judge.result c.judge.ensures);
      sound = sound_is_encoding word_bits most_checks code law;
      apart = tells_cells_apart word_bits most_checks code law (lit< tt);
    }
