use Rattle.std.proofs.Common.{rules, length, ◌-◌, drop, ap, arith, refl}
use Rattle.std.proofs.lemmas.List.{take_all, length-drop}
use Rattle.lines.proofs.Lines.{no_word, words_from}
use Rattle.lines.proofs.words.WordsIterator.next.Goals as goal

pub returns-in_err-start-clause-steps : goal.returns-in_err-start-clause-steps
returns-in_err-start-clause-steps c =
    let none = no_word c.args.self.now.rest.now (search rules) in
    record { word = rw (c.from_residual.ensures, none) refl; rest = rw none refl }

pub returns-clause-steps : goal.returns-clause-steps
returns-clause-steps c =
    let bs = c.args.self.now.rest.now in
    let i = c.in_ok-start.start in
    let whole = take_all (length bs - i) (drop i bs) (omega (arith, length-drop i bs)) in
    let is = words_from bs i (search rules) in
    record {
      word = rw (is, c.split_word.ensures.word, whole) refl;
      rest = rw (is, c.split_word.ensures.others, whole) refl;
    }

pub returns-clause-goes : goal.returns-clause-goes
returns-clause-goes c =
    let is = words_from c.args.self.now.rest.now c.in_ok-start.start (search rules) in
    let given = returns-clause-steps c in
    record { on = λ finite. (tt, tt, omega (arith, ap length is, ap length (rw is at given.rest))); keeps = tt; rests = λ finite. tt }
