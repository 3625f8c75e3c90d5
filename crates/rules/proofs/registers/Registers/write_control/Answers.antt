use Rattle.rules.proofs.ControlWord.{reads_as_written}
use Rattle.rules.proofs.registers.Registers.write_control.Goals as goal

pub returns-clause-reads : goal.returns-clause-reads
returns-clause-reads c = rw c.write.ensures (reads_as_written c.args.self.now c.args.self.now.control c.args.word)
