use Rattle.codes.proofs.ExampleProofs.{examples_hold}
use Rattle.codes.proofs.examples.worked_examples.Goals as goal

pub returns-clause-hold : goal.returns-clause-hold
returns-clause-hold c = rw c.table.ensures examples_hold
