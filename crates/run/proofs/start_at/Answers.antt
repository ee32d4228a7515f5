-- `run::start_at` meets its contract. Assumes nothing.
use Rattle.run.proofs.Starts.{started_bits, started_marks}
use Rattle.run.proofs.start_at.Goals as goal

pub returns : goal.returns
returns c =
    let g = c.args in record { waiting_after = started_bits g.n g.s c.empty.result c.insert.new.ws c.requires.0 c.requires.1 c.empty.ensures c.insert.ensures; marks = started_marks g.n g.s c.empty.result c.insert.new.ws c.requires.0 c.requires.1 c.empty.ensures c.insert.ensures }
