-- `writer::put::put_byte` meets its contract. Assumes nothing.
use Rattle.property.proofs.Basics.{refl, sym, [], ◌∷◌}
use Rattle.writer.proofs.Laid.{laid_sets}
use Rattle.writer.proofs.put.put_byte.Goals as goal

pub returns : goal.returns
returns c =
    record { next = refl; bytes = sym (laid_sets c.args.at (c.args.b ∷ []) c.args.out.now c.requires.room) }
