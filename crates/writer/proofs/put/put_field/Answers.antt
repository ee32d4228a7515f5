-- `writer::put::put_field` meets its contract. Assumes nothing.
use Rattle.property.proofs.Basics.{refl, [], ◌∷◌}
use Rattle.writer.proofs.Laid.{both_wrote}
use Rattle.writer.proofs.put.put_field.Goals as goal

pub returns : goal.returns
returns c =
    both_wrote (32 ∷ []) _ refl c.requires c.put_byte-start.ensures c.put_number.ensures
