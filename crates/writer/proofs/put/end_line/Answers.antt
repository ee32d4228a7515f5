-- `writer::put::end_line` meets its contract. Assumes nothing.
use Rattle.property.proofs.Basics.{refl, [], ◌∷◌}
use Rattle.writer.proofs.Laid.{first_fits, second_fits, both_wrote}
use Rattle.writer.proofs.put.end_line.Goals as goal

pub put_fields-feed-requires : goal.put_fields-feed-requires
put_fields-feed-requires c =
    first_fits _ (10 ∷ []) refl c.requires

pub put_byte-requires : goal.put_byte-requires
put_byte-requires c =
    second_fits _ _ refl c.requires c.put_fields-feed.ensures

pub returns : goal.returns
returns c =
    both_wrote _ _ refl c.requires c.put_fields-feed.ensures c.put_byte.ensures
