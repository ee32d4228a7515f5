-- `writer::put::put_numbers` meets its contract. Assumes nothing.
use Rattle.property.proofs.Basics.{◌≡◌, [], ◌∷◌, ◌++◌, append_assoc}
use Rattle.dimacs.specs.Decimal.{digits}
use Rattle.dimacs.specs.Lines.{fields_of}
use Rattle.writer.proofs.Laid.{first_fits, second_fits, both_wrote}
use Rattle.writer.proofs.put.put_numbers.Goals as goal

pub put_number-fields-requires : goal.put_number-fields-requires
put_number-fields-requires c =
    let parts : let fields = fields_of c.args.rest.now in (digits c.args.first ++ fields) ++ (10 ∷ []) ≡ digits c.args.first ++ (fields ++ (10 ∷ [])) = append_assoc (digits c.args.first) (fields_of c.args.rest.now) (10 ∷ []) in
    first_fits _ (fields_of c.args.rest.now ++ (10 ∷ [])) parts c.requires

pub end_line-requires : goal.end_line-requires
end_line-requires c =
    let parts : let fields = fields_of c.args.rest.now in (digits c.args.first ++ fields) ++ (10 ∷ []) ≡ digits c.args.first ++ (fields ++ (10 ∷ [])) = append_assoc (digits c.args.first) (fields_of c.args.rest.now) (10 ∷ []) in
    second_fits _ _ parts c.requires c.put_number-fields.ensures

pub returns : goal.returns
returns c =
    let parts : let fields = fields_of c.args.rest.now in (digits c.args.first ++ fields) ++ (10 ∷ []) ≡ digits c.args.first ++ (fields ++ (10 ∷ [])) = append_assoc (digits c.args.first) (fields_of c.args.rest.now) (10 ∷ []) in
    both_wrote _ _ parts c.requires c.put_number-fields.ensures c.end_line.ensures
