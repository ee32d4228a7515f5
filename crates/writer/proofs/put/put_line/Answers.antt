-- `writer::put::put_line` meets its contract. Assumes nothing.
use Rattle.property.proofs.Basics.{◌≡◌, [], ◌∷◌, ◌++◌, append_assoc}
use Rattle.dimacs.specs.Lines.{fields_of}
use Rattle.writer.proofs.Laid.{first_fits, second_fits, both_wrote}
use Rattle.writer.proofs.put.put_line.Goals as goal

pub put_word-fields-requires : goal.put_word-fields-requires
put_word-fields-requires c =
    let parts : let fields = fields_of c.args.values.now in (c.args.word.now ++ fields) ++ (10 ∷ []) ≡ c.args.word.now ++ (fields ++ (10 ∷ [])) = append_assoc c.args.word.now (fields_of c.args.values.now) (10 ∷ []) in
    first_fits _ (fields_of c.args.values.now ++ (10 ∷ [])) parts c.requires

pub end_line-requires : goal.end_line-requires
end_line-requires c =
    let parts : let fields = fields_of c.args.values.now in (c.args.word.now ++ fields) ++ (10 ∷ []) ≡ c.args.word.now ++ (fields ++ (10 ∷ [])) = append_assoc c.args.word.now (fields_of c.args.values.now) (10 ∷ []) in
    second_fits _ _ parts c.requires c.put_word-fields.ensures

pub returns : goal.returns
returns c =
    let parts : let fields = fields_of c.args.values.now in (c.args.word.now ++ fields) ++ (10 ∷ []) ≡ c.args.word.now ++ (fields ++ (10 ∷ [])) = append_assoc c.args.word.now (fields_of c.args.values.now) (10 ∷ []) in
    both_wrote _ _ parts c.requires c.put_word-fields.ensures c.end_line.ensures
