-- `writer::network_text::problem_width` meets its contract. Assumes nothing.
use Rattle.property.proofs.Basics.{arith, sym, ap, ◌∙◌, [], ◌∷◌, length}
use Rattle.dimacs.specs.Lines.{fields_of}
use Rattle.dimacs.specs.Network.{problem_mark}
use Rattle.writer.proofs.Text.{problem_fields, line_length}
use Rattle.writer.proofs.network_text.problem_width.Goals as goal

pub overflow_add-result : goal.overflow_add-result
overflow_add-result c =
    omega (arith, c.fields_width.ensures.upper_bound)

pub returns : goal.returns
returns c =
    let a = c.args in record { value = line_length problem_mark (fields_of (a.n ∷ a.count ∷ [])) _ c.fields_width.ensures.value ∙ sym (ap length (problem_fields a.n a.count)); upper_bound = omega (arith, c.fields_width.ensures.upper_bound) }
