-- `writer::network_text::arc_width` meets its contract. Assumes nothing.
use Rattle.property.proofs.Basics.{arith, sym, ap, ◌∙◌, [], ◌∷◌, ◌+◌, length}
use Rattle.dimacs.specs.Lines.{fields_of}
use Rattle.dimacs.specs.Network.{arc_mark}
use Rattle.writer.proofs.Text.{arc_fields, line_length}
use Rattle.writer.proofs.network_text.arc_width.Goals as goal

pub overflow_add-result : goal.overflow_add-result
overflow_add-result c =
    omega (arith, c.fields_width.ensures.upper_bound)

pub returns : goal.returns
returns c =
    let a = c.args in record { value = line_length arc_mark (fields_of ((a.t + 1) ∷ (a.h + 1) ∷ a.w ∷ [])) _ c.fields_width.ensures.value ∙ sym (ap length (arc_fields a.t a.h a.w)); upper_bound = omega (arith, c.fields_width.ensures.upper_bound) }
