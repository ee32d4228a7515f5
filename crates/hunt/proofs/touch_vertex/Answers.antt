-- `hunt::touch_vertex` meets its contract. Assumes nothing.
use Rattle.property.proofs.Basics.{sym, ◌∙◌, arith}
use Rattle.property.specs.Property.{property}
use Rattle.property.proofs.Instances.{property_rest}
use Rattle.hunt.proofs.touch_vertex.Goals as goal

pub returns-in-1 : goal.returns-in-1
returns-in-1 c =
    rw (c.in-1.is, sym c.contains.ensures ∙ c.if-contains.true) c.touch_all.ensures

pub returns-in-2 : goal.returns-in-2
returns-in-2 c =
    rw (c.in-2.is, sym c.contains.ensures ∙ c.if-contains.true) c.touch_all-in-2.ensures

pub returns-in-3 : goal.returns-in-3
returns-in-3 c =
    rw (c.in-3.is, sym c.contains.ensures ∙ c.if-contains.true) c.touch_all-in-3.ensures

pub returns-in-4 : goal.returns-in-4
returns-in-4 c =
    rw (c.in-4.is, sym c.contains.ensures ∙ c.if-contains.true) c.touch_all-in-4.ensures

pub returns-in_default : goal.returns-in_default
unfolding property
returns-in_default c =
    rw (property_rest c.args.p ((((tt, λ z. omega arith), λ z. omega arith), λ z. omega arith), λ z. omega arith), sym c.contains.ensures ∙ c.if-contains.true) c.touch_all-in_default.ensures

pub returns-in-1-p : goal.returns-in-1-p
returns-in-1-p c =
    rw (c.in-1-p.is, sym c.contains.ensures ∙ c.if-contains.false) c.touch_all-in-1-p.ensures

pub returns-in-2-p : goal.returns-in-2-p
returns-in-2-p c =
    rw (c.in-2-p.is, sym c.contains.ensures ∙ c.if-contains.false) c.touch_all-in-2-p.ensures

pub returns-in-3-p : goal.returns-in-3-p
returns-in-3-p c =
    rw (c.in-3-p.is, sym c.contains.ensures ∙ c.if-contains.false) c.touch_all-in-3-p.ensures

pub returns-in-4-p : goal.returns-in-4-p
returns-in-4-p c =
    rw (c.in-4-p.is, sym c.contains.ensures ∙ c.if-contains.false) c.touch_all-in-4-p.ensures

pub returns-in_default-p : goal.returns-in_default-p
unfolding property
returns-in_default-p c =
    rw (property_rest c.args.p ((((tt, λ z. omega arith), λ z. omega arith), λ z. omega arith), λ z. omega arith), sym c.contains.ensures ∙ c.if-contains.false) c.touch_all-in_default-p.ensures
