-- `property::join` meets its contract: each arm is the property of its number. Assumes nothing.
use Rattle.property.proofs.Instances.{property_arms, property_rest}
use Rattle.property.proofs.join.Goals as goal

pub returns-in-1 : goal.returns-in-1
returns-in-1 c =
    rw (c.in-1.is, property_arms.0) c.sum.ensures

pub returns-in-2 : goal.returns-in-2
returns-in-2 c =
    rw (c.in-2.is, property_arms.1) c.sum-in-2.ensures

pub returns-in-3 : goal.returns-in-3
returns-in-3 c =
    rw (c.in-3.is, property_arms.2) c.min.ensures

pub returns-in-4 : goal.returns-in-4
returns-in-4 c =
    rw (c.in-4.is, property_arms.3) c.max.ensures

pub returns-in_default : goal.returns-in_default
returns-in_default c =
    rw (property_rest _ c.in_default.in_default-own.rest) c.min-in_default.ensures
