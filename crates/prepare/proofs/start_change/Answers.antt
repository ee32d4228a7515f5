-- `prepare::start_change` meets its contract. Assumes nothing.
use Rattle.property.proofs.Basics.{arith, ◌≡◌, sym, ap₂, ◌∙◌, ◌&&◌, ◌+◌, ◌*◌, ◌<◌, length}
use Rattle.property.specs.Property.{property}
use Rattle.graph.specs.Edge.{edge}
use Rattle.affected.specs.Affected.{held}
use Rattle.compare.specs.Code.{before, after}
use Rattle.hunt.proofs.Touching.{same_held}
use Rattle.prepare.specs.Code.{edge_lost, starts}
use Rattle.prepare.proofs.start_change.Goals as goal

pub returns-then-not-is_edge_lost : goal.returns-then-not-is_edge_lost
returns-then-not-is_edge_lost c =
    let removes : let a = c.args in
    c.is_edge_lost.result ≡ edge_lost (property a.p) (before a.net.now a.k).weight (after a.net.now a.k).weight = c.is_edge_lost.ensures ∙ ap₂ (edge_lost (property _)) c.weight-w.ensures c.weight.ensures in
    let z = sym removes ∙ c.if-not-is_edge_lost.true in rw z

pub bounds-words-t : goal.bounds-words-t
bounds-words-t c =
    let ends : let n = length c.args.words.now in (c.head-t.result < n) × (c.head-h.result < n) = let k = c.args.k in
    let l = c.requires.0 in
    (omega (arith, c.requires.1 (2 * k) (omega arith), c.head-t.ensures), omega (arith, c.requires.1 (2 * k + 1) (omega arith), c.head-h.ensures)) in
    ends.0

pub bounds-words-h : goal.bounds-words-h
bounds-words-h c =
    let ends : let n = length c.args.words.now in (c.head-t.result < n) × (c.head-h.result < n) = let k = c.args.k in
    let l = c.requires.0 in
    (omega (arith, c.requires.1 (2 * k) (omega arith), c.head-t.ensures), omega (arith, c.requires.1 (2 * k + 1) (omega arith), c.head-h.ensures)) in
    ends.1

pub overflow_sub-words : goal.overflow_sub-words
overflow_sub-words c =
    let ends : let n = length c.args.words.now in (c.head-t.result < n) × (c.head-h.result < n) = let k = c.args.k in
    let l = c.requires.0 in
    (omega (arith, c.requires.1 (2 * k) (omega arith), c.head-t.ensures), omega (arith, c.requires.1 (2 * k + 1) (omega arith), c.head-h.ensures)) in
    omega (arith, ends.0)

pub overflow_sub-words-then-is_held : goal.overflow_sub-words-then-is_held
overflow_sub-words-then-is_held c =
    let ends : let n = length c.args.words.now in (c.head-t.result < n) × (c.head-h.result < n) = let k = c.args.k in
    let l = c.requires.0 in
    (omega (arith, c.requires.1 (2 * k) (omega arith), c.head-t.ensures), omega (arith, c.requires.1 (2 * k + 1) (omega arith), c.head-h.ensures)) in
    omega (arith, ends.0)

pub returns-then-is_held : goal.returns-then-is_held
returns-then-is_held c =
    let removes : let a = c.args in
    c.is_edge_lost.result ≡ edge_lost (property a.p) (before a.net.now a.k).weight (after a.net.now a.k).weight = c.is_edge_lost.ensures ∙ ap₂ (edge_lost (property _)) c.weight-w.ensures c.weight.ensures in
    let ends : let n = length c.args.words.now in (c.head-t.result < n) × (c.head-h.result < n) = let k = c.args.k in
    let l = c.requires.0 in
    (omega (arith, c.requires.1 (2 * k) (omega arith), c.head-t.ensures), omega (arith, c.requires.1 (2 * k + 1) (omega arith), c.head-h.ensures)) in
    let begins : let a = c.args in c.is_held.result ≡ starts (property a.p) a.s a.words.now a.net.now a.k = let a = c.args in
    let lost = sym c.if-not-is_edge_lost.false ∙ removes in
    c.is_held.ensures
    ∙ same_held (property a.p) a.s _ _ _ a.words.now ends.0 ends.1
    ∙ (λ i. lost i && held (property a.p) a.s a.words.now (edge (c.head-t.ensures i) (c.head-h.ensures i) (c.weight-w.ensures i))) in
    let z = sym begins ∙ c.if-is_held.true in rw z (rw c.head-t.ensures at c.insert.ensures)

pub returns-else-is_held : goal.returns-else-is_held
returns-else-is_held c =
    let removes : let a = c.args in
    c.is_edge_lost.result ≡ edge_lost (property a.p) (before a.net.now a.k).weight (after a.net.now a.k).weight = c.is_edge_lost.ensures ∙ ap₂ (edge_lost (property _)) c.weight-w.ensures c.weight.ensures in
    let ends : let n = length c.args.words.now in (c.head-t.result < n) × (c.head-h.result < n) = let k = c.args.k in
    let l = c.requires.0 in
    (omega (arith, c.requires.1 (2 * k) (omega arith), c.head-t.ensures), omega (arith, c.requires.1 (2 * k + 1) (omega arith), c.head-h.ensures)) in
    let begins : let a = c.args in c.is_held.result ≡ starts (property a.p) a.s a.words.now a.net.now a.k = let a = c.args in
    let lost = sym c.if-not-is_edge_lost.false ∙ removes in
    c.is_held.ensures
    ∙ same_held (property a.p) a.s _ _ _ a.words.now ends.0 ends.1
    ∙ (λ i. lost i && held (property a.p) a.s a.words.now (edge (c.head-t.ensures i) (c.head-h.ensures i) (c.weight-w.ensures i))) in
    let z = sym begins ∙ c.if-is_held.false in rw z
