-- `search::find` meets its contract. Assumes nothing.
use Rattle.property.proofs.Basics.{◌≡◌, sym, ap, ◌∙◌, ℕ, length, take, replicate, length-take-le, arith}
use Rattle.graph.specs.Limits.{max_vertices}
use Rattle.graph.specs.Edge.{edges}
use Rattle.graph.proofs.Records.{room_less}
use Rattle.search.specs.Search.{searched}
use Rattle.search.proofs.Steps.{told_of}
use Rattle.search.proofs.find.Goals as goal

pub index-requires : goal.index-requires
index-requires c =
    let n = c.requires.3 in
    let t = c.requires.4 in
    record { few = n; records = t.few; room = room_less t.few t.room; rules = t.rules; firsts = omega arith; list = omega (arith, t.few) }

pub slice_bounds-search_best-end-2 : goal.slice_bounds-search_best-end-2
slice_bounds-search_best-end-2 c =
    let size : length (take {A = ℕ} c.args.n (replicate max_vertices 0)) ≡ c.args.n = length-take-le {A = ℕ} c.args.n (replicate max_vertices 0) c.requires.3 in
    sym (size)

pub search_best-requires : goal.search_best-requires
search_best-requires c =
    let size : length (take {A = ℕ} c.args.n (replicate max_vertices 0)) ≡ c.args.n = length-take-le {A = ℕ} c.args.n (replicate max_vertices 0) c.requires.3 in
    let z = c.requires.5 in (
      c.requires.0,
      omega (arith, c.requires.1),
      omega (arith, c.requires.2),
      rw z c.index.ensures.fit,
      size ∙ sym z,
      omega (arith, c.index.auto.free, c.requires.3),
    )

pub returns : goal.returns
returns c =
    let g = c.args in
    let z = c.requires.5 in
    let es = edges g.tails.now g.heads.now g.weights.now g.count in let both = told_of g.t _ _ _ _ (ap (λ (k : ℕ). searched g.p es k g.s g.t) z)
    (c.search_best.ensures es (rw z c.index.ensures.own)) in record { via_after = both.0; value = both.1 }
