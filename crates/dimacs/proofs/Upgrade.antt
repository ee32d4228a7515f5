-- The claims of specs/Upgrade.antt, one theorem each. Assumes nothing.
use Rattle.property.proofs.Basics.{◌≡◌, refl, sym, ap, ◌∙◌, false, List, [], ◌∷◌}
use Rattle.property.proofs.Tests.{by_test}
use Rattle.graph.specs.Edge.{Edge, same_pair, precedes, exists}
use Rattle.graph.specs.Table.{table_order, insert}
use Rattle.graph.specs.Sorted.{has}
use Rattle.graph.specs.Sorted as order
use Rattle.graph.specs.Simple.{pair_order, Simple}
use Rattle.graph.proofs.Tests.{neither, or_false}
use Rattle.graph.proofs.Simple.{pair_turn, simple_distinct, insert_pair}
use Rattle.graph.proofs.Sorted.{exists_insert}
use Rattle.graph.proofs.Gather.{into, Fresh, fresh_none}
use Rattle.dimacs.proofs.Places.{place_later}
use Rattle.dimacs.specs.Network.{sorted}
use Rattle.dimacs.specs.Upgrade.{TextConserved, SimpleConserved, PlacesConserved}

-- ---- one edge more

-- no edge of ys is of the pair of one more edge
fresh_pair : (e : Edge) (xs ys : List Edge) → Fresh pair_order xs ys → has pair_order ys e ≡ false → Fresh pair_order (insert e xs) ys
unfolding exists
fresh_pair e xs [] f h = tt
fresh_pair e xs (y ∷ ys) f h =
    let (p, q) = neither (same_pair e y) (has pair_order ys e) h in
    (exists_insert table_order (same_pair y) e xs ∙ or_false (pair_turn y e ∙ p) f.0, fresh_pair e xs ys f.1 q)

pair_fresh : (e : Edge) (xs ys : List Edge) → Fresh pair_order (insert e xs) ys → Fresh pair_order xs ys × (has pair_order ys e ≡ false)
unfolding exists
pair_fresh e xs [] f = (tt, refl)
pair_fresh e xs (y ∷ ys) f =
    let (p, q) = neither (same_pair y e) (has pair_order xs y) (sym (exists_insert table_order (same_pair y) e xs) ∙ f.0) in
    let (u, v) = pair_fresh e xs ys f.1 in
    ((q, u), or_false (pair_turn e y ∙ p) v)

insert_simple : (e : Edge) (xs : List Edge) → Simple (insert e xs) → (has pair_order xs e ≡ false) × Simple xs
unfolding order.insert exists
insert_simple e [] d = (refl, tt)
insert_simple e (x ∷ xs) d = by_test (precedes e x)
    (λ b. rw b at d)
    (λ b.
    let c : Simple (x ∷ insert e xs) = rw b at d in
    let (p, q) = neither (same_pair x e) (has pair_order xs x) (sym (exists_insert table_order (same_pair x) e xs) ∙ c.0) in
    let (u, v) = insert_simple e xs c.1 in
    (or_false (pair_turn e x ∙ p) u, (q, v)))

-- ---- all edges of a text

into_pairs : (xs ys : List Edge) → Fresh pair_order xs ys → Simple ys → into table_order xs ys ≡ into pair_order xs ys
into_pairs xs [] f d = refl
into_pairs xs (y ∷ ys) f d = into_pairs (insert y xs) ys (fresh_pair y xs ys f.1 d.0) d.1 ∙ ap (λ zs. into pair_order zs ys) (insert_pair y xs f.0)

into_simple : (xs ys : List Edge) → Simple (into table_order xs ys) → Simple xs × Fresh pair_order xs ys × Simple ys
into_simple xs [] d = (d, tt, tt)
into_simple xs (y ∷ ys) d =
    let (a, b, c) = into_simple (insert y xs) ys d in
    let (u, v) = insert_simple y xs a in
    let (f, h) = pair_fresh y xs ys b in
    (v, (u, f), (h, c))

sorted_pairs : (ys : List Edge) → Simple ys → sorted ys ≡ into pair_order [] ys
sorted_pairs ys d = into_pairs [] ys (fresh_none pair_order ys) d

-- ---- the claims

-- Where no pair stands twice no edge does, and the two orders agree on all edges, so that these are stored alike.
pub text_conserved : TextConserved
text_conserved text n es g = record {
  arcs = g.arcs;
  spelled = g.spelled;
  some_vertex = g.some_vertex;
  vertices = g.vertices;
  few = g.few;
  edges = g.edges;
  distinct = simple_distinct g.arcs g.simple;
  table = g.table ∙ sym (sorted_pairs g.arcs g.simple);
}

-- The network has the edges of the text and no others: a pair that stood twice in the text would stand twice in it.
pub simple_conserved : SimpleConserved
simple_conserved text n es g d =
    let (a, b, c) = into_simple [] g.arcs (rw g.table at d) in
    record {
      arcs = g.arcs;
      spelled = g.spelled;
      some_vertex = g.some_vertex;
      vertices = g.vertices;
      few = g.few;
      edges = g.edges;
      simple = c;
      table = g.table ∙ sorted_pairs g.arcs c;
    }

-- what goes on to a good text by document 01 alone goes on to a good text
pub places_conserved : PlacesConserved
places_conserved text j k p q = place_later (λ t z. (z.0, z.1, text_conserved t z.0 z.1 z.2)) text j k p q
