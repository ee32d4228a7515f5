-- Written text: it is good, has no comment and ascends; no other text of its network does; what a call wrote, a call reads back.
-- Assumes nothing.
use Rattle.property.proofs.Basics.{◌≡◌, refl, sym, ap, ◌∙◌, List, [], ◌∷◌, map, ℕ, ◌≤◌, arith, ltb, ltb-false, length, take, take_at}
use Rattle.graph.specs.Limits.{max_edges}
use Rattle.graph.specs.Refusal.{accept, ◌▷◌, refuse_if, accepted, replied, choose}
use Rattle.graph.specs.Edge.{Edge}
use Rattle.graph.specs.Table.{Columns, edges_of, is_edge, table_order, size, short_table, table}
use Rattle.graph.proofs.Verdicts.{then_accept, if_accept, reply_accepted}
use Rattle.graph.proofs.Sorted.{sorted_all, sorted_distinct}
use Rattle.graph.proofs.Gather.{into_ascending}
use Rattle.graph.proofs.Order.{table_ordered, Sound, rules_accept}
use Rattle.graph.proofs.Judging.{size_accept, lengths_accept, table_accept}
use Rattle.graph.proofs.Records.{edges_length, edges_back, room_less}
use Rattle.dimacs.proofs.Reading.{spoken_says, map_says}
use Rattle.dimacs.proofs.Network.{network_spelling}
use Rattle.dimacs.specs.Lines.{joined, Line, bare, comment, says, line_of, spoken, Plain}
use Rattle.dimacs.specs.Read.{good}
use Rattle.dimacs.specs.Network.{Item, problem, arc, item_of, Edges, Good, within, read_network, written}
use Rattle.dimacs.specs.Call.{judged, vertex_count, edges_read, filled, read_call, write_call}
use Rattle.dimacs.specs.Claims.{Table, Uncommented, Ascending, Canonical}

-- ---- lines without a comment

uncommented_says : {A : Type 0} (as' : List A) → Uncommented (map says as')
uncommented_says [] = tt
uncommented_says (a ∷ as') = uncommented_says as'

says_uncommented : {A : Type 0} (xs : List (Line A)) → Uncommented xs → xs ≡ map says (spoken xs)
unfolding spoken
says_uncommented [] u = refl
says_uncommented (bare ∷ xs) u = absurd u
says_uncommented (comment s ∷ xs) u = absurd u
says_uncommented (says a ∷ xs) u = rw (← says_uncommented xs u)

plain_says : (xs : List Item) → Plain item_of (map says xs)
unfolding line_of
plain_says [] = tt
plain_says (x ∷ xs) = (network_spelling.one_line x, plain_says xs)

-- ---- edges that ascend

sound_ascending : (n : ℕ) (es : List Edge) → Sound n es → Ascending es
sound_ascending n [] h = tt
sound_ascending n (e ∷ []) h = tt
sound_ascending n (e ∷ f ∷ es) h = (h.1, sound_ascending n (f ∷ es) h.2)

ascending_sound : (n : ℕ) (es : List Edge) → Ascending es → Edges n es → Sound n es
ascending_sound n [] h a = tt
ascending_sound n (e ∷ []) h a = (a.0, tt, tt)
ascending_sound n (e ∷ f ∷ es) h a = (a.0, h.0, ascending_sound n (f ∷ es) h.1 a.1)

-- ---- written text is canonical

written_good : (n : ℕ) (es : List Edge) → Table n es → Good (written n es) n es
unfolding written
written_good n es t =
    let (a, b) = size_accept n t.vertices in
    let s = rules_accept n es t.rules in
    record {
      arcs = es;
      spelled = record {
        lines = map says (problem n (length es) ∷ map arc es);
        spells = ap joined (sym (map_says item_of (problem n (length es) ∷ map arc es)));
        plains = plain_says (problem n (length es) ∷ map arc es);
        speaks = spoken_says (problem n (length es) ∷ map arc es);
      };
      some_vertex = a;
      vertices = b;
      few = t.few;
      edges = sorted_all table_order (is_edge n) es s;
      distinct = sorted_distinct table_ordered (is_edge n) es s;
      table = sym (into_ascending table_ordered (is_edge n) [] es s);
    }

pub written_canonical : (n : ℕ) (es : List Edge) → Table n es → Canonical (written n es) n es
unfolding written_good
written_canonical n es t = record {
  good = written_good n es t;
  no_comment = uncommented_says (problem n (length es) ∷ map arc es);
  ascends = sound_ascending n es (rules_accept n es t.rules);
}

-- A text without comment is its items' lines, in their order. Its edges ascend and are edges, so that putting them in one by
-- one leaves their order: the network's edges are those of the text, and the lines are the written ones.
pub canonical_written : (text : List ℕ) (n : ℕ) (es : List Edge) → Canonical text n es → text ≡ written n es
unfolding written
canonical_written text n es c =
    let g = c.good in
    let d = g.spelled in
    let w : es ≡ g.arcs = g.table ∙ into_ascending table_ordered (is_edge n) [] g.arcs (ascending_sound n g.arcs c.ascends g.edges) in
    d.spells ∙ rw (says_uncommented d.lines c.no_comment, d.speaks, map_says item_of (problem n (length g.arcs) ∷ map arc g.arcs), ← w)

-- ---- what a call wrote

-- the verdict of an accepted writing
pub write_verdict : (n : ℕ) (cs : Columns) (m : ℕ) (out : List ℕ) (k : ℕ) → (write_call n cs m out).reply ≡ accepted k
    → (Table n (edges_of cs m)) × (length (edges_of cs m) ≡ m) × (length (written n (edges_of cs m)) ≡ k) × (take k (write_call n cs m out).memory ≡ written n (edges_of cs m))
    × (short_table cs ≡ accept) × (m ≤ max_edges) × (length (written n (edges_of cs m)) ≤ length out)
unfolding write_call choose
write_verdict n cs m out k h =
    let text = written n (edges_of cs m) in
    let (v, w) = reply_accepted (size n ▷ short_table cs ▷ table n cs m ▷ refuse_if (ltb (length out) (length text)) 2 0) (length text) k h in
    let (a, v₁) = then_accept (size n) (short_table cs ▷ table n cs m ▷ refuse_if (ltb (length out) (length text)) 2 0) v in
    let (b, v₂) = then_accept (short_table cs) (table n cs m ▷ refuse_if (ltb (length out) (length text)) 2 0) v₁ in
    let (c, v₃) = then_accept (table n cs m) (refuse_if (ltb (length out) (length text)) 2 0) v₂ in
    let (d, e) = table_accept n cs m c in
    let l : length (edges_of cs m) ≡ m = edges_length cs.tails cs.heads cs.weights m (room_less d (lengths_accept cs.tails cs.heads cs.weights b)) in
    let f : length (edges_of cs m) ≤ max_edges = omega arith in
    (record { vertices = a; few = f; rules = e }, l, w, rw v (take_at text _ k w), b, d, ltb-false (length out) (length text) (if_accept _ 2 0 v₃))

-- edges stored in front of three lists are the records below their count
pub filled_edges : (es : List Edge) (m : ℕ) (ds : Columns) → length es ≡ m → edges_of (filled es ds) m ≡ es
filled_edges es m ds l = rw (← l) (edges_back es _ _ _)

-- reading a text that is accepted, into lists that are long enough
pub read_call_lem : (text : List ℕ) (n : ℕ) (es : List Edge) (m : ℕ) (ds : Columns) → read_network text ≡ good (within n (length es) es) → length es ≡ m → short_table ds ≡ accept
    → read_call text ds ≡ record { reply = accepted (record { vertices = n; count = m }); memory = filled es ds }
unfolding read_call judged vertex_count edges_read replied choose ◌▷◌
read_call_lem text n es m ds h l s = rw (h, s, ← l)
