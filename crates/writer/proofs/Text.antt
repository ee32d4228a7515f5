-- The text of a network as the code writes it: a p line, then a line for each record of the table. Assumes nothing.
use Rattle.property.proofs.Basics.{◌≡◌, refl, ap, ◌∙◌, List, [], ◌∷◌, ◌++◌, append_assoc, ℕ, ◌+◌, ◌≤◌, ◌<◌, add-one, arith, length, drop, length-append}
use Rattle.graph.specs.Edge.{Edge, edge, edges}
use Rattle.graph.specs.Code.{Room, edge_at}
use Rattle.graph.proofs.Records.{edges_length, edges_more, edges_none}
use Rattle.dimacs.specs.Lines.{fields_of, joined}
use Rattle.dimacs.specs.Network.{problem, arc, item_of, problem_mark, arc_mark, written}
use Rattle.writer.specs.Code.{arcs_of}

-- ---- lines, each with its line feed

abbrev pub problem_line : ℕ → ℕ → List ℕ
problem_line n m = item_of (problem n m) ++ (10 ∷ [])

abbrev pub arc_line : Edge → List ℕ
arc_line e = item_of (arc e) ++ (10 ∷ [])

pub problem_fields : (n m : ℕ) → problem_line n m ≡ problem_mark ++ fields_of (n ∷ m ∷ []) ++ (10 ∷ [])
unfolding item_of
problem_fields n m = refl

-- vertices count from 1 in the text
pub arc_fields : (t h w : ℕ) → arc_line (edge t h w) ≡ arc_mark ++ fields_of ((t + 1) ∷ (h + 1) ∷ w ∷ []) ++ (10 ∷ [])
unfolding item_of
arc_fields t h w = rw (add-one t, add-one h)

-- a line's length: its word, its fields, its line feed
pub line_length : (word fields : List ℕ) (k : ℕ) → k ≡ length fields → length word + 1 + k ≡ length (word ++ fields ++ (10 ∷ []))
line_length word fields k e = omega (arith, length-append (word ++ fields) (10 ∷ []), length-append word fields)

-- ---- the lines of a table

arcs_cons : (e : Edge) (es : List Edge) → arcs_of (e ∷ es) ≡ arc_line e ++ arcs_of es
unfolding arcs_of joined
arcs_cons e es = rw append_assoc

module _ {ts hs ws : List ℕ} {m : ℕ} (r : Room m ts hs ws) (k : ℕ) where
  pub arcs_more : k < m → arcs_of (drop k (edges ts hs ws m)) ≡ arc_line (edge_at ts hs ws k) ++ arcs_of (drop (k + 1) (edges ts hs ws m))
  arcs_more l = ap arcs_of (edges_more ts hs ws m r k l) ∙ arcs_cons (edge_at ts hs ws k) (drop (k + 1) (edges ts hs ws m))

  pub arcs_none : m ≤ k → arcs_of (drop k (edges ts hs ws m)) ≡ []
  unfolding arcs_of joined
  arcs_none l = rw (edges_none ts hs ws m r k l)

  pub arcs_sum : (s z x : ℕ) → k < m → x ≡ length (arc_line (edge_at ts hs ws k)) → s + length (arcs_of (drop k (edges ts hs ws m))) ≡ z → s + x + length (arcs_of (drop (k + 1) (edges ts hs ws m))) ≡ z
  arcs_sum s z x l e h = omega (arith, length-append (arc_line (edge_at ts hs ws k)) (arcs_of (drop (k + 1) (edges ts hs ws m))), ap length (arcs_more l))

  pub arcs_all : (s z : ℕ) → m ≤ k → s + length (arcs_of (drop k (edges ts hs ws m))) ≡ z → s ≡ z
  arcs_all s z l h = omega (arith, ap length (arcs_none l))

pub written_lines : (n : ℕ) {ts hs ws : List ℕ} {m : ℕ} → Room m ts hs ws → written n (edges ts hs ws m) ≡ problem_line n m ++ arcs_of (edges ts hs ws m)
unfolding written joined arcs_of
written_lines n {ts} {hs} {ws} {m} r = rw (append_assoc, edges_length ts hs ws m r)
