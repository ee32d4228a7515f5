-- The way back along a trace, and marks written by the weights of its edges. Assumes nothing.
--
--   At s ps i u               == vertex i of the route ps from s is u
--   Marking p v i k zs xs end == of the k weights in front of zs, i are marked in xs; before the next edge the running value is v, and the end will be `end`
use Rattle.property.proofs.Basics.{◌≡◌, refl, sym, ap, ◌∙◌, ◌≢◌, List, [], ◌∷◌, ◌++◌, append_assoc, ℕ, zero, suc, ◌+◌, ◌<◌, ◌≤◌, arith, cond, length, get_or, set, length-map, length-append}
use lib.Seq.{set_at, get_or_at}
use Rattle.property.specs.Property.{property}
use Rattle.graph.specs.Arc.{arc, arc_head, arc_weight}
use Rattle.graph.specs.Refusal.{over}
use Rattle.graph.specs.Edge.{Edge}
use Rattle.graph.specs.Leads.{visited, weights_of}
use Rattle.graph.proofs.Arcs.{head_arc, weight_arc}
use Rattle.answers.specs.Routing.{is_marked, marks_of}
use Rattle.search.specs.Code.{weight_at, Trace}

-- ---- the way back

pub record At (s : ℕ) (ps : List Edge) (i u : ℕ) : Type 0 where
  pub inside : i ≤ length ps
  pub vertex : u ≡ get_or (visited s ps) i 0

module _ {s t : ℕ} {vs : List ℕ} {ps : List Edge} (h : Trace s t vs ps) where
  pub at_last : At s ps (length ps) t
  at_last = record { inside = omega arith; vertex = sym h.last }

  module _ {i u : ℕ} (a : At s ps i u) where
    pub at_inside : u < length vs
    at_inside = rw a.vertex (h.inside i a.inside)

    pub at_source : u ≡ s → i ≡ 0
    at_source e = go i a
      where
        go : (i : ℕ) → At s ps i u → i ≡ 0
        go zero b = refl
        go (suc i) b = absurd (h.away i b.inside (sym b.vertex ∙ e))

    pub at_other : u ≢ s → 0 < i
    at_other n = go i a
      where
        go : (i : ℕ) → At s ps i u → 0 < i
        go zero b = absurd (n b.vertex)
        go (suc i) b = omega arith

    module _ (j : ℕ) (e : i ≡ suc j) where
      before : j < length ps
      before = omega (arith, a.inside)

      at_arc : get_or vs u 0 ≡ arc (get_or (visited s ps) j 0) (weight_at ps j)
      at_arc = ap (λ (x : ℕ). get_or vs x 0) (a.vertex ∙ ap (λ (k : ℕ). get_or (visited s ps) k 0) e) ∙ h.back j before

      pub at_back : At s ps j (arc_head (get_or vs u 0))
      at_back = record { inside = omega (arith, before); vertex = ap arc_head at_arc ∙ head_arc (get_or (visited s ps) j 0) (weight_at ps j) (h.light j before) }

      pub at_weight : arc_weight (get_or vs u 0) ≡ weight_at ps j
      at_weight = ap arc_weight at_arc ∙ weight_arc (get_or (visited s ps) j 0) (weight_at ps j) (h.light j before)

pub length_visited : (s : ℕ) (ps : List Edge) → length (visited s ps) ≡ suc (length ps)
length_visited s ps = ap suc (length-map ps (λ (e : Edge). e.head))

pub length_weights : (ps : List Edge) → length (weights_of ps) ≡ length ps
length_weights ps = length-map ps (λ (e : Edge). e.weight)

-- ---- marks by weights

pub data Marking (p v i k : ℕ) (zs xs end : List ℕ) : Type 0 where
  marking : (gone : List ℕ) (left : List Edge) (ws done rest : List ℕ) → zs ≡ gone ++ (weights_of left ++ ws) → xs ≡ done ++ rest
      → done ++ over (marks_of p v left) rest ≡ end → length gone ≡ i → length done ≡ i → i + length left ≡ k → Marking p v i k zs xs end

pub marking_start : (p v k : ℕ) (ps : List Edge) (ws zs xs : List ℕ) → length ps ≡ k → zs ≡ over (weights_of ps) ws → Marking p v 0 k zs xs (over (marks_of p v ps) xs)
marking_start p v k ps ws zs xs l e = marking [] ps _ [] xs e refl refl refl refl (omega arith)

pub marking_turn : {p v i k : ℕ} {zs xs end : List ℕ} → Marking p v i k zs xs end → (r : ℕ) → i < k → i < length xs
    → ((e : Edge) → get_or zs i 0 ≡ e.weight → r ≡ cond (is_marked p v e) 1 0) → Marking p ((property p).along v (get_or zs i 0)) (i + 1) k zs (set xs i r) end
unfolding marks_of
marking_turn (marking gone [] ws done rest w x e c d m) r l o f = absurd (omega arith)
marking_turn (marking gone (b ∷ left) ws done [] w x e c d m) r l o f = absurd (omega (arith, ap length x, length-append done []))
marking_turn {i = i} {zs = zs} (marking gone (b ∷ left) ws done (y ∷ rest) w x e c d m) r l o f =
    let g : get_or zs i 0 ≡ b.weight = rw w (get_or_at gone b.weight _ 0 i c) in
    marking (gone ++ b.weight ∷ []) left ws (done ++ r ∷ []) rest
    (rw append_assoc w)
    (rw (x, append_assoc) (set_at done y rest r i d))
    (rw (append_assoc, g, f b g) e)
    (length-append gone (b.weight ∷ []) ∙ omega arith)
    (length-append done (r ∷ []) ∙ omega arith)
    (omega arith)

pub marking_done : {p v i k : ℕ} {zs xs end : List ℕ} → Marking p v i k zs xs end → k ≤ i → xs ≡ end
unfolding marks_of
marking_done (marking gone [] ws done rest w x e c d m) l = x ∙ e
marking_done (marking gone (b ∷ left) ws done rest w x e c d m) l = absurd (omega arith)
