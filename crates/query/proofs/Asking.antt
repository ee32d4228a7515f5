-- A query's start words and its schedule, landmark by landmark, vertex by vertex and entry by entry. Assumes nothing.
use Rattle.property.proofs.Basics.{◌≡◌, sym, ap, ap₂, ◌∙◌, cond, List, map, ℕ, suc, ◌+◌, ◌-◌, ◌*◌, ◌<◌, ◌≤◌, sub-zero, add-one, arith, length, get_or, drop, drop_of_length-le, drop-cons, ext_get_or, eqb, lt-ltb, le-ltb, eq-eqb, ne_eqb}
use Rattle.property.specs.Property.{Property, property}
use Rattle.std.specs.Prelude.{Ok, Err}
use Rattle.graph.specs.declared.refusal.Refusal.TheVariants.{Vertex}
use Rattle.graph.specs.Refusal.{Verdict, ◌▷◌, refuse_if}
use Rattle.graph.specs.Edge.{range}
use Rattle.graph.specs.Code.{told}
use Rattle.graph.proofs.Lists.{length_table, table_at}
use Rattle.run.specs.Run.{word}
use Rattle.run.specs.Start.{Landmark, finer, bound}
use Rattle.network.specs.Network.{row}
use Rattle.network.specs.Query.{scheduled, row_at}
use Rattle.calls.proofs.Rows.{row_word}

-- ---- the words of a row

-- what one landmark of the list tells
abbrev pub entry : ℕ → List ℕ → ℕ → ℕ → List ℕ → List ℕ → ℕ → Landmark
entry n ls p s f b i = record {
  vertex = get_or ls i 0;
  into = word (property p) (row n (row_at i p) b) s;
  row = row n (row_at i p) f;
}

-- the words that are read are those that the landmark tells
pub entry_join : (n : ℕ) (ls : List ℕ) (p s : ℕ) (f b : List ℕ) (i t at v : ℕ) → at ≡ row_at i p * n → s < n → t < n → at + s < length b → at + t < length f
    → v ≡ (property p).join (get_or b (at + s) 0) (get_or f (at + t) 0)
    → v ≡ (property p).join (entry n ls p s f b i).into (word (property p) (entry n ls p s f b i).row t)
entry_join n ls p s f b i t at v e hs ht lb lf h =
    h ∙ ap₂ (property p).join
    (ap (λ (a : ℕ). get_or b (a + s) 0) e ∙ row_word (property p) n (row_at i p) s b hs (omega arith))
    (ap (λ (a : ℕ). get_or f (a + t) 0) e ∙ row_word (property p) n (row_at i p) t f ht (omega arith))

-- ---- bounds

module _ (P : Property) (f : ℕ → Landmark) (k t : ℕ) where
  -- the best over the landmarks from i on
  abbrev pub bound_from : ℕ → ℕ
  bound_from i = bound P (map f (range i (k - i))) t

  pub bound_none : bound_from k ≡ P.none
  unfolding bound range
  bound_none = let e : k - k ≡ 0 = omega arith in rw e

  pub bound_turn : (i v w r : ℕ) → 0 < i → i ≤ k → v ≡ P.join (f (i - 1)).into (word P (f (i - 1)).row t) → w ≡ bound_from i → r ≡ finer P v w → r ≡ bound_from (i - 1)
  unfolding bound range
  bound_turn i v w r l m ev ew er =
      let e : k - (i - 1) ≡ suc (k - i) = omega arith in
      let g : suc (i - 1) ≡ i = omega arith in
      rw (e, g, ← ev, ← ew) er

  pub bound_done : (i w : ℕ) → i ≤ 0 → w ≡ bound_from i → w ≡ bound P (map f (range 0 k)) t
  bound_done i w l e = let z : i ≡ 0 = omega arith in rw (z, sub-zero k) at e

-- ---- start words

-- the start word of each vertex
abbrev pub start_of : Property → List Landmark → ℕ → ℕ → ℕ
start_of P ls s t = cond (eqb t s) P.start (bound P ls t)

module _ (P : Property) (ls : List Landmark) (t s : ℕ) {v : ℕ} where
  pub start_source : t ≡ s → v ≡ P.start → v ≡ start_of P ls s t
  start_source e h = rw (eq-eqb t s e) h

  pub start_other : (t ≡ s → ⊥) → v ≡ bound P ls t → v ≡ start_of P ls s t
  start_other d h = rw (ne_eqb t s d) h

module _ (f : ℕ → ℕ) (out : List ℕ) (t : ℕ) (h : (j : ℕ) → j < t → get_or out j 0 ≡ f j) where
  pub words_done : (n : ℕ) → length out ≡ n → n ≤ t → out ≡ map f (range 0 n)
  words_done n l m = ext_get_or 0 out (map f (range 0 n)) (l ∙ sym (length_table f 0 n)) (λ i b. h i (omega arith) ∙ sym (table_at f n i 0 (omega arith)))

-- ---- the schedule

module _ (n : ℕ) (vs : List ℕ) (i : ℕ) {v : Verdict} (h : scheduled n i (drop i vs) ≡ v) where
  pub schedule_more : i < length vs → get_or vs i 0 < n → scheduled n (i + 1) (drop (i + 1) vs) ≡ v
  unfolding scheduled refuse_if ◌▷◌
  schedule_more l e = rw add-one (rw (drop-cons vs i 0 l, lt-ltb (get_or vs i 0) n e) at h)

  pub schedule_broken : i < length vs → n ≤ get_or vs i 0 → told (Err (Vertex i)) ≡ v
  unfolding told scheduled refuse_if ◌▷◌
  schedule_broken l e = rw (drop-cons vs i 0 l, le-ltb (get_or vs i 0) n e) at h

  pub schedule_none : length vs ≤ i → told (Ok tt) ≡ v
  unfolding told scheduled
  schedule_none l = rw (drop_of_length-le vs {i = i} l) at h
