-- A vertex's own edges, read from a table by the places of its vertices' edges or by its index, are the edges that leave it; so also in the index of
-- the reversed table. And the bounds that a run needs of each. Assumes nothing.
--
-- In a table that keeps the rules tails never fall. So the edges of tail u stand together: after as many as have a tail below u,
-- and as many as have the tail u. Places say just these two numbers. The reversed table is made of the edges into 0, into 1, ..,
-- so there the same numbers are those of the heads.
use Rattle.property.proofs.Basics.{◌≡◌, refl, sym, ap, ◌∙◌, Bool, true, false, List, [], ◌∷◌, map, Memᴰ, ℕ, zero, suc, ◌+◌, ◌-◌, ◌<◌, ◌≤◌, add-zero, add-one, arith, length, get_or, take, drop, length-drop, eqb, ltb, length-take-le, get_or-take, get_or-drop, ltb-true, ltb-false, eqb-true, eqb-false, le-ltb, ne_eqb}
use Rattle.property.proofs.Tests.{by_test}
use Rattle.graph.specs.Limits.{max_vertices, max_edges, max_weight}
use Rattle.graph.specs.Refusal.{accept}
use Rattle.graph.specs.Edge.{Edge, edge, reverse, keep_if, keep, leaving, edges}
use Rattle.graph.specs.Table.{is_edge, rules}
use Rattle.graph.specs.Code.{Room, edge_at, below, equal, Keyed, Firsts, into}
use Rattle.graph.specs.Arc.{arc_heads, arc_weights, arc, arc_head, arc_weight, head_in, weight_in}
use Rattle.graph.specs.Index.{part_in, FitIn, OwnIn, IndexesIn, Indexable, ReversedArcs, Indexes}
use Rattle.graph.specs.Parted.{Ascending}
use Rattle.graph.proofs.Lists.{get_or_mem}
use Rattle.graph.proofs.Edges.{leaving_in, keep_in, keep_reverse, reverse_mem}
use Rattle.graph.proofs.Sorted.{sorted_before}
use Rattle.graph.proofs.Order.{table_ordered, Sound, rules_accept, sound_fit, precedes_tail, Within, within}
use Rattle.graph.proofs.Records.{tails_of, edges_length, edges_at, edges_mem, edges_more, edges_tails, edges_heads}
use Rattle.graph.proofs.Counts.{below_zero, below_suc, below_le, below_mono, below_all}
use Rattle.graph.proofs.Arcs.{head_arc, weight_arc, part_at}
use Rattle.graph.proofs.Places.{into_length}

-- ---- the edges of one tail in a table

none_below : (u : ℕ) (es : List Edge) → ((k : ℕ) → k < length es → u ≤ (get_or es k (edge 0 0 0)).tail) → below u (tails_of es) ≡ 0
unfolding below
none_below u [] h = refl
none_below u (e ∷ es) h = rw (le-ltb e.tail u (h 0 (omega arith))) (none_below u es (λ k l. h (suc k) (omega arith)))

none_later : (u : ℕ) (es : List Edge) → ((k : ℕ) → k < length es → u < (get_or es k (edge 0 0 0)).tail) → (equal u (tails_of es) ≡ 0) × (leaving u es ≡ [])
unfolding equal keep keep_if
none_later u [] h = (refl, refl)
none_later u (e ∷ es) h =
    let l = h 0 (omega arith) in
    rw (ne_eqb e.tail u (λ q. omega arith)) (none_later u es (λ k i. h (suc k) (omega arith)))

leaving_part : (n u : ℕ) (es : List Edge) → Sound n es → take (equal u (tails_of es)) (drop (below u (tails_of es)) es) ≡ leaving u es
unfolding below equal keep keep_if
leaving_part n u [] s = refl
leaving_part n u (e ∷ es) s =
    let i = leaving_part n u es s.2 in
    by_test (ltb e.tail u)
    (λ p. let a = ltb-true e.tail u p in rw (p, ne_eqb e.tail u (λ q. omega arith)) i)
    (λ p. by_test (eqb e.tail u)
    (λ q.
    let b = eqb-true e.tail u q in
    let z = none_below u es (λ k l. let m = first k l in omega arith) in
    rw (p, q, z) (ap (λ (l : List Edge). e ∷ l) (rw z at i)))
    (λ q.
    let a = ltb-false e.tail u p in
    let c = eqb-false e.tail u q in
    let l : u < e.tail = omega arith in
    let f : (k : ℕ) → k < length es → u < (get_or es k (edge 0 0 0)).tail = λ k h. let m = first k h in omega arith in
    let (x, y) = none_later u es f in
    rw (p, q, none_below u es (λ k h. let m = f k h in omega arith), x) (sym y)))
  where
    first : (k : ℕ) → k < length es → e.tail ≤ (get_or es k (edge 0 0 0)).tail
    first k l = precedes_tail e (get_or es k (edge 0 0 0)) (sorted_before table_ordered (is_edge n) (edge 0 0 0) (e ∷ es) s 0 (suc k) (omega arith) (omega arith))

-- ---- the edges into a vertex

into_leaving : (u : ℕ) (es : List Edge) → into u es ≡ leaving u (map reverse es)
unfolding into
into_leaving u es = sym (keep_reverse (λ e. eqb e.tail u) es)

into_in : (u : ℕ) (es : List Edge) (x : Edge) → Memᴰ x (into u es) → Memᴰ (reverse x) es
unfolding into
into_in u es x m = (keep_in (λ e. eqb e.head u) es (reverse x) (reverse_mem (keep (λ e. eqb e.head u) es) x m)).0

-- the vertex of a key's place among all keys in order
key_at : (n : ℕ) (ks : List ℕ) (k : ℕ) → k < below n ks → (u : ℕ) × (u < n) × (below u ks ≤ k) × (k < below u ks + equal u ks)
key_at zero ks k l = absurd (let z = below_zero ks in omega arith)
key_at (suc n) ks k l = by_test (ltb k (below n ks))
    (λ q. let (u, a, b, c) = key_at n ks k (ltb-true k (below n ks) q) in (u, omega arith, b, c))
    (λ q. let z = below_suc n ks in (n, omega arith, ltb-false k (below n ks) q, omega arith))

-- ---- places by keys: the edges of a vertex stand after as many as have a lower key, from place c on

module _ (b : Bool) (c n m : ℕ) (ks fs xs ys : List ℕ) (size : length ks ≡ m) (places : (u : ℕ) → u ≤ n → get_or fs u 0 ≡ below u ks + c) where
  next : (u : ℕ) → u < n → get_or fs (u + 1) 0 ≡ below u ks + equal u ks + c
  next u l = let a = places (u + 1) (omega arith) in let d = below_suc u ks in let e = ap (λ (x : ℕ). below x ks) (add-one u) in omega arith

  fits : n ≤ max_vertices → m ≤ max_edges → n < length fs → c + m ≤ length xs → c + m ≤ length ys → ((k : ℕ) → k < m → head_in b (get_or xs (c + k) 0) < n) → FitIn b n fs xs ys
  fits f g p l i h =
      let z = below_zero ks in
      let o = places 0 (omega arith) in
      let e = places n (omega arith) in
      let d = below_le n ks in
      record {
        few = f;
        places = p;
        after = λ u j. let a = places u j in omega arith;
        rising = λ u j. let a = places u (omega arith) in let y = next u j in omega arith;
        within = λ u j. let a = places (u + 1) (omega arith) in let y = below_mono (u + 1) n ks (omega arith) in omega arith;
        heads = omega arith;
        weights = omega arith;
        short = omega arith;
        inside = λ k a y. let j : c + (k - c) ≡ k = omega arith in rw j at (h (k - c) (omega arith));
      }

  owns : (es : List Edge) → ((u : ℕ) → u < n → part_in b xs ys u (below u ks + c) (equal u ks) ≡ leaving u es) → OwnIn b n fs xs ys es
  owns es g u l =
      let a = places u (omega arith) in
      let d = next u l in
      let e : get_or fs (u + 1) 0 - get_or fs u 0 ≡ equal u ks = omega arith in
      ap (λ (x : ℕ). part_in b xs ys u (get_or fs u 0) x) e ∙ ap (λ (x : ℕ). part_in b xs ys u x (equal u ks)) a ∙ g u l

-- ---- two lists that hold a table's edges from place c on

module _ (b : Bool) (c m : ℕ) (ts hs ws xs ys : List ℕ) (r : Room m ts hs ws)
    (held : (k : ℕ) → k < m → (head_in b (get_or xs (c + k) 0) ≡ get_or hs k 0) × (weight_in b (get_or ys (c + k) 0) ≡ get_or ws k 0)) where
  part_edges : (u j k : ℕ) → j + k ≤ m → ((i : ℕ) → j ≤ i → i < j + k → get_or ts i 0 ≡ u) → part_in b xs ys u (j + c) k ≡ take k (drop j (edges ts hs ws m))
  unfolding part_in
  part_edges u j zero l h = refl
  part_edges u j (suc k) l h =
      let x : j + c ≡ c + j = omega arith in
      let y : suc (j + c) ≡ suc j + c = omega arith in
      let d = ap (λ (i : ℕ). head_in b (get_or xs i 0)) x ∙ (held j (omega arith)).0 in
      let w = ap (λ (i : ℕ). weight_in b (get_or ys i 0)) x ∙ (held j (omega arith)).1 in
      rw (edges_more ts hs ws m r j (omega arith), h j (omega arith) (omega arith), add-one j, d, w)
      (ap (λ (l : List Edge). edge u (get_or hs j 0) (get_or ws j 0) ∷ l) (ap (λ (i : ℕ). part_in b xs ys u i k) y ∙ part_edges u (suc j) k (omega arith) (λ i a e. h i (omega arith) (omega arith))))

  -- a part of the table that is the edges of one tail
  part_leaving : (u j k : ℕ) (es : List Edge) → j + k ≤ m → take k (drop j (edges ts hs ws m)) ≡ leaving u es → part_in b xs ys u (j + c) k ≡ leaving u es
  part_leaving u j k es l g = part_edges u j k l tail ∙ g
    where
      tail : (i : ℕ) → j ≤ i → i < j + k → get_or ts i 0 ≡ u
      tail i a d =
          let es' = edges ts hs ws m in
          let z = edges_length ts hs ws m r in
          let q = length-drop j es' in
          let t = length-take-le k (drop j es') (omega arith) in
          let f : j + (i - j) ≡ i = omega arith in
          let e : get_or (take k (drop j es')) (i - j) (edge 0 0 0) ≡ edge_at ts hs ws i =
          get_or-take k (drop j es') (i - j) (edge 0 0 0) (omega arith) ∙ (get_or-drop j es' (i - j) (edge 0 0 0) ∙ rw f (edges_at ts hs ws m r i (omega arith))) in
          (leaving_in u es (edge_at ts hs ws i) (rw (e, g) at (get_or_mem (take k (drop j es')) (i - j) (edge 0 0 0) (omega arith)))).1

-- ---- the table and its index

module _ (n m : ℕ) (ts hs ws : List ℕ) (r : Room m ts hs ws) (a : rules n (edges ts hs ws m) ≡ accept) where
  inner : Within n (edges ts hs ws m)
  inner = within n (edges ts hs ws m) (rules_accept n (edges ts hs ws m) a)

  pub tails_below : (k : ℕ) → k < m → get_or ts k 0 < n
  tails_below k l = inner.tails (edge_at ts hs ws k) (edges_mem ts hs ws m r k l)

  pub heads_below : (k : ℕ) → k < m → get_or hs k 0 < n
  heads_below k l = inner.heads (edge_at ts hs ws k) (edges_mem ts hs ws m r k l)

  pub weights_range : (k : ℕ) → k < m → (0 < get_or ws k 0) × (get_or ws k 0 ≤ max_weight)
  weights_range k l = let f = sound_fit n (edges ts hs ws m) (rules_accept n (edges ts hs ws m) a) (edge_at ts hs ws k) (edges_mem ts hs ws m r k l) in (f.some_weight, f.weight_most)

  pub tails_ascend : Ascending m ts
  tails_ascend i j l b = by_test (ltb i j)
      (λ q.
      let z = edges_length ts hs ws m r in
      let c = ltb-true i j q in
      let p = sorted_before table_ordered (is_edge n) (edge 0 0 0) (edges ts hs ws m) (rules_accept n (edges ts hs ws m) a) i j c (omega arith) in
      precedes_tail (edge_at ts hs ws i) (edge_at ts hs ws j) (rw (edges_at ts hs ws m r i (omega arith), edges_at ts hs ws m r j b) at p))
      (λ q. let c = ltb-false i j q in let e : i ≡ j = omega arith in rw e (omega arith))

  -- lists that hold its edges from place c on, by places that go by its tails
  table_held : (b : Bool) (c : ℕ) (fs xs ys : List ℕ) → n ≤ max_vertices → m ≤ max_edges → n < length fs → c + m ≤ length xs → c + m ≤ length ys
      → ((u : ℕ) → u ≤ n → get_or fs u 0 ≡ below u (take m ts) + c) → ((k : ℕ) → k < m → (head_in b (get_or xs (c + k) 0) ≡ get_or hs k 0) × (weight_in b (get_or ys (c + k) 0) ≡ get_or ws k 0))
      → IndexesIn b n fs xs ys (edges ts hs ws m)
  table_held b c fs xs ys f g p x y at held =
      let es = edges ts hs ws m in
      let ks = take m ts in
      let z = length-take-le m ts r.tails in
      record {
        fit = fits b c n m ks fs xs ys z at f g p x y (λ k l. omega (arith, (held k l).0, heads_below k l));
        own = owns b c n m ks fs xs ys z at es (λ u l.
            let e = below_le (suc u) ks in
            let d = below_suc u ks in
            part_leaving b c m ts hs ws xs ys r held u (below u ks) (equal u ks) es (omega arith) (rw (edges_tails ts hs ws m r) at (leaving_part n u es (rules_accept n es a))));
      }

  -- the table itself
  pub table_placed : (fs : List ℕ) → n ≤ max_vertices → m ≤ max_edges → n < length fs → Firsts n (take m ts) fs → IndexesIn false n fs hs ws (edges ts hs ws m)
  table_placed fs f g p at = table_held false 0 fs hs ws f g p (omega (arith, r.heads)) (omega (arith, r.weights)) (λ u l. at u l ∙ sym (add-zero _)) (λ k l. let e : 0 + k ≡ k = omega arith in rw e (refl, refl))

-- ---- an index of a table that may have one

module _ {n m : ℕ} {ts hs ws fs₀ is₀ : List ℕ} (o : Indexable n m ts hs ws fs₀ is₀) where
  -- what the indexes of the tails and of the heads are asked
  pub keyed_tails : Keyed n m ts fs₀
  keyed_tails = record { few = o.few; records = o.records; keys = o.room.tails; firsts = o.firsts; vertices = tails_below n m ts hs ws o.room o.rules }

  pub keyed_heads : (fs : List ℕ) → n < length fs → Keyed n m hs fs
  keyed_heads fs i = record { few = o.few; records = o.records; keys = o.room.heads; firsts = i; vertices = heads_below n m ts hs ws o.room o.rules }

  -- what places are asked
  pub places_asked : (ks fs : List ℕ) → m ≤ length ks → length fs ≡ length fs₀ → Firsts n (take m ks) fs → (n ≤ max_vertices) × (n < length fs) × (n < length is₀) × ((u : ℕ) → u ≤ n → get_or fs u 0 ≤ max_edges)
  places_asked ks fs l e f = (o.few, omega (arith, o.firsts), omega (arith, o.list), λ u h. let t = length-take-le m ks l in omega (arith, f u h, below_le u (take m ks), o.records))

  -- what arcs are asked
  pub light : (k : ℕ) → k < m → get_or ws k 0 < arc_weights
  light k l = let w = (weights_range n m ts hs ws o.room o.rules k l).1 in omega arith

  pub heads_low : (k : ℕ) → k < m → (get_or hs k 0 < arc_heads) × (get_or ws k 0 < arc_weights)
  heads_low k l = let h = heads_below n m ts hs ws o.room o.rules k l in let f = o.few in (omega arith, light k l)

  pub tails_low : (k : ℕ) → k < m → (get_or ts k 0 < arc_heads) × (get_or ws k 0 < arc_weights)
  tails_low k l = let t = tails_below n m ts hs ws o.room o.rules k l in let f = o.few in (omega arith, light k l)

  module _ (fs is : List ℕ) (size : n + 1 + m ≤ length is) (places : (u : ℕ) → u ≤ n → get_or is u 0 ≡ get_or fs u 0 + (n + 1)) where
    pub table_indexed : Firsts n (take m ts) fs → ((k : ℕ) → k < m → get_or is (n + 1 + k) 0 ≡ arc (get_or hs k 0) (get_or ws k 0)) → Indexes n is (edges ts hs ws m)
    table_indexed f arcs = table_held n m ts hs ws o.room o.rules true (n + 1) is is is o.few o.records (omega arith) size size
        (λ u l. places u l ∙ ap (λ (x : ℕ). x + (n + 1)) (f u l)) (λ k l. (ap arc_head (arcs k l) ∙ head_arc _ _ (light k l), ap arc_weight (arcs k l) ∙ weight_arc _ _ (light k l)))

    pub reversed_indexed : Firsts n (take m hs) fs → ReversedArcs n m ts hs ws is → Indexes n is (map reverse (edges ts hs ws m))
    reversed_indexed f r =
        let ks = take m hs in
        let at : (u : ℕ) → u ≤ n → get_or is u 0 ≡ below u ks + (n + 1) = λ u l. places u l ∙ ap (λ (x : ℕ). x + (n + 1)) (f u l) in
        record {
          fit = fits true (n + 1) n m ks is is is (length-take-le m hs o.room.heads) at o.few o.records (omega arith) size size head;
          own = owns true (n + 1) n m ks is is is (length-take-le m hs o.room.heads) at (map reverse (edges ts hs ws m)) (λ u l. r u l ∙ into_leaving u (edges ts hs ws m));
        }
      where
        -- each arc lies in some vertex's part, and its head is the tail of an edge
        head : (k : ℕ) → k < m → arc_head (get_or is (n + 1 + k) 0) < n
        head k l =
            let es = edges ts hs ws m in
            let ks = take m hs in
            let z = length-take-le m hs o.room.heads in
            let y = below_all n ks (λ j b. let i : j < m = omega arith in rw (get_or-take m hs j 0 i) (heads_below n m ts hs ws o.room o.rules j i)) in
            let (u, a, b, c) = key_at n ks k (omega arith) in
            let q : below u ks + (n + 1) + (k - below u ks) ≡ n + 1 + k = omega arith in
            let e = sym (ap (λ (x : List Edge). get_or x (k - below u ks) (edge 0 0 0)) (r u a)) ∙ part_at is u (below u ks + (n + 1)) (equal u ks) (k - below u ks) (omega arith) in
            let w = ap (equal u) (sym (edges_heads ts hs ws m o.room)) in
            let i = get_or_mem (into u es) (k - below u ks) (edge 0 0 0) (omega (arith, into_length u es)) in
            let x = (sound_fit n es (rules_accept n es o.rules) _ (into_in u es _ i)).tail_below in
            rw q at (rw e at x)
