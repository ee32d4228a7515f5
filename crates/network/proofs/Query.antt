-- An accepted query on a network that keeps the invariant: its start words are the triangle bounds, it takes at most n rounds, and its
-- settled words are settled and best. Assumes nothing.
use Rattle.property.proofs.Basics.{◌≡◌, refl, sym, ap, ◌∙◌, subst, ◌⊎◌, inl, inr, ◌≢◌, not, true, false, List, map, Memᴰ, ℕ, suc, ◌-◌, ◌/◌, ◌%◌, ◌≤◌, ◌<◌, mod-eq_of_lt, arith, length, get_or, take, drop, set, replicate, get_or-append, take_at, ltb, leb, eqb, ltb-true, leb-true, eqb-false, not-false}
use mathlib.Core.List.Memᴰ
use native.Mathlib.Nat.{mul-add-div_right, mul-add-mod_self_right, div-eq_of_lt}
use Rattle.property.specs.Property.{Property, property, properties, is_property}
use Rattle.property.specs.Laws.{Laws, Joins}
use Rattle.property.proofs.Instances.{property_laws, property_joins}
use Rattle.frontier.specs.Waiting.{any_of}
use Rattle.graph.specs.Refusal.{accept, ◌▷◌, refuse_if, accepted, over}
use Rattle.graph.specs.Edge.{Edge, reverse, range}
use Rattle.graph.specs.Route.{Route, Best}
use Rattle.graph.specs.Table.{size, short_table, table}
use Rattle.graph.proofs.Tests.{both, neither}
use Rattle.graph.proofs.Lists.{mem_range_0, range_below, get_or_mem, mem_index}
use Rattle.graph.proofs.Verdicts.{then_accept, accept_then, then_same, if_accept, reply_accepted, choose_accept}
use Rattle.graph.proofs.Order.{Within}
use Rattle.run.specs.Run.{Tally, no_tally, word, relaxable, pass}
use Rattle.run.specs.Rounds.{Rounds}
use Rattle.run.specs.Start.{Landmark, bound, asked}
use Rattle.theory.proofs.Settle.{Inv, pass_good, pass_rounds, settle_good, settle_rounds, settled}
use Rattle.theory.proofs.Value.{value_before, best_fits, settled_best}
use Rattle.theory.proofs.Rounds.{settle_all}
use Rattle.theory.proofs.Exists.{best_same}
use Rattle.theory.proofs.Reverse.{reversed_best}
use Rattle.theory.proofs.Query.{by, Bounded, bound_under, bound_is, via, asked_source, asked_other, asked_good}
use Rattle.network.specs.Network.{Network, edges_in, short_rows, landmarks, faults, row, property_of, landmark_of}
use Rattle.network.specs.Query.{Query, Words, row_at, scheduled, known, at_start, at_rounds, at_end, long_schedule, short_words, requested, query_faults, query_verdict, answered, query_call}
use Rattle.network.specs.History.{Triangle, QueryRun, QueryHolds}
use Rattle.network.proofs.Ends.{query_ends}
use Rattle.network.proofs.Moment.{Good, good_within, faults_parts}

-- ---- lists and rows

-- the row of landmark i for property p is of that property and that landmark
row_at_lem : (ls : List ℕ) (p i : ℕ) → 0 < p → p ≤ properties → (Q : Property → ℕ → Type 0)
    → Q (property_of (row_at i p)) (landmark_of ls (row_at i p)) → Q (property p) (get_or ls i 0)
row_at_lem ls p i h k Q q =
    let a : row_at i p % properties ≡ p - 1 = mul-add-mod_self_right i properties (p - 1) ∙ mod-eq_of_lt (omega arith) in
    let z : (p - 1) / properties ≡ 0 = div-eq_of_lt (omega arith) in
    let b : row_at i p / properties ≡ i = mul-add-div_right {m = properties} (omega arith) i (p - 1) ∙ omega arith in
    let c : suc (row_at i p % properties) ≡ p = omega arith in
    rw (c, b) at q

-- numbers 1 to 6 of a query, one by one
pub query_parts : (n : ℕ) (ls : List ℕ) (w : Network) (q : Query) (x y : ℕ) → query_faults n ls w q x y ≡ accept
    → (size n ≡ accept) × (long_schedule (length q.schedule) ≡ accept) × (short_table w.memory.table ≡ accept) × (short_rows n ls w.memory.rows ≡ accept)
    × (short_words n x y ≡ accept) × (landmarks n ls ≡ accept) × (table n w.memory.table w.count ≡ accept) × (requested n q ≡ accept)
unfolding query_faults
query_parts n ls w q x y h =
    let a = then_accept (size n) _ h in
    let b = then_accept (long_schedule (length q.schedule)) _ a.1 in
    let c = then_accept (short_table w.memory.table) _ b.1 in
    let d = then_accept (short_rows n ls w.memory.rows) _ c.1 in
    let e = then_accept (short_words n x y) _ d.1 in
    let f = then_accept (landmarks n ls) _ e.1 in
    let g = then_accept (table n w.memory.table w.count) (requested n q) f.1 in
    (a.0, b.0, c.0, d.0, e.0, f.0, g.0, g.1)

-- of these its own are left where numbers 1 to 4 let the network pass
pub query_own : (n : ℕ) (ls : List ℕ) (w : Network) (q : Query) (x y : ℕ) → faults n ls w ≡ accept
    → query_faults n ls w q x y ≡ (long_schedule (length q.schedule) ▷ short_words n x y ▷ requested n q)
unfolding query_faults
query_own n ls w q x y h =
    let o = faults_parts n ls w h in
    accept_then o.0
    ∙ then_same (long_schedule (length q.schedule)) (λ _. accept_then o.1 ∙ accept_then o.2
    ∙ then_same (short_words n x y) (λ _. accept_then o.3 ∙ accept_then o.4))

-- what is known of a request where no refusal applies
pub query_request : (n : ℕ) (ls : List ℕ) (w : Network) (q : Query) (x y : ℕ) → query_faults n ls w q x y ≡ accept
    → (0 < q.property) × (q.property ≤ properties) × (q.source < n) × (scheduled n 0 q.schedule ≡ accept)
query_request n ls w q x y h =
    let i = then_accept (refuse_if (not (is_property q.property)) 5 0) _ (query_parts n ls w q x y h).7 in
    let j = then_accept (refuse_if (not (ltb q.source n)) 6 0) (scheduled n 0 q.schedule) i.1 in
    let p = both (ltb 0 q.property) (leb q.property properties) (not-false _ (if_accept _ _ _ i.0)) in
    (ltb-true _ _ p.0, leb-true _ _ p.1, ltb-true _ _ (not-false _ (if_accept _ _ _ j.0)), j.1)

module _ (n : ℕ) (ls : List ℕ) (w : Network) (g : Good n ls w) (q : Query) where
  abbrev P : Property
  P = property q.property

  abbrev es : List Edge
  es = edges_in w

  abbrev s : ℕ
  s = q.source

  abbrev L : Laws (property q.property)
  L = property_laws q.property

  abbrev J : Joins (property q.property)
  J = property_joins q.property

  -- what is known of the landmark of index i
  abbrev know : ℕ → Landmark
  know i = record {
    vertex = get_or ls i 0;
    into = word P (row n (row_at i q.property) w.memory.rows.backward) s;
    row = row n (row_at i q.property) w.memory.rows.forward;
  }

  abbrev knowns : List Landmark
  knowns = known n ls w q

  inside : Within n es
  inside = good_within n ls w g

  module _ (low : 0 < q.property) (high : q.property ≤ properties) (source : s < n) where
    -- ---- what the rows tell is best

    ahead : (i : ℕ) → i < length ls → (t : ℕ) → Best P es (know i).vertex t (word P (know i).row t)
    ahead i h t = row_at_lem ls q.property i low high (λ R l. Best R es l t (word R (know i).row t)) (g.forward _ (omega arith) t)

    back : (i : ℕ) → i < length ls → Best P es s (know i).vertex (know i).into
    back i h = reversed_best J (row_at_lem ls q.property i low high
        (λ R l. Best R (map reverse es) l s (word R (row n (row_at i q.property) w.memory.rows.backward) s)) (g.backward _ (omega arith) s))

    known_at : (l : Landmark) → Memᴰ l knowns → (i : ℕ) × (i < length ls) × (know i ≡ l)
    known_at l m = let (i, k, e) = Memᴰ.of_map know (range 0 (length ls)) m in let z = range_below 0 (length ls) i k in (i, omega arith, e)

    known_in : (i : ℕ) → i < length ls → Memᴰ (know i) knowns
    known_in i h = Memᴰ.map know (mem_range_0 (length ls) i h)

    ways : (l : Landmark) → Memᴰ l knowns → Best P es s l.vertex l.into
    ways l m = let (i, h, e) = known_at l m in rw (← e) (back i h)

    rows : (l : Landmark) → Memᴰ l knowns → (t : ℕ) → Best P es l.vertex t (word P l.row t)
    rows l m t = let (i, h, e) = known_at l m in rw (← e) (ahead i h t)

    -- ---- start words are triangle bounds

    abbrev top : ℕ → ℕ
    top t = bound P knowns t

    -- there is a landmark
    some : 0 < length ls
    some = let d : length ls ≢ 0 = eqb-false _ _ (neither (eqb (length ls) 0) _ (if_accept _ _ _ g.chosen)).0 in omega arith

    -- the bound by way of landmark i
    abbrev Found : ℕ → Type 0
    Found t = (l a b : ℕ) × Memᴰ l ls × Best P es s l a × Best P es l t b × (top t ≡ P.join a b)

    found : (t i : ℕ) → i < length ls → top t ≡ by P (know i) t → Found t
    found t i h e = (get_or ls i 0, (know i).into, word P (know i).row t, get_or_mem ls i 0 h, back i h, ahead i h t, e)

    -- Where the bound is none, the word by way of the first landmark is none too: it is not better than the bound, and it is none or the
    -- value of a route, which is no worse than none.
    attained : (t : ℕ) → Bounded P knowns t (top t) → Route P es s t (by P (know 0) t) ⊎ (by P (know 0) t ≡ P.none)
        → P.better (by P (know 0) t) (top t) ≡ false → Found t
    attained t (inr (l, m, e)) v u = let (i, h, d) = known_at l m in found t i h (e ∙ ap (λ x. by P x t) (sym d))
    attained t (inl e) (inr z) u = found t 0 some (e ∙ sym z)
    attained t (inl e) (inl r) u = found t 0 some (L.antisymmetric _ _ (rw e (value_before L es s n inside r)) u)

    -- The bound is, of the words by way of each landmark, the best. Such a word joins what the landmark's two rows tell: the backward word
    -- of the source and the forward word of t. These are best values to the landmark and on from it, and there is one best value only. So
    -- no landmark joins best values to a better one, and one of them joins them to the bound.
    triangle : (t : ℕ) → Triangle P es ls s t (top t)
    triangle t = record {
      unbettered = λ l a b m x y.
          let (i, h, e) = mem_index 0 m in
          rw (best_same L x (rw e at (back i h)), best_same L y (rw e at (ahead i h t))) (bound_under L knowns t (know i) (known_in i h));
      attained = attained t (bound_is P knowns t) (via L J es s n inside source knowns ways rows (know 0) (known_in 0 some) t)
          (bound_under L knowns t (know 0) (known_in 0 some));
    }

    -- ---- the run

    start_good : Inv P es s n (at_start n ls w q)
    start_good = asked_good L J es s n inside source knowns ways rows

    -- what the rows tell are words, and from any words nothing waits after a schedule and n rounds
    pub query_rests : any_of (at_end n ls w q).waiting ≡ false
    query_rests = query_ends n ls w q inside
        (λ l m. record { into = best_fits L es s n inside (ways l m); row = λ t. best_fits L es l.vertex n inside (rows l m t) })

    end_good : Inv P es s n (at_end n ls w q)
    end_good = settle_good L es s n inside n (at_rounds n ls w q) (pass_good L es s n inside q.schedule (at_start n ls w q) start_good)

    quick : (at_end n ls w q).tally.rounds ≤ n
    unfolding asked
    quick = omega (arith, settle_rounds P es n n (at_rounds n ls w q), pass_rounds P es q.schedule (at_start n ls w q))

    -- the words that are written
    read : (ws xs : List ℕ) (t : ℕ) → length ws ≡ n → t < n → word P (over ws xs) t ≡ word P ws t
    read ws xs t e h = get_or-append ws (drop (length ws) xs) P.none t (omega arith)

    end_word : (xs : List ℕ) (t : ℕ) → t < n → word P (over (at_end n ls w q).words xs) t ≡ word P (at_end n ls w q).words t
    end_word xs t h = read (at_end n ls w q).words xs t end_good.words_n h

    -- the first n words that are written
    front : (ws xs : List ℕ) → length ws ≡ n → take n (over ws xs) ≡ ws
    front ws xs e = take_at ws (drop (length ws) xs) n e

    -- the start words and the settled words that are written are those of the run's states; where nothing waits after n rounds, these are all
    ran : (out : Words) → any_of (at_end n ls w q).waiting ≡ false → QueryRun P n es s q.schedule (at_end n ls w q).tally (answered n ls w q out)
    unfolding asked
    ran out rests = record {
      end = at_end n ls w q;
      run = subst (λ ws. Rounds P es n (pass P es q.schedule (record { words = ws; waiting = set (replicate n false) s true; tally = no_tally })) (at_end n ls w q))
          (sym (front (at_start n ls w q).words out.starts start_good.words_n)) (settle_all P es n n (at_rounds n ls w q) rests);
      tallied = refl;
      words = front (at_end n ls w q).words out.settled end_good.words_n;
    }

    well : (out : Words) → any_of (at_end n ls w q).waiting ≡ false → QueryHolds P n ls es s q.schedule (at_end n ls w q).tally (answered n ls w q out)
    well out rests = record {
      bounds = λ t h d. rw (read (at_start n ls w q).words out.starts t start_good.words_n h, asked_other L J es s n inside source knowns ways rows t h d) (triangle t);
      source = read (at_start n ls w q).words out.starts s start_good.words_n source ∙ asked_source L J es s n inside source knowns ways rows s source refl;
      quick = quick;
      ran = ran out rests;
      settled = λ e m. rw (relaxable, end_word out.settled e.tail (inside.tails e m), end_word out.settled e.head (inside.heads e m))
          (settled L es s n inside (at_end n ls w q) end_good rests e m);
      best = λ t h. rw (end_word out.settled t h) (settled_best L es s n inside (at_end n ls w q) end_good rests t);
    }

  -- What an accepted query gives. As it was accepted, its property and its source are as they must be, and nothing waits at its end. Its
  -- start words are triangle bounds of best words: they keep the invariant of runs, and the schedule and the rounds go on keeping it. So
  -- its settled words are settled and best. A schedule counts no round, and there are at most n.
  pub query_good : (out : Words) (tally : Tally) → (query_call n ls w q out).reply ≡ accepted tally
      → QueryHolds P n ls es s q.schedule tally (query_call n ls w q out).memory
  unfolding query_call
  query_good out tally h =
      let z = reply_accepted (query_verdict n ls w q out) (at_end n ls w q).tally tally h in
      let a = then_accept (query_faults n ls w q (length out.starts) (length out.settled)) (refuse_if (any_of (at_end n ls w q).waiting) 13 0) z.0 in
      let r = query_request n ls w q (length out.starts) (length out.settled) a.0 in
      let y = well r.0 r.1 r.2 out (if_accept _ _ _ a.1) in
      rw (choose_accept (answered n ls w q out) out z.0, ← z.1) y
