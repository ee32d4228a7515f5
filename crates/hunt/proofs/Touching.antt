-- One vertex's old edges taken from last to first: what one edge does to the marks and to what is to do, and what all of them do. Assumes nothing.
use Rattle.property.proofs.Basics.{◌≡◌, refl, sym, ap, ◌∙◌, inl, inr, ⊎_elim, Bool, true, false, not, ◌&&◌, cond, true≢false, List, ℕ, suc, ◌+◌, ◌-◌, ◌≤◌, ◌<◌, arith, length, get_or, set, get_or-set_same, not-true}
use mathlib.Core.Bool.{or_comm}
use lib.Seq.{set-get_or}
use Rattle.property.specs.Property.{Property}
use Rattle.property.proofs.Tests.{is_false, by_test}
use Rattle.frontier.specs.Waiting.{waiting_of}
use Rattle.graph.specs.Arc.{arc_head}
use Rattle.graph.specs.Edge.{Edge, edge}
use Rattle.graph.specs.Index.{edge_of, part_in, part}
use Rattle.graph.proofs.Tests.{both}
use Rattle.graph.proofs.Lists.{get_or_within}
use Rattle.graph.proofs.Arcs.{fit_arc, mem_part}
use Rattle.run.specs.Run.{word}
use Rattle.affected.specs.Net.{removed}
use Rattle.affected.specs.Affected.{held, marked, touches, mark, sweep}
use Rattle.affected.proofs.Closure.{raise_keeps, raise_only}
use Rattle.affected.proofs.Passes.{sweep_elsewhere}
use Rattle.hunt.specs.Code.{holds, marks_head, from_end, Hunting, Counterparts, Grown, Touched}
use Rattle.hunt.proofs.Bits.{marks_if}

-- an edge by what the code reads
pub same_held : (P : Property) (s t h w : ℕ) (ws : List ℕ) → t < length ws → h < length ws → holds P s (get_or ws t 0) w h (get_or ws h 0) ≡ held P s ws (edge t h w)
same_held P s t h w ws tail head =
    let p : get_or ws t 0 ≡ word P ws t = get_or_within ws t 0 P.none tail in
    let q : get_or ws h 0 ≡ word P ws h = get_or_within ws h 0 P.none head in
    rw (p, q)

-- ---- growth

grown_none : (n : ℕ) (ms gs : List Bool) → Grown n ms gs ms gs
grown_none n ms gs = record { keeps = λ t q. q; due = λ k q. q; new = λ t. inl; only = λ k. inl }

grown_then : {n : ℕ} {ms gs ms' gs' ms'' gs'' : List Bool} → Grown n ms gs ms' gs' → Grown n ms' gs' ms'' gs'' → Grown n ms gs ms'' gs''
grown_then p q = record {
  keeps = λ t h. q.keeps t (p.keeps t h);
  due = λ k h. q.due k (p.due k h);
  new = λ t h. ⊎_elim (λ y. ⊎_elim inl (λ z. inr (q.due _ z)) (p.new t y)) inr (q.new t h);
  only = λ k h. ⊎_elim (λ y. ⊎_elim inl (λ z. inr (z.0, z.1, q.keeps _ z.2)) (p.only k y))
      (λ z. inr (z.0, is_false _ (λ o. true≢false (sym (p.keeps _ o) ∙ z.1)), z.2)) (q.only k h);
}

-- vertex h gets a mark and is to do
grown_if : (n h : ℕ) (b : Bool) (ms gs : List Bool) → h < n → h < length ms → from_end n h < length gs → (b ≡ true → marked ms h ≡ false)
    → Grown n ms gs (cond b (set ms h true) ms) (cond b (set gs (from_end n h) true) gs)
grown_if n h false ms gs l a d f = grown_none n ms gs
grown_if n h true ms gs l a d f = record {
  keeps = raise_keeps ms h true a;
  due = raise_keeps gs (from_end n h) true d;
  new = λ t y. ⊎_elim inl (λ z. inr (rw z.1 (get_or-set_same gs (from_end n h) true false d))) (raise_only ms h true t y);
  only = λ k y. ⊎_elim inl (λ z. let i = z.1 in let e : from_end n k ≡ h = omega arith in
      inr (omega arith, rw e (f refl), rw e (get_or-set_same ms h true false a))) (raise_only gs (from_end n h) true k y);
}

-- ---- the edges of u

-- a head that has its mark already can be passed over
late : (ms : List Bool) (h : ℕ) (b : Bool) → cond (not (marked ms h) && b) (set ms h true) ms ≡ cond b (set ms h true) ms
late ms h true = by_test (marked ms h) (λ q. rw q (sym (ap (set ms h) (sym q) ∙ set-get_or ms h false))) (λ q. rw q)
late ms h false = by_test (marked ms h) (λ q. rw q) (λ q. rw q)

module _ {P : Property} {n s : ℕ} {vs is os : List ℕ} {u : ℕ} {on : Bool} {bs gs : List ℕ} where
  pub touched_none : Hunting n vs is os bs gs → (j k : ℕ) → k ≡ 0 → Touched P n s vs is os u on j k bs gs bs gs
  unfolding sweep part_in
  touched_none h j k e = rw e record { marks = h.marks; todo = h.todo; grown = grown_none n (waiting_of bs) (waiting_of gs); swept = λ es fs f o. refl }

  -- One edge more, at place j. No arc of u leads to u, so that u is marked or not as it was at first.
  module _ {cs ks : List ℕ} (i : ℕ) (at : Touched P n s vs is os u on i (get_or is (u + 1) 0 - i) bs gs cs ks) (hunting : Hunting n vs is os bs gs) (vertex : u < n)
      (low : get_or is u 0 < i) (high : i ≤ get_or is (u + 1) 0) where
    abbrev j : ℕ
    j = i - 1

    abbrev h : ℕ
    h = arc_head (get_or is j 0)

    abbrev marking : Bool
    marking = marks_head P s vs (waiting_of cs) (get_or vs u 0) on (get_or is j 0) (get_or os j 0)

    inside : h < n
    inside = (fit_arc hunting.index u j vertex (omega arith) (omega arith)).1

    stays : (es fs : List Edge) → Counterparts n es fs is os → marked (sweep P es fs s vs (part is u i (get_or is (u + 1) 0 - i)) (waiting_of bs)) u ≡ marked (waiting_of bs) u
    stays es fs f = sweep_elsewhere P es fs s vs u (part is u i (get_or is (u + 1) 0 - i)) (λ e m. let z = mem_part is u i (get_or is (u + 1) 0 - i) e m in
        let a = z.1 in let b = z.2 in rw (sym z.3) (f.loopless u z.0 vertex (omega arith) (omega arith))) (waiting_of bs)

    module _ (cs' ks' : List ℕ) (p : waiting_of cs' ≡ cond marking (set (waiting_of cs) h true) (waiting_of cs)) (q : waiting_of ks' ≡ cond marking (set (waiting_of ks) (from_end n h) true) (waiting_of ks)) where
      one : (es fs : List Edge) → Counterparts n es fs is os → on ≡ marked (waiting_of cs) u → waiting_of cs' ≡ mark P es fs s vs (waiting_of cs) (edge_of is u j)
      unfolding mark
      one es fs f o =
          let e = edge_of is u j in
          let a = same_held P s u h e.weight vs (omega (arith, hunting.words)) (omega (arith, inside, hunting.words)) in
          p ∙ rw (a, o, sym (f.other u j vertex (omega arith) (omega arith)), or_comm (marked (waiting_of cs) u) (removed P es fs e)) (late (waiting_of cs) h (touches P es fs s vs (waiting_of cs) e))

      pub touched_turn : Touched P n s vs is os u on (i - 1) (get_or is (u + 1) 0 - (i - 1)) bs gs cs' ks'
      unfolding sweep part_in
      touched_turn =
          let e : get_or is (u + 1) 0 - (i - 1) ≡ suc (get_or is (u + 1) 0 - i) = omega arith in
          let g : suc (i - 1) ≡ i = omega arith in
          record {
            marks = marks_if n cs cs' h marking inside p at.marks;
            todo = marks_if n ks ks' (from_end n h) marking (omega (arith, inside)) q at.todo;
            grown = grown_then at.grown (rw (p, q) (grown_if n h marking (waiting_of cs) (waiting_of ks) inside (omega (arith, inside, at.marks.bits, at.marks.few))
                (omega (arith, inside, at.todo.bits, at.todo.few)) (λ y. not-true _ (both (not (marked (waiting_of cs) h)) _ y).0)));
            swept = λ es fs f o. let z = at.swept es fs f o in
                rw (e, g) (one es fs f (o ∙ sym (stays es fs f) ∙ ap (λ l. marked l u) (sym z)) ∙ ap (λ l. mark P es fs s vs l (edge_of is u j)) z);
          }
