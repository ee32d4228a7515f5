-- A preview on a network of these calls tells best values, its batch comes to what it showed, and a batch without changes shows nothing: the claims of
-- specs/Preview.antt, proved. Assumes nothing.
use Rattle.property.proofs.Basics.{◌≡◌, refl, sym, ap, ◌∙◌, subst, ap₂, ◌≢◌, ◌↔◌, inl, inr, ⊎_elim, Bool, true, false, cond, ◌||◌, List, [], ◌∷◌, ◌++◌, map, ℕ, zero, suc, ◌≤◌, ◌<◌, arith, length, get_or, drop, replicate, length-replicate, get_or-append, ltb, eqb, ltb-false, le-ltb, eq-eqb, ne_eqb, eqb-true, eqb-false}
use mathlib.Core.List.{foldl-append}
use lib.IntN.{ℤ, pos, ◌-ℤ◌, +ℤ_invr}
use Rattle.property.specs.Property.{Property, property}
use Rattle.property.proofs.Tests.{by_test}
use Rattle.property.proofs.Instances.{property_laws}
use Rattle.graph.specs.Refusal.{accept, ◌▷◌, refuse_if, accepted, refused, verdict_of, Outcome, over}
use Rattle.graph.specs.Edge.{Edge, range}
use Rattle.graph.specs.Route.{Best}
use Rattle.graph.specs.Routed.{Routed}
use Rattle.graph.proofs.Tests.{neither, or_false, or_right}
use Rattle.graph.proofs.Lists.{length_table, table_at}
use Rattle.graph.proofs.Verdicts.{then_accept, accept_then, if_accept, accept_if, then_same, then_last, then_assoc, verdict_replied, reply_accepted, reply_refused, choose_accept, outcome_refused}
use Rattle.run.specs.Run.{word}
use Rattle.theory.proofs.Exists.{best_same}
use Rattle.network.specs.Network.{Network, edges_in, faults, row}
use Rattle.network.specs.Query.{short_words, requested, query_faults, query_call}
use Rattle.network.specs.Change.{Change, items}
use Rattle.network.specs.Batch.{long_batch, batch_call}
use Rattle.network.specs.Caller.{reported, queried}
use Rattle.network.specs.Current.{turned_back}
use Rattle.network.specs.Steady.{RestStays}
use Rattle.network.specs.History.{moment, edges_now, RoutesBest}
use Rattle.network.specs.Routed.{RoutedAt}
use Rattle.network.proofs.Moment.{Good, good_faults, steps}
use Rattle.network.proofs.Items.{length_over}
use Rattle.network.proofs.Query.{query_own, query_parts}
use Rattle.network.proofs.History.{best_over_routes}
use Rattle.network.proofs.Never.{query_judged, batch_judged, begun}
use Rattle.network.proofs.Held.{reply_given}
use Rattle.network.proofs.Routed.{words_routed}
use Rattle.network.proofs.Stays.{over_rest}
use Rattle.network.proofs.Steady.{empty_batch}
use Rattle.network.proofs.Alike.{Alike, query_alike, applied_faults}
use Rattle.answers.specs.Preview.{Shown, effect_of, move_of, inquiry, applied, before, afterwards, preview_faults, preview_verdict, settled_word, shown, preview_call, preview_back, Reached, Accounts, Differ, EntriesStay, PreviewHolds, Borne, PreviewComesTrue, EmptyShown}

-- ---- one vertex

abbrev numbered : Bool → Bool → Bool → ℕ
numbered x y z = cond x 0 (cond y 1 (cond z 2 3))

-- which tests gave it
number : (x y z : Bool) → (numbered x y z ≡ 0 → x ≡ true) × (numbered x y z ≡ 1 → (x ≡ false) × (y ≡ true)) × (numbered x y z ≡ 2 → (y ≡ false) × (z ≡ true))
    × (numbered x y z ≡ 3 → (x ≡ false) × (y ≡ false) × (z ≡ false))
number true y z = (λ e. refl, λ e. absurd (omega arith), λ e. absurd (omega arith), λ e. absurd (omega arith))
number false true z = (λ e. absurd (omega arith), λ e. (refl, refl), λ e. absurd (omega arith), λ e. absurd (omega arith))
number false false true = (λ e. absurd (omega arith), λ e. absurd (omega arith), λ e. (refl, refl), λ e. absurd (omega arith))
number false false false = (λ e. absurd (omega arith), λ e. absurd (omega arith), λ e. absurd (omega arith), λ e. (refl, refl, refl))

-- what the definition says of words a before and b after
module _ (P : Property) (a b : ℕ) where
  tests : (effect_of P a b ≡ 0 → eqb a b ≡ true) × (effect_of P a b ≡ 1 → (eqb a b ≡ false) × (eqb a P.none ≡ true))
      × (effect_of P a b ≡ 2 → (eqb a P.none ≡ false) × (eqb b P.none ≡ true))
      × (effect_of P a b ≡ 3 → (eqb a b ≡ false) × (eqb a P.none ≡ false) × (eqb b P.none ≡ false))
  tests = number (eqb a b) (eqb a P.none) (eqb b P.none)

  differ : Differ P a b (effect_of P a b) (move_of P a b)
  differ = record {
    same = (λ q. eqb-true _ _ (tests.0 q), λ q. rw (eq-eqb a b q));
    gained = (
      λ q. let z = tests.1 q in let y = eqb-true _ _ z.1 in (y, λ c. eqb-false _ _ z.0 (y ∙ sym c)),
      λ z. rw (ne_eqb a b (λ c. z.1 (sym c ∙ z.0)), eq-eqb a P.none z.0),
    );
    lost = (
      λ q. let z = tests.2 q in (eqb-false _ _ z.0, eqb-true _ _ z.1),
      λ z. rw (ne_eqb a b (λ c. z.0 (c ∙ z.1)), ne_eqb a P.none z.0, eq-eqb b P.none z.1),
    );
    moved = (
      λ q. let z = tests.3 q in (eqb-false _ _ z.1, eqb-false _ _ z.2, eqb-false _ _ z.0),
      λ z. rw (ne_eqb a b z.2, ne_eqb a P.none z.0, ne_eqb b P.none z.1),
    );
    move = λ x y. rw (ne_eqb a P.none x, ne_eqb b P.none y);
    unmoved = ⊎_elim (λ x. rw (eq-eqb a P.none x)) (λ y. ap (λ z. cond z (pos 0) (pos b -ℤ pos a)) (or_right (eqb a P.none) (eq-eqb b P.none y)));
  }

  differ_at : {e : ℕ} {d : ℤ} → e ≡ effect_of P a b → d ≡ move_of P a b → Differ P a b e d
  differ_at {e} {d} x y = subst (λ k. Differ P a b k d) (sym x) (subst (Differ P a b (effect_of P a b)) (sym y) differ)

differ_as : {P : Property} {x y u v e : ℕ} {d : ℤ} → x ≡ u → y ≡ v → Differ P x y e d → Differ P u v e d
differ_as {P} {y = y} {u = u} {e = e} {d = d} a b z = subst (λ k. Differ P u k e d) b (subst (λ k. Differ P k y e d) a z)

-- a best value is another than the no-route word where there is a route
reached : {P : Property} {ds : List Edge} {s t a : ℕ} → Best P ds s t a → Routed P ds s t a → (a ≢ P.none) ↔ Reached P ds s t
reached {a = a} g f = (λ d. ⊎_elim (λ r. (a, r)) (λ z. absurd (d z.1)) g.attained, λ r q. f.0 q r.0 r.1)

-- the entries that say how best values a before and b after differ
module _ {P : Property} {ds hs : List Edge} {s t a b : ℕ} (g : Best P ds s t a) (f : Routed P ds s t a) (k : Best P hs s t b) (h : Routed P hs s t b) where
  accounts_of : (left : Shown) → Differ P a b (get_or left.effects t 0) (get_or left.moves t (pos 0)) → Accounts P ds hs s t left
  accounts_of left w = record {
    old = a;
    new = b;
    best = g;
    later = k;
    same = w.same;
    gained = (λ q. let z = w.gained.0 q in (f.0 z.0, (reached k h).0 z.1), λ z. w.gained.1 (f.1 z.0, (reached k h).1 z.1));
    lost = (λ q. let z = w.lost.0 q in ((reached g f).0 z.0, h.0 z.1), λ z. w.lost.1 ((reached g f).1 z.0, h.1 z.1));
    moved = (
      λ q. let z = w.moved.0 q in ((reached g f).0 z.0, (reached k h).0 z.1, z.2),
      λ z. w.moved.1 ((reached g f).1 z.0, (reached k h).1 z.1, z.2),
    );
    move = λ x y. w.move ((reached g f).1 x) ((reached k h).1 y);
    unmoved = ⊎_elim (λ x. w.unmoved (inl (f.1 x))) (λ y. w.unmoved (inr (h.1 y)));
  }

-- ---- the call

-- where what is asked lets pass, a query on a network that keeps the invariant is accepted
query_passes : (n : ℕ) (ls : List ℕ) (u : Network) (p s : ℕ) → Good n ls u → requested n (inquiry p s) ≡ accept → verdict_of (queried n ls u p s []).reply ≡ accept
unfolding refuse_if ◌▷◌
query_passes n ls u p s g h = query_judged n ls u (inquiry p s) (record { starts = replicate n 0; settled = replicate n 0 }) g
    ∙ accept_then {a = short_words n (length (replicate {A = ℕ} n 0)) (length (replicate {A = ℕ} n 0))} (accept_if 2 0 (or_false room room)) ∙ h
  where
    room : ltb (length (replicate {A = ℕ} n 0)) n ≡ false
    room = rw (length-replicate {A = ℕ} n 0) (le-ltb n n (omega arith))

module _ (n : ℕ) (ls : List ℕ) (w : Network) (b : List Change) (p s : ℕ) (out : Shown) where
  -- the entries of a vertex
  abbrev shown_effect : ℕ → ℕ
  shown_effect t = effect_of (property p) (settled_word n ls w b p s (before n ls w b p s) t) (settled_word n ls w b p s (afterwards n ls w b p s) t)

  abbrev shown_move : ℕ → ℤ
  shown_move t = move_of (property p) (settled_word n ls w b p s (before n ls w b p s) t) (settled_word n ls w b p s (afterwards n ls w b p s) t)

  -- numbers 1 to 6, where 1 to 4 let the network pass
  own_faults : faults n ls w ≡ accept → preview_faults n ls w b p s (length out.effects) (length out.moves)
      ≡ (long_batch (length b) ▷ short_words n (length out.effects) (length out.moves) ▷ requested n (inquiry p s))
  unfolding preview_faults refuse_if ◌▷◌
  own_faults h = ap (λ v. long_batch (length b) ▷ v) (query_own n ls w (inquiry p s) (length out.effects) (length out.moves) h)

  module _ (g : Good n ls w) where
    previewed : preview_verdict n ls w b p s out ≡ preview_back n (edges_in w) b p s out
    unfolding turned_back
    previewed = ap₂ ◌▷◌ (own_faults (good_faults n ls w g)) refl ∙ then_assoc (long_batch (length b)) _ _ ∙ then_same (long_batch (length b)) (λ k.
        then_assoc (short_words n (length out.effects) (length out.moves)) _ _ ∙ then_same (short_words n (length out.effects) (length out.moves)) (λ _.
        then_same (requested n (inquiry p s)) (λ h.
        ap₂ ◌▷◌ (batch_judged n ls w b g ∙ accept_then k) refl ∙ then_last (items n 0 (edges_in w) b) (λ _.
        accept_then (query_passes n ls w p s g h) ∙ query_passes n ls (applied n ls w b) p s (steps n ls w b g).kept h))))

  -- ---- accepted

  module _ (e : (preview_call n ls w b p s out).reply ≡ accepted tt) where
    accepts : preview_verdict n ls w b p s out ≡ accept
    unfolding preview_call
    accepts = (reply_accepted (preview_verdict n ls w b p s out) tt tt e).0

    -- none of its parts refuses
    parts : (preview_faults n ls w b p s (length out.effects) (length out.moves) ≡ accept) × (verdict_of (batch_call n ls w b).reply ≡ accept)
        × (verdict_of (before n ls w b p s).reply ≡ accept) × (verdict_of (afterwards n ls w b p s).reply ≡ accept)
    parts =
        let x = then_accept (preview_faults n ls w b p s (length out.effects) (length out.moves)) _ accepts in
        let y = then_accept (verdict_of (batch_call n ls w b).reply) _ x.1 in
        let z = then_accept (verdict_of (before n ls w b p s).reply) (verdict_of (afterwards n ls w b p s).reply) y.1 in
        (x.0, y.0, z.0, z.1)

    asked : query_faults n ls w (inquiry p s) (length out.effects) (length out.moves) ≡ accept
    unfolding preview_faults
    asked = (then_accept (long_batch (length b)) _ parts.0).1

    -- both lists have room for n entries
    room : (n ≤ length out.effects) × (n ≤ length out.moves)
    room =
        let z = neither (ltb (length out.effects) n) (ltb (length out.moves) n) (if_accept _ 2 0 (query_parts n ls w (inquiry p s) _ _ asked).4) in
        (ltb-false _ _ z.0, ltb-false _ _ z.1)

    left : (preview_call n ls w b p s out).memory ≡ shown n ls w b p s out
    unfolding preview_call
    left = choose_accept (shown n ls w b p s out) out accepts

entry : {A : Type 0} (f : ℕ → A) (n : ℕ) (xs : List A) (d : A) (t : ℕ) → t < n → get_or (over (map f (range 0 n)) xs) t d ≡ f t
entry f n xs d t l = get_or-append (map f (range 0 n)) (drop (length (map f (range 0 n))) xs) d t (rw (length_table f 0 n) l) ∙ table_at f n t d l

-- n entries written over a list that has room for them: it is as long as it was, and past n as it was
written : {A : Type 0} (f : ℕ → A) (n : ℕ) (xs : List A) → n ≤ length xs
    → (length (over (map f (range 0 n)) xs) ≡ length xs) × RestStays n xs (over (map f (range 0 n)) xs)
written f n xs h = (length_over (map f (range 0 n)) xs (rw (length_table f 0 n) h), over_rest n (map f (range 0 n)) xs (length_table f 0 n))

-- ---- at any moment of a list of batches

module _ (n : ℕ) (ls : List ℕ) (w : Network) (h : faults n ls w ≡ accept) (bs : List (List Change)) (b : List Change) (p s : ℕ) (out : Shown) where
  abbrev m : Network
  m = moment n ls w bs

  abbrev m' : Network
  m' = moment n ls w (bs ++ b ∷ [])

  abbrev es : List Edge
  es = edges_now n w bs

  abbrev fs : List Edge
  fs = edges_now n w (bs ++ b ∷ [])

  -- the copy after the batch is the network at the next moment
  next : m' ≡ applied n ls m b
  next = foldl-append _ _ bs (b ∷ [])

  then_best : RoutesBest n ls fs (applied n ls m b)
  then_best = subst (RoutesBest n ls fs) next (best_over_routes n ls w h (bs ++ b ∷ []))

  then_routed : RoutedAt n ls fs (applied n ls m b)
  then_routed = subst (RoutedAt n ls fs) next (words_routed n ls w h (bs ++ b ∷ []))

  -- the words of the two queries
  abbrev old : ℕ → ℕ
  old t = settled_word n ls m b p s (before n ls m b p s) t

  abbrev new : ℕ → ℕ
  new t = settled_word n ls m b p s (afterwards n ls m b p s) t

  module _ (e : (preview_call n ls m b p s out).reply ≡ accepted tt) (t : ℕ) (l : t < n) where
    abbrev left' : Shown
    left' = (preview_call n ls m b p s out).memory

    shows : Differ (property p) (old t) (new t) (get_or left'.effects t 0) (get_or left'.moves t (pos 0))
    shows = differ_at (property p) (old t) (new t)
        (ap (λ o. get_or o.effects t 0) (left n ls m b p s out e) ∙ entry (shown_effect n ls m b p s out) n _ 0 t l)
        (ap (λ o. get_or o.moves t (pos 0)) (left n ls m b p s out e) ∙ entry (shown_move n ls m b p s out) n _ (pos 0) t l)

    old_best : Best (property p) es s t (old t) × Routed (property p) es s t (old t)
    old_best = let (tally, x) = reply_given (before n ls m b p s).reply (parts n ls m b p s out e).2 in
        ((best_over_routes n ls w h bs).query _ _ tally x t l, (words_routed n ls w h bs).query _ _ tally x t l)

    new_best : Best (property p) fs s t (new t) × Routed (property p) fs s t (new t)
    new_best = let (tally, x) = reply_given (afterwards n ls m b p s).reply (parts n ls m b p s out e).3 in (then_best.query _ _ tally x t l, then_routed.query _ _ tally x t l)

    tells : Accounts (property p) es fs s t left'
    tells = accounts_of old_best.0 old_best.1 new_best.0 new_best.1 left' shows

  asked_so : {ds : List Edge} {t : ℕ} (xs : List ℕ) (c d : ℕ) → c ≡ p → d ≡ s → Best (property c) ds d t (word (property c) xs t) → Best (property p) ds s t (word (property p) xs t)
  asked_so xs c d i j z = rw (i, j) at z

  -- an accepted query, before the batch or after it, gives best values too, and there is one only
  borne : (preview_call n ls m b p s out).reply ≡ accepted tt → Borne n ls m m' b p s (preview_call n ls m b p s out).memory
  borne e = record {
    accepts = (parts n ls m b p s out e).1;
    shows = λ q r was is one two i j k f x y t l.
        let c = best_same (property_laws p) (old_best e t l).0 (asked_so (query_call n ls m q was).memory.settled _ _ i j ((best_over_routes n ls w h bs).query q was one x t l)) in
        let d = best_same (property_laws p) (new_best e t l).0 (asked_so (query_call n ls m' r is).memory.settled _ _ k f ((best_over_routes n ls w h (bs ++ b ∷ [])).query r is two y t l)) in
        differ_as c d (shows e t l);
  }

  stays : (k i : ℕ) → (preview_call n ls m b p s out).reply ≡ refused k i → (preview_call n ls m b p s out).memory ≡ out
  unfolding preview_call
  stays k i e = ap (λ (o : Outcome (Unit {0}) Shown). o.memory)
      (outcome_refused (preview_verdict n ls m b p s out) tt (shown n ls m b p s out) out (reply_refused (preview_verdict n ls m b p s out) tt e))

-- A preview asks two queries, on the network and on a copy that had the batch. At any moment both keep the invariant, so that nothing but document 02's numbers
-- turns it back, and both queries give best values, where the no-route word says that there is no route.
pub preview_holds : PreviewHolds
unfolding preview_call
preview_holds n ls w h bs b p s out =
    let z = begun n ls w h bs in
    record {
      judged = verdict_replied (preview_verdict n ls (moment n ls w bs) b p s out) tt ∙ previewed n ls (moment n ls w bs) b p s out z.0
          ∙ ap (λ es. preview_back n es b p s out) z.1;
      stays = stays n ls w h bs b p s out;
      tells = tells n ls w h bs b p s out;
      rest = λ e. subst (EntriesStay n out) (sym (left n ls (moment n ls w bs) b p s out e)) (record {
        effects = written (shown_effect n ls (moment n ls w bs) b p s out) n out.effects (room n ls (moment n ls w bs) b p s out e).0;
        moves = written (shown_move n ls (moment n ls w bs) b p s out) n out.moves (room n ls (moment n ls w bs) b p s out e).1;
      });
    }

pub preview_comes_true : PreviewComesTrue
preview_comes_true n ls w h bs b p s out e = borne n ls w h bs b p s out e

-- ---- a batch without changes

table_of : {A : Type 0} (f : ℕ → A) (a : A) → ((t : ℕ) → f t ≡ a) → (i n : ℕ) → map f (range i n) ≡ replicate n a
unfolding range
table_of f a h i zero = refl
table_of {A} f a h i (suc n) = ap₂ {C = List A} ◌∷◌ (h i) (table_of f a h (suc i) n)

module _ (n : ℕ) (ls : List ℕ) (w : Network) (p s : ℕ) (out : Shown) (e : (preview_call n ls w [] p s out).reply ≡ accepted tt) where
  passes : faults n ls w ≡ accept
  passes =
      let o = query_parts n ls w (inquiry p s) _ _ (asked n ls w [] p s out e) in
      accept_then o.0 ∙ accept_then o.2 ∙ accept_then o.3 ∙ accept_then o.5 ∙ o.6

  -- the copy is the network, but for what its table lists hold past the count
  alike : Alike n ls w (applied n ls w [])
  unfolding reported
  alike =
      let z = empty_batch n ls w passes in
      record {
        edges = z.2;
        count = ap (reported w.count) z.0;
        forward = λ r k. ap (λ x. row n r x.forward) z.1;
        backward = λ r k. ap (λ x. row n r x.backward) z.1;
        passes = applied_faults n ls w passes [] _ z.0;
      }

  same : afterwards n ls w [] p s ≡ before n ls w [] p s
  same = query_alike n ls w (applied n ls w []) passes alike (inquiry p s) _

unchanged : (P : Property) (a b : ℕ) → b ≡ a → (effect_of P a b ≡ 0) × (move_of P a b ≡ pos 0)
unchanged P a b e = (
  rw (eq-eqb a b (sym e)),
  ap (move_of P a) e ∙ by_test (eqb a P.none || eqb a P.none) (λ z. rw z) (λ z. rw z (+ℤ_invr (pos a))),
)

-- A batch without changes leaves edges, count and rows, and by these a query goes, whatever words the rows hold: so both give the same words.
pub empty_shown : EmptyShown
empty_shown n ls w p s out e =
    let still : (t : ℕ) → (shown_effect n ls w [] p s out t ≡ 0) × (shown_move n ls w [] p s out t ≡ pos 0) =
    λ t. unchanged (property p) _ _ (ap (λ o. settled_word n ls w [] p s o t) (same n ls w p s out e)) in
    left n ls w [] p s out e
    ∙ ap₂ (λ xs ys. record { effects = over xs out.effects; moves = over ys out.moves })
    (table_of (shown_effect n ls w [] p s out) 0 (λ t. (still t).0) 0 n) (table_of (shown_move n ls w [] p s out) (pos 0) (λ t. (still t).1) 0 n)
