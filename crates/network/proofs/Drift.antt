-- The claims of specs/Drift.antt. Assumes nothing.
use Rattle.property.proofs.Basics.{◌≡◌, refl, sym, ap, subst, ◌∙◌, inl, inr, true, not, ◌&&◌, ◌||◌, List, [], ◌∷◌, ◌++◌, Memᴰ, ℕ, suc, ◌%◌, ℕ_discrete, length, eq-eqb, ne_eqb}
use mathlib.Core.List.{foldl-append}
use Rattle.property.specs.Property.{property, properties}
use Rattle.property.specs.Drift.{Near, slack}
use Rattle.property.proofs.Tests.{by_test}
use Rattle.property.proofs.Instances.{property_laws}
use Rattle.property.proofs.Drift.{property_steady, property_even, slack_adds}
use Rattle.graph.specs.Refusal.{accept}
use Rattle.graph.specs.Edge.{Edge, same, among}
use Rattle.graph.specs.Table.{rules}
use Rattle.graph.specs.Route.{Best}
use Rattle.graph.specs.Moved.{Moved}
use Rattle.graph.proofs.Verdicts.{then_accept, choose_accept}
use Rattle.graph.proofs.Tests.{both, and_true, or_right}
use Rattle.graph.proofs.Edges.{same_own, same_eq, mem_among, among_mem, ends_pair}
use Rattle.graph.proofs.Order.{Sound, rules_accept, within}
use Rattle.theory.specs.Best.{Weighed}
use Rattle.theory.proofs.Drift.{moved_retuned, answered_route, moved_near, moves_near, retuned_near, zone_moves, zone_retuned}
use Rattle.network.specs.Network.{Network, faults}
use Rattle.network.specs.Change.{Change, brought, struck, updates, edit, item, items}
use Rattle.network.specs.Batch.{long_batch}
use Rattle.network.specs.Current.{turned_back, after}
use Rattle.network.specs.History.{moment, edges_now}
use Rattle.network.specs.Drift.{DriftLimit, RoutesStay, NearRows, NearAnswers, RetuneLimit, ZoneLimit}
use Rattle.network.proofs.Items.{Taken, item_taken, update_kind, table_sound}
use Rattle.network.proofs.Edited.{updated}
use Rattle.network.proofs.Never.{begun}
use Rattle.network.proofs.History.{best_over_routes}

-- ---- one weight

rules_weighed : (n : ℕ) (es : List Edge) → rules n es ≡ accept → Weighed es
rules_weighed n es h = (within n es (rules_accept n es h)).weights

pub drift_limit : DriftLimit
drift_limit p d n es fs h k m s t v w a b = moved_near (property_laws p) (property_steady p d) (rules_weighed n es h) (rules_weighed n fs k) m a b

pub routes_stay : RoutesStay
routes_stay P d es fs m s t = let z = moved_retuned m in (λ (u, r). answered_route d z.forth r, λ (u, r). answered_route d z.back r)

-- ---- many weights

-- time by its moves one after the other, any other property by all moves at once
pub zone_limit : ZoneLimit
unfolding slack
zone_limit p k d n es fs h j z s t v w a b = elim (ℕ_discrete p 1) [
  | yes q ↦ rw (eq-eqb p 1 q) (subst (λ l. Near l v w) (ap (λ x. slack x k) q)
      (moves_near (property_laws p) (slack p) (property_steady p) (slack_adds p) (rules_weighed n es h) (zone_moves (rules_weighed n fs j) z) a b))
  | no q ↦ rw (ne_eqb p 1 q) (retuned_near (property_even p d q) (zone_retuned z) a b)
]

-- ---- standing words and answers

-- the network at a moment keeps the rules
sound_now : (n : ℕ) (ls : List ℕ) (w : Network) → faults n ls w ≡ accept → (bs : List (List Change)) → Sound n (edges_now n w bs)
sound_now n ls w g bs =
    let z = begun n ls w g bs in
    let m = moment n ls w bs in subst (Sound n) z.1 (table_sound n m.memory.table m.count z.0.sound).1

weighed : (n : ℕ) (ls : List ℕ) (w : Network) → faults n ls w ≡ accept → (bs : List (List Change)) → Weighed (edges_now n w bs)
weighed n ls w g bs = (within n (edges_now n w bs) (sound_now n ls w g bs)).weights

-- The rows at a moment hold best values of the network as it is then, and so do the answers. So the limit for best values is one for words.
words_near : (d n : ℕ) (ls : List ℕ) (w : Network) → faults n ls w ≡ accept → (bs cs : List (List Change)) → Moved d (edges_now n w bs) (edges_now n w cs)
    → NearRows d n ls (moment n ls w bs) (moment n ls w cs) × NearAnswers d n ls (moment n ls w bs) (moment n ls w cs)
words_near d n ls w g bs cs m =
    let a = best_over_routes n ls w g bs in
    let b = best_over_routes n ls w g cs in (
      record { forward = λ r t l k. near (suc (r % properties)) _ _ _ _ (a.rows.forward r t l k) (b.rows.forward r t l k); backward = λ r t l k. near (suc (r % properties)) _ _ _ _ (a.rows.backward r t l k) (b.rows.backward r t l k) },
      λ q out i j e f t k. near q.property _ _ _ _ (a.query q out i e t k) (b.query q out j f t k),
    )
  where
    near : (p s t u v : ℕ) → Best (property p) (edges_now n w bs) s t u → Best (property p) (edges_now n w cs) s t v → Near (slack p d) u v
    near p s t u v a b = moved_near (property_laws p) (property_steady p d) (weighed n ls w g bs) (weighed n ls w g cs) m a b

-- An accepted update moves one weight. Its old edge is there, by number 11, and what it leaves is there afterwards; any other edge of one list is in
-- the other.
update_moved : (d n : ℕ) (es : List Edge) (c : Change) → Sound n es → Taken n es c → updates c ≡ true → Near d c.old c.weight → Moved d es (edit es c)
update_moved d n es c s t u near = record {
  old = struck c;
  new = brought c;
  pair = ends_pair (struck c) (brought c) refl refl;
  near = rw u near;
  gone = there;
  come = arrived (brought c) (rw (same_own (brought c)));
  kept = λ e m. by_test (same e (struck c)) (λ q. inl (same_eq e (struck c) q)) (λ q. inr (arrived e (or_right (same e (brought c)) (and_true (mem_among m) (ap not q)))));
  back = λ e m. by_test (same e (brought c)) (λ q. inl (same_eq e (brought c) q))
      (λ q. inr (among_mem es e (both (among es e) (not (same e (struck c))) (rw q at (sym (updated n es s c e u) ∙ mem_among m))).0));
}
  where
    there : Memᴰ (struck c) es
    there = among_mem es (struck c) (t.present (update_kind c u))

    arrived : (e : Edge) → (same e (brought c) || (among es e && not (same e (struck c)))) ≡ true → Memᴰ e (edit es c)
    arrived e h = among_mem (edit es c) e (updated n es s c e u ∙ h)

-- The network after the update is the one before it with one weight moved.
pub retune_limit : RetuneLimit
unfolding turned_back items after
retune_limit d n ls w g bs c h a near =
    let es = edges_now n w bs in
    let z = then_accept (long_batch (length (c ∷ []))) (items n 0 es (c ∷ [])) a in
    let y = then_accept (item n 0 es c) (items n 1 (edit es c) []) z.1 in
    words_near d n ls w g bs (bs ++ (c ∷ []) ∷ [])
    (subst (Moved d es) (sym (foldl-append (after n) _ bs ((c ∷ []) ∷ []) ∙ choose_accept (edit es c) es a))
    (update_moved d n es c (sound_now n ls w g bs) (item_taken n 0 es c y.0) h near))
