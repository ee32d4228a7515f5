-- What the search finds is the preferred route, and where it finds none there is none; and the outcomes of the call. Assumes nothing.
use Rattle.property.proofs.Basics.{◌≡◌, sym, ap, ◌∙◌, inl, inr, ◌≢◌, Bool, true, false, not, ◌||◌, List, Memᴰ, ℕ, suc, ℕ_discrete, length, eqb, ltb, eqb-true, ltb-true, ltb-false, eq-eqb, ne_eqb}
use Rattle.property.specs.Property.{Property, property}
use Rattle.property.proofs.Tests.{by_test}
use Rattle.std.specs.Prelude.{Ok, Err}
use Rattle.graph.specs.declared.refusal.Refusal.{Refusal}
use Rattle.graph.specs.declared.refusal.Refusal.TheVariants.{NoRoute}
use Rattle.graph.specs.Refusal.{Verdict, accept, ◌▷◌, refuse_if, outcome, over}
use Rattle.graph.specs.Edge.{Edge, keep, edges}
use Rattle.graph.specs.Table.{Columns, edges_of, bare_faults}
use Rattle.graph.specs.Leads.{Leads, visited, weights_of, Preferred}
use Rattle.graph.specs.Code.{told, reply_of, columns}
use Rattle.graph.proofs.Tests.{neither, or_right}
use Rattle.graph.proofs.Verdicts.{then_accept, refuse_then, accept_then, if_accept, accept_if, outcome_refused, outcome_accepted}
use Rattle.graph.proofs.Judging.{bare_accept}
use Rattle.graph.proofs.Edges.{keep_in, in_keep}
use Rattle.graph.proofs.Order.{rules_accept}
use Rattle.theory.proofs.Leads.{Least, leads_map}
use Rattle.answers.specs.Routing.{Request, eligible, best_words, best_word, preferred, marks_of, short_lists, route_faults, no_route, with_route, route_call}
use Rattle.answers.proofs.Parallel.{Light, preferred_only}
use Rattle.answers.proofs.Routing.{faults_asked}
use Rattle.answers.proofs.Preferring.{Asked, fewest_preferred, least_preferred, eligible_leads, unrouted, preferred_holds}
use Rattle.search.specs.Search.{Search, is_unfound, is_searched, searched}
use Rattle.search.specs.Code.{Trace}
use Rattle.search.proofs.Searching.{Found, search_finds, search_lacks}
use Rattle.routing.specs.Code.{requesting, answer_of, route_outcome, unfaulted, Routable}

-- what a request has that numbers 1 to 6 let pass
pub accept_routable : (n : ℕ) (ts hs ws : List ℕ) (m p s t : ℕ) (xs ys zs : List ℕ)
    → route_faults n (columns ts hs ws) m (requesting p s t) (length xs) (length ys) (length zs) ≡ accept → Routable n m p s t ts hs ws xs ys zs
unfolding route_faults
accept_routable n ts hs ws m p s t xs ys zs h =
    let short = short_lists n (length xs) (length ys) (length zs) in
    let g = faults_asked n (columns ts hs ws) m (requesting p s t) (length xs) (length ys) (length zs) h in
    let b = bare_accept n (columns ts hs ws) m short (then_accept (bare_faults n (columns ts hs ws) m short) _ h).0 in
    let w = neither (ltb (length xs) n) (ltb (length ys) n || ltb (length zs) n) (if_accept _ _ _ b.own) in
    let v = neither (ltb (length ys) n) (ltb (length zs) n) w.1 in
    record {
      few = g.few;
      tabled = record { few = b.count; room = b.room; rules = b.sound };
      least = g.least;
      most = g.most;
      source = g.source;
      target = g.target;
      vertices = ltb-false _ _ w.0;
      marks = ltb-false _ _ v.0;
      figures = ltb-false _ _ v.1;
    }

pub routable_asked : {n m p s t : ℕ} {ts hs ws xs ys zs : List ℕ} → Routable n m p s t ts hs ws xs ys zs → Asked n (edges ts hs ws m) p s t
routable_asked {n} g = record {
  few = g.few;
  sound = rules_accept n _ g.tabled.rules;
  least = g.least;
  most = g.most;
  source = g.source;
  target = g.target;
}

-- whether the target was found, by what the search told
told_not : (r u : Bool) → r ≡ not u → u ≡ not r
told_not r true e = sym (ap not e)
told_not r false e = sym (ap not e)

module _ (n : ℕ) (cs : Columns) (m : ℕ) (q : Request) where
  abbrev es : List Edge
  es = edges_of cs m

  abbrev P : Property
  P = property q.property

  abbrev st : Search
  st = searched q.property es n q.source q.target

  abbrev is_sought : Edge → Bool
  is_sought = is_searched q.property (best_words n cs m q) q.target

  abbrev is_candidate : Edge → Bool
  is_candidate = eligible q.property (best_words n cs m q) (best_word n cs m q)

  -- ---- the search and the preferred route

  -- r is what the search told: whether the target was found
  module _ (g : Asked n es q.property q.source q.target) {r : Bool} (e : r ≡ not (is_unfound st q.target)) where
    -- an eligible edge is searched, so where there is a best route the search does not lack its target
    pub lacks_route : not r ≡ true → best_word n cs m q ≡ P.none
    lacks_route h = elim (ℕ_discrete (best_word n cs m q) P.none) [
      | yes z ↦ z
      | no d ↦
          let (qs, l) = eligible_leads g d in
          absurd (search_lacks is_sought es n q.source g.sound g.few g.source q.target (told_not r _ e ∙ h) qs (leads_map (λ e k.
          let (a, b) = keep_in is_candidate es e k in
          in_keep is_sought a (or_right (eqb q.property 2) (or_right (ltb 4 q.property) b))) l))
    ]

    module _ (h : not r ≡ false) where
      found : Found (keep is_sought es) q.source q.target st.via
      found = search_finds is_sought es n q.source g.sound g.few g.source q.target g.target (told_not r _ e ∙ h)

      abbrev ps : List Edge
      ps = found.0

      -- it is a route of the table
      leads : Leads es q.source ps q.target
      leads = leads_map (λ e k. (keep_in is_sought es e k).0) found.1.0

      pub some_route : best_word n cs m q ≢ P.none
      some_route z = (unrouted g).0 z ps leads

      -- what the search found is first, and along the lightest of twins, in a list whose edges are all searched
      module _ (xs : List Edge) (into : (e : Edge) → Memᴰ e xs → Memᴰ e (keep is_sought es)) where
        first : Leads xs q.source ps q.target → Least xs q.source q.target ps
        first l = (l, λ qs k. found.1.1 qs (leads_map into k))

        light : Light xs ps
        light e m x k = found.2 e m x (into x k)

      -- For handovers and reach every edge is searched, and what comes first of all routes is preferred. For the others the eligible edges are
      -- searched, and what comes first of their routes is.
      is_preferred : Preferred P es q.source q.target ps
      is_preferred = by_test (eqb q.property 2)
          (λ z. let all : (e : Edge) → Memᴰ e es → Memᴰ e (keep is_sought es) = λ e k. in_keep is_sought k (rw z) in
          fewest_preferred q.property (inl (eqb-true _ _ z)) (first es all leads) (light es all))
          (λ z. by_test (ltb 4 q.property)
          (λ y. let all : (e : Edge) → Memᴰ e es → Memᴰ e (keep is_sought es) = λ e k. in_keep is_sought k (rw (z, y)) in
          fewest_preferred q.property (inr (ltb-true _ _ y)) (first es all leads) (light es all))
          (λ y.
          let into : (e : Edge) → Memᴰ e (keep is_candidate es) → Memᴰ e (keep is_sought es) = λ e k. let (a, b) = keep_in is_candidate es e k in in_keep is_sought a (rw (z, y) b) in
          let l = leads_map (λ e k. let (a, b) = keep_in is_sought es e k in in_keep is_candidate a (rw (z, y) at b)) found.1.0 in
          least_preferred g some_route (first (keep is_candidate es) into l) (light (keep is_candidate es) into)))

      -- there is one preferred route
      pub found_preferred : (vs : List ℕ) → vs ≡ st.via → Trace q.source q.target vs (preferred n cs m q)
      found_preferred vs z = let (p, k) = preferred_holds n cs m q g some_route in rw (z, ← (preferred_only is_preferred p)) found.3

  -- ---- the outcomes

  module _ (xs ys zs : List ℕ) where
    abbrev faults : Verdict
    faults = route_faults n cs m q (length xs) (length ys) (length zs)

    pub route_refused : (e : Refusal) → told (Err e) ≡ faults → route_outcome (Err e) xs ys zs ≡ route_call n cs m q (answer_of xs ys zs)
    unfolding route_call reply_of told
    route_refused e h = sym (outcome_refused (faults ▷ no_route n cs m q) _ _ _ (refuse_then faults _ (sym h)))

    pub route_unfaulted : faults ≡ accept → unfaulted n cs m q (answer_of xs ys zs) ≡ route_call n cs m q (answer_of xs ys zs)
    unfolding route_call
    route_unfaulted e = ap (λ v. outcome v (suc (length (preferred n cs m q))) (with_route n cs m q (answer_of xs ys zs)) (answer_of xs ys zs)) (sym (accept_then e))

    pub route_lacking : best_word n cs m q ≡ P.none → route_outcome (Err NoRoute) xs ys zs ≡ unfaulted n cs m q (answer_of xs ys zs)
    unfolding reply_of refuse_if
    route_lacking z = sym (outcome_refused (no_route n cs m q) _ _ _ (rw (eq-eqb _ _ z)))

    pub route_written : (r : ℕ) (us vs fs : List ℕ) → best_word n cs m q ≢ P.none
        → (r ≡ suc (length (preferred n cs m q))) × (us ≡ over (visited q.source (preferred n cs m q)) xs)
        × (vs ≡ over (marks_of q.property P.start (preferred n cs m q)) ys) × (fs ≡ over (weights_of (preferred n cs m q)) zs)
        → route_outcome (Ok r) us vs fs ≡ unfaulted n cs m q (answer_of xs ys zs)
    unfolding reply_of
    route_written r us vs fs d (a, b, c, e) = rw (a, b, c, e) (sym (outcome_accepted (no_route n cs m q) _ _ _ (accept_if 15 0 (ne_eqb _ _ d))))
