-- The route that is written is the preferred one, and 15 comes exactly where there is none: the claim, proved. Assumes nothing.
use Rattle.property.proofs.Basics.{◌≡◌, sym, ap, ◌∙◌, ◌≢◌, ◌↔◌, Bool, true, not, ◌&&◌, List, [], ◌∷◌, ℕ, suc, ◌≤◌, ◌<◌, arith, length, ltb, leb, eqb-true, eq-eqb, ne_eqb, ltb-true, leb-true, not-false}
use Rattle.property.specs.Property.{Property, property, properties, is_property}
use Rattle.property.proofs.Tests.{is_true}
use Rattle.property.proofs.Instances.{property_laws}
use Rattle.graph.specs.Refusal.{Verdict, accept, refuse, ◌▷◌, refuse_if, accepted, refused, replied, Outcome, over}
use Rattle.graph.specs.Edge.{Edge}
use Rattle.graph.specs.Table.{Columns, edges_of, bare_faults}
use Rattle.graph.specs.Leads.{Leads, stop, visited, weights_of, value_along, BestLeads, Preferred}
use Rattle.graph.proofs.Tests.{both}
use Rattle.graph.proofs.Verdicts.{not_accept, then_accept, accept_then, accept_if, refuse_then, if_accept, reply_accepted, reply_refused, choose_accept, outcome_refused, outcome_accepted}
use Rattle.graph.proofs.Judging.{bare_accept}
use Rattle.graph.proofs.Order.{within, rules_accept}
use Rattle.theory.proofs.Leads.{leads_none, along_after}
use Rattle.answers.specs.Routing.{Request, Answer, preferred, marks_of, short_lists, route_faults, no_route, with_route, route_call, WritesRoute, other_faults, best_word, RoutesPreferred, OneVertex}
use Rattle.answers.proofs.Parallel.{preferred_only}
use Rattle.answers.proofs.Marks.{marks_for}
use Rattle.answers.proofs.Preferring.{Asked, preferred_holds, unrouted}

-- a refusal comes where its test holds
if_refused : (b : Bool) (k i : ℕ) → refuse_if b k i ≡ refuse k i → b ≡ true
if_refused b k i h = is_true b (λ q. not_accept (sym h ∙ accept_if k i q))

module _ (n : ℕ) (cs : Columns) (m : ℕ) (q : Request) where
  abbrev P : Property
  P = property q.property

  abbrev es : List Edge
  es = edges_of cs m

  -- what the refusals leave
  pub faults_asked : (a b c : ℕ) → route_faults n cs m q a b c ≡ accept → Asked n es q.property q.source q.target
  unfolding route_faults
  faults_asked a b c h =
      let r = then_accept (bare_faults n cs m (short_lists n a b c)) _ h in
      let d = then_accept (refuse_if (not (is_property q.property)) 5 0) (refuse_if (not (ltb q.source n && ltb q.target n)) 6 0) r.1 in
      let t = bare_accept n cs m (short_lists n a b c) r.0 in
      let p = both (ltb 0 q.property) (leb q.property properties) (not-false _ (if_accept _ _ _ d.0)) in
      let v = both (ltb q.source n) (ltb q.target n) (not-false _ (if_accept _ _ _ d.1)) in
      record {
        few = t.few;
        sound = rules_accept n es t.sound;
        least = ltb-true _ _ p.0;
        most = leb-true _ _ p.1;
        source = ltb-true _ _ v.0;
        target = ltb-true _ _ v.1;
      }

  module _ (out : Answer) where
    abbrev faults : Verdict
    faults = other_faults n cs m q out

    abbrev none : Verdict
    none = no_route n cs m q

    -- at the no-route word 15 comes
    refuses : best_word n cs m q ≡ P.none → none ≡ refuse 15 0
    unfolding refuse_if ◌▷◌
    refuses z = rw (eq-eqb _ _ z)

    -- ---- accepted

    module _ (k : ℕ) (e : (route_call n cs m q out).reply ≡ accepted k) where
      fine : ((faults ▷ none) ≡ accept) × (suc (length (preferred n cs m q)) ≡ k)
      unfolding route_call
      fine = reply_accepted _ _ k e

      asked : Asked n es q.property q.source q.target
      asked = faults_asked _ _ _ (then_accept faults none fine.0).0

      holds : Preferred P es q.source q.target (preferred n cs m q) × (length (preferred n cs m q) < n)
      holds = preferred_holds n cs m q asked (λ z. not_accept (sym (refuses z) ∙ (then_accept faults none fine.0).1))

      left : (route_call n cs m q out).memory ≡ with_route n cs m q out
      unfolding route_call
      left = choose_accept (with_route n cs m q out) out fine.0

      written : (ps : List Edge) × WritesRoute q.property es q.source q.target out (route_call n cs m q out).memory k ps
      written = (
        preferred n cs m q,
        record {
          route = holds.0;
          count = sym fine.1;
          vertices = ap (λ a. a.vertices) left;
          marks = (
            marks_of q.property P.start (preferred n cs m q),
            marks_for q.property asked.least asked.most P.start (preferred n cs m q),
            ap (λ a. a.marks) left,
          );
          figures = ap (λ a. a.figures) left;
        },
      )

      fits : k ≤ n
      fits = let a = fine.1 in let b = holds.1 in omega arith

    -- what has a route has a best value that is not the no-route word
    served : faults ≡ accept → (ps : List Edge) → Leads es q.source ps q.target → (k : ℕ) × ((route_call n cs m q out).reply ≡ accepted k)
    unfolding route_call
    served h ps l =
        let d : best_word n cs m q ≢ P.none = λ z. (unrouted (faults_asked _ _ _ h)).0 z ps l in (
          suc (length (preferred n cs m q)),
          ap (λ o. o.reply) (outcome_accepted (faults ▷ none) _ (with_route n cs m q out) out (accept_then h ∙ accept_if 15 0 (ne_eqb _ _ d))),
        )

    -- ---- refused

    -- where the other numbers let pass, the reply is 15 where the best value is the no-route word, and that is where there is no route
    barred : faults ≡ accept → ((route_call n cs m q out).reply ≡ refused 15 0) ↔ ((ps : List Edge) → Leads es q.source ps q.target → ⊥)
    unfolding route_call replied
    barred h =
        let u = unrouted (faults_asked _ _ _ h) in (
          λ e. u.0 (eqb-true _ _ (if_refused _ 15 0 (sym (accept_then h) ∙ reply_refused (faults ▷ none) (suc (length (preferred n cs m q))) e))),
          λ d. ap (λ v. replied v (suc (length (preferred n cs m q)))) (accept_then h ∙ refuses (u.1 d)),
        )

    judged : (k i : ℕ) → faults ≡ refuse k i → (route_call n cs m q out).reply ≡ refused k i
    unfolding route_call
    judged k i h = ap (λ o. o.reply) (outcome_refused (faults ▷ none) (suc (length (preferred n cs m q))) (with_route n cs m q out) out (refuse_then faults none h))

    stays : (k i : ℕ) → (route_call n cs m q out).reply ≡ refused k i → (route_call n cs m q out).memory ≡ out
    unfolding route_call
    stays k i e = ap (λ o. o.memory) (outcome_refused (faults ▷ none) (suc (length (preferred n cs m q))) (with_route n cs m q out) out
        (reply_refused (faults ▷ none) (suc (length (preferred n cs m q))) e))

-- Document 02, Two and Five: what is accepted is a best route, with the fewest edges, then the lowest vertices, and at each place the lowest weight; 15
-- comes exactly where there is none. The refusals leave a sound table and a request that can be asked. There what is followed along the eligible edges
-- is the preferred route, and the best value is the no-route word exactly where there is no route.
pub routes_preferred : RoutesPreferred
routes_preferred n cs m q out = record {
  written = written n cs m q out;
  fits = fits n cs m q out;
  only = λ ps qs a b. preferred_only a b;
  served = served n cs m q out;
  barred = barred n cs m q out;
  judged = judged n cs m q out;
  stays = stays n cs m q out;
}

-- ---- source and target are one

module _ (n : ℕ) (cs : Columns) (m : ℕ) (q : Request) (out : Answer) (h : other_faults n cs m q out ≡ accept) (z : q.source ≡ q.target) where
  able : Asked n (es n cs m q) q.property q.source q.target
  able = faults_asked n cs m q _ _ _ h

  -- the route without an edge
  ends : Leads (es n cs m q) q.source [] q.target
  ends = rw (← z) stop

  routed : best_word n cs m q ≢ (P n cs m q).none
  routed y = (unrouted able).0 y [] ends

  -- no route's value is better than the source's
  at_once : BestLeads (P n cs m q) (es n cs m q) q.source q.target []
  unfolding value_along
  at_once = record {
    leads = ends;
    unbettered = λ qs l.
        let L = property_laws q.property in along_after L (within n (es n cs m q) able.sound) L.start_fits l;
  }

  alone : preferred n cs m q ≡ []
  alone = let p = (preferred_holds n cs m q able routed).0 in (leads_none p.best.leads (p.fewest [] at_once)).0

  -- the outcome that writes the edges ps
  abbrev writing : List Edge → Outcome ℕ Answer
  writing ps = record {
    reply = accepted (suc (length ps));
    memory = record {
      vertices = over (visited q.source ps) out.vertices;
      marks = over (marks_of q.property (P n cs m q).start ps) out.marks;
      figures = over (weights_of ps) out.figures;
    };
  }

  stopped : route_call n cs m q out ≡ record { reply = accepted 1; memory = record { vertices = over (q.source ∷ []) out.vertices; marks = out.marks; figures = out.figures } }
  unfolding route_call marks_of
  stopped =
      outcome_accepted _ (suc (length (preferred n cs m q))) (with_route n cs m q out) out (accept_then h ∙ accept_if 15 0 (ne_eqb _ _ routed))
      ∙ ap writing alone

-- The route without an edge has the source's value, which no route betters, and none has fewer edges: so what is preferred has no edge.
pub one_vertex : OneVertex
one_vertex n cs m q out h z = stopped n cs m q out h z
