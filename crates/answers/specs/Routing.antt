-- The route behind a value: document 02, Two and Five. Assumes nothing.
--
--   Request           == what is asked: property, source, target
--   Answer            == the three lists lent for it: the vertices of the route, and for each of its edges a mark and its weight ("figure")
--   eligible p ws v e == e can lie on a best route of value v, where ws are the best values from the source: for 1 and 2 it is tight; for 3, 4
--                           and 5 its own value, from the source's value on, is no worse than v
--   best_words, best_word == the best values from the source; that of the target
--   candidates            == the eligible edges, in table order
--   hops                  == for each vertex the fewest eligible edges on to the target
--   leads_on ws k u e     == e leaves u, and its head has k hops to go, where ws are the hops
--   first_of f es         == the first edge of es that passes the test f
--   followed ks ws k u    == k edges from u on, each the first of ks whose head has one hop less to go; so of twins the lightest
--   preferred             == the edges of the route that is written
--   is_marked p v e       == the mark of e: always (1, 2), where the running value v changes (3, 4), never (5)
--   marks_of p v ps       == the marks of the edges ps, 1 or 0, from the running value v on
--   short_lists n a b c   == number 2: one of the lists for the answer, of a, b and c words, has fewer than n
--   route_faults a b c    == numbers 1, 2, 4, 5 and 6, where the lists for the answer have so many words
--   no_route              == number 15
--   with_route out        == the three lists after the call
--   route_call            == reply (how many vertices) and the lists at exit: words past the route stay
--   SetsValue p v e       == document 02: e "set the value", where the running value before it is v
--   MarksFor p v ps ms    == ms has 1 for each edge of ps that set the value, from v on, and 0 for each that "passed it on"
--   WritesRoute .. k ps   == the lists hold the vertices, marks and weights of ps, which is the preferred route, and k is how many vertices it has
--   RouteHolds ..         == what is accepted is the preferred route, the only one, of at most n vertices; where the other numbers let pass, what has a
--                           route is accepted, and 15 comes exactly where there is none; and a refusal leaves the lists
--   RoutesPreferred == the claim: so it is for all that can be asked
--   OneVertex       == the claim: where source and target are one, the route is that vertex, and nothing is marked
use Rattle.std.specs.Prelude.{◌≡◌, ◌⊎◌, ◌≢◌, ◌↔◌, Bool, not, ◌&&◌, ◌||◌, cond, List, [], ◌∷◌, map, ℕ, zero, suc, ◌≤◌, length, eqb, ltb, leb}
use Rattle.std.proofs.Math.Option.{Option, none, some}
use Rattle.property.specs.Property.{bfs, property, is_property}
use Rattle.graph.specs.Refusal.{Verdict, accept, refuse, ◌▷◌, refuse_if, accepted, refused, Outcome, outcome, over}
use Rattle.graph.specs.Edge.{Edge, reverse, keep}
use Rattle.graph.specs.Table.{Columns, edges_of, bare_faults}
use Rattle.graph.specs.Leads.{Leads, visited, weights_of, Preferred}
use Rattle.run.specs.Run.{word, tight}
use Rattle.run.specs.Start.{values_from}

pub record Request : Type 0 where
  pub property : ℕ
  pub source : ℕ
  pub target : ℕ

pub record Answer : Type 0 where
  pub vertices : List ℕ
  pub marks : List ℕ
  pub figures : List ℕ

-- ---- the edges of best routes, and the route with the fewest and lowest

abbrev pub eligible : ℕ → List ℕ → ℕ → Edge → Bool
eligible p ws v e = cond (leb p 2) (tight (property p) ws e) (not ((property p).better v ((property p).along (property p).start e.weight)))

unfoldable pub first_of : (Edge → Bool) → List Edge → Option Edge
first_of f [] = none
first_of f (e ∷ es) = cond (f e) (some e) (first_of f es)

abbrev pub leads_on : List ℕ → ℕ → ℕ → Edge → Bool
leads_on ws k u e = eqb e.tail u && eqb (word bfs ws e.head) k

module _ (ks : List Edge) (ws : List ℕ) where
  unfoldable pub followed : ℕ → ℕ → List Edge
  followed zero u = []
  followed (suc k) u = elim (first_of (leads_on ws k u) ks) [ none ↦ [] | some e ↦ e ∷ followed k e.head ]

-- ---- the marks

abbrev pub is_marked : ℕ → ℕ → Edge → Bool
is_marked p v e = leb p 2 || (leb p 4 && not (eqb ((property p).along v e.weight) v))

unfoldable pub marks_of : ℕ → ℕ → List Edge → List ℕ
marks_of p v [] = []
marks_of p v (e ∷ ps) = cond (is_marked p v e) 1 0 ∷ marks_of p ((property p).along v e.weight) ps

-- ---- the call

abbrev pub short_lists : ℕ → ℕ → ℕ → ℕ → Verdict
short_lists n a b c = refuse_if (ltb a n || (ltb b n || ltb c n)) 2 0

module _ (n : ℕ) (cs : Columns) (m : ℕ) (q : Request) where
  abbrev pub best_words : List ℕ
  best_words = values_from (property q.property) (edges_of cs m) n q.source

  abbrev pub best_word : ℕ
  best_word = word (property q.property) best_words q.target

  abbrev pub candidates : List Edge
  candidates = keep (eligible q.property best_words best_word) (edges_of cs m)

  abbrev pub hops : List ℕ
  hops = values_from bfs (map reverse candidates) n q.target

  abbrev pub preferred : List Edge
  preferred = followed candidates hops (word bfs hops q.source) q.source

  unfoldable pub route_faults : ℕ → ℕ → ℕ → Verdict
  route_faults a b c =
      bare_faults n cs m (short_lists n a b c)
      ▷ refuse_if (not (is_property q.property)) 5 0
      ▷ refuse_if (not (ltb q.source n && ltb q.target n)) 6 0

  abbrev pub no_route : Verdict
  no_route = refuse_if (eqb best_word (property q.property).none) 15 0

  abbrev pub with_route : Answer → Answer
  with_route out = record {
    vertices = over (visited q.source preferred) out.vertices;
    marks = over (marks_of q.property (property q.property).start preferred) out.marks;
    figures = over (weights_of preferred) out.figures;
  }

  unfoldable pub route_call : Answer → Outcome ℕ Answer
  route_call out = outcome (route_faults (length out.vertices) (length out.marks) (length out.figures) ▷ no_route) (suc (length preferred)) (with_route out) out

-- ---- the claim

-- "for headroom and worst stretch it sets where the running value changes, for time and handovers always, for reach never"
abbrev pub SetsValue : ℕ → ℕ → Edge → Type 0
SetsValue p v e = ((p ≡ 1) ⊎ (p ≡ 2)) ⊎ (((p ≡ 3) ⊎ (p ≡ 4)) × ((property p).along v e.weight ≢ v))

pub data MarksFor (p : ℕ) : ℕ → List Edge → List ℕ → Type 0 where
  done : {v : ℕ} → MarksFor p v [] []
  sets : {v : ℕ} {e : Edge} {ps : List Edge} {ms : List ℕ} → SetsValue p v e → MarksFor p ((property p).along v e.weight) ps ms
      → MarksFor p v (e ∷ ps) (1 ∷ ms)
  passes : {v : ℕ} {e : Edge} {ps : List Edge} {ms : List ℕ} → (SetsValue p v e → ⊥) → MarksFor p ((property p).along v e.weight) ps ms
      → MarksFor p v (e ∷ ps) (0 ∷ ms)

-- It names no run and no helper of the call: neither the best values that were found, nor eligible edges, hops and what was followed.
pub record WritesRoute (p : ℕ) (es : List Edge) (s t : ℕ) (out left : Answer) (k : ℕ) (ps : List Edge) : Type 0 where
  pub route : Preferred (property p) es s t ps
  pub count : k ≡ suc (length ps)
  pub vertices : left.vertices ≡ over (visited s ps) out.vertices
  pub marks : (ms : List ℕ) × MarksFor p (property p).start ps ms × (left.marks ≡ over ms out.marks)
  pub figures : left.figures ≡ over (weights_of ps) out.figures

module _ (n : ℕ) (cs : Columns) (m : ℕ) (q : Request) (out : Answer) where
  abbrev pub other_faults : Verdict
  other_faults = route_faults n cs m q (length out.vertices) (length out.marks) (length out.figures)

  pub record RouteHolds : Type 0 where
    pub written : (k : ℕ) → (route_call n cs m q out).reply ≡ accepted k
        → (ps : List Edge) × WritesRoute q.property (edges_of cs m) q.source q.target out (route_call n cs m q out).memory k ps
    pub fits : (k : ℕ) → (route_call n cs m q out).reply ≡ accepted k → k ≤ n
    pub only : (ps qs : List Edge) → Preferred (property q.property) (edges_of cs m) q.source q.target ps
        → Preferred (property q.property) (edges_of cs m) q.source q.target qs → ps ≡ qs
    pub served : other_faults ≡ accept → (ps : List Edge) → Leads (edges_of cs m) q.source ps q.target
        → (k : ℕ) × ((route_call n cs m q out).reply ≡ accepted k)
    pub barred : other_faults ≡ accept
        → ((route_call n cs m q out).reply ≡ refused 15 0) ↔ ((ps : List Edge) → Leads (edges_of cs m) q.source ps q.target → ⊥)
    pub judged : (k i : ℕ) → other_faults ≡ refuse k i → (route_call n cs m q out).reply ≡ refused k i
    pub stays : (k i : ℕ) → (route_call n cs m q out).reply ≡ refused k i → (route_call n cs m q out).memory ≡ out

abbrev pub RoutesPreferred : Type 0
RoutesPreferred = (n : ℕ) (cs : Columns) (m : ℕ) (q : Request) (out : Answer) → RouteHolds n cs m q out

-- "Source equal to target gives one station."
abbrev pub OneVertex : Type 0
OneVertex = (n : ℕ) (cs : Columns) (m : ℕ) (q : Request) (out : Answer) → other_faults n cs m q out ≡ accept → q.source ≡ q.target
    → route_call n cs m q out ≡ record { reply = accepted 1; memory = record { vertices = over (q.source ∷ []) out.vertices; marks = out.marks; figures = out.figures } }
