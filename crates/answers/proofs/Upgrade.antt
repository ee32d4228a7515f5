-- The claim of specs/Upgrade.antt. Assumes nothing.
use Rattle.property.proofs.Basics.{◌≡◌, refl, ap, List, map, ℕ, arith, get_or}
use mathlib.Core.List.{nil≢cons, cons≢nil, head-eq_of_cons-eq, tail-eq_of_cons-eq}
use Rattle.graph.specs.Edge.{Edge}
use Rattle.graph.specs.Simple.{Simple}
use Rattle.graph.specs.Leads.{Leads, stop, on, weights_of}
use Rattle.graph.proofs.Edges.{ends_pair}
use Rattle.graph.proofs.Simple.{simple_once}
use Rattle.answers.specs.Upgrade.{RoutesConserved}

-- Each edge leaves the vertex where the one before it ended, so that edges at one place of two routes through the same vertices are of one pair, and such
-- edges are one.
leads_edges : (es : List Edge) → Simple es → {s u t w : ℕ} {ps qs : List Edge} → Leads es s ps t → Leads es u qs w → s ≡ u → map (λ e. e.head) ps ≡ map (λ e. e.head) qs → ps ≡ qs
leads_edges es h stop stop a e = refl
leads_edges es h stop (on m k) a e = absurd (nil≢cons e)
leads_edges es h (on m k) stop a e = absurd (cons≢nil e)
leads_edges es h (on {e = b} {ps = ps} m k) (on {e = c} {ps = qs} l j) a e =
    let x = head-eq_of_cons-eq e in
    let y : b ≡ c = simple_once es h b c m l (ends_pair b c a x) in
    rw (y, leads_edges es h k j x (tail-eq_of_cons-eq e))

pub routes_conserved : RoutesConserved
routes_conserved P es s t ps h p = record {
  best = p.best;
  fewest = p.fewest;
  lowest = p.lowest;
  lightest = λ qs b v i. (let z : get_or (weights_of qs) i 0 ≡ get_or (weights_of ps) i 0 = ap (λ (rs : List Edge). get_or (weights_of rs) i 0) (leads_edges es h b.leads p.best.leads refl (tail-eq_of_cons-eq v)) in omega arith);
}
