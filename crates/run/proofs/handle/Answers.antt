-- `run::handle` meets its contract. The loop's invariant: the edges that are left, from the state now, come to what all edges of the vertex come
-- to from the state in which its bit is cleared; and the vertex keeps its word, which is read once. Assumes nothing.
use Rattle.property.proofs.Basics.{◌≡◌, refl, sym, ap, ◌∙◌, subst, false, List, ℕ, ◌+◌, ◌≤◌, ◌<◌, arith, get_or, length}
use Rattle.property.specs.Property.{property, M}
use Rattle.property.proofs.Instances.{property_laws}
use Rattle.graph.specs.Limits.{max_vertices, max_edges}
use Rattle.graph.specs.Edge.{Edge}
use Rattle.graph.specs.Index.{edge_in, OwnIn}
use Rattle.run.specs.Run as spec
use Rattle.run.specs.Code.{state, Ready, Ran}
use Rattle.graph.proofs.Lists.{fold_turn, fold_done, get_or_within}
use Rattle.run.proofs.Folds.{part_more, part_none}
use Rattle.run.proofs.States.{marks_set, ran_none, ran_then, ran_within, clear_bit, handle_own, keeps_tail}
use Rattle.run.proofs.handle.Goals as goal

pub offset_bounds-words-u : goal.offset_bounds-words-u
offset_bounds-words-u c =
    let ready : let g = c.args in
    (g.u < length g.words.now) × Ready 39 g.packed (length g.words.now) g.firsts.now g.heads.now g.weights.now g.words.now g.waiting.now g.tally = let g = c.args in
    subst (λ n. (g.u < n) × Ready 39 g.packed n g.firsts.now g.heads.now g.weights.now g.words.now g.waiting.now g.tally) (sym c.requires.2.sized.words) (c.requires.1, c.requires.2) in
    let low : (c.args.u < max_vertices) × (c.args.u + 1 < length c.args.firsts.now) = let (u, r) = ready in (omega (arith, r.fit.few), omega (arith, r.fit.places)) in
    omega (arith, low)

pub bounds-words-u : goal.bounds-words-u
bounds-words-u c =
    let ready : let g = c.args in
    (g.u < length g.words.now) × Ready 39 g.packed (length g.words.now) g.firsts.now g.heads.now g.weights.now g.words.now g.waiting.now g.tally = let g = c.args in
    subst (λ n. (g.u < n) × Ready 39 g.packed n g.firsts.now g.heads.now g.weights.now g.words.now g.waiting.now g.tally) (sym c.requires.2.sized.words) (c.requires.1, c.requires.2) in
    ready.0

pub overflow_add-hi : goal.overflow_add-hi
overflow_add-hi c =
    let ready : let g = c.args in
    (g.u < length g.words.now) × Ready 39 g.packed (length g.words.now) g.firsts.now g.heads.now g.weights.now g.words.now g.waiting.now g.tally = let g = c.args in
    subst (λ n. (g.u < n) × Ready 39 g.packed n g.firsts.now g.heads.now g.weights.now g.words.now g.waiting.now g.tally) (sym c.requires.2.sized.words) (c.requires.1, c.requires.2) in
    let low : (c.args.u < max_vertices) × (c.args.u + 1 < length c.args.firsts.now) = let (u, r) = ready in (omega (arith, r.fit.few), omega (arith, r.fit.places)) in
    omega (arith, low)

pub offset_bounds-firsts-u : goal.offset_bounds-firsts-u
offset_bounds-firsts-u c =
    let ready : let g = c.args in
    (g.u < length g.words.now) × Ready 39 g.packed (length g.words.now) g.firsts.now g.heads.now g.weights.now g.words.now g.waiting.now g.tally = let g = c.args in
    subst (λ n. (g.u < n) × Ready 39 g.packed n g.firsts.now g.heads.now g.weights.now g.words.now g.waiting.now g.tally) (sym c.requires.2.sized.words) (c.requires.1, c.requires.2) in
    let low : (c.args.u < max_vertices) × (c.args.u + 1 < length c.args.firsts.now) = let (u, r) = ready in (omega (arith, r.fit.few), omega (arith, r.fit.places)) in
    omega (arith, low)

pub bounds-firsts-u : goal.bounds-firsts-u
bounds-firsts-u c =
    let ready : let g = c.args in
    (g.u < length g.words.now) × Ready 39 g.packed (length g.words.now) g.firsts.now g.heads.now g.weights.now g.words.now g.waiting.now g.tally = let g = c.args in
    subst (λ n. (g.u < n) × Ready 39 g.packed n g.firsts.now g.heads.now g.weights.now g.words.now g.waiting.now g.tally) (sym c.requires.2.sized.words) (c.requires.1, c.requires.2) in
    let low : (c.args.u < max_vertices) × (c.args.u + 1 < length c.args.firsts.now) = let (u, r) = ready in (omega (arith, r.fit.few), omega (arith, r.fit.places)) in
    low.1

pub overflow_cast-hi : goal.overflow_cast-hi
overflow_cast-hi c =
    omega (arith, c.type_inv.firsts (c.args.u + 1))

pub offset_bounds-firsts-u-2 : goal.offset_bounds-firsts-u-2
offset_bounds-firsts-u-2 c =
    let ready : let g = c.args in
    (g.u < length g.words.now) × Ready 39 g.packed (length g.words.now) g.firsts.now g.heads.now g.weights.now g.words.now g.waiting.now g.tally = let g = c.args in
    subst (λ n. (g.u < n) × Ready 39 g.packed n g.firsts.now g.heads.now g.weights.now g.words.now g.waiting.now g.tally) (sym c.requires.2.sized.words) (c.requires.1, c.requires.2) in
    let low : (c.args.u < max_vertices) × (c.args.u + 1 < length c.args.firsts.now) = let (u, r) = ready in (omega (arith, r.fit.few), omega (arith, r.fit.places)) in
    omega (arith, low)

pub bounds-firsts-u-2 : goal.bounds-firsts-u-2
bounds-firsts-u-2 c =
    let ready : let g = c.args in
    (g.u < length g.words.now) × Ready 39 g.packed (length g.words.now) g.firsts.now g.heads.now g.weights.now g.words.now g.waiting.now g.tally = let g = c.args in
    subst (λ n. (g.u < n) × Ready 39 g.packed n g.firsts.now g.heads.now g.weights.now g.words.now g.waiting.now g.tally) (sym c.requires.2.sized.words) (c.requires.1, c.requires.2) in
    let low : (c.args.u < max_vertices) × (c.args.u + 1 < length c.args.firsts.now) = let (u, r) = ready in (omega (arith, r.fit.few), omega (arith, r.fit.places)) in
    omega (arith, low)

pub overflow_cast-lo : goal.overflow_cast-lo
overflow_cast-lo c =
    omega (arith, c.type_inv.firsts c.args.u)

pub remove-requires : goal.remove-requires
remove-requires c =
    let ready : let g = c.args in
    (g.u < length g.words.now) × Ready 39 g.packed (length g.words.now) g.firsts.now g.heads.now g.weights.now g.words.now g.waiting.now g.tally = let g = c.args in
    subst (λ n. (g.u < n) × Ready 39 g.packed n g.firsts.now g.heads.now g.weights.now g.words.now g.waiting.now g.tally) (sym c.requires.2.sized.words) (c.requires.1, c.requires.2) in
    let low : (c.args.u < max_vertices) × (c.args.u + 1 < length c.args.firsts.now) = let (u, r) = ready in (omega (arith, r.fit.few), omega (arith, r.fit.places)) in
    (omega arith, low.0)

pub loop-j-init : goal.loop-j-init
loop-j-init c =
    let ready : let g = c.args in
    (g.u < length g.words.now) × Ready 39 g.packed (length g.words.now) g.firsts.now g.heads.now g.weights.now g.words.now g.waiting.now g.tally = let g = c.args in
    subst (λ n. (g.u < n) × Ready 39 g.packed n g.firsts.now g.heads.now g.weights.now g.words.now g.waiting.now g.tally) (sym c.requires.2.sized.words) (c.requires.1, c.requires.2) in
    let a = c.args in
    let (l, r) = ready in
    let f = r.fit in
    let h = marks_set (length a.words.now) a.u a.waiting.now c.remove.new.ws false l c.remove.ensures r.sized.waiting in (
      refl,
      f.after a.u (omega arith),
      omega arith,
      f.rising a.u l,
      f.within a.u l,
      ran_none (record { words = r.sized.words; waiting = h }) a.tally 0 0 _,
      refl,
      (let x = f.within a.u l in omega (arith, f.heads)),
      (let x = f.within a.u l in omega (arith, f.weights)),
    )

pub relax-t-requires : goal.relax-t-requires
relax-t-requires c =
    let ready : let g = c.args in
    (g.u < length g.words.now) × Ready 39 g.packed (length g.words.now) g.firsts.now g.heads.now g.weights.now g.words.now g.waiting.now g.tally = let g = c.args in
    subst (λ n. (g.u < n) × Ready 39 g.packed n g.firsts.now g.heads.now g.weights.now g.words.now g.waiting.now g.tally) (sym c.requires.2.sized.words) (c.requires.1, c.requires.2) in
    let f = ready.1 in
    let r = c.loop-j.invariant.5 in
    let i = f.fit.inside c.loop-j.j (omega arith) (omega arith) in (
      omega (arith, c.head_in-h.ensures),
      r.sized,
      record { taken = omega arith; rounds = omega arith; stores = omega (arith, f.fit.short) },
    )

pub loop-j-preserved : goal.loop-j-preserved
loop-j-preserved c =
    let ready : let g = c.args in
    (g.u < length g.words.now) × Ready 39 g.packed (length g.words.now) g.firsts.now g.heads.now g.weights.now g.words.now g.waiting.now g.tally = let g = c.args in
    subst (λ n. (g.u < n) × Ready 39 g.packed n g.firsts.now g.heads.now g.weights.now g.words.now g.waiting.now g.tally) (sym c.requires.2.sized.words) (c.requires.1, c.requires.2) in
    let g = c.args in
    let P = property g.p in
    let n = length g.words.now in
    let at = c.loop-j in
    let e = edge_in g.packed g.heads.now g.weights.now g.u at.j in
    let z = at.invariant.5.sized.words in
    let (u, f) = ready in
    let w = get_or_within at.words g.u P.none 0 (omega arith) in
    let v = ap (λ (x : ℕ). P.along x e.weight) (w ∙ at.invariant.6) ∙ ap (λ (x : ℕ). P.along (get_or g.words.now g.u 0) x) (sym c.weight_in.ensures) ∙ sym c.along-x.ensures in
    let m : get_or at.words g.u 0 ≤ M = omega (arith, at.invariant.6, c.type_inv.words g.u) in
    let q = c.relax-t.ensures.result_after e (sym c.head_in-h.ensures) v in
    let i = f.fit.inside at.j (omega arith) (omega arith) in (
      fold_turn (spec.relax P) e (part_more _ _ _ _ _ _ c.loop-j-test.true) q at.invariant.0,
      at.invariant.1,
      omega arith,
      omega arith,
      at.invariant.4,
      ran_then at.invariant.5 c.relax-t.ensures.ran (omega arith) (omega arith) (omega arith),
      keeps_tail P (property_laws g.p) n at.words at.waiting at.t e q u i z c.relax-t.ensures.ran.sized.words m ∙ at.invariant.6,
      at.invariant.7,
      at.invariant.8,
    )

pub returns : goal.returns
returns c =
    let ready : let g = c.args in
    (g.u < length g.words.now) × Ready 39 g.packed (length g.words.now) g.firsts.now g.heads.now g.weights.now g.words.now g.waiting.now g.tally = let g = c.args in
    subst (λ n. (g.u < n) × Ready 39 g.packed n g.firsts.now g.heads.now g.weights.now g.words.now g.waiting.now g.tally) (sym c.requires.2.sized.words) (c.requires.1, c.requires.2) in
    let g = c.args in
    let P = property g.p in
    let (h, f) = ready in
    let z = length g.words.now in record {
      by_index = λ n y. subst (λ n. (es : List Edge) → OwnIn g.packed n g.firsts.now g.heads.now g.weights.now es → state n c.loop-j.words c.loop-j.waiting c.loop-j.t ≡ spec.handle P es (state n g.words.now g.waiting.now g.tally) g.u) y
          (λ es o.
          fold_done (spec.relax P) (part_none _ _ _ _ _ _ c.loop-j-test.false) c.loop-j.invariant.0
          ∙ handle_own P es _ (state z g.words.now g.waiting.now g.tally) _ g.u
          (clear_bit z g.u g.words.now g.waiting.now c.remove.new.ws g.tally h c.remove.ensures) (o g.u h));
      by_index_2 = λ n y. subst (λ n. Ran n c.loop-j.words c.loop-j.waiting g.tally c.loop-j.t 0 0 max_edges) y (ran_within c.loop-j.invariant.5 (omega arith) (omega arith) (omega (arith, f.fit.short)));
    }
