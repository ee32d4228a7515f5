-- `query::start_words` meets its contract. The loop's invariant: the words are the bounds over the landmarks from i on. Assumes nothing.
use Rattle.property.proofs.Basics.{needs, arith, ◌≡◌, refl, sym, ap, ◌∙◌, ⊎_elim, ℕ, ◌+◌, ◌-◌, ◌≤◌, length, get_or, set, replicate, length-set, length-replicate}
use Rattle.property.specs.Property.{property}
use Rattle.graph.proofs.Lists.{at_set, get_or_within, replicate_at}
use Rattle.run.specs.Start.{Landmark, asked}
use Rattle.query.specs.Code.{known_by}
use Rattle.query.proofs.Asking.{entry, bound_none, bound_turn, bound_done, entry_join, start_of, start_source, start_other, words_done}
use Rattle.calls.proofs.Rows.{row_within}
use Rattle.query.proofs.start_words.Goals as goal

pub loop-i-init : goal.loop-i-init
loop-i-init c =
    let told : ℕ → Landmark = let a = c.args in entry a.n a.landmarks.now a.p a.source a.forward.now a.backward.now in
    let a = c.args in
    let e = c.fill.ensures in
    let z = length-replicate (length a.out.now) c.none.result in (
      (λ t l.
          ap (λ x. get_or x t 0) e ∙ get_or_within (replicate (length a.out.now) c.none.result) t 0 c.none.result (omega (arith, c.requires.0)) ∙ replicate_at (length a.out.now) t c.none.result ∙ c.none.ensures
          ∙ sym (bound_none (property a.p) told (length a.landmarks.now) t)),
      ap length e ∙ z ∙ c.requires.0,
    )

pub overflow_add-at : goal.overflow_add-at
overflow_add-at c =
    let inside : let a = c.args in (c.row_start-at.result + a.n ≤ length a.backward.now) × (c.row_start-at.result + a.n ≤ length a.forward.now) = let a = c.args in
    let h = c.requires.1 in
    let y = row_within a.n (c.loop-i.i - 1) a.p (length a.landmarks.now) (length a.backward.now) (omega arith) h.first h.last h.backward in
    let z = row_within a.n (c.loop-i.i - 1) a.p (length a.landmarks.now) (length a.forward.now) (omega arith) h.first h.last h.forward in
    (omega (arith, c.row_start-at.ensures), omega (arith, c.row_start-at.ensures)) in
    let h = inside in omega (arith, c.requires.1.source)

pub offset_bounds-backward-at : goal.offset_bounds-backward-at
offset_bounds-backward-at c =
    let inside : let a = c.args in (c.row_start-at.result + a.n ≤ length a.backward.now) × (c.row_start-at.result + a.n ≤ length a.forward.now) = let a = c.args in
    let h = c.requires.1 in
    let y = row_within a.n (c.loop-i.i - 1) a.p (length a.landmarks.now) (length a.backward.now) (omega arith) h.first h.last h.backward in
    let z = row_within a.n (c.loop-i.i - 1) a.p (length a.landmarks.now) (length a.forward.now) (omega arith) h.first h.last h.forward in
    (omega (arith, c.row_start-at.ensures), omega (arith, c.row_start-at.ensures)) in
    let h = inside in omega (arith, c.requires.1.source)

pub bounds-backward-at : goal.bounds-backward-at
bounds-backward-at c =
    let inside : let a = c.args in (c.row_start-at.result + a.n ≤ length a.backward.now) × (c.row_start-at.result + a.n ≤ length a.forward.now) = let a = c.args in
    let h = c.requires.1 in
    let y = row_within a.n (c.loop-i.i - 1) a.p (length a.landmarks.now) (length a.backward.now) (omega arith) h.first h.last h.backward in
    let z = row_within a.n (c.loop-i.i - 1) a.p (length a.landmarks.now) (length a.forward.now) (omega arith) h.first h.last h.forward in
    (omega (arith, c.row_start-at.ensures), omega (arith, c.row_start-at.ensures)) in
    let h = inside in omega (arith, c.requires.1.source)

pub join_row-requires : goal.join_row-requires
join_row-requires c =
    let inside : let a = c.args in (c.row_start-at.result + a.n ≤ length a.backward.now) × (c.row_start-at.result + a.n ≤ length a.forward.now) = let a = c.args in
    let h = c.requires.1 in
    let y = row_within a.n (c.loop-i.i - 1) a.p (length a.landmarks.now) (length a.backward.now) (omega arith) h.first h.last h.backward in
    let z = row_within a.n (c.loop-i.i - 1) a.p (length a.landmarks.now) (length a.forward.now) (omega arith) h.first h.last h.forward in
    (omega (arith, c.row_start-at.ensures), omega (arith, c.row_start-at.ensures)) in
    let h = inside in omega (arith, h.1, c.loop-i.invariant.1)

pub loop-i-preserved : goal.loop-i-preserved
loop-i-preserved c =
    let told : ℕ → Landmark = let a = c.args in entry a.n a.landmarks.now a.p a.source a.forward.now a.backward.now in
    let inside : let a = c.args in (c.row_start-at.result + a.n ≤ length a.backward.now) × (c.row_start-at.result + a.n ≤ length a.forward.now) = let a = c.args in
    let h = c.requires.1 in
    let y = row_within a.n (c.loop-i.i - 1) a.p (length a.landmarks.now) (length a.backward.now) (omega arith) h.first h.last h.backward in
    let z = row_within a.n (c.loop-i.i - 1) a.p (length a.landmarks.now) (length a.forward.now) (omega arith) h.first h.last h.forward in
    (omega (arith, c.row_start-at.ensures), omega (arith, c.row_start-at.ensures)) in
    let a = c.args in
    let h = c.requires.1 in
    let i = inside in (
      (λ t b.
          let v = entry_join a.n a.landmarks.now a.p a.source a.forward.now a.backward.now (c.loop-i.i - 1) t c.row_start-at.result _ c.row_start-at.ensures h.source b (omega (arith, h.source)) (omega arith) refl in
          bound_turn (property a.p) told (length a.landmarks.now) t c.loop-i.i _ _ _ (omega arith) (omega arith) v (c.loop-i.invariant.0 t b) (c.join_row.ensures t (omega (arith, c.loop-i.invariant.1)))),
      search needs,
    )

pub shape_of-out : goal.shape_of-out
shape_of-out c =
    length-set c.loop-i.out c.args.source c.start.result ∙ c.loop-i.invariant.1 ∙ sym c.requires.0

pub returns : goal.returns
unfolding asked
returns c =
    let told : ℕ → Landmark = let a = c.args in entry a.n a.landmarks.now a.p a.source a.forward.now a.backward.now in
    let a = c.args in
    let P = property a.p in
    let ls = known_by a.n a.landmarks.now a.p a.source a.forward.now a.backward.now in
    let n : length c.loop-i.out ≡ a.n = c.loop-i.invariant.1 in
    words_done (start_of P ls a.source) (set c.loop-i.out a.source c.start.result) a.n
    (λ j b.
    ⊎_elim
    (λ e. start_source P ls j a.source e.0 (e.1 ∙ c.start.ensures))
    (λ e. start_other P ls j a.source e.0 (e.1 ∙ bound_done P told (length a.landmarks.now) j c.loop-i.i _ (omega arith) (c.loop-i.invariant.0 j b)))
    (at_set c.loop-i.out a.source c.start.result j 0 (omega (arith, c.requires.1.source))))
    a.n (length-set c.loop-i.out a.source c.start.result ∙ n) (omega arith)
