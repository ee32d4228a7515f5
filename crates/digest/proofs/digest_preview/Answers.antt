-- `digest::digest_preview` meets its contract. Assumes nothing.
use Rattle.property.proofs.Basics.{◌≡◌, ℕ, ◌≤◌, ltb, ltb-false, length}
use Rattle.property.specs.Property.{property}
use Rattle.std.specs.Prelude.{Ok, Err}
use Rattle.graph.specs.declared.refusal.Refusal.{Refusal}
use Rattle.graph.specs.Limits.{max_vertices}
use Rattle.graph.specs.Refusal.{replied}
use Rattle.graph.specs.Table.{size}
use Rattle.graph.specs.Code.{told, reply_of}
use Rattle.graph.proofs.Tests.{neither}
use Rattle.graph.proofs.Verdicts.{then_accept, if_accept}
use Rattle.graph.proofs.Judging.{passed_on, fine_accept, size_accept}
use Rattle.network.specs.Query.{short_words}
use Rattle.effects.specs.Code.{shown_of}
use Rattle.answers.specs.Preview.{Shown}
use Rattle.answers.specs.Digest.{digest, digest_faults, digest_call}
use Rattle.digest.specs.declared.Digest as declared
use Rattle.digest.specs.Code.{digesting}
use Rattle.digest.proofs.digest_preview.Goals as goal

room : (n p x y : ℕ) → told (Ok tt) ≡ digest_faults n p x y → (n ≤ max_vertices) × (n ≤ x) × (n ≤ y)
unfolding digest_faults
room n p x y h =
    let a = then_accept (size n) _ (fine_accept _ h) in
    let b = then_accept (short_words n x y) _ a.1 in
    let z = neither (ltb x n) (ltb y n) (if_accept _ 2 0 b.0) in
    ((size_accept n a.0).1, ltb-false x n z.0, ltb-false y n z.1)

module _ (n p : ℕ) (out : Shown) where
  refuses : (e : Refusal) → told (Err e) ≡ digest_faults n p (length out.effects) (length out.moves) → digesting (Err e) ≡ digest_call n p out
  unfolding told reply_of digest_call replied
  refuses e h = rw (← h)

  tells : (d : declared.Digest) → told (Ok tt) ≡ digest_faults n p (length out.effects) (length out.moves)
      → let e = digest (property p) n out in
      d.gained ≡ e.gained → d.lost ≡ e.lost → d.better ≡ e.better → d.worse ≡ e.worse → d.most ≡ e.most → digesting (Ok d) ≡ digest_call n p out
  unfolding told reply_of digest_call replied
  tells d h a b c e f = rw (← h, a, b, c, e, f)

pub returns-in_err-judge_digest : goal.returns-in_err-judge_digest
returns-in_err-judge_digest c =
    let a = c.args in
    rw (passed_on _ c.from_residual.ensures.1) (refuses a.n a.property (shown_of a.effects.now a.moves.now) _ c.in_err-judge_digest.ensures)

pub count_effect-requires : goal.count_effect-requires
count_effect-requires c =
    let r = room _ _ _ _ c.in_ok-judge_digest.ensures in (r.0, r.1)

pub count_effect-requires-2 : goal.count_effect-requires-2
count_effect-requires-2 c =
    let r = room _ _ _ _ c.in_ok-judge_digest.ensures in (r.0, r.1)

pub count_moved-requires : goal.count_moved-requires
count_moved-requires c =
    room _ _ _ _ c.in_ok-judge_digest.ensures

pub count_moved-requires-2 : goal.count_moved-requires-2
count_moved-requires-2 c =
    room _ _ _ _ c.in_ok-judge_digest.ensures

pub find_most-requires : goal.find_most-requires
find_most-requires c =
    let r = room _ _ _ _ c.in_ok-judge_digest.ensures in (r.1, r.2)

pub returns : goal.returns
returns c =
    let a = c.args in
    tells a.n a.property (shown_of a.effects.now a.moves.now) _ c.in_ok-judge_digest.ensures
    c.count_effect.ensures
    c.count_effect-2.ensures
    c.count_moved.ensures
    c.count_moved-2.ensures
    c.find_most.ensures.0
