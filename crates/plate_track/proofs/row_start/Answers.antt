-- `plate_track::row_start` meets its contract. Assumes nothing.
use Rattle.property.proofs.Basics.{arith, ap, ◌∙◌, refl, ℕ, ◌*◌}
use Rattle.graph.specs.Code.{reply_of}
use Rattle.graph.proofs.Judging.{passed_on}
use Rattle.network.specs.Query.{row_at}
use Rattle.lookup.proofs.Showing.{Shown, lookup_accept}
use Rattle.plate_track.proofs.Rows.{start_refused, start_shown}
use Rattle.plate_track.proofs.row_start.Goals as goal

pub returns-in_err-row_number : goal.returns-in_err-row_number
unfolding reply_of
returns-in_err-row_number c =
    rw (passed_on _ c.from_residual.ensures.1) (start_refused _ _ _ _ _ _ _ c.in_err-row_number.ensures)

pub row_start-requires : goal.row_start-requires
row_start-requires c =
    let a = c.args in
    let s = lookup_accept a.n a.landmarks.now a.forward.now a.backward.now a.side a.landmark a.property _ c.in_ok-row_number.ensures refl in
    (s.first, s.last, s.few, omega (arith, s.listed, c.index_of-i.ensures))

pub returns : goal.returns
unfolding reply_of
returns c =
    let a = c.args in
    start_shown _ _ _ _ _ _ c.in_ok-row_number.ensures _ (c.row_start.ensures ∙ ap (λ (i : ℕ). row_at i a.property * a.n) c.index_of-i.ensures)
