-- `plain_preview::ask_after` meets its contract. Assumes nothing.
use Rattle.property.proofs.Basics.{arith, ◌*◌, ◌≤◌, length}
use Rattle.graph.specs.Limits.{max_vertices, max_landmarks}
use Rattle.property.specs.Property.{properties}
use Rattle.graph.proofs.Judging.{passed_on}
use Rattle.network.specs.Network.{row_count}
use Rattle.network.proofs.Alike.{Alike}
use Rattle.calls.specs.Code.{network, Openable}
use Rattle.calls.proofs.Judging.{network_accept}
use Rattle.calls.proofs.Rows.{rows_most, row_fits}
use Rattle.plain_preview.proofs.Copied.{copied_alike, follows_refused, follows_asked}
use Rattle.plain_preview.proofs.ask_after.Goals as goal

pub copy_table-requires : goal.copy_table-requires
copy_table-requires c =
    let sound : let a = c.args in Openable a.n a.count a.landmarks.now a.tails.now a.heads.now a.weights.now
    × (row_count a.landmarks.now * a.n ≤ length a.forward.now) × (row_count a.landmarks.now * a.n ≤ length a.backward.now) = let a = c.args in network_accept a.n a.landmarks.now a.tails.now a.heads.now a.weights.now a.count a.forward.now a.backward.now c.requires.count_value in
    let o = sound.0 in (o.room, record { tails = o.records; heads = o.records; weights = o.records })

pub overflow_mul-rows-2 : goal.overflow_mul-rows-2
overflow_mul-rows-2 c =
    let sound : let a = c.args in Openable a.n a.count a.landmarks.now a.tails.now a.heads.now a.weights.now
    × (row_count a.landmarks.now * a.n ≤ length a.forward.now) × (row_count a.landmarks.now * a.n ≤ length a.backward.now) = let a = c.args in network_accept a.n a.landmarks.now a.tails.now a.heads.now a.weights.now a.count a.forward.now a.backward.now c.requires.count_value in
    row_fits (row_count c.args.landmarks.now) c.args.n (omega (arith, sound.0.landmarks.few)) sound.0.few

pub copy-requires : goal.copy-requires
copy-requires c =
    let sound : let a = c.args in Openable a.n a.count a.landmarks.now a.tails.now a.heads.now a.weights.now
    × (row_count a.landmarks.now * a.n ≤ length a.forward.now) × (row_count a.landmarks.now * a.n ≤ length a.backward.now) = let a = c.args in network_accept a.n a.landmarks.now a.tails.now a.heads.now a.weights.now a.count a.forward.now a.backward.now c.requires.count_value in
    let room : row_count c.args.landmarks.now * c.args.n ≤ max_landmarks * properties * max_vertices = rows_most (length c.args.landmarks.now) c.args.n sound.0.landmarks.few sound.0.few in
    (sound.1, omega (arith, room))

pub copy-requires-2 : goal.copy-requires-2
copy-requires-2 c =
    let sound : let a = c.args in Openable a.n a.count a.landmarks.now a.tails.now a.heads.now a.weights.now
    × (row_count a.landmarks.now * a.n ≤ length a.forward.now) × (row_count a.landmarks.now * a.n ≤ length a.backward.now) = let a = c.args in network_accept a.n a.landmarks.now a.tails.now a.heads.now a.weights.now a.count a.forward.now a.backward.now c.requires.count_value in
    let room : row_count c.args.landmarks.now * c.args.n ≤ max_landmarks * properties * max_vertices = rows_most (length c.args.landmarks.now) c.args.n sound.0.landmarks.few sound.0.few in
    (sound.2, omega (arith, room))

pub ask-requires : goal.ask-requires
ask-requires c =
    let sound : let a = c.args in Openable a.n a.count a.landmarks.now a.tails.now a.heads.now a.weights.now
    × (row_count a.landmarks.now * a.n ≤ length a.forward.now) × (row_count a.landmarks.now * a.n ≤ length a.backward.now) = let a = c.args in network_accept a.n a.landmarks.now a.tails.now a.heads.now a.weights.now a.count a.forward.now a.backward.now c.requires.count_value in
    (sound.0.few, c.requires.lists_len.1)

pub returns-in_err-report : goal.returns-in_err-report
returns-in_err-report c cs l =
    let sound : let a = c.args in Openable a.n a.count a.landmarks.now a.tails.now a.heads.now a.weights.now
    × (row_count a.landmarks.now * a.n ≤ length a.forward.now) × (row_count a.landmarks.now * a.n ≤ length a.backward.now) = let a = c.args in network_accept a.n a.landmarks.now a.tails.now a.heads.now a.weights.now a.count a.forward.now a.backward.now c.requires.count_value in
    let room : row_count c.args.landmarks.now * c.args.n ≤ max_landmarks * properties * max_vertices = rows_most (length c.args.landmarks.now) c.args.n sound.0.landmarks.few sound.0.few in
    let copied : let a = c.args in let k = c.copy_table.new in
    Alike a.n a.landmarks.now (network a.tails.now a.heads.now a.weights.now a.forward.now a.backward.now a.count)
    (network k.tails2 k.heads2 k.weights2 c.copy.new.dst c.copy-2.new.dst a.count) = let k = c.copy_table.auto in
    copied_alike c.args.n c.args.landmarks.now _ _ _ _ _ _ c.requires.count_value _ _ _ _ _ _ _
    (record { tails = omega (arith, k.tails2); heads = omega (arith, k.heads2); weights = omega (arith, k.weights2) })
    c.copy_table.ensures (omega (arith, room, c.copy.auto.dst)) (omega (arith, room, c.copy-2.auto.dst)) c.copy.ensures c.copy-2.ensures in
    rw (passed_on _ c.from_residual.ensures.1) (follows_refused _ _ _ _ c.requires.count_value copied _ _ cs _ _ (c.in_err-report.ensures cs l))

pub returns : goal.returns
returns c cs l =
    let sound : let a = c.args in Openable a.n a.count a.landmarks.now a.tails.now a.heads.now a.weights.now
    × (row_count a.landmarks.now * a.n ≤ length a.forward.now) × (row_count a.landmarks.now * a.n ≤ length a.backward.now) = let a = c.args in network_accept a.n a.landmarks.now a.tails.now a.heads.now a.weights.now a.count a.forward.now a.backward.now c.requires.count_value in
    let room : row_count c.args.landmarks.now * c.args.n ≤ max_landmarks * properties * max_vertices = rows_most (length c.args.landmarks.now) c.args.n sound.0.landmarks.few sound.0.few in
    let copied : let a = c.args in let k = c.copy_table.new in
    Alike a.n a.landmarks.now (network a.tails.now a.heads.now a.weights.now a.forward.now a.backward.now a.count)
    (network k.tails2 k.heads2 k.weights2 c.copy.new.dst c.copy-2.new.dst a.count) = let k = c.copy_table.auto in
    copied_alike c.args.n c.args.landmarks.now _ _ _ _ _ _ c.requires.count_value _ _ _ _ _ _ _
    (record { tails = omega (arith, k.tails2); heads = omega (arith, k.heads2); weights = omega (arith, k.weights2) })
    c.copy_table.ensures (omega (arith, room, c.copy.auto.dst)) (omega (arith, room, c.copy-2.auto.dst)) c.copy.ensures c.copy-2.ensures in
    follows_asked _ _ _ _ c.requires.count_value copied _ _ cs _ _ _ (c.in_ok-report.ensures cs l) c.ask.ensures
