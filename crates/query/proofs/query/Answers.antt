-- `query::query` meets its contract. Assumes nothing.
use Rattle.property.proofs.Basics.{arith, ◌≡◌, ◌≤◌, false, sym, ap, ◌∙◌, ◌++◌, ℕ, length, drop, take, replicate, length-append, length-drop, take_at, length-take-le}
use Rattle.graph.proofs.Judging.{passed_on, fine_accept}
use Rattle.graph.proofs.Records.{room_less}
use Rattle.graph.proofs.Copies.{paste_front}
use Rattle.graph.proofs.Own.{tails_below, tails_ascend, table_placed}
use Rattle.graph.specs.Limits.{max_vertices}
use Rattle.graph.specs.Edge.{edges}
use Rattle.graph.specs.Index.{IndexesIn}
use Rattle.graph.specs.Refusal.{accept}
use Rattle.network.specs.Network.{Network}
use Rattle.network.specs.Query.{Query}
use Rattle.calls.specs.Code.{network}
use Rattle.network.specs.Query.{query_faults}
use Rattle.query.specs.Code.{asking}
use Rattle.query.proofs.AskingFaults.{Sound, faults_accept}
use Rattle.query.proofs.AskingRun.{query_refused, query_settled}
use Rattle.query.proofs.query.Goals.{In_ok-judge_query}
use Rattle.query.proofs.query.Goals as goal

abbrev network_of : (c : In_ok-judge_query) → Network
network_of c = let a = c.args in network a.tails.now a.heads.now a.weights.now a.forward.now a.backward.now a.count

abbrev asked_of : (c : In_ok-judge_query) → Query
asked_of c = let a = c.args in asking a.property a.source a.schedule.now

-- what is known once the query is judged
fine_of : (c : In_ok-judge_query) → let a = c.args in query_faults a.n a.landmarks.now (network_of c) (asked_of c) (length a.starts.now) (length a.settled.now) ≡ accept
fine_of c = fine_accept _ c.in_ok-judge_query.ensures

sound_of : (c : In_ok-judge_query) → let a = c.args in Sound a.n a.landmarks.now (network_of c) (asked_of c) (length a.starts.now) (length a.settled.now)
sound_of c =
    let a = c.args in
    faults_accept a.n a.landmarks.now (network_of c) (asked_of c) (length a.starts.now) (length a.settled.now) (fine_of c)

-- the words at the front of the list of start words
room_of : (n : ℕ) → n ≤ max_vertices → length (take {A = ℕ} n (replicate max_vertices 0)) ≡ n
room_of n few = length-take-le {A = ℕ} n (replicate max_vertices 0) few

pub returns-in_err-judge_query : goal.returns-in_err-judge_query
returns-in_err-judge_query c =
    let a = c.args in
    let net : Network = network a.tails.now a.heads.now a.weights.now a.forward.now a.backward.now a.count in
    let ask : Query = asking a.property a.source a.schedule.now in
    rw (passed_on _ c.from_residual.ensures.1) (query_refused a.n a.landmarks.now net ask a.starts.now a.settled.now _ c.in_err-judge_query.ensures)

pub slice_bounds-start-end : goal.slice_bounds-start-end
slice_bounds-start-end c =
    let sound = sound_of (goal.at.slice_bounds-start-end c).In_ok-judge_query in
    sound.rows.few

pub slice_bounds-start_words-end : goal.slice_bounds-start_words-end
slice_bounds-start_words-end c =
    let sound = sound_of (goal.at.slice_bounds-start_words-end c).In_ok-judge_query in
    let words = room_of c.args.n sound.rows.few in
    sym (words)

pub start_words-requires : goal.start_words-requires
start_words-requires c =
    let sound = sound_of (goal.at.start_words-requires c).In_ok-judge_query in
    let words = room_of c.args.n sound.rows.few in
    (words, sound.rows)

pub slice_bounds-copy-end : goal.slice_bounds-copy-end
slice_bounds-copy-end c =
    let sound = sound_of (goal.at.slice_bounds-copy-end c).In_ok-judge_query in
    let words = room_of c.args.n sound.rows.few in
    let filled : length c.start_words.new.out ≡ c.args.n = c.start_words.auto.out ∙ words in
    let listed : let n = c.args.n in length (c.start_words.new.out ++ drop {A = ℕ} n (replicate max_vertices 0)) ≡ max_vertices = let n = c.args.n in
    let a = length-append c.start_words.new.out (drop {A = ℕ} n (replicate max_vertices 0)) in
    let b = length-drop {A = ℕ} n (replicate max_vertices 0) in
    omega (arith, a, b, filled, sound.rows.few) in
    sym (listed)

pub copy-requires : goal.copy-requires
copy-requires c =
    let sound = sound_of (goal.at.copy-requires c).In_ok-judge_query in
    let words = room_of c.args.n sound.rows.few in
    let filled : length c.start_words.new.out ≡ c.args.n = c.start_words.auto.out ∙ words in
    let listed : let n = c.args.n in length (c.start_words.new.out ++ drop {A = ℕ} n (replicate max_vertices 0)) ≡ max_vertices = let n = c.args.n in
    let a = length-append c.start_words.new.out (drop {A = ℕ} n (replicate max_vertices 0)) in
    let b = length-drop {A = ℕ} n (replicate max_vertices 0) in
    omega (arith, a, b, filled, sound.rows.few) in
    let g = sound in (omega (arith, listed, g.rows.few), omega (arith, g.starts))

pub firsts-requires : goal.firsts-requires
firsts-requires c =
    let sound = sound_of (goal.at.firsts-requires c).In_ok-judge_query in
    let a = c.args in
    let g = sound in
    let r = room_less g.records g.room in (
      record { few = g.rows.few; records = g.records; keys = r.tails; firsts = omega (arith, g.rows.few); vertices = tails_below a.n a.count a.tails.now a.heads.now a.weights.now r g.rules },
      tails_ascend a.n a.count a.tails.now a.heads.now a.weights.now r g.rules,
    )

pub slice_bounds-start-end-2 : goal.slice_bounds-start-end-2
slice_bounds-start-end-2 c =
    let sound = sound_of (goal.at.slice_bounds-start-end-2 c).In_ok-judge_query in
    let words = room_of c.args.n sound.rows.few in
    let filled : length c.start_words.new.out ≡ c.args.n = c.start_words.auto.out ∙ words in
    let listed : let n = c.args.n in length (c.start_words.new.out ++ drop {A = ℕ} n (replicate max_vertices 0)) ≡ max_vertices = let n = c.args.n in
    let a = length-append c.start_words.new.out (drop {A = ℕ} n (replicate max_vertices 0)) in
    let b = length-drop {A = ℕ} n (replicate max_vertices 0) in
    omega (arith, a, b, filled, sound.rows.few) in
    omega (arith, listed, sound.rows.few)

pub slice_bounds-run_query-end-2 : goal.slice_bounds-run_query-end-2
slice_bounds-run_query-end-2 c =
    let sound = sound_of (goal.at.slice_bounds-run_query-end-2 c).In_ok-judge_query in
    let words = room_of c.args.n sound.rows.few in
    let filled : length c.start_words.new.out ≡ c.args.n = c.start_words.auto.out ∙ words in
    let front : let n = c.args.n in let ws = c.start_words.new.out in
    take n (ws ++ drop n (replicate max_vertices 0)) ≡ ws = take_at _ _ c.args.n (filled) in
    sym (ap length front ∙ filled)

pub run_query-tally-requires : goal.run_query-tally-requires
run_query-tally-requires c =
    let sound = sound_of (goal.at.run_query-tally-requires c).In_ok-judge_query in
    let words = room_of c.args.n sound.rows.few in
    let filled : length c.start_words.new.out ≡ c.args.n = c.start_words.auto.out ∙ words in
    let front : let n = c.args.n in let ws = c.start_words.new.out in
    take n (ws ++ drop n (replicate max_vertices 0)) ≡ ws = take_at _ _ c.args.n (filled) in
    let placed : let a = c.args in
    IndexesIn false a.n c.firsts.new.firsts a.heads.now a.weights.now (edges a.tails.now a.heads.now a.weights.now a.count) = let a = c.args in
    let g = sound in
    table_placed a.n a.count a.tails.now a.heads.now a.weights.now (room_less g.records g.room) g.rules _ g.rows.few g.records (omega (arith, g.rows.few, c.firsts.auto.firsts)) c.firsts.ensures in
    let g = sound in record { fit_in = (placed.fit, g.schedule, g.rows.source, g.rows.few); start_len = (ap length front ∙ filled, g.settled) }

pub returns : goal.returns
returns c =
    let judged = (goal.at.returns c).In_ok-judge_query in
    let sound = sound_of judged in
    let words = room_of c.args.n sound.rows.few in
    let filled : length c.start_words.new.out ≡ c.args.n = c.start_words.auto.out ∙ words in
    let front : let n = c.args.n in let ws = c.start_words.new.out in
    take n (ws ++ drop n (replicate max_vertices 0)) ≡ ws = take_at _ _ c.args.n (filled) in
    let listed : let n = c.args.n in length (c.start_words.new.out ++ drop {A = ℕ} n (replicate max_vertices 0)) ≡ max_vertices = let n = c.args.n in
    let a = length-append c.start_words.new.out (drop {A = ℕ} n (replicate max_vertices 0)) in
    let b = length-drop {A = ℕ} n (replicate max_vertices 0) in
    omega (arith, a, b, filled, sound.rows.few) in
    let placed : let a = c.args in
    IndexesIn false a.n c.firsts.new.firsts a.heads.now a.weights.now (edges a.tails.now a.heads.now a.weights.now a.count) = let a = c.args in
    let g = sound in
    table_placed a.n a.count a.tails.now a.heads.now a.weights.now (room_less g.records g.room) g.rules _ g.rows.few g.records (omega (arith, g.rows.few, c.firsts.auto.firsts)) c.firsts.ensures in
    let a = c.args in
    query_settled a.n a.landmarks.now (network_of judged) (asked_of judged) a.starts.now a.settled.now
    (λ x. omega (arith, c.type_inv.forward x)) (λ x. omega (arith, c.type_inv.backward x)) (fine_of judged)
    _ _ _ _ (front ∙ c.start_words.ensures) (c.copy.ensures ∙ paste_front a.n (c.start_words.new.out ++ drop {A = ℕ} a.n (replicate max_vertices 0)) a.starts.now (omega (arith, listed, sound.rows.few))) (c.run_query-tally.ensures _ placed.own)
