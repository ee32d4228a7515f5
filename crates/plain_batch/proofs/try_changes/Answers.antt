-- `plain_batch::try_changes` meets its contract. Assumes nothing.
use Rattle.property.proofs.Basics.{arith, ◌≡◌, refl, sym, ◌∙◌, length}
use Rattle.graph.specs.Refusal.{accept}
use Rattle.graph.proofs.Judging.{passed_on}
use Rattle.graph.proofs.Records.{room_less}
use Rattle.network.specs.Batch.{batch_faults}
use Rattle.calls.specs.Code.{network, Tabled}
use Rattle.items.specs.Code.{verdict}
use Rattle.sides.specs.Code.{Fair}
use Rattle.plain_batch.proofs.Calling.{laid_some, faults_as, faults_short, faults_fair, call_item, call_applied}
use Rattle.plain_batch.proofs.try_changes.Goals as goal

pub copy_table-requires : goal.copy_table-requires
copy_table-requires c =
    let fair : let g = c.args in Fair g.n g.landmarks.now (network g.tails.now g.heads.now g.weights.now g.forward.now g.backward.now g.records) = faults_fair _ _ _ _ _ _ _ _ _ c.requires.1 in
    let t = fair.table in
    (room_less t.few t.room, record { tails = t.few; heads = t.few; weights = t.few })

pub apply_items-requires : goal.apply_items-requires
apply_items-requires c =
    let fair : let g = c.args in Fair g.n g.landmarks.now (network g.tails.now g.heads.now g.weights.now g.forward.now g.backward.now g.records) = faults_fair _ _ _ _ _ _ _ _ _ c.requires.1 in
    let tabled : let g = c.args in Tabled g.n g.records c.copy_table.new.tails2 c.copy_table.new.heads2 c.copy_table.new.weights2 = let t = fair.table in
    let k = c.copy_table.auto in
    record { few = t.few; room = record { tails = omega (arith, k.tails2); heads = omega (arith, k.heads2); weights = omega (arith, k.weights2) }; rules = rw c.copy_table.ensures t.rules } in
    (tabled, faults_short _ _ _ _ c.requires.1, c.requires.0)

pub apply-requires : goal.apply-requires
apply-requires c =
    let fair : let g = c.args in Fair g.n g.landmarks.now (network g.tails.now g.heads.now g.weights.now g.forward.now g.backward.now g.records) = faults_fair _ _ _ _ _ _ _ _ _ c.requires.1 in
    record { fair = fair; tabled = (c.in_ok-count2.ensures _ (laid_some c.args.size c.args.lists.now)).1.table _ refl }

pub returns-in_err-count2 : goal.returns-in_err-count2
unfolding verdict
returns-in_err-count2 c = λ cs l.
    let g = c.args in
    let passed : batch_faults g.n g.landmarks.now (network g.tails.now g.heads.now g.weights.now g.forward.now g.backward.now g.records) (length cs) ≡ accept = faults_as _ _ _ (sym l.size) c.requires.1 in
    let judged = rw c.copy_table.ensures at (c.in_err-count2.ensures cs l).0 in
    rw (passed_on _ c.from_residual.ensures.1) (call_item _ _ _ _ _ _ _ _ cs passed _ judged)

pub returns : goal.returns
unfolding verdict
returns c = λ cs l.
    let g = c.args in
    let passed : batch_faults g.n g.landmarks.now (network g.tails.now g.heads.now g.weights.now g.forward.now g.backward.now g.records) (length cs) ≡ accept = faults_as _ _ _ (sym l.size) c.requires.1 in
    let judged = rw c.copy_table.ensures at (c.in_ok-count2.ensures cs l).0 in
    c.apply.ensures ∙ call_applied _ _ _ _ _ _ _ _ cs passed judged _ (rw c.copy_table.ensures at ((c.in_ok-count2.ensures cs l).1.edges _ refl))
