-- The definitions of the calls, opened together: who unfolds `calls` unfolds them all. Assumes nothing.
use Rattle.property.specs.Property.{property}
use Rattle.frontier.specs.Waiting.{any_of, count_of}
use Rattle.graph.specs.Refusal.{◌▷◌, refuse_if, replied, verdict_of, choose}
use Rattle.graph.specs.Edge.{keep_if, keep, exists, zip, edges, range}
use Rattle.graph.specs.Sorted as order
use Rattle.run.specs.Run.{store_if, relax, clear, handle, visit_if, visit, take_entry_if, take_entry, pass, round, settle}
use Rattle.run.specs.Start.{opened, bound, asked}
use Rattle.affected.specs.Net.{sole, counterpart}
use Rattle.affected.specs.Affected.{mark, sweep, hunt, affected}
use Rattle.affected.specs.Prepared.{cleared, reopened, prepared}
use Rattle.network.specs.Network.{are_landmarks, flat, unsettled, stores_of}
use Rattle.network.specs.Open.{open_call}
use Rattle.network.specs.Query.{scheduled, query_call, query_faults}
use Rattle.network.specs.Change.{edit, item, items, words, against}
use Rattle.network.specs.Batch.{affected_over, batch_call, batch_faults}
use Rattle.network.specs.Settled.{in_records, in_rows, settled_call}
use Rattle.network.specs.Choice.{ranked, choice_call}
use Rattle.network.specs.Lookup.{index_of, lookup_number, lookup_row}
use Rattle.network.specs.Caller.{reported}
use Rattle.network.specs.Current.{turned_back, after}
use Rattle.answers.specs.Routing.{first_of, followed, marks_of, route_faults, route_call}
use Rattle.answers.specs.Preview.{preview_faults, preview_call}
use Rattle.answers.specs.Digest.{digest_faults, digest_call}
use Rattle.worked.specs.Starred.{those, said_of_query, said_of_batch, affected_list, answer, found}

unfoldable pub calls : Unit {0}
unfolding property any_of count_of ◌▷◌ refuse_if replied verdict_of choose keep_if keep exists zip edges range order.follow order.rules order.insert order.delete store_if relax clear handle visit_if visit take_entry_if take_entry pass round settle opened bound asked sole counterpart mark sweep hunt affected cleared reopened prepared are_landmarks flat unsettled stores_of open_call scheduled query_call query_faults edit item words against items affected_over batch_call batch_faults in_records in_rows settled_call ranked choice_call index_of lookup_number lookup_row reported turned_back after first_of followed marks_of route_faults route_call preview_faults preview_call digest_faults digest_call those said_of_query said_of_batch affected_list answer found
calls = tt
