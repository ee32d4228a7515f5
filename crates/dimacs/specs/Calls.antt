-- What holds of the calls on text, and of every text: document 01, "Text" and number 14. Assumes nothing.
--
--   Writes n cs m out k == a call that writes accepts, with k: n and the table are good, their lists long enough, and the one
--                          canonical text has k bytes, for which the buffer has room
--   longest_text         == 32,782: 14 bytes of `p sp 256 2048`, and 16 of each of 2,048 lines like `a 256 255 65535`
--
-- and the claims, each with its theorem in proofs/Calls.antt (those of refusals before the text in proofs/Refusals.antt):
--
--   NetworkCover       == each text is a good network text, or has a place, and no second one                       network_cover
--   SourcesCover       == so of source files, where there is a vertex                                               sources_cover
--   CallReads          == the reading call accepts exactly the good texts, with n and count, and stores the edges   call_reads
--   CallRefuses        == it refuses exactly with 14 at the place, and leaves the lists as they were                call_refuses
--   CallShort          == before that it refuses with 2, for lists that are too short, whatever the text            call_short
--   SourcesCallReads   == the call on source files accepts exactly the good ones, and stores their sources          sources_call_reads
--   SourcesCallRefuses == it refuses exactly with 14 at the place, and leaves the list as it was                    sources_call_refuses
--   SourcesCallShort   == before that it refuses with 1, and then with 2, whatever the text                         sources_call_short
--   CallWrites         == the writing call accepts exactly where it must                                            call_writes
--   CallWritten        == the first bytes are then the one canonical text of n and the table; the others stay       call_written
--   CallUnwritten      == it refuses with 1, 2, 4 and 2, in this order, and leaves the buffer as it was             call_unwritten
--   WrittenLength      == no text that the writing call wrote has more than 32,782 bytes                            written_length
use Rattle.std.specs.Prelude.{◌≡◌, ◌↔◌, ◌⊎◌, List, ℕ, ◌≤◌, ◌<◌, length, take, drop}
use Rattle.graph.specs.Limits.{max_edges}
use Rattle.graph.specs.Refusal.{accept, refuse, accepted, refused, over}
use Rattle.graph.specs.Edge.{Edge}
use Rattle.graph.specs.Table.{Columns, edges_of, size, short_table, table}
use Rattle.dimacs.specs.Lines.{Place}
use Rattle.dimacs.specs.Network as net
use Rattle.dimacs.specs.Sources as src
use Rattle.dimacs.specs.Call.{filled, read_call, write_call, sources_call}
use Rattle.dimacs.specs.Claims.{Table, Canonical}

-- ---- every text

abbrev pub NetworkCover : Type 0
NetworkCover = (text : List ℕ) → net.IsGood text ⊎ ((k : ℕ) × Place net.IsGood text k × ((j : ℕ) → Place net.IsGood text j → j ≡ k))

abbrev pub SourcesCover : Type 0
SourcesCover = (n : ℕ) → 0 < n → (text : List ℕ)
    → src.IsGood n text ⊎ ((k : ℕ) × Place (src.IsGood n) text k × ((j : ℕ) → Place (src.IsGood n) text j → j ≡ k))

-- ---- reading network text, into lists that are long enough

abbrev pub CallReads : Type 0
CallReads = (text : List ℕ) (cs : Columns) → short_table cs ≡ accept → (n : ℕ) (es : List Edge)
    → (read_call text cs ≡ record { reply = accepted (record { vertices = n; count = length es }); memory = filled es cs }) ↔ net.Good text n es

abbrev pub CallRefuses : Type 0
CallRefuses = (text : List ℕ) (cs : Columns) → short_table cs ≡ accept → (k i : ℕ)
    → (((read_call text cs).reply ≡ refused k i) ↔ ((k ≡ 14) × Place net.IsGood text i))
    × ((read_call text cs).reply ≡ refused k i → (read_call text cs).memory ≡ cs)

abbrev pub CallShort : Type 0
CallShort = (text : List ℕ) (cs : Columns) → (short_table cs ≡ accept → ⊥) → read_call text cs ≡ record { reply = refused 2 0; memory = cs }

-- ---- reading a source file, for a number of vertices that is one, into a list that is long enough

abbrev pub SourcesCallReads : Type 0
SourcesCallReads = (n : ℕ) (text out : List ℕ) → size n ≡ accept → src.max_sources ≤ length out → (ss : List ℕ)
    → (sources_call n text out ≡ record { reply = accepted (length ss); memory = over ss out }) ↔ src.Good n text ss

abbrev pub SourcesCallRefuses : Type 0
SourcesCallRefuses = (n : ℕ) (text out : List ℕ) → size n ≡ accept → src.max_sources ≤ length out → (k i : ℕ)
    → (((sources_call n text out).reply ≡ refused k i) ↔ ((k ≡ 14) × Place (src.IsGood n) text i))
    × ((sources_call n text out).reply ≡ refused k i → (sources_call n text out).memory ≡ out)

abbrev pub SourcesCallShort : Type 0
SourcesCallShort = (n : ℕ) (text out : List ℕ)
    → ((size n ≡ accept → ⊥) → sources_call n text out ≡ record { reply = refused 1 0; memory = out })
    × (size n ≡ accept → length out < src.max_sources → sources_call n text out ≡ record { reply = refused 2 0; memory = out })

-- ---- writing network text

abbrev pub longest_text : ℕ
longest_text = 32782

abbrev pub WrittenLength : Type 0
WrittenLength = (n : ℕ) (cs : Columns) (m : ℕ) (out : List ℕ) (k : ℕ) → (write_call n cs m out).reply ≡ accepted k → k ≤ longest_text

pub record Writes (n : ℕ) (cs : Columns) (m : ℕ) (out : List ℕ) (k : ℕ) : Type 0 where
  pub long : short_table cs ≡ accept
  pub few : m ≤ max_edges
  pub table : Table n (edges_of cs m)
  pub text : List ℕ
  pub canonical : Canonical text n (edges_of cs m)
  pub bytes : length text ≡ k
  pub room : k ≤ length out

abbrev pub CallWrites : Type 0
CallWrites = (n : ℕ) (cs : Columns) (m : ℕ) (out : List ℕ) (k : ℕ) → ((write_call n cs m out).reply ≡ accepted k) ↔ Writes n cs m out k

abbrev pub CallWritten : Type 0
CallWritten = (n : ℕ) (cs : Columns) (m : ℕ) (out : List ℕ) (k : ℕ) → (write_call n cs m out).reply ≡ accepted k
    → ((text : List ℕ) → Canonical text n (edges_of cs m) ↔ (text ≡ take k (write_call n cs m out).memory))
    × (drop k (write_call n cs m out).memory ≡ drop k out)

abbrev pub CallUnwritten : Type 0
CallUnwritten = (n : ℕ) (cs : Columns) (m : ℕ) (out : List ℕ)
    → ((size n ≡ accept → ⊥) → write_call n cs m out ≡ record { reply = refused 1 0; memory = out })
    × (size n ≡ accept → (short_table cs ≡ accept → ⊥) → write_call n cs m out ≡ record { reply = refused 2 0; memory = out })
    × (size n ≡ accept → short_table cs ≡ accept → (k i : ℕ) → table n cs m ≡ refuse k i → write_call n cs m out ≡ record { reply = refused k i; memory = out })
    × (size n ≡ accept → short_table cs ≡ accept → table n cs m ≡ accept → (text : List ℕ) → Canonical text n (edges_of cs m) → length out < length text
    → write_call n cs m out ≡ record { reply = refused 2 0; memory = out })
