-- The hunt for affected vertices, pass by pass over the old edges from the table's last to its first: document 02, Three. Assumes nothing.
--
-- es is the list of edges before the batch, fs the list after it, s the landmark of the row, ws its words.
--
--   AnyOrder                == edges in any order, even some of them more than once, give the hunt the same marks, so that nothing seen from outside
--                              moves with it: proved as any_order
--   TableOrder              == an index has a table's edges in the table's own order, so that a pass over an index from its last vertex to its first, and
--                              over the edges of each from last to first, is one over the table's records from last to first: proved as table_order_lem
--   Descends P s ws es == each held edge has its tail above its head
--   FirstPass          == the first pass over a table finds all affected vertices where each held edge has its tail above its head, and so where each
--                              edge of the table has: proved as first_pass
--   leads_up e               == 1 where e leads up, to a head above its tail, else 0
--   Chained P es fs s ws t k == a chain of held edges that leads up k times goes from a removed one, which counts too, to t
--   PassBound                == k passes find each vertex to which a chain leads that leads up fewer than k times: proved as pass_bound
use Rattle.std.specs.Prelude.{◌≡◌, ◌↔◌, true, false, cond, ℕ, ◌+◌, ◌<◌, replicate, ltb}
use mathlib.Core.List.{List, Memᴰ}
use Rattle.property.specs.Property.{Property}
use Rattle.graph.specs.Refusal.{accept}
use Rattle.graph.specs.Edge.{Edge}
use Rattle.graph.specs.Table.{rules}
use Rattle.graph.specs.Index.{Own, in_order}
use Rattle.affected.specs.Net.{removed}
use Rattle.affected.specs.Affected.{Held, marked, sweep, hunt, affected}

abbrev pub AnyOrder : Type 0
AnyOrder = (P : Property) (es xs fs : List Edge) (s : ℕ) (ws : List ℕ) (n : ℕ) → ((e : Edge) → Memᴰ e es → e.head < n)
    → ((e : Edge) → Memᴰ e xs ↔ Memᴰ e es) → hunt P es fs s ws xs n (replicate n false) ≡ affected P es fs s ws n

abbrev pub TableOrder : Type 0
TableOrder = (n : ℕ) (is : List ℕ) (es : List Edge) → rules n es ≡ accept → Own n is es → in_order is 0 n ≡ es

abbrev pub Descends : Property → ℕ → List ℕ → List Edge → Type 0
Descends P s ws es = (e : Edge) → Memᴰ e es → Held P s ws e → e.head < e.tail

abbrev pub FirstPass : Type 0
FirstPass = (P : Property) (es fs : List Edge) (s : ℕ) (ws : List ℕ) (n : ℕ) → rules n es ≡ accept
    → (Descends P s ws es → sweep P es fs s ws es (replicate n false) ≡ affected P es fs s ws n)
    × (((e : Edge) → Memᴰ e es → e.head < e.tail) → sweep P es fs s ws es (replicate n false) ≡ affected P es fs s ws n)

abbrev pub leads_up : Edge → ℕ
leads_up e = cond (ltb e.tail e.head) 1 0

pub data Chained (P : Property) (es fs : List Edge) (s : ℕ) (ws : List ℕ) : ℕ → ℕ → Type 0 where
  chain_removed : {e : Edge} → Memᴰ e es → removed P es fs e ≡ true → Held P s ws e → Chained P es fs s ws e.head (leads_up e)
  chain_onward : {e : Edge} {k : ℕ} → Chained P es fs s ws e.tail k → Memᴰ e es → Held P s ws e → Chained P es fs s ws e.head (k + leads_up e)

abbrev pub PassBound : Type 0
PassBound = (P : Property) (es fs : List Edge) (s : ℕ) (ws : List ℕ) (n : ℕ) → rules n es ≡ accept
    → (k t u : ℕ) → Chained P es fs s ws t u → u < k → marked (hunt P es fs s ws es k (replicate n false)) t ≡ true
