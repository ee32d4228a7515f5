-- What the functions on changes hold and answer. Assumes nothing.
--
--   change k t h w o       == the change record of five words
--   change_of c            == five words as a change record
--   changes_of cs          == a list of five words each as change records
--   change_at xs i         == the change record whose words are at place i of five lists of 1,024 words, one after the other in xs
--   Laid k cs xs           == cs are k changes, whose words are in the five lists as far as these have places
--   put_change xs i c      == the five lists after the words of c went to place i of each
--   laid_all c xs k        == the five lists after the changes c 0 to c (k - 1) went there, each to its own place
--   verdict r              == the answer to changes, a count or a refusal, as a verdict
--   Leaves n r ts hs ws fs == where r tells a count, the three lists hold the edges fs below it
use Rattle.std.specs.Prelude.{◌≡◌, List, map, ℕ, zero, suc, ◌+◌, ◌*◌, ◌<◌, length, get_or, set, Result, Ok, Err}
use Rattle.graph.specs.Limits.{max_batch}
use Rattle.graph.specs.Refusal.{Verdict, accept, refuse}
use Rattle.graph.specs.Edge.{Edge, edges}
use Rattle.graph.specs.Code.{number, place}
use Rattle.graph.specs.declared.refusal.Refusal.{Refusal}
use Rattle.network.specs.Change.{Change}
use Rattle.calls.specs.Code.{Tabled}

-- ---- lists of changes

abbrev pub change : ℕ → ℕ → ℕ → ℕ → ℕ → Change
change k t h w o = record { kind = k; tail = t; head = h; weight = w; old = o }

abbrev pub change_of : List ℕ → Change
change_of c = change (get_or c 0 0) (get_or c 1 0) (get_or c 2 0) (get_or c 3 0) (get_or c 4 0)

abbrev pub changes_of : List (List ℕ) → List Change
changes_of cs = map change_of cs

abbrev pub change_at : List ℕ → ℕ → Change
change_at xs i = change (get_or xs i 0) (get_or xs (max_batch + i) 0) (get_or xs (2 * max_batch + i) 0) (get_or xs (3 * max_batch + i) 0) (get_or xs (4 * max_batch + i) 0)

pub record Laid (k : ℕ) (cs : List Change) (xs : List ℕ) : Type 0 where
  pub size : length cs ≡ k
  pub words : (i : ℕ) → i < k → i < max_batch → change_at xs i ≡ get_or cs i (change 0 0 0 0 0)

abbrev pub put_change : List ℕ → ℕ → Change → List ℕ
put_change xs i c = set (set (set (set (set xs i c.kind) (max_batch + i) c.tail) (2 * max_batch + i) c.head) (3 * max_batch + i) c.weight) (4 * max_batch + i) c.old

abbrev pub laid_all : (ℕ → Change) → List ℕ → ℕ → List ℕ
laid_all c xs zero = xs
laid_all c xs (suc i) = put_change (laid_all c xs i) i (c i)

-- ---- the scratch table

unfoldable pub verdict : Result ℕ Refusal → Verdict
verdict (Ok m) = accept
verdict (Err e) = refuse (number e) (place e)

pub record Leaves (n : ℕ) (r : Result ℕ Refusal) (ts hs ws : List ℕ) (fs : List Edge) : Type 0 where
  pub table : (m : ℕ) → r ≡ Ok m → Tabled n m ts hs ws
  pub edges : (m : ℕ) → r ≡ Ok m → edges ts hs ws m ≡ fs
