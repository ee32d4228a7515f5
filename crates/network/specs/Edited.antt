-- What an accepted change leaves, edge by edge: document 02, Five ("A segment is now its three words", "A take names the figure"), and document 01, "The
-- network as it is now" ("the list stays in table order"). Assumes nothing.
--
--   of_pair c w == the edge from the tail to the head of the change c, of weight w
--   EditExact   == after a change that is accepted the edges keep the table's rules. After an add an edge is there exactly where it is the add's or was there;
--                   after a take, exactly where it was there and is not the one named; after an update, exactly where it is that of the new weight, or was
--                   there and is not that of the old. So a take strikes the edge that it names and no other: proved as edit_exact
--   PresentFirst == an update to another weight, which the pair has already, is number 10, whether the old one is there or not: proved as present_first
use Rattle.std.specs.Prelude.{◌≡◌, ◌≢◌, true, not, ◌&&◌, ◌||◌, List, ℕ}
use Rattle.graph.specs.Refusal.{accept, refuse}
use Rattle.graph.specs.Edge.{Edge, edge, same, among}
use Rattle.graph.specs.Table.{rules}
use Rattle.network.specs.Change.{Change, edit, words, item}

abbrev pub of_pair : Change → ℕ → Edge
of_pair c w = edge c.tail c.head w

-- by the three kinds, which are all that number 7 lets pass
abbrev pub EditExact : Type 0
EditExact = (n i : ℕ) (es : List Edge) (c : Change) → rules n es ≡ accept → item n i es c ≡ accept
    → (rules n (edit es c) ≡ accept)
    × (c.kind ≡ 1 → (x : Edge) → among (edit es c) x ≡ (same x (of_pair c c.weight) || among es x))
    × (c.kind ≡ 2 → (x : Edge) → among (edit es c) x ≡ (among es x && not (same x (of_pair c c.weight))))
    × (c.kind ≡ 3 → (x : Edge) → among (edit es c) x ≡ (same x (of_pair c c.weight) || (among es x && not (same x (of_pair c c.old)))))

-- "a new figure that the pair already has is 10, even with the old one absent, unless the two are equal"
abbrev pub PresentFirst : Type 0
PresentFirst = (n i : ℕ) (es : List Edge) (c : Change) → words n i c ≡ accept → c.kind ≡ 3 → c.weight ≢ c.old → among es (of_pair c c.weight) ≡ true
    → item n i es c ≡ refuse 10 i
