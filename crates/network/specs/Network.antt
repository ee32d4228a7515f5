-- What is lent to a call, refusals 2 and 3, and the landmark rows: document 01, "Network" and "Turned back". Assumes nothing.
--
--   Rows              == the two lent lists of the landmark rows ("standing rows"): forward ("outward", landmark to each vertex)
--                        and backward ("homeward", each vertex to the landmark, worked on the reversed edges)
--   Memory             == the lent lists of a network: its table and its rows
--   Network            == a network as its caller holds it: the lent lists and the present count
--   edges_in w         == its edges: the records below the count
--   row_count ls       == the rows in each list: five for each landmark
--   short_rows n ls xs == number 2: a row list has fewer than landmarks × 5 × n words
--   are_landmarks n ls == the vertices ls are below n and different
--   landmarks n ls     == number 3: none, over 4, not a vertex, repeated
--   faults n ls w      == numbers 1 to 4 of a network
--   row n r xs         == row r of a row list: n words; rows go by landmark in list order, then property
--   property_of r      == the property of row r
--   landmark_of ls r   == the landmark of row r
--   rows_of ls         == the indices of the rows
--   flat sts           == the words of the rows, one after the other
--   unsettled sts      == in some row some vertex waits
--   stores_of sts      == the stores of all rows
--   is_in a ls         == a is one of ls
use Rattle.std.specs.Prelude.{Bool, true, false, not, ◌&&◌, ◌||◌, List, [], ◌∷◌, ◌++◌, ℕ, suc, ◌+◌, ◌*◌, ◌/◌, ◌%◌, length, get_or, take, drop, ltb, eqb}
use Rattle.property.specs.Property.{Property, property, properties}
use Rattle.frontier.specs.Waiting.{any_of}
use Rattle.graph.specs.Limits.{max_landmarks}
use Rattle.graph.specs.Refusal.{Verdict, ◌▷◌, refuse_if}
use Rattle.graph.specs.Edge.{Edge, range, exists}
use Rattle.graph.specs.Table.{Columns, edges_of, size, short_table, table}
use Rattle.run.specs.Run.{State}

-- ---- what is lent

pub record Rows : Type 0 where
  pub forward : List ℕ
  pub backward : List ℕ

pub record Memory : Type 0 where
  pub table : Columns
  pub rows : Rows

pub record Network : Type 0 where
  pub memory : Memory
  pub count : ℕ

abbrev pub edges_in : Network → List Edge
edges_in w = edges_of w.memory.table w.count

abbrev pub row_count : List ℕ → ℕ
row_count ls = length ls * properties

-- ---- refusals 2 and 3, and the chain from 1 to 4

abbrev pub short_rows : ℕ → List ℕ → Rows → Verdict
short_rows n ls xs = refuse_if (ltb (length xs.forward) (row_count ls * n) || ltb (length xs.backward) (row_count ls * n)) 2 0

abbrev pub is_in : ℕ → List ℕ → Bool
is_in a ls = exists (eqb a) ls

unfoldable pub are_landmarks : ℕ → List ℕ → Bool
are_landmarks n [] = true
are_landmarks n (l ∷ ls) = ltb l n && (not (is_in l ls) && are_landmarks n ls)

abbrev pub landmarks : ℕ → List ℕ → Verdict
landmarks n ls = refuse_if (eqb (length ls) 0 || (ltb max_landmarks (length ls) || not (are_landmarks n ls))) 3 0

abbrev pub faults : ℕ → List ℕ → Network → Verdict
faults n ls w =
    size n
    ▷ short_table w.memory.table
    ▷ short_rows n ls w.memory.rows
    ▷ landmarks n ls
    ▷ table n w.memory.table w.count

-- ---- rows: row r is that of landmark r / 5 and property r % 5 + 1

abbrev pub row : ℕ → ℕ → List ℕ → List ℕ
row n r xs = take n (drop (r * n) xs)

abbrev pub property_of : ℕ → Property
property_of r = property (suc (r % properties))

abbrev pub landmark_of : List ℕ → ℕ → ℕ
landmark_of ls r = get_or ls (r / properties) 0

abbrev pub rows_of : List ℕ → List ℕ
rows_of ls = range 0 (row_count ls)

unfoldable pub flat : List State → List ℕ
flat [] = []
flat (st ∷ sts) = st.words ++ flat sts

unfoldable pub unsettled : List State → Bool
unsettled [] = false
unsettled (st ∷ sts) = any_of st.waiting || unsettled sts

unfoldable pub stores_of : List State → ℕ
stores_of [] = 0
stores_of (st ∷ sts) = st.tally.stores + stores_of sts
