-- Small texts, computed: document 01, "Text" and number 14; document 02, Five. Each line says which sentence it shows and which nearby reading it shuts out.
-- Assumes nothing.
--
-- A table of examples lists texts with what the documents say of them: what is read, or the line of the refusal. One equation holds for all of its rows.
--
--   bytes s      == the bytes of a quoted text; `\n` is the line feed, byte 10
--   Rows S       == rows of texts that are read alike: what they begin with, how each of them goes on, and what is read
--   Reads f rows == f reads all of them so
use Rattle.property.proofs.Tables.{Said}
use Rattle.property.proofs.Basics.{◌≡◌, refl, List, [], ◌∷◌, ◌++◌, map, Option, none, some, bind, ℕ, replicate}
use Prim.Native.Char.{code}
use Prim.Native.String.{String, [] as empty, ◌∷◌ as ◌then◌}
use Rattle.graph.specs.Refusal.{accepted, refused, Outcome, ◌▷◌, refuse_if, replied, choose}
use Rattle.graph.specs.Edge.{edge, exists, zip, edges}
use Rattle.graph.specs.Table.{Columns}
use Rattle.graph.specs.Sorted as order
use Rattle.dimacs.specs.Decimal.{digits_by, digits, is_digit, scan, number}
use Rattle.dimacs.specs.Lines.{joined, before, split, fields_of}
use Rattle.dimacs.specs.Read.{after, fields, comment_of, spoken_by, line_in, Read, good, bad, heard, step, ended, reading, read}
use Rattle.dimacs.specs.Network.{item_of, problem_from, arc_of, arc_from, or_else, item_in, State, within, opens, takes, act, complete, read_network, written}
use Rattle.dimacs.specs.Sources as src
use Rattle.dimacs.specs.Call.{Size, judged, vertex_count, edges_read, read_call, write_call, sources_read, sources_call}

unfoldable pub bytes : String → List ℕ
bytes empty = []
bytes (c then s) = code c ∷ bytes s

abbrev Rows : Type 0 → Type 0
Rows S = List (String × List String × Read S)

abbrev Reads : {S : Type 0} → (List ℕ → Read S) → Rows S → Type 0
Reads f rows = map (λ c. map (λ s. f (bytes c.0 ++ bytes s)) c.1) rows ≡ map (λ c. map (λ s. c.2) c.1) rows

abbrev accepts : {A L : Type 0} → A → L → Outcome A L
accepts a new = record { reply = accepted a; memory = new }

abbrev refuses : {A L : Type 0} → ℕ → ℕ → L → Outcome A L
refuses k i old = record { reply = refused k i; memory = old }

-- ---- numbers

-- "without sign or leading zero": zero is `0`
digits_said : map digits (0 ∷ 7 ∷ 10 ∷ 99 ∷ 100 ∷ 65535 ∷ 4294967295 ∷ [])
    ≡ map bytes ("0" ∷ "7" ∷ "10" ∷ "99" ∷ "100" ∷ "65535" ∷ "4294967295" ∷ [])
unfolding bytes digits digits_by
digits_said = refl

abbrev numbers : List (String × Option (ℕ × List ℕ))
numbers =
    -- a number goes as far as its digits; what follows is left
    ("0", some (0, []))
    ∷ ("120 7", some (120, bytes " 7"))
    -- `0` is a number and what follows it no part of one: neither `00` nor `07` is read to its end
    ∷ ("00", some (0, bytes "0"))
    ∷ ("07", some (0, bytes "7"))
    -- a byte next to the digits is none
    ∷ ("9:", some (9, bytes ":"))
    -- numbers don't wrap: 2^32 + 1 and 2^64 + 1 aren't 1
    ∷ ("4294967297", some (4294967297, []))
    ∷ ("18446744073709551617", some (18446744073709551617, []))
    -- no sign, no space, no empty field, no letter, no byte next to the digits
    ∷ map (λ s. (s, none)) ("+5" ∷ "-5" ∷ " 5" ∷ "" ∷ "x" ∷ "/" ∷ ":" ∷ [])

numbers_said : map (λ c. number (bytes c.0)) numbers ≡ map (λ c. c.1) numbers
unfolding bytes number scan is_digit
numbers_said = refl

-- ---- network text

abbrev networks : Rows State
networks =
    -- the example of document 01
    ("", "p sp 3 2\na 1 2 5\na 2 3 7\n" ∷ [], good (within 3 2 (edge 0 1 5 ∷ edge 1 2 7 ∷ [])))
    -- `a` lines come "in any order", and the records are stored ascending
    ∷ ("", "p sp 3 3\na 2 3 7\na 2 1 6\na 1 2 5\n" ∷ [], good (within 3 3 (edge 0 1 5 ∷ edge 1 0 6 ∷ edge 1 2 7 ∷ [])))
    -- N is 1 to 256, M2 may be 0
    ∷ ("", "p sp 1 0\n" ∷ [], good (within 1 0 []))
    ∷ ("", "p sp 256 0\n" ∷ [], good (within 256 0 []))
    ∷ ("p sp ", "0 0\n" ∷ "257 0\n" ∷ [], bad 1)
    -- M2 is at most 2,048: with 2,048 the text only ends too soon, with 2,049 none can go on
    ∷ ("", "p sp 256 2048\n" ∷ [], bad 2)
    ∷ ("", "p sp 256 2049\n" ∷ [], bad 1)
    -- .. and 0 where N is 1, for tail and head differ: the p line is the place, not a later `a` line
    ∷ ("", "p sp 1 1\n" ∷ [], bad 1)
    -- document 02, "Text accepts twins": M2 may be above N × (N − 1)
    ∷ ("", "p sp 2 3\n" ∷ "p sp 45 1981\n" ∷ [], bad 2)
    ∷ ("", "p sp 2 3\na 1 2 5\na 2 1 5\n" ∷ [], bad 4)
    ∷ ("", "p sp 2 3\na 1 2 5\na 2 1 5\na 1 2 6\n" ∷ [], good (within 2 3 (edge 0 1 5 ∷ edge 0 1 6 ∷ edge 1 0 5 ∷ [])))
    -- .. "in any order", and "the table ascends by tail, head, figure"
    ∷ (
      "p sp 3 4\n",
      "a 1 2 10\na 2 3 7\na 1 2 9\na 1 2 65535\n" ∷ "a 1 2 9\na 1 2 10\na 1 2 65535\na 2 3 7\n" ∷ "a 2 3 7\na 1 2 65535\na 1 2 10\na 1 2 9\n" ∷ [],
      good (within 3 4 (edge 0 1 9 ∷ edge 0 1 10 ∷ edge 0 1 65535 ∷ edge 1 2 7 ∷ [])),
    )
    -- .. and "refuses equal lines": the line of the second
    ∷ ("", "p sp 3 3\na 1 2 5\na 2 3 7\na 1 2 5\n" ∷ "p sp 2 4\na 1 2 5\na 1 2 6\na 1 2 5\na 1 2 7\n" ∷ [], bad 4)
    -- a figure is 1 to 65,535; out of range it is the line's refusal, not number 4 or 9
    ∷ ("p sp 2 1\n", "a 1 2 1\n" ∷ [], good (within 2 1 (edge 0 1 1 ∷ [])))
    ∷ ("p sp 2 1\n", "a 1 2 0\n" ∷ "a 1 2 65536\n" ∷ [], bad 2)
    -- "stations from 1": 1 to N
    ∷ ("p sp 2 1\n", "a 0 1 5\n" ∷ "a 1 0 5\n" ∷ "a 3 1 5\n" ∷ "a 1 3 5\n" ∷ [], bad 2)
    ∷ ("", "p sp 256 1\na 256 1 5\n" ∷ [], good (within 256 1 (edge 255 0 5 ∷ [])))
    ∷ ("", "p sp 256 1\na 257 1 5\n" ∷ [], bad 2)
    -- tail equals head
    ∷ ("p sp 2 1\n", "a 2 2 5\n" ∷ [], bad 2)
    -- "as many as M2": one too many is refused at its line, one too few at complete lines + 1
    ∷ ("p sp ", "3 1\na 1 2 5\na 2 3 7\n" ∷ "3 2\na 1 2 5\n" ∷ [], bad 3)
    ∷ ("", "p sp 2 0\na 1 2 5\n" ∷ [], bad 2)
    ∷ ("", "p sp 3 2\na 1 2 5\nc\n" ∷ [], bad 4)
    -- "One `p sp N M2` line precedes all `a` lines": none, a second one, an `a` line before it
    ∷ ("", "" ∷ "a 1 2 5\np sp 2 1\n" ∷ [], bad 1)
    ∷ ("", "c\n" ∷ "p sp 2 0\np sp 2 0\n" ∷ [], bad 2)
    ∷ ("p sp 2 1\n", "a 1 2 5\np sp 2 1\n" ∷ [], bad 3)
    -- numbers of any length are read as numbers: N 2^32 + 1 and 2^64 + 1 aren't 1, M2 2^32 isn't 0, a tail 2^32 + 1 isn't 1,
    -- a figure 2^16 + 5 or 2^64 + 5 isn't 5
    ∷ ("p sp ", "4294967297 0\n" ∷ "18446744073709551617 0\n" ∷ "2 4294967296\n" ∷ [], bad 1)
    ∷ ("p sp 2 1\n", "a 4294967297 2 5\n" ∷ "a 1 2 65541\n" ∷ "a 1 2 18446744073709551621\n" ∷ [], bad 2)
    -- "without sign or leading zero"
    ∷ ("p sp ", "1 00\n" ∷ "01 0\n" ∷ [], bad 1)
    ∷ ("p sp 2 1\n", "a 1 2 07\n" ∷ "a 1 2 +5\n" ∷ "a 1 2 5.0\n" ∷ [], bad 2)
    -- "single spaces": double, leading and trailing ones, a tab; a carriage return
    ∷ ("", "p  sp 1 0\n" ∷ "p sp 1  0\n" ∷ " p sp 1 0\n" ∷ "p sp 1 0 \n" ∷ "p sp\t1 0\n" ∷ "p sp 1 0\r\n" ∷ [], bad 1)
    ∷ ("p sp 2 1\n", "a 1 2  5\n" ∷ "a 1 2 5 \n" ∷ "a 1\t2 5\n" ∷ [], bad 2)
    -- fields too few, too many, empty, run together
    ∷ ("", "p sp 1\n" ∷ "p sp 1 \n" ∷ "p sp 1 0 0\n" ∷ "p sp1 0\n" ∷ [], bad 1)
    ∷ ("p sp 2 1\n", "a 1 2\n" ∷ "a 1 2 5 5\n" ∷ "a1 2 5\n" ∷ [], bad 2)
    -- "No other line, no blank one": also at the end, and also a source file's p line
    ∷ ("", "\np sp 1 0\n" ∷ "P sp 1 0\n" ∷ "p aux sp ss 0\n" ∷ [], bad 1)
    ∷ ("p sp 1 0\n", "\n" ∷ "s 1\n" ∷ [], bad 2)
    -- "`c` alone or `c ` and any bytes", before, between and after
    ∷ ("", "c\np sp 2 1\nc between \na 1 2 5\nc\nc  after\n" ∷ [], good (within 2 1 (edge 0 1 5 ∷ [])))
    ∷ ("", "c \np sp 1 0\n" ∷ "c \0\t\r\u{80}ÿ\np sp 1 0\n" ∷ [], good (within 1 0 []))
    ∷ ("", "cc\np sp 1 0\n" ∷ "c\tx\np sp 1 0\n" ∷ " c\np sp 1 0\n" ∷ [], bad 1)
    -- "each line ended by line feed": a last line without it is refused, though its bytes are a whole good line
    ∷ ("", "p sp 1 0" ∷ [], bad 1)
    ∷ ("p sp 2 1\n", "a 1 2 5" ∷ [], bad 2)
    ∷ ("p sp 1 0\n", "c" ∷ "?" ∷ [], bad 2)
    ∷ ("p sp 2 1\n", "c\na 1 " ∷ [], bad 3)
    -- the first such line, though a later one is worse
    ∷ ("", "c\np sp 2 1\na 1 2 0\nx\n" ∷ [], bad 3)
    ∷ []

-- ---- reading network text into lent lists

-- lists of so many words, all 7
abbrev lists : ℕ → ℕ → ℕ → Columns
lists i j k = record { tails = replicate i 7; heads = replicate j 7; weights = replicate k 7 }

abbrev wide : Columns
wide = lists 2048 2048 2048

abbrev readings : List (Outcome Size Columns × Outcome Size Columns)
readings =
    -- "A reader gives n and the count, stores the records ascending and leaves the words past them", up to 2,047 and beyond
    (
      read_call (bytes "p sp 3 2\na 2 3 7\na 1 2 5\n") (lists 2049 2048 2048),
      accepts (record { vertices = 3; count = 2 }) (record { tails = 0 ∷ 1 ∷ replicate 2047 7; heads = 1 ∷ 2 ∷ replicate 2046 7; weights = 5 ∷ 7 ∷ replicate 2046 7 }),
    )
    ∷ (read_call (bytes "p sp 2 0\n") wide, accepts (record { vertices = 2; count = 0 }) wide)
    -- twins stand by weight
    ∷ (
      read_call (bytes "p sp 2 2\na 1 2 6\na 1 2 5\n") wide,
      accepts (record { vertices = 2; count = 2 }) (record { tails = 0 ∷ 0 ∷ replicate 2046 7; heads = 1 ∷ 1 ∷ replicate 2046 7; weights = 5 ∷ 6 ∷ replicate 2046 7 }),
    )
    -- 2 before 14: each list has 2,048 words however small the network, and the text is not looked at
    ∷ (read_call (bytes "x\n") (lists 2047 2048 2048), refuses 2 0 (lists 2047 2048 2048))
    ∷ (read_call (bytes "p sp 2 0\n") (lists 2048 2047 2048), refuses 2 0 (lists 2048 2047 2048))
    ∷ (read_call (bytes "p sp 2 0\n") (lists 2048 2048 2047), refuses 2 0 (lists 2048 2048 2047))
    -- a refused text leaves the lists, though records stood before the bad line
    ∷ (read_call (bytes "p sp 3 2\na 1 2 5\na 1 2 5\n") wide, refuses 14 3 wide)
    ∷ (read_call [] wide, refuses 14 1 wide)
    ∷ []

networks_said : Reads read_network networks × Said readings
unfolding bytes read_call judged vertex_count edges_read replied choose ◌▷◌ refuse_if read_network read reading step heard ended line_in comment_of spoken_by split before item_in or_else after fields number scan is_digit problem_from arc_from arc_of act opens takes complete exists order.insert bind
networks_said = (refl, refl)

-- ---- writing network text

-- deck A in lists of 2,048 words, and its text of 49 bytes: "no comment and ascends"
abbrev graph_a : Columns
graph_a = record {
  tails = 0 ∷ 0 ∷ 1 ∷ 2 ∷ 3 ∷ replicate 2043 7;
  heads = 1 ∷ 3 ∷ 2 ∷ 1 ∷ 2 ∷ replicate 2043 7;
  weights = 4 ∷ 9 ∷ 4 ∷ 4 ∷ 2 ∷ replicate 2043 7;
}

abbrev text_a : List ℕ
text_a = bytes "p sp 4 5\na 1 2 4\na 1 4 9\na 2 3 4\na 3 2 4\na 4 3 2\n"

-- two edges from 0 to 1, of these weights
abbrev pair : ℕ → ℕ → Columns
pair v w = record { tails = 0 ∷ 0 ∷ replicate 2046 7; heads = 1 ∷ 1 ∷ replicate 2046 7; weights = v ∷ w ∷ replicate 2046 7 }

abbrev writings : List (Outcome ℕ (List ℕ) × Outcome ℕ (List ℕ))
writings =
    -- "the writer's reply is its length, and bytes past it stay"
    (write_call 4 graph_a 5 (replicate 51 7), accepts 49 (text_a ++ (7 ∷ 7 ∷ [])))
    -- a buffer of exactly the text's length is enough, one byte less is too short
    ∷ (write_call 4 graph_a 5 (replicate 49 7), accepts 49 text_a)
    ∷ (write_call 4 graph_a 5 (replicate 48 7), refuses 2 0 (replicate 48 7))
    -- only records below the count are written
    ∷ (write_call 4 graph_a 1 (replicate 17 7), accepts 17 (bytes "p sp 4 1\na 1 2 4\n"))
    ∷ (write_call 1 graph_a 0 (replicate 9 7), accepts 9 (bytes "p sp 1 0\n"))
    -- numbers of more than one digit; stations from 1, so that the last of 256 is 256
    ∷ (
      write_call 256 (record { tails = 255 ∷ replicate 2047 7; heads = 9 ∷ replicate 2047 7; weights = 65535 ∷ replicate 2047 7 }) 1 (replicate 26 7),
      accepts 26 (bytes "p sp 256 1\na 256 10 65535\n"),
    )
    -- twins ascend by figure; an edge that stands twice breaks the rules, as do twins that descend
    ∷ (write_call 2 (pair 5 6) 2 (replicate 25 7), accepts 25 (bytes "p sp 2 2\na 1 2 5\na 1 2 6\n"))
    ∷ (write_call 2 (pair 5 5) 2 (replicate 25 7), refuses 4 1 (replicate 25 7))
    ∷ (write_call 2 (pair 6 5) 2 (replicate 25 7), refuses 4 1 (replicate 25 7))
    -- "Only a text's output buffer is judged too short last": 1, 2 for a table list, 4, and then 2 for the buffer
    ∷ (write_call 0 (lists 2047 2048 2048) 2049 [], refuses 1 0 [])
    ∷ (write_call 257 graph_a 5 [], refuses 1 0 [])
    ∷ (write_call 4 (lists 2048 2048 2047) 2049 [], refuses 2 0 [])
    ∷ (write_call 4 graph_a 2049 [], refuses 4 0 [])
    ∷ (write_call 4 graph_a 6 (replicate 48 7), refuses 4 5 (replicate 48 7))
    ∷ (write_call 3 graph_a 5 [], refuses 4 1 [])
    ∷ (write_call 4 graph_a 5 [], refuses 2 0 [])
    ∷ []

writings_said : Said writings
unfolding bytes write_call written joined item_of fields_of digits digits_by replied choose ◌▷◌ refuse_if edges zip order.rules order.follow
writings_said = refl

-- ---- source files, for a network of 3 vertices

abbrev sources : Rows src.State
sources =
    -- the example of document 01; stations are stored from 0
    ("p aux sp ss 1\n", "s 1\n" ∷ [], good (src.within 1 (0 ∷ [])))
    -- "repeats allowed", and the file's order stays
    ∷ ("", "p aux sp ss 3\ns 3\ns 1\ns 3\n" ∷ [], good (src.within 3 (2 ∷ 0 ∷ 2 ∷ [])))
    -- "COUNT is 0 to 256": 0 needs no line; 256 alone only ends too soon, 257 is refused at its line
    ∷ ("", "p aux sp ss 0\n" ∷ [], good (src.within 0 []))
    ∷ ("", "p aux sp ss 256\n" ∷ [], bad 2)
    ∷ ("", "p aux sp ss 257\n" ∷ [], bad 1)
    -- COUNT may be above n
    ∷ ("", "p aux sp ss 4\ns 1\ns 1\ns 1\ns 2\n" ∷ [], good (src.within 4 (0 ∷ 0 ∷ 0 ∷ 1 ∷ [])))
    -- "stations must exist": 1 to n
    ∷ ("p aux sp ss 1\n", "s 0\n" ∷ "s 4\n" ∷ [], bad 2)
    ∷ ("p aux sp ss 1\n", "s 3\n" ∷ [], good (src.within 1 (2 ∷ [])))
    -- "then that many lines"
    ∷ ("", "p aux sp ss 2\ns 1\n" ∷ [], bad 3)
    ∷ ("p aux sp ss 1\n", "s 1\ns 2\n" ∷ [], bad 3)
    ∷ ("", "p aux sp ss 0\ns 1\n" ∷ [], bad 2)
    -- the p line stands first, and once
    ∷ ("", "" ∷ "s 1\np aux sp ss 1\n" ∷ "p sp 3 0\n" ∷ [], bad 1)
    ∷ ("p aux sp ss 1\n", "p aux sp ss 1\ns 1\n" ∷ [], bad 2)
    -- numbers, spaces, fields and line feeds as in network text
    ∷ ("p aux sp ", "ss 00\n" ∷ "ss 4294967296\n" ∷ "ss 1 \ns 1\n" ∷ "ss\n" ∷ [], bad 1)
    ∷ ("", "p aux sp  ss 1\ns 1\n" ∷ [], bad 1)
    ∷ ("p aux sp ss 1\n", "s 4294967297\n" ∷ "s 18446744073709551617\n" ∷ "s 01\n" ∷ "s 1 2\n" ∷ "s  1\n" ∷ "s 1\r\n" ∷ "s 1" ∷ [], bad 2)
    ∷ ("", "p aux sp ss 0\n\n" ∷ [], bad 2)
    -- "comments alike"
    ∷ ("", "c\np aux sp ss 1\nc ÿ\ns 2\nc end\n" ∷ [], good (src.within 1 (1 ∷ [])))
    ∷ ("", "p aux sp ss 0\ncc\n" ∷ [], bad 2)
    ∷ []

-- ---- reading a source file into a lent list

abbrev source_readings : List (Outcome ℕ (List ℕ) × Outcome ℕ (List ℕ))
source_readings =
    -- the reply is COUNT; stations are stored from 0, and words past them stay
    (sources_call 3 (bytes "p aux sp ss 2\ns 3\ns 1\n") (replicate 257 7), accepts 2 (2 ∷ 0 ∷ replicate 255 7))
    ∷ (sources_call 3 (bytes "p aux sp ss 0\n") (replicate 256 7), accepts 0 (replicate 256 7))
    -- 1, then 2 (256 words however small COUNT is), then 14; the list stays
    ∷ (sources_call 0 (bytes "x\n") (replicate 255 7), refuses 1 0 (replicate 255 7))
    ∷ (sources_call 257 (bytes "p aux sp ss 0\n") (replicate 256 7), refuses 1 0 (replicate 256 7))
    ∷ (sources_call 3 (bytes "x\n") (replicate 255 7), refuses 2 0 (replicate 255 7))
    ∷ (sources_call 3 (bytes "p aux sp ss 2\ns 3\ns 4\n") (replicate 256 7), refuses 14 3 (replicate 256 7))
    ∷ []

-- besides, the greatest source file: 256 lines after the p line; with one line more it is refused there
sources_said : Reads (src.read_sources 3) sources × Said source_readings
    × (map (λ k. src.read_sources 3 (joined (bytes "p aux sp ss 256" ∷ replicate k (bytes "s 3")))) (255 ∷ 256 ∷ 257 ∷ []) ≡ bad 257 ∷ good (src.within 256 (replicate 256 2)) ∷ bad 258 ∷ [])
unfolding bytes joined sources_call judged sources_read replied choose ◌▷◌ refuse_if src.read_sources read reading step heard ended line_in comment_of spoken_by split before src.item_in or_else after fields number scan is_digit src.header_from src.source_from src.act src.complete bind
sources_said = (refl, refl, refl)
