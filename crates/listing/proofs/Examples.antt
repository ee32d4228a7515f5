-- What the values program prints for small files, computed: document 01, "Text"; document 02, Five. Each line says which sentence it shows and which nearby
-- reading it shuts out. Assumes nothing.
--
-- The table lists deck.gr, deck.ss and the whole output; one equation holds for all of its lines. `\n` is the line feed.
use Rattle.property.proofs.Basics.{◌≡◌, refl, List, [], ◌∷◌, ◌++◌, map, bind, ℕ, replicate}
use Prim.Native.String.{String}
use Rattle.property.specs.Property.{property}
use Rattle.frontier.specs.Waiting.{any_of}
use Rattle.graph.specs.Refusal.{◌▷◌, refuse_if, replied, choose}
use Rattle.graph.specs.Edge.{keep_if, keep, exists, zip, edges, range}
use Rattle.graph.specs.Sorted as order
use Rattle.run.specs.Run.{store_if, relax, clear, handle, visit_if, visit, take_entry_if, take_entry, pass, round, settle}
use Rattle.run.specs.Start.{opened, bound, asked}
use Rattle.network.specs.Network.{are_landmarks, flat, unsettled}
use Rattle.network.specs.Open.{open_call}
use Rattle.network.specs.Query.{scheduled, query_call, query_faults}
use Rattle.network.specs.Choice.{ranked}
use Rattle.dimacs.specs.Decimal.{digits_by, digits, is_digit, scan, number}
use Rattle.dimacs.specs.Lines.{before, split, fields_of}
use Rattle.dimacs.specs.Read.{after, fields, comment_of, spoken_by, line_in, heard, step, ended, reading, read}
use Rattle.dimacs.specs.Network.{problem_from, arc_of, arc_from, or_else, item_in, opens, takes, act, complete, read_network}
use Rattle.dimacs.specs.Sources as src
use Rattle.dimacs.specs.Call.{judged, vertex_count, edges_read, sources_read}
use Rattle.dimacs.proofs.Examples.{bytes}
use Rattle.listing.specs.Listing.{spaced, refused_line, line_of, lines_of, source_lines, listed, output, printed}

abbrev runs : List (List ℕ × List ℕ × String)
runs =
    -- the worked example of document 01, whole
    (
      bytes "p sp 3 2\na 1 2 5\na 2 3 7\n",
      bytes "p aux sp ss 1\ns 1\n",
      "source station time handovers headroom worst reach\n1 1 0 0 4294967295 0 1\n1 2 5 1 5 5 1\n1 3 12 2 5 7 1\n",
    )
    -- "per source in file order and station ascending", repeats too; no route is M, and 0 for headroom and reach; with n below 4 there are n posts
    ∷ (
      bytes "p sp 2 1\na 1 2 5\n",
      bytes "p aux sp ss 3\ns 2\ns 1\ns 2\n",
      "source station time handovers headroom worst reach\n2 1 4294967295 4294967295 0 4294967295 0\n2 2 0 0 4294967295 0 1\n1 1 0 0 4294967295 0 1\n1 2 5 1 5 5 1\n2 1 4294967295 4294967295 0 4294967295 0\n2 2 0 0 4294967295 0 1\n",
    )
    -- deck A from its stations 1 and 4: as the starred lines say it, and for 4 with no way to 1
    ∷ (
      bytes "p sp 4 5\na 1 2 4\na 1 4 9\na 2 3 4\na 3 2 4\na 4 3 2\n",
      bytes "p aux sp ss 2\ns 1\ns 4\n",
      "source station time handovers headroom worst reach\n1 1 0 0 4294967295 0 1\n1 2 4 1 4 4 1\n1 3 8 2 4 4 1\n1 4 9 1 9 9 1\n4 1 4294967295 4294967295 0 4294967295 0\n4 2 6 2 2 4 1\n4 3 2 1 2 2 1\n4 4 0 0 4294967295 0 1\n",
    )
    -- document 02, Five: "The best over all routes now ranges over twins too"; of two tracks from 1 to 2, "a fast low one and a slow tall one", time takes
    -- the one and headroom the other
    ∷ (
      bytes "p sp 3 3\na 1 2 9\na 1 2 2\na 2 3 5\n",
      bytes "p aux sp ss 1\ns 1\n",
      "source station time handovers headroom worst reach\n1 1 0 0 4294967295 0 1\n1 2 2 1 9 2 1\n1 3 7 2 5 5 1\n",
    )
    -- .. and "Text accepts twins, refuses equal lines"
    ∷ (bytes "p sp 3 3\na 1 2 9\na 2 3 5\na 1 2 9\n", bytes "p aux sp ss 1\ns 1\n", "refused 14 4\n")
    -- COUNT 0: the header alone
    ∷ (bytes "p sp 1 0\n", bytes "p aux sp ss 0\n", "source station time handovers headroom worst reach\n")
    -- "A refusal in either file, deck.gr first": both are bad, and deck.gr's line is told though it is the later one
    ∷ (bytes "p sp 2 1\na 1 2 0\n", bytes "x\n", "refused 14 2\n")
    -- "stations must exist" in the network of deck.gr
    ∷ (bytes "p sp 2 0\n", bytes "p aux sp ss 1\ns 3\n", "refused 14 2\n")
    -- "one that can't be opened counts as empty"
    ∷ ([], [], "refused 14 1\n")
    ∷ (bytes "p sp 1 0\n", [], "refused 14 1\n")
    -- "over 65,536 bytes: number 2", place 0: a file of 65,537 bytes; deck.gr is judged whole, 2 and then 14, before deck.ss
    ∷ (replicate 65537 99, [], "refused 2 0\n")
    ∷ (bytes "p sp 1 0\n", replicate 65537 99, "refused 2 0\n")
    ∷ (bytes "p sp 0 0\n", replicate 65537 99, "refused 14 1\n")
    -- 65,536 bytes are good: both files are filled up with a comment
    ∷ (
      bytes "p sp 1 0\nc " ++ replicate 65524 99 ++ (10 ∷ []),
      bytes "p aux sp ss 0\nc " ++ replicate 65519 99 ++ (10 ∷ []),
      "source station time handovers headroom worst reach\n",
    )
    ∷ []

runs_said : map (λ c. printed c.0 c.1) runs ≡ map (λ c. bytes c.2) runs
unfolding bytes printed output refused_line listed source_lines lines_of line_of spaced fields_of digits digits_by judged vertex_count edges_read sources_read read_network src.read_sources read reading step heard ended line_in comment_of spoken_by split before item_in or_else src.item_in after fields number scan is_digit problem_from arc_from arc_of src.header_from src.source_from act opens takes complete src.act src.complete bind open_call query_call query_faults replied choose ◌▷◌ refuse_if are_landmarks scheduled ranked edges zip order.rules order.follow exists order.insert unsettled flat any_of range property opened bound asked take_entry take_entry_if pass settle round visit visit_if handle clear relax store_if keep keep_if
runs_said = refl
