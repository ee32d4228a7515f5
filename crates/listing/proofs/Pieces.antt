-- The pieces of the output: each of them as the code makes it, and all of them as the whole. Assumes nothing.
use Rattle.property.proofs.Basics.{◌≡◌, refl, sym, ap, ◌∙◌, List, [], ◌∷◌, ◌++◌, map, append-nil, ℕ, suc, ◌+◌, ◌*◌, ◌≤◌, ◌<◌, add-one, arith, ltb, ltb-true, ltb-false, length, get_or, take, length-map, get_or-map, length-take-le, get_or-take, take_all}
use Rattle.property.proofs.Tests.{by_test}
use Rattle.property.specs.Property.{properties}
use Rattle.std.specs.Prelude.{Ok}
use Rattle.graph.specs.declared.refusal.Refusal.{Refusal}
use Rattle.graph.specs.Refusal.{Verdict, accept, refuse, ◌▷◌}
use Rattle.graph.specs.Edge.{range}
use Rattle.graph.specs.Code.{number, place}
use Rattle.graph.proofs.Lists.{get_or_within}
use Rattle.network.specs.Network.{Network}
use Rattle.calls.specs.Code.{network}
use Rattle.dimacs.specs.Network.{read_network}
use Rattle.dimacs.specs.Sources.{read_sources}
use Rattle.dimacs.specs.Call.{vertex_count, edges_read, sources_read}
use Rattle.listing.specs.declared.parts.Prepared.{Prepared}
use Rattle.listing.specs.Listing.{max_file, Graph, graph, graph_of, header, refused_line, network_of, lines_of, source_lines, listed, graph_verdict, files_verdict, output, printed}
use Rattle.listing.specs.Code.{parts_of, parts, Shown}
use Rattle.listing.specs.Pieces.{concat, PartsPrinted, PrintedCut}
use Rattle.listing.proofs.Reading.{graph_long, sources_long, files_first}

-- ---- all pieces are the whole output

source_parts : (d : Graph) (w : Network) (ss : List ℕ) → concat (map (λ s. lines_of d w s (range 0 d.n)) ss) ≡ source_lines d w ss
unfolding concat source_lines
source_parts d w [] = refl
source_parts d w (s ∷ ss) = ap (λ (xs : List ℕ). lines_of d w s (range 0 d.n) ++ xs) (source_parts d w ss)

verdict_parts : (v : Verdict) (d : Graph) (ss : List ℕ) → concat (parts_of v d ss) ≡ output v (listed d ss)
unfolding concat parts_of output listed
verdict_parts accept d ss = ap (λ (xs : List ℕ). header ++ xs) (source_parts d (network_of d) ss)
verdict_parts (refuse k i) d ss = append-nil (refused_line k i)

-- What a program prints that writes the pieces one after the other is what document 01 says: header and lines, or one refusal.
pub parts_printed : PartsPrinted
unfolding printed
parts_printed gr ss = verdict_parts (files_verdict gr ss) (graph_of (read_network gr)) (sources_read (read_sources (vertex_count (read_network gr)) ss))

-- A file is read up to one byte past the limit: nothing past that changes the output. A longer file is refused with number 2, and so is its cut.
cut_long : (xs : List ℕ) → max_file < length xs → max_file < length (take (suc max_file) xs)
cut_long xs l = omega (arith, length-take-le (suc max_file) xs l)

-- the refusal of deck.gr hides all that follows
files_long : (gr ss : List ℕ) → max_file < length gr → files_verdict gr ss ≡ refuse 2 0
files_long gr ss l = files_first gr ss 2 0 (graph_long gr l)

printed_cut_graph : (gr ss : List ℕ) → printed (take (suc max_file) gr) ss ≡ printed gr ss
unfolding printed output
printed_cut_graph gr ss = by_test (ltb max_file (length gr))
    (λ e. let l = ltb-true max_file (length gr) e in rw (files_long (take (suc max_file) gr) ss (cut_long gr l), files_long gr ss l))
    (λ e. rw (take_all (suc max_file) gr (omega (arith, ltb-false max_file (length gr) e))))

output_hides : (a : Verdict) (x y : List ℕ) → output (a ▷ refuse 2 0) x ≡ output (a ▷ refuse 2 0) y
unfolding output ◌▷◌
output_hides accept x y = refl
output_hides (refuse k i) x y = refl

printed_cut_sources : (gr ss : List ℕ) → printed gr (take (suc max_file) ss) ≡ printed gr ss
unfolding printed
printed_cut_sources gr ss = by_test (ltb max_file (length ss))
    (λ e. let l = ltb-true max_file (length ss) e in rw (sources_long _ (take (suc max_file) ss) (cut_long ss l), sources_long _ ss l) (output_hides (graph_verdict gr) _ _))
    (λ e. rw (take_all (suc max_file) ss (omega (arith, ltb-false max_file (length ss) e))))

pub printed_cut : PrintedCut
printed_cut gr ss = printed_cut_graph gr (take (suc max_file) ss) ∙ printed_cut_sources gr ss

-- ---- one piece

pub parts_refused : (gr ss : List ℕ) (e : Refusal) → files_verdict gr ss ≡ refuse (number e) (place e) → parts gr ss ≡ refused_line (number e) (place e) ∷ []
unfolding parts_of
parts_refused gr ss e h =
    ap (λ (v : Verdict). parts_of v (graph_of (read_network gr)) (sources_read (read_sources (vertex_count (read_network gr)) ss))) h

module _ {gr ss : List ℕ} {p : Prepared} {ts hs ws xs f b : List ℕ} (h : Shown gr ss (Ok p) ts hs ws xs f b) where
  abbrev piece : ℕ → List ℕ
  piece s = let d = graph_of (read_network gr) in lines_of d (network_of d) s (range 0 d.n)

  pub parts_accepted : parts gr ss ≡ header ∷ map piece (take p.sources xs)
  unfolding parts_of
  parts_accepted =
      ap (λ (v : Verdict). parts_of v (graph_of (read_network gr)) (sources_read (read_sources (vertex_count (read_network gr)) ss))) h.0
      ∙ ap (λ (vs : List ℕ). header ∷ map piece vs) (sym h.1.sources)

  module _ (l : p.sources ≤ length xs) where
    pub parts_count : 1 + p.sources ≡ length (parts gr ss)
    parts_count =
        omega (arith, ap length parts_accepted, length-map (take p.sources xs) piece, length-take-le p.sources xs l)

    -- piece i + 1 is the lines of source i, as the code makes them
    pub parts_lines : (i : ℕ) → i < p.sources
        → get_or (parts gr ss) (i + 1) []
        ≡ lines_of (graph p.n (edges_read (read_network gr))) (network ts hs ws (take (p.choice.count * properties * p.n) f) (take (p.choice.count * properties * p.n) b) p.count) (get_or xs i 0) (range 0 p.n)
    parts_lines i j =
        let r = h.1 in
        let es = edges_read (read_network gr) in
        ap (λ (ps : List (List ℕ)). get_or ps (i + 1) []) parts_accepted
        ∙ rw add-one
        (get_or_within (map piece (take p.sources xs)) i [] (piece 0) (omega (arith, length-map (take p.sources xs) piece, length-take-le p.sources xs l))
        ∙ get_or-map piece (take p.sources xs) i 0)
        ∙ ap piece (get_or-take p.sources xs i 0 j)
        ∙ ap (λ (k : ℕ). lines_of (graph k es) (network_of (graph k es)) (get_or xs i 0) (range 0 k)) (sym r.vertices)
        ∙ ap (λ (w : Network). lines_of (graph p.n es) w (get_or xs i 0) (range 0 p.n)) (sym r.ready.opened)

pub piece_only : (ps : List (List ℕ)) (x : List ℕ) (i : ℕ) → ps ≡ x ∷ [] → i < length ps → get_or ps i [] ≡ x
piece_only ps x i e l =
    let z : i ≡ 0 = omega (arith, ap length e) in
    rw (z, e)
