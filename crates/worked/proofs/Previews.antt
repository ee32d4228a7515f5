-- Small previews and their digests, computed: document 02, Four and Five, on deck A of document 01 with landmark 0. Each line says which sentence it shows;
-- the numbers are worked out by hand from document 01's lines: from 0 the time is 0 4 8 9, and 0 15 11 9 without 0→1. Assumes nothing.
--
--   blank a c       == lists of a effects and c moves, 77 and 99 before the call
--   asked b p s a c == the preview of the batch b on deck A, of property p from s, with such lists
--   shows es ds     == it is accepted: the effects are es and the moves ds, and a fifth entry stays
--   turned k i a c  == it is turned back with number k at i, and nothing is written
use Rattle.property.proofs.Tables.{Said}
use Rattle.property.proofs.Basics.{refl, List, [], ◌∷◌, ◌++◌, map, ℕ, replicate}
use lib.IntN.{ℤ, pos, negsuc}
use Rattle.graph.specs.Refusal.{Reply, accepted, refused, Outcome}
use Rattle.network.specs.Change.{Change}
use Rattle.answers.specs.Preview.{Shown, preview_call}
use Rattle.answers.specs.Digest.{Digest, digest_call}
use Rattle.worked.specs.Starred.{takes, adds}
use Rattle.worked.proofs.Calls.{calls}
use Rattle.worked.proofs.Refusals.{retunes}
use Rattle.worked.proofs.Examples.{graph0}

abbrev Lines : Type 0
Lines = List (Outcome (Unit {0}) Shown) × List (Outcome (Unit {0}) Shown)

abbrev blank : ℕ → ℕ → Shown
blank a c = record { effects = replicate a 77; moves = replicate c (pos 99) }

abbrev asked : List Change → ℕ → ℕ → ℕ → ℕ → Outcome (Unit {0}) Shown
asked b p s a c = preview_call 4 (0 ∷ []) graph0 b p s (blank a c)

abbrev shows : List ℕ → List ℤ → Outcome (Unit {0}) Shown
shows es ds = record { reply = accepted tt; memory = record { effects = es ++ (77 ∷ []); moves = ds ++ (pos 99 ∷ []) } }

abbrev turned : ℕ → ℕ → ℕ → ℕ → Outcome (Unit {0}) Shown
turned k i a c = record { reply = refused k i; memory = blank a c }

-- a change of kind 9
abbrev odd : Change
odd = record { kind = 9; tail = 0; head = 1; weight = 4; old = 0 }

abbrev nowhere : List ℤ
nowhere = pos 0 ∷ pos 0 ∷ pos 0 ∷ pos 0 ∷ []

-- ---- what is shown

-- "0 same, 1 gained a route, 2 lost it or 3 moved, with after minus before": without 0→1, from 0, for each property
abbrev moved : Lines
moved = (
  map (λ p. asked (takes 0 1 4 ∷ []) p 0 5 5) (1 ∷ 2 ∷ 3 ∷ 4 ∷ 5 ∷ []),
  shows (0 ∷ 3 ∷ 3 ∷ 0 ∷ []) (pos 0 ∷ pos 11 ∷ pos 3 ∷ pos 0 ∷ [])
      ∷ shows (0 ∷ 3 ∷ 0 ∷ 0 ∷ []) (pos 0 ∷ pos 2 ∷ pos 0 ∷ pos 0 ∷ [])
      ∷ shows (0 ∷ 3 ∷ 3 ∷ 0 ∷ []) (pos 0 ∷ negsuc 1 ∷ negsuc 1 ∷ pos 0 ∷ [])
      ∷ shows (0 ∷ 3 ∷ 3 ∷ 0 ∷ []) (pos 0 ∷ pos 5 ∷ pos 5 ∷ pos 0 ∷ [])
      ∷ shows (0 ∷ 0 ∷ 0 ∷ 0 ∷ []) nowhere ∷ [],
)

-- "where both have a route, else 0": from 3 without 3→2 the routes to 1 and 2 are lost, and with 3→0 0 gains one; 0 had none and has none in the first
abbrev routed : Lines
routed = (
  asked (takes 3 2 2 ∷ []) 1 3 5 5 ∷ asked (adds 3 0 5 ∷ []) 1 3 5 5 ∷ [],
  shows (0 ∷ 2 ∷ 2 ∷ 0 ∷ []) nowhere ∷ shows (1 ∷ 0 ∷ 0 ∷ 0 ∷ []) nowhere ∷ [],
)

-- a twin: 0→1 stands with 4 and 7, and for headroom the taller one counts
abbrev twinned : Lines
twinned = (asked (adds 0 1 7 ∷ []) 3 0 5 5 ∷ asked (adds 0 1 7 ∷ []) 1 0 5 5 ∷ [], shows (0 ∷ 3 ∷ 0 ∷ 0 ∷ []) (pos 0 ∷ pos 3 ∷ pos 0 ∷ pos 0 ∷ []) ∷ shows (0 ∷ 0 ∷ 0 ∷ 0 ∷ []) nowhere ∷ [])

-- a batch without changes, and one that leaves the table as it was
abbrev still : Lines
still = (asked [] 1 0 5 5 ∷ asked (takes 0 1 4 ∷ adds 0 1 4 ∷ []) 1 0 5 5 ∷ [], shows (0 ∷ 0 ∷ 0 ∷ 0 ∷ []) nowhere ∷ shows (0 ∷ 0 ∷ 0 ∷ 0 ∷ []) nowhere ∷ [])

-- ---- refusals

-- "Property (5) and source (6, place 0) are judged after 4 and before the batch's items", and "a batch that would be turned back gets the very number and
-- place": each line mends what the line before was refused for; the first lists are an entry too short
abbrev judged : Lines
judged = (
  asked (odd ∷ []) 6 4 3 4 ∷ asked (odd ∷ []) 6 4 4 3 ∷ asked (odd ∷ []) 6 4 4 4 ∷ asked (odd ∷ []) 1 4 4 4 ∷ asked (odd ∷ []) 1 3 4 4
      ∷ asked (takes 0 1 4 ∷ takes 0 1 4 ∷ []) 1 0 4 4 ∷ asked (retunes 0 1 4 5 ∷ []) 1 0 4 4 ∷ [],
  turned 2 0 3 4 ∷ turned 2 0 4 3 ∷ turned 5 0 4 4 ∷ turned 6 0 4 4 ∷ turned 7 0 4 4 ∷ turned 11 1 4 4 ∷ turned 10 0 4 4 ∷ [],
)

-- ---- digests

-- of five vertices one gained a route and two moved; the one that loses most is the lowest of those. Then a lost route beside a greater move, headroom, of which less is worse,
-- and lists of which nobody loses
abbrev digests : List (Reply Digest × Reply Digest)
digests = (
  digest_call 5 1 (record { effects = 0 ∷ 1 ∷ 3 ∷ 3 ∷ 3 ∷ []; moves = pos 0 ∷ pos 0 ∷ pos 7 ∷ negsuc 8 ∷ pos 7 ∷ [] }),
  accepted (record { gained = 1; lost = 0; better = 1; worse = 2; most = 2 }),
)
    ∷ (
      digest_call 3 1 (record { effects = 3 ∷ 2 ∷ 2 ∷ []; moves = pos 7 ∷ pos 0 ∷ pos 0 ∷ [] }),
      accepted (record { gained = 0; lost = 2; better = 0; worse = 1; most = 1 }),
    )
    ∷ (
      digest_call 3 3 (record { effects = 3 ∷ 3 ∷ 3 ∷ []; moves = pos 7 ∷ negsuc 1 ∷ negsuc 2 ∷ [] }),
      accepted (record { gained = 0; lost = 0; better = 1; worse = 2; most = 2 }),
    )
    ∷ (
      digest_call 2 5 (record { effects = 0 ∷ 1 ∷ 2 ∷ []; moves = pos 0 ∷ pos 0 ∷ pos 0 ∷ [] }),
      accepted (record { gained = 1; lost = 0; better = 0; worse = 0; most = 2 }),
    )
    ∷ []

-- ---- computed

moved_said : Said (moved ∷ [])
unfolding calls
moved_said = refl

routed_said : Said (routed ∷ twinned ∷ still ∷ [])
unfolding calls
routed_said = refl

judged_said : Said (judged ∷ [])
unfolding calls
judged_said = refl

digests_said : Said digests
unfolding calls
digests_said = refl
