-- The limits of document 01, "Network" and "Turned back", each named once. Assumes nothing.
--
--   max_vertices  == 256 vertices ("stations")
--   max_edges     == 2,048 edges ("records"); the lent table lists have at least as many words
--   max_weight    == 65,535, the greatest weight ("figure"); the least is 1
--   max_landmarks == 4 landmarks ("posts")
--   max_batch     == 1,024 changes in a batch
--   max_schedule  == 4,096 vertices in a schedule ("pick list")
use Rattle.std.specs.Prelude.{ℕ}

abbrev pub max_vertices : ℕ
max_vertices = 256

abbrev pub max_edges : ℕ
max_edges = 2048

abbrev pub max_weight : ℕ
max_weight = 65535

abbrev pub max_landmarks : ℕ
max_landmarks = 4

abbrev pub max_batch : ℕ
max_batch = 1024

abbrev pub max_schedule : ℕ
max_schedule = 4096
