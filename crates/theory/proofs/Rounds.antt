-- Rounds without a bound, and at most k of them. Assumes nothing.
use Rattle.property.proofs.Basics.{◌≡◌, false, List, ℕ, zero, suc}
use Rattle.property.specs.Property.{Property}
use Rattle.property.proofs.Tests.{by_test}
use Rattle.frontier.specs.Waiting.{any_of}
use Rattle.graph.specs.Edge.{Edge}
use Rattle.run.specs.Run.{State, round, settle}
use Rattle.run.specs.Rounds.{Rounds, rests, goes}
use Rattle.theory.proofs.Settle.{settle_idle, settle_more}

module _ (P : Property) (es : List Edge) (n : ℕ) where
  -- where nothing waits after k rounds, these are all
  pub settle_all : (k : ℕ) (st : State) → any_of (settle P es n k st).waiting ≡ false → Rounds P es n st (settle P es n k st)
  unfolding settle
  settle_all zero st h = rests h
  settle_all (suc k) st h = by_test (any_of st.waiting)
      (λ q. let e = settle_more P es n k st q in rw e (goes q (settle_all k (round P es n st) (rw e at h))))
      (λ q. rw (settle_idle P es n (suc k) st q) (rests q))
