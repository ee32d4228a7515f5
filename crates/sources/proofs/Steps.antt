-- The state of the reader of source files after a line and at the end. Assumes nothing.
use Rattle.property.proofs.Basics.{◌≡◌, refl, ◌&&◌, cond, List, [], ◌∷◌, ◌++◌, Option, none, some, bind, ℕ, ◌+◌, ◌≤◌, ◌<◌, add-one, arith, length, set, take, length-take-le, take-suc-set, ltb, eqb, lt-ltb}
use Rattle.graph.specs.Limits.{max_vertices}
use Rattle.dimacs.specs.Read.{good, bad, ended}
use Rattle.dimacs.specs.Sources as src
use Rattle.dimacs.proofs.Caps.{header_capped, source_capped}
use Rattle.sources.specs.declared.State.{State}
use Rattle.sources.specs.declared.State.TheVariants.{Within}
use Rattle.sources.specs.Capped.{cap_source, cap_sources}
use Rattle.sources.specs.Code.{Held, state_of}

-- ---- capped numbers: all limits lie below the cap

act_capped : (n : ℕ) (st : src.State) (x : src.Item) → n ≤ max_vertices → src.act n st (cap_source x) ≡ src.act n st x
unfolding cap_source src.act
act_capped n src.start (src.header k) l = header_capped 65536 (omega arith) n k
act_capped n (src.within j ss) (src.header k) l = refl
act_capped n src.start (src.source v) l = refl
act_capped n (src.within k ss) (src.source v) l = source_capped 65536 n (omega arith) k ss v

pub said_capped : (n : ℕ) (st : src.State) (o : Option src.Item) → n ≤ max_vertices → bind (cap_sources o) (src.act n st) ≡ bind o (src.act n st)
unfolding bind cap_sources
said_capped n st none l = refl
said_capped n st (some x) l = act_capped n st x l

pub held_inside : (s : State) {xs : List ℕ} {k j : ℕ} → Held s xs → s ≡ Within k j → (k ≤ src.max_sources) × (j ≤ k)
held_inside s h q = (rw q at h).inside

-- ---- after the p line

module _ {xs : List ℕ} {s : State} {k j : ℕ} (q : s ≡ Within k j) (held : Held s xs) where
  fits : j ≤ length xs
  fits = omega (arith, held_inside s held q, held.room)

  long : length (take j xs) ≡ j
  long = length-take-le j xs fits

  pub act_source : (n v : ℕ) → src.act n (state_of xs s) (src.source v) ≡ cond (ltb j k && ltb v n) (some (src.within k (take j xs ++ (v ∷ [])))) none
  unfolding state_of src.act
  act_source n v = rw (q, long)

  pub end_within : (n i : ℕ) → ended src.item_in (src.act n) src.complete [] i (state_of xs s) ≡ cond (eqb j k) (good (src.within k (take j xs))) (bad (i + 1))
  unfolding state_of ended src.complete
  end_within n i = rw (q, long, add-one)

  pub source_next : (n v : ℕ) → j < k → v < n → some (state_of (set xs j v) (Within k (j + 1))) ≡ src.act n (state_of xs s) (src.source v)
  unfolding state_of src.act
  source_next n v l m =
      let w : j < length xs = omega (arith, held_inside s held q, held.room) in
      rw (q, long, lt-ltb j k l, lt-ltb v n m, add-one, take-suc-set xs j v w)
