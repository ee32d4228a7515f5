-- The values that a run from one vertex finds; and how few edges a best route needs. Assumes nothing.
--
--   Level j == some vertex below n has the word j
--   under j == which of the n vertices have a word below j, as a list
use Rattle.property.proofs.Basics.{◌≡◌, refl, sym, ◌∙◌, ⊎_elim, Bool, true, false, true≢false, false≢true, List, [], ◌∷◌, map, ℕ, zero, suc, ◌≤◌, ◌<◌, dec_lt, arith, get_or, set, length, get_or-eq_default, ltb, eqb-true, ltb-true, lt-ltb, le-ltb}
use Rattle.property.specs.Property.{Property, plus, bfs}
use Rattle.property.specs.Laws.{Laws}
use Rattle.property.proofs.Instances.{bfs_laws}
use Rattle.frontier.specs.Waiting.{count_of}
use Rattle.frontier.proofs.Counts.{count_le}
use Rattle.frontier.proofs.Laws.{count_insert}
use Rattle.graph.specs.Edge.{Edge, keep, range}
use Rattle.graph.specs.Route.{Best}
use Rattle.graph.proofs.Lists.{at_set, length_table, table_at}
use Rattle.graph.proofs.Edges.{keep_in}
use Rattle.graph.proofs.Order.{Within}
use Rattle.run.specs.Run.{word, tight}
use Rattle.run.specs.Start.{opened, values_from}
use Rattle.theory.proofs.Walk.{Walk, stay, go}
use Rattle.theory.proofs.Value.{opened_best}
use Rattle.theory.proofs.Tight.{tight_walk, source_word}
use Rattle.theory.proofs.Chains.{settle_rests}
use Rattle.theory.proofs.Fits.{opened_words}

-- ---- the values from one vertex are best

-- from any words nothing waits after n rounds, and where nothing waits the words of an opened row are best values
pub values_best : {P : Property} (L : Laws P) (es : List Edge) (s n : ℕ) → Within n es → s < n → (t : ℕ) → Best P es s t (word P (values_from P es n s) t)
values_best {P} L es s n inside h t = opened_best L es s n inside h n (settle_rests L es n inside (opened P n s) (opened_words L n s)) t

-- ---- few edges

count_mono : (a b : List Bool) → ((k : ℕ) → get_or a k false ≡ true → get_or b k false ≡ true) → count_of a ≤ count_of b
unfolding count_of
count_mono [] b h = omega arith
count_mono (true ∷ a) [] h = absurd (false≢true (h 0 refl))
count_mono (true ∷ a) (false ∷ b) h = absurd (false≢true (h 0 refl))
count_mono (true ∷ a) (true ∷ b) h = let z = count_mono a b (λ k. h (suc k)) in omega arith
count_mono (false ∷ a) [] h = count_mono a [] (λ k. h (suc k))
count_mono (false ∷ a) (false ∷ b) h = count_mono a b (λ k. h (suc k))
count_mono (false ∷ a) (true ∷ b) h = let z = count_mono a b (λ k. h (suc k)) in omega arith

pub count_less : (a b : List Bool) (y : ℕ) → y < length a → ((k : ℕ) → get_or a k false ≡ true → get_or b k false ≡ true)
    → get_or a y false ≡ false → get_or b y false ≡ true → count_of a < count_of b
count_less a b y l h p q =
    let z = count_mono (set a y true) b (λ k e. ⊎_elim (λ c. rw c.0 q) (λ c. h k (sym c.1 ∙ e)) (at_set a y true k false l)) in
    omega (arith, count_insert a y l p)

module _ (es : List Edge) (s n : ℕ) (inside : Within n es) (h : s < n) (ws : List ℕ) (best : (t : ℕ) → Best bfs es s t (word bfs ws t)) where
  abbrev Level : ℕ → Type 0
  Level j = (u : ℕ) × (u < n) × (word bfs ws u ≡ j)

  -- along a tight walk a word rises from 0 by at most 1
  level : {t : ℕ} → Walk (keep (tight bfs ws) es) s t → (j : ℕ) → j ≤ word bfs ws t → Level j
  level stay j l = (s, h, (let z = source_word bfs_laws es s n inside ws best in omega arith))
  level (go {e = e} w m) j l = elim (dec_lt (word bfs ws e.tail) j) [
    | no d ↦ level w j (omega arith)
    | yes k ↦
        let (mo, t) = keep_in (tight bfs ws) es e m in
        let z : plus (word bfs ws e.tail) 1 ≡ word bfs ws e.head = eqb-true _ _ t in
        (e.head, inside.heads e mo, omega arith)
  ]

  abbrev is_under : ℕ → ℕ → Bool
  is_under j u = ltb (word bfs ws u) j

  under : ℕ → List Bool
  under j = map (is_under j) (range 0 n)

  under_length : (j : ℕ) → length (under j) ≡ n
  unfolding under
  under_length j = length_table (is_under j) 0 n

  under_at : (j u : ℕ) → u < n → get_or (under j) u false ≡ is_under j u
  unfolding under
  under_at j u k = table_at (is_under j) n u false k

  under_grows : (j u : ℕ) → get_or (under j) u false ≡ true → get_or (under (suc j)) u false ≡ true
  under_grows j u q = elim (dec_lt u n) [
    | yes k ↦ let z : word bfs ws u < j = ltb-true _ _ (sym (under_at j u k) ∙ q) in under_at (suc j) u k ∙ lt-ltb (word bfs ws u) (suc j) (omega arith)
    | no d ↦ absurd (true≢false (sym q ∙ get_or-eq_default (under j) false (let z = under_length j in omega arith)))
  ]

  -- each level has a vertex of its own, so as many vertices lie below the level j
  under_many : {t : ℕ} → Walk (keep (tight bfs ws) es) s t → (j : ℕ) → j ≤ suc (word bfs ws t) → j ≤ count_of (under j)
  under_many w zero l = omega arith
  under_many w (suc j) l =
      let (u, k, z) = level w j (omega arith) in
      let c = count_less (under j) (under (suc j)) u (omega (arith, under_length j)) (under_grows j)
      (under_at j u k ∙ le-ltb (word bfs ws u) j (omega arith)) (under_at (suc j) u k ∙ lt-ltb (word bfs ws u) (suc j) (omega arith)) in
      let i = under_many w j (omega arith) in
      omega arith

  -- Where there is a walk, fewer than n edges are enough. Tight edges reach its end, and along them the number of edges rises from 0 by
  -- at most 1. So each number up to that of the end is the number of some vertex, and there are n vertices.
  pub hops_few : {t : ℕ} → Walk es s t → word bfs ws t < n
  hops_few {t} w =
      let k = under_many (tight_walk bfs_laws es s n inside ws best w) (suc (word bfs ws t)) (omega arith) in
      omega (arith, count_le (under (suc (word bfs ws t))), under_length (suc (word bfs ws t)))
