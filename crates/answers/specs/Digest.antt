-- A digest of what a batch would do, for the operator, from the two lists of a preview alone: beside document 02, Four. Assumes nothing.
--
--   Digest              == how many vertices gained a route, lost it, got better and got worse, and the one that loses most; n where none loses
--   rises P             == of two values of P the greater is the better
--   improves P d        == a move by d is one for the better
--   worsens P d         == it is one for the worse
--   moves_to P good d   == it is one for the better where good is true, and else for the worse
--   is_loss P e d       == a vertex of effect e and move d loses: it lost its route, or got worse
--   is_more P e d f g   == of two that lose, the one of e and d loses more than that of f and g: its route where the other has one, or more of its value
--   effect_at, move_at  == the entries of a vertex
--   loses, loses_more   == so do vertices by their entries
--   how_many f n        == how many vertices pass the test f
--   most P n out        == the lowest of the vertices that lose most, or n where none loses
--   digest P n out      == the digest of n vertices
--   digest_faults x y   == numbers 1, 2 and 5, where the lists have x and y entries
--   digest_call n p out == the reply
--   LosesMost P n out u == u is that vertex
--   DigestMost          == the claim: none loses more than the vertex that is named, and of those that lose as much it is the lowest; where one lost its
--                           route, so did the one that is named; n is named exactly where none loses
--   MovesJudged          == the claim: a move from one value to another is one for the better, or for the worse, exactly where the other value is better, or
--                           worse, by the property itself
use Rattle.std.specs.Prelude.{◌≡◌, ◌↔◌, Bool, true, false, not, ◌&&◌, ◌||◌, cond, ℕ, ◌≤◌, ◌<◌, length, get_or, ℤ, pos, ◌-ℤ◌, eqb}
use mathlib.Core.List.{List, foldl, map}
use Rattle.std.specs.Int.Signed.{lt_z}
use Rattle.property.specs.Property.{Property, property, is_property}
use Rattle.frontier.specs.Waiting.{count_of}
use Rattle.graph.specs.Refusal.{Verdict, ◌▷◌, refuse_if, Reply, replied}
use Rattle.graph.specs.Edge.{range}
use Rattle.graph.specs.Table.{size}
use Rattle.network.specs.Query.{short_words}
use Rattle.answers.specs.Preview.{Shown}

pub record Digest : Type 0 where
  pub gained : ℕ
  pub lost : ℕ
  pub better : ℕ
  pub worse : ℕ
  pub most : ℕ

-- ---- one vertex

abbrev pub rises : Property → Bool
rises P = P.better 1 0

abbrev pub improves : Property → ℤ → Bool
improves P d = cond (rises P) (lt_z (pos 0) d) (lt_z d (pos 0))

abbrev pub worsens : Property → ℤ → Bool
worsens P d = cond (rises P) (lt_z d (pos 0)) (lt_z (pos 0) d)

abbrev pub moves_to : Property → Bool → ℤ → Bool
moves_to P good d = cond good (improves P d) (worsens P d)

abbrev pub is_loss : Property → ℕ → ℤ → Bool
is_loss P e d = eqb e 2 || (eqb e 3 && worsens P d)

abbrev pub is_more : Property → ℕ → ℤ → ℕ → ℤ → Bool
is_more P e d f g = not (eqb f 2) && (eqb e 2 || cond (rises P) (lt_z d g) (lt_z g d))

abbrev pub effect_at : List ℕ → ℕ → ℕ
effect_at xs t = get_or xs t 0

abbrev pub move_at : List ℤ → ℕ → ℤ
move_at ys t = get_or ys t (pos 0)

module _ (P : Property) (out : Shown) where
  abbrev pub loses : ℕ → Bool
  loses t = is_loss P (effect_at out.effects t) (move_at out.moves t)

  abbrev pub loses_more : ℕ → ℕ → Bool
  loses_more t u = is_more P (effect_at out.effects t) (move_at out.moves t) (effect_at out.effects u) (move_at out.moves u)

-- ---- all vertices

abbrev pub how_many : (ℕ → Bool) → ℕ → ℕ
how_many f n = count_of (map f (range 0 n))

module _ (P : Property) (n : ℕ) (out : Shown) where
  abbrev pub most : ℕ
  most = foldl (λ u t. cond (loses P out t && (eqb u n || loses_more P out t u)) t u) n (range 0 n)

  abbrev pub digest : Digest
  digest = record {
    gained = how_many (λ t. eqb (effect_at out.effects t) 1) n;
    lost = how_many (λ t. eqb (effect_at out.effects t) 2) n;
    better = how_many (λ t. eqb (effect_at out.effects t) 3 && moves_to P true (move_at out.moves t)) n;
    worse = how_many (λ t. eqb (effect_at out.effects t) 3 && moves_to P false (move_at out.moves t)) n;
    most = most;
  }

unfoldable pub digest_faults : ℕ → ℕ → ℕ → ℕ → Verdict
digest_faults n p x y = size n ▷ short_words n x y ▷ refuse_if (not (is_property p)) 5 0

unfoldable pub digest_call : ℕ → ℕ → Shown → Reply Digest
digest_call n p out = replied (digest_faults n p (length out.effects) (length out.moves)) (digest (property p) n out)

-- ---- the claim

pub record LosesMost (P : Property) (n : ℕ) (out : Shown) (u : ℕ) : Type 0 where
  pub within : u ≤ n
  pub named : u < n → loses P out u ≡ true
  pub route_first : (t : ℕ) → t < n → effect_at out.effects t ≡ 2 → effect_at out.effects u ≡ 2
  pub unrivalled : u < n → (t : ℕ) → t < n → loses P out t ≡ true → loses_more P out t u ≡ false
  pub lowest : u < n → (t : ℕ) → t < u → loses P out t ≡ true → loses_more P out u t ≡ true
  pub none : (u ≡ n) ↔ ((t : ℕ) → t < n → loses P out t ≡ false)

abbrev pub DigestMost : Type 0
DigestMost = (P : Property) (n : ℕ) (out : Shown) → LosesMost P n out (most P n out)

-- "better" and "worse" of a move are those of the values
abbrev pub MovesJudged : Type 0
MovesJudged = (p a b : ℕ) → (improves (property p) (pos b -ℤ pos a) ≡ (property p).better b a) × (worsens (property p) (pos b -ℤ pos a) ≡ (property p).better a b)
