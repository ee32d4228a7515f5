-- Where runs start, words are words of 32 bits: an opened row, and a query, whatever the rows tell it. Assumes nothing.
--
--   Told P l   == the words that a landmark's rows tell are at most M
use Rattle.property.proofs.Basics.{◌≡◌, refl, ◌∙◌, ⊎_elim, Bool, true, false, cond, List, [], ◌∷◌, Memᴰ, Memᴰ-head, Memᴰ-tail, ℕ, ◌≤◌, ◌<◌, dec_lt, arith, get_or, set, length, replicate, length-set, length-replicate, set_out, eqb}
use Rattle.property.specs.Property.{M, Property}
use Rattle.property.specs.Laws.{Laws, Joins}
use Rattle.graph.proofs.Lists.{at_set, get_or_within, replicate_at, length_table, table_at}
use Rattle.run.specs.Run.{word}
use Rattle.theory.specs.Rest.{FitWords}
use Rattle.run.specs.Start.{Landmark, bound, opened, asked}
use Rattle.theory.proofs.Query.{by}

pub cond_fits : (b : Bool) (x y : ℕ) → x ≤ M → y ≤ M → cond b x y ≤ M
cond_fits true x y h k = h
cond_fits false x y h k = k

-- who waits at the start of a run: one vertex
alone_length : (n s : ℕ) → length (set (replicate n false) s true) ≡ n
alone_length n s = length-set (replicate n false) s true ∙ length-replicate n false

pub opened_words : {P : Property} (L : Laws P) (n s : ℕ) → FitWords n (opened P n s)
unfolding opened
opened_words {P = P} L n s = record {
  words = length-set (replicate n P.none) s P.start ∙ length-replicate n P.none;
  waiting = alone_length n s;
  fits = λ t h. elim (dec_lt s n) [
    | yes k ↦
        let b : s < length (replicate n P.none) = rw length-replicate k in
        ⊎_elim (λ c. rw c.1 L.start_fits) (λ c. rw c.1 (nones t h)) (at_set (replicate n P.none) s P.start t 0 b)
    | no d ↦ rw (set_out (replicate n P.none) s P.start (rw length-replicate (omega arith))) (nones t h)
  ];
}
  where
    nones : (t : ℕ) → t < n → get_or (replicate n P.none) t 0 ≤ M
    nones t h =
        let b : t < length (replicate n P.none) = rw length-replicate h in
        rw (get_or_within (replicate n P.none) t 0 P.none b, replicate_at n t P.none) L.none_fits

pub record Told (P : Property) (l : Landmark) : Type 0 where
  pub into : l.into ≤ M
  pub row : (t : ℕ) → word P l.row t ≤ M

module _ {P : Property} (L : Laws P) (J : Joins P) where
  -- a bound joins two of the rows' words, or is none
  bound_fits : (ls : List Landmark) → ((l : Landmark) → Memᴰ l ls → Told P l) → (t : ℕ) → bound P ls t ≤ M
  unfolding bound
  bound_fits [] h t = L.none_fits
  bound_fits (l ∷ ls) h t =
      let d = h l (Memᴰ-head refl) in
      cond_fits (P.better (by P l t) (bound P ls t)) _ _ (J.join_fits _ _ d.into (d.row t)) (bound_fits ls (λ x m. h x (Memᴰ-tail m)) t)

  pub asked_words : (ls : List Landmark) → ((l : Landmark) → Memᴰ l ls → Told P l) → (n s : ℕ) → FitWords n (asked P ls n s)
  unfolding asked
  asked_words ls h n s = record {
    words = length_table _ 0 n;
    waiting = alone_length n s;
    fits = λ t k. rw (table_at (λ u. cond (eqb u s) P.start (bound P ls u)) n t 0 k) (cond_fits (eqb t s) _ _ L.start_fits (bound_fits ls h t));
  }
