-- The turns of a search: it goes on, or stops. Assumes nothing.
use Rattle.property.proofs.Basics.{◌≡◌, refl, Bool, true, false, ◌&&◌, List, ℕ, suc, length, get_or, ltb}
use Rattle.graph.specs.Edge.{Edge}
use Rattle.search.specs.Search.{Search, is_unfound, expand, search}

module _ (f : Edge → Bool) (es : List Edge) (t : ℕ) where
  pub search_none : (i : ℕ) (st : Search) → search f es t 0 i st ≡ st
  unfolding search
  search_none i st = refl

  pub search_more : (k i : ℕ) (st : Search) → (ltb i (length st.queue) && is_unfound st t) ≡ true
      → search f es t (suc k) i st ≡ search f es t k (suc i) (expand f es st (get_or st.queue i 0))
  unfolding search
  search_more k i st q = rw (q, search)

  pub search_stops : (k i : ℕ) (st : Search) → (ltb i (length st.queue) && is_unfound st t) ≡ false → search f es t (suc k) i st ≡ st
  unfolding search
  search_stops k i st q = rw (q, search)
