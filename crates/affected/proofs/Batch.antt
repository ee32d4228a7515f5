-- Batches: from best words of the old edges, the prepared row keeps the invariant of runs on the new edges, so its words are best once
-- nothing waits; and a vertex that is not affected has no worse a word than before. Assumes nothing.
use Rattle.property.proofs.Basics.{◌≡◌, refl, sym, ◌∙◌, inl, inr, ◌≢◌, Bool, true, false, ◌&&◌, ◌||◌, cond, true≢false, List, Memᴰ, ℕ, ◌≤◌, ◌<◌, dec_lt, arith, get_or-eq_default, eqb, eq-eqb}
use Rattle.property.specs.Property.{Property}
use Rattle.property.specs.Laws.{Laws}
use Rattle.frontier.specs.Waiting.{any_of}
use Rattle.graph.specs.Edge.{Edge, exists}
use Rattle.graph.specs.Route.{Best}
use Rattle.graph.proofs.Tests.{and_true}
use Rattle.graph.proofs.Lists.{length_table, table_at}
use Rattle.graph.proofs.Edges.{true_exists}
use Rattle.graph.proofs.Order.{Within}
use Rattle.run.specs.Run.{State, word, waits, relaxable, settle, tight}
use Rattle.affected.specs.Affected.{Affected, marked, affected}
use Rattle.affected.specs.Net.{added}
use Rattle.affected.specs.Prepared.{cleared, reopened, prepared}
use Rattle.affected.proofs.Net.{removed_stands, added_stands}
use Rattle.affected.proofs.Hunt.{unaffected_unmarked, landmark_safe, affected_closed}
use Rattle.theory.proofs.Settle.{Backed, Sound, Inv, settle_good, settle_rises}
use Rattle.theory.proofs.Value.{none_quiet, settled_best, best_settled}
use Rattle.theory.proofs.Tight.{Stands, source_word, settled_stands, still_sound}

-- es are the edges before the batch and fs those after it, s is the landmark of the row and ws its words
module _ {P : Property} (L : Laws P) (es fs : List Edge) (s n : ℕ) (old : Within n es) (new : Within n fs) (source : s < n)
    (ws : List ℕ) (best : (t : ℕ) → Best P es s t (word P ws t)) where
  open P use {start, none, better}

  abbrev ready : State
  ready = prepared P es fs s ws n

  -- t is marked as affected
  abbrev out : ℕ → Bool
  out t = marked (affected P es fs s ws n) t

  -- ---- the prepared words

  prepared_at : (t : ℕ) → t < n → word P ready.words t ≡ cond (out t) none (word P ws t)
  unfolding prepared cleared
  prepared_at t h = table_at (λ k. cond (out k) none (word P ws k)) n t none h

  prepared_out : (t : ℕ) → t < n → out t ≡ true → word P ready.words t ≡ none
  prepared_out t h q = prepared_at t h ∙ rw q

  prepared_other : (t : ℕ) → t < n → out t ≡ false → word P ready.words t ≡ word P ws t
  prepared_other t h q = prepared_at t h ∙ rw q

  prepared_beyond : (t : ℕ) → n ≤ t → word P ready.words t ≡ none
  unfolding prepared cleared
  prepared_beyond t h = get_or-eq_default ready.words none (rw (length_table (λ k. cond (out k) none (word P ws k)) 0 n) h)

  -- an affected vertex has none, and any other a word that stays backed, since the affected are closed
  prepared_sound : Sound P fs s ready.words
  prepared_sound t = pick (dec_lt t n) (out t) refl
    where
      closed : (e : Edge) → Memᴰ e es → tight P ws e ≡ true → e.head ≢ s → word P ws e.head ≢ none → out e.head ≡ false
          → Stands P fs e × (out e.tail ≡ false)
      closed e m t d w q = let z = affected_closed P es fs s ws n old e m t d w q in (removed_stands L es fs e z.0, z.1)

      pick : Dec (t < n) → (b : Bool) → out t ≡ b → Backed P fs s t (word P ready.words t)
      pick (no d) b q = inr (prepared_beyond t (omega arith))
      pick (yes h) true q = inr (prepared_out t h q)
      pick (yes h) false q = rw (prepared_other t h q) (still_sound L es s n old ws best fs out closed t q)

  -- ---- who waits

  prepared_waits : (e : Edge) → Memᴰ e fs → (out e.head || added P es fs e) ≡ true → waits ready e.tail ≡ true
  unfolding prepared reopened
  prepared_waits e m h = table_at (λ t. exists (λ x. eqb x.tail t && (out x.head || added P es fs x)) fs) n e.tail false (new.tails e m)
      ∙ true_exists (λ x. eqb x.tail e.tail && (out x.head || added P es fs x)) m (and_true (eq-eqb e.tail e.tail refl) h)

  -- A new edge that could better its head has a waiting tail. If its head is affected or the edge is added, its tail was set waiting.
  -- Otherwise one no worse was there before, and its head has the word that it had: if its tail has too, best words were settled; if its
  -- tail is affected, it has none, which leads on to none.
  prepared_pending : (e : Edge) → Memᴰ e fs → relaxable P ready.words e ≡ true → waits ready e.tail ≡ true
  prepared_pending e m c = pick (out e.head) refl (added P es fs e) refl (out e.tail) refl
    where
      pick : (a : Bool) → out e.head ≡ a → (b : Bool) → added P es fs e ≡ b → (t : Bool) → out e.tail ≡ t → waits ready e.tail ≡ true
      pick true p b q t r = prepared_waits e m (rw p)
      pick false p true q t r = prepared_waits e m (rw (p, q))
      pick false p false q true r = absurd (true≢false (sym c ∙ none_quiet L fs s n new ready.words prepared_sound e m (prepared_out _ (new.tails e m) r)))
      pick false p false q false r = absurd (true≢false (sym c
          ∙ rw (relaxable, prepared_other _ (new.tails e m) r, prepared_other _ (new.heads e m) p) (settled_stands L es ws (best_settled L es s n old ws best) e (added_stands L es fs e q))))

  -- ---- the rounds

  pub prepared_good : Inv P fs s n ready
  unfolding prepared cleared reopened
  prepared_good = record {
    words_n = length_table _ 0 n;
    waiting_n = length_table _ 0 n;
    source = rw (prepared_other s source (landmark_safe P es fs s ws n), source_word L es s n old ws best) (L.irreflexive start);
    sound = prepared_sound;
    pending = λ e m c. inl (prepared_pending e m c);
  }

  -- Demand 3 for one batch: best words of the old edges give best words of the new ones, once nothing waits.
  pub batch_best : (k : ℕ) → any_of (settle P fs n k ready).waiting ≡ false → (t : ℕ) → Best P fs s t (word P (settle P fs n k ready).words t)
  batch_best k q t = settled_best L fs s n new (settle P fs n k ready) (settle_good L fs s n new k ready prepared_good) q t

  -- A vertex that is not affected has afterwards the same word or a better one: it starts with its word, and rounds only better words.
  pub unaffected : (k t : ℕ) → t < n → (Affected P es fs s ws t → ⊥) → better (word P ws t) (word P (settle P fs n k ready).words t) ≡ false
  unaffected k t h d = rw (prepared_other t h (unaffected_unmarked P es fs s ws n t d)) at (settle_rises L fs n k ready t)
