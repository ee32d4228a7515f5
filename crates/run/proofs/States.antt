-- The waiting bits of n vertices, in words of 64 bits, and what a store and a cleared bit make of a state. Assumes nothing.
use Rattle.property.proofs.Basics.{◌≡◌, sym, ap, ◌∙◌, Bool, true, false, true≢false, List, foldl, ℕ, ◌+◌, ◌≤◌, ◌<◌, ltb, ltb-true, ltb-false, add-one, arith, length, get_or, set, take, replicate, length-set, length-take, length-replicate, get_or-eq_default, take-set-lt, get_or-take, get_or-set_other, ⊎_elim}
use Rattle.property.proofs.Tests.{by_test}
use Rattle.property.specs.Property.{Property, M}
use Rattle.property.specs.Laws.{Laws}
use Rattle.frontier.specs.Waiting.{waiting_of, capacity, any_of}
use Rattle.frontier.proofs.Laws.{any_none, none_any, any_some, some_any}
use Rattle.graph.specs.Edge.{Edge, leaving}
use Rattle.graph.proofs.Lists.{at_set, get_or_within, take_replicate, replicate_at}
use Rattle.run.specs.declared.Tally.{Tally}
use Rattle.run.specs.Run as run
use Rattle.run.specs.Run.{State, word, relaxable, store_if, relax, clear, handle}
use Rattle.run.specs.Code.{bits, Marks, Sized, Ran, state}

-- ---- bits

-- a bit is put
module _ (n i : ℕ) (bs cs : List ℕ) (b : Bool) (h : i < n) (e : waiting_of cs ≡ set (waiting_of bs) i b) where
  pub bits_set : bits n cs ≡ set (bits n bs) i b
  bits_set = ap (take n) e ∙ take-set-lt n (waiting_of bs) i b h

  pub marks_set : Marks n bs → Marks n cs
  marks_set f = record {
    few = f.few;
    bits = ap length e ∙ length-set (waiting_of bs) i b ∙ f.bits;
    idle = λ k l. ap (λ m. get_or m k false) e ∙ get_or-set_other (waiting_of bs) i k b false (λ q. omega arith) ∙ f.idle k l;
  }

-- every bit is cleared
module _ (n : ℕ) (bs : List ℕ) (few : n ≤ capacity) (e : waiting_of bs ≡ replicate capacity false) where
  pub bits_clear : bits n bs ≡ replicate n false
  bits_clear = ap (take n) e ∙ take_replicate n capacity false few

  pub marks_clear : Marks n bs
  marks_clear = record {
    few = few;
    bits = ap length e ∙ length-replicate capacity false;
    idle = λ k l. ap (λ m. get_or m k false) e ∙ replicate_at capacity k false;
  }

-- a vertex waits by its bit
pub bits_at : (n : ℕ) (bs : List ℕ) (i : ℕ) → i < n → get_or (bits n bs) i false ≡ get_or (waiting_of bs) i false
bits_at n bs i h = get_or-take n (waiting_of bs) i false h

-- who waits is one of the n
pub marks_within : (n : ℕ) (bs : List ℕ) (i : ℕ) → Marks n bs → get_or (waiting_of bs) i false ≡ true → i < n
marks_within n bs i f e = by_test (ltb i n) (λ q. ltb-true i n q) (λ q. absurd (true≢false (sym e ∙ f.idle i (ltb-false i n q))))

-- past the n vertices no bit is set, so that any of the n waits where any bit is set
pub bits_any : (n : ℕ) (bs : List ℕ) → Marks n bs → any_of (bits n bs) ≡ any_of (waiting_of bs)
bits_any n bs f = by_test (any_of (waiting_of bs))
    (λ e.
    let (v, l, w) = any_some (waiting_of bs) e in
    some_any (bits n bs) v (bits_at n bs v (marks_within n bs v f w) ∙ w) ∙ sym e)
    (λ e. none_any (bits n bs) (none (any_none (waiting_of bs) e)) ∙ sym e)
  where
    none : ((k : ℕ) → get_or (waiting_of bs) k false ≡ false) → (k : ℕ) → get_or (bits n bs) k false ≡ false
    none g k = by_test (ltb k n) (λ q. bits_at n bs k (ltb-true k n q) ∙ g k)
        (λ q. let l = ltb-false k n q in get_or-eq_default (bits n bs) false (omega (arith, length-take n (waiting_of bs))))

-- ---- what a run leaves, one step after the other

pub ran_none : {n : ℕ} {ws bs : List ℕ} → Sized n ws bs → (t : Tally) (a b c : ℕ) → Ran n ws bs t t a b c
ran_none s t a b c = record { sized = s; taken = omega arith; rounds = omega arith; stores = omega arith }

pub ran_then : {n : ℕ} {ws vs bs cs : List ℕ} {t r q : Tally} {a b c a' b' c' A B C : ℕ} → Ran n ws bs t r a b c → Ran n vs cs r q a' b' c'
    → a + a' ≤ A → b + b' ≤ B → c + c' ≤ C → Ran n vs cs t q A B C
ran_then f g x y z = record { sized = g.sized; taken = omega arith; rounds = omega arith; stores = omega arith }

pub ran_within : {n : ℕ} {ws bs : List ℕ} {t r : Tally} {a b c A B C : ℕ} → Ran n ws bs t r a b c → a ≤ A → b ≤ B → c ≤ C → Ran n ws bs t r A B C
ran_within f x y z = record { sized = f.sized; taken = omega arith; rounds = omega arith; stores = omega arith }

-- ---- an edge is gone along: the value a reaches its head h

-- one store more, as the code counts it
abbrev storing : Tally → Tally
storing t = record { taken = t.taken; rounds = t.rounds; stores = t.stores + 1 }

pub ran_store : (n h a : ℕ) (ws bs cs : List ℕ) (t : Tally) → Sized n ws bs → h < n → waiting_of cs ≡ set (waiting_of bs) h true
    → Ran n (set ws h a) cs t (storing t) 0 0 1
ran_store n h a ws bs cs t s l e = record {
  sized = record { words = length-set ws h a ∙ s.words; waiting = marks_set n h bs cs true l e s.waiting };
  taken = omega arith;
  rounds = omega arith;
  stores = omega arith;
}

module _ (P : Property) (n h a : ℕ) (ws bs : List ℕ) (t : Tally) (e : Edge)
    (fits : h < length ws) (head : e.head ≡ h) (value : P.along (word P ws e.tail) e.weight ≡ a) where
  relaxable_by : relaxable P ws e ≡ P.better a (get_or ws h 0)
  relaxable_by =
      ap (λ (v : ℕ). P.better v (word P ws e.head)) value
      ∙ ap (λ (k : ℕ). P.better a (word P ws k)) head
      ∙ ap (P.better a) (get_or_within ws h P.none 0 fits)

  pub relax_stores : (cs : List ℕ) → h < n → P.better a (get_or ws h 0) ≡ true → waiting_of cs ≡ set (waiting_of bs) h true
      → state n (set ws h a) cs (storing t) ≡ relax P (state n ws bs t) e
  unfolding relax store_if
  relax_stores cs l b w = rw (relaxable_by ∙ b, value, head, bits_set n h bs cs true l w, add-one)

  pub relax_keeps : P.better a (get_or ws h 0) ≡ false → state n ws bs t ≡ relax P (state n ws bs t) e
  unfolding relax store_if
  relax_keeps b = rw (relaxable_by ∙ b)

-- going along an edge never betters its own tail's word
pub relax_tail : (P : Property) → Laws P → (st : State) (e : Edge) → word P st.words e.tail ≤ M → e.head < length st.words
    → word P (relax P st e).words e.tail ≡ word P st.words e.tail
unfolding relax store_if
relax_tail P L st e m h = by_test (relaxable P st.words e)
    (λ r. rw r
    (⊎_elim
    (λ q. absurd (true≢false (sym r ∙ ap (λ (k : ℕ). P.better (P.along (word P st.words e.tail) e.weight) (word P st.words k)) (sym q.0) ∙ L.along_no_better _ e.weight m)))
    (λ q. q.1)
    (at_set st.words e.head _ e.tail P.none h)))
    (λ r. rw r)

-- so the tail keeps its word, as the code holds it
pub keeps_tail : (P : Property) → Laws P → (n : ℕ) (ws bs : List ℕ) (t : Tally) {st : State} (e : Edge) → st ≡ relax P (state n ws bs t) e
    → e.tail < n → e.head < n → length ws ≡ n → length st.words ≡ n → get_or ws e.tail 0 ≤ M → get_or st.words e.tail 0 ≡ get_or ws e.tail 0
keeps_tail P L n ws bs t {st} e q i h a b m =
    let w = get_or_within ws e.tail P.none 0 (omega arith) in
    sym (get_or_within st.words e.tail P.none 0 (omega arith))
    ∙ ap (λ (x : State). word P x.words e.tail) q
    ∙ relax_tail P L (state n ws bs t) e (omega arith) (omega arith)
    ∙ w

-- ---- a vertex is handled

pub clear_bit : (n u : ℕ) (ws bs cs : List ℕ) (t : Tally) → u < n → waiting_of cs ≡ set (waiting_of bs) u false → state n ws cs t ≡ clear (state n ws bs t) u
unfolding clear
clear_bit n u ws bs cs t h e = rw (bits_set n u bs cs false h e)

-- own are the edges of u, and cl is the state in which its bit is cleared
pub handle_own : (P : Property) (es own : List Edge) (st cl : State) (u : ℕ) → cl ≡ clear st u → own ≡ leaving u es → foldl (relax P) cl own ≡ handle P es st u
unfolding handle
handle_own P es own st cl u p q = rw (p, q)

-- ---- an entry of the schedule

-- one more taken, as the code counts it
abbrev taking : Tally → Tally
taking t = record { taken = t.taken + 1; rounds = t.rounds; stores = t.stores }

module _ (P : Property) (es : List Edge) (n u : ℕ) (ws bs : List ℕ) (t : Tally) (h : u < n) where
  pub take_waiting : (st : State) → get_or (waiting_of bs) u false ≡ true → st ≡ handle P es (state n ws bs (taking t)) u
      → st ≡ run.take_entry P es (state n ws bs t) u
  unfolding run.take_entry run.take_entry_if
  take_waiting st w e = rw (bits_at n bs u h ∙ w) (rw add-one at e)

  pub take_idle : get_or (waiting_of bs) u false ≡ false → state n ws bs t ≡ run.take_entry P es (state n ws bs t) u
  unfolding run.take_entry run.take_entry_if
  take_idle w = rw (bits_at n bs u h ∙ w)

pub ran_taken : {n : ℕ} {ws bs : List ℕ} {r : Tally} {b c : ℕ} (t : Tally) → Ran n ws bs (taking t) r 0 b c → Ran n ws bs t r 1 b c
ran_taken t f = record { sized = f.sized; taken = omega arith; rounds = omega arith; stores = omega arith }
