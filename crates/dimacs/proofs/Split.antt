-- Splitting a text into lines, and joining them: each undoes the other. Assumes nothing.
use Rattle.property.proofs.Basics.{◌≡◌, refl, sym, ap, ◌∙◌, Bool, true, false, not, List, [], ◌∷◌, ◌++◌, append_assoc, append-nil, ℕ, zero, suc, ◌+◌, ◌-◌, ◌≤◌, arith, eqb, take, drop, take-add, eqb-true, not-true}
use Rattle.graph.proofs.Tests.{both}
use Rattle.dimacs.specs.Lines.{joined, before, split, plain}

pub joined_append : (xs ys : List (List ℕ)) → joined (xs ++ ys) ≡ joined xs ++ joined ys
unfolding joined
joined_append [] ys = refl
joined_append (l ∷ xs) ys = rw (joined_append xs ys, append_assoc)

pub split_line : (l s : List ℕ) → plain l ≡ true → split (l ++ (10 ∷ s)) ≡ record { lines = l ∷ (split s).lines; rest = (split s).rest }
unfolding split before plain
split_line [] s h = refl
split_line (b ∷ l) s h = let (p, q) = both (not (eqb b 10)) (plain l) h in rw (not-true (eqb b 10) p, split_line l s q)

abbrev pub Plains : List (List ℕ) → Type 0
Plains [] = Unit {0}
Plains (l ∷ ls) = (plain l ≡ true) × Plains ls

pub split_joined : (ls : List (List ℕ)) (s : List ℕ) → Plains ls → split (joined ls ++ s) ≡ record { lines = ls ++ (split s).lines; rest = (split s).rest }
unfolding joined
split_joined [] s h = refl
split_joined (l ∷ ls) s h = rw (append_assoc l (10 ∷ joined ls) s, split_line l (joined ls ++ s) h.0, split_joined ls s h.1)

before_whole : (t : Bool) (b : ℕ) (ls : List (List ℕ)) (r : List ℕ) → eqb b 10 ≡ t → joined (before t b ls r).lines ++ (before t b ls r).rest ≡ b ∷ (joined ls ++ r)
unfolding joined before
before_whole true b ls r h = rw (eqb-true b 10 h)
before_whole false b [] r h = refl
before_whole false b (l ∷ ls) r h = refl

pub split_whole : (s : List ℕ) → joined (split s).lines ++ (split s).rest ≡ s
unfolding split joined
split_whole [] = refl
split_whole (b ∷ s) = before_whole (eqb b 10) b (split s).lines (split s).rest refl ∙ rw (split_whole s)

before_plain : (t : Bool) (b : ℕ) (ls : List (List ℕ)) (r : List ℕ) → eqb b 10 ≡ t → Plains ls → Plains (before t b ls r).lines
unfolding before plain
before_plain true b ls r h p = (refl, p)
before_plain false b [] r h p = tt
before_plain false b (l ∷ ls) r h p = (rw (h, p.0), p.1)

pub split_plain : (s : List ℕ) → Plains (split s).lines
unfolding split
split_plain [] = tt
split_plain (b ∷ s) = before_plain (eqb b 10) b (split s).lines (split s).rest refl (split_plain s)

-- whole lines
pub split_lines : (ls : List (List ℕ)) → Plains ls → split (joined ls) ≡ record { lines = ls; rest = [] }
unfolding split
split_lines ls p = simp append-nil at (split_joined ls [] p)

-- ---- parts of a list of lines

pub plains_append : (ls ms : List (List ℕ)) → Plains ls → Plains ms → Plains (ls ++ ms)
plains_append [] ms p q = q
plains_append (l ∷ ls) ms p q = (p.0, plains_append ls ms p.1 q)

pub plains_take : (i : ℕ) (ls : List (List ℕ)) → Plains ls → Plains (take i ls)
plains_take zero ls p = tt
plains_take (suc i) [] p = tt
plains_take (suc i) (l ∷ ls) p = (p.0, plains_take i ls p.1)

-- a text after whose last line feed nothing stands is its lines
pub split_spelled : (text : List ℕ) (ls : List (List ℕ)) → (split text).lines ≡ ls → (split text).rest ≡ [] → text ≡ joined ls
split_spelled text ls p q = sym (split_whole text) ∙ rw (p, q) (append-nil (joined ls))

-- fewer lines are a beginning of more
pub joined_take : (i j : ℕ) (ls : List (List ℕ)) → i ≤ j → joined (take j ls) ≡ joined (take i ls) ++ joined (take (j - i) (drop i ls))
joined_take i j ls h =
    let e : j ≡ i + (j - i) = omega arith in
    ap (λ (k : ℕ). joined (take k ls)) e ∙ rw (take-add i (j - i) ls) (joined_append (take i ls) (take (j - i) (drop i ls)))
