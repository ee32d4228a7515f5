-- Tables of worked examples. Assumes nothing.
--
--   Said t   == a table of examples, which lists what a definition gives beside what the documents say of it: one equation holds for all of its lines
--   each f t == a table that lists, for what f is asked, the one answer that all of a line have: what f gives for each beside that answer
use Rattle.property.proofs.Basics.{◌≡◌, List, map}

abbrev pub Said : {A : Type 0} → List (A × A) → Type 0
Said t = map (λ c. c.0) t ≡ map (λ c. c.1) t

abbrev pub each : {A B : Type 0} → (A → B) → List (List A × B) → List (List B × List B)
each f t = map (λ c. (map f c.0, map (λ _. c.1) c.0)) t
