-- The network that is opened by the code is the one of the definition. Assumes nothing.
use Rattle.property.proofs.Basics.{◌≡◌, refl, sym, ap, ap₂, ◌∙◌, List, ◌++◌, map, ℕ, ◌-◌, ◌*◌, ◌≤◌, arith, length, take, drop, replicate, length-append, length-take, length-map, length-replicate, take_at, take-append_seam, le-ltb}
use Rattle.std.specs.Prelude.{Result, Ok, Err}
use Rattle.std.specs.Result.{result_unwrap_or}
use Rattle.property.specs.Property.{properties}
use Rattle.graph.specs.declared.refusal.Refusal.{Refusal}
use Rattle.graph.specs.Refusal.{accept, refuse_if, Outcome, over}
use Rattle.graph.specs.Limits.{max_edges, max_landmarks}
use Rattle.graph.specs.Edge.{Edge}
use Rattle.graph.specs.Table.{Columns, edges_of, short_table, table}
use Rattle.graph.specs.Code.{columns}
use Rattle.graph.proofs.Lists.{drop_replicate}
use Rattle.graph.proofs.Tests.{or_false}
use Rattle.graph.proofs.Verdicts.{not_accept, accept_then, accept_if}
use Rattle.network.specs.Network.{Memory, Network}
use Rattle.network.specs.Open.{open_call}
use Rattle.network.specs.Batch.{column}
use Rattle.network.specs.Choice.{choice, choice_verdict, choice_call}
use Rattle.network.specs.Caller.{holding, opened_network}
use Rattle.network.proofs.Items.{length_column}
use Rattle.calls.specs.Code.{network}
use Rattle.open.specs.Code.{open_outcome}
use Rattle.choice.specs.declared.Choice.{Choice}
use Rattle.choice.specs.Code.{padded, choosing, chosen_of}
use Rattle.choice.proofs.Choosing.{Picked, choosing_chosen, choosing_refused}
use Rattle.dimacs.proofs.Written.{filled_edges}
use Rattle.listing.specs.Listing.{graph, landmarks_of}
use Rattle.listing.specs.Code.{Loaded, Ready}

-- ---- the landmarks

padded_length : (us : List ℕ) → length us ≤ max_landmarks → length (padded us) ≡ max_landmarks
padded_length us h = length-append us (replicate (max_landmarks - length us) 0) ∙ omega (arith, length-replicate {A = ℕ} (max_landmarks - length us) 0)

-- four landmarks at most, in four places
abbrev pub Few : Choice → Type 0
Few c = (c.count ≤ max_landmarks) × (length c.vertices ≡ max_landmarks)

-- whatever the table, where none are chosen in place of a refusal
pub chosen_few : (n : ℕ) (cs : Columns) (m : ℕ) (d : Choice) → Few d → (r : Result Choice Refusal) → choosing r ≡ chosen_of (choice_call n cs m max_landmarks) → Few (result_unwrap_or r d)
chosen_few n cs m d f (Ok c) e =
    let p = choosing_chosen n cs m max_landmarks c e in
    let l : length (choice n (edges_of cs m) max_landmarks) ≤ max_landmarks = simp length-take (omega arith) in
    (rw p.count l, ap length p.vertices ∙ padded_length (choice n (edges_of cs m) max_landmarks) l)
chosen_few n cs m d f (Err x) e = f

-- the code's choice c, where d stands for none
pub few_held : (n : ℕ) (cs : Columns) (m : ℕ) (c d : Choice) (r : Result Choice Refusal) → c ≡ result_unwrap_or r d → d.count ≡ 0 → length d.vertices ≡ max_landmarks → choosing r ≡ chosen_of (choice_call n cs m max_landmarks) → Few c
few_held n cs m c d r q z l e = rw q (chosen_few n cs m d (omega (arith, z), l) r e)

-- ---- the table

-- three lists of zeros
abbrev pub zeros : Columns
zeros = columns (replicate max_edges 0) (replicate max_edges 0) (replicate max_edges 0)

over_column : (f : Edge → ℕ) (es : List Edge) → length es ≤ max_edges → over (map f es) (replicate max_edges 0) ≡ column f es
over_column f es l =
    ap (λ (xs : List ℕ). map f es ++ xs) (drop_replicate (length (map f es)) max_edges 0 ∙ ap (λ (k : ℕ). replicate (max_edges - k) 0) (length-map es f))

same_network : {cs ds : Columns} {f g b c : List ℕ} {k m : ℕ} → cs ≡ ds → f ≡ g → b ≡ c → k ≡ m
    → ◌≡◌ {A = Network} (record { memory = record { table = cs; rows = record { forward = f; backward = b } }; count = k })
    (record { memory = record { table = ds; rows = record { forward = g; backward = c } }; count = m })
same_network p q r s = cc

module _ (n : ℕ) (es : List Edge) (ts hs ws : List ℕ) (m : ℕ) (h : Loaded n es ts hs ws m) where
  few : length es ≤ max_edges
  few = h.good.few

  columned : columns ts hs ws ≡ columns (column (λ e. e.tail) es) (column (λ e. e.head) es) (column (λ e. e.weight) es)
  columned =
      let a = over_column (λ e. e.tail) es few in
      let b = over_column (λ e. e.head) es few in
      let c = over_column (λ e. e.weight) es few in
      h.table ∙ cc

  loaded_edges : edges_of (columns ts hs ws) m ≡ es
  loaded_edges = ap (λ (cs : Columns). edges_of cs m) h.table ∙ filled_edges es m zeros (sym h.count)

  short : short_table (columns ts hs ws) ≡ accept
  short =
      accept_if 2 0
      (or_false (le-ltb (length ts) max_edges (omega (arith, ap (λ (cs : Columns). length cs.tails) columned, length_column es few (λ e. e.tail))))
      (or_false (le-ltb (length hs) max_edges (omega (arith, ap (λ (cs : Columns). length cs.heads) columned, length_column es few (λ e. e.head))))
      (le-ltb (length ws) max_edges (omega (arith, ap (λ (cs : Columns). length cs.weights) columned, length_column es few (λ e. e.weight))))))

  kept : table n (columns ts hs ws) m ≡ accept
  kept = accept_then (accept_if 4 0 (le-ltb max_edges m (omega (arith, few, h.count)))) ∙ rw loaded_edges h.good.rules

  choosable : choice_verdict n (columns ts hs ws) m max_landmarks ≡ accept
  unfolding refuse_if
  choosable = accept_then h.good.vertices ∙ accept_then short ∙ accept_then refl ∙ kept

  -- the choice of a good table is not refused
  pub picked : (d : Choice) (r : Result Choice Refusal) → choosing r ≡ chosen_of (choice_call n (columns ts hs ws) m max_landmarks) → Picked n (columns ts hs ws) m max_landmarks (result_unwrap_or r d)
  picked d (Ok c) e = choosing_chosen n (columns ts hs ws) m max_landmarks c e
  picked d (Err x) e = absurd (not_accept (sym (choosing_refused n (columns ts hs ws) m max_landmarks x e) ∙ choosable))

  module _ (r : Choice) (p : Picked n (columns ts hs ws) m max_landmarks r) where
    chosen_count : r.count ≡ length (landmarks_of (graph n es))
    chosen_count = rw loaded_edges at p.count

    chosen_vertices : r.vertices ≡ padded (landmarks_of (graph n es))
    chosen_vertices = rw loaded_edges at p.vertices

    pub chosen_landmarks : landmarks_of (graph n es) ≡ take r.count r.vertices
    chosen_landmarks = rw (chosen_count, chosen_vertices) (sym (take-append_seam (landmarks_of (graph n es)) _))

    module _ (fz bz f b : List ℕ) (o : Result (Unit {0}) Refusal) where
      abbrev size' : ℕ
      size' = r.count * properties * n

      held : take size' fz ≡ replicate size' 0 → take size' bz ≡ replicate size' 0
          → network ts hs ws (take size' fz) (take size' bz) m ≡ holding es (landmarks_of (graph n es)) n
      held x y =
          let q = ap (λ (j : ℕ). replicate {A = ℕ} (j * properties * n) 0) chosen_count in
          same_network columned (x ∙ q) (y ∙ q) h.count

      -- the lists at the end are those that the definition's opening leaves
      pub ready : take size' fz ≡ replicate size' 0 → take size' bz ≡ replicate size' 0 → length f ≡ size' → length b ≡ size'
          → open_outcome o ts hs ws f b ≡ open_call n (take r.count r.vertices) (network ts hs ws (take size' fz) (take size' bz) m)
          → Ready n es ts hs ws m r.count r.vertices (f ++ drop size' fz) (b ++ drop size' bz)
      ready x y lf lb q = record {
        landmarks = chosen_landmarks;
        opened =
            rw (take_at f (drop size' fz) size' lf, take_at b (drop size' bz) size' lb)
            (ap (λ (z : Outcome (Unit {0}) Memory). record { memory = z.memory; count = m }) q
            ∙ ap₂ (λ (ls : List ℕ) (w : Network). opened_network n ls w) (sym chosen_landmarks) (held x y));
      }
