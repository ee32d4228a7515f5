-- Edges, and the lists of words that hold them: document 01, "Network"; document 02, Five ("A segment is now its three words"). Assumes nothing.
--
--   Edge             == a "segment": tail, head and weight ("figure")
--   edge t h w       == the edge from t to h of weight w
--   reverse e        == e the other way round; backward rows go by reversed edges
--   same e f         == the same three words
--   same_pair e f    == the same tail and head ("pair"); two edges of one pair are twins
--   precedes e f     == table order: "by tail, head, figure"
--   keep f es        == the edges of es that pass the test f, in order
--   exists f xs      == some element of xs passes the test f
--   among es e       == e is in es, by its three words
--   leaving i es     == the edges of tail i, in table order
--   edges ts hs ws m == the "records" below the count m of three lists of words
--   range i k        == the k numbers from i on
--   keep_if t e es   == e before es where the test t holds
--   zip ts hs ws     == three lists side by side
use Rattle.std.specs.Prelude.{Bool, true, false, ◌&&◌, ◌||◌, List, [], ◌∷◌, ℕ, zero, suc, take, eqb, ltb}

pub record Edge : Type 0 where
  pub tail : ℕ
  pub head : ℕ
  pub weight : ℕ

abbrev pub edge : ℕ → ℕ → ℕ → Edge
edge t h w = record { tail = t; head = h; weight = w }

abbrev pub reverse : Edge → Edge
reverse e = edge e.head e.tail e.weight

abbrev pub same_pair : Edge → Edge → Bool
same_pair e f = eqb e.tail f.tail && eqb e.head f.head

abbrev pub same : Edge → Edge → Bool
same e f = eqb e.tail f.tail && (eqb e.head f.head && eqb e.weight f.weight)

abbrev pub precedes : Edge → Edge → Bool
precedes e f =
    ltb e.tail f.tail || (eqb e.tail f.tail && (ltb e.head f.head || (eqb e.head f.head && ltb e.weight f.weight)))

unfoldable pub keep_if : Bool → Edge → List Edge → List Edge
keep_if true e es = e ∷ es
keep_if false e es = es

unfoldable pub keep : (Edge → Bool) → List Edge → List Edge
keep f [] = []
keep f (e ∷ es) = keep_if (f e) e (keep f es)

unfoldable pub exists : {A : Type 0} → (A → Bool) → List A → Bool
exists f [] = false
exists f (x ∷ xs) = f x || exists f xs

abbrev pub among : List Edge → Edge → Bool
among es e = exists (same e) es

abbrev pub leaving : ℕ → List Edge → List Edge
leaving i es = keep (λ e. eqb e.tail i) es

unfoldable pub zip : List ℕ → List ℕ → List ℕ → List Edge
zip [] hs ws = []
zip (t ∷ ts) [] ws = []
zip (t ∷ ts) (h ∷ hs) [] = []
zip (t ∷ ts) (h ∷ hs) (w ∷ ws) = edge t h w ∷ zip ts hs ws

unfoldable pub edges : List ℕ → List ℕ → List ℕ → ℕ → List Edge
edges ts hs ws m = zip (take m ts) (take m hs) (take m ws)

unfoldable pub range : ℕ → ℕ → List ℕ
range i zero = []
range i (suc k) = i ∷ range (suc i) k
