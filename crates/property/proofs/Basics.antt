-- What the proofs of all crates use of the libraries, passed on under one name: equality, truth values, lists and their words, numbers and tests,
-- and the sets of lemmas with which `omega` and `search` go. What one file alone uses, it names by its own line. Assumes nothing.
unfoldable pub use mathlib.Core.Path.{◌≡◌, ◌∙◌, sym, ap, refl, subst, ap₂}
pub use mathlib.Core.Logic.{◌⊎◌, inl, inr}
unfoldable pub use mathlib.Core.Logic.{⊎_elim, ◌≢◌, ◌↔◌}
pub use mathlib.Core.Bool.{false, true, Bool}
unfoldable pub use mathlib.Core.Bool.{cond, not, ◌||◌, true≢false, ◌&&◌, false≢true}
pub use mathlib.Core.Option.{some, none, Option}
unfoldable pub use mathlib.Core.Option.{bind}
pub use mathlib.Core.List.Memᴰ.{cases_cons as Memᴰ-cases_cons}
pub use mathlib.Core.List.Memᴰ.{head as Memᴰ-head}
pub use mathlib.Core.List.Memᴰ.{not-nil as Memᴰ-not_nil}
pub use mathlib.Core.List.Memᴰ.{tail as Memᴰ-tail}
pub use mathlib.Core.List.{List, [], ◌∷◌, Memᴰ, append_assoc, append-nil}
unfoldable pub use mathlib.Core.List.{map, ◌++◌, foldl}
pub use Prim.Native.Nat.{ℕ, zero, suc, ◌+◌, ◌-◌, ◌*◌, ◌/◌, ◌%◌, ◌^◌, ◌≤◌, min, max}
unfoldable pub use Prim.Native.Nat.{◌<◌}
pub use native.Mathlib.Omega.{arith}
pub use native.Mathlib.Nat.{zero-add, add-zero, sub-zero, suc-mul, zero-mul, div-add-mod', div-lt_iff_lt-mul, le_of_suc-le-suc, mul-le-mul_right, not-suc-le-zero, suc-add, lt_of_le_of_lt, mod-eq_of_lt, mul-le-mul, pow-suc}
pub use native.Mathlib.Numerals.{add-one}
pub use native.Mathlib.Decide.{dec_lt, ℕ_discrete}
pub use lib.ListN.{length-set, length-append, drop_of_length-le, length-replicate, length-drop, length-map, get_or-eq_default, length-take, take-append-drop, get_or-map, replicate-append-replicate, get_or-append}
unfoldable pub use lib.ListN.{length, get_or, drop, take, replicate, set}
pub use lib.Seq.{length-take-le, get_or-set_other, drop-cons, get_or-set_same, take_at, get_or-take, get_or-drop, take_all, drop-drop, ext_get_or, drop_at, drop-append-add, paste-zero, set_out, take-suc, take-suc-set, drop-append-le, take-add, take-append_seam, take-nil, take-set-lt}
unfoldable pub use lib.Seq.{paste, sets}
pub use lib.Dec.{lit<}
unfoldable pub use lib.Dec.{eqb, ltb, leb}
pub use borrow.Author.Tests.{le-ltb, lt-ltb, eq-eqb, ne_eqb, eqb-true, ltb-true, ltb-false, not-false, not-true, eqb-false, leb-true, le-leb, lt-leb, leb-false}
pub use borrow.Author.Rules.{rules as needs}
