-- `listing::lines::put_vertex` meets its contract. Assumes nothing.
use Rattle.property.proofs.Basics.{◌≡◌, [], ◌∷◌, ◌++◌, ◌+◌}
use Rattle.dimacs.specs.Decimal.{digits}
use Rattle.dimacs.specs.Lines.{fields_of}
use Rattle.listing.specs.Code.{rows_line}
use Rattle.listing.proofs.Rows.{line_fields}
use Rattle.listing.proofs.lines.put_vertex.Goals as goal

pub put_numbers-requires : goal.put_numbers-requires
put_numbers-requires c =
    let line : let x = c.args in
    rows_line x.source x.vertex x.n x.rows.now ≡ digits (x.source + 1) ++ fields_of ((x.vertex + 1) ∷ c.word.result ∷ c.word-2.result ∷ c.word-3.result ∷ c.word-4.result ∷ c.word-5.result ∷ []) ++ (10 ∷ []) = let x = c.args in
    line_fields x.source x.vertex x.n x.rows.now c.word.ensures c.word-2.ensures c.word-3.ensures c.word-4.ensures c.word-5.ensures in
    rw line at c.requires.fits

pub returns : goal.returns
returns c =
    let line : let x = c.args in
    rows_line x.source x.vertex x.n x.rows.now ≡ digits (x.source + 1) ++ fields_of ((x.vertex + 1) ∷ c.word.result ∷ c.word-2.result ∷ c.word-3.result ∷ c.word-4.result ∷ c.word-5.result ∷ []) ++ (10 ∷ []) = let x = c.args in
    line_fields x.source x.vertex x.n x.rows.now c.word.ensures c.word-2.ensures c.word-3.ensures c.word-4.ensures c.word-5.ensures in
    rw line c.put_numbers.ensures
