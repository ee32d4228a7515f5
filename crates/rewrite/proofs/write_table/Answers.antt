-- `rewrite::write_table` meets its contract. Assumes nothing.
use Rattle.rewrite.proofs.Writing.{table_written}
use Rattle.rewrite.proofs.write_table.Goals as goal

pub returns : goal.returns
returns c =
    table_written _ _ _ _ c.requires.1 _ _ _ c.write_words.ensures c.write_words-2.ensures c.write_words-3.ensures
