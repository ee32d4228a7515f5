-- `rewrite::write_words` meets its contract. Assumes nothing.
use Rattle.rewrite.proofs.Writing.{words_written}
use Rattle.rewrite.proofs.write_words.Goals as goal

pub returns : goal.returns
returns c =
    words_written _ _ _ _ _ c.requires.0 c.requires.1 c.requires.2 c.copy.ensures c.fill.ensures
