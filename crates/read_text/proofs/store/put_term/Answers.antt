use Rattle.notation.specs.Tables.{put_term, term_word, term_word'}
use Rattle.read_types.proofs.Filled.{◌set_more◌}
use Rattle.read_text.proofs.store.put_term.Goals as goal

pub returns : goal.returns
unfolding put_term term_word term_word'
returns c = c.put_word.ensures.words set_more c.put_word-2.ensures
