use native.Mathlib.Omega.{arith}
use Rattle.read_tables.specs.Access.{term_of}
use Rattle.read_tables.specs.Decode.{term_at, term_node_of}
use Rattle.read_tables.proofs.access.term_node.Goals as goal

pub returns : goal.returns
unfolding term_at term_node_of
returns c = term_of _ _ _ (λ j. term_node_of (c.two_words-w.ensures.first_value.0 j) (c.two_words-w.ensures.first_value.1 j)) (omega arith)
