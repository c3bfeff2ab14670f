use Rattle.read_tables.specs.Access.{type_of}
use Rattle.read_tables.specs.Decode.{type_at}
use Rattle.read_tables.proofs.access.declared_type.Goals as goal

pub returns : goal.returns
unfolding type_at
returns c = type_of _ _ _ (record { at = c.two_words-w.ensures.first_value.0; number = c.two_words-w.ensures.first_value.1 })
