use Rattle.std.proofs.lemmas.List.{map-set}
use Rattle.check_types.proofs.classes.mark.Goals as goal

pub returns-then-k-lt-TYPE_TERMS : goal.returns-then-k-lt-TYPE_TERMS
returns-then-k-lt-TYPE_TERMS c = record { is = λ l. map-set _ _ _ _ }
