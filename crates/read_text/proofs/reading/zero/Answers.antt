use Rattle.std.proofs.Common.{ap, ◌∙◌, replicate, ℕ, rules}
use Rattle.read_text.proofs.reading.zero.Goals as goal

pub returns : goal.returns
returns c = c.fill.ensures.after (search rules) ∙ ap (λ (n : ℕ). replicate n 0) c.requires
