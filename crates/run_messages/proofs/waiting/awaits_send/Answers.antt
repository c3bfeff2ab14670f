use Rattle.run_messages.specs.Waiting.{awaits_so}
use Rattle.run_messages.proofs.waiting.awaits_send.Goals as goal

pub returns : goal.returns
returns c = awaits_so c.awaits.ensures
