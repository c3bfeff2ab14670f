use Rattle.call_lines.specs.Lending.{line_lends}
use Rattle.calls.proofs.replay.print_answered.Goals as goal

pub returns : goal.returns
returns g c = line_lends c.requires.lendable c.args.line.now c.read_line-call.ensures c.lend.ensures
