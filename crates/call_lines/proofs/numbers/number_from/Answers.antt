use Rattle.std.proofs.Common.{arith}
use Rattle.std.proofs.lemmas.Bool.Decides.{nat_tests}
use Rattle.call_lines.specs.Reading.{number_step}
use Rattle.call_lines.proofs.numbers.number_from.Goals as goal

pub loop-b-preserved : goal.loop-b-preserved
loop-b-preserved c = let e = number_step c.args.digits.now c.loop-b.b-index c.loop-b.n (omega arith) in grind (arith, nat_tests)
