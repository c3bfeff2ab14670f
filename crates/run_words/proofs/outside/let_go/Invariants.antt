use Rattle.run_words.proofs.Outsides.{Letting}
use Rattle.run_words.proofs.outside.let_go.Given as goal

abbrev pub invariant-loop-k : goal.invariant-loop-k
invariant-loop-k l = Letting l.initial.run l.run l.channel l.j l.k
