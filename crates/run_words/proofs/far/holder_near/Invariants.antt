use Rattle.run_words.specs.Raw.{raw_in, side_of}
use Rattle.run_words.specs.Near.{Around}
use Rattle.run_words.proofs.far.holder_near.Given as goal

abbrev pub invariant-loop-d : goal.invariant-loop-d
invariant-loop-d l = Around l.channel (side_of l.side) (raw_in l.run).processes l.place l.d
