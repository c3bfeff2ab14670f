use Rattle.interpreter.specs.Listing.{Listing}
use Rattle.interpreter.specs.Reporting.{numbers_of}
use Rattle.notation.specs.Limits.{outside_numbers}
use Rattle.run_words.specs.Raw.{raw_in}
use Rattle.interpreter.proofs.reports.list_numbers.Given as goal

abbrev pub invariant-loop-k : goal.invariant-loop-k
invariant-loop-k l = Listing outside_numbers (numbers_of (raw_in l.run)) l.numbers l.k
