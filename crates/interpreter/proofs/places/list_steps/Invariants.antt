use Rattle.interpreter.specs.Listing.{Listing}
use Rattle.notation.specs.Limits.{process_places}
use Rattle.calculus.specs.Runs.{places}
use Rattle.read_tables.specs.Program.{program_in}
use Rattle.run_alone.specs.Run.{config_in}
use Rattle.interpreter.proofs.places.list_steps.Given as goal

abbrev pub invariant-loop-k : goal.invariant-loop-k
invariant-loop-k l = Listing process_places (places (program_in l.text l.tables) (config_in l.text l.tables l.run)) l.steps l.k
