use Rattle.std.proofs.Common.{◌+◌, ◌≤◌, length, take}
use Rattle.notation.specs.Limits.{run_words}
use Rattle.print_pieces.specs.Pieces.{piece_bytes, Going, turns_in}
use Rattle.print_output.specs.Gathering.{gathered, Due, Taken}
use Rattle.print_output.proofs.text.print_rest.Given as goal

abbrev pub invariant-loop-run : goal.invariant-loop-run
invariant-loop-run g l =
    Going l.text l.scratch l.run l.stage
    × (run_words ≤ length l.run)
    × (gathered + piece_bytes ≤ length l.out)
    × (l.waiting ≤ gathered)
    × Due l.text l.scratch l.run l.stage (take l.waiting l.out)
    × Taken (g.W.Write.contents l.fn.to) (g.W.Write.contents l.to) l.text l.scratch l.fn.run l.fn.from l.run l.stage (take l.waiting l.out)

abbrev pub decreases-loop-run : goal.decreases-loop-run
decreases-loop-run g l = turns_in l.text l.scratch l.stage
