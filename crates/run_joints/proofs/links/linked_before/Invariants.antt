use mathlib.Core.Path.{◌≡◌}
use Rattle.run_words.specs.Raw.{raw_in}
use Rattle.calculus.specs.Named.{any_of}
use Rattle.run_joints.specs.Tests.{before}
use Rattle.run_joints.specs.Links.{links_to}
use Rattle.run_joints.proofs.links.linked_before.Given as goal

abbrev pub invariant-loop-i : goal.invariant-loop-i
invariant-loop-i l = any_of (links_to l.h) (before l.n (raw_in l.run).processes) ≡ any_of (links_to l.h) (before l.i (raw_in l.run).processes)
