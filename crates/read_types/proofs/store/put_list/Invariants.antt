use Rattle.std.proofs.Common.{◌≡◌, ◌+◌, ◌-◌}
use Rattle.read_types.specs.Filling.{Kept, list_put}
use Rattle.read_types.proofs.store.put_list.Given as goal

-- what is left to put, from here on, makes the words of the whole list
abbrev pub invariant-loop-i : goal.invariant-loop-i
invariant-loop-i l = record {
  words : list_put l.kept (l.n - l.i) (l.at + l.i) l.scratch ≡ list_put l.kept l.n l.at l.initial.scratch;
  stays : Kept l.initial.scratch l.scratch;
}
