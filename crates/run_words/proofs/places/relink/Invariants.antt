use Prim.Native.Nat.{◌+◌, ◌*◌}
use Rattle.run_words.specs.Raw.{places_at, place_words}
use Rattle.run_words.specs.Values.{Moved}
use Rattle.run_words.proofs.Shifts.{relinked_word}
use Rattle.run_words.proofs.places.relink.Given as goal

abbrev pub invariant-loop-k : goal.invariant-loop-k
invariant-loop-k l = Moved l.initial.run l.run places_at (places_at + place_words * l.k) (relinked_word l.up l.i l.initial.run)
