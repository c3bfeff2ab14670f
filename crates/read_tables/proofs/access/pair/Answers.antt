use mathlib.Core.Path.{ap}
use Prim.Native.Nat.{ℕ, ◌/◌, ◌%◌}
use Rattle.read_tables.specs.Decode.{pair_of}
use Rattle.notation.specs.Tables.{offset_radix}
use Rattle.read_tables.proofs.access.pair.Goals as goal

pub returns : goal.returns
unfolding pair_of
returns c = record { at = ap (λ (x : ℕ). x % offset_radix) c.word-x.ensures.value; number = ap (λ (x : ℕ). x / offset_radix) c.word-x.ensures.value }
