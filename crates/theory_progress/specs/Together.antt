-- "A matching send and recv on one channel step together; either one's place names the step."
use Rattle.std.specs.Prelude.{ℕ, ◌≡◌, refl}
use Rattle.std.proofs.Math.Option.{some}
use Rattle.notation.specs.Tree.{Located, Proc}
use Rattle.calculus.specs.Named.{lookup}
use Rattle.calculus.specs.Types.{other}
use Rattle.calculus.specs.Program.{Program}
use Rattle.calculus.specs.Configuration.{End, Process, Config}
use Rattle.calculus.specs.Steps.{Message, Wanted, sends, receives, turn, step}
use Rattle.calculus.specs.WellFormed.{key, WellFormed}
use Rattle.calculus.specs.Reduces.{Runs, its_recv}
use Rattle.theory_derivations.specs.Named.{lookup_in}
use Rattle.theory_ends.specs.FarEnds.{far_found}
use Rattle.theory_reductions.specs.CarriedOut.{names_step}

-- the recv at place i and the send at place j, at the two ends of one channel
pub either_place : {p : Program} {C : Config} → WellFormed p C
    → {i j : ℕ} {q r : Process} {P Q R : Proc} {c d : Located} {w : Wanted} {m : Message} {e f : End}
    → Runs C i q P → turn P ≡ receives c w → Runs C j r Q → turn Q ≡ sends d m R
    → lookup c.name q.held ≡ some e → lookup d.name r.held ≡ some f
    → key f ≡ (e.channel, other e.side) → step p C i ≡ step p C j
either_place {p} v {r = r} {d = d} {e = e} x t y u h g k =
    let f = far_found v e y.stands (lookup_in d.name r.held g) k in
    names_step p (its_recv x t (record { held = h; far = f }) (record { runs = y.runs; name = refl }) u)
