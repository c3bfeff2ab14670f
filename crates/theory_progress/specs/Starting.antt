-- Which steps start a handler: that of a raise, that of a recv whose far end was given up, and that in which a recv leaves out the label that comes.
use Rattle.std.specs.Prelude.{ℕ, ◌≡◌}
use Rattle.std.proofs.Common.{subst}
use Rattle.std.proofs.Math.Option.{none}
use Rattle.notation.specs.Tree.{Located, Proc, send_label, recv_label, raise, Branches}
use Rattle.calculus.specs.Configuration.{End, Process, Config, Stands, Holder, at_process, given_up}
use Rattle.calculus.specs.Steps.{Wanted, receives, turn, branch_of}
use Rattle.calculus.specs.Reduces.{Runs, Holds, Answers, Naming}
use Rattle.theory_reductions.specs.CarriedOut.{holder_stands}

-- a lost recv: a process runs a recv, of one of the three kinds, on a channel whose far end was given up
pub record Forsaken (C : Config) (i : ℕ) (q : Process) (c : Located) : Type 0 where
  pub term : Proc
  pub runs : Runs C i q term
  pub wanted : Wanted
  pub receives_on : turn term ≡ receives c wanted
  pub held : End
  pub holds : Holds C q c held given_up

-- the step at place k starts the handler of the process q, if it is linked: q is the one at place k, or its partner, whose recv leaves out the label
pub data StartsHandler (C : Config) (k : ℕ) (q : Process) : Type 0 where
  by_raise : {o : ℕ} {P : Proc} → Runs C k q (raise o P) → StartsHandler C k q
  by_lost_recv : {c : Located} → Forsaken C k q c → StartsHandler C k q
  by_left_out : {j o o' : ℕ} {r : Process} {c l c' : Located} {P : Proc} {B : Branches} {e : End} {h : Holder}
      → Naming C k j
      → Runs C j r (send_label o c l P)
      → Holds C r c e (at_process h)
      → Answers h c' (recv_label o' c' B)
      → branch_of l.name B ≡ none
      → h.process ≡ q
      → StartsHandler C k q

pub starter_stands : {C : Config} {k : ℕ} {q : Process} → StartsHandler C k q → (j : ℕ) × Stands C j q
starter_stands {k = k} (by_raise r) = (k, r.stands)
starter_stands {k = k} (by_lost_recv f) = (k, f.runs.stands)
starter_stands {C} (by_left_out {h = h} n r l a b z) = (h.place, subst (Stands C h.place) z (holder_stands l))
