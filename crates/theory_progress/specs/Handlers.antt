-- "Nothing but this, a label that is left out and a raise starts a handler, that of the process itself: a cancel and a fwd wake nobody."
use Rattle.std.specs.Prelude.{ℕ, ◌≡◌, refl, ◌≢◌, Bool, true, false, length}
use Rattle.std.proofs.Common.{sym, ◌∙◌, ap, subst, true≢false}
use Rattle.std.proofs.Math.Option.{some}
use Rattle.std.proofs.lemmas.Bool.{false≢true}
use Rattle.std.proofs.Math.ListN.{get_elem?}
use Rattle.notation.specs.Tree.{Located, Proc, empty, send_unit, send_channel, send_label, cancel, spawn, recv_unit, recv_channel, recv_label, fwd, call, raise, try}
use Rattle.calculus.specs.Program.{Program}
use Rattle.calculus.specs.Configuration.{Doing, running, folding, waiting, Process, Config, Stands}
use Rattle.calculus.specs.Steps.{carried, Wanted, receives, turn, is_open_by, step_doing, step}
use Rattle.calculus.specs.Reduces.{Runs, Empty, no_term, no_channel, its_own, its_recv}
use Rattle.calculus.specs.declared.answers.Seen.{Seen}
use Rattle.theory_ends.specs.Lists.{found_one}
use Rattle.theory_reductions.specs.Kinds.{ActsBy, closes_on, takes_on, picks_on, term_acts}
use Rattle.theory_reductions.specs.CarriedOut.{step_at}
use Rattle.theory_progress.specs.Starting.{StartsHandler, by_raise, by_lost_recv, by_left_out}
use Rattle.theory_progress.specs.Placed.{Does, DoesAt, does_one, place_after}
use Rattle.theory_progress.specs.Elsewhere.{After, as_before, started, folded, silent_after}

-- whether the step of a term can change a handler: a recv, a send of a label and a raise can start it, and when an empty process leaves it folds up
abbrev pub changes_handler : Proc → Bool
changes_handler (empty o) = true
changes_handler (send_unit o c P) = false
changes_handler (send_channel o c a P) = false
changes_handler (send_label o c l P) = true
changes_handler (cancel o c P) = false
changes_handler (spawn x A P Q) = false
changes_handler (recv_unit o c P) = true
changes_handler (recv_channel o c x P) = true
changes_handler (recv_label o c B) = true
changes_handler (fwd o x c) = false
changes_handler (call o f bracket xs ys) = false
changes_handler (raise o P) = true
changes_handler (try o P Q) = false

abbrev changes : Doing → Bool
changes (running P) = changes_handler P
changes folding = true
changes (waiting Q) = false

abbrev is_running : Doing → Bool
is_running (running P) = true
is_running folding = false
is_running (waiting Q) = false

recv_changes : {P : Proc} {c : Located} {w : Wanted} → ActsBy (running P) (receives c w) → changes_handler P ≡ true
recv_changes closes_on = refl
recv_changes takes_on = refl
recv_changes picks_on = refl

empty_changes : {q : Process} → Empty q → changes q.doing ≡ true
empty_changes (no_term e) = ap changes e
empty_changes (no_channel e h) = ap changes e

-- the step of the process at place k can change a handler
abbrev Changes : Config → ℕ → Type 0
Changes C k = (q : Process) × Stands C k q × (changes q.doing ≡ true)

module _ {C : Config} {k : ℕ} where
  recv_starts : {q : Process} {P : Proc} {c : Located} {w : Wanted} → Runs C k q P → turn P ≡ receives c w → Changes C k
  recv_starts {q} {P} r t = (q, r.stands, ap changes r.runs ∙ recv_changes (subst (ActsBy (running P)) t (term_acts P)))

  starter_changes : {q : Process} → StartsHandler C k q → Changes C k
  starter_changes {q} (by_raise r) = (q, r.stands, ap changes r.runs)
  starter_changes (by_lost_recv f) = recv_starts f.runs f.receives_on
  starter_changes (by_left_out {r = s} its_own r l a b z) = (s, r.stands, ap changes r.runs)
  starter_changes (by_left_out (its_recv x t m y u) r l a b z) = recv_starts x t

module _ (p : Program) (C D : Config) (k : ℕ) {seen : Seen} (e : step p C k ≡ carried seen D) {h : ℕ} {Q : Proc} (f : DoesAt (waiting Q) C.processes h) where
  -- where the handler stands afterwards
  abbrev there : ℕ
  there = place_after k (length C.processes) (length D.processes) h

  -- a waiting handler has no step of its own
  apart : h ≢ k
  apart z =
      let s : Stands C k f.process = record { there = ap (get_elem? C.processes) (sym z) ∙ f.there } in
      true≢false (ap is_open_by (sym e ∙ step_at p s ∙ ap (step_doing p C k f.process) f.is))

  after : After C k h (Does (waiting Q)) D.processes
  after = silent_after C k h refl apart f p e

  -- a handler that waited and now runs was started by the process that was linked to it: by its raise, its lost recv, or a label that its recv leaves out
  pub starts_only : {P : Proc} → DoesAt (running P) D.processes there → (q : Process) × StartsHandler C k q × (q.link ≡ some h)
  starts_only {P} g = go after
    where
      go : After C k h (Does (waiting Q)) D.processes → (q : Process) × StartsHandler C k q × (q.link ≡ some h)
      go (as_before a) = absurd (false≢true (ap is_running (does_one a g)))
      go (started {q} s l a) = (q, s, l)
      go (folded s t l a) = absurd (false≢true (ap is_running (does_one a g)))

  -- a cancel, a fwd, a send of no label, and each other term that is no recv, no raise and not empty, wakes nobody
  pub wakes_nobody : {q : Process} {P : Proc} → Runs C k q P → changes_handler P ≡ false → DoesAt (waiting Q) D.processes there
  wakes_nobody {q} {P} r n = go after
    where
      no_change : {q' : Process} → Stands C k q' → changes q'.doing ≡ true → ⊥
      no_change s t = true≢false (sym t ∙ ap (λ (q : Process). changes q.doing) (found_one C.processes refl s.there r.stands.there) ∙ ap changes r.runs ∙ n)

      go : After C k h (Does (waiting Q)) D.processes → DoesAt (waiting Q) D.processes there
      go (as_before a) = a
      go (started s l a) = let (q', t, c) = starter_changes s in absurd (no_change t c)
      go (folded s t l a) = absurd (no_change s (empty_changes t))
