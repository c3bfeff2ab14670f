-- A recv whose far end was given up: the process drops the channel, starts its handler if it is linked, and folds up; what the recv would have gone on with is never run.
use Rattle.std.specs.Prelude.{ℕ, ◌≡◌, refl, true}
use Rattle.std.proofs.Common.{arith, sym, ◌∙◌, ap, subst}
use Rattle.std.proofs.Math.Option.{some, none, map}
use Rattle.std.proofs.lemmas.Bool.{false≢true}
use Rattle.notation.specs.Tree.{Located, Proc}
use Rattle.calculus.specs.Named.{without}
use Rattle.calculus.specs.Program.{Program}
use Rattle.calculus.specs.Configuration.{Doing, running, folding, waiting, folds_up, linked_by, doing_now, Process, Config, with_processes, at, replaced}
use Rattle.calculus.specs.Steps.{carried, started_doing, started_handler, put_at, changed_at, handler_starts, step}
use Rattle.calculus.specs.Reduces.{unanswered}
use Rattle.calculus.specs.WellFormed.{WellFormed, is_waiting}
use Rattle.calculus.specs.declared.answers.Seen.{Seen}
use Rattle.calculus.specs.declared.answers.Seen.TheVariants.{Nothing}
use Rattle.theory_ends.specs.Lists.{set_at, found_below}
use Rattle.theory_reductions.specs.CarriedOut.{carried_out_lem}
use Rattle.theory_progress.specs.Starting.{Forsaken}
use Rattle.theory_progress.specs.Shapes.{config_by}
use Rattle.theory_progress.specs.Placed.{length_changed}
use Rattle.theory_progress.specs.Folding.{FoldsAt, Follows, folds_on}

-- the process afterwards: it folds up, without the channel and without the link
abbrev pub folded : Located → Process → Process
folded c q = linked_by none (folds_up q (without c.name q.held))

-- the handler at place h waits with a term; the step at place i starts it, and leaves q there
pub record StartsTerm (p : Program) (C : Config) (i : ℕ) (q : Process) (h : ℕ) : Type 0 where
  pub handler : Process
  pub there : at C h ≡ some handler
  pub term : Proc
  pub waits : handler.doing ≡ waiting term
  pub steps : step p C i ≡ carried Nothing (replaced i q (replaced h (doing_now (running term) handler) C))

waits_with : (d : Doing) → is_waiting d ≡ true → (Q : Proc) × (d ≡ waiting Q)
waits_with (running P) e = absurd (false≢true e)
waits_with folding e = absurd (false≢true e)
waits_with (waiting Q) e = (Q, refl)

module _ (p : Program) (C : Config) (i : ℕ) (q : Process) (c : Located) (f : Forsaken C i q c) where
  abbrev afterwards : Config
  afterwards = handler_starts i (folds_up q (without c.name q.held)) C

  forsaken_step : step p C i ≡ carried Nothing afterwards
  forsaken_step = carried_out_lem p (unanswered f.runs f.receives_on f.holds)

  -- "a recv drops its channel in that step and folds up": without a link that is all
  pub given_up_recv_folds : q.link ≡ none → step p C i ≡ carried Nothing (replaced i (folded c q) C)
  given_up_recv_folds z = forsaken_step ∙ ap (λ o. carried Nothing (replaced i (folded c q) (with_processes (changed_at started_handler o C.processes) C))) z

  -- "if its process is linked, the handler starts in that step, as by a raise, and the process folds up without the link"
  pub given_up_recv_starts : WellFormed p C → (h : ℕ) → q.link ≡ some h → StartsTerm p C i (folded c q) h
  given_up_recv_starts v h z =
      let l = v.links i q f.runs.stands h z in
      let w = waits_with l.0.doing l.2 in
      record {
        handler = l.0;
        there = l.1.there;
        term = w.0;
        waits = w.1;
        steps =
            forsaken_step
            ∙ ap (λ o. carried Nothing (replaced i (folded c q) (with_processes (changed_at started_handler o C.processes) C))) z
            ∙ ap (λ o. carried Nothing (replaced i (folded c q) (with_processes (put_at C.processes h (map started_handler o)) C))) l.1.there
            ∙ ap (λ d. carried Nothing (replaced i (folded c q) (replaced h (doing_now (started_doing d) l.0) C))) w.1;
      }

  -- afterwards the process at that place folds up
  folds_there : FoldsAt afterwards.processes i
  folds_there =
      let n = length_changed started_handler q.link C.processes in
      let b = found_below C.processes i f.runs.stands.there in
      record { process = folded c q; there = set_at (changed_at started_handler q.link C.processes) i (folded c q) (omega arith); is = refl }

  -- and does so until it leaves, whatever its link was: what the recv would have gone on with is never run
  pub never_runs : {seen : Seen} {E D : Config} {j : ℕ} → step p C i ≡ carried seen E → Follows p E i D j → FoldsAt D.processes j
  never_runs e w = folds_on w (subst (λ (E : Config). FoldsAt E.processes i) (ap (config_by C) (sym forsaken_step ∙ e)) folds_there)
