-- A label that its recv leaves out: the receiver folds up, and none of its branches is ever run.
use Rattle.std.specs.Prelude.{ℕ, ◌≡◌, refl, set}
use Rattle.std.proofs.Common.{arith, sym, ◌∙◌, ap, subst, length-set}
use Rattle.std.proofs.Math.Option.{some, none}
use Rattle.notation.specs.Tree.{Located, Proc, send_label, recv_label, Branches}
use Rattle.calculus.specs.Program.{Program}
use Rattle.calculus.specs.Configuration.{End, Process, Config, Holder, at_process, linked_by, goes_on, folds_up, replaced}
use Rattle.calculus.specs.Steps.{carried, chooses, onward, branch_of, started_handler, changed_at, handler_starts, step}
use Rattle.calculus.specs.Reduces.{Runs, Holds, Answers, label_left_out, Naming, communicates}
use Rattle.calculus.specs.declared.answers.Seen.{Seen}
use Rattle.calculus.specs.declared.answers.Seen.TheVariants.{Nothing}
use Rattle.theory_ends.specs.Lists.{set_at, found_below}
use Rattle.theory_reductions.specs.CarriedOut.{carried_out_lem, holder_stands}
use Rattle.theory_progress.specs.Shapes.{config_by}
use Rattle.theory_progress.specs.Placed.{length_changed}
use Rattle.theory_progress.specs.Folding.{FoldsAt, Follows, folds_on}

-- the send at place j of a label for which the recv at its far end has no branch, whose process is linked
pub record CaughtLeavingOut (C : Config) (j : ℕ) (h : Holder) : Type 0 where
  pub sender : Process
  pub offset : ℕ
  pub over : Located
  pub label : Located
  pub rest : Proc
  pub end : End
  pub sends : Runs C j sender (send_label offset over label rest)
  pub holds : Holds C sender over end (at_process h)
  pub recv : ℕ
  pub channel : Located
  pub branches : Branches
  pub receives : Answers h channel (recv_label recv channel branches)
  pub no_branch : branch_of label.name branches ≡ none
  pub handler : ℕ
  pub linked : h.process.link ≡ some handler

module _ (p : Program) (C : Config) {i j : ℕ} {h : Holder} (n : Naming C i j) (f : CaughtLeavingOut C j h) where
  -- "the sender goes on"; "its own end of the type of that label"
  abbrev sent : Process
  sent = goes_on f.sender f.rest (onward p (chooses f.label) f.over.name f.sender.held)

  abbrev folded : Process
  folded = folds_up h.process (onward p (chooses f.label) h.name h.process.held)

  abbrev afterwards : Config
  afterwards = handler_starts h.place folded (replaced j sent C)

  -- "in that same step", which either place names
  pub left_out_step : step p C i ≡ carried Nothing afterwards
  left_out_step = carried_out_lem p (communicates n (label_left_out f.sends f.holds f.receives f.no_branch f.linked))

  folds_there : FoldsAt afterwards.processes h.place
  folds_there =
      let l = set C.processes j sent in
      let a = length-set C.processes j sent in
      let b = length_changed started_handler h.process.link l in
      let c = found_below C.processes h.place (holder_stands f.holds).there in
      record { process = linked_by none folded; there = set_at (changed_at started_handler h.process.link l) h.place (linked_by none folded) (omega arith); is = refl }

  -- it folds up until it leaves, whatever steps come: no branch is run
  pub left_out_never_runs : {seen : Seen} {E D : Config} {m : ℕ} → step p C i ≡ carried seen E → Follows p E h.place D m → FoldsAt D.processes m
  left_out_never_runs e w = folds_on w (subst (λ (E : Config). FoldsAt E.processes h.place) (ap (config_by C) (sym left_out_step ∙ e)) folds_there)
