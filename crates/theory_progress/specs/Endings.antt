-- What each of run-on's answers says of the configuration that it leaves.
use Rattle.std.specs.Prelude.{ℕ, zero, suc, ◌≡◌, refl, ◌↔◌, ◌≢◌, [], Bool, true, false, length}
use Rattle.std.proofs.Common.{arith, sym, ◌∙◌, ap, subst, inl, inr, true≢false}
use Rattle.std.proofs.Math.Option.{none}
use Rattle.std.proofs.lemmas.Bool.{false≢true}
use Rattle.calculus.specs.Program.{Program}
use Rattle.calculus.specs.Configuration.{Config}
use Rattle.calculus.specs.Runs.{is_taken, choose_place, run_on}
use Rattle.calculus.specs.WellFormed.{WellFormed}
use Rattle.calculus.specs.Reduces.{Lacks, Open, Applies}
use Rattle.calculus.specs.declared.answers.Seen.{Seen}
use Rattle.calculus.specs.declared.answers.RanOn.{RanOn}
use Rattle.calculus.specs.declared.answers.RanOn.TheVariants.{Uncaught, Shown, Done, Full, Stopped}
use Rattle.theory_reductions.specs.CarriedOut.{carried_out_lem, halts_out}
use Rattle.theory_progress.specs.Progress.{some_open_lem}
use Rattle.theory_progress.specs.Chosen.{First, chosen_first, none_chosen}
use Rattle.theory_progress.specs.RunOn.{shown_carried, showing_to, Ended, given, run_on_ends}
use Rattle.theory_progress.specs.Shown.{shown_stays}

-- ── full: every open step lacks a place or number, and one is open
pub record AllLack (p : Program) (C : Config) : Type 0 where
  pub place : ℕ
  pub opened : Open p C place
  pub lack : (i : ℕ) → Open p C i → Lacks C i

open_lacks : (p : Program) (C : Config) → choose_place p C ≡ none → (i : ℕ) → Applies p C i → Lacks C i
open_lacks p C e i (inl (s, D, r)) = absurd (false≢true (sym (none_chosen p C e i) ∙ ap is_taken (carried_out_lem p r)))
open_lacks p C e i (inr (inl h)) = absurd (false≢true (sym (none_chosen p C e i) ∙ ap is_taken (halts_out p h)))
open_lacks p C e i (inr (inr l)) = l

pub none_chosen_lack : (p : Program) (C : Config) → WellFormed p C → C.processes ≢ [] → C.halted ≡ false → choose_place p C ≡ none → AllLack p C
none_chosen_lack p C v n g e = let o = some_open_lem p C v n g in record { place = o.0; opened = o.1; lack = λ i o. open_lacks p C e i o.applies }

full_where : (p : Program) (budget t : ℕ) (C : Config) (a : RanOn) (D : Config) → Ended p budget (given a) C a D → a ≡ Full t → WellFormed p D
    → AllLack p D
full_where p budget t C a D h e v =
    let g : Ended p budget t C (Full t) D = subst (λ a. Ended p budget (given a) C a D) e h in
    none_chosen_lack p D v g.3 g.2 g.4

pub run_on_full : (p : Program) (C : Config) (budget t : ℕ) → (run_on p C budget).answer ≡ Full t → WellFormed p (run_on p C budget).config
    → AllLack p (run_on p C budget).config
run_on_full p C budget t e v = full_where p budget t C _ _ (run_on_ends p C budget) e v

-- ── an answer of another kind than one that a test tells
otherwise : {A : Type 0} {kind : ℕ → RanOn} (is : RanOn → Bool) → ((t : ℕ) → is (kind t) ≡ true) → {a : RanOn} → is a ≡ false → ¬ A → A ↔ ((t : ℕ) × (a ≡ kind t))
otherwise is k e n = (λ x. absurd (n x), λ (t, z). absurd (true≢false (sym (k t) ∙ sym (ap is z) ∙ e)))

-- ── uncaught: exactly where the run has halted
abbrev is_uncaught_lem : RanOn → Bool
is_uncaught_lem (Uncaught t) = true
is_uncaught_lem (Shown seen t) = false
is_uncaught_lem (Done t) = false
is_uncaught_lem (Full t) = false
is_uncaught_lem (Stopped t) = false

module _ (p : Program) (budget n : ℕ) (C : Config) (D : Config) where
  caught : {a : RanOn} → is_uncaught_lem a ≡ false → D.halted ≡ false → (D.halted ≡ true) ↔ ((t : ℕ) × (a ≡ Uncaught t))
  caught e g = otherwise is_uncaught_lem (λ t. refl) e (λ h. true≢false (sym h ∙ g))

  uncaught_where : (a : RanOn) → Ended p budget n C a D → (D.halted ≡ true) ↔ ((t : ℕ) × (a ≡ Uncaught t))
  uncaught_where (Uncaught t) h = (λ e. (t, refl), λ d. h.2)
  uncaught_where (Shown seen t) h = caught refl h.2
  uncaught_where (Done t) h = caught refl h.2
  uncaught_where (Full t) h = caught refl h.2
  uncaught_where (Stopped t) h = caught refl h.2

pub run_on_uncaught : (p : Program) (C : Config) (budget : ℕ)
    → ((run_on p C budget).config.halted ≡ true) ↔ ((t : ℕ) × ((run_on p C budget).answer ≡ Uncaught t))
run_on_uncaught p C budget = uncaught_where p budget _ C _ _ (run_on_ends p C budget)

-- ── done: exactly where no process is left, and the run has not halted
abbrev is_done : RanOn → Bool
is_done (Uncaught t) = false
is_done (Shown seen t) = false
is_done (Done t) = true
is_done (Full t) = false
is_done (Stopped t) = false

-- a step that shows something leaves a process
shown_left : (p : Program) (n : ℕ) (C : Config) (seen : Seen) (D : Config) → showing_to p n C seen D → D.processes ≢ []
shown_left p zero C seen D h e = h
shown_left p (suc n) C seen D h e =
    let c = h.2 in
    let b = (chosen_first p h.0 c.chosen).place in
    let l = shown_stays p h.0 D c.place seen (shown_carried c.takes h.3) h.3 in
    let z : length D.processes ≡ 0 = ap length e in
    omega arith

module _ (p : Program) (budget n : ℕ) (C : Config) (D : Config) where
  abbrev Over : Type 0
  Over = (D.halted ≡ false) × (D.processes ≡ [])

  not_done : {a : RanOn} → is_done a ≡ false → ¬ Over → Over ↔ ((t : ℕ) × (a ≡ Done t))
  not_done = otherwise is_done (λ t. refl)

  done_where : (a : RanOn) → Ended p budget n C a D → Over ↔ ((t : ℕ) × (a ≡ Done t))
  done_where (Uncaught t) h = not_done refl (λ (g, e). true≢false (sym h.2 ∙ g))
  done_where (Shown seen t) h = not_done refl (λ (g, e). shown_left p n C seen D h.1 e)
  done_where (Done t) h = (λ e. (t, refl), λ d. (h.2, h.3))
  done_where (Full t) h = not_done refl (λ (g, e). h.3 e)
  done_where (Stopped t) h = not_done refl (λ (g, e). h.3 e)

pub run_on_done : (p : Program) (C : Config) (budget : ℕ)
    → (((run_on p C budget).config.halted ≡ false) × ((run_on p C budget).config.processes ≡ [])) ↔ ((t : ℕ) × ((run_on p C budget).answer ≡ Done t))
run_on_done p C budget = done_where p budget _ C _ _ (run_on_ends p C budget)

-- ── stopped: the whole budget is spent, and a further step could be taken
pub record Spent (p : Program) (budget t : ℕ) (C : Config) : Type 0 where
  pub whole : t ≡ budget
  pub place : ℕ
  pub further : First p C place

stopped_where : (p : Program) (budget t : ℕ) (C : Config) (a : RanOn) (D : Config) → Ended p budget (given a) C a D → a ≡ Stopped t
    → Spent p budget t D
stopped_where p budget t C a D h e =
    let g : Ended p budget t C (Stopped t) D = subst (λ a. Ended p budget (given a) C a D) e h in
    record { whole = g.0; place = g.4; further = chosen_first p D g.5 }

pub run_on_stopped : (p : Program) (C : Config) (budget t : ℕ) → (run_on p C budget).answer ≡ Stopped t → Spent p budget t (run_on p C budget).config
run_on_stopped p C budget t e = stopped_where p budget t C _ _ (run_on_ends p C budget) e
