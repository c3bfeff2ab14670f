-- Replies that do not depend on the configuration: where the run is too short, of a start, and of an exec's name.
use Rattle.std.specs.Prelude.{ℕ, ◌<◌, ◌≡◌, refl, List, Bool, true, false, cond, leb, Ok}
use Rattle.std.proofs.Common.{sym, ◌∙◌, ap, true≢false}
use Rattle.std.proofs.Math.Option.{Option, some, none}
use Rattle.std.proofs.Math.ListN.{get_elem?}
use Rattle.notation.specs.Limits.{run_words}
use Rattle.notation.specs.Tree.{Located}
use Rattle.calculus.specs.Accepted.{Checked, accepted, faulty}
use Rattle.calculus.specs.Configuration.{Config}
use Rattle.calculus.specs.Demands.{is_refused}
use Rattle.calculus.specs.Machine.{call_start, started, name_given, Reply, reply, text_checked, on_program, on_line, respond}
use Rattle.calculus.specs.Program.{Signature, Program, program_of}
use Rattle.calculus.specs.Runs.{start_config, exec_of}
use Rattle.interpreter.specs.Entries.{Request, to_start, to_step, to_run_on, to_report, to_places, to_name, call_as, use_of}
use Rattle.interpreter.specs.Past.{refuse, is_lent, on_lent, past_run, reply_by, lent_short}

-- one answer, and the configuration stays
pub record SameAnswer (C D : Config) (x y : Reply) : Type 0 where
  pub answer : x.answer ≡ y.answer
  pub config : x.config ≡ C

-- ── a run that is too short, or not lent
name_unread : (line : ℕ) (C D : Config) (o : Option Located)
    → SameAnswer C D (on_line o (refuse (to_name line) C) λ n. reply (name_given n.name 0 0) C) (on_line o (refuse (to_name line) D) λ n. reply (name_given n.name 0 0) D)
name_unread line C D none = record { answer = refl; config = refl }
name_unread line C D (some n) = record { answer = refl; config = refl }

module _ (C D : Config) (m : ℕ) (l : m < run_words) (p : Program) where
  short : (q : Request) → is_lent (use_of q) ≡ true → SameAnswer C D (on_lent (use_of q) m (refuse q C) (past_run p q C)) (on_lent (use_of q) m (refuse q D) (past_run p q D))
  short q e =
      let x = lent_short (use_of q) m (refuse q C) (past_run p q C) e l in
      let y = lent_short (use_of q) m (refuse q D) (past_run p q D) e l in
      record { answer = ap (λ (r : Reply). r.answer) x ∙ ap (λ (r : Reply). r.answer) (sym y); config = ap (λ (r : Reply). r.config) x }

  past_unread : (q : Request) → SameAnswer C D (on_lent (use_of q) m (refuse q C) (past_run p q C)) (on_lent (use_of q) m (refuse q D) (past_run p q D))
  past_unread (to_start line) = short (to_start line) refl
  past_unread (to_step place) = short (to_step place) refl
  past_unread (to_run_on budget) = short (to_run_on budget) refl
  past_unread to_report = short to_report refl
  past_unread to_places = short to_places refl
  past_unread (to_name line) = name_unread line C D (get_elem? p.execs line)

module _ (s : List ℕ) where
  pub unread : (q : Request) (n m : ℕ) → m < run_words → (C D : Config) → SameAnswer C D (respond s C (call_as q n m)) (respond s D (call_as q n m))
  unread q n m l C D = rw (reply_by s q C n m, reply_by s q D n m) (go (text_checked s n))
    where
      by : Config → Checked → Reply
      by E t = on_program t (refuse q E) λ p. on_lent (use_of q) m (refuse q E) (past_run p q E)

      go : (t : Checked) → SameAnswer C D (by C t) (by D t)
      go (faulty k i) = record { answer = refl; config = refl }
      go (accepted ds) = past_unread C D m l (program_of ds) q

-- ── a start begins anew: its answer is the same whatever it meets; carried out, so is the configuration, and the run has its words
pub record BegunAnew (m : ℕ) (x y : Reply) : Type 0 where
  pub answer : x.answer ≡ y.answer
  pub config : is_refused x.answer ≡ false → x.config ≡ y.config
  pub wide : is_refused x.answer ≡ false → leb run_words m ≡ true

module _ (s : List ℕ) (n m line : ℕ) (C D : Config) where
  abbrev begun_by : Config → Bool → Option Signature → Reply
  begun_by E b o = cond b (on_line o (refuse (to_start line) E) λ g. reply (started (Ok tt)) (start_config g)) (refuse (to_start line) E 16 0)

  anew_by : (b : Bool) (o : Option Signature) → leb run_words m ≡ b → BegunAnew m (begun_by C b o) (begun_by D b o)
  anew_by true none w = record { answer = refl; config = λ e. absurd (true≢false e); wide = λ e. absurd (true≢false e) }
  anew_by true (some g) w = record { answer = refl; config = λ e. refl; wide = λ e. w }
  anew_by false o w = record { answer = refl; config = λ e. absurd (true≢false e); wide = λ e. absurd (true≢false e) }

  anew_on : (t : Checked) → BegunAnew m (on_program t (refuse (to_start line) C) λ p. begun_by C (leb run_words m) (exec_of p line)) (on_program t (refuse (to_start line) D) λ p. begun_by D (leb run_words m) (exec_of p line))
  anew_on (faulty k i) = record { answer = refl; config = λ e. absurd (true≢false e); wide = λ e. absurd (true≢false e) }
  anew_on (accepted ds) = anew_by (leb run_words m) (exec_of (program_of ds) line) refl

  pub begun_anew : BegunAnew m (respond s C (call_start n m line)) (respond s D (call_start n m line))
  begun_anew = rw (reply_by s (to_start line) C n m, reply_by s (to_start line) D n m) (anew_on (text_checked s n))
