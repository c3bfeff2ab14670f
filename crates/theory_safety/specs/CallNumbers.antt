-- "numbers are never given twice in a run", of the answers to calls: a step's and a run-on's.
use Rattle.std.specs.Prelude.{ℕ, zero, suc, ◌≤◌, ◌≡◌, refl, List, [], ◌∷◌, ◌++◌, true, false, Ok, Err}
use Rattle.std.proofs.Common.{arith, sym, ◌∙◌, ap, subst, true≢false}
use Rattle.std.proofs.lemmas.Bool.{false≢true}
use Rattle.notation.specs.Tree.{Declaration}
use Rattle.calculus.specs.Program.{Program, program_of}
use Rattle.calculus.specs.Accepted.{accepted, checked}
use Rattle.calculus.specs.Configuration.{Config}
use Rattle.calculus.specs.Runs.{report, run_on}
use Rattle.calculus.specs.Named.{In, NoneTwice}
use Rattle.calculus.specs.Machine.{Call, call_start, call_step, call_run_on, call_report, call_places, call_exec_name, Answer, started, stepped, ran_on, reported, surveyed, name_given, Reply, refusal, respond, Exchange, history}
use Rattle.calculus.specs.declared.answers.RanOn.{RanOn}
use Rattle.calculus.specs.declared.answers.Stepped.TheVariants as steps
use Rattle.calculus.specs.declared.answers.RanOn.TheVariants as runs
use Rattle.theory_progress.specs.RunOn.{Ended, run_on_ends, quietly_to}
use Rattle.theory_safety.specs.Replies.{Replied, refuses, begins, carries_out, halts_run, runs as ran, reports as reported-open, surveys_places, names, replied, refusal_config}
use Rattle.theory_safety.specs.Safety.{has_begun}
use Rattle.theory_reductions.specs.Halting.{carried_counts, taken_counts}
use Rattle.theory_safety.specs.NeverTwice.{number_of, InOrder, one_step, order_once, order_new, start_once}

-- the number under which an answer shows a channel passed out, before those shown later
abbrev pub shown_in : Answer → List ℕ → List ℕ
shown_in (started a) r = r
shown_in (stepped (Ok (steps.Carried seen))) r = number_of seen r
shown_in (stepped (Ok steps.Uncaught)) r = r
shown_in (stepped (Err e)) r = r
shown_in (ran_on (Ok (runs.Uncaught t))) r = r
shown_in (ran_on (Ok (runs.Shown seen t))) r = number_of seen r
shown_in (ran_on (Ok (runs.Done t))) r = r
shown_in (ran_on (Ok (runs.Full t))) r = r
shown_in (ran_on (Ok (runs.Stopped t))) r = r
shown_in (ran_on (Err e)) r = r
shown_in (reported a l) r = r
shown_in (surveyed a l) r = r
shown_in (name_given l n i) r = r

abbrev pub numbers_shown : List Exchange → List ℕ
numbers_shown [] = []
numbers_shown (m ∷ ms) = shown_in m.after.answer (numbers_shown ms)

-- "A start carried out begins the run anew": calls within one run
abbrev pub OneRun : List Exchange → Type 0
OneRun [] = Unit {0}
OneRun (m ∷ ms) = (has_begun m.after.answer ≡ false) × OneRun ms

-- the configuration after calls
abbrev pub config_after : List ℕ → Config → List Call → Config
config_after s C [] = C
config_after s C (c ∷ cs) = config_after s (respond s C c).config cs

-- ── one call
shows_none : (C : Config) (c : Call) (n i : ℕ) (l : List ℕ) → shown_in (refusal C c n i).answer l ≡ l
shows_none C (call_start scratch run line) n i l = refl
shows_none C (call_step scratch run place) n i l = refl
shows_none C (call_run_on scratch run budget) n i l = refl
shows_none C (call_report scratch run) n i l = refl
shows_none C (call_places scratch run) n i l = refl
shows_none C (call_exec_name scratch line) n i l = refl

quiet_given : (p : Program) (n : ℕ) (C D : Config) → quietly_to p n C D → D.given ≡ C.given
quiet_given p zero C D e = ap (λ (X : Config). X.given) (sym e)
quiet_given p (suc n) C D (E, c, h) = quiet_given p n E D h ∙ taken_counts c.takes

module _ (p : Program) (C : Config) (l : List ℕ) (k : ℕ) where
  ran_shows : (budget n : ℕ) (a : RanOn) (D : Config) → Ended p budget n C a D → InOrder D.given l k → InOrder C.given (shown_in (ran_on (Ok a)) l) k
  ran_shows budget zero (runs.Shown seen t) D (b, h, g) o = absurd h
  ran_shows budget (suc n) (runs.Shown seen t) D (b, (E, q, c, x), g) o =
      subst (λ g. InOrder g (number_of seen l) k) (quiet_given p n C E q) (one_step E.given D.given k seen l (taken_counts c.takes) o)
  ran_shows budget n (runs.Uncaught t) D h o = subst (λ g. InOrder g l k) (quiet_given p n C D h.1) o
  ran_shows budget n (runs.Done t) D h o = subst (λ g. InOrder g l k) (quiet_given p n C D h.1) o
  ran_shows budget n (runs.Full t) D h o = subst (λ g. InOrder g l k) (quiet_given p n C D h.1) o
  ran_shows budget n (runs.Stopped t) D h o = subst (λ g. InOrder g l k) (quiet_given p n C D h.1) o

  reply_shows : {c : Call} {r : Reply} → Replied p C c r → has_begun r.answer ≡ false → InOrder r.config.given l k → InOrder C.given (shown_in r.answer l) k
  reply_shows (refuses {c} n i) e o =
      subst (λ x. InOrder C.given x k) (sym (shows_none C c n i l)) (subst (λ (D : Config). InOrder D.given l k) (refusal_config C c n i) o)
  reply_shows (begins g h) e o = absurd (true≢false e)
  reply_shows (halts_run g h) e o = o
  reply_shows (carries_out {place = place} seen D g h) e o = one_step C.given D.given k seen l (carried_counts p C place seen h) o
  reply_shows (ran {budget = budget}) e o = ran_shows budget _ (run_on p C budget).answer (run_on p C budget).config (run_on_ends p C budget) o
  reply_shows reported-open e o = o
  reply_shows surveys_places e o = o
  reply_shows (names n) e o = o

start_shows : {p : Program} {C : Config} {scratch run line : ℕ} {r : Reply} → Replied p C (call_start scratch run line) r → has_begun r.answer ≡ true
    → {l : List ℕ} {h : ℕ} → InOrder r.config.given l h → NoneTwice (report r.config ++ l)
start_shows (refuses n i) e o = absurd (false≢true e)
start_shows (begins g z) e o = start_once g o

-- ── the calls of a run
module _ (s : List ℕ) (ds : List Declaration) (ok : checked s ≡ accepted ds) where
  -- the numbers that the answers show follow those given before, in order
  pub shown_in_order : (C : Config) (cs : List Call) → OneRun (history s C cs) → InOrder C.given (numbers_shown (history s C cs)) (config_after s C cs).given
  shown_in_order C [] h = record { count = 0; numbers = refl; after = omega arith }
  shown_in_order C (c ∷ cs) (e, h) =
      reply_shows (program_of ds) C (numbers_shown (history s (respond s C c).config cs)) (config_after s C (c ∷ cs)).given (replied s ds ok C c) e
      (shown_in_order (respond s C c).config cs h)

  module _ (C : Config) (cs : List Call) (h : OneRun (history s C cs)) where
    -- no answer shows a number that another one shows, or that was given before
    pub shown_once : NoneTwice (numbers_shown (history s C cs))
    shown_once = order_once (shown_in_order C cs h)

    pub shown_new : (m : ℕ) → In m (numbers_shown (history s C cs)) → C.given ≤ m
    shown_new m i = order_new (shown_in_order C cs h) m i

  -- from a start carried out on: the numbers of the exec process's channels, and those shown after it
  module _ (C : Config) (scratch run line : ℕ) (cs : List Call) where
    abbrev begun : Reply
    begun = respond s C (call_start scratch run line)

    pub shown_never_twice : has_begun begun.answer ≡ true → OneRun (history s begun.config cs)
        → NoneTwice (report begun.config ++ numbers_shown (history s begun.config cs))
    shown_never_twice b h = start_shows (replied s ds ok C (call_start scratch run line)) b (shown_in_order begun.config cs h)
