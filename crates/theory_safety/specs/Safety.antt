-- Demand 3: nothing waits forever for a partner that can't come, at each call of every list of calls.
use Rattle.std.specs.Prelude.{ℕ, ◌≡◌, refl, List, [], ◌∷◌, Bool, true, false, Ok, Err}
use Rattle.std.proofs.Common.{sym, ◌∙◌, ap, subst}
use mathlib.Core.List.Memᴰ
use Rattle.std.proofs.lemmas.Bool.{false≢true}
use Rattle.notation.specs.Tree.{Declaration}
use Rattle.calculus.specs.Program.{Program, program_of}
use Rattle.calculus.specs.Accepted.{accepted, checked}
use Rattle.calculus.specs.Configuration.{Config}
use Rattle.calculus.specs.Runs.{run_on}
use Rattle.calculus.specs.Named.{In}
use Rattle.calculus.specs.WellFormed.{WellFormed}
use Rattle.calculus.specs.Machine.{Call, call_start, call_step, call_run_on, call_report, call_places, call_exec_name, Answer, started, stepped, ran_on, reported, surveyed, name_given, Reply, refusal, respond, idle, Exchange, history}
use Rattle.calculus.specs.Demands.{Safe, SafeBetween, SafeExchange, PlainDemand3}
use Rattle.theory_progress.specs.Joints.{joints_fewer}
use Rattle.theory_progress.specs.Progress.{some_open_lem}
use Rattle.theory_preservation.specs.Preserved.{takes_preserves}
use Rattle.theory_preservation.specs.Accepted.{accepted_bodies, accepted_start}
use Rattle.theory_safety.specs.Keeping.{Kept, run_kept, reply_kept}
use Rattle.theory_safety.specs.Replies.{Replied, refuses, begins, carries_out, halts_run, runs, reports, surveys_places, names, unchanged_by, replied, refused_where, halted_answers}

pub safe : {p : Program} {C : Config} → WellFormed p C → Safe p C
safe {p} {C} v = record { well_formed = v; fewer = joints_fewer p C v; some_open = some_open_lem p C v }

abbrev pub has_begun : Answer → Bool
has_begun (started (Ok x)) = true
has_begun (started (Err e)) = false
has_begun (stepped a) = false
has_begun (ran_on a) = false
has_begun (reported a l) = false
has_begun (surveyed a l) = false
has_begun (name_given l n i) = false

-- only a start begins a run
abbrev pub is_start : Call → Bool
is_start (call_start scratch run line) = true
is_start (call_step scratch run place) = false
is_start (call_run_on scratch run budget) = false
is_start (call_report scratch run) = false
is_start (call_places scratch run) = false
is_start (call_exec_name scratch line) = false

pub refusal_begins_none : (C : Config) (c : Call) (n i : ℕ) → has_begun (refusal C c n i).answer ≡ false
refusal_begins_none C (call_start scratch run line) n i = refl
refusal_begins_none C (call_step scratch run place) n i = refl
refusal_begins_none C (call_run_on scratch run budget) n i = refl
refusal_begins_none C (call_report scratch run) n i = refl
refusal_begins_none C (call_places scratch run) n i = refl
refusal_begins_none C (call_exec_name scratch line) n i = refl

pub begun_start : {p : Program} {C : Config} {c : Call} {r : Reply} → Replied p C c r → has_begun r.answer ≡ true → is_start c ≡ true
begun_start {C = C} (refuses {c} n i) e = absurd (false≢true (sym (refusal_begins_none C c n i) ∙ e))
begun_start (begins g h) e = refl
begun_start (carries_out seen D g h) e = absurd (false≢true e)
begun_start (halts_run g h) e = absurd (false≢true e)
begun_start runs e = absurd (false≢true e)
begun_start reports e = absurd (false≢true e)
begun_start surveys_places e = absurd (false≢true e)
begun_start (names n) e = absurd (false≢true e)

-- a start that is carried out
pub begun_kept : {p : Program} (K : Config → Type 0) → Kept p K → {C : Config} {scratch run line : ℕ} {r : Reply} → Replied p C (call_start scratch run line) r → has_begun r.answer ≡ true → K r.config
begun_kept K k (refuses n i) e = absurd (false≢true e)
begun_kept K k (begins {line = line} g h) e = k.begun line g h

module _ (text : List ℕ) (ds : List Declaration) (ok : checked text ≡ accepted ds) where
  abbrev p : Program
  p = program_of ds

  -- ── every reply keeps well-formedness
  pub well_formed_kept : Kept p (WellFormed p)
  well_formed_kept = record { begun = accepted_start text ds ok; taken = takes_preserves p (accepted_bodies text ds ok) }

  pub run_keeps : (C : Config) → WellFormed p C → (budget : ℕ) → WellFormed p (run_on p C budget).config
  run_keeps = run_kept (WellFormed p) well_formed_kept

  pub reply_keeps : {C : Config} {c : Call} {r : Reply} → WellFormed p C → Replied p C c r → WellFormed p r.config
  reply_keeps = reply_kept (WellFormed p) well_formed_kept

  pub begun_well_formed : {C : Config} {scratch run line : ℕ} {r : Reply} → Replied p C (call_start scratch run line) r → has_begun r.answer ≡ true
      → WellFormed p r.config
  begun_well_formed = begun_kept (WellFormed p) well_formed_kept

  safe_between : (C : Config) → WellFormed p C → (c : Call) → SafeBetween p C c
  safe_between C v (call_start scratch run line) = tt
  safe_between C v (call_step scratch run i) = tt
  safe_between C v (call_run_on scratch run budget) = λ b h. safe (run_keeps C v b)
  safe_between C v (call_report scratch run) = tt
  safe_between C v (call_places scratch run) = tt
  safe_between C v (call_exec_name scratch line) = tt

  -- ── every exchange is safe
  abbrev exchanged : Config → Call → Exchange
  exchanged C c = record { before = C; call = c; after = respond text C c }

  -- a call that meets a well-formed configuration
  pub exchange_safe : (C : Config) → WellFormed p C → (c : Call) → SafeExchange p (exchanged C c)
  exchange_safe C v c =
      let r = replied text ds ok C c in
      record { safe = safe (reply_keeps v r); between = safe_between C v c; refusals = refused_where text ds ok C c; unchanged = unchanged_by r; halted = halted_answers text ds ok C c }

  -- a start that is carried out, whatever it meets
  pub start_safe : (C : Config) (scratch run line : ℕ) → WellFormed p (respond text C (call_start scratch run line)).config
      → SafeExchange p (exchanged C (call_start scratch run line))
  start_safe C scratch run line v =
      record {
        safe = safe v;
        between = tt;
        refusals = refused_where text ds ok C (call_start scratch run line);
        unchanged = unchanged_by (replied text ds ok C (call_start scratch run line));
        halted = halted_answers text ds ok C (call_start scratch run line);
      }

  history_safe : (C : Config) → WellFormed p C → (calls : List Call) (m : Exchange) → In m (history text C calls) → SafeExchange p m
  history_safe C v [] m k = absurd (Memᴰ.not-nil k)
  history_safe C v (c ∷ cs) m (Memᴰ.head e) = subst (SafeExchange p) (sym e) (exchange_safe C v c)
  history_safe C v (c ∷ cs) m (Memᴰ.tail k) = history_safe (respond text C c).config (reply_keeps v (replied text ds ok C c)) cs m k

  -- a list of calls that begins with a start carried out
  run_safe : (C : Config) (scratch run line : ℕ) (calls : List Call) → (respond text C (call_start scratch run line)).answer ≡ started (Ok tt)
      → (m : Exchange) → In m (history text C (call_start scratch run line ∷ calls)) → SafeExchange p m
  run_safe C scratch run line calls e m k = go k
    where
      v : WellFormed p (respond text C (call_start scratch run line)).config
      v = begun_well_formed (replied text ds ok C (call_start scratch run line)) (ap has_begun e)

      go : In m (history text C (call_start scratch run line ∷ calls)) → SafeExchange p m
      go (Memᴰ.head z) = subst (SafeExchange p) (sym z) (start_safe C scratch run line v)
      go (Memᴰ.tail k) = history_safe (respond text C (call_start scratch run line)).config v calls m k

pub plain_demand3 : PlainDemand3
plain_demand3 = record { at_each_call = λ text ds scratch run line calls ok. run_safe text ds ok idle scratch run line calls }
