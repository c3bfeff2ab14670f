-- A script without warnings meets no label that is left out: after each call, whatever is called in whatever order, each label that is sent has a branch where it comes.
use Rattle.std.specs.Prelude.{ℕ, ◌≡◌, refl, ◌≢◌, Ok}
use Rattle.std.proofs.Common.{sym, ap, subst}
use mathlib.Core.List.Memᴰ
use mathlib.Core.List.{List, [], ◌∷◌, map, cons-ne-nil}
use Rattle.std.proofs.Math.Option.{some, none}
use Rattle.notation.specs.Tree.{Name, Located, Proc, send_label, recv_label, Branches, Declaration, declare_type, declare_proc, declare_exec}
use Rattle.calculus.specs.Program.{Signature, Program, program_of, signature_context}
use Rattle.calculus.specs.Accepted.{accepted, checked}
use Rattle.calculus.specs.Configuration.{End, Process, Config, Holder, at_process}
use Rattle.calculus.specs.Steps.{branch_of}
use Rattle.calculus.specs.Runs.{start_config, exec_of}
use Rattle.calculus.specs.Warnings.{Missing, missing, warning_in, own_warnings, warnings}
use Rattle.calculus.specs.Declarations.{gather}
use Rattle.calculus.specs.Named.{In}
use Rattle.calculus.specs.WellFormed.{WellFormed}
use Rattle.calculus.specs.Reduces.{Runs, Holds, Answers}
use Rattle.calculus.specs.Machine.{Call, call_start, started, respond, idle, Exchange, history}
use Rattle.calculus.specs.declared.answers.Seen.{Seen}
use Rattle.theory_reductions.specs.StepIff.{step_iff}
use Rattle.theory_reductions.specs.Halting.{Takes, carries_out, halts}
use Rattle.theory_ends.specs.Lists.{nil_left, nil_right}
use Rattle.theory_derivations.specs.Named.{lookup_in}
use Rattle.theory_preservation.specs.Each.{each_one}
use Rattle.theory_preservation.specs.Start.{started_context}
use Rattle.theory_preservation.specs.Accepted.{exec_process}
use Rattle.theory_preservation.specs.ToInvariant.{inv_iff}
use Rattle.theory_preservation.specs.Spotless.{Spotless, SpotlessBodies, reduces_spotless, takes_all}
use Rattle.theory_safety.specs.Keeping.{Kept, reply_kept}
use Rattle.theory_safety.specs.Replies.{replied}
use Rattle.theory_safety.specs.Safety.{has_begun, begun_kept, well_formed_kept}

-- each label that is sent has a branch where it comes
pub record TakesAll (C : Config) : Type 0 where
  pub branch : {j o o' : ℕ} {q : Process} {c l c' : Located} {P : Proc} {B : Branches} {e : End} {h : Holder}
      → Runs C j q (send_label o c l P) → Holds C q c e (at_process h) → Answers h c' (recv_label o' c' B) → branch_of l.name B ≢ none

-- ── a script without warnings: no body leaves out a label
no_warning : (n : Located) (l : List Missing) → map (warning_in n) l ≡ [] → l ≡ []
no_warning n [] e = refl
no_warning n (m ∷ l) e = absurd (cons-ne-nil _ _ e)

own_spotless : (p : Program) (ds : List Declaration) (n : Name) (s : Signature) → In (n, s) (program_of ds).processes → gather (own_warnings p) ds ≡ [] → missing p (signature_context s) s.body ≡ []
unfolding program_of
own_spotless p [] n s i e = absurd (Memᴰ.not-nil i)
own_spotless p (declare_type m A ∷ ds) n s i e = own_spotless p ds n s i e
own_spotless p (declare_exec m ∷ ds) n s i e = own_spotless p ds n s i e
own_spotless p (declare_proc m xs ys P ∷ ds) n s (Memᴰ.tail i) e = own_spotless p ds n s i (nil_right (own_warnings p (declare_proc m xs ys P)) _ e)
own_spotless p (declare_proc m xs ys P ∷ ds) n s (Memᴰ.head h) e =
    subst (λ (x : Name × Signature). missing p (signature_context x.1) x.1.body ≡ []) (sym h) (no_warning m _ (nil_left (own_warnings p (declare_proc m xs ys P)) _ e))

module _ (text : List ℕ) (ds : List Declaration) (ok : checked text ≡ accepted ds) (none_told : warnings ds ≡ []) where
  abbrev p : Program
  p = program_of ds

  spotless_bodies : SpotlessBodies p
  unfolding warnings
  spotless_bodies n s e = own_spotless p ds n s (lookup_in n p.processes e) none_told

  -- what a run keeps
  pub record Whole (C : Config) : Type 0 where
    pub well_formed_lem : WellFormed p C
    pub spotless : Spotless p C

  whole_begun : (line : ℕ) (s : Signature) → exec_of p line ≡ some s → Whole (start_config s)
  unfolding start_config
  whole_begun line s e =
      let x = exec_process text ds ok line s e in
      record {
        well_formed_lem = (well_formed_kept text ds ok).begun line s e;
        spotless = each_one _ _ (subst (λ G. missing p G s.body ≡ []) (sym (started_context s x.uses_nothing)) (spotless_bodies x.name s x.declared));
      }

  taken_spotless : {C : Config} → Whole C → {i : ℕ} {seen : Seen} {D : Config} → Takes p C i seen D → Spotless p D
  taken_spotless {C} w {i} (carries_out e) = reduces_spotless ((inv_iff p C).1 w.well_formed_lem).0 w.spotless spotless_bodies ((step_iff p C i).0 e)
  taken_spotless w (halts e) = w.spotless

  whole_kept : Kept p Whole
  whole_kept = record { begun = whole_begun; taken = λ w g t. record { well_formed_lem = (well_formed_kept text ds ok).taken w.well_formed_lem g t; spotless = taken_spotless w t } }

  takes_all_there : {C : Config} → Whole C → TakesAll C
  takes_all_there {C} w = record { branch = takes_all ((inv_iff p C).1 w.well_formed_lem).0 w.spotless }

  history_whole : (C : Config) → Whole C → (calls : List Call) (m : Exchange) → In m (history text C calls) → Whole m.after.config
  history_whole C w [] m k = absurd (Memᴰ.not-nil k)
  history_whole C w (c ∷ cs) m (Memᴰ.head e) = subst (λ (m : Exchange). Whole m.after.config) (sym e) (reply_kept Whole whole_kept w (replied text ds ok C c))
  history_whole C w (c ∷ cs) m (Memᴰ.tail k) = history_whole (respond text C c).config (reply_kept Whole whole_kept w (replied text ds ok C c)) cs m k

  -- after each call of every list that begins with a start carried out
  pub spotless_takes_all : (scratch run line : ℕ) (calls : List Call) → (respond text idle (call_start scratch run line)).answer ≡ started (Ok tt)
      → (m : Exchange) → In m (history text idle (call_start scratch run line ∷ calls)) → TakesAll m.after.config
  spotless_takes_all scratch run line calls e m k = takes_all_there (go k)
    where
      w : Whole (respond text idle (call_start scratch run line)).config
      w = begun_kept Whole whole_kept (replied text ds ok idle (call_start scratch run line)) (ap has_begun e)

      go : In m (history text idle (call_start scratch run line ∷ calls)) → Whole m.after.config
      go (Memᴰ.head z) = subst (λ (m : Exchange). Whole m.after.config) (sym z) w
      go (Memᴰ.tail k) = history_whole (respond text idle (call_start scratch run line)).config w calls m k
