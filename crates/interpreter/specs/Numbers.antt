-- Demand 1 of the code: every refusal bears one of the list's numbers, and leaves the run. The plain machine never gives 18.
use Rattle.std.specs.Prelude.{ℕ, ◌≤◌, ◌≡◌, refl, ◌≢◌, ◌⊎◌, List, Bool, true, false}
use Rattle.std.proofs.Common.{sym, ◌∙◌, ap, subst, inl, inr, arith}
use Rattle.calculus.specs.Answers.{started_as, stepped_as, ran_on_as, counted_as}
use Rattle.calculus.specs.Configuration.{Config}
use Rattle.calculus.specs.Demands.{is_refused}
use Rattle.calculus.specs.Machine.{Call, call_start, call_step, call_run_on, call_report, call_places, call_exec_name, Answer, refusal, respond, idle}
use Rattle.theory_refusals.specs.Refusals.{refusal_of, offset_of, ByArguments, Refuses, refuses_as, respond_numbered, never_14, respond_unrefused}
use Rattle.interpreter.specs.Entries.{EntryCall, call_of, RunUse, anew, read, unlent, use_of, config_of, HoldsRun, keeps_run, left_as, Reached, plain_reply, Answers}
use Rattle.interpreter.specs.Calls.{Demand1}

-- ── 18
not_by_arguments : (c : Call) (n : ℕ) → ByArguments c n → n ≢ 18
not_by_arguments (call_start scratch run line) n (inl e) z = absurd (omega (arith, e, z))
not_by_arguments (call_start scratch run line) n (inr e) z = absurd (omega (arith, e, z))
not_by_arguments (call_step scratch run place) n (inl e) z = absurd (omega (arith, e, z))
not_by_arguments (call_step scratch run place) n (inr b) z = absurd (omega (arith, b, z))
not_by_arguments (call_run_on scratch run budget) n e z = absurd (omega (arith, e, z))
not_by_arguments (call_report scratch run) n e z = absurd (omega (arith, e, z))
not_by_arguments (call_places scratch run) n e z = absurd (omega (arith, e, z))
not_by_arguments (call_exec_name scratch line) n e z = absurd (omega (arith, e, z))

not_18 : (c : Call) (n i : ℕ) → Refuses c n i → n ≢ 18
not_18 c n i (inl b) z = absurd (omega (arith, b, z))
not_18 c n i (inr (inl e, o)) z = absurd (omega (arith, e, z))
not_18 c n i (inr (inr e, o)) z = not_by_arguments c n e z

pub never_18 : (s : List ℕ) (C : Config) (c : Call) → refusal_of (respond s C c).answer ≢ 18
never_18 s C c = go (is_refused (respond s C c).answer) refl
  where
    go : (b : Bool) → is_refused (respond s C c).answer ≡ b → refusal_of (respond s C c).answer ≢ 18
    go true e = not_18 c (refusal_of (respond s C c).answer) (offset_of (respond s C c).answer) (refuses_as s C c e)
    go false e = λ z. absurd (omega (arith, (respond_unrefused s C c e).0, z))

-- ── demand 1
abbrev InList : Answer → Type 0
InList a = ((1 ≤ refusal_of a) × (refusal_of a ≤ 22)) × (refusal_of a ≢ 14)

-- the answer of a reply
by_reply : (s : List ℕ) (C : Config) (c : Call) {a : Answer} → a ≡ (respond s C c).answer → is_refused a ≡ true → InList a
by_reply s C c e r = subst InList (sym e) (let f = ap is_refused (sym e) ∙ r in (respond_numbered s C c f, never_14 s C c f))

eighteen : (c : Call) → InList (refusal idle c 18 0).answer
unfolding started_as stepped_as ran_on_as counted_as
eighteen (call_start scratch run line) = omega arith
eighteen (call_step scratch run place) = omega arith
eighteen (call_run_on scratch run budget) = omega arith
eighteen (call_report scratch run) = omega arith
eighteen (call_places scratch run) = omega arith
eighteen (call_exec_name scratch line) = omega arith

-- a refusal leaves the run
refused_keeps : (u : RunUse) (a : Answer) → is_refused a ≡ true → keeps_run u a ≡ true
refused_keeps anew a e = e
refused_keeps read a e = e
refused_keeps unlent a e = refl

module _ (s : List ℕ) (m : EntryCall) (A : Answers s m) (r : is_refused m.answer ≡ true) where
  numbered : InList m.answer
  numbered = go A.either
    where
      go : (Reached s m × (¬ HoldsRun s m.lent.run)) ⊎ (Reached s m → HoldsRun s m.lent.run) → InList m.answer
      go (inl (h, d)) = subst InList (sym (A.stranger h d).0.is) (eighteen (call_of m))
      go (inr k) = by_reply s (config_of s m.lent.run) (call_of m) (A.known k).0.is r

  unchanged : m.left.run ≡ m.lent.run
  unchanged = go A.either
    where
      go : (Reached s m × (¬ HoldsRun s m.lent.run)) ⊎ (Reached s m → HoldsRun s m.lent.run) → m.left.run ≡ m.lent.run
      go (inl (h, d)) = (A.stranger h d).1
      go (inr k) =
          let y = A.known k in
          subst (left_as s m.lent.run m.left.run (plain_reply s m).config) (refused_keeps (use_of m.request) _ (ap is_refused (sym y.0.is) ∙ r)) y.1.is

pub demand1 : Demand1
demand1 = record { numbered = numbered; unchanged = unchanged }
