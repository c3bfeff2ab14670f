-- The step at a place carries out exactly what the reduction rules say, and halts and lacks exactly where they do.
use Rattle.std.specs.Prelude.{ℕ, ◌≡◌, refl, ◌↔◌, ◌⊎◌, Bool, false}
use Rattle.std.proofs.Common.{sym, ◌∙◌, ap, subst, inl, inr, true≢false, arith}
use Rattle.std.proofs.Math.Option.{Option, some, none}
use Rattle.std.proofs.Math.Bool.{true}
use Rattle.std.proofs.lemmas.Bool.{false≢true}
use Rattle.calculus.specs.Program.{Program}
use Rattle.calculus.specs.Configuration.{Process, Config, at}
use Rattle.calculus.specs.Steps.{Outcome, carried, uncaught, not_open, lacking, step_of, step, is_open_by, lacks_by}
use Rattle.calculus.specs.Runs.{openness}
use Rattle.calculus.specs.declared.answers.Seen.{Seen}
use Rattle.calculus.specs.Reduces.{Reduces, Halts, Lacks, Applies}
use Rattle.theory_reductions.specs.CarriedOut.{carried_out_lem, halts_out, lacks_out}
use Rattle.theory_reductions.specs.Ruled.{Ruled, ruled_reduces, ruled_halts, ruled_shut, ruled_short, step_ruled}

module _ (p : Program) (C : Config) (i : ℕ) where
  reduced : {seen : Seen} {D : Config} → Ruled p C i (carried seen D) → Reduces p C i seen D
  reduced (ruled_reduces r) = r

  halted_by : Ruled p C i uncaught → Halts C i
  halted_by (ruled_halts h) = h

  lacked : Ruled p C i lacking → Lacks C i
  lacked (ruled_short l) = l

  pub step_iff : {seen : Seen} {D : Config} → (step p C i ≡ carried seen D) ↔ Reduces p C i seen D
  step_iff = (λ e. reduced (subst (Ruled p C i) e (step_ruled p C i)), carried_out_lem p)

  pub halts_iff : (step p C i ≡ uncaught) ↔ Halts C i
  halts_iff = (λ e. halted_by (subst (Ruled p C i) e (step_ruled p C i)), halts_out p)

  pub lacks_iff : (step p C i ≡ lacking) ↔ Lacks C i
  lacks_iff = (λ e. lacked (subst (Ruled p C i) e (step_ruled p C i)), lacks_out p)

  -- a step is open exactly where a rule applies, the halt of the run aside
  opened : {r : Outcome} → Ruled p C i r → is_open_by r ≡ true → Applies p C i
  opened (ruled_reduces {seen = s} {D = D} r) e = inl (s, D, r)
  opened (ruled_halts h) e = inr (inl h)
  opened ruled_shut e = absurd (false≢true e)
  opened (ruled_short l) e = inr (inr l)

  opens : Applies p C i → is_open_by (step p C i) ≡ true
  opens (inl (s, D, r)) = ap is_open_by (carried_out_lem p r)
  opens (inr (inl h)) = ap is_open_by (halts_out p h)
  opens (inr (inr l)) = ap is_open_by (lacks_out p l)

  pub applies_iff : (is_open_by (step p C i) ≡ true) ↔ Applies p C i
  applies_iff = (opened (step_ruled p C i), opens)

  -- where a rule applies, a process is
  pub applies_place : Applies p C i → (q : Process) × (at C i ≡ some q)
  unfolding step
  applies_place o = go (at C i) (opens o)
    where
      go : (y : Option Process) → is_open_by (step_of p C i y) ≡ true → (q : Process) × (y ≡ some q)
      go none e = absurd (false≢true e)
      go (some q) e = (q, refl)

  -- ── the rules leave no choice at a place
  abbrev seen_by : Seen → Outcome → Seen
  seen_by s (carried t D) = t
  seen_by s uncaught = s
  seen_by s not_open = s
  seen_by s lacking = s

  abbrev config_by : Outcome → Config
  config_by (carried t D) = D
  config_by uncaught = C
  config_by not_open = C
  config_by lacking = C

  pub one_reduction : {s t : Seen} {D E : Config} → Reduces p C i s D → Reduces p C i t E → (s ≡ t) × (D ≡ E)
  one_reduction {s} r u = let e = sym (carried_out_lem p r) ∙ carried_out_lem p u in (ap (seen_by s) e, ap config_by e)

  pub reduces_or_lacks : {s : Seen} {D : Config} → Reduces p C i s D → Lacks C i → ⊥
  reduces_or_lacks r l = true≢false (ap lacks_by (sym (lacks_out p l) ∙ carried_out_lem p r))

  pub halts_or_lacks : Halts C i → Lacks C i → ⊥
  halts_or_lacks h l = true≢false (ap lacks_by (sym (lacks_out p l) ∙ halts_out p h))

  pub reduces_or_halts : {s : Seen} {D : Config} → Reduces p C i s D → Halts C i → ⊥
  reduces_or_halts r h = true≢false (ap is_uncaught (sym (halts_out p h) ∙ carried_out_lem p r))
    where
      is_uncaught : Outcome → Bool
      is_uncaught (carried t D) = false
      is_uncaught uncaught = true
      is_uncaught not_open = false
      is_uncaught lacking = false

  -- ── what `places` tells of a place, by the rules: of a halted run, that no step is open
  -- the rules carry the step out, or say that it halts the run
  abbrev pub Taken : Type 0
  Taken = ((seen : Seen) × (D : Config) × Reduces p C i seen D) ⊎ Halts C i

  pub open_told : (openness C.halted (step p C i) ≡ 1) ↔ ((C.halted ≡ false) × Taken)
  open_told = (told C.halted refl (step_ruled p C i), λ (g, t). ap (λ b. openness b (step p C i)) g ∙ takes t)
    where
      told : (b : Bool) → C.halted ≡ b → {r : Outcome} → Ruled p C i r → openness b r ≡ 1 → (C.halted ≡ false) × Taken
      told true g r e = absurd (omega (arith, e))
      told false g (ruled_reduces {seen = s} {D = D} r) e = (g, inl (s, D, r))
      told false g (ruled_halts h) e = (g, inr h)
      told false g ruled_shut e = absurd (omega (arith, e))
      told false g (ruled_short l) e = absurd (omega (arith, e))

      takes : Taken → openness false (step p C i) ≡ 1
      takes (inl (s, D, r)) = ap (openness false) (carried_out_lem p r)
      takes (inr h) = ap (openness false) (halts_out p h)

  pub lacking_told : (openness C.halted (step p C i) ≡ 2) ↔ ((C.halted ≡ false) × Lacks C i)
  lacking_told = (told C.halted refl (step_ruled p C i), λ (g, l). ap (λ b. openness b (step p C i)) g ∙ ap (openness false) (lacks_out p l))
    where
      told : (b : Bool) → C.halted ≡ b → {r : Outcome} → Ruled p C i r → openness b r ≡ 2 → (C.halted ≡ false) × Lacks C i
      told true g r e = absurd (omega (arith, e))
      told false g (ruled_reduces r) e = absurd (omega (arith, e))
      told false g (ruled_halts h) e = absurd (omega (arith, e))
      told false g ruled_shut e = absurd (omega (arith, e))
      told false g (ruled_short l) e = (g, l)
