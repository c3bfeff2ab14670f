-- A type that reaches only 1, * and + does so after each message too, and through a name.
use Rattle.std.specs.Prelude.{◌≡◌}
use Rattle.std.proofs.Common.{sym, ◌∙◌}
use Rattle.std.proofs.Math.Path.{ap, subst}
use Rattle.std.proofs.Math.Option.{some, none-ne-some, some-injective}
use Rattle.std.proofs.Math.Bool.{cond}
use Rattle.notation.specs.Tree.{Name, Ty, unit, named, tensor, par, lolli, plus, with, Alternatives, alternative}
use Rattle.calculus.specs.Types.{provided, used, unfolded, Passing, passing, Choosing, choosing, labelled}
use Rattle.calculus.specs.Program.{Program}
use Rattle.calculus.specs.Outward.{ReachesOther, at_par, at_lolli, at_with, in_first, in_second, in_choice, SomeReaches, at_this, at_another, Outward}
use Rattle.theory_derivations.specs.Named.{by_test}
use Rattle.theory_derivations.specs.Reached.{standing_reaches}

-- ── the exec rule is kept
module _ (p : Program) where
  pub outward_standing : (A : Ty Name) → Outward p A → Outward p (unfolded p.types A)
  outward_standing A o = λ r. o (standing_reaches p A r)

  -- what goes over an outward channel is provided, used by the outside afterwards, and outward
  pub outward_passing : (T : Ty Name) (t : Passing) → passing T ≡ some t → Outward p T → (t.sender ≡ provided) × (t.side ≡ used) × Outward p t.what × Outward p t.after
  unfolding passing
  outward_passing unit t e o = absurd (none-ne-some t e)
  outward_passing (named n) t e o = absurd (none-ne-some t e)
  outward_passing (tensor A B) t e o =
      let z = some-injective _ _ e in (
        ap (λ (t : Passing). t.sender) (sym z),
        ap (λ (t : Passing). t.side) (sym z),
        subst (λ (t : Passing). Outward p t.what) z (λ r. o (in_first r)),
        subst (λ (t : Passing). Outward p t.after) z (λ r. o (in_second r)),
      )
  outward_passing (par A B) t e o = absurd (o at_par)
  outward_passing (lolli A B) t e o = absurd (o at_lolli)
  outward_passing (plus r) t e o = absurd (none-ne-some t e)
  outward_passing (with r) t e o = absurd (none-ne-some t e)

  labelled_reaches : (l : Name) (r : Alternatives Name) (A : Ty Name) → labelled l r ≡ some A → ReachesOther p A → SomeReaches p r
  unfolding labelled
  labelled_reaches l Alternatives.none A e h = absurd (none-ne-some A e)
  labelled_reaches l (alternative m B r) A e h =
      by_test (λ b. cond b (some B) (labelled l r) ≡ some A → SomeReaches p (alternative m B r)) l m
      (λ _ z. at_this (subst (ReachesOther p) (sym (some-injective _ _ z)) h)) (λ _ z. at_another (labelled_reaches l r A z h)) e

  pub outward_choosing : (T : Ty Name) (t : Choosing) (l : Name) (A : Ty Name) → choosing T ≡ some t → labelled l t.labels ≡ some A → Outward p T → Outward p A
  unfolding choosing
  outward_choosing unit t l A e z o = absurd (none-ne-some t e)
  outward_choosing (named n) t l A e z o = absurd (none-ne-some t e)
  outward_choosing (tensor B D) t l A e z o = absurd (none-ne-some t e)
  outward_choosing (par B D) t l A e z o = absurd (none-ne-some t e)
  outward_choosing (lolli B D) t l A e z o = absurd (none-ne-some t e)
  outward_choosing (plus r) t l A e z o = λ h. o (in_choice (labelled_reaches l r A (ap (λ (t : Choosing). labelled l t.labels) (some-injective _ _ e) ∙ z) h))
  outward_choosing (with r) t l A e z o = absurd (o at_with)
