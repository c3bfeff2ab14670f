-- What refusal 18 asks of links, joints and outside numbers, in one test.
use Rattle.std.specs.Prelude.{◌≡◌, refl, Bool, true, false, ◌&&◌}
use Rattle.std.proofs.Common.{sym, ◌∙◌}
use Rattle.calculus.specs.Configuration.{Config}
use Rattle.theory_decision.specs.Links.{links_lead, handlers_linked, linked_once}
use Rattle.run_words.specs.Raw.{RawConfig}
use Rattle.run_joints.specs.Answers.{Answers}
use Rattle.run_joints.specs.Numbers.{numbers_rise, numbers_given}
use Rattle.run_joints.specs.Circles.{circle_free}

unfoldable pub well_joined : Config → Bool
well_joined C = links_lead C && handlers_linked C && linked_once C && circle_free C && numbers_rise C && numbers_given C

-- ── it fails where one of its parts does
abbrev pub Part : (Config → Bool) → Type 0
Part test = (C : Config) → test C ≡ false → well_joined C ≡ false

and_no : (a : Bool) → a && false ≡ false
and_no true = refl
and_no false = refl

pub lead_part : Part links_lead
unfolding well_joined
lead_part C e = rw e

pub linked_part : Part handlers_linked
unfolding well_joined
linked_part C e = rw (e, and_no)

pub once_part : Part linked_once
unfolding well_joined
once_part C e = rw (e, and_no)

pub free_part : Part circle_free
unfolding well_joined
free_part C e = rw (e, and_no)

pub rise_part : Part numbers_rise
unfolding well_joined
rise_part C e = rw (e, and_no)

module _ {C : RawConfig} where
  pub refuses : {test : Config → Bool} {a : Bool} → Part test → Answers a test C → a ≡ false → Answers false well_joined C
  refuses part p e = record { is = λ n t m. sym (part _ (sym (p.is n t m) ∙ e)) }

  -- ── and passes where all do
  pub accepts : {a b c d e r : Bool} → Answers a links_lead C → a ≡ true → Answers b handlers_linked C → b ≡ true → Answers c linked_once C → c ≡ true → Answers d circle_free C → d ≡ true
      → Answers e numbers_rise C → e ≡ true → Answers r numbers_given C → Answers r well_joined C
  unfolding well_joined
  accepts p₁ e₁ p₂ e₂ p₃ e₃ p₄ e₄ p₅ e₅ p₆ = record {
    is = λ n t m i.
        (sym e₁ ∙ p₁.is n t m) i && (sym e₂ ∙ p₂.is n t m) i && (sym e₃ ∙ p₃.is n t m) i && (sym e₄ ∙ p₄.is n t m) i && (sym e₅ ∙ p₅.is n t m) i && p₆.is n t m i;
  }
