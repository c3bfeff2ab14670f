-- Joints on numbers, and labels in words.
use Rattle.std.specs.Prelude.{ℕ, suc, ◌<◌, List, [], ◌∷◌, ◌++◌, map, ◌≡◌, refl, Bool, false, cond, length, get_or}
use Rattle.std.proofs.Common.{sym, ap, ap₂, ◌∙◌}
use Rattle.notation.specs.Limits.{process_places}
use Rattle.notation.specs.Tree.{Name, Ty, Proc}
use Rattle.calculus.specs.Types.{Side, provided, used}
use Rattle.calculus.specs.Configuration.{Config}
use Rattle.calculus.specs.Configuration as configuration
use Rattle.calculus.specs.Forest.{Joint, joint_at, link_joint, joints}
use Rattle.calculus.specs.Forest as calculus
use Rattle.theory_decision.specs.Circles.{joins, forest?}
use Rattle.run_words.specs.Raw.{RawEnd, RawProcess, RawConfig}
use Rattle.run_words.specs.Operations.{far_end}
use Rattle.run_words.specs.Decode.{decoded_end, decoded_process, decoded}
use Rattle.run_words.specs.DecodeLaws.{FarAs, at_process, at_outside, given_up, decoded_far}
use Rattle.run_words.specs.declared.records.Far.{Far}
use Rattle.run_words.specs.declared.records.Far.TheVariants as far
use Rattle.run_joints.specs.Answers.{Answers}

-- ── joints, in the calculus' order
abbrev pub joint_of : ℕ → Side → Far → List Joint
joint_of i provided (far.Process j k) = (i, j) ∷ []
joint_of i provided (far.Outside k) = []
joint_of i provided far.GivenUp = []
joint_of i used f = []

abbrev pub end_joint : RawConfig → ℕ → RawEnd → List Joint
end_joint C i e = joint_of i e.side (far_end C e.channel e.side)

abbrev pub held_joints : RawConfig → ℕ → List RawEnd → List Joint
held_joints C i [] = []
held_joints C i (e ∷ l) = end_joint C i e ++ held_joints C i l

abbrev pub process_joints : RawConfig → ℕ → RawProcess → List Joint
process_joints C i p = held_joints C i p.held ++ link_joint i p.link

abbrev pub joints_from : RawConfig → ℕ → List RawProcess → List Joint
joints_from C i [] = []
joints_from C i (p ∷ l) = process_joints C i p ++ joints_from C (suc i) l

module _ (name_of : ℕ → Name) (type_of : ℕ → Ty Name) (term_of : ℕ → Proc) (C : RawConfig) where
  far_joint : (i : ℕ) (s : Side) {f : Far} {g : configuration.Far} → FarAs name_of type_of term_of C f g → joint_at i s g ≡ joint_of i s f
  far_joint i used a = refl
  far_joint i provided (at_process p e) = refl
  far_joint i provided (at_outside o) = refl
  far_joint i provided given_up = refl

  held_decoded : (i : ℕ) (l : List RawEnd) → calculus.channel_joints (decoded name_of type_of term_of C) i (map (decoded_end name_of type_of term_of) l) ≡ held_joints C i l
  held_decoded i [] = refl
  held_decoded i (e ∷ l) =
      ap₂ {C = List Joint} (λ a b. a ++ b) (far_joint i e.side (decoded_far name_of type_of term_of C e.channel e.side (type_of e.node))) (held_decoded i l)

  joints_decoded : (i : ℕ) (l : List RawProcess) → calculus.joints_from (decoded name_of type_of term_of C) i (map (decoded_process name_of type_of term_of) l) ≡ joints_from C i l
  joints_decoded i [] = refl
  joints_decoded i (p ∷ l) = ap₂ {C = List Joint} (λ a b. (a ++ link_joint i p.link) ++ b) (held_decoded i p.held) (joints_decoded (suc i) l)

-- the joints close no circle
unfoldable pub circle_free : Config → Bool
circle_free C = forest? (joints C)

pub answers_free : (C : RawConfig) {r : Bool} → forest? (joints_from C 0 C.processes) ≡ r → Answers r circle_free C
unfolding circle_free joints
answers_free C e = record { is = λ n t m. sym (ap forest? (joints_decoded n t m C 0 C.processes) ∙ e) }

-- ── a word for each place, its label
pub record Labelled (ws : List ℕ) (label : ℕ → ℕ) : Type 0 where
  pub long : length ws ≡ process_places
  pub each : (x : ℕ) → x < process_places → get_or ws x 0 ≡ label x

-- what becomes of the labels when joints are joined one after another, up to one that closes a circle: whether none does
pub record Joined (old new : List ℕ) (J : List Joint) (r : Bool) : Type 0 where
  pub is : (label : ℕ → ℕ) → Labelled old label → (after : ℕ → ℕ) × Labelled new after × ((K : List Joint) → joins label (J ++ K) ≡ cond r (joins after K) false)
