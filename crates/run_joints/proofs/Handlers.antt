-- Laws of the tests of kinds and links, as words.
use Prim.Native.Nat.{ℕ, zero, suc, ◌+◌, ◌<◌}
use mathlib.Core.List.{List, [], ◌∷◌}
use mathlib.Core.Path.{◌≡◌, refl, sym, ap, ◌∙◌}
use mathlib.Core.Bool.{Bool, true, false, not}
use native.Mathlib.Omega.{arith}
use borrow.Author.Tests.{eq-eqb, ne_eqb}
use lib.Dec.{eqb}
use lib.ListN.{length}
use Rattle.calculus.specs.Named.{every, any_of}
use Rattle.theory_decision.specs.Lists.{implies}
use Rattle.theory_decision.specs.Links.{is_link, links_apart}
use Rattle.run_words.specs.Raw.{RawProcess, link_of}
use Rattle.run_joints.specs.Tests.{before, any_whole, all_not}
use Rattle.run_joints.specs.Links.{waits, links_to, linked_if_waiting}

pub waits_word : (k : ℕ) → k < 3 → waits k ≡ eqb k 2
waits_word zero h = refl
waits_word (suc zero) h = refl
waits_word (suc (suc k)) h = sym (eq-eqb (suc (suc k)) 2 (omega arith))

-- the link of a word is h, or not
pub link_is : (h w : ℕ) → w ≡ h + 1 → is_link h (link_of w) ≡ true
link_is h zero e = absurd (omega arith)
link_is h (suc k) e = eq-eqb h k (omega arith)

pub link_not : (h w : ℕ) → (w ≡ h + 1 → ⊥) → is_link h (link_of w) ≡ false
link_not h zero e = refl
link_not h (suc k) e = ne_eqb h k (λ q. e (omega arith))

-- ── a waiting handler is linked
module _ (l : List RawProcess) (i k : ℕ) where
  pub not_waiting : k < 3 → (k ≡ 2 → ⊥) → linked_if_waiting l i k ≡ true
  not_waiting h n = ap (λ b. implies b (any_of (links_to i) l)) (waits_word k h ∙ ne_eqb k 2 n)

  pub whole_linked : {r : Bool} (n : ℕ) → k ≡ 2 → n ≡ length l → any_of (links_to i) (before n l) ≡ r → linked_if_waiting l i k ≡ r
  whole_linked n e m a =
      ap (λ (j : ℕ). implies (waits j) (any_of (links_to i) l)) e ∙ sym (any_whole (links_to i) l) ∙ ap (λ (j : ℕ). any_of (links_to i) (before j l)) (sym m) ∙ a

-- ── a link that nobody before has
module _ (l : List RawProcess) (w : ℕ) where
  abbrev new : Bool
  new = every (λ (q : RawProcess). links_apart (link_of w) q.link) l

  all_true : (l : List RawProcess) → every (λ _. true) l ≡ true
  all_true [] = refl
  all_true (p ∷ l) = all_true l

  pub no_link_new : w ≡ 0 → new ≡ true
  no_link_new e = ap (λ (v : ℕ). every (λ (q : RawProcess). links_apart (link_of v) q.link) l) e ∙ all_true l

  pub new_unless_linked : {r : Bool} (h : ℕ) → w ≡ suc h → any_of (links_to h) l ≡ r → new ≡ not r
  new_unless_linked h e a = ap (λ (v : ℕ). every (λ (q : RawProcess). links_apart (link_of v) q.link) l) e ∙ all_not (links_to h) l ∙ ap not a
