-- What the code over representatives and states promises, and the laws of a search in them. Arrays are filled as words of a run are (`Moved`).
use Rattle.std.specs.Prelude.{◌≡◌, refl, List, map, ℕ, ◌+◌, ◌<◌, ◌≤◌, length, get_or, set, replicate, Option, Some, None, Bool, true, false, cond, nat_lt, position}
use Rattle.std.specs.List.{position_or_len}
use Rattle.std.proofs.Common.{sym, ◌∙◌, ap, arith, true≢false, ltb-false}
use Rattle.std.proofs.Math.ListN.{get_or-map}
use Rattle.std.proofs.lemmas.List.{length-map, get_or-replicate}
use Rattle.std.proofs.lemmas.List.Quantifiers.{position-Some}
use Rattle.std.proofs.lemmas.List.Sums.{fails_before_first}
use Rattle.notation.specs.Limits.{type_term_limit}
use Rattle.trees.specs.Classes.{at, own, waiting, done, swap, swap_hit, swap_miss}
use Rattle.run_words.specs.Values.{Moved}
use Rattle.run_words.proofs.Rows.{moved_up}
use Rattle.check_types.specs.declared.classes.State.{State}
use Rattle.check_types.specs.declared.classes.State.TheVariants.{Own, Waiting, Done}

-- the number of a state, by which the comparison counts what is left to do
abbrev pub weight : State → ℕ
weight Own = own
weight Waiting = waiting
weight Done = done

abbrev pub weights : List State → List ℕ
weights l = map weight l

-- each node is its own representative
pub record OwnEach (rep : List ℕ) : Type 0 where
  pub long : length rep ≡ type_term_limit
  pub is : (i : ℕ) → i < type_term_limit → at rep i ≡ i

-- the node k has the state v
pub record Marked (k v : ℕ) (st st' : List ℕ) : Type 0 where
  pub is : length st ≡ type_term_limit → st' ≡ set st k v

-- r waits, or no node does
pub record FirstWaiting (st : List ℕ) (r : Option ℕ) : Type 0 where
  pub here : (i : ℕ) → r ≡ Some i → (i < type_term_limit) × (at st i ≡ waiting)
  pub none : r ≡ None → (i : ℕ) → i < type_term_limit → at st i ≡ waiting → ⊥

-- at the start
pub all_own : (k : ℕ) → k < type_term_limit → at (weights (replicate type_term_limit Own)) k ≡ own
all_own k h = get_or-map weight (replicate type_term_limit Own) k Done ∙ ap weight (get_or-replicate type_term_limit k Own Done h)

-- ── a representative looked at: hi gives way to lo, others are written again
module _ (hi lo : ℕ) {rep₀ rep : List ℕ} {k : ℕ} (m : Moved rep₀ rep 0 k (λ i. swap hi lo (at rep₀ i))) (l : k < length rep) where
  pub relabel_hit : at rep k ≡ hi → Moved rep₀ (set rep k lo) 0 (k + 1) (λ i. swap hi lo (at rep₀ i))
  relabel_hit e = moved_up rep₀ _ rep 0 k _ lo m (omega arith) l refl (sym (swap_hit hi lo _ (sym (m.above k (omega arith)) ∙ e)))

  pub relabel_miss : (at rep k ≡ hi → ⊥) → Moved rep₀ (set rep k (at rep k)) 0 (k + 1) (λ i. swap hi lo (at rep₀ i))
  relabel_miss n =
      let same = m.above k (omega arith) in
      moved_up rep₀ _ rep 0 k _ (at rep k) m (omega arith) l refl (same ∙ sym (swap_miss hi lo _ (λ e. n (same ∙ e))))

-- ── the first node that waits
abbrev pub is_waiting : State → Bool
is_waiting Own = false
is_waiting Waiting = true
is_waiting Done = false

waits_weight : (s : State) → is_waiting s ≡ true → weight s ≡ waiting
waits_weight Own e = absurd (true≢false (sym e))
waits_weight Waiting e = refl
waits_weight Done e = absurd (true≢false (sym e))

weight_waits : (s : State) → weight s ≡ waiting → is_waiting s ≡ true
weight_waits Own e = absurd (omega arith)
weight_waits Waiting e = refl
weight_waits Done e = absurd (omega arith)

nowhere : (st : List State) → position is_waiting st ≡ None → length st ≤ position_or_len is_waiting st
nowhere st = go (nat_lt (position_or_len is_waiting st) (length st)) refl
  where
    go : (b : Bool) → nat_lt (position_or_len is_waiting st) (length st) ≡ b → cond b (Some (position_or_len is_waiting st)) None ≡ None → length st ≤ position_or_len is_waiting st
    go true q e = absurd (cc)
    go false q e = ltb-false _ _ q

pub waits_at : (st : List State) {r : Option ℕ} → length (weights st) ≡ type_term_limit → r ≡ position is_waiting st → FirstWaiting (weights st) r
waits_at st {r} l e = record {
  here = λ i z. (let p = position-Some is_waiting st i Done (sym e ∙ z) in (omega (arith, p.0, l, length-map st weight), get_or-map weight st i Done ∙ waits_weight _ p.1));
  none = λ z i h v.
      let p = nowhere st (sym e ∙ z) in
      let f = fails_before_first is_waiting st i Done (omega (arith, p, l, length-map st weight)) in
      true≢false (sym (weight_waits (get_or st i Done) (sym (get_or-map weight st i Done) ∙ v)) ∙ f);
}
