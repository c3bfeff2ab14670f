-- Channel places: the lowest of those of which no end is held, so that places given up are used again.
use Rattle.std.specs.Prelude.{ℕ, zero, suc, ◌+◌, ◌≤◌, ◌<◌, ◌≡◌, refl, ◌↔◌, ◌⊎◌, List, [], ◌∷◌, Bool, true, false, cond, eqb}
use Rattle.std.proofs.Common.{arith, sym, ◌∙◌, inl, inr, true≢false}
use Rattle.std.proofs.Math.Decide.{ℕ_discrete}
use mathlib.Core.List.Memᴰ
use Rattle.std.proofs.Math.Option.{Option, some, none, some-injective, none-ne-some, some-ne-none}
use Rattle.std.proofs.lemmas.Bool.{false≢true}
use Rattle.notation.specs.Limits.{channel_places}
use Rattle.calculus.specs.Configuration.{Config, channels_held, among, free_from, fresh_channel}
use Rattle.calculus.specs.Named.{In}
use Rattle.theory_derivations.specs.Booleans.{or_cond, eqb_iff}

among_iff : (k : ℕ) (l : List ℕ) → (among k l ≡ true) ↔ In k l
among_iff k [] = (λ e. absurd (false≢true e), λ m. absurd (Memᴰ.not-nil m))
among_iff k (j ∷ l) =
    (λ e. to ((or_cond (eqb k j) (among k l)).0 e) (among_iff k l).0, λ m. (or_cond (eqb k j) (among k l)).1 (from m (among_iff k l).1))
  where
    to : (eqb k j ≡ true) ⊎ (among k l ≡ true) → (among k l ≡ true → In k l) → In k (j ∷ l)
    to (inl e) r = Memᴰ.head ((eqb_iff k j).0 e)
    to (inr e) r = Memᴰ.tail (r e)

    from : In k (j ∷ l) → (In k l → among k l ≡ true) → (eqb k j ≡ true) ⊎ (among k l ≡ true)
    from (Memᴰ.head e) r = inl ((eqb_iff k j).1 e)
    from (Memᴰ.tail m) r = inr (r m)

-- the lowest number from k on, and below k + n, that is not busy
record Lowest (busy : List ℕ) (k n j : ℕ) : Type 0 where
  from : k ≤ j
  under : j < k + n
  free : ¬ In j busy
  below_busy : (i : ℕ) → k ≤ i → i < j → In i busy

free_some : (busy : List ℕ) (k n : ℕ) {j : ℕ} → free_from busy k n ≡ some j → Lowest busy k n j
free_some busy k zero e = absurd (none-ne-some _ e)
free_some busy k (suc n) {j} e = go (among k busy) refl e (λ h. free_some busy (suc k) n h)
  where
    go : (b : Bool) → among k busy ≡ b → cond b (free_from busy (suc k) n) (some k) ≡ some j
        → (free_from busy (suc k) n ≡ some j → Lowest busy (suc k) n j) → Lowest busy k (suc n) j
    go true t e r =
        let y = r e in
        let a = y.from in
        let b = y.under in
        record { from = omega arith; under = omega arith; free = y.free; below_busy = λ i h g. here i h g (ℕ_discrete i k) }
      where
        here : (i : ℕ) → k ≤ i → i < j → Dec (i ≡ k) → In i busy
        here i h g (yes z) = Memᴰ.cast z ((among_iff k busy).0 t)
        here i h g (no n) = (r e).below_busy i (omega arith) g
    go false t e r =
        let z = some-injective _ _ e in
        record {
          from = omega arith;
          under = omega arith;
          free = λ m. true≢false (sym ((among_iff k busy).1 (Memᴰ.cast z m)) ∙ t);
          below_busy = λ i h g. absurd (omega arith);
        }

free_none : (busy : List ℕ) (k n : ℕ) → free_from busy k n ≡ none → (i : ℕ) → k ≤ i → i < k + n → In i busy
free_none busy k zero e i h g = absurd (omega arith)
free_none busy k (suc n) e i h g = go (among k busy) refl e (λ f h g. free_none busy (suc k) n f i h g) (ℕ_discrete i k)
  where
    go : (b : Bool) → among k busy ≡ b → cond b (free_from busy (suc k) n) (some k) ≡ none
        → (free_from busy (suc k) n ≡ none → suc k ≤ i → i < suc k + n → In i busy) → Dec (i ≡ k) → In i busy
    go true t e r (yes z) = Memᴰ.cast z ((among_iff k busy).0 t)
    go true t e r (no d) = r e (omega arith) (omega arith)
    go false t e r d = absurd (some-ne-none _ e)

-- a new channel's place: below 512, with neither end held, and the lowest such
pub record Free (C : Config) (k : ℕ) : Type 0 where
  pub place : k < channel_places
  pub free : ¬ In k (channels_held C)
  pub lowest : (j : ℕ) → j < k → In j (channels_held C)

pub fresh_free : (C : Config) {k : ℕ} → fresh_channel C ≡ some k → Free C k
unfolding fresh_channel
fresh_free C {k} e =
    let y = free_some (channels_held C) 0 channel_places e in
    let a = y.under in
    record { place = omega arith; free = y.free; lowest = λ j h. y.below_busy j (omega arith) h }

-- there is none exactly where every channel place has an end held
pub none_fresh : (C : Config) → (fresh_channel C ≡ none) ↔ ((k : ℕ) → k < channel_places → In k (channels_held C))
unfolding fresh_channel
none_fresh C = (λ e k h. free_none (channels_held C) 0 channel_places e k (omega arith) (omega arith), λ f. go (fresh_channel C) refl f)
  where
    go : (o : Option ℕ) → fresh_channel C ≡ o → ((k : ℕ) → k < channel_places → In k (channels_held C)) → o ≡ none
    go none e f = refl
    go (some k) e f = absurd ((fresh_free C e).free (f k (fresh_free C e).place))
