-- The outside's channels: what stays fair when one is let go, changed, moved or added.
use Rattle.std.specs.Prelude.{◌≡◌, ◌≢◌, ◌⊎◌, Bool, cond, ℕ, suc, ◌≤◌, ◌<◌, eqb}
use Rattle.std.proofs.Math.Path.{refl, ap}
use Rattle.std.proofs.Common.{sym, ◌∙◌, subst, arith}
use Rattle.std.proofs.Math.Logic.{inl, inr}
use mathlib.Core.List.Memᴰ
use mathlib.Core.List.{List, [], ◌∷◌, ◌++◌, map, Sublistᴰ}
use Rattle.std.proofs.Math.Bool.{true, false}
use Rattle.std.proofs.lemmas.Bool.{false≢true}
use Rattle.notation.specs.Limits.{channel_places}
use Rattle.notation.specs.Tree.{Name, Ty}
use Rattle.calculus.specs.Program.{Program}
use Rattle.calculus.specs.Outward.{Outward}
use Rattle.calculus.specs.Configuration.{Outside, outside_of_type, outside_of_channel, let_go, changed_outside, retyped_outside, moved_outside}
use Rattle.calculus.specs.Named.{In, NoneTwice}
use Rattle.calculus.specs.WellFormed.{Rising}
use Rattle.theory_derivations.specs.Booleans.{bool_cases, cond_true, cond_false, eqb_iff}
use Rattle.theory_derivations.specs.Lists.{sub_in}
use Rattle.theory_ends.specs.Lists.{sub_once, once_snoc, map-append}
use Rattle.theory_preservation.specs.Roster.{Fair}
use Rattle.theory_preservation.specs.Each.{each_more}

abbrev pub number_of : Outside → ℕ
number_of y = y.number

abbrev pub channel_of : Outside → ℕ
channel_of y = y.channel

-- ── the outside lets go
rising_from : {low high : ℕ} (l : List ℕ) → low ≤ high → Rising high l → Rising low l
rising_from [] h r = tt
rising_from (n ∷ l) h r = let a = r.0 in (omega arith, r.1)

rising_sub : {A : Type 0} (f : A → ℕ) {l m : List A} (low : ℕ) → Sublistᴰ l m → Rising low (map f m) → Rising low (map f l)
rising_sub f low Sublistᴰ.slnil r = tt
rising_sub f low (Sublistᴰ.cons {a} {l₁ = l} s) r = let a0 = r.0 in rising_from (map f l) (omega arith) (rising_sub f (suc (f a)) s r.1)
rising_sub f low (Sublistᴰ.cons-cons {l₁ = l} e s) r = (subst (λ x. low ≤ f x) (sym e) r.0, subst (λ x. Rising (suc (f x)) (map f l)) (sym e) (rising_sub f _ s r.1))

pub fair_less : {p : Program} {given : ℕ} {o o' : List Outside} → Fair p given o → Sublistᴰ o' o → Fair p given o'
fair_less f s = record {
  outwards = λ y i. f.outwards y (sub_in s i);
  below = λ y i. f.below y (sub_in s i);
  rising = rising_sub number_of 0 s f.rising;
  keys = sub_once channel_of s f.keys;
  channels = λ y i. f.channels y (sub_in s i);
}

pub let_go_sub : (k : ℕ) (o : List Outside) → Sublistᴰ (let_go k o) o
unfolding let_go
let_go_sub k [] = Sublistᴰ.slnil
let_go_sub k (y ∷ o) = go (eqb k y.channel) (let_go_sub k o)
  where
    go : (b : Bool) → Sublistᴰ (let_go k o) o → Sublistᴰ (cond b (let_go k o) (y ∷ let_go k o)) (y ∷ o)
    go true s = Sublistᴰ.cons s
    go false s = Sublistᴰ.cons-cons refl s

-- ── one entry is changed
-- an entry afterwards: the changed one of the channel k, or another
abbrev pub ChangedEntry : ℕ → (Outside → Outside) → List Outside → Outside → Type 0
ChangedEntry k f o y = ((x : Outside) × In x o × (x.channel ≡ k) × (y ≡ f x)) ⊎ (In y o × (y.channel ≢ k))

module _ (k : ℕ) (f : Outside → Outside) where
  pub outside_cases : (o : List Outside) → NoneTwice (map channel_of o) → (y : Outside) → In y (changed_outside k f o) → ChangedEntry k f o y
  unfolding changed_outside
  outside_cases [] u y i = absurd (Memᴰ.not-nil i)
  outside_cases (a ∷ o) u y i = go (bool_cases (eqb k a.channel)) (outside_cases o u.1 y) i
    where
      further : ChangedEntry k f o y → ChangedEntry k f (a ∷ o) y
      further (inl r) = inl (r.0, Memᴰ.tail r.1, r.2, r.3)
      further (inr r) = inr (Memᴰ.tail r.0, r.1)

      here : k ≡ a.channel → In y (f a ∷ o) → ChangedEntry k f (a ∷ o) y
      here z (Memᴰ.head h) = inl (a, Memᴰ.head refl, sym z, h)
      here z (Memᴰ.tail j) = inr (Memᴰ.tail j, λ w. u.0 (Memᴰ.cast (sym z ∙ sym w) (Memᴰ.map channel_of j)))

      past : k ≢ a.channel → (In y (changed_outside k f o) → ChangedEntry k f o y) → In y (a ∷ changed_outside k f o) → ChangedEntry k f (a ∷ o) y
      past n r (Memᴰ.head h) = inr (Memᴰ.head h, λ w. n (sym w ∙ ap channel_of h))
      past n r (Memᴰ.tail j) = further (r j)

      go : (eqb k a.channel ≡ true) ⊎ (eqb k a.channel ≡ false) → (In y (changed_outside k f o) → ChangedEntry k f o y)
          → In y (cond (eqb k a.channel) (f a ∷ o) (a ∷ changed_outside k f o)) → ChangedEntry k f (a ∷ o) y
      go (inl e) r j = here ((eqb_iff k a.channel).0 e) (subst (In y) (cond_true _ _ e) j)
      go (inr e) r j = past (λ z. false≢true (sym e ∙ (eqb_iff k a.channel).1 z)) r (subst (In y) (cond_false _ _ e) j)

  -- what holds of the changed entry and of each other one
  pub each_changed : (Q : Outside → Type 0) (o : List Outside) → NoneTwice (map channel_of o) → ((x : Outside) → In x o → x.channel ≡ k → Q (f x))
      → ((x : Outside) → In x o → x.channel ≢ k → Q x) → (y : Outside) → In y (changed_outside k f o) → Q y
  each_changed Q o u a b y i = go (outside_cases o u y i)
    where
      go : ChangedEntry k f o y → Q y
      go (inl r) = subst Q (sym r.3) (a r.0 r.1 r.2)
      go (inr r) = b y r.0 r.1

  outside_map : {B : Type 0} (g : Outside → B) → ((y : Outside) → g (f y) ≡ g y) → (o : List Outside) → map g (changed_outside k f o) ≡ map g o
  unfolding changed_outside
  outside_map g h [] = refl
  outside_map g h (a ∷ o) = go (eqb k a.channel) (outside_map g h o)
    where
      go : (b : Bool) → map g (changed_outside k f o) ≡ map g o → map g (cond b (f a ∷ o) (a ∷ changed_outside k f o)) ≡ map g (a ∷ o)
      go true r = ap (λ z. z ∷ map g o) (h a)
      go false r = ap (λ z. g a ∷ z) r

  -- the number stays
  fair_changed : {p : Program} {given : ℕ} {o : List Outside} → Fair p given o → ((y : Outside) → (f y).number ≡ y.number) → NoneTwice (map channel_of (changed_outside k f o))
      → ((y : Outside) → In y o → Outward p (f y).type) → ((y : Outside) → In y o → (f y).channel < channel_places) → Fair p given (changed_outside k f o)
  fair_changed {p} {given} {o} F n u t c = record {
    outwards = each_changed (λ y. Outward p y.type) o F.keys (λ y i _. t y i) (λ y i _. F.outwards y i);
    below = each_changed (λ y. y.number < given) o F.keys (λ y i _. subst (λ m. m < given) (sym (n y)) (F.below y i)) (λ y i _. F.below y i);
    rising = subst (Rising 0) (sym (outside_map number_of n o)) F.rising;
    keys = u;
    channels = each_changed (λ y. y.channel < channel_places) o F.keys (λ y i _. c y i) (λ y i _. F.channels y i);
  }

  -- the changed entry has a channel j that is new
  outside_once : (j : ℕ) → ((y : Outside) → (f y).channel ≡ j) → (o : List Outside) → NoneTwice (map channel_of o) → ¬ In j (map channel_of o) → NoneTwice (map channel_of (changed_outside k f o))
  unfolding changed_outside
  outside_once j h [] u n = tt
  outside_once j h (a ∷ o) u n = go (eqb k a.channel) (outside_once j h o u.1 (λ m. n (Memᴰ.tail m)))
    where
      no_other : (y : Outside) → In y (changed_outside k f o) → y.channel ≢ a.channel
      no_other = each_changed (λ y. y.channel ≢ a.channel) o u.1 (λ x _ _ z. n (Memᴰ.head (sym (h x) ∙ z))) (λ y i _ z. u.0 (Memᴰ.cast (sym z) (Memᴰ.map channel_of i)))

      go : (b : Bool) → NoneTwice (map channel_of (changed_outside k f o)) → NoneTwice (map channel_of (cond b (f a ∷ o) (a ∷ changed_outside k f o)))
      go true r = ((λ m. n (Memᴰ.tail (Memᴰ.cast (sym (h a)) m))), u.1)
      go false r = ((λ m. let y = Memᴰ.of_map channel_of (changed_outside k f o) m in no_other y.0 y.1 y.2), r)

pub fair_retyped : {p : Program} {given : ℕ} {o : List Outside} → Fair p given o → (k : ℕ) (A : Ty Name) → Outward p A → Fair p given (retyped_outside k A o)
fair_retyped {o = o} F k A a =
    fair_changed k (outside_of_type A) F (λ y. refl) (subst NoneTwice (sym (outside_map k (outside_of_type A) channel_of (λ y. refl) o)) F.keys) (λ _ _. a) (λ y i. F.channels y i)

pub fair_moved : {p : Program} {given : ℕ} {o : List Outside} → Fair p given o → (k j : ℕ) → j < channel_places → ¬ In j (map channel_of o) → Fair p given (moved_outside k j o)
fair_moved {o = o} F k j lt n =
    fair_changed k (outside_of_channel j) F (λ y. refl) (outside_once k (outside_of_channel j) j (λ y. refl) o F.keys n) (λ y i. F.outwards y i) (λ _ _. lt)

-- ── the next number is given, and perhaps an entry comes with it
rising_snoc : (l : List ℕ) (low n : ℕ) → Rising low l → low ≤ n → ((m : ℕ) → In m l → m < n) → Rising low (l ++ (n ∷ []))
rising_snoc [] low n r h b = (h, tt)
rising_snoc (m ∷ l) low n r h b = (r.0, rising_snoc l (suc m) n r.1 (b m (Memᴰ.head refl)) (λ k i. b k (Memᴰ.tail i)))

pub fair_later : {p : Program} {given : ℕ} {o : List Outside} → Fair p given o → Fair p (suc given) o
fair_later F = record { outwards = F.outwards; below = λ y i. let b = F.below y i in omega arith; rising = F.rising; keys = F.keys; channels = F.channels }

pub fair_more : {p : Program} {o : List Outside} (y : Outside) → Fair p y.number o → Outward p y.type → y.channel < channel_places → ¬ In y.channel (map channel_of o)
    → Fair p (suc y.number) (o ++ (y ∷ []))
fair_more {p} {o} y F a lt n = record {
  outwards = each_more (λ x. Outward p x.type) o y F.outwards a;
  below = each_more (λ x. x.number < suc y.number) o y (λ x j. let b = F.below x j in omega arith) (omega arith);
  rising = subst (Rising 0) (sym (map-append number_of o (y ∷ []))) (rising_snoc (map number_of o) 0 y.number F.rising (omega arith)
      (λ m i. let x = Memᴰ.of_map number_of o i in subst (λ m. m < y.number) x.2 (F.below x.0 x.1)));
  keys = subst NoneTwice (sym (map-append channel_of o (y ∷ []))) (once_snoc (map channel_of o) y.channel F.keys n);
  channels = each_more (λ x. x.channel < channel_places) o y F.channels lt;
}
