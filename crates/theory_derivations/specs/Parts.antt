-- What the check's tests say of the channels held, in the words of the rules.
use Rattle.std.specs.Prelude.{◌≡◌, refl, ◌↔◌, length}
use Rattle.std.proofs.Common.{sym, ◌∙◌, ap, subst, ⊎_elim}
use Rattle.std.proofs.Math.Logic.Iff
use mathlib.Core.List.Memᴰ
use mathlib.Core.List.{List, [], ◌∷◌, ◌++◌}
use Rattle.std.proofs.Math.Bool.{So}
use Rattle.std.proofs.Math.Option.{Option, some, none, none-ne-some, some-injective}
use Rattle.notation.specs.Limits.{held_limit}
use Rattle.notation.specs.Tree.{Name, Ty, unit}
use Rattle.calculus.specs.Named.{lookup, is_some, every, In}
use Rattle.calculus.specs.Types.{Side, same_side}
use Rattle.calculus.specs.Program.{Slot, slot, Context, Held, Program}
use Rattle.calculus.specs.OneType.{OneType}
use Rattle.calculus.specs.Typing.{Brought, ListFits, none_left, one_fits}
use Rattle.calculus.specs.Checking.{may_bring, is_unit_on, fits_slot, entry_fits, list_fits}
use Rattle.theory_derivations.specs.Booleans.{never, ◌and◌, ltb_iff, is_some_iff, is_none_iff, all_iff}
use Rattle.theory_derivations.specs.Equality.{same_side_iff, at_leaf_iff}
use Rattle.theory_derivations.specs.Named.{held_iff}
use Rattle.theory_derivations.specs.OneType.{one_iff}

-- ── slots
pub side_iff : (s : Side) (h : Slot) → So (same_side h.side s) ↔ (h ≡ slot s h.type)
side_iff s h =
    let t = same_side_iff h.side s in
    (λ e i. slot (t.0 e i) h.type, λ e. t.1 (ap (λ (k : Slot). k.side) e))

pub is_unit_on_iff : (s : Side) (h : Slot) → So (is_unit_on s h) ↔ (h ≡ slot s unit)
is_unit_on_iff s h =
    let t = same_side_iff h.side s and at_leaf_iff h.type in
    (λ e i. slot ((t.0 e).0 i) ((t.0 e).1 i), λ e. t.1 (ap (λ (k : Slot). k.side) e, ap (λ (k : Slot). k.type) e))

pub fits_slot_iff : (p : Program) (s : Side) (A : Ty Name) (h : Slot) → So (fits_slot p s A h) ↔ ((h ≡ slot s h.type) × OneType p h.type A)
fits_slot_iff p s A h = side_iff s h and one_iff p h.type A

-- ── a name brought in
pub may_bring_iff : (x : Name) (G H : Context) → So (may_bring x G H) ↔ Brought x G H
may_bring_iff x G H =
    let t = is_none_iff (lookup x G) and ltb_iff (length H) held_limit in
    (λ e. record { new = (t.0 e).0; room = (t.0 e).1 }, λ b. t.1 (b.new, b.room))

-- ── the lists of a call
module _ (p : Program) (G : Context) (s : Side) where
  entry_fits_iff : (A : Ty Name) (o : Option Slot) → So (entry_fits p s A o) ↔ ((B : Ty Name) × (o ≡ some (slot s B)) × OneType p B A)
  entry_fits_iff A none = (λ e. never e, λ (B, e, h). absurd (none-ne-some (slot s B) e))
  entry_fits_iff A (some h) =
      let t = fits_slot_iff p s A h in
      (λ e. (h.type, ap some (t.0 e).0, (t.0 e).1), λ (B, e, o). t.1 (go (some-injective h (slot s B) e) o))
    where
      go : {B : Ty Name} → h ≡ slot s B → OneType p B A → (h ≡ slot s h.type) × OneType p h.type A
      go {B} e o = (e ∙ ap (λ (k : Slot). slot s k.type) (sym e), subst (λ (k : Slot). OneType p k.type A) (sym e) o)

  pub list_fits_iff : (ns : List Name) (es : List (Name × Ty Name)) → So (list_fits p G s ns es) ↔ ListFits (OneType p) G s ns es
  unfolding list_fits
  list_fits_iff [] [] = (λ _. none_left, λ _. refl)
  list_fits_iff [] (e ∷ es) = (λ z. never z, λ f. elim f [ ])
  list_fits_iff (a ∷ ns) [] = (λ z. never z, λ f. elim f [ ])
  list_fits_iff (a ∷ ns) (e ∷ es) = Iff.trans
      (entry_fits_iff e.1 (lookup a G) and list_fits_iff ns es)
      (λ ((A, ea, o), f). one_fits A ea o f, λ f. elim f [ one_fits A ea o f ↦ ((A, ea, o), f) ])

-- what fits is held
fits_held : {equal : Ty Name → Ty Name → Type 0} {G : Context} {s : Side} {n : Name} {ns : List Name} {es : List (Name × Ty Name)} → ListFits equal G s ns es → In n ns → Held n G
fits_held none_left m = absurd (Memᴰ.not-nil m)
fits_held {G = G} {s} {n} (one_fits A e o f) (Memᴰ.head h) = (held_iff n G).1 (slot s A, ap (λ m. lookup m G) h ∙ e)
fits_held (one_fits A e o f) (Memᴰ.tail m) = fits_held f m

pub lists_held : {equal : Ty Name → Ty Name → Type 0} {G : Context} {s r : Side} (xs ys : List Name) {es fs : List (Name × Ty Name)}
    → ListFits equal G s xs es → ListFits equal G r ys fs → (n : Name) → In n (xs ++ ys) → Held n G
lists_held xs ys f g n m = ⊎_elim (fits_held f) (fits_held g) (Memᴰ.append_cases xs m)

pub lists_tested : {equal : Ty Name → Ty Name → Type 0} {G : Context} {s r : Side} (xs ys : List Name) {es fs : List (Name × Ty Name)}
    → ListFits equal G s xs es → ListFits equal G r ys fs → So (every (λ n. is_some (lookup n G)) (xs ++ ys))
lists_tested {G = G} xs ys f g = (all_iff (λ n. is_some (lookup n G)) (xs ++ ys)).1 λ n m. (is_some_iff (lookup n G)).1 ((held_iff n G).0 (lists_held xs ys f g n m))
