-- An end moved to another channel, found by its own channel and side: under which names its holder has its ends does not matter.
use Rattle.std.specs.Prelude.{◌≡◌, ◌≢◌, ◌⊎◌, Bool, cond}
use Rattle.std.proofs.Math.Path.{refl, ap, subst}
use Rattle.std.proofs.Common.{sym, ◌∙◌}
use Rattle.std.proofs.Math.Logic.{inl, inr}
use mathlib.Core.List.Memᴰ
use mathlib.Core.List.{List, [], ◌∷◌, map}
use Rattle.std.proofs.Math.Bool.{true, false}
use Rattle.std.proofs.lemmas.Bool.{false≢true}
use Prim.Native.Nat.{ℕ, suc}
use Rattle.std.proofs.Math.ListN.{length}
use Rattle.notation.specs.Tree.{Name}
use Rattle.calculus.specs.Named.{names, In, NoneTwice}
use Rattle.calculus.specs.Types.{Side}
use Rattle.calculus.specs.Program.{slot}
use Rattle.calculus.specs.Configuration.{End, end}
use Rattle.calculus.specs.Steps.{moved_end}
use Rattle.calculus.specs.WellFormed.{context_of, key}
use Rattle.theory_derivations.specs.Booleans.{bool_cases, cond_true, cond_false}
use Rattle.theory_ends.specs.Lists.{once_by}
use Rattle.theory_ends.specs.Ends.{key_at}
use Rattle.theory_ends.specs.FarEnds.{is_end, is_end_lem, end_is}

-- l' is l with the end f on the channel k
pub record Relocated (f : End) (k : ℕ) (l l' : List (Name × End)) : Type 0 where
  pub context : context_of l' ≡ context_of l
  pub names : names l' ≡ names l
  pub long : length l' ≡ length l
  pub entry : (y : Name × End) → In y l' → (y.1 ≡ end f.side k f.type) ⊎ (In y l × (key_at y ≢ key f))
  pub once : ¬ In (k, f.side) (map key_at l) → NoneTwice (map key_at l')

module _ (f : End) (m : ℕ) where
  abbrev go : List (Name × End) → List (Name × End)
  go = moved_end f.channel f.side m

  abbrev moved : Name × End → Name × End
  moved x = (x.0, end x.1.side m x.1.type)

  abbrev Entry : List (Name × End) → Name × End → Type 0
  Entry l y = (y.1 ≡ end f.side m f.type) ⊎ (In y l × (key_at y ≢ key f))

  abbrev test : Name × End → Bool
  test x = is_end f.channel f.side x.1

  abbrev Tested : Name × End → Type 0
  Tested x = ((test x ≡ true) × (key f ≡ key_at x)) ⊎ ((test x ≡ false) × (key f ≢ key_at x))

  tested : (x : Name × End) → Tested x
  tested x = two (bool_cases (test x))
    where
      two : (test x ≡ true) ⊎ (test x ≡ false) → Tested x
      two (inl e) = let r = is_end_lem f.channel f.side x.1 e in inl (e, λ i. (sym r.0 i, sym r.1 i))
      two (inr e) = inr (
        e,
        λ z. false≢true (sym e ∙ end_is f.channel f.side x.1 (ap (λ (k : ℕ × Side). k.0) (sym z)) (ap (λ (k : ℕ × Side). k.1) (sym z))),
      )

  same_context : (l : List (Name × End)) → context_of (go l) ≡ context_of l
  unfolding moved_end
  same_context [] = refl
  same_context (x ∷ l) = two (test x) (same_context l)
    where
      two : (b : Bool) → context_of (go l) ≡ context_of l → context_of (cond b (moved x ∷ l) (x ∷ go l)) ≡ context_of (x ∷ l)
      two true r = refl
      two false r = ap (λ r. (x.0, slot x.1.side x.1.type) ∷ r) r

  same_names : (l : List (Name × End)) → names (go l) ≡ names l
  unfolding moved_end names
  same_names [] = refl
  same_names (x ∷ l) = two (test x) (same_names l)
    where
      two : (b : Bool) → names (go l) ≡ names l → names (cond b (moved x ∷ l) (x ∷ go l)) ≡ x.0 ∷ names l
      two true r = refl
      two false r = ap (λ r. x.0 ∷ r) r

  same_length : (l : List (Name × End)) → length (go l) ≡ length l
  unfolding moved_end
  same_length [] = refl
  same_length (x ∷ l) = two (test x) (same_length l)
    where
      two : (b : Bool) → length (go l) ≡ length l → length (cond b (moved x ∷ l) (x ∷ go l)) ≡ suc (length l)
      two true r = refl
      two false r = ap suc r

  entry : (n : Name) (l : List (Name × End)) → NoneTwice (map key_at l) → In (n, f) l → (y : Name × End) → In y (go l) → Entry l y
  unfolding moved_end
  entry n [] u i y j = absurd (Memᴰ.not-nil j)
  entry n (x ∷ l) u i y j = two (tested x) (λ k. entry n l u.1 k y) j
    where
      later : Entry l y → Entry (x ∷ l) y
      later (inl z) = inl z
      later (inr z) = inr (Memᴰ.tail z.0, z.1)

      out : In y (x ∷ go l) → (In (n, f) l → In y (go l) → Entry l y) → key f ≢ key_at x → In (n, f) (x ∷ l) → Entry (x ∷ l) y
      out j r d (Memᴰ.head e) = absurd (d (ap key_at e))
      out (Memᴰ.head e) r d (Memᴰ.tail k) = inr (Memᴰ.head e, λ z. d (sym z ∙ ap key_at e))
      out (Memᴰ.tail j) r d (Memᴰ.tail k) = later (r k j)

      here : key f ≡ key_at x → In y (moved x ∷ l) → Entry (x ∷ l) y
      here d (Memᴰ.head e) =
          let z = once_by key_at u i (Memᴰ.head refl) d in
          inl (ap (λ (y : Name × End). y.1) e ∙ (λ j. end (sym z j).1.side m (sym z j).1.type))
      here d (Memᴰ.tail k) = inr (Memᴰ.tail k, λ z. u.0 (Memᴰ.cast (sym d ∙ sym z) (Memᴰ.map key_at k)))

      two : Tested x → (In (n, f) l → In y (go l) → Entry l y) → In y (cond (test x) (moved x ∷ l) (x ∷ go l)) → Entry (x ∷ l) y
      two (inl d) r j = here d.1 (subst (In y) (cond_true _ _ d.0) j)
      two (inr d) r j = out (subst (In y) (cond_false _ _ d.0) j) r d.1 i

  once : (n : Name) (l : List (Name × End)) → NoneTwice (map key_at l) → In (n, f) l → ¬ In (m, f.side) (map key_at l) → NoneTwice (map key_at (go l))
  unfolding moved_end
  once n [] u i d = tt
  once n (x ∷ l) u i d = two (tested x) (λ k. once n l u.1 k (λ j. d (Memᴰ.tail j)))
    where
      two : Tested x → (In (n, f) l → NoneTwice (map key_at (go l))) → NoneTwice (map key_at (cond (test x) (moved x ∷ l) (x ∷ go l)))
      two (inl c) r =
          subst (λ k. NoneTwice (map key_at k)) (sym (cond_true _ (x ∷ go l) c.0))
          ((λ j. d (Memᴰ.tail (Memᴰ.cast (λ t. (m, (c.1 t).1)) j))), u.1)
      two (inr c) r = subst (λ k. NoneTwice (map key_at k)) (sym (cond_false (moved x ∷ l) _ c.0)) (fresh, r (later i))
        where
          later : In (n, f) (x ∷ l) → In (n, f) l
          later (Memᴰ.head e) = absurd (c.1 (ap key_at e))
          later (Memᴰ.tail k) = k

          fresh : ¬ In (key_at x) (map key_at (go l))
          fresh j = let y = Memᴰ.of_map key_at (go l) j in clash y.0 y.2 (entry n l u.1 (later i) y.0 y.1)
            where
              clash : (y : Name × End) → key_at y ≡ key_at x → Entry l y → ⊥
              clash y z (inl h) = d (Memᴰ.head (ap key (sym h) ∙ z))
              clash y z (inr h) = u.0 (Memᴰ.cast (sym z) (Memᴰ.map key_at h.0))

-- a list that holds each end once
pub relocated : (n : Name) (f : End) (m : ℕ) (l : List (Name × End)) → NoneTwice (map key_at l) → In (n, f) l → Relocated f m l (moved_end f.channel f.side m l)
relocated n f m l u i = record {
  context = same_context f m l;
  names = same_names f m l;
  long = same_length f m l;
  entry = entry f m n l u i;
  once = once f m n l u i;
}
