-- Two trees are equal: they have one mark and equal trees below, without end.
use Rattle.std.specs.Prelude.{◌≡◌, ◌↔◌, Bool}
use Rattle.std.proofs.Common.{subst}
use Prim.Native.Nat.{ℕ, zero, suc}
use Rattle.trees.specs.Heads.{Head, Matching, matching_map, matching_refl, matching_sym, matching_trans}

module _ {N : Type 0} (same : N → N → Bool) where
  module _ {X : Type 0} (head : X → Head N X) where
    -- two trees agree to a depth
    unfoldable pub Agree : ℕ → X → X → Type 0
    Agree zero a b = Unit
    Agree (suc n) a b = Matching same (Agree n) (head a) (head b)

    -- they agree to every depth
    pub record Equal (a b : X) : Type 0 where
      pub agree : (n : ℕ) → Agree n a b

    -- a relation that each head keeps
    abbrev pub Closed : (X → X → Type 0) → Type 0
    Closed R = (a b : X) → R a b → Matching same R (head a) (head b)

    agree_refl : (n : ℕ) (a : X) → Agree n a a
    unfolding Agree
    agree_refl zero a = tt
    agree_refl (suc n) a = matching_refl same (agree_refl n) (head a)

    agree_sym : (n : ℕ) (a b : X) → Agree n a b → Agree n b a
    unfolding Agree
    agree_sym zero a b x = tt
    agree_sym (suc n) a b x = matching_sym same (agree_sym n) x

    agree_trans : (n : ℕ) (a b c : X) → Agree n a b → Agree n b c → Agree n a c
    unfolding Agree
    agree_trans zero a b c x y = tt
    agree_trans (suc n) a b c x y = matching_trans same (agree_trans n) x y

    pub equal_refl : (a : X) → Equal a a
    equal_refl a = record { agree = λ n. agree_refl n a }

    pub equal_sym : {a b : X} → Equal a b → Equal b a
    equal_sym e = record { agree = λ n. agree_sym n _ _ (e.agree n) }

    pub equal_trans : {a b c : X} → Equal a b → Equal b c → Equal a c
    equal_trans e f = record { agree = λ n. agree_trans n _ _ _ (e.agree n) (f.agree n) }

    -- whatever a closed relation relates is equal
    agree_closed : {R : X → X → Type 0} → Closed R → (n : ℕ) (a b : X) → R a b → Agree n a b
    unfolding Agree
    agree_closed c zero a b r = tt
    agree_closed c (suc n) a b r = matching_map same (agree_closed c n) (c a b r)

    pub closed_equal : {R : X → X → Type 0} → Closed R → {a b : X} → R a b → Equal a b
    closed_equal c r = record { agree = λ n. agree_closed c n _ _ r }

    -- trees are equal where their heads match, and so where they have one head
    pub equal_heads : {a b : X} → Matching same Equal (head a) (head b) → Equal a b
    unfolding Agree
    equal_heads m = record { agree = elim [ zero ↦ tt | suc n ↦ matching_map same (λ x y e. e.agree n) m ] }

    pub equal_unfolded : {a b : X} → head a ≡ head b → Equal a b
    equal_unfolded {a} {b} p = equal_heads (subst (λ h. Matching same Equal (head a) h) p (matching_refl same equal_refl (head a)))

  -- ── one family of trees written in two ways, as numbers in a table and as what they decode to: Means x y says that x stands for y
  module _ {X Y : Type 0} (here : X → Head N X) (there : Y → Head N Y) (Means : X → Y → Type 0) (kept : (x : X) (y : Y) → Means x y → Matching same Means (here x) (there y)) where
    abbrev Between : ℕ → Y → X → Type 0
    Between n y z = (x : X) × Means x y × Agree here n x z

    agree_there : (n : ℕ) (a b : X) (c d : Y) → Means a c → Means b d → Agree here n a b → Agree there n c d
    unfolding Agree
    agree_there zero a b c d v w x = tt
    agree_there (suc n) a b c d v w x =
        let back : Matching same (λ y z. Means z y) (there c) (here a) = matching_sym same (λ y z m. m) (kept a c v) in
        let across : Matching same (Between n) (there c) (here b) = matching_trans same (λ y z u m e. (z, m, e)) back x in
        matching_trans same (λ y z u m e. agree_there n m.0 z y u m.1 e m.2) across (kept b d w)

    pub equal_there : {a b : X} {c d : Y} → Means a c → Means b d → Equal here a b → Equal there c d
    equal_there v w e = record { agree = λ n. agree_there n _ _ _ _ v w (e.agree n) }

  module _ {X Y : Type 0} (here : X → Head N X) (there : Y → Head N Y) (Means : X → Y → Type 0) (kept : (x : X) (y : Y) → Means x y → Matching same Means (here x) (there y)) where
    -- numbers are equal exactly when what they stand for is
    pub equal_means : {a b : X} {c d : Y} → Means a c → Means b d → Equal here a b ↔ Equal there c d
    equal_means v w = (
      equal_there here there Means kept v w,
      equal_there there here (λ y x. Means x y) (λ y x m. matching_sym same (λ u z k. k) (kept x y m)) v w,
    )
