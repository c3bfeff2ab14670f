-- The ends of channels: no key twice, and one type for both ends, by one pass.
use Rattle.std.specs.Prelude.{ℕ, ◌≡◌, refl, ◌↔◌, ◌≢◌, List, [], ◌∷◌, map, Bool, not, ◌&&◌, eqb}
use Rattle.std.proofs.Common.{sym, ap}
use Rattle.std.proofs.Math.Logic.Iff
use mathlib.Core.List.Memᴰ
use Rattle.std.proofs.Math.Bool.{So}
use Rattle.calculus.specs.Types.{Side, same_side}
use Rattle.calculus.specs.SameType.{same_type}
use Rattle.calculus.specs.Program.{Program}
use Rattle.calculus.specs.OneType.{OneType}
use Rattle.calculus.specs.Configuration.{End}
use Rattle.calculus.specs.Named.{In, NoneTwice}
use Rattle.calculus.specs.WellFormed.{key}
use Rattle.theory_derivations.specs.Booleans.{not_iff, ◌and◌, eqb_iff, each_cons}
use Rattle.theory_derivations.specs.Equality.{decides_not, decides_sym, eqb_decides, same_side_decides}
use Rattle.theory_derivations.specs.OneType.{one_iff, one_test_sym, one_refl, one_sym}
use Rattle.theory_decision.specs.Lists.{implies, implies_iff, Pairwise, pairwise, pairwise_iff}

module _ (p : Program) where
  -- two ends of one channel have two sides and one type
  abbrev pub beside : End → End → Bool
  beside e d = implies (eqb e.channel d.channel) (not (same_side e.side d.side) && same_type p.types e.type d.type)

  unfoldable pub ends_fit : List End → Bool
  ends_fit l = pairwise beside [] l

  beside_sym : (e d : End) → beside e d ≡ beside d e
  beside_sym e d i =
      implies (decides_sym eqb_decides e.channel d.channel i)
      (not (decides_sym same_side_decides e.side d.side i) && one_test_sym p e.type d.type i)

  -- where they are of one channel, they are of one type
  abbrev pub Agree : End → End → Type 0
  Agree e d = e.channel ≡ d.channel → OneType p e.type d.type

  abbrev pub AllAgree : List End → Type 0
  AllAgree l = (e d : End) → In e l → In d l → Agree e d

  beside_iff : (e d : End) → So (beside e d) ↔ (e.channel ≡ d.channel → (e.side ≢ d.side) × OneType p e.type d.type)
  beside_iff e d =
      implies_iff (eqb_iff e.channel d.channel)
      (Iff.trans (not_iff (same_side e.side d.side)) (decides_not same_side_decides e.side d.side) and one_iff p e.type d.type)

  agree_sym : (e d : End) → Agree e d → Agree d e
  agree_sym e d h c = one_sym p (h (sym c))

  agree_cons : (e : End) (l : List End) → ((d : End) → In d l → Agree e d) → AllAgree l → AllAgree (e ∷ l)
  agree_cons e l h o a b m n = (each_cons (λ a. (b : End) → In b (e ∷ l) → Agree a b) e l).0 (first, rest) a m b n
    where
      first : (b : End) → In b (e ∷ l) → Agree e b
      first = (each_cons (Agree e) e l).0 (λ _. one_refl p e.type, h)

      rest : (a : End) → In a l → (b : End) → In b (e ∷ l) → Agree a b
      rest a m = (each_cons (Agree a) e l).0 (agree_sym e a (h a m), λ b. o a b m)

  to_ends : (l : List End) → Pairwise beside l → NoneTwice (map key l) × AllAgree l
  to_ends [] q = (tt, λ e d m. elim m [ ])
  to_ends (e ∷ l) q =
      let r = to_ends l q.1 in
      ((λ m. new (Memᴰ.of_map key l m), r.0), agree_cons e l (λ d m c. ((beside_iff e d).0 (q.0 d m) c).1) r.1)
    where
      new : (d : End) × In d l × (key d ≡ key e) → ⊥
      new (d, m, z) = ((beside_iff e d).0 (q.0 d m) (sym (ap (λ (k : ℕ × Side). k.0) z))).0 (sym (ap (λ (k : ℕ × Side). k.1) z))

  from_ends : (l : List End) → NoneTwice (map key l) → AllAgree l → Pairwise beside l
  from_ends [] u o = tt
  from_ends (e ∷ l) u o = (
    λ d m. (beside_iff e d).1 (λ c. (λ s. u.0 (Memᴰ.cast (λ i. (c i, s i)) (Memᴰ.map key m)), o e d (Memᴰ.head refl) (Memᴰ.tail m) c)),
    from_ends l u.1 (λ a b m n. o a b (Memᴰ.tail m) (Memᴰ.tail n)),
  )

  -- "each held at most once, and both ends of a channel have one type"
  pub ends_fit_iff : (l : List End) → So (ends_fit l) ↔ (NoneTwice (map key l) × AllAgree l)
  unfolding ends_fit
  ends_fit_iff l = Iff.trans (pairwise_iff beside beside_sym l) (to_ends l, λ h. from_ends l h.0 h.1)
