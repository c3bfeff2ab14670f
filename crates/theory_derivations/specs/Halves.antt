-- Derivations of spawn and try over what the tests keep of the channels held.
use Rattle.std.specs.Prelude.{ℕ, ◌≡◌, refl, ◌↔◌, List}
use Rattle.std.proofs.Common.{sym, subst}
use Rattle.std.proofs.Math.Bool.{So}
use Rattle.notation.specs.Tree.{Name, Located, Ty, Proc, spawn, try, plain}
use Rattle.calculus.specs.Named.{names, Kept}
use Rattle.calculus.specs.Types.{provided, used}
use Rattle.calculus.specs.Program.{slot, Context, Program}
use Rattle.calculus.specs.Mentioned.{Mentions, HalfMentions}
use Rattle.calculus.specs.Mentions.{spawn_takes, spawn_leaves, try_takes, never_both, exactly_one}
use Rattle.calculus.specs.Typing.{bringing, Brought, TypedBy, spawns, tries}
use Rattle.theory_derivations.specs.Booleans.{no_iff}
use Rattle.theory_derivations.specs.Kept.{kept_iff}
use Rattle.theory_derivations.specs.Mentioned.{mentions_iff, half_mentions_iff, never_both_iff, exactly_one_iff}

-- ── what a half takes
module _ {X : Type 0} where
  pub spawn_takes_iff : (x : Name) (P : Proc) (l k : List (Name × X)) → (spawn_takes x P l ≡ k) ↔ Kept (HalfMentions x P) l k
  unfolding spawn_takes
  spawn_takes_iff x P = kept_iff (half_mentions_iff x P)

  pub spawn_leaves_iff : (x : Name) (P : Proc) (l k : List (Name × X)) → (spawn_leaves x P l ≡ k) ↔ Kept (λ n. ¬ HalfMentions x P n) l k
  unfolding spawn_leaves
  spawn_leaves_iff x P = kept_iff (λ n. no_iff (half_mentions_iff x P n))

  pub try_takes_iff : (P : Proc) (l k : List (Name × X)) → (try_takes P l ≡ k) ↔ Kept (Mentions P) l k
  unfolding try_takes
  try_takes_iff P = kept_iff (mentions_iff P)

-- ── the derivations of the halves
module _ (equal : Ty Name → Ty Name → Type 0) (p : Program) (G : Context) where
  abbrev pub SpawnHalves : Located → Ty Located → Proc → Proc → Type 0
  SpawnHalves x A P Q =
      So (never_both x.name P Q (names G))
      × ((Brought x.name G (spawn_takes x.name P G) × Brought x.name G (spawn_leaves x.name P G))
      × (TypedBy equal p (bringing x.name (slot provided (plain A)) (spawn_takes x.name P G)) P
      × TypedBy equal p (bringing x.name (slot used (plain A)) (spawn_leaves x.name P G)) Q))

  abbrev pub TryHalves : Proc → Proc → Type 0
  TryHalves P Q = So (exactly_one P Q (names G)) × (TypedBy equal p (try_takes P G) P × TypedBy equal p (try_takes Q G) Q)

module _ {equal : Ty Name → Ty Name → Type 0} {p : Program} {G : Context} where
  pub spawn_iff : {x : Located} {A : Ty Located} {P Q : Proc} → SpawnHalves equal p G x A P Q ↔ TypedBy equal p G (spawn x A P Q)
  spawn_iff {x} {A} {P} {Q} = (
    λ (n, ((b, k), (d, e))). spawns _ _ ((spawn_takes_iff x.name P G _).0 refl) ((spawn_leaves_iff x.name P G _).0 refl) ((never_both_iff x.name P Q G).0 n) b k d e,
    λ d. elim d [
      | spawns H K h k n bH bK d e ↦
          let u = sym ((spawn_takes_iff x.name P G H).1 h) in
          let v = sym ((spawn_leaves_iff x.name P G K).1 k) in (
            (never_both_iff x.name P Q G).1 n,
            (
              (subst (Brought x.name G) u bH, subst (Brought x.name G) v bK),
              (
                subst (λ H. TypedBy equal p (bringing x.name (slot provided (plain A)) H) P) u d,
                subst (λ K. TypedBy equal p (bringing x.name (slot used (plain A)) K) Q) v e,
              ),
            ),
          )
    ],
  )

  pub try_iff : {at : ℕ} {P Q : Proc} → TryHalves equal p G P Q ↔ TypedBy equal p G (try at P Q)
  try_iff {P = P} {Q} = (
    λ (n, (d, e)). tries _ _ ((try_takes_iff P G _).0 refl) ((try_takes_iff Q G _).0 refl) ((exactly_one_iff P Q G).0 n) d e,
    λ d. elim d [
      | tries H K h k n d e ↦ (
        (exactly_one_iff P Q G).1 n,
        (subst (λ H. TypedBy equal p H P) (sym ((try_takes_iff P G H).1 h)) d, subst (λ K. TypedBy equal p K Q) (sym ((try_takes_iff Q G K).1 k)) e),
      )
    ],
  )
