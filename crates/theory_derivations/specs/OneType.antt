-- Two types are one: an equivalence, which a name's definition and what is left after a message respect.
-- Whoever reasons about the types of two ends cites these laws alone, and never that the types are equal.
use Rattle.std.specs.Prelude.{ℕ, ◌≡◌, refl, ◌↔◌}
use Rattle.std.proofs.Common.{sym, ap, subst}
use Rattle.std.proofs.Math.Bool.{So}
use Rattle.std.proofs.Math.Option.{some}
use Rattle.trees.specs.Both.{Both, neither, both, both_here}
use Rattle.trees.specs.Heads.{Head, matching_map}
use Rattle.trees.specs.Equal.{Agree, Equal, equal_refl, equal_sym, equal_trans, closed_equal, equal_unfolded}
use Rattle.trees.proofs.Equal.{equal_closed}
use Rattle.notation.specs.Bytes.{same}
use Rattle.notation.specs.Tree.{Name, Ty, unit, Alternatives}
use Rattle.calculus.specs.Types.{shape, unfolded, Passing, passing, Choosing, choosing, labelled}
use Rattle.calculus.specs.Program.{Program}
use Rattle.calculus.specs.OneType.{Alike, units, names, tensors, pars, lollis, pluses, withs, Closed, OneType}
use Rattle.calculus.specs.SameType.{head_by, head_of, same_type}
use Rattle.theory_derivations.specs.Booleans.{bool_ext}
use Rattle.theory_derivations.specs.SameType.{same_tree}
use Rattle.theory_derivations.specs.Alike.{Leads, alike_heads, heads_alike}

module _ (p : Program) where
  abbrev pub Tree : Ty Name → Head Name (Ty Name)
  Tree = head_of p.types

  -- ── one as trees, and by the test
  tree_one : {A B : Ty Name} → Equal same Tree A B → OneType p A B
  tree_one {A} {B} e = record {
    relation = same_type p.types;
    closed = λ C D s. heads_alike (unfolded p.types C) (unfolded p.types D) (matching_map same (λ x y f. (same_tree p.types x y).1 f) (equal_closed same Tree C D ((same_tree p.types C D).0 s)));
    holds = (same_tree p.types A B).1 e;
  }

  one_tree : {A B : Ty Name} → OneType p A B → Equal same Tree A B
  one_tree h = closed_equal same Tree {R = λ C D. So (h.relation C D)} (λ C D s. alike_heads (h.closed C D s)) h.holds

  pub one_iff : (A B : Ty Name) → So (same_type p.types A B) ↔ OneType p A B
  one_iff A B = (λ s. tree_one ((same_tree p.types A B).0 s), λ h. (same_tree p.types A B).1 (one_tree h))

  -- "without end": their trees agree to every depth
  pub one_depths : (A B : Ty Name) → OneType p A B ↔ ((n : ℕ) → Agree same Tree n A B)
  one_depths A B = (λ h. (one_tree h).agree, λ f. tree_one (record { agree = f }))

  -- ── the greatest of all relations that unfolding keeps
  pub closed_one : {R : Ty Name → Ty Name → Type 0} → Closed p R → {A B : Ty Name} → R A B → OneType p A B
  closed_one c r = tree_one (closed_equal same Tree (λ C D s. alike_heads (c C D s)) r)

  pub one_closed : Closed p (OneType p)
  one_closed A B h = heads_alike (unfolded p.types A) (unfolded p.types B) (matching_map same (λ x y e. tree_one e) (equal_closed same Tree A B (one_tree h)))

  -- ── an equivalence
  pub one_refl : (A : Ty Name) → OneType p A A
  one_refl A = tree_one (equal_refl same Tree A)

  pub one_sym : {A B : Ty Name} → OneType p A B → OneType p B A
  one_sym h = tree_one (equal_sym same Tree (one_tree h))

  pub one_trans : {A B D : Ty Name} → OneType p A B → OneType p B D → OneType p A D
  one_trans h k = tree_one (equal_trans same Tree (one_tree h) (one_tree k))

  -- ── a type is one with its unfolding, unless that is a bare name, which refusal 8 rules out
  pub one_unfolded : (A : Ty Name) → unfolded p.types (unfolded p.types A) ≡ unfolded p.types A → OneType p A (unfolded p.types A)
  one_unfolded A e = tree_one (equal_unfolded same Tree (ap (λ B. head_by (shape B)) (sym e)))

  -- the test does not mind the order
  pub one_test_sym : (A B : Ty Name) → same_type p.types A B ≡ same_type p.types B A
  one_test_sym A B = bool_ext (λ s. (one_iff B A).1 (one_sym ((one_iff A B).0 s))) (λ s. (one_iff A B).1 (one_sym ((one_iff B A).0 s)))

  -- ── where one is closed, so is the other
  pub one_unit : {A B : Ty Name} → OneType p A B → unfolded p.types A ≡ unit → unfolded p.types B ≡ unit
  one_unit {A} {B} h e = go (unfolded p.types B) (subst (λ C. Alike (OneType p) C (unfolded p.types B)) e (one_closed A B h))
    where
      go : (D : Ty Name) → Alike (OneType p) unit D → D ≡ unit
      go D units = refl

  -- ── a channel goes over both, or over neither: from the same side, on the same side; what goes over is of one type, and so is what is left
  pub record OnePassing (t u : Passing) : Type 0 where
    pub sender : t.sender ≡ u.sender
    pub side : t.side ≡ u.side
    pub what : OneType p t.what u.what
    pub after : OneType p t.after u.after

  alike_passing : {A B : Ty Name} → Alike (OneType p) A B → Both OnePassing (passing A) (passing B)
  unfolding passing
  alike_passing units = neither
  alike_passing names = neither
  alike_passing (tensors a b) = both (record { sender = refl; side = refl; what = a; after = b })
  alike_passing (pars a b) = both (record { sender = refl; side = refl; what = a; after = b })
  alike_passing (lollis a b) = both (record { sender = refl; side = refl; what = a; after = b })
  alike_passing (pluses f) = neither
  alike_passing (withs f) = neither

  pub one_passing : {A B : Ty Name} → OneType p A B → {t : Passing} → passing (unfolded p.types A) ≡ some t
      → (u : Passing) × (passing (unfolded p.types B) ≡ some u) × OnePassing t u
  one_passing {A} {B} h e = both_here (subst (λ o. Both OnePassing o (passing (unfolded p.types B))) e (alike_passing (one_closed A B h)))

  -- ── a label goes over both, or over neither: from the same side, and it leads to one type
  pub record OneChoosing (t u : Choosing) : Type 0 where
    pub sender : t.sender ≡ u.sender
    pub leads : (l : Name) {A : Ty Name} → labelled l t.labels ≡ some A → (B : Ty Name) × (labelled l u.labels ≡ some B) × OneType p A B

  leads_one : (r q : Alternatives Name) → Leads (OneType p) r q → (l : Name) {A : Ty Name} → labelled l r ≡ some A → (B : Ty Name) × (labelled l q ≡ some B) × OneType p A B
  leads_one r q f l e = both_here (subst (λ o. Both (OneType p) o (labelled l q)) e (f l))

  alike_choosing : {A B : Ty Name} → Alike (OneType p) A B → Both OneChoosing (choosing A) (choosing B)
  unfolding choosing
  alike_choosing units = neither
  alike_choosing names = neither
  alike_choosing (tensors a b) = neither
  alike_choosing (pars a b) = neither
  alike_choosing (lollis a b) = neither
  alike_choosing (pluses {r = r} {q = q} f) = both (record { sender = refl; leads = leads_one r q f })
  alike_choosing (withs {r = r} {q = q} f) = both (record { sender = refl; leads = leads_one r q f })

  pub one_choosing : {A B : Ty Name} → OneType p A B → {t : Choosing} → choosing (unfolded p.types A) ≡ some t
      → (u : Choosing) × (choosing (unfolded p.types B) ≡ some u) × OneChoosing t u
  one_choosing {A} {B} h e = both_here (subst (λ o. Both OneChoosing o (choosing (unfolded p.types B))) e (alike_choosing (one_closed A B h)))
