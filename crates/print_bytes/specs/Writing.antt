-- Texts put into a buffer, one after another.
use Rattle.std.specs.Prelude.{ℕ, ◌+◌, ◌≤◌, ◌<◌, ◌≡◌, refl, List, ◌++◌, length, get_or, set, take}
use Rattle.std.proofs.Common.{sym, ◌∙◌, ap, subst, append_assoc, add-one, arith, length-append, length-set}
use Rattle.std.proofs.Math.Seq.{paste, paste-zero, paste-suc}

-- from `at` on the text l was put, up to r; what stood before it is kept
pub record Appended (old new : List ℕ) (at r : ℕ) (l : List ℕ) : Type 0 where
  pub ends : r ≡ at + length l
  pub front : take r new ≡ take at old ++ l
  pub long : length new ≡ length old

-- one text after another
pub appended_on : {old mid new : List ℕ} {at i r : ℕ} {l m : List ℕ} → Appended old mid at i l → Appended mid new i r m → Appended old new at r (l ++ m)
appended_on {old} {mid} {new} {at} {i} {r} {l} {m} a b = record {
  ends = omega (arith, a.ends, b.ends, length-append l m);
  front = b.front ∙ ap (λ x. x ++ m) a.front ∙ append_assoc (take at old) l m;
  long = b.long ∙ a.long;
}

-- the text by another name
pub appended_as : {old new : List ℕ} {at r : ℕ} {l m : List ℕ} → l ≡ m → Appended old new at r l → Appended old new at r m
appended_as {old} {new} {at} {r} e a = subst (Appended old new at r) e a

-- ── the first i bytes of a text stand, and whatever was past them
pub record Putting (old new : List ℕ) (at : ℕ) (l : List ℕ) (i : ℕ) : Type 0 where
  pub is : new ≡ paste old at l i
  pub within : i ≤ length l
  pub long : length new ≡ length old

module _ (old : List ℕ) (at : ℕ) (l : List ℕ) (room : at + length l ≤ length old) where
  pub putting_none : Putting old old at l 0
  putting_none = record { is = paste-zero old at l; within = omega arith; long = refl }

  pub putting_next : {new : List ℕ} (i : ℕ) → Putting old new at l i → i < length l → Putting old (set new (at + i) (get_or l i 0)) at l (i + 1)
  putting_next {new} i p h = record {
    is = ap (λ x. set x (at + i) (get_or l i 0)) p.is ∙ paste-suc old at l i 0 (omega arith) h ∙ ap (paste old at l) (sym (add-one i));
    within = omega arith;
    long = length-set new (at + i) (get_or l i 0) ∙ p.long;
  }
