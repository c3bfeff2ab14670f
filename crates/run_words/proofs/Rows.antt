-- Laws of words that are stored.
use Prim.Native.Nat.{ℕ, ◌+◌, ◌-◌, ◌≤◌, ◌<◌}
use mathlib.Core.List.{List}
use mathlib.Core.Path.{◌≡◌, refl, sym, ap, ◌∙◌}
use native.Mathlib.Omega.{arith}
use native.Mathlib.Decide.{dec_lt, ℕ_discrete}
use lib.ListN.{length, get_or, set, drop, length-set, length-drop}
use lib.Seq.{get_or-set_same, get_or-set_other, get_or-drop, ext_get_or}
use Rattle.run_words.specs.Values.{Moved}

-- ── stores in a row
module _ (old : List ℕ) (g : ℕ → ℕ) where
  pub moved_none : (lo hi : ℕ) → hi ≤ lo → Moved old old lo hi g
  moved_none lo hi h = record { long = refl; inside = λ k a b. absurd (omega arith); below = λ k _. refl; above = λ k _. refl }

  -- one store at b, where the words on to hi' are as they were
  pub moved_store : (new : List ℕ) (lo hi hi' b x : ℕ) → Moved old new lo hi g → lo ≤ hi → hi ≤ b → b < hi' → b < length new → x ≡ g b
      → ((k : ℕ) → hi ≤ k → k < hi' → (k ≡ b → ⊥) → get_or old k 0 ≡ g k) → Moved old (set new b x) lo hi' g
  moved_store new lo hi hi' b x m o h n l e s = record {
    long = length-set new b x ∙ m.long;
    inside = λ k a c. at k a c (ℕ_discrete k b) (dec_lt k hi);
    below = λ k a. get_or-set_other new b k x 0 (omega arith) ∙ m.below k a;
    above = λ k a. get_or-set_other new b k x 0 (omega arith) ∙ m.above k (omega arith);
  }
    where
      at : (k : ℕ) → lo ≤ k → k < hi' → Dec (k ≡ b) → Dec (k < hi) → get_or (set new b x) k 0 ≡ g k
      at k a c (yes p) q = ap (λ j. get_or (set new b x) j 0) p ∙ get_or-set_same new b x 0 l ∙ e ∙ ap g (sym p)
      at k a c (no p) (yes q) = get_or-set_other new b k x 0 p ∙ m.inside k a q
      at k a c (no p) (no q) = get_or-set_other new b k x 0 p ∙ m.above k (omega arith) ∙ s k (omega arith) c p

  pub moved_up : (new : List ℕ) (lo hi hi' x : ℕ) → Moved old new lo hi g → lo ≤ hi → hi < length new → hi' ≡ hi + 1 → x ≡ g hi → Moved old (set new hi x) lo hi' g
  moved_up new lo hi hi' x m h l n e = moved_store new lo hi hi' hi x m h (omega arith) (omega arith) l e (λ k a c p. absurd (p (omega arith)))

  pub moved_at : (new : List ℕ) (lo lo' hi hi' : ℕ) → Moved old new lo hi g → lo ≡ lo' → hi ≡ hi' → Moved old new lo' hi' g
  moved_at new lo lo' hi hi' m p q = record {
    long = m.long;
    inside = λ k a b. m.inside k (omega arith) (omega arith);
    below = λ k a. m.below k (omega arith);
    above = λ k a. m.above k (omega arith);
  }

pub moved_as : (old new : List ℕ) (lo hi : ℕ) (g h : ℕ → ℕ) → ((k : ℕ) → g k ≡ h k) → Moved old new lo hi g → Moved old new lo hi h
moved_as old new lo hi g h e m = record { long = m.long; inside = λ k a b. m.inside k a b ∙ e k; below = m.below; above = m.above }

-- lists that agree from n on
pub drop_same : (n : ℕ) (a b : List ℕ) → length a ≡ length b → ((k : ℕ) → n ≤ k → get_or a k 0 ≡ get_or b k 0) → drop n a ≡ drop n b
drop_same n a b h e =
    ext_get_or 0 (drop n a) (drop n b) (length-drop n a ∙ ap (λ m. m - n) h ∙ sym (length-drop n b))
    (λ i l. get_or-drop n a i 0 ∙ e (n + i) (omega arith) ∙ sym (get_or-drop n b i 0))
