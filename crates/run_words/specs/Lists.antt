-- Lists by position.
use Rattle.std.specs.Prelude.{ℕ, zero, suc, List, [], ◌∷◌, ◌++◌, take, drop}

module _ {A : Type 0} where
  -- f 0, f 1, and so on, n of them
  abbrev pub tab : (ℕ → A) → ℕ → List A
  tab f zero = []
  tab f (suc n) = f 0 ∷ tab (λ k. f (suc k)) n

  -- with x before position k, and without position k
  abbrev pub insert_at : ℕ → A → List A → List A
  insert_at k x l = take k l ++ (x ∷ drop k l)

  abbrev pub remove_at : ℕ → List A → List A
  remove_at k l = take k l ++ drop (suc k) l

  -- every element has the property
  abbrev pub All : (A → Type 0) → List A → Type 0
  All P [] = Unit
  All P (x ∷ l) = P x × All P l

  -- a fold from the right that knows each element's position, of which the first is k
  abbrev pub scan : {B : Type 0} → (ℕ → A → B → B) → B → ℕ → List A → B
  scan step none k [] = none
  scan step none k (a ∷ l) = let r = scan step none (suc k) l in step k a r
