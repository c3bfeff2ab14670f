-- Equality is closed: equal trees have heads with one mark, and equal trees below.
use Prim.Native.Nat.{ℕ, zero, suc}
use Rattle.std.specs.Prelude.{Bool}
use Rattle.std.proofs.Math.Option.{Option}
use Rattle.trees.specs.Both.{Both, neither, both, both_some}
use Rattle.trees.specs.Heads.{Head, Matching, leaves, words, pairs, choices, pair_parts, choice_parts}
use Rattle.trees.specs.Equal.{Agree, Equal, Closed}

module _ {N : Type 0} (same : N → N → Bool) where
  module _ {X : Type 0} (head : X → Head N X) where
    both_all : {o p : Option X} → ((n : ℕ) → Both (Agree same head n) o p) → Both (Agree same head zero) o p → Both (Equal same head) o p
    both_all f neither = neither
    both_all f (both x) = both (record { agree = λ n. both_some (f n) })

    matching_all : {h g : Head N X} → ((n : ℕ) → Matching same (Agree same head n) h g) → Matching same (Agree same head zero) h g → Matching same (Equal same head) h g
    matching_all f leaves = leaves
    matching_all f words = words
    matching_all f (pairs a b) = pairs (record { agree = λ n. (pair_parts same (f n)).1 }) (record { agree = λ n. (pair_parts same (f n)).2 })
    matching_all f (choices e) = choices (λ l. both_all (λ n. (choice_parts same (f n)).1 l) (e l))

    pub equal_closed : Closed same head (Equal same head)
    unfolding Agree
    equal_closed a b e = matching_all (λ n. e.agree (suc n)) (e.agree 1)
