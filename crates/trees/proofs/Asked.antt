-- What two heads ask for, decided. It stands here, and not beside what it says, so that a wrong head or a wrong answer is refused where it is proved.
use Rattle.std.specs.Prelude.{◌≡◌, Bool, ℕ, eqb}
use Rattle.std.proofs.Math.Path.{refl}
use Rattle.std.proofs.Common.{sym, ◌∙◌, ap, true≢false}
use mathlib.Core.List.{List, [], ◌∷◌, ◌++◌}
use Rattle.std.proofs.Math.Bool.{true, false}
use Rattle.trees.specs.Heads.{Head, leaf, word, pair, choice, leaves, words, pairs, choices, pair_parts, choice_parts, word_parts}
use Rattle.trees.specs.Asked.{same_mark?, labels_of, Asked, clash, asks, Met, apart, met, meet, whole}

module _ {N : Type 0} (same : N → N → Bool) (exact : (l m : N) → same l m ≡ true → l ≡ m) where
  module _ {X : Type 0} where
    unfoldable pub asked_words : (n m : N) (t : Bool) → same n m ≡ t → ((l : N) → same l l ≡ true) → Asked same exact {X = X} (word n) (word m)
    asked_words n m true e i = asks [] (λ R a. rw (exact n m e) words) (λ R a. tt)
    asked_words n m false e i = clash (λ R a. absurd (true≢false (sym (i n) ∙ ap (same n) (word_parts same a) ∙ e)))

    unfoldable pub asked_pairs : (k m : ℕ) (a b c d : X) → Dec (k ≡ m) → Asked same exact (pair k a b) (pair m c d)
    asked_pairs k m a b c d (yes e) = asks ((a, c) ∷ (b, d) ∷ []) (λ R x. rw e (pairs x.0 x.1.0)) (λ R x. ((pair_parts same x).1, ((pair_parts same x).2, tt)))
    asked_pairs k m a b c d (no e) = clash (λ R x. e (pair_parts same x).0)

    unfoldable pub asked_choices : (k m : ℕ) (r q : List (N × X)) → Dec (k ≡ m) → Met same exact (labels_of same exact r ++ labels_of same exact q) r q → Asked same exact (choice k r) (choice m q)
    asked_choices k m r q (yes e) (met ps f g) = asks ps (λ R x. rw e (choices (whole same exact r q (f R x)))) (λ R x. g R (choice_parts same x).1)
    asked_choices k m r q (yes e) (apart f) = clash (λ R x. f R (choice_parts same x).1)
    asked_choices k m r q (no e) (met ps f g) = clash (λ R x. e (choice_parts same x).0)
    asked_choices k m r q (no e) (apart f) = clash (λ R x. e (choice_parts same x).0)

    module _ (itself : (l : N) → same l l ≡ true) where
      unfoldable pub asked : (h g : Head N X) → Asked same exact h g
      asked leaf leaf = asks [] (λ R a. leaves) (λ R a. tt)
      asked leaf (word n) = clash (λ R. elim [ ])
      asked leaf (pair k a b) = clash (λ R. elim [ ])
      asked leaf (choice k r) = clash (λ R. elim [ ])
      asked (word n) leaf = clash (λ R. elim [ ])
      asked (word n) (word m) = asked_words n m (same n m) refl itself
      asked (word n) (pair k a b) = clash (λ R. elim [ ])
      asked (word n) (choice k r) = clash (λ R. elim [ ])
      asked (pair k a b) leaf = clash (λ R. elim [ ])
      asked (pair k a b) (word n) = clash (λ R. elim [ ])
      asked (pair k a b) (pair m c d) = asked_pairs k m a b c d (same_mark? k m (eqb k m) refl)
      asked (pair k a b) (choice m r) = clash (λ R. elim [ ])
      asked (choice k r) leaf = clash (λ R. elim [ ])
      asked (choice k r) (word n) = clash (λ R. elim [ ])
      asked (choice k r) (pair m a b) = clash (λ R. elim [ ])
      asked (choice k r) (choice m q) = asked_choices k m r q (same_mark? k m (eqb k m) refl) (meet same exact r q (labels_of same exact r ++ labels_of same exact q))
