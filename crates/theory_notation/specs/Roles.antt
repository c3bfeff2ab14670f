-- The parts that tokens play: words and marks by their offset, names and labels by their offset and name.
use Rattle.std.specs.Prelude.{ℕ, ◌+◌, ◌≡◌, refl, ◌≢◌, List, [], Bool, true, false, cond, eqb, ltb}
use Rattle.std.proofs.Common.{sym, ◌∙◌, ap, arith, eqb-true, ltb-true}
use Rattle.notation.specs.Token.{token_at, name_at, k_name, k_label, k_fault}
use Rattle.notation.specs.Tree.{Located}
use Rattle.notation.specs.Reader.{name_in, label_in}
use Rattle.grammar.specs.Terminals.{Tok, tok, Terminal, token_of, type_mark, type_name, term_word, brought, opens, closes, listed, sent, name, mark}
use Rattle.theory_notation.specs.Standing.{name_of}
use Rattle.theory_notation.specs.Phrases.{Role}

located : (n l : Located) → n.at ≡ l.at → n.name ≡ l.name → n ≡ l
located n l e f = λ j. record { at = e j; name = f j }

-- a word or a mark: neither a name nor a label, nor a fault
abbrev pub Plain : ℕ → Type 0
Plain k = ltb k k_name ≡ true

plain_token : (k : ℕ) → Plain k → k ≢ k_fault
plain_token k p e = let h = ltb-true k k_name p in absurd (omega arith)

no_name : (s : List ℕ) (k a : ℕ) → Plain k → name_of s k a ≡ []
no_name s k a p = go (eqb k k_name) (eqb k k_label) refl refl
  where
    go : (b d : Bool) → eqb k k_name ≡ b → eqb k k_label ≡ d → cond b (name_at s a) (cond d (name_at s (a + 1)) []) ≡ []
    go true d e h = let y = ltb-true k k_name p in let z = eqb-true k k_name e in absurd (omega arith)
    go false true e h = let y = ltb-true k k_name p in let z = eqb-true k k_label h in absurd (omega arith)
    go false false e h = refl

pub word_role : (s : List ℕ) (k : ℕ) (R : ℕ → Terminal) → ((a : ℕ) → token_of (R a) ≡ tok k a []) → Plain k → Role s k R (λ i. i)
word_role s k R is f = record {
  apart = λ v w e. ap (λ (t : Tok). t.at) (sym (is v) ∙ e ∙ is w);
  kind = λ v. ap (λ (t : Tok). t.kind) (is v);
  is = λ i e. is (token_at s i).start ∙ ap (λ n. tok k (token_at s i).start n) (sym (no_name s k (token_at s i).start f)) ∙ ap (λ k. tok k (token_at s i).start (name_of s k (token_at s i).start)) (sym e);
  at = λ o. (o, ap (λ (t : Tok). t.at) (is o));
  token = plain_token k f;
}

located_role : (s : List ℕ) (k : ℕ) (R : Located → Terminal) (value : ℕ → Located) → ((n : Located) → token_of (R n) ≡ tok k n.at n.name) → ((i : ℕ) → tok k (value i).at (value i).name ≡ tok k i (name_of s k i)) → k ≢ k_fault → Role s k R value
located_role s k R value is here f = record {
  apart = λ v w e. let f = sym (is v) ∙ e ∙ is w in located v w (ap (λ (t : Tok). t.at) f) (ap (λ (t : Tok). t.name) f);
  kind = λ v. ap (λ (t : Tok). t.kind) (is v);
  is = λ i e. is (value (token_at s i).start) ∙ here (token_at s i).start ∙ ap (λ k. tok k (token_at s i).start (name_of s k (token_at s i).start)) (sym e);
  at = λ o. (record { at = o; name = [] }, ap (λ (t : Tok). t.at) (is (record { at = o; name = [] })));
  token = f;
}

pub name_role : (s : List ℕ) (R : Located → Terminal) → ((n : Located) → token_of (R n) ≡ tok k_name n.at n.name) → Role s k_name R (name_in s)
name_role s R is = located_role s k_name R (name_in s) is (λ i. refl) (λ e. absurd (omega arith))

pub label_role : (s : List ℕ) (R : Located → Terminal) → ((n : Located) → token_of (R n) ≡ tok k_label n.at n.name) → Role s k_label R (label_in s)
label_role s R is = located_role s k_label R (label_in s) is (λ i. refl) (λ e. absurd (omega arith))

-- ── of each terminal
module _ (s : List ℕ) where
  module _ (k : ℕ) (p : Plain k) where
    abbrev pub type_marks : Role s k (type_mark k) (λ i. i)
    type_marks = word_role s k (type_mark k) (λ a. refl) p

    abbrev pub term_words : Role s k (term_word k) (λ i. i)
    term_words = word_role s k (term_word k) (λ a. refl) p

    abbrev pub openers : Role s k (opens k) (λ i. i)
    openers = word_role s k (opens k) (λ a. refl) p

    abbrev pub closers : Role s k (closes k) (λ i. i)
    closers = word_role s k (closes k) (λ a. refl) p

    abbrev pub marks : Role s k (mark k) (λ i. i)
    marks = word_role s k (mark k) (λ a. refl) p

  abbrev pub type_names : Role s k_name type_name (name_in s)
  type_names = name_role s type_name (λ n. refl)

  abbrev pub brought_names : Role s k_name brought (name_in s)
  brought_names = name_role s brought (λ n. refl)

  abbrev pub names : Role s k_name name (name_in s)
  names = name_role s name (λ n. refl)

  abbrev pub sent_labels : Role s k_label sent (label_in s)
  sent_labels = label_role s sent (λ n. refl)

  abbrev pub listed_labels : (before : ℕ) → Role s k_label (listed before) (label_in s)
  listed_labels before = label_role s (listed before) (λ n. refl)
