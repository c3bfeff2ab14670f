-- What the type at a node lets a process do, in node numbers.
use Rattle.std.specs.Prelude.{ℕ, ◌<◌, ◌≤◌, ◌≡◌, refl, List, Bool, true, false, cond, eqb}
use Rattle.std.specs.Prelude.{Option as CodeOption, Some, None}
use Rattle.std.proofs.Common.{sym, ◌∙◌, ap, arith}
use Rattle.std.proofs.Math.Option.{Option, some, none, map, get_or}
use Rattle.notation.specs.Token.{name_at}
use Rattle.notation.specs.Tree.{Name, Ty, plains}
use Rattle.notation.specs.declared.reading.TypeNode.{TypeNode}
use Rattle.calculus.specs.Named.{lookup}
use Rattle.calculus.specs.Types.{Shape, leaf, word, pair, choice, shape, unfolded, passing, choosing}
use Rattle.calculus.specs.Types as calculus
use Rattle.run_words.specs.Raw.{side_of}
use Rattle.read_tables.specs.declared.access.Labelled.{Labelled}
use Rattle.read_tables.specs.Access.{NodeOf, TypeOf}
use Rattle.read_tables.specs.Decode.{tally_in}
use Rattle.read_tables.specs.Program.{plain_in, program_in, named_type}
use Rattle.read_tables.specs.Roots.{TypeIn, AlternativesIn, alternatives_in}
use Rattle.read_tables.specs.Search.{place_of, Sought}
use Rattle.read_tables.specs.Whole.{Tables}
use Rattle.check_types.specs.declared.messages.Passing.{Passing}
use Rattle.check_types.specs.declared.messages.Choosing.{Choosing}
use Rattle.check_types.specs.Numbers.{declared_or, number_for, number_itself, number_named}
use Rattle.check_types.specs.Shapes.{by_marks, ShapeIn, is_leaf, is_word, is_pair, is_choice_lem, shape_in, word_in, pair_in, choice_in}

-- ── what the code promises
-- the type i stands for the type r
pub record StandsFor (s w : List ℕ) (i r : ℕ) : Type 0 where
  pub is : plain_in s w r ≡ unfolded (program_in s w).types (plain_in s w i)
  pub type : TypeIn s w r
  pub number : r ≡ number_for s w i

-- the code's answers by their numbers: what passes, what is chosen from
abbrev pub passing_words : ℕ → ℕ → ℕ → ℕ → CodeOption Passing
passing_words sender side what after = Some (record { sender = sender; side = side; what = what; after = after })

abbrev pub choosing_words : ℕ → ℕ → ℕ → CodeOption Choosing
choosing_words sender place count = Some (record { sender = sender; place = place; count = count })

-- the code's answers, in the calculus' terms; the parts of what is passed are types
abbrev pub passing_of : List ℕ → List ℕ → CodeOption Passing → Option calculus.Passing
passing_of s w None = none
passing_of s w (Some p) = some (record { sender = side_of p.sender; side = side_of p.side; what = plain_in s w p.what; after = plain_in s w p.after })

abbrev pub passed_in : List ℕ → List ℕ → CodeOption Passing → Type 0
passed_in s w None = Unit
passed_in s w (Some p) = TypeIn s w p.what × TypeIn s w p.after × (p.sender < 2) × (p.side < 2)

pub record PassingIn (s w : List ℕ) (i : ℕ) (r : CodeOption Passing) : Type 0 where
  pub is : passing (plain_in s w i) ≡ passing_of s w r
  pub parts : passed_in s w r

-- r is what the type i passes, whatever text the tables are of
pub record PassingOf (w : List ℕ) (i : ℕ) (r : CodeOption Passing) : Type 0 where
  pub says : (s : List ℕ) → Tables s w → TypeIn s w i → PassingIn s w i r

abbrev pub choosing_of : List ℕ → List ℕ → CodeOption Choosing → Option calculus.Choosing
choosing_of s w None = none
choosing_of s w (Some c) = some (record { sender = side_of c.sender; labels = plains (alternatives_in s w c.place c.count) })

abbrev pub chosen_in : List ℕ → List ℕ → CodeOption Choosing → Type 0
chosen_in s w None = Unit
chosen_in s w (Some c) = (c.sender < 2) × AlternativesIn s w c.place c.count

pub record ChoosingIn (s w : List ℕ) (i : ℕ) (r : CodeOption Choosing) : Type 0 where
  pub is : choosing (plain_in s w i) ≡ choosing_of s w r
  pub parts : chosen_in s w r

-- r is what the type i lets a process choose, whatever text the tables are of
pub record ChoosingOf (w : List ℕ) (i : ℕ) (r : CodeOption Choosing) : Type 0 where
  pub says : (s : List ℕ) → Tables s w → TypeIn s w i → ChoosingIn s w i r

-- ── the calculus' definitions go by the shape alone
abbrev unfolded_by : List (Name × Ty Name) → Ty Name → Shape → Ty Name
unfolded_by types A leaf = A
unfolded_by types A (word n) = get_or (lookup n types) A
unfolded_by types A (pair k B C) = A
unfolded_by types A (choice k r) = A

unfolded_by_shape : (types : List (Name × Ty Name)) (A : Ty Name) → unfolded types A ≡ unfolded_by types A (shape A)
unfolded_by_shape types = by_marks (λ A. unfolded types A ≡ unfolded_by types A (shape A)) refl (λ n. refl) (λ A B. (refl, refl, refl)) (λ r. (refl, refl))

-- a side in bits: provided at the kind m alone
abbrev bit : ℕ → ℕ → ℕ
bit m k = cond (eqb m k) 0 1

abbrev passing_by : Shape → Option calculus.Passing
passing_by leaf = none
passing_by (word n) = none
passing_by (pair k A B) = some (record { sender = side_of (bit 2 k); side = side_of (bit 3 k); what = A; after = B })
passing_by (choice k r) = none

passing_by_shape : (A : Ty Name) → passing A ≡ passing_by (shape A)
unfolding passing
passing_by_shape = by_marks (λ A. passing A ≡ passing_by (shape A)) refl (λ n. refl) (λ A B. (refl, refl, refl)) (λ r. (refl, refl))

abbrev choosing_by : Shape → Option calculus.Choosing
choosing_by leaf = none
choosing_by (word n) = none
choosing_by (pair k A B) = none
choosing_by (choice k r) = some (record { sender = side_of (bit 5 k); labels = r })

choosing_by_shape : (A : Ty Name) → choosing A ≡ choosing_by (shape A)
unfolding choosing
choosing_by_shape = by_marks (λ A. choosing A ≡ choosing_by (shape A)) refl (λ n. refl) (λ A B. (refl, refl, refl)) (λ r. (refl, refl))

bit_small : (m k : ℕ) → bit m k < 2
bit_small m k = go (eqb m k)
  where
    go : (b : Bool) → cond b 0 1 < 2
    go true = omega arith
    go false = omega arith

-- ── from the node to what it lets do
module _ {s w : List ℕ} {n : TypeNode} {k : ℕ} where
  not_word : (types : List (Name × Ty Name)) (A : Ty Name) {t : Shape} → ShapeIn s w n k t → (k ≡ 1 → ⊥) → unfolded_by types A t ≡ A
  not_word types A (is_leaf e) z = refl
  not_word types A (is_word e) z = absurd (z e)
  not_word types A (is_pair l h a b) z = refl
  not_word types A (is_choice_lem l h a) z = refl

  not_pair : {t : Shape} → ShapeIn s w n k t → (k ≡ 2 → ⊥) → (k ≡ 3 → ⊥) → (k ≡ 4 → ⊥) → passing_by t ≡ none
  not_pair (is_leaf e) x y z = refl
  not_pair (is_word e) x y z = refl
  not_pair (is_pair l h a b) x y z = absurd (omega arith)
  not_pair (is_choice_lem l h a) x y z = refl

  not_choice : {t : Shape} → ShapeIn s w n k t → (k ≡ 5 → ⊥) → (k ≡ 6 → ⊥) → choosing_by t ≡ none
  not_choice (is_leaf e) x y = refl
  not_choice (is_word e) x y = refl
  not_choice (is_pair l h a b) x y = refl
  not_choice (is_choice_lem l h a) x y = absurd (omega arith)

module _ (w : List ℕ) (i : ℕ) (n : TypeNode) (o : NodeOf w i n) where
  module _ (s : List ℕ) (t : Tables s w) (a : TypeIn s w i) where
    abbrev types : List (Name × Ty Name)
    types = (program_in s w).types

    pub stands_itself : (n.kind ≡ 1 → ⊥) → StandsFor s w i i
    stands_itself z =
        let A = plain_in s w i in
        record {
          is = sym (unfolded_by_shape types A ∙ not_word types A (shape_in s w i n o t a) z);
          type = a;
          number = number_itself s w i n o.holds z;
        }

    module _ (k : n.kind ≡ 1) {r : CodeOption ℕ} (f : Sought (name_at s n.second) types (named_type s w) (tally_in w).types r) where
      by_name : (q : CodeOption ℕ) → r ≡ q → unfolded types (plain_in s w i) ≡ get_or (map (λ j. (named_type s w j).1) (place_of q)) (plain_in s w i)
      by_name q e =
          let A = plain_in s w i in
          unfolded_by_shape types A
          ∙ ap (unfolded_by types A) (word_in (shape_in s w i n o t a) k)
          ∙ ap (λ (d : Option (Ty Name)). get_or d A) f.is
          ∙ ap (λ (p : CodeOption ℕ). get_or (map (λ j. (named_type s w j).1) (place_of p)) A) e

      by_number : (q : CodeOption ℕ) → r ≡ q → declared_or w i q ≡ number_for s w i
      by_number q e = number_named s w i n o.holds k q (sym e ∙ f.first)

      pub stands_declared : (j : ℕ) (d : Labelled) → r ≡ Some j → TypeOf w j d → StandsFor s w i d.number
      stands_declared j d e b =
          record {
            is = sym (by_name (Some j) e ∙ ap (λ (p : Name × Ty Name). p.1) (b.is s));
            type = b.stands s t (f.below j e);
            number = b.holds.number ∙ by_number (Some j) e;
          }

      pub stands_undeclared : r ≡ None → StandsFor s w i i
      stands_undeclared e = record { is = sym (by_name None e); type = a; number = by_number None e }

  pub passes_at : (kind : ℕ) → n.kind ≡ kind → 2 ≤ kind → kind ≤ 4 → PassingOf w i (passing_words (bit 2 kind) (bit 3 kind) n.first n.second)
  passes_at kind e l h =
      record {
        says = λ s t a.
            let p = pair_in (shape_in s w i n o t a) (omega arith) (omega arith) in
            record {
              is = passing_by_shape (plain_in s w i) ∙ ap passing_by p.is ∙ ap (λ k. passing_by (pair k (plain_in s w n.first) (plain_in s w n.second))) e;
              parts = (p.first, p.second, bit_small 2 kind, bit_small 3 kind);
            };
      }

  pub passes_nothing : (n.kind ≡ 2 → ⊥) → (n.kind ≡ 3 → ⊥) → (n.kind ≡ 4 → ⊥) → PassingOf w i None
  passes_nothing x y z =
      record { says = λ s t a. record { is = passing_by_shape (plain_in s w i) ∙ not_pair (shape_in s w i n o t a) x y z; parts = tt } }

  pub chooses_at : (kind : ℕ) → n.kind ≡ kind → 5 ≤ kind → ChoosingOf w i (choosing_words (bit 5 kind) n.first n.second)
  chooses_at kind e l =
      record {
        says = λ s t a.
            let p = choice_in (shape_in s w i n o t a) (omega arith) in
            record {
              is = choosing_by_shape (plain_in s w i) ∙ ap choosing_by p.is ∙ ap (λ k. choosing_by (choice k (plains (alternatives_in s w n.first n.second)))) e;
              parts = (bit_small 5 kind, p.labels);
            };
      }

  pub chooses_nothing : (n.kind ≡ 5 → ⊥) → (n.kind ≡ 6 → ⊥) → ChoosingOf w i None
  chooses_nothing x y =
      record { says = λ s t a. record { is = choosing_by_shape (plain_in s w i) ∙ not_choice (shape_in s w i n o t a) x y; parts = tt } }
