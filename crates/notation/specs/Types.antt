-- The reading of types.
use Rattle.std.specs.Prelude.{ℕ, zero, suc, ◌+◌, List, Bool, cond, ◌||◌, ltb, eqb}
use Rattle.notation.specs.Limits.{label_limit}
use Rattle.notation.specs.Token.{kind_at, k_one, k_name, k_label, k_round_open, k_round_close, k_brace_open, k_brace_close, k_plus, k_with, k_colon, k_comma, k_star, k_at, k_lolli}
use Rattle.notation.specs.Tree.{Located, Ty, unit, named, tensor, par, lolli, plus, with, Alternatives, alternative}
use Rattle.notation.specs.Reader.{Result, Taken, got, refused, on_token, part, lastly, choose, expect, misfit, limited, opening, type_term, closed, name_in, label_in}
use Rattle.notation.specs.declared.reading.Cursor.{Cursor}
use Rattle.notation.specs.declared.token.TypeHead.{TypeHead}
use Rattle.notation.specs.declared.token.TypeHead.TheVariants.{One, Name, Round, Plus, With, Other}

-- what a token of this kind begins
unfoldable pub type_head : ℕ → TypeHead
type_head k =
    cond (eqb k k_one) One
    (cond (eqb k k_name) Name
    (cond (eqb k k_round_open) Round
    (cond (eqb k k_plus) Plus
    (cond (eqb k k_with) With Other))))

-- "The three infix marks bind alike, to the right"
unfoldable pub is_infix : ℕ → Bool
is_infix k = eqb k k_star || eqb k k_at || eqb k k_lolli

unfoldable pub infix_of : ℕ → Ty Located → Ty Located → Ty Located
infix_of k A B = cond (eqb k k_star) (tensor A B) (cond (eqb k k_at) (par A B) (lolli A B))

-- A type is an atom, or an atom, an infix mark and a type.
abbrev pub right_by : (Cursor → Result (Ty Located)) → List ℕ → ℕ → Cursor → Result (Ty Located)
right_by type s k c = on_token (type_term s k c) λ _ d. type d

unfoldable pub type_by : (Cursor → Result (Ty Located)) → (Cursor → Result (Ty Located)) → List ℕ → Cursor → Result (Ty Located)
type_by atom type s c =
    part (atom c) λ A d.
    choose (is_infix (kind_at s d.at))
    (λ d. lastly (infix_of (kind_at s d.at) A) (right_by type s (kind_at s d.at) d))
    (λ d. got A d)
    d

-- a type in round brackets
abbrev pub round_by : (Cursor → Result (Ty Located)) → List ℕ → Cursor → Result (Ty Located)
round_by type s c =
    on_token (opening s k_round_open c) λ _ d.
    part (type d) λ A e.
    on_token (expect s k_round_close e) λ _ f. got A (closed c f)

-- a choice: its mark, and its labels in braces
abbrev pub choice_by : (Cursor → Result (Alternatives Located)) → List ℕ → ℕ → (Alternatives Located → Ty Located) → Cursor → Result (Ty Located)
choice_by alternatives s k choice c =
    on_token (type_term s k c) λ _ d.
    on_token (opening s k_brace_open d) λ _ e.
    part (alternatives e) λ r f.
    on_token (expect s k_brace_close f) λ _ g. got (choice r) (closed c g)

-- an atom, by what begins it
unfoldable pub atom_by : (Cursor → Result (Ty Located)) → (Cursor → Result (Alternatives Located)) → List ℕ → Cursor → TypeHead → Result (Ty Located)
atom_by type alternatives s c One = on_token (type_term s k_one c) λ _ d. got unit d
atom_by type alternatives s c Name = on_token (type_term s k_name c) λ i d. got (named (name_in s i)) d
atom_by type alternatives s c Round = round_by type s c
atom_by type alternatives s c Plus = choice_by alternatives s k_plus plus c
atom_by type alternatives s c With = choice_by alternatives s k_with with c
atom_by type alternatives s c Other = misfit s c

-- a label within the limit of its list, of which n came before
unfoldable pub label_term : List ℕ → ℕ → Cursor → Taken
label_term s n c = limited (expect s k_label c) (λ _. ltb n label_limit) (λ d. d)

-- after an alternative: a comma and more, or none
abbrev pub more_by : (Cursor → Result (Alternatives Located)) → List ℕ → Cursor → Result (Alternatives Located)
more_by more s c =
    choose (eqb (kind_at s c.at) k_comma)
    (λ c. on_token (expect s k_comma c) λ _ d. more d)
    (λ c. got Alternatives.none c)
    c

-- one label or more, of which n came before: 'l : A, ..
unfoldable pub alternatives_by : (Cursor → Result (Ty Located)) → (Cursor → Result (Alternatives Located)) → List ℕ → ℕ → Cursor → Result (Alternatives Located)
alternatives_by type more s n c =
    on_token (label_term s n c) λ i d.
    on_token (expect s k_colon d) λ _ e.
    part (type e) λ A f. lastly (alternative (label_in s i) A) (more_by more s f)

unfoldable mutual
  pub read_type : ℕ → List ℕ → Cursor → Result (Ty Located)
  read_type zero s c = refused 0 0
  read_type (suc n) s c = type_by (λ d. read_atom n s d) (λ d. read_type n s d) s c

  pub read_atom : ℕ → List ℕ → Cursor → Result (Ty Located)
  read_atom zero s c = refused 0 0
  read_atom (suc n) s c = atom_by (λ d. read_type n s d) (λ d. read_alternatives n s 0 d) s c (type_head (kind_at s c.at))

  pub read_alternatives : ℕ → List ℕ → ℕ → Cursor → Result (Alternatives Located)
  read_alternatives zero s k c = refused 0 0
  read_alternatives (suc n) s k c = alternatives_by (λ d. read_type n s d) (λ d. read_alternatives n s (k + 1) d) s k c
