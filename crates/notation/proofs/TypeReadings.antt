-- A type that is read has its names and labels from the text, and its offsets fit their words; else it is refused by 3 to 5.
-- The fuel is never spent, since each call but one has read a token.
use Prim.Native.Nat.{ℕ, zero, suc, ◌+◌, ◌*◌, ◌≤◌, ◌<◌}
use native.Mathlib.Omega.{arith}
use mathlib.Core.Path.{◌≡◌, refl}
use mathlib.Core.List.{List}
use mathlib.Core.Bool.{Bool, true, false, false≢true, cond, ◌||◌}
use lib.ListN.{length}
use lib.Dec.{eqb}
use borrow.Author.Tests.{eqb-true}
use Rattle.notation.specs.Fine.{FineAlternatives, FineType, SomeAlternative}
use Rattle.notation.specs.From.{TypeFrom, AlternativesFrom}
use Rattle.notation.specs.Limits.{text_limit}
use Rattle.notation.specs.Token.{kind_at, k_one, k_name, k_round_open, k_round_close, k_brace_open, k_brace_close, k_plus, k_with, k_colon, k_comma, k_star, k_at, k_lolli, k_fault}
use Rattle.notation.specs.Tree.{Located, Ty, unit, named, tensor, par, lolli, plus, with, Alternatives}
use Rattle.notation.specs.Reader.{Result, name_in}
use Rattle.notation.specs.Types.{type_head, is_infix, infix_of, type_by, round_by, choice_by, atom_by, alternatives_by, read_type, read_atom, read_alternatives}
use Rattle.notation.specs.declared.reading.Cursor.{Cursor}
use Rattle.notation.specs.declared.token.TypeHead.{TypeHead}
use Rattle.notation.specs.declared.token.TypeHead.TheVariants.{One, Name, Round, Plus, With, Other}
use Rattle.notation.proofs.Tokens.{cond_both}
use Rattle.notation.proofs.Readings.{Reads, Beyond, reads_got, reads_take, reads_part, reads_lastly, reads_later, reads_choose, reads_misfit, takes_expect, takes_opening, takes_type, takes_label_lem}

abbrev pub ReadType : List ℕ → Ty Located → Type 0
ReadType s A = TypeFrom s A × FineType A

-- a list, and one that has labels
abbrev ReadList : List ℕ → Alternatives Located → Type 0
ReadList s r = AlternativesFrom s r × FineAlternatives r

abbrev ReadLabels : List ℕ → Alternatives Located → Type 0
ReadLabels s r = ReadList s r × SomeAlternative r

infix_kind_lem : (k : ℕ) → is_infix k ≡ true → k < k_fault
unfolding is_infix
infix_kind_lem k = go (eqb k k_star) (eqb k k_at) (eqb k k_lolli) (eqb-true k k_star) (eqb-true k k_at) (eqb-true k k_lolli)
  where
    go : (a b c : Bool) → (a ≡ true → k ≡ k_star) → (b ≡ true → k ≡ k_at) → (c ≡ true → k ≡ k_lolli) → (a || b || c) ≡ true → k < k_fault
    go true b c f g h e = omega (arith, f refl)
    go false true c f g h e = omega (arith, g refl)
    go false false true f g h e = omega (arith, h refl)
    go false false false f g h e = absurd (false≢true e)

infix_read : (s : List ℕ) (k : ℕ) (A B : Ty Located) → ReadType s A → ReadType s B → ReadType s (infix_of k A B)
unfolding infix_of TypeFrom FineType
infix_read s k A B (a, f) (b, g) =
    cond_both (ReadType s) (eqb k k_star) (tensor A B) (cond (eqb k k_at) (par A B) (lolli A B)) (λ _. ((a, b), (f, g)))
    (λ _. cond_both (ReadType s) (eqb k k_at) (par A B) (lolli A B) (λ _. ((a, b), (f, g))) (λ _. ((a, b), (f, g))))

module _ (s : List ℕ) (short : length s ≤ text_limit) (c : Cursor) where
  module _ (type : Cursor → Result (Ty Located)) (t : Beyond s c (ReadType s) type) where
    type_reads : (atom : Cursor → Result (Ty Located)) → Reads s c.at (ReadType s) (atom c) → Reads s c.at (ReadType s) (type_by atom type s c)
    unfolding type_by
    type_reads atom a =
        reads_part _ a λ A d h p.
        reads_choose (is_infix (kind_at s d.at)) _ _ d
        (λ e.
        reads_lastly {from = c.at} {Q = ReadType s} _
        (reads_take _ (takes_type s (kind_at s d.at) d (infix_kind_lem _ e)) λ i f g. reads_later (t f (omega arith)) (omega arith) λ B q. q)
        (omega arith) λ B q. infix_read s (kind_at s d.at) A B p q)
        (λ _. reads_got A d h p)

    round_reads : Reads s c.at (ReadType s) (round_by type s c)
    round_reads =
        reads_take _ (takes_opening s k_round_open c (omega arith)) λ i d h.
        reads_part _ (t d (omega arith)) λ A e g p.
        reads_take _ (takes_expect s k_round_close e (omega arith)) λ j f k. reads_got A _ (omega arith) p

    module _ (more : Cursor → Result (Alternatives Located)) (m : Beyond s c (ReadLabels s) more) where
      choice_reads : (k : ℕ) → k < k_fault → (choice : Alternatives Located → Ty Located) → ((r : Alternatives Located) → ReadLabels s r → ReadType s (choice r)) → Reads s c.at (ReadType s) (choice_by more s k choice c)
      choice_reads k l choice q =
          reads_take _ (takes_type s k c l) λ i d h.
          reads_take _ (takes_opening s k_brace_open d (omega arith)) λ j e g.
          reads_part _ (m e (omega arith)) λ r f x p.
          reads_take _ (takes_expect s k_brace_close f (omega arith)) λ n o y. reads_got _ _ (omega arith) (q r p)

      atom_reads : (h : TypeHead) → Reads s c.at (ReadType s) (atom_by type more s c h)
      unfolding atom_by TypeFrom FineType
      atom_reads One = reads_take _ (takes_type s k_one c (omega arith)) λ i d h. reads_got unit d (omega arith) (omega arith)
      atom_reads Name = reads_take _ (takes_type s k_name c (omega arith)) λ i d h. reads_got (named (name_in s i)) d (omega arith) (refl, omega arith)
      atom_reads Round = round_reads
      atom_reads Plus = choice_reads k_plus (omega arith) plus (λ r ((a, b), h). (a, (b, h)))
      atom_reads With = choice_reads k_with (omega arith) with (λ r ((a, b), h). (a, (b, h)))
      atom_reads Other = reads_misfit s c.at c

      alternatives_reads : (n : ℕ) → Reads s c.at (ReadLabels s) (alternatives_by type more s n c)
      unfolding alternatives_by TypeFrom FineType
      alternatives_reads n =
          reads_take _ (takes_label_lem s n c) λ i d h.
          reads_take _ (takes_expect s k_colon d (omega arith)) λ j e g.
          reads_part _ (t e (omega arith)) λ A f k (a, x).
          reads_lastly {from = c.at} {Q = ReadList s} _
          (reads_choose (eqb (kind_at s f.at) k_comma) _ _ f
          (λ _. reads_take _ (takes_expect s k_comma f (omega arith)) λ p o y. reads_later (m o (omega arith)) (omega arith) λ r u. u.0)
          (λ _. reads_got Alternatives.none f (omega arith) (omega arith)))
          (omega arith) λ r (b, u). (((refl, a, b), (omega arith, x, u)), omega arith)

-- twice the bytes unread, and one more: a type's atom is read where the type is
module _ (s : List ℕ) (short : length s ≤ text_limit) where
  mutual
    unfolding read_type

    pub type_read : (n : ℕ) (c : Cursor) → c.at ≤ length s → 2 * length s + 2 ≤ n + 2 * c.at → Reads s c.at (ReadType s) (read_type n s c)
    type_read zero c l b = absurd (omega arith)
    type_read (suc n) c l b =
        type_reads s short c (λ d. read_type n s d) (λ d h. type_read n d h.1 (omega arith)) (λ d. read_atom n s d) (atom_read n c l (omega arith))

    atom_read : (n : ℕ) (c : Cursor) → c.at ≤ length s → 2 * length s + 1 ≤ n + 2 * c.at → Reads s c.at (ReadType s) (read_atom n s c)
    atom_read zero c l b = absurd (omega arith)
    atom_read (suc n) c l b =
        atom_reads s short c (λ d. read_type n s d) (λ d h. type_read n d h.1 (omega arith)) (λ d. read_alternatives n s 0 d)
        (λ d h. alternatives_read n 0 d h.1 (omega arith)) (type_head (kind_at s c.at))

    alternatives_read : (n k : ℕ) (c : Cursor) → c.at ≤ length s → 2 * length s + 1 ≤ n + 2 * c.at → Reads s c.at (ReadLabels s) (read_alternatives n s k c)
    alternatives_read zero k c l b = absurd (omega arith)
    alternatives_read (suc n) k c l b =
        alternatives_reads s short c (λ d. read_type n s d) (λ d h. type_read n d h.1 (omega arith)) (λ d. read_alternatives n s (k + 1) d)
        (λ d h. alternatives_read n (k + 1) d h.1 (omega arith)) k
