-- Each offset of a script that is read is the start of a token of its text, and so is that of a refusal by 3 to 5; that of 2 is the limit.
use Prim.Native.Nat.{ℕ, zero, suc, ◌+◌, ◌≤◌, ◌<◌}
use Rattle.std.proofs.Common.{arith, subst, inl, inr, eqb-true, leb-true, leb-false}
use Rattle.std.specs.Prelude.{◌≡◌, refl, ◌⊎◌, List, Bool, true, false, cond, ◌||◌, length, leb, eqb}
use Rattle.std.proofs.lemmas.Bool.{false≢true}
use Rattle.notation.specs.Limits.{text_limit, type_limit, process_limit, exec_limit}
use Rattle.notation.specs.Token.{kind_at, token_at, k_type, k_proc, k_exec, k_send, k_recv, k_fwd, k_call, k_cancel, k_raise, k_try, k_catch, k_name, k_label, k_round_open, k_round_close, k_square_open, k_square_close, k_brace_open, k_brace_close, k_colon, k_comma, k_semicolon, k_equals, k_from, k_then, k_bar, k_one, k_star, k_at, k_plus, k_with, k_lolli, k_fault}
use Rattle.notation.specs.Tree.{Located, Ty, tensor, par, lolli, plus, with, Alternatives, Proc, empty, Branches, Entry, Declaration}
use Rattle.notation.specs.Reader.{Result, got, refused, name_in}
use Rattle.notation.specs.Types.{type_head, is_infix, infix_of, type_by, round_by, choice_by, atom_by, alternatives_by, read_type, read_atom, read_alternatives}
use Rattle.notation.specs.Processes.{term_head, payload, bracketed_by, read_names, name_list, send_by, recv_by, process_by, rest_by, branches_by, read_process, read_rest, read_branches}
use Rattle.notation.specs.Scripts.{read_entries, entry_list, declaration_head, Count, keyword, type_declaration, proc_declaration, exec_declaration, script_by, read_script, start, fuel, read_text}
use Rattle.notation.specs.declared.reading.Cursor.{Cursor}
use Rattle.notation.specs.declared.token.TypeHead.{TypeHead}
use Rattle.notation.specs.declared.token.TypeHead.TheVariants as types
use Rattle.notation.specs.declared.token.TermHead.{TermHead}
use Rattle.notation.specs.declared.token.TermHead.TheVariants as terms
use Rattle.notation.specs.declared.token.Payload.{Payload}
use Rattle.notation.specs.declared.token.Payload.TheVariants as payloads
use Rattle.notation.specs.declared.token.DeclarationHead.{DeclarationHead}
use Rattle.notation.specs.declared.token.DeclarationHead.TheVariants as heads
use Rattle.notation.proofs.Tokens.{cond_both}
use Rattle.theory_refusals.specs.Offsets.{TypeOffset, AlternativesOffset, ProcessOffset, BranchesOffset, EntriesOffset, DeclarationOffset, OffsetOf}
use Rattle.theory_refusals.specs.Starts.{ReadFrom, first, StartsToken, Token, Keeps, Reading, keeps_got, keeps_spent, keeps_token, keeps_part, keeps_lastly, keeps_choose, token_here, keeps_misfit, expect_token, limit_token, opening_token, type_token, process_token, label_token, unit_token}

either : {A B C : Type 0} → (A → C) → (B → C) → A ⊎ B → C
either f g (inl a) = f a
either f g (inr b) = g b

infix_kind_lem : (k : ℕ) → is_infix k ≡ true → k < k_fault
unfolding is_infix
infix_kind_lem k = go (eqb k k_star) (eqb k k_at) (eqb k k_lolli) (eqb-true k k_star) (eqb-true k k_at) (eqb-true k k_lolli)
  where
    go : (a b c : Bool) → (a ≡ true → k ≡ k_star) → (b ≡ true → k ≡ k_at) → (c ≡ true → k ≡ k_lolli) → (a || b || c) ≡ true → k < k_fault
    go true b c f g h e = omega (arith, f refl)
    go false true c f g h e = omega (arith, g refl)
    go false false true f g h e = omega (arith, h refl)
    go false false false f g h e = absurd (false≢true e)

module _ (s : List ℕ) where
  at_start : {j : ℕ} → StartsToken s j → (i : ℕ) → j ≡ i → StartsToken s i
  at_start h i e = subst (StartsToken s) e h

  -- each offset of the tree is the start of a token
  abbrev TypeStarts : Ty Located → Type 0
  TypeStarts A = (i : ℕ) → TypeOffset i A → StartsToken s i

  abbrev LabelsStart : Alternatives Located → Type 0
  LabelsStart r = (i : ℕ) → AlternativesOffset i r → StartsToken s i

  abbrev ProcessStarts : Proc → Type 0
  ProcessStarts P = (i : ℕ) → ProcessOffset i P → StartsToken s i

  abbrev BranchesStart : Branches → Type 0
  BranchesStart B = (i : ℕ) → BranchesOffset i B → StartsToken s i

  abbrev EntriesStart : List Entry → Type 0
  EntriesStart l = (i : ℕ) → EntriesOffset i l → StartsToken s i

  abbrev DeclarationStarts : Declaration → Type 0
  DeclarationStarts a = (i : ℕ) → DeclarationOffset i a → StartsToken s i

  abbrev ScriptStarts : List Declaration → Type 0
  ScriptStarts ds = (i : ℕ) → OffsetOf i ds → StartsToken s i

  -- ── types
  infix_keeps : (k : ℕ) (A B : Ty Located) → TypeStarts A → TypeStarts B → TypeStarts (infix_of k A B)
  unfolding infix_of TypeOffset
  infix_keeps k A B a b =
      cond_both TypeStarts (eqb k k_star) (tensor A B) (cond (eqb k k_at) (par A B) (lolli A B)) (λ _ i. either (a i) (b i))
      (λ _. cond_both TypeStarts (eqb k k_at) (par A B) (lolli A B) (λ _ i. either (a i) (b i)) (λ _ i. either (a i) (b i)))

  module _ (c : Cursor) (h : ReadFrom s c.at) (type : Cursor → Result (Ty Located)) (t : Reading s TypeStarts type) where
    type_keeps : (atom : Cursor → Result (Ty Located)) → Reading s TypeStarts atom → Keeps s TypeStarts (type_by atom type s c)
    unfolding type_by
    type_keeps atom a =
        keeps_part (a c h) λ A d g p.
        keeps_choose (is_infix (kind_at s d.at)) _ _ d
        (λ e. keeps_lastly {Q = TypeStarts} _ (keeps_token (type_token s d g (kind_at s d.at) (infix_kind_lem _ e)) λ _ f _ k. t f k) (λ B q. infix_keeps (kind_at s d.at) A B p q))
        (keeps_got g p)

    round_keeps : Keeps s TypeStarts (round_by type s c)
    round_keeps =
        keeps_token (opening_token s c h k_round_open (omega arith)) λ _ d _ g.
        keeps_part (t d g) λ A e k p.
        keeps_token (expect_token s e k k_round_close (omega arith)) λ _ f _ x. keeps_got x p

    module _ (more : Cursor → Result (Alternatives Located)) (m : Reading s LabelsStart more) where
      choice_keeps : (k : ℕ) → k < k_fault → (choice : Alternatives Located → Ty Located) → ((r : Alternatives Located) → LabelsStart r → TypeStarts (choice r)) → Keeps s TypeStarts (choice_by more s k choice c)
      choice_keeps k l choice q =
          keeps_token (type_token s c h k l) λ _ d _ g.
          keeps_token (opening_token s d g k_brace_open (omega arith)) λ _ e _ x.
          keeps_part (m e x) λ r f y p.
          keeps_token (expect_token s f y k_brace_close (omega arith)) λ _ o _ z. keeps_got z (q r p)

      atom_keeps : (k : TypeHead) → Keeps s TypeStarts (atom_by type more s c k)
      unfolding atom_by TypeOffset
      atom_keeps types.One = keeps_token (type_token s c h k_one (omega arith)) λ _ d _ g. keeps_got g (λ i o. absurd o)
      atom_keeps types.Name = keeps_token (type_token s c h k_name (omega arith)) λ i d b g. keeps_got g (at_start b)
      atom_keeps types.Round = round_keeps
      atom_keeps types.Plus = choice_keeps k_plus (omega arith) plus (λ r p. p)
      atom_keeps types.With = choice_keeps k_with (omega arith) with (λ r p. p)
      atom_keeps types.Other = keeps_misfit s c h

      alternatives_keeps : (n : ℕ) → Keeps s LabelsStart (alternatives_by type more s n c)
      unfolding alternatives_by AlternativesOffset
      alternatives_keeps n =
          keeps_token (label_token s c h n) λ j d b g.
          keeps_token (expect_token s d g k_colon (omega arith)) λ _ e _ x.
          keeps_part (t e x) λ A f y a.
          keeps_lastly {Q = LabelsStart} _
          (keeps_choose (eqb (kind_at s f.at) k_comma) _ _ f (λ _. keeps_token (expect_token s f y k_comma (omega arith)) λ _ o _ z. m o z) (keeps_got y (λ i o. absurd o)))
          (λ r p i. either (at_start b i) (either (a i) (p i)))

  mutual
    unfolding read_type

    type_read : (n : ℕ) → Reading s TypeStarts (read_type n s)
    type_read zero c h = keeps_spent
    type_read (suc n) c h = type_keeps c h (λ d. read_type n s d) (λ d g. type_read n d g) (λ d. read_atom n s d) (λ d g. atom_read n d g)

    atom_read : (n : ℕ) → Reading s TypeStarts (read_atom n s)
    atom_read zero c h = keeps_spent
    atom_read (suc n) c h = atom_keeps c h (λ d. read_type n s d) (λ d g. type_read n d g) (λ d. read_alternatives n s 0 d) (λ d g. alternatives_read n 0 d g) (type_head (kind_at s c.at))

    alternatives_read : (n k : ℕ) → Reading s LabelsStart (read_alternatives n s k)
    alternatives_read zero k c h = keeps_spent
    alternatives_read (suc n) k c h = alternatives_keeps c h (λ d. read_type n s d) (λ d g. type_read n d g) (λ d. read_alternatives n s (k + 1) d) (λ d g. alternatives_read n (k + 1) d g) k

  -- ── the lists of a call, of which no offset is a script's
  abbrev Any : List Located → Type 0
  Any xs = 0 ≤ 0

  names_read : (n close : ℕ) → close < k_fault → Reading s Any (read_names n s close)
  unfolding read_names
  names_read zero close k c h = keeps_spent
  names_read (suc n) close k c h =
      keeps_token (expect_token s c h k_name (omega arith)) λ _ d _ g.
      keeps_choose (eqb (kind_at s d.at) k_comma) _ _ d
      (λ _. keeps_token (expect_token s d g k_comma (omega arith)) λ _ e _ x. keeps_lastly _ (names_read n close k e x) (λ xs q. q))
      (keeps_token (expect_token s d g close k) λ _ e _ x. keeps_got x (omega arith))

  list_read : (n open' close : ℕ) → open' < k_fault → close < k_fault → Reading s Any (name_list n s open' close)
  unfolding name_list
  list_read n open' close j k c h =
      keeps_token (opening_token s c h open' j) λ _ d _ g.
      keeps_part {Q = Any}
      (keeps_choose (eqb (kind_at s d.at) k_name) _ _ d (λ _. names_read n close k d g) (keeps_token (expect_token s d g close k) λ _ e _ x. keeps_got x (omega arith)))
      λ names e x q. keeps_got x q

  -- ── processes
  empty_keeps : (c : Cursor) → ReadFrom s c.at → Keeps s ProcessStarts (got (empty (token_at s c.at).start) c)
  unfolding ProcessOffset
  empty_keeps c h = keeps_got h (at_start (token_here s c h))

  module _ (process : Cursor → Result Proc) (p : Reading s ProcessStarts process) where
    bracketed_keeps : Reading s ProcessStarts (bracketed_by process s)
    unfolding bracketed_by
    bracketed_keeps c h =
        keeps_token (opening_token s c h k_round_open (omega arith)) λ _ d _ g.
        keeps_part (p d g) λ P e x q.
        keeps_token (expect_token s e x k_round_close (omega arith)) λ _ f _ y. keeps_got y q

    rest_keeps : Reading s ProcessStarts (rest_by process s)
    unfolding rest_by
    rest_keeps c h = keeps_choose (eqb (kind_at s c.at) k_semicolon) _ _ c (λ _. keeps_token (expect_token s c h k_semicolon (omega arith)) λ _ d _ g. p d g) (empty_keeps c h)

    branches_keeps : (more : Cursor → Result Branches) → Reading s BranchesStart more → (n : ℕ) → Reading s BranchesStart (branches_by process more s n)
    unfolding branches_by BranchesOffset
    branches_keeps more m n c h =
        keeps_token (label_token s c h n) λ _ d b g.
        keeps_token (expect_token s d g k_then (omega arith)) λ _ e _ x.
        keeps_part (p e x) λ P f y a.
        keeps_lastly {Q = BranchesStart} _
        (keeps_choose (eqb (kind_at s f.at) k_bar) _ _ f (λ _. keeps_token (expect_token s f y k_bar (omega arith)) λ _ o _ z. m o z) (keeps_got y (λ i o. absurd o)))
        (λ B u i. either (at_start b i) (either (a i) (u i)))

    -- what follows a channel, in a term that starts at `at`
    module _ (at : ℕ) (a : StartsToken s at) (n : Located) (d : Cursor) (g : ReadFrom s d.at) where
      recv_keeps : (branches : Cursor → Result Branches) → Reading s BranchesStart branches → (k : Payload) → Keeps s ProcessStarts (recv_by process branches s at n d k)
      unfolding recv_by ProcessOffset
      recv_keeps branches q payloads.Unit =
          keeps_token (unit_token s d g) λ _ e _ x.
          keeps_token (expect_token s e x k_then (omega arith)) λ _ f _ y. keeps_lastly _ (p f y) (λ P u i. either (at_start a i) (u i))
      recv_keeps branches q payloads.Channel =
          keeps_token (expect_token s d g k_name (omega arith)) λ _ e _ x.
          keeps_token (expect_token s e x k_then (omega arith)) λ _ f _ y. keeps_lastly _ (p f y) (λ P u i. either (at_start a i) (u i))
      recv_keeps branches q payloads.Label = keeps_lastly _ (q d g) (λ B u i. either (at_start a i) (u i))
      recv_keeps branches q payloads.Other = keeps_misfit s d g

      send_keeps : (rest : Cursor → Result Proc) → Reading s ProcessStarts rest → (k : Payload) → Keeps s ProcessStarts (send_by rest s at n d k)
      unfolding send_by ProcessOffset
      send_keeps rest r payloads.Unit = keeps_token (unit_token s d g) λ _ e _ x. keeps_lastly _ (r e x) (λ P u i. either (at_start a i) (u i))
      send_keeps rest r payloads.Channel = keeps_token (expect_token s d g k_name (omega arith)) λ _ e _ x. keeps_lastly _ (r e x) (λ P u i. either (at_start a i) (u i))
      send_keeps rest r payloads.Label = keeps_token (expect_token s d g k_label (omega arith)) λ _ e _ x. keeps_lastly _ (r e x) (λ P u i. either (at_start a i) (u i))
      send_keeps rest r payloads.Other = keeps_misfit s d g

    module _ (type : Cursor → Result (Ty Located)) (t : Reading s TypeStarts type) (rest : Cursor → Result Proc) (r : Reading s ProcessStarts rest) (branches : Cursor → Result Branches) (q : Reading s BranchesStart branches) where
      process_keeps : (n : ℕ) (c : Cursor) → ReadFrom s c.at → (k : TermHead) → Keeps s ProcessStarts (process_by type process rest branches n s c k)
      unfolding process_by ProcessOffset
      process_keeps n c h terms.Send =
          keeps_token (process_token s c h k_send (omega arith)) λ at d a g.
          keeps_token (expect_token s d g k_name (omega arith)) λ i e _ x. send_keeps at a (name_in s i) e x rest r (payload (kind_at s e.at))
      process_keeps n c h terms.Recv =
          keeps_token (process_token s c h k_recv (omega arith)) λ at d a g.
          keeps_token (expect_token s d g k_name (omega arith)) λ i e _ x.
          keeps_token (opening_token s e x k_round_open (omega arith)) λ _ f _ y.
          keeps_part (recv_keeps at a (name_in s i) f y branches q (payload (kind_at s f.at))) λ P o z u.
          keeps_token (expect_token s o z k_round_close (omega arith)) λ _ _ _ v. keeps_got v u
      process_keeps n c h terms.Fwd =
          keeps_token (process_token s c h k_fwd (omega arith)) λ at d a g.
          keeps_token (expect_token s d g k_name (omega arith)) λ i e _ x.
          keeps_token (expect_token s e x k_name (omega arith)) λ j f _ y. keeps_got y (at_start a)
      process_keeps n c h terms.Call =
          keeps_token (process_token s c h k_call (omega arith)) λ at d a g.
          keeps_token (expect_token s d g k_name (omega arith)) λ i e b x.
          keeps_part (list_read n k_round_open k_round_close (omega arith) (omega arith) e x) λ xs f y _.
          keeps_part (list_read n k_square_open k_square_close (omega arith) (omega arith) f y) λ ys o z _. keeps_got z (λ i. either (at_start a i) (at_start b i))
      process_keeps n c h terms.Cancel =
          keeps_token (process_token s c h k_cancel (omega arith)) λ at d a g.
          keeps_token (expect_token s d g k_name (omega arith)) λ i e _ x. keeps_lastly _ (r e x) (λ P u i. either (at_start a i) (u i))
      process_keeps n c h terms.Raise = keeps_token (process_token s c h k_raise (omega arith)) λ at d a g. keeps_lastly _ (p d g) (λ P u i. either (at_start a i) (u i))
      process_keeps n c h terms.Try =
          keeps_token (process_token s c h k_try (omega arith)) λ at d a g.
          keeps_part (bracketed_keeps d g) λ P e x u.
          keeps_token (expect_token s e x k_catch (omega arith)) λ _ f _ y.
          keeps_part (bracketed_keeps f y) λ Q o z v. keeps_got z (λ i. either (at_start a i) (either (u i) (v i)))
      process_keeps n c h terms.Spawn =
          keeps_token (process_token s c h k_name (omega arith)) λ j d a g.
          keeps_token (expect_token s d g k_colon (omega arith)) λ _ e _ x.
          keeps_part (t e x) λ A f y u.
          keeps_token (expect_token s f y k_from (omega arith)) λ _ o _ z.
          keeps_part (bracketed_keeps o z) λ P o' z' v. keeps_lastly _ (r o' z') (λ Q w i. either (at_start a i) (either (u i) (either (v i) (w i))))
      process_keeps n c h terms.Empty = empty_keeps c h

  mutual
    unfolding read_process

    process_read : (n : ℕ) → Reading s ProcessStarts (read_process n s)
    process_read zero c h = keeps_spent
    process_read (suc n) c h =
        process_keeps (λ d. read_process n s d) (λ d g. process_read n d g) (λ d. read_type n s d) (λ d g. type_read n d g) (λ d. read_rest n s d) (λ d g. rest_read n d g)
        (λ d. read_branches n s 0 d) (λ d g. branches_read n 0 d g) n c h (term_head (kind_at s c.at))

    rest_read : (n : ℕ) → Reading s ProcessStarts (read_rest n s)
    rest_read zero c h = keeps_spent
    rest_read (suc n) c h = rest_keeps (λ d. read_process n s d) (λ d g. process_read n d g) c h

    branches_read : (n k : ℕ) → Reading s BranchesStart (read_branches n s k)
    branches_read zero k c h = keeps_spent
    branches_read (suc n) k c h = branches_keeps (λ d. read_process n s d) (λ d g. process_read n d g) (λ d. read_branches n s (k + 1) d) (λ d g. branches_read n (k + 1) d g) k c h

  -- ── declarations
  entries_read : (n close : ℕ) → close < k_fault → Reading s EntriesStart (read_entries n s close)
  unfolding read_entries EntriesOffset
  entries_read zero close k c h = keeps_spent
  entries_read (suc n) close k c h =
      keeps_token (expect_token s c h k_name (omega arith)) λ _ d a g.
      keeps_token (expect_token s d g k_colon (omega arith)) λ _ e _ x.
      keeps_part (type_read n e x) λ A f y t.
      keeps_choose (eqb (kind_at s f.at) k_comma) _ _ f
      (λ _.
      keeps_token (expect_token s f y k_comma (omega arith)) λ _ o _ z. keeps_lastly _ (entries_read n close k o z) (λ es u i. either (at_start a i) (either (t i) (u i))))
      (keeps_token (expect_token s f y close k) λ _ o _ z. keeps_got z (λ i. either (at_start a i) (either (t i) (λ o. absurd o))))

  signature_read : (n open' close : ℕ) → open' < k_fault → close < k_fault → Reading s EntriesStart (entry_list n s open' close)
  unfolding entry_list EntriesOffset
  signature_read n open' close j k c h =
      keeps_token (opening_token s c h open' j) λ _ d _ g.
      keeps_part {Q = EntriesStart}
      (keeps_choose (eqb (kind_at s d.at) k_name) _ _ d (λ _. entries_read n close k d g) (keeps_token (expect_token s d g close k) λ _ e _ x. keeps_got x (λ i o. absurd o)))
      λ es e x q. keeps_got x q

  module _ (n before : ℕ) (c : Cursor) (h : ReadFrom s c.at) where
    keyword_token : (k limit : ℕ) → k < k_fault → Token s (keyword s k before limit c)
    keyword_token k limit l = limit_token s c h k l _ _ (λ _. refl)

    type_declared : Keeps s DeclarationStarts (type_declaration n s before c)
    unfolding type_declaration DeclarationOffset
    type_declared =
        keeps_token (keyword_token k_type type_limit (omega arith)) λ _ d _ g.
        keeps_token (expect_token s d g k_name (omega arith)) λ _ e a x.
        keeps_token (expect_token s e x k_equals (omega arith)) λ _ f _ y. keeps_lastly _ (type_read n f y) (λ A t i. either (at_start a i) (t i))

    proc_declared : Keeps s DeclarationStarts (proc_declaration n s before c)
    unfolding proc_declaration DeclarationOffset
    proc_declared =
        keeps_token (keyword_token k_proc process_limit (omega arith)) λ _ d _ g.
        keeps_token (expect_token s d g k_name (omega arith)) λ _ e a x.
        keeps_part (signature_read n k_round_open k_round_close (omega arith) (omega arith) e x) λ xs f y t.
        keeps_part (signature_read n k_square_open k_square_close (omega arith) (omega arith) f y) λ ys o z u.
        keeps_token (expect_token s o z k_equals (omega arith)) λ _ p _ v. keeps_lastly _ (process_read n p v) (λ P w i. either (at_start a i) (either (t i) (either (u i) (w i))))

    exec_declared : Keeps s DeclarationStarts (exec_declaration s before c)
    unfolding exec_declaration DeclarationOffset
    exec_declared =
        keeps_token (keyword_token k_exec exec_limit (omega arith)) λ _ d _ g.
        keeps_token (expect_token s d g k_name (omega arith)) λ _ e a x. keeps_got x (at_start a)

  script_keeps : (script : Count → Cursor → Result (List Declaration)) → ((k : Count) → Reading s ScriptStarts (script k))
      → (n : ℕ) (k : Count) (c : Cursor) → ReadFrom s c.at → (head : DeclarationHead) → Keeps s ScriptStarts (script_by script n s k c head)
  unfolding script_by OffsetOf
  script_keeps script q n k c h heads.TypeWord = keeps_part (type_declared n k.types c h) λ a d g t. keeps_lastly _ (q _ d g) (λ r u i. either (t i) (u i))
  script_keeps script q n k c h heads.ProcWord = keeps_part (proc_declared n k.processes c h) λ a d g t. keeps_lastly _ (q _ d g) (λ r u i. either (t i) (u i))
  script_keeps script q n k c h heads.ExecWord = keeps_part (exec_declared n k.execs c h) λ a d g t. keeps_lastly _ (q _ d g) (λ r u i. either (t i) (u i))
  script_keeps script q n k c h heads.End = keeps_got h (λ i o. absurd o)
  script_keeps script q n k c h heads.Other = keeps_misfit s c h

  script_read : (n : ℕ) (k : Count) → Reading s ScriptStarts (read_script n s k)
  unfolding read_script
  script_read zero k c h = keeps_spent
  script_read (suc n) k c h = script_keeps (λ j d. read_script n s j d) (λ j d g. script_read n j d g) n k c h (declaration_head (kind_at s c.at))

-- ── a text: within its limit, or over it
abbrev TextCases : List ℕ → Result (List Declaration) → Type 0
TextCases s r = ((length s ≤ text_limit) × Keeps s (ScriptStarts s) r) ⊎ ((text_limit < length s) × (r ≡ refused 2 text_limit))

text_cases : (s : List ℕ) → TextCases s (read_text s)
unfolding read_text
text_cases s = go (leb (length s) text_limit) refl
  where
    go : (b : Bool) → leb (length s) text_limit ≡ b → TextCases s (cond b (read_script (fuel s) s (record { types = 0; processes = 0; execs = 0 }) start) (refused 2 text_limit))
    go true e = inl (leb-true (length s) text_limit e, script_read s (fuel s) _ start first)
    go false e = inr (leb-false (length s) text_limit e, refl)

-- what is read is within the limit, and its offsets are starts of tokens
pub script_starts : (s : List ℕ) (ds : List Declaration) (d : Cursor) → read_text s ≡ got ds d → (length s ≤ text_limit) × ((i : ℕ) → OffsetOf i ds → StartsToken s i)
script_starts s ds d e = go (subst (TextCases s) e (text_cases s))
  where
    go : TextCases s (got ds d) → (length s ≤ text_limit) × ScriptStarts s ds
    go (inl (l, k)) = (l, k.holds.1)
    go (inr (l, z)) = absurd (let o : ◌≡◌ {A = ℕ} 0 1 = cc in omega (arith, o))

-- a refusal by 2 is at the limit, one by 3 or more at the start of a token
pub refusal_starts : (s : List ℕ) (n i : ℕ) → read_text s ≡ refused n i → (n ≡ 2 → (text_limit < length s) × (i ≡ text_limit)) × (3 ≤ n → StartsToken s i)
refusal_starts s n i e = go (subst (TextCases s) e (text_cases s))
  where
    go : TextCases s (refused n i) → (n ≡ 2 → (text_limit < length s) × (i ≡ text_limit)) × (3 ≤ n → StartsToken s i)
    go (inl (l, k)) = (λ z. absurd (k.holds.0 z), k.holds.1)
    go (inr (l, z)) = let m : n ≡ 2 = cc in let o : i ≡ text_limit = cc in (λ _. (l, o), λ h. absurd (omega (arith, h, m)))
