-- A process that is read has its names and labels from the text, and its offsets fit their words; else it is refused by 3 to 5.
-- The fuel is never spent, since each call has read a token.
use Prim.Native.Nat.{ℕ, zero, suc, ◌+◌, ◌*◌, ◌≤◌, ◌<◌}
use native.Mathlib.Omega.{arith}
use mathlib.Core.Path.{refl}
use mathlib.Core.List.{List, []}
use lib.ListN.{length}
use lib.Dec.{eqb}
use Rattle.notation.specs.Fine.{FineBranches, FineProcess, SomeBranch}
use Rattle.notation.specs.From.{ProcessFrom, BranchesFrom}
use Rattle.notation.specs.Limits.{text_limit}
use Rattle.notation.specs.Token.{kind_at, token_at, k_send, k_recv, k_fwd, k_call, k_cancel, k_raise, k_try, k_catch, k_name, k_label, k_round_open, k_round_close, k_square_open, k_square_close, k_colon, k_comma, k_semicolon, k_from, k_then, k_bar, k_fault}
use Rattle.notation.specs.Tree.{Located, Ty, Proc, empty, Branches}
use Rattle.notation.specs.Reader.{Result, got, name_in}
use Rattle.notation.specs.Types.{read_type}
use Rattle.notation.specs.Processes.{term_head, payload, bracketed_by, read_names, name_list, send_by, recv_by, process_by, rest_by, branches_by, read_process, read_rest, read_branches}
use Rattle.notation.specs.Scripts.{fuel}
use Rattle.notation.specs.declared.reading.Cursor.{Cursor}
use Rattle.notation.specs.declared.token.TermHead.{TermHead}
use Rattle.notation.specs.declared.token.TermHead.TheVariants.{Send, Recv, Fwd, Call, Cancel, Raise, Try, Spawn, Empty}
use Rattle.notation.specs.declared.token.Payload.{Payload}
use Rattle.notation.specs.declared.token.Payload.TheVariants.{Unit as UnitPayload, Channel, Label, Other}
use Rattle.notation.proofs.Tokens.{token_onward}
use Rattle.notation.proofs.Readings.{Ahead, Reads, Beyond, reads_got, reads_take, reads_part_is, reads_part, reads_lastly, reads_later, reads_choose, reads_misfit, takes_expect, takes_opening, takes_process, takes_label_lem, takes_unit}
use Rattle.notation.proofs.TypeReadings.{ReadType, type_read}

abbrev pub ReadProcess : List ℕ → Proc → Type 0
ReadProcess s P = ProcessFrom s P × FineProcess P

-- a list, and one that has branches
abbrev ReadSome : List ℕ → Branches → Type 0
ReadSome s B = BranchesFrom s B × FineBranches B

abbrev ReadBranches : List ℕ → Branches → Type 0
ReadBranches s B = ReadSome s B × SomeBranch B

-- ── the lists of a call, of which it is known where the bracket stands
abbrev Any : List Located → Type 0
Any xs = 0 ≤ 0

names_read : (s : List ℕ) (n close : ℕ) → close < k_fault → (c : Cursor) → c.at ≤ length s → 2 * length s + 1 ≤ n + 2 * c.at → Reads s c.at Any (read_names n s close c)
unfolding read_names
names_read s zero close k c l b = absurd (omega arith)
names_read s (suc n) close k c l b =
    reads_take _ (takes_expect s k_name c (omega arith)) λ i d h.
    reads_choose (eqb (kind_at s d.at) k_comma) _ _ d
    (λ _. reads_take _ (takes_expect s k_comma d (omega arith)) λ _ e g. reads_lastly _ (names_read s n close k e g.1 (omega arith)) (omega arith) λ xs q. q)
    (λ _. reads_take _ (takes_expect s close d k) λ _ e g. reads_got _ e (omega arith) (omega arith))

abbrev Opened : List ℕ → Cursor → List Located → Type 0
Opened s c xs = (token_at s c.at).start < length s

list_read : (s : List ℕ) (n open' close : ℕ) → open' < k_fault → close < k_fault → (c : Cursor) → 2 * length s + 1 ≤ n + 2 * (c.at + 1) → Reads s c.at (Opened s c) (name_list n s open' close c)
unfolding name_list
list_read s n open' close j k c b =
    reads_take _ (takes_opening s open' c j) λ _ d h.
    reads_part {from = d.at} {Q = Any} _
    (reads_choose (eqb (kind_at s d.at) k_name) _ _ d
    (λ _. names_read s n close k d h.1 (omega arith))
    (λ _. reads_take _ (takes_expect s close d k) λ _ e g. reads_got [] e (omega arith) (omega arith)))
    λ names e g _. reads_got names _ (omega arith) (omega arith)

module _ (s : List ℕ) (short : length s ≤ text_limit) where
  empty_reads : (c : Cursor) → c.at ≤ length s → Reads s c.at (ReadProcess s) (got (empty (token_at s c.at).start) c)
  unfolding ProcessFrom FineProcess
  empty_reads c l = let b : (token_at s c.at).start ≤ text_limit = omega (arith, (token_onward s c.at).starts) in reads_got _ c (omega arith) (b, b)

  -- ── the parts of a process at c, with readings that may begin beyond it
  module _ (c : Cursor) (process : Cursor → Result Proc) (p : Beyond s c (ReadProcess s) process) where
    bracketed_reads : (d : Cursor) → c.at ≤ d.at → Reads s d.at (ReadProcess s) (bracketed_by process s d)
    unfolding bracketed_by
    bracketed_reads d l =
        reads_take _ (takes_opening s k_round_open d (omega arith)) λ _ e h.
        reads_part _ (p e (omega arith)) λ P f g q.
        reads_take _ (takes_expect s k_round_close f (omega arith)) λ _ x k. reads_got P _ (omega arith) q

    rest_reads : c.at ≤ length s → Reads s c.at (ReadProcess s) (rest_by process s c)
    unfolding rest_by
    rest_reads l =
        reads_choose (eqb (kind_at s c.at) k_semicolon) _ _ c
        (λ _. reads_take _ (takes_expect s k_semicolon c (omega arith)) λ _ d h. reads_later (p d (omega arith)) (omega arith) λ P q. q)
        (λ _. empty_reads c l)

    branches_reads : (more : Cursor → Result Branches) → Beyond s c (ReadBranches s) more → (n : ℕ) → Reads s c.at (ReadBranches s) (branches_by process more s n c)
    unfolding branches_by ProcessFrom FineProcess
    branches_reads more m n =
        reads_take _ (takes_label_lem s n c) λ i d h.
        reads_take _ (takes_expect s k_then d (omega arith)) λ _ e g.
        reads_part _ (p e (omega arith)) λ P f k (a, b).
        reads_lastly {from = c.at} {Q = ReadSome s} _
        (reads_choose (eqb (kind_at s f.at) k_bar) _ _ f
        (λ _. reads_take _ (takes_expect s k_bar f (omega arith)) λ _ o x. reads_later (m o (omega arith)) (omega arith) λ B u. u.0)
        (λ _. reads_got Branches.none f (omega arith) (omega arith)))
        (omega arith) λ B (u, v). (((refl, a, u), (omega arith, b, v)), omega arith)

    -- what follows a channel at i, in a term at `at`
    module _ (at i : ℕ) (a : at < length s) (b : i < length s) (d : Cursor) (l : Ahead s (c.at + 1) d) where
      recv_reads : (branches : Cursor → Result Branches) → Beyond s c (ReadBranches s) branches → (h : Payload) → Reads s d.at (ReadProcess s) (recv_by process branches s at (name_in s i) d h)
      unfolding recv_by ProcessFrom FineProcess
      recv_reads branches q UnitPayload =
          reads_take _ (takes_unit s d) λ _ e h.
          reads_take _ (takes_expect s k_then e (omega arith)) λ _ f g.
          reads_lastly _ (p f (omega arith)) (omega arith) λ P (u, v). ((refl, u), (omega arith, omega arith, v))
      recv_reads branches q Channel =
          reads_take _ (takes_expect s k_name d (omega arith)) λ j e h.
          reads_take _ (takes_expect s k_then e (omega arith)) λ _ f g.
          reads_lastly _ (p f (omega arith)) (omega arith) λ P (u, v). ((refl, refl, omega arith, u), (omega arith, omega arith, omega arith, v))
      recv_reads branches q Label = reads_lastly _ (q d l) (omega arith) λ B ((u, v), o). ((refl, u), (omega arith, omega arith, v, o))
      recv_reads branches q Other = reads_misfit s d.at d

      send_reads : (rest : Cursor → Result Proc) → Beyond s c (ReadProcess s) rest → (h : Payload) → Reads s d.at (ReadProcess s) (send_by rest s at (name_in s i) d h)
      unfolding send_by ProcessFrom FineProcess
      send_reads rest r UnitPayload =
          reads_take _ (takes_unit s d) λ _ e h. reads_lastly _ (r e (omega arith)) (omega arith) λ P (u, v). ((refl, u), (omega arith, omega arith, v))
      send_reads rest r Channel =
          reads_take _ (takes_expect s k_name d (omega arith)) λ j e h.
          reads_lastly _ (r e (omega arith)) (omega arith) λ P (u, v). ((refl, refl, u), (omega arith, omega arith, omega arith, v))
      send_reads rest r Label =
          reads_take _ (takes_expect s k_label d (omega arith)) λ j e h.
          reads_lastly _ (r e (omega arith)) (omega arith) λ P (u, v). ((refl, refl, u), (omega arith, omega arith, omega arith, v))
      send_reads rest r Other = reads_misfit s d.at d

    module _ (type : Cursor → Result (Ty Located)) (t : Beyond s c (ReadType s) type) (rest : Cursor → Result Proc) (r : Beyond s c (ReadProcess s) rest)
        (branches : Cursor → Result Branches) (q : Beyond s c (ReadBranches s) branches) where
      process_reads : (n : ℕ) → c.at ≤ length s → 2 * length s + 1 ≤ n + 2 * (c.at + 1) → n ≤ fuel s → (h : TermHead) → Reads s c.at (ReadProcess s) (process_by type process rest branches n s c h)
      unfolding process_by ProcessFrom FineProcess
      process_reads n l b m Send =
          reads_take _ (takes_process s k_send c (omega arith)) λ at d h.
          reads_take _ (takes_expect s k_name d (omega arith)) λ i e g.
          reads_later (send_reads at i h.2 g.2 e (omega arith) rest r (payload (kind_at s e.at))) (omega arith) λ P u. u
      process_reads n l b m Recv =
          reads_take _ (takes_process s k_recv c (omega arith)) λ at d h.
          reads_take _ (takes_expect s k_name d (omega arith)) λ i e g.
          reads_take _ (takes_opening s k_round_open e (omega arith)) λ _ f k.
          reads_part _ (recv_reads at i h.2 g.2 f (omega arith) branches q (payload (kind_at s f.at))) λ P x y u.
          reads_take _ (takes_expect s k_round_close x (omega arith)) λ _ o z. reads_got P _ (omega arith) u
      process_reads n l b m Fwd =
          reads_take _ (takes_process s k_fwd c (omega arith)) λ at d h.
          reads_take _ (takes_expect s k_name d (omega arith)) λ i e g.
          reads_take _ (takes_expect s k_name e (omega arith)) λ j f k. reads_got _ f (omega arith) ((refl, refl), (omega arith, omega arith, omega arith))
      process_reads n l b m Call =
          reads_take _ (takes_process s k_call c (omega arith)) λ at d h.
          reads_take _ (takes_expect s k_name d (omega arith)) λ i e g.
          reads_part_is _ _ (list_read s n k_round_open k_round_close (omega arith) (omega arith) e (omega arith)) λ xs f o k u.
          reads_part_is _ _ (list_read s n k_square_open k_square_close (omega arith) (omega arith) f (omega arith)) λ ys x o' y _.
          reads_got _ x (omega arith) (
            (refl, record { left = n; enough = m; before = e; middle = f; after = x; starts = refl; provided = o; used = o' }),
            (omega arith, omega arith, omega arith),
          )
      process_reads n l b m Cancel =
          reads_take _ (takes_process s k_cancel c (omega arith)) λ at d h.
          reads_take _ (takes_expect s k_name d (omega arith)) λ i e g.
          reads_lastly _ (r e (omega arith)) (omega arith) λ P (u, v). ((refl, u), (omega arith, omega arith, v))
      process_reads n l b m Raise =
          reads_take _ (takes_process s k_raise c (omega arith)) λ at d h. reads_lastly _ (p d (omega arith)) (omega arith) λ P (u, v). (u, (omega arith, v))
      process_reads n l b m Try =
          reads_take _ (takes_process s k_try c (omega arith)) λ at d h.
          reads_part _ (bracketed_reads d (omega arith)) λ P e g (u, v).
          reads_take _ (takes_expect s k_catch e (omega arith)) λ _ f k.
          reads_part _ (bracketed_reads f (omega arith)) λ Q x y (u', v'). reads_got _ x (omega arith) ((u, u'), (omega arith, v, v'))
      process_reads n l b m Spawn =
          reads_take _ (takes_process s k_name c (omega arith)) λ i d h.
          reads_take _ (takes_expect s k_colon d (omega arith)) λ _ e g.
          reads_part _ (t e (omega arith)) λ A f k (u, v).
          reads_take _ (takes_expect s k_from f (omega arith)) λ _ x y.
          reads_part _ (bracketed_reads x (omega arith)) λ P o z (u', v').
          reads_lastly _ (r o (omega arith)) (omega arith) λ Q (u'', v''). ((refl, u, u', u''), (omega arith, v, v', v''))
      process_reads n l b m Empty = empty_reads c l

  -- twice the bytes unread are enough for what is read there
  abbrev Enough : ℕ → Cursor → Type 0
  Enough n c = (c.at ≤ length s) × (2 * length s + 1 ≤ n + 2 * c.at) × (n ≤ fuel s)

  mutual
    unfolding read_process

    pub process_read : (n : ℕ) (c : Cursor) → Enough n c → Reads s c.at (ReadProcess s) (read_process n s c)
    process_read zero c b = absurd (omega arith)
    process_read (suc n) c b =
        process_reads c (λ d. read_process n s d) (λ d h. process_read n d (omega arith))
        (λ d. read_type n s d) (λ d h. type_read s short n d h.1 (omega arith))
        (λ d. read_rest n s d) (λ d h. rest_read n d (omega arith))
        (λ d. read_branches n s 0 d) (λ d h. branches_read n 0 d (omega arith))
        n b.0 (omega arith) (omega arith) (term_head (kind_at s c.at))

    rest_read : (n : ℕ) (c : Cursor) → Enough n c → Reads s c.at (ReadProcess s) (read_rest n s c)
    rest_read zero c b = absurd (omega arith)
    rest_read (suc n) c b = rest_reads c (λ d. read_process n s d) (λ d h. process_read n d (omega arith)) b.0

    branches_read : (n k : ℕ) (c : Cursor) → Enough n c → Reads s c.at (ReadBranches s) (read_branches n s k c)
    branches_read zero k c b = absurd (omega arith)
    branches_read (suc n) k c b =
        branches_reads c (λ d. read_process n s d) (λ d h. process_read n d (omega arith)) (λ d. read_branches n s (k + 1) d) (λ d h. branches_read n (k + 1) d (omega arith)) k
