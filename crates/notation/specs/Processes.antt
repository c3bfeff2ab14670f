-- The reading of processes: "A process holds branches and a branch holds a process".
use Rattle.std.specs.Prelude.{ℕ, zero, suc, ◌+◌, List, [], ◌∷◌, cond, eqb}
use Rattle.notation.specs.Token.{token_at, kind_at, k_send, k_recv, k_fwd, k_call, k_cancel, k_raise, k_try, k_catch, k_name, k_label, k_round_open, k_round_close, k_square_open, k_square_close, k_colon, k_comma, k_semicolon, k_from, k_then, k_bar}
use Rattle.notation.specs.Tree.{Located, Ty, Proc, empty, send_unit, send_channel, send_label, cancel, spawn, recv_unit, recv_channel, recv_label, fwd, call, raise, try, Branches, branch}
use Rattle.notation.specs.Reader.{Result, Taken, got, refused, on_token, part, lastly, choose, expect, misfit, opening, process_term, closed, then_token, closed_taken, name_in, label_in}
use Rattle.notation.specs.Types.{read_type, label_term}
use Rattle.notation.specs.declared.reading.Cursor.{Cursor}
use Rattle.notation.specs.declared.token.TermHead.{TermHead}
use Rattle.notation.specs.declared.token.TermHead.TheVariants.{Send, Recv, Fwd, Call, Cancel, Raise, Try, Spawn, Empty}
use Rattle.notation.specs.declared.token.Payload.{Payload}
use Rattle.notation.specs.declared.token.Payload.TheVariants.{Unit as UnitPayload, Channel, Label, Other}

-- what a token of this kind begins
unfoldable pub term_head : ℕ → TermHead
term_head k =
    cond (eqb k k_send) Send
    (cond (eqb k k_recv) Recv
    (cond (eqb k k_fwd) Fwd
    (cond (eqb k k_call) Call
    (cond (eqb k k_cancel) Cancel
    (cond (eqb k k_raise) Raise
    (cond (eqb k k_try) Try
    (cond (eqb k k_name) Spawn Empty)))))))

unfoldable pub payload : ℕ → Payload
payload k =
    cond (eqb k k_round_open) UnitPayload
    (cond (eqb k k_name) Channel
    (cond (eqb k k_label) Label Other))

-- ()
unfoldable pub unit_taken : List ℕ → Cursor → Taken
unit_taken s c = closed_taken c (then_token (opening s k_round_open c) (expect s k_round_close))

-- (P)
unfoldable pub bracketed_by : (Cursor → Result Proc) → List ℕ → Cursor → Result Proc
bracketed_by process s c =
    on_token (opening s k_round_open c) λ _ d.
    part (process d) λ P e.
    on_token (expect s k_round_close e) λ _ f. got P (closed c f)

-- one name or more, with commas between them, up to the bracket that closes
unfoldable pub read_names : ℕ → List ℕ → ℕ → Cursor → Result (List Located)
read_names zero s close c = refused 0 0
read_names (suc n) s close c =
    on_token (expect s k_name c) λ i d.
    choose (eqb (kind_at s d.at) k_comma)
    (λ d. on_token (expect s k_comma d) λ _ e. lastly (◌∷◌ (name_in s i)) (read_names n s close e))
    (λ d. on_token (expect s close d) λ _ e. got (name_in s i ∷ []) e)
    d

-- none or more, in their brackets
unfoldable pub name_list : ℕ → List ℕ → ℕ → ℕ → Cursor → Result (List Located)
name_list n s open' close c =
    on_token (opening s open' c) λ _ d.
    part (choose (eqb (kind_at s d.at) k_name) (read_names n s close) (λ d. on_token (expect s close d) λ _ e. got [] e) d) λ names e.
    got names (closed c e)

-- send c (), send c a, send c 'l: what follows the channel c, whose name is read, in a term from `at` on
unfoldable pub send_by : (Cursor → Result Proc) → List ℕ → ℕ → Located → Cursor → Payload → Result Proc
send_by rest s at c d UnitPayload = on_token (unit_taken s d) λ _ e. lastly (send_unit at c) (rest e)
send_by rest s at c d Channel = on_token (expect s k_name d) λ i e. lastly (send_channel at c (name_in s i)) (rest e)
send_by rest s at c d Label = on_token (expect s k_label d) λ i e. lastly (send_label at c (label_in s i)) (rest e)
send_by rest s at c d Other = misfit s d

-- recv c (() => P), recv c (x => P), recv c ('l => P | ..): what follows the bracket, which the caller closes
unfoldable pub recv_by : (Cursor → Result Proc) → (Cursor → Result Branches) → List ℕ → ℕ → Located → Cursor → Payload → Result Proc
recv_by process branches s at c d UnitPayload =
    on_token (unit_taken s d) λ _ e.
    on_token (expect s k_then e) λ _ f. lastly (recv_unit at c) (process f)
recv_by process branches s at c d Channel =
    on_token (expect s k_name d) λ i e.
    on_token (expect s k_then e) λ _ f. lastly (recv_channel at c (name_in s i)) (process f)
recv_by process branches s at c d Label = lastly (recv_label at c) (branches d)
recv_by process branches s at c d Other = misfit s d

-- a process, by what begins it
unfoldable pub process_by : (Cursor → Result (Ty Located)) → (Cursor → Result Proc) → (Cursor → Result Proc) → (Cursor → Result Branches) → ℕ → List ℕ → Cursor → TermHead → Result Proc
process_by type process rest branches n s c Send =
    on_token (process_term s k_send c) λ at d.
    on_token (expect s k_name d) λ i e.
    send_by rest s at (name_in s i) e (payload (kind_at s e.at))
process_by type process rest branches n s c Recv =
    on_token (process_term s k_recv c) λ at d.
    on_token (expect s k_name d) λ i e.
    on_token (opening s k_round_open e) λ _ f.
    part (recv_by process branches s at (name_in s i) f (payload (kind_at s f.at))) λ P g.
    on_token (expect s k_round_close g) λ _ h. got P (closed e h)
process_by type process rest branches n s c Fwd =
    on_token (process_term s k_fwd c) λ at d.
    on_token (expect s k_name d) λ i e.
    on_token (expect s k_name e) λ j f. got (fwd at (name_in s i) (name_in s j)) f
process_by type process rest branches n s c Call =
    on_token (process_term s k_call c) λ at d.
    on_token (expect s k_name d) λ i e.
    part (name_list n s k_round_open k_round_close e) λ xs f.
    part (name_list n s k_square_open k_square_close f) λ ys g. got (call at (name_in s i) (token_at s e.at).start xs ys) g
process_by type process rest branches n s c Cancel =
    on_token (process_term s k_cancel c) λ at d.
    on_token (expect s k_name d) λ i e. lastly (cancel at (name_in s i)) (rest e)
process_by type process rest branches n s c Raise = on_token (process_term s k_raise c) λ at d. lastly (raise at) (process d)
process_by type process rest branches n s c Try =
    on_token (process_term s k_try c) λ at d.
    part (bracketed_by process s d) λ P e.
    on_token (expect s k_catch e) λ _ f.
    part (bracketed_by process s f) λ Q g. got (try at P Q) g
process_by type process rest branches n s c Spawn =
    on_token (process_term s k_name c) λ i d.
    on_token (expect s k_colon d) λ _ e.
    part (type e) λ A f.
    on_token (expect s k_from f) λ _ g.
    part (bracketed_by process s g) λ P h. lastly (spawn (name_in s i) A P) (rest h)
process_by type process rest branches n s c Empty = got (empty (token_at s c.at).start) c

-- "followed by nothing or by `;` and a process"
unfoldable pub rest_by : (Cursor → Result Proc) → List ℕ → Cursor → Result Proc
rest_by process s c =
    choose (eqb (kind_at s c.at) k_semicolon)
    (λ c. on_token (expect s k_semicolon c) λ _ d. process d)
    (λ c. got (empty (token_at s c.at).start) c)
    c

-- after a branch: a bar and more, or none
abbrev pub more_branches_by : (Cursor → Result Branches) → List ℕ → Cursor → Result Branches
more_branches_by more s c =
    choose (eqb (kind_at s c.at) k_bar)
    (λ c. on_token (expect s k_bar c) λ _ d. more d)
    (λ c. got Branches.none c)
    c

-- 'l => P | .., of which n came before
unfoldable pub branches_by : (Cursor → Result Proc) → (Cursor → Result Branches) → List ℕ → ℕ → Cursor → Result Branches
branches_by process more s n c =
    on_token (label_term s n c) λ i d.
    on_token (expect s k_then d) λ _ e.
    part (process e) λ P f. lastly (branch (label_in s i) P) (more_branches_by more s f)

unfoldable mutual
  pub read_process : ℕ → List ℕ → Cursor → Result Proc
  read_process zero s c = refused 0 0
  read_process (suc n) s c =
      process_by (λ d. read_type n s d) (λ d. read_process n s d) (λ d. read_rest n s d) (λ d. read_branches n s 0 d) n s c (term_head (kind_at s c.at))

  pub read_rest : ℕ → List ℕ → Cursor → Result Proc
  read_rest zero s c = refused 0 0
  read_rest (suc n) s c = rest_by (λ d. read_process n s d) s c

  pub read_branches : ℕ → List ℕ → ℕ → Cursor → Result Branches
  read_branches zero s k c = refused 0 0
  read_branches (suc n) s k c = branches_by (λ d. read_process n s d) (λ d. read_branches n s (k + 1) d) s k c
