-- The pointer to a process is known by its first token.
use mathlib.Core.Path.{◌≡◌, refl, ap, sym, ◌∙◌}
use mathlib.Core.List.{List}
use mathlib.Core.Bool.{Bool, true, false, cond}
use Prim.Native.Nat.{ℕ, zero, suc}
use native.Mathlib.Omega.{arith}
use lib.Dec.{eqb}
use Rattle.std.specs.Prelude.{Ok, Err}
use Rattle.notation.specs.Token.{token_at, kind_at, k_name, k_send, k_recv, k_fwd, k_call, k_cancel, k_raise, k_try, k_catch, k_colon, k_from, k_round_open, k_round_close, k_square_open, k_square_close}
use Rattle.notation.specs.Tree.{Located, Ty, Proc, empty, fwd, call, try, Branches}
use Rattle.notation.specs.Refusals.{refuses}
use Rattle.notation.specs.Reader.{Result, Taken, got, refused, on_token, part, lastly, expect, limited, may_open, deeper, past, fault, opening, process_term, misfit, name_in}
use Rattle.notation.specs.Processes.{term_head, payload, unit_taken, bracketed_by, send_by, recv_by, name_list, process_by, read_process, read_rest, read_branches}
use Rattle.notation.specs.Types.{read_type}
use Rattle.notation.specs.Tables.{pointer_to, empty_pointer}
use Rattle.notation.specs.declared.token.Token.{Token}
use Rattle.notation.specs.declared.reading.Cursor.{Cursor}
use Rattle.notation.specs.declared.token.TermHead.{TermHead}
use Rattle.notation.specs.declared.token.TermHead.TheVariants.{Send, Recv, Fwd, Call, Cancel, Raise, Try, Spawn, Empty}
use Rattle.notation.specs.declared.token.Payload.{Payload}
use Rattle.notation.specs.declared.token.Payload.TheVariants.{Unit as UnitPayload, Channel, Label, Other}
use Rattle.read_types.proofs.Taking.{never}
use Rattle.read_text.specs.Turns.{peek, peek_by}

-- what was read was read step by step
module _ {B : Type 0} {b : B} {d : Cursor} {P : Type 0} where
  pub take_got : (q : Taken) (f : ℕ → Cursor → Result B) → on_token q f ≡ got b d → ((i : ℕ) (c : Cursor) → q ≡ Ok (i, c) → f i c ≡ got b d → P) → P
  take_got (Ok (i, c)) f e go = go i c refl e
  take_got (Err y) f e go = absurd (let z : ◌≡◌ {A = ℕ} 0 1 = cc in omega arith)

  pub part_got : {A : Type 0} (x : Result A) (f : A → Cursor → Result B) → part x f ≡ got b d → ((a : A) (c : Cursor) → x ≡ got a c → f a c ≡ got b d → P) → P
  part_got (got a c) f e go = go a c refl e
  part_got (refused n i) f e go = absurd (let z : ◌≡◌ {A = ℕ} 0 1 = cc in omega arith)

  pub lastly_got : {A : Type 0} (x : Result A) (g : A → B) → lastly g x ≡ got b d → ((a : A) → b ≡ g a → P) → P
  lastly_got (got a c) g e go = go a (let z : b ≡ g a = cc in z)
  lastly_got (refused n i) g e go = absurd (let z : ◌≡◌ {A = ℕ} 0 1 = cc in omega arith)

module _ (n : ℕ) {P : Proc} {d : Cursor} where
  -- a send and a recv have a node
  sent_pointer : (rest : Cursor → Result Proc) (s : List ℕ) (at : ℕ) (x : Located) (c : Cursor) (h : Payload) → send_by rest s at x c h ≡ got P d
      → pointer_to P n ≡ n
  unfolding send_by misfit
  sent_pointer rest s at x c UnitPayload e = take_got (unit_taken s c) _ e λ _ c₁ _ e₁. lastly_got (rest c₁) _ e₁ λ Q q. ap (λ y. pointer_to y n) q
  sent_pointer rest s at x c Channel e = take_got (expect s k_name c) _ e λ _ c₁ _ e₁. lastly_got (rest c₁) _ e₁ λ Q q. ap (λ y. pointer_to y n) q
  sent_pointer rest s at x c Label e = take_got (expect s _ c) _ e λ _ c₁ _ e₁. lastly_got (rest c₁) _ e₁ λ Q q. ap (λ y. pointer_to y n) q
  sent_pointer rest s at x c Other e = absurd (let z : ◌≡◌ {A = ℕ} 0 1 = cc in omega arith)

  recvd_pointer : (process : Cursor → Result Proc) (branches : Cursor → Result Branches) (s : List ℕ) (at : ℕ) (x : Located) (c : Cursor) (h : Payload)
      → recv_by process branches s at x c h ≡ got P d → pointer_to P n ≡ n
  unfolding recv_by misfit
  recvd_pointer process branches s at x c UnitPayload e =
      take_got (unit_taken s c) _ e λ _ c₁ _ e₁. take_got (expect s _ c₁) _ e₁ λ _ c₂ _ e₂. lastly_got (process c₂) _ e₂ λ Q q. ap (λ y. pointer_to y n) q
  recvd_pointer process branches s at x c Channel e =
      take_got (expect s k_name c) _ e λ _ c₁ _ e₁. take_got (expect s _ c₁) _ e₁ λ _ c₂ _ e₂. lastly_got (process c₂) _ e₂ λ Q q. ap (λ y. pointer_to y n) q
  recvd_pointer process branches s at x c Label e = lastly_got (branches c) _ e λ B q. ap (λ y. pointer_to y n) q
  recvd_pointer process branches s at x c Other e = absurd (let z : ◌≡◌ {A = ℕ} 0 1 = cc in omega arith)

pub pointer_by : (type : Cursor → Result (Ty Located)) (process rest : Cursor → Result Proc) (branches : Cursor
    → Result Branches) (m : ℕ) (s : List ℕ) (c d : Cursor) (P : Proc) (n : ℕ) (h : TermHead)
    → process_by type process rest branches m s c h ≡ got P d → pointer_to P n ≡ peek_by h (token_at s c.at).start n
unfolding process_by
pointer_by type process rest branches m s c d P n Send e =
    take_got (process_term s k_send c) _ e λ at c₁ _ e₁. take_got (expect s k_name c₁) _ e₁ λ i c₂ _ e₂. sent_pointer n rest s at (name_in s i) c₂
    (payload (kind_at s c₂.at)) e₂
pointer_by type process rest branches m s c d P n Recv e =
    take_got (process_term s k_recv c) _ e λ at c₁ _ e₁.
    take_got (expect s k_name c₁) _ e₁ λ i c₂ _ e₂.
    take_got (opening s k_round_open c₂) _ e₂ λ _ c₃ _ e₃.
    part_got (recv_by process branches s at (name_in s i) c₃ (payload (kind_at s c₃.at))) _ e₃ λ Q c₄ x e₄.
    take_got (expect s k_round_close c₄) _ e₄ λ _ c₅ _ e₅.
    let q : P ≡ Q = cc in
    ap (λ y. pointer_to y n) q ∙ recvd_pointer n process branches s at (name_in s i) c₃ (payload (kind_at s c₃.at)) x
pointer_by type process rest branches m s c d P n Fwd e =
    take_got (process_term s k_fwd c) _ e λ at c₁ _ e₁.
    take_got (expect s k_name c₁) _ e₁ λ i c₂ _ e₂.
    take_got (expect s k_name c₂) _ e₂ λ j c₃ _ e₃. let q : P ≡ fwd at (name_in s i) (name_in s j) = cc in ap (λ y. pointer_to y n) q
pointer_by type process rest branches m s c d P n Call e =
    take_got (process_term s k_call c) _ e λ at c₁ _ e₁.
    take_got (expect s k_name c₁) _ e₁ λ i c₂ _ e₂.
    part_got (name_list m s k_round_open k_round_close c₂) _ e₂ λ xs c₃ _ e₃.
    part_got (name_list m s k_square_open k_square_close c₃) _ e₃ λ ys c₄ _ e₄.
    let q : P ≡ call at (name_in s i) (token_at s c₂.at).start xs ys = cc in ap (λ y. pointer_to y n) q
pointer_by type process rest branches m s c d P n Cancel e =
    take_got (process_term s k_cancel c) _ e λ at c₁ _ e₁. take_got (expect s k_name c₁) _ e₁ λ i c₂ _ e₂. lastly_got (rest c₂) _ e₂ λ Q q. ap
    (λ y. pointer_to y n) q
pointer_by type process rest branches m s c d P n Raise e = take_got (process_term s k_raise c) _ e λ at c₁ _ e₁. lastly_got (process c₁) _ e₁ λ Q q. ap
    (λ y. pointer_to y n) q
pointer_by type process rest branches m s c d P n Try e =
    take_got (process_term s k_try c) _ e λ at c₁ _ e₁.
    part_got (bracketed_by process s c₁) _ e₁ λ Q c₂ _ e₂.
    take_got (expect s k_catch c₂) _ e₂ λ _ c₃ _ e₃.
    part_got (bracketed_by process s c₃) _ e₃ λ R c₄ _ e₄. let q : P ≡ try at Q R = cc in ap (λ y. pointer_to y n) q
pointer_by type process rest branches m s c d P n Spawn e =
    take_got (process_term s k_name c) _ e λ i c₁ _ e₁.
    take_got (expect s k_colon c₁) _ e₁ λ _ c₂ _ e₂.
    part_got (type c₂) _ e₂ λ A c₃ _ e₃.
    take_got (expect s k_from c₃) _ e₃ λ _ c₄ _ e₄.
    part_got (bracketed_by process s c₄) _ e₄ λ Q c₅ _ e₅. lastly_got (rest c₅) _ e₅ λ R q. ap (λ y. pointer_to y n) q
pointer_by type process rest branches m s c d P n Empty e = let q : P ≡ empty (token_at s c.at).start = cc in ap (λ y. pointer_to y n) q

-- what the code finds by looking at the next token
pub pointer_at : (m : ℕ) (s : List ℕ) (c d : Cursor) (P : Proc) (n : ℕ) → read_process m s c ≡ got P d → pointer_to P n ≡ peek s c.at n
unfolding read_process peek
pointer_at zero s c d P n e = absurd (let z : ◌≡◌ {A = ℕ} 0 1 = cc in omega arith)
pointer_at (suc m) s c d P n e =
    pointer_by (λ x. read_type m s x) (λ x. read_process m s x) (λ x. read_rest m s x) (λ x. read_branches m s 0 x) m s c d P n (term_head (kind_at s c.at)) e

-- past a bracket that opens
opening_end : (s : List ℕ) (k : ℕ) (c : Cursor) {i : ℕ} {d : Cursor} → opening s k c ≡ Ok (i, d) → d.at ≡ (token_at s c.at).end
unfolding opening expect
opening_end s k c {i} {d} = go (eqb (token_at s c.at).kind k) (token_at s c.at)
  where
    deep : (b : Bool) (j : ℕ) (f : Cursor) → cond {A = Taken} b (Ok (j, f)) (refuses 5 j) ≡ Ok (i, d) → d.at ≡ f.at
    deep true j f e = let both : ◌≡◌ {A = ℕ × Cursor} (j, f) (i, d) = cc in sym (ap (λ x. x.1.at) both)
    deep false j f e = never e

    go : (b : Bool) (t : Token) → limited (cond b (Ok (t.start, past c t)) (refuses (fault t) t.start)) may_open deeper ≡ Ok (i, d) → d.at ≡ t.end
    go true t e = deep (may_open (past c t)) t.start (deeper (past c t)) e
    go false t e = never e

-- the pointer to a process in brackets
pub pointer_in : (m : ℕ) (s : List ℕ) (c d : Cursor) (P : Proc) (n : ℕ) → bracketed_by (λ x. read_process m s x) s c ≡ got P d
    → pointer_to P n ≡ peek s (token_at s c.at).end n
unfolding bracketed_by
pointer_in m s c d P n e =
    take_got (opening s k_round_open c) _ e λ i c₁ x e₁.
    part_got (read_process m s c₁) _ e₁ λ Q c₂ y e₂.
    take_got (expect s k_round_close c₂) _ e₂ λ _ c₃ _ e₃.
    let q : P ≡ Q = cc in
    ap (λ z. pointer_to z n) q ∙ pointer_at m s c₁ c₂ Q n y ∙ ap (λ z. peek s z n) (opening_end s k_round_open c x)
