-- The reading of processes is right about the rules of processes.
use Rattle.std.specs.Prelude.{ℕ, zero, suc, ◌+◌, ◌≡◌, Bool, false, eqb}
use Rattle.std.proofs.Math.Path.{refl, ap, subst}
use Rattle.std.proofs.Common.{sym, ◌∙◌, arith}
use mathlib.Core.List.{List, [], ◌∷◌, ◌++◌, append-nil, append_assoc}
use Rattle.std.proofs.Math.Bool.{true, true≢false}
use Rattle.std.proofs.lemmas.Bool.{false≢true}
use Rattle.notation.specs.Token.{token_at, kind_at, k_send, k_recv, k_fwd, k_call, k_cancel, k_raise, k_try, k_catch, k_round_open, k_round_close, k_square_open, k_square_close, k_colon, k_semicolon, k_from, k_then, k_bar}
use Rattle.notation.specs.Tree.{Located, Proc, empty, send_unit, send_channel, send_label, cancel, spawn, recv_unit, recv_channel, recv_label, fwd, call, raise, try, Branches, branch}
use Rattle.notation.specs.Reader.{Result, got, on_token, part, choose, expect, name_in}
use Rattle.notation.specs.Types.{is_infix, read_type}
use Rattle.notation.specs.Processes.{term_head, payload, name_list, bracketed_by, send_by, recv_by, process_by, rest_by, branches_by, read_process, read_rest, read_branches}
use Rattle.notation.specs.declared.reading.Cursor.{Cursor}
use Rattle.notation.specs.declared.token.TermHead.{TermHead}
use Rattle.notation.specs.declared.token.TermHead.TheVariants.{Send, Recv, Fwd, Call, Cancel, Raise, Try, Spawn, Empty}
use Rattle.notation.specs.declared.token.Payload.{Payload}
use Rattle.notation.specs.declared.token.Payload.TheVariants.{Unit as UnitPayload, Channel, Label, Other}
use Rattle.grammar.specs.Terminals.{Tok, Terminal, term_word, opens, closes, listed, sent, name, mark, following}
use Rattle.grammar.specs.Grammar as rule
use Rattle.grammar.specs.Grammar.{IsChannel, IsProcess, IsRest, AreBranches}
use Rattle.grammar.specs.Counting.{Counts}
use Rattle.theory_notation.specs.Standing.{token_in, first_of}
use Rattle.theory_notation.specs.Phrases.{Phrase, rules, one, seq, ret, mapped, lang, Each, Right, leads, joins, ended, becomes}
use Rattle.theory_notation.specs.Laws.{right_got, right_ret, right_misfit, right_narrow, right_part, right_lastly, right_before}
use Rattle.theory_notation.specs.Roles.{term_words, brought_names, openers, closers, marks, names, sent_labels, listed_labels}
use Rattle.theory_notation.specs.Levels.{Level, right_plain, right_process, right_opening, right_listed, right_close, right_unit}
use Rattle.theory_notation.specs.TypeRules.{recast, Any, NotInfix, type_p, type_reads, ahead_one}
use Rattle.theory_notation.specs.Lists.{AnyClosed, any, any_closed_p, names_begun, name_list_right}

-- ── what may follow
-- a process: a token that begins no term and is no `;`
abbrev pub Ends : ℕ → Type 0
Ends k = (term_head k ≡ Empty) × (eqb k k_semicolon ≡ false)

-- a list of branches
abbrev BranchEnds : ℕ → Type 0
BranchEnds k = Ends k × (eqb k k_bar ≡ false)

abbrev nowhere : ℕ → Located
nowhere o = record { at = o; name = [] }

-- ── the phrases
abbrev pub process_p : {s : List ℕ} → Phrase s Proc
process_p = rules (λ next P p. IsProcess next p P) (λ o. record { terminals = term_word k_raise o ∷ []; next = 0; value = raise o (empty 0); starts = refl; member = rule.raise rule.empty })

abbrev rest_p : {s : List ℕ} → Phrase s Proc
rest_p = rules (λ next P p. IsRest next p P) (λ o. record { terminals = []; next = o; value = empty o; starts = refl; member = rule.nothing })

abbrev branches_p : {s : List ℕ} → ℕ → Phrase s Branches
branches_p n = rules (λ next B p. AreBranches n next p B) (λ o.
    record { terminals = listed n (nowhere o) ∷ mark k_then 0 ∷ []; next = 0; value = branch (nowhere o) (empty 0) Branches.none; starts = refl; member = rule.last rule.empty })

-- what follows `send c`, and `recv c (` up to the bracket that closes
data Sends (a : ℕ) (c : Located) : ℕ → Proc → List Terminal → Type 0 where
  unit : {next b d : ℕ} {p : List Terminal} {P : Proc} → IsRest next p P → Sends a c next (send_unit a c P) (opens k_round_open b ∷ closes k_round_close d ∷ p)
  channel : {next : ℕ} {x : Located} {p : List Terminal} {P : Proc} → IsRest next p P → Sends a c next (send_channel a c x P) (name x ∷ p)
  label : {next : ℕ} {l : Located} {p : List Terminal} {P : Proc} → IsRest next p P → Sends a c next (send_label a c l P) (sent l ∷ p)

data Receives (a : ℕ) (c : Located) : ℕ → Proc → List Terminal → Type 0 where
  unit : {next b d e : ℕ} {p : List Terminal} {P : Proc} → IsProcess next p P → Receives a c next (recv_unit a c P) (opens k_round_open b ∷ closes k_round_close d ∷ mark k_then e ∷ p)
  channel : {next e : ℕ} {x : Located} {p : List Terminal} {P : Proc} → IsProcess next p P → Receives a c next (recv_channel a c x P) (name x ∷ mark k_then e ∷ p)
  labels : {next : ℕ} {p : List Terminal} {B : Branches} → AreBranches 0 next p B → Receives a c next (recv_label a c B) p

-- what follows a branch's process
data More (n : ℕ) : ℕ → Branches → List Terminal → Type 0 where
  none : {next : ℕ} → More n next Branches.none []
  some : {next b : ℕ} {q : List Terminal} {B : Branches} → AreBranches (suc n) next q B → More n next B (mark k_bar b ∷ q)

abbrev more_p : {s : List ℕ} → ℕ → Phrase s Branches
more_p n = rules (More n) (λ o. record { terminals = []; next = o; value = Branches.none; starts = refl; member = none })

module _ {s : List ℕ} (a : ℕ) (c : Located) where
  abbrev sends_p : Phrase s Proc
  sends_p = rules (Sends a c) (λ o. record { terminals = name (nowhere o) ∷ []; next = 0; value = send_channel a c (nowhere o) (empty 0); starts = refl; member = channel rule.nothing })

  abbrev receives_p : Phrase s Proc
  receives_p = rules (Receives a c) (λ o. record { terminals = name (nowhere o) ∷ mark k_then 0 ∷ []; next = 0; value = recv_channel a c (nowhere o) (empty 0); starts = refl; member = channel rule.empty })

abbrev is_other : Payload → Bool
is_other UnitPayload = false
is_other Channel = false
is_other Label = false
is_other Other = true

module _ (s : List ℕ) where
  -- (P)
  abbrev bracketed_p : Phrase s Proc
  bracketed_p = one (openers s k_round_open refl) λ _. seq process_p λ P. one (closers s k_round_close refl) λ _. ret P

  -- a process by its head
  abbrev term_p : TermHead → Phrase s Proc
  term_p Send = one (term_words s k_send refl) λ a. one (names s) λ c. sends_p a c
  term_p Recv = one (term_words s k_recv refl) λ a. one (names s) λ c. one (openers s k_round_open refl) λ _. seq (receives_p a c) λ P. one (closers s k_round_close refl) λ _. ret P
  term_p Fwd = one (term_words s k_fwd refl) λ a. one (names s) λ x. one (names s) λ c. ret (fwd a x c)
  term_p Call =
      one (term_words s k_call refl) λ a.
      one (names s) λ n.
      one (openers s k_round_open refl) λ b.
      seq (any_closed_p IsChannel names_begun k_round_close) λ xs.
      one (openers s k_square_open refl) λ _. seq (any_closed_p IsChannel names_begun k_square_close) λ ys. ret (call a n b xs ys)
  term_p Cancel = one (term_words s k_cancel refl) λ a. one (names s) λ c. mapped (cancel a c) rest_p
  term_p Raise = one (term_words s k_raise refl) λ a. mapped (raise a) process_p
  term_p Try = one (term_words s k_try refl) λ a. seq bracketed_p λ P. one (marks s k_catch refl) λ _. seq bracketed_p λ Q. ret (try a P Q)
  term_p Spawn = one (brought_names s) λ x. one (marks s k_colon refl) λ _. seq type_p λ A. one (marks s k_from refl) λ _. seq bracketed_p λ P. mapped (spawn x A P) rest_p
  term_p Empty = process_p

  abbrev payload_p : ℕ → Located → Payload → Phrase s Proc
  payload_p a c UnitPayload = one (openers s k_round_open refl) λ _. one (closers s k_round_close refl) λ _. mapped (send_unit a c) rest_p
  payload_p a c Channel = one (names s) λ x. mapped (send_channel a c x) rest_p
  payload_p a c Label = one (sent_labels s) λ l. mapped (send_label a c l) rest_p
  payload_p a c Other = sends_p a c

  abbrev wanted_p : ℕ → Located → Payload → Phrase s Proc
  wanted_p a c UnitPayload = one (openers s k_round_open refl) λ _. one (closers s k_round_close refl) λ _. one (marks s k_then refl) λ _. mapped (recv_unit a c) process_p
  wanted_p a c Channel = one (names s) λ x. one (marks s k_then refl) λ _. mapped (recv_channel a c x) process_p
  wanted_p a c Label = mapped (recv_label a c) (branches_p 0)
  wanted_p a c Other = receives_p a c

  -- ── they are the rules
  sends_is : {a next : ℕ} {c : Located} {P : Proc} {p q : List Terminal} → q ≡ term_word k_send a ∷ name c ∷ p → Sends a c next P p → IsProcess next q P
  sends_is {next = next} e (unit r) = recast (IsProcess next) (rule.send_unit r) e refl
  sends_is {next = next} e (channel r) = recast (IsProcess next) (rule.send_channel r) e refl
  sends_is {next = next} e (label r) = recast (IsProcess next) (rule.send_label r) e refl

  receives_is : {a b d next : ℕ} {c : Located} {P : Proc} {p q : List Terminal} → q ≡ term_word k_recv a ∷ name c ∷ opens k_round_open b ∷ (p ++ (closes k_round_close d ∷ [])) → Receives a c d P p → IsProcess next q P
  receives_is {next = next} e (unit r) = recast (IsProcess next) (rule.recv_unit r) e refl
  receives_is {next = next} e (channel r) = recast (IsProcess next) (rule.recv_channel r) e refl
  receives_is {next = next} e (labels r) = recast (IsProcess next) (rule.recv_label r) e refl

  calls_is : {a b : ℕ} (e next : ℕ) {n : Located} {xs ys : List Located} {p q r : List Terminal} {u v : ℕ} → r ≡ term_word k_call a ∷ name n ∷ opens k_round_open b ∷ (p ++ (opens k_square_open e ∷ q)) → AnyClosed IsChannel k_round_close u xs p → AnyClosed IsChannel k_square_close v ys q → IsProcess next r (call a n b xs ys)
  calls_is {a} {b} e next {n} z (any {p = p} d x) (any {p = q} f y) =
      recast (IsProcess next) (rule.call d e f x y) (z ∙ ap (λ l. term_word k_call a ∷ name n ∷ opens k_round_open b ∷ l) (append_assoc p (closes k_round_close d ∷ []) (opens k_square_open e ∷ (q ++ (closes k_square_close f ∷ []))))) refl

  -- what stands in brackets, taken apart
  record Bracketed (P : Proc) (p : List Terminal) : Type 0 where
    opened : ℕ
    closing : ℕ
    inside : List Terminal
    is : p ≡ opens k_round_open opened ∷ (inside ++ (closes k_round_close closing ∷ []))
    derives : IsProcess closing inside P

  bracketed_is : {next : ℕ} {P : Proc} {p : List Terminal} → lang bracketed_p next P p → Bracketed P p
  bracketed_is {next} {P} {p} y =
      let x = y.follows in
      let z = x.follows in
      record {
        opened = y.value;
        closing = z.value;
        inside = x.first;
        is = let e = y.is in let f = x.is in let g = z.is in let h = z.follows.none in cc;
        derives = subst (λ P. IsProcess z.value x.first P) (sym z.follows.value) (subst (λ l. IsProcess (following l next) x.first x.value) z.is x.begins);
      }

  is_bracketed : {next b d : ℕ} {P : Proc} {p : List Terminal} → IsProcess d p P → lang bracketed_p next P (opens k_round_open b ∷ (p ++ (closes k_round_close d ∷ [])))
  is_bracketed {next} {b} {d} {P} {p} x = leads b (joins P p (closes k_round_close d ∷ []) refl x (leads d ended))

  -- what a recv has in its bracket, and the bracket that closes
  abbrev received_p : ℕ → Located → Phrase s Proc
  received_p a c = seq (receives_p a c) λ P. one (closers s k_round_close refl) λ _. ret P

  received : {next a d : ℕ} {c : Located} {P : Proc} {p : List Terminal} → Receives a c d P p → lang (received_p a c) next P (p ++ (closes k_round_close d ∷ []))
  received {d = d} {P = P} {p} x = joins P p (closes k_round_close d ∷ []) refl x (leads d ended)

  term_is : (h : TermHead) (next : ℕ) (P : Proc) (p : List Terminal) → lang (term_p h) next P p → IsProcess next p P
  term_is Send next P p y = sends_is (let e = y.is in let f = y.follows.is in cc) y.follows.follows
  term_is Recv next P p y =
      let x = y.follows.follows in
      let w = x.follows in
      let z = w.follows in
      subst (IsProcess next p) (sym z.follows.value)
      (receives_is {b = x.value} {d = z.value} (let e = y.is in let f = y.follows.is in let g = x.is in let h = w.is in let i = z.is in let j = z.follows.none in cc) (subst (λ l. Receives y.value y.follows.value (following l next) w.value w.first) z.is w.begins))
  term_is Fwd next P p y =
      let x = y.follows.follows in
      recast (IsProcess next) (rule.fwd {a = y.value} {x = y.follows.value} {c = x.value}) (let e = y.is in let f = y.follows.is in let g = x.is in let h = x.follows.none in cc) x.follows.value
  term_is Call next P p y =
      let x = y.follows.follows in
      let w = x.follows in
      let z = w.follows in
      let u = z.follows in
      subst (IsProcess next p) (sym u.follows.value)
      (calls_is z.value next (let e = y.is in let f = y.follows.is in let g = x.is in let h = w.is in let i = z.is in let j = u.is in let k = u.follows.none in let l = append-nil u.first in cc) w.begins u.begins)
  term_is Cancel next P p y =
      let x = y.follows.follows in
      recast (IsProcess next) (rule.cancel {a = y.value} {c = y.follows.value} x.of) (let e = y.is in let f = y.follows.is in cc) x.is
  term_is Raise next P p y = recast (IsProcess next) (rule.raise {a = y.value} y.follows.of) y.is y.follows.is
  term_is Try next P p y =
      let x = y.follows in
      let z = x.follows in
      let w = z.follows in
      let l = bracketed_is x.begins in
      let r = bracketed_is w.begins in
      recast (IsProcess next) (rule.try {a = y.value} {b = l.opened} z.value r.opened l.derives r.derives)
      (y.is ∙ ap (λ q. term_word k_try y.value ∷ q) (x.is ∙ ap (λ q. q ++ x.rest) l.is
      ∙ ap (λ q. opens k_round_open l.opened ∷ q) (append_assoc l.inside (closes k_round_close l.closing ∷ []) x.rest
      ∙ ap (λ q. l.inside ++ (closes k_round_close l.closing ∷ q)) (z.is ∙ ap (λ q. mark k_catch z.value ∷ q) (w.is ∙ ap (λ q. w.first ++ q) w.follows.none ∙ append-nil w.first ∙ r.is)))))
      w.follows.value
  term_is Spawn next P p y =
      let x = y.follows in
      let z = x.follows in
      let w = z.follows in
      let u = w.follows in
      let l = bracketed_is u.begins in
      recast (IsProcess next) (rule.spawn {a = x.value} {e = l.closing} w.value l.opened {x = y.value} z.begins l.derives u.follows.of)
      (let e = y.is in let f = x.is in let g = z.is in let h = w.is in let i = u.is in let j = l.is in let m = append_assoc l.inside (closes k_round_close l.closing ∷ []) u.rest in cc)
      u.follows.is
  term_is Empty next P p y = y

  -- .. and every process has the head that its first token says, or, where it is empty, the token after it
  process_head : {next : ℕ} {p : List Terminal} {P : Proc} → IsProcess next p P → (t : Tok) → term_head t.kind ≡ Empty → lang (term_p (term_head (first_of p t).kind)) next P p
  unfolding term_head
  process_head {next} rule.empty t e = subst (λ h. lang (term_p h) next (empty next) []) (sym e) rule.empty
  process_head (rule.send_unit {a = a} {c = c} r) t e = leads a (leads c (unit r))
  process_head (rule.send_channel {a = a} {c = c} r) t e = leads a (leads c (channel r))
  process_head (rule.send_label {a = a} {c = c} r) t e = leads a (leads c (label r))
  process_head (rule.cancel {a = a} {c = c} {P = P} r) t e = leads a (leads c (becomes P r))
  process_head (rule.spawn {a = a} {e = e} b d {x} {p} {q} {r} {A} {P} {Q} type x' z) t f = leads x (leads a (joins A p _ refl type (leads b (joins P (opens k_round_open d ∷ (q ++ (closes k_round_close e ∷ []))) r (ap (λ l. opens k_round_open d ∷ l) (sym (append_assoc q (closes k_round_close e ∷ []) r))) (is_bracketed x') (becomes Q z)))))
  process_head (rule.recv_unit {a = a} {b = b} {g = g} {c = c} {p = p} {P = P} x) t e = leads a (leads c (leads b (received (unit x))))
  process_head (rule.recv_channel {a = a} {b = b} {c = c} x) t e = leads a (leads c (leads b (received (channel x))))
  process_head (rule.recv_label {a = a} {b = b} {c = c} x) t e = leads a (leads c (leads b (received (labels x))))
  process_head (rule.fwd {a = a} {x = x} {c = c}) t e = leads a (leads x (leads c ended))
  process_head (rule.call {a = a} {b = b} d e f {n} {p} {q} {xs} {ys} x y) t g = leads a (leads n (leads b (joins xs (p ++ (closes k_round_close d ∷ [])) (opens k_square_open e ∷ (q ++ (closes k_square_close f ∷ []))) (sym (append_assoc p (closes k_round_close d ∷ []) _)) (any d x) (leads e (joins ys (q ++ (closes k_square_close f ∷ [])) ([]) (sym (append-nil _)) (any f y) ended)))))
  process_head (rule.raise {a = a} {P = P} x) t e = leads a (becomes P x)
  process_head (rule.try {a = a} {b = b} {d = d} {g = g} e f {p} {q} {P} {Q} x y) t h = leads a (joins P (opens k_round_open b ∷ (p ++ (closes k_round_close d ∷ []))) (mark k_catch e ∷ opens k_round_open f ∷ (q ++ (closes k_round_close g ∷ []))) (ap (λ l. opens k_round_open b ∷ l) (sym (append_assoc p (closes k_round_close d ∷ []) _))) (is_bracketed x) (leads e (joins Q (opens k_round_open f ∷ (q ++ (closes k_round_close g ∷ []))) ([]) (sym (append-nil _)) (is_bracketed y) ended)))

  -- a term begins with a token that begins a term
  abbrev is_term : TermHead → Bool
  is_term Send = true
  is_term Recv = true
  is_term Fwd = true
  is_term Call = true
  is_term Cancel = true
  is_term Raise = true
  is_term Try = true
  is_term Spawn = true
  is_term Empty = false

  -- ── the payload of a send and of a recv
  sent_head : {a next : ℕ} {c : Located} {P : Proc} {p : List Terminal} → Sends a c next P p → (t : Tok) → lang (payload_p a c (payload (first_of p t).kind)) next P p
  unfolding payload
  sent_head (unit {b = b} {d = d} {P = P} r) t = leads b (leads d (becomes P r))
  sent_head (channel {x = x} {P = P} r) t = leads x (becomes P r)
  sent_head (label {l = l} {P = P} r) t = leads l (becomes P r)

  sent_is : (a : ℕ) (c : Located) (h : Payload) (next : ℕ) (P : Proc) (p : List Terminal) → lang (payload_p a c h) next P p → Sends a c next P p
  sent_is a c UnitPayload next P p y =
      let x = y.follows in
      recast (λ p P. Sends a c next P p) (unit {b = y.value} {d = x.value} x.follows.of) (let e = y.is in let f = x.is in cc) x.follows.is
  sent_is a c Channel next P p y = recast (λ p P. Sends a c next P p) (channel {x = y.value} y.follows.of) y.is y.follows.is
  sent_is a c Label next P p y = recast (λ p P. Sends a c next P p) (label {l = y.value} y.follows.of) y.is y.follows.is
  sent_is a c Other next P p y = y

  got_head : {a next : ℕ} {c : Located} {P : Proc} {p : List Terminal} → Receives a c next P p → (t : Tok) → lang (wanted_p a c (payload (first_of p t).kind)) next P p
  unfolding payload
  got_head (unit {b = b} {d = d} {e = e} {P = P} r) t = leads b (leads d (leads e (becomes P r)))
  got_head (channel {e = e} {x = x} {P = P} r) t = leads x (leads e (becomes P r))
  got_head (labels (rule.last r)) t = becomes _ (rule.last r)
  got_head (labels (rule.more r x)) t = becomes _ (rule.more r x)

  got_is : (a : ℕ) (c : Located) (h : Payload) (next : ℕ) (P : Proc) (p : List Terminal) → lang (wanted_p a c h) next P p → Receives a c next P p
  got_is a c UnitPayload next P p y =
      let x = y.follows in
      let z = x.follows in
      recast (λ p P. Receives a c next P p) (unit {b = y.value} {d = x.value} {e = z.value} z.follows.of) (let e = y.is in let f = x.is in let g = z.is in cc) z.follows.is
  got_is a c Channel next P p y =
      let x = y.follows in
      recast (λ p P. Receives a c next P p) (channel {e = x.value} {x = y.value} x.follows.of) (let e = y.is in let f = x.is in cc) x.follows.is
  got_is a c Label next P p y = recast (λ p P. Receives a c next P p) (labels y.of) refl y.is
  got_is a c Other next P p y = y

  known_sent : {a next : ℕ} {c : Located} {P : Proc} {p : List Terminal} → Sends a c next P p → (t : Tok) → is_other (payload (first_of p t).kind) ≡ false
  unfolding payload
  known_sent (unit r) t = refl
  known_sent (channel r) t = refl
  known_sent (label r) t = refl

  known_got : {a next : ℕ} {c : Located} {P : Proc} {p : List Terminal} → Receives a c next P p → (t : Tok) → is_other (payload (first_of p t).kind) ≡ false
  unfolding payload
  known_got (unit r) t = refl
  known_got (channel r) t = refl
  known_got (labels (rule.last r)) t = refl
  known_got (labels (rule.more r x)) t = refl

  module _ {base : Counts} {o : ℕ} {c : Cursor} {m : Counts} (lv : Level base o c m) (a : ℕ) (x : Located) where
    sent_right : (rest : Cursor → Result Proc) → ((d : Cursor) (n : Counts) → Level base o d n → Right s Ends (Level base o) rest_p n d (rest d)) → (h : Payload) → payload (kind_at s c.at) ≡ h
        → Right s Ends (Level base o) (sends_p a x) m c (send_by rest s a x c h)
    unfolding send_by
    sent_right rest r h e = narrowed h e (by h e)
      where
        narrowed : (h : Payload) → payload (kind_at s c.at) ≡ h → Right s Ends (Level base o) (payload_p a x h) m c (send_by rest s a x c h) → Right s Ends (Level base o) (sends_p a x) m c (send_by rest s a x c h)
        narrowed h e y = right_narrow _ (sent_is a x h) (λ P q t ts y f z. subst (λ k. lang (payload_p a x k) t.at P q) (ap (λ (u : Tok). payload u.kind) z ∙ e) (sent_head y t)) y

        by : (h : Payload) → payload (kind_at s c.at) ≡ h → Right s Ends (Level base o) (payload_p a x h) m c (send_by rest s a x c h)
        by UnitPayload e = right_unit lv _ _ λ d n v. right_lastly rest_p _ _ (r d n v)
        by Channel e = right_plain lv (names s) _ _ tt refl λ d n v. right_lastly rest_p _ _ (r d n v)
        by Label e = right_plain lv (sent_labels s) _ _ tt refl λ d n v. right_lastly rest_p _ _ (r d n v)
        by Other e = right_misfit (sends_p a x) (λ P q t ts y f z. true≢false (sym (ap is_other (ap (λ (u : Tok). payload u.kind) z ∙ e)) ∙ known_sent y t))

    got_right : (process : Cursor → Result Proc) (branches : Cursor → Result Branches)
        → ((d : Cursor) (n : Counts) → Level base o d n → Right s Ends (Level base o) process_p n d (process d))
        → ((d : Cursor) (n : Counts) → Level base o d n → Right s BranchEnds (Level base o) (branches_p 0) n d (branches d)) → (h : Payload) → payload (kind_at s c.at) ≡ h
        → Right s BranchEnds (Level base o) (receives_p a x) m c (recv_by process branches s a x c h)
    unfolding recv_by
    got_right process branches r b h e = narrowed h e (by h e)
      where
        narrowed : (h : Payload) → payload (kind_at s c.at) ≡ h → Right s BranchEnds (Level base o) (wanted_p a x h) m c (recv_by process branches s a x c h) → Right s BranchEnds (Level base o) (receives_p a x) m c (recv_by process branches s a x c h)
        narrowed h e y = right_narrow _ (got_is a x h) (λ P q t ts y f z. subst (λ k. lang (wanted_p a x k) t.at P q) (ap (λ (u : Tok). payload u.kind) z ∙ e) (got_head y t)) y

        by : (h : Payload) → payload (kind_at s c.at) ≡ h → Right s BranchEnds (Level base o) (wanted_p a x h) m c (recv_by process branches s a x c h)
        by UnitPayload e = right_unit lv _ _ λ d n v. right_plain v (marks s k_then refl) _ _ tt refl λ f i w. right_lastly process_p _ _ (right_before (λ k g. g.0) _ (r f i w))
        by Channel e = right_plain lv (names s) _ _ tt refl λ d n v. right_plain v (marks s k_then refl) _ _ tt refl λ f i w. right_lastly process_p _ _ (right_before (λ k g. g.0) _ (r f i w))
        by Label e = right_lastly (branches_p 0) _ _ (b c m lv)
        by Other e = right_misfit (receives_p a x) (λ P q t ts y f z. true≢false (sym (ap is_other (ap (λ (u : Tok). payload u.kind) z ∙ e)) ∙ known_got y t))

  -- ── a list of branches, taken apart
  abbrev branch_list_p : ℕ → Phrase s Branches
  branch_list_p n = one (listed_labels s n) λ l. one (marks s k_then refl) λ _. seq process_p λ P. mapped (branch l P) (more_p n)

  with_more : {n next a : ℕ} {l : Located} {P : Proc} {B : Branches} {p q : List Terminal} → IsProcess (following q next) p P → More n next B q → AreBranches n next (listed n l ∷ mark k_then a ∷ (p ++ q)) (branch l P B)
  with_more {n} {next} {a} {l} {p = p} x none = recast (AreBranches n next) (rule.last x) (ap (λ q. listed n l ∷ mark k_then a ∷ q) (append-nil p)) refl
  with_more x (some d) = rule.more x d

  branches_are : (n next : ℕ) (B : Branches) (p : List Terminal) → lang (branch_list_p n) next B p → AreBranches n next p B
  branches_are n next B p y =
      let x = y.follows in
      let z = x.follows in
      recast (AreBranches n next) (with_more {a = x.value} {l = y.value} z.begins z.follows.of) (let e = y.is in let f = x.is in let g = z.is in cc) z.follows.is

  are_branches : {n next : ℕ} {p : List Terminal} {B : Branches} → AreBranches n next p B → lang (branch_list_p n) next B p
  are_branches (rule.last {a = a} {p = p} {l} {P} x) = leads l (leads a (joins P p ([]) (sym (append-nil p)) x (becomes (Branches.none) none)))
  are_branches (rule.more {a = a} {b = b} {p = p} {q} {l} {P} {B} x d) = leads l (leads a (joins P p (mark k_bar b ∷ q) refl x (becomes B (some d))))

  abbrev further_p : ℕ → Located → Proc → Phrase s Branches
  further_p n l P = mapped (branch l P) (more_p n)

  more_ahead : (n : ℕ) (l : Located) (P : Proc) → Each BranchEnds (lang (further_p n l P)) (λ B q t ts. Ends (first_of q t).kind)
  unfolding term_head
  more_ahead n l P B q t ts y f = go t y.of f.0
    where
      go : {next : ℕ} {B : Branches} {q : List Terminal} (t : Tok) → More n next B q → Ends t.kind → Ends (first_of q t).kind
      go t none f = f
      go t (some x) f = (refl, refl)

  -- ── the readings of a process at c
  module _ {base : Counts} {o : ℕ} (process : Cursor → Result Proc) where
    -- (P)
    bracketed_right : ((d : Cursor) (n : Counts) → Level base (suc o) d n → Right s Ends (Level base (suc o)) process_p n d (process d))
        → (c : Cursor) (m : Counts) → Level base o c m → Right s Any (Level base o) bracketed_p m c (bracketed_by process s c)
    unfolding bracketed_by term_head
    bracketed_right r c m lv =
        right_opening lv k_round_open refl _ _ λ d n v.
        right_part Any process_p _ (λ P. ahead_one s Any Ends (closers s k_round_close refl) (λ _. ret P) (refl, refl)) (process d) _ (r d n v) λ P e k w.
        right_close w k_round_close refl P c lv.depth

    module _ (r : (d : Cursor) (n : Counts) → Level base o d n → Right s Ends (Level base o) process_p n d (process d)) where
      -- "followed by nothing or by `;` and a process"
      rest_by_lem : (c : Cursor) (m : Counts) → Level base o c m → (b : Bool) → eqb (kind_at s c.at) k_semicolon ≡ b
          → Right s Ends (Level base o) rest_p m c (choose b (λ c. on_token (expect s k_semicolon c) λ _ d. process d) (λ c. got (empty (token_at s c.at).start) c) c)
      rest_by_lem c m lv true e =
          right_narrow {ψ = one (marks s k_semicolon refl) λ _. process_p} _ (λ next P p y. recast (IsRest next) (rule.goes_on y.follows) y.is refl) out
          (right_plain lv (marks s k_semicolon refl) _ _ tt refl λ d n v. r d n v)
        where
          out : Each Ends (lang {s = s} rest_p) (λ P q t ts. first_of q t ≡ token_in s c.at → lang (one (marks s k_semicolon refl) λ _. process_p) t.at P q)
          out P q t ts rule.nothing f z = absurd (false≢true (sym f.1 ∙ ap (λ (u : Tok). eqb u.kind k_semicolon) z ∙ e))
          out P q t ts (rule.goes_on {a = a} x) f z = leads a x
      rest_by_lem c m lv false e = right_got rest_p _ rule.nothing lv (λ P q t ts y f z. only t y z refl)
        where
          only : {next : ℕ} {P : Proc} {q : List Terminal} (t : Tok) → IsRest next q P → first_of q t ≡ token_in s c.at → t.at ≡ next → (q ≡ []) × (P ≡ empty (token_at s c.at).start)
          only t rule.nothing z n = (refl, ap empty (sym n ∙ ap (λ (u : Tok). u.at) z))
          only t (rule.goes_on x) z n = absurd (true≢false (ap (λ (u : Tok). eqb u.kind k_semicolon) z ∙ e))

      rest_right : (c : Cursor) (m : Counts) → Level base o c m → Right s Ends (Level base o) rest_p m c (rest_by process s c)
      unfolding rest_by
      rest_right c m lv = rest_by_lem c m lv (eqb (kind_at s c.at) k_semicolon) refl

      -- 'l => P | ..
      more_by : (more : Cursor → Result Branches) (n : ℕ) → ((d : Cursor) (k : Counts) → Level base o d k → Right s BranchEnds (Level base o) (branches_p (suc n)) k d (more d))
          → (c : Cursor) (m : Counts) → Level base o c m → (b : Bool) → eqb (kind_at s c.at) k_bar ≡ b
          → Right s BranchEnds (Level base o) (more_p n) m c (choose b (λ c. on_token (expect s k_bar c) λ _ d. more d) (λ c. got Branches.none c) c)
      more_by more n u c m lv true e =
          right_narrow {ψ = one (marks s k_bar refl) λ _. branches_p (suc n)} _ (λ next B p y. recast (λ p B. More n next B p) (some y.follows) y.is refl) out
          (right_plain lv (marks s k_bar refl) _ _ tt refl λ d k v. u d k v)
        where
          out : Each BranchEnds (More n) (λ B q t ts. first_of q t ≡ token_in s c.at → lang (one (marks s k_bar refl) λ _. branches_p (suc n)) t.at B q)
          out B q t ts none f z = absurd (false≢true (sym f.1 ∙ ap (λ (u : Tok). eqb u.kind k_bar) z ∙ e))
          out B q t ts (some {b = b} x) f z = leads b x
      more_by more n u c m lv false e = right_got (more_p n) Branches.none none lv (λ B q t ts y f z. only t y z)
        where
          only : {next : ℕ} {B : Branches} {q : List Terminal} (t : Tok) → More n next B q → first_of q t ≡ token_in s c.at → (q ≡ []) × (B ≡ Branches.none)
          only t none z = (refl, refl)
          only t (some x) z = absurd (true≢false (ap (λ (u : Tok). eqb u.kind k_bar) z ∙ e))

      branches_right : (more : Cursor → Result Branches) (n : ℕ) → ((d : Cursor) (k : Counts) → Level base o d k → Right s BranchEnds (Level base o) (branches_p (suc n)) k d (more d))
          → (c : Cursor) (m : Counts) → Level base o c m → Right s BranchEnds (Level base o) (branches_p n) m c (branches_by process more s n c)
      unfolding branches_by
      branches_right more n u c m lv =
          right_narrow {ψ = branch_list_p n} _ (branches_are n) (λ B q t ts y f z. are_branches y)
          (right_listed lv n _ _ λ d k v.
          right_plain v (marks s k_then refl) _ _ tt refl λ e j w.
          right_part BranchEnds process_p _ (λ P. more_ahead n _ P) (process e) _ (r e j w) λ P f i x.
          right_lastly (more_p n) _ _ (more_by more n u f i x (eqb (kind_at s f.at) k_bar) refl))

    -- a process, by what begins it
    module _ (up : (d : Cursor) (n : Counts) → Level base (suc o) d n → Right s Ends (Level base (suc o)) process_p n d (process d))
        (r : (d : Cursor) (n : Counts) → Level base o d n → Right s Ends (Level base o) process_p n d (process d))
        (rest : Cursor → Result Proc) (w : (d : Cursor) (n : Counts) → Level base o d n → Right s Ends (Level base o) rest_p n d (rest d))
        (branches : Cursor → Result Branches) (u : (d : Cursor) (n : Counts) → Level base (suc o) d n → Right s BranchEnds (Level base (suc o)) (branches_p 0) n d (branches d))
        (j : ℕ) (c : Cursor) (m : Counts) (lv : Level base o c m) where
      term_by_lem : (h : TermHead) → term_head (kind_at s c.at) ≡ h → Right s Ends (Level base o) (term_p h) m c (process_by (λ d. read_type j s d) process rest branches j s c h)
      unfolding process_by is_infix term_head
      term_by_lem Send e =
          right_process lv (term_words s k_send refl) _ _ (λ h. h) (λ h. h) refl λ d n v.
          right_plain v (names s) _ _ tt refl λ f i x. sent_right x _ _ rest w (payload (kind_at s f.at)) refl
      term_by_lem Recv e =
          right_process lv (term_words s k_recv refl) _ _ (λ h. h) (λ h. h) refl λ d n v.
          right_plain v (names s) _ _ tt refl λ f i x.
          right_opening x k_round_open refl _ _ λ g k y.
          right_part Ends (receives_p _ _) _ (λ P. ahead_one s Ends BranchEnds (closers s k_round_close refl) (λ _. ret P) ((refl, refl), refl)) _ _ (got_right y _ _ process branches up u (payload (kind_at s g.at)) refl) λ P q l z.
          right_close z k_round_close refl P f x.depth
      term_by_lem Fwd e =
          right_process lv (term_words s k_fwd refl) _ _ (λ h. h) (λ h. h) refl λ d n v.
          right_plain v (names s) _ _ tt refl λ f i x. right_plain x (names s) _ _ tt refl λ g k y. right_ret _ y
      term_by_lem Call e =
          right_process lv (term_words s k_call refl) _ _ (λ h. h) (λ h. h) refl λ d n v.
          right_plain v (names s) _ _ tt refl λ f i x.
          let at = (token_at s c.at).start in
          let callee = name_in s (token_at s d.at).start in
          name_list_right x j k_round_open k_round_close refl refl refl _ (λ b xs g. part (name_list j s k_square_open k_square_close g) λ ys q. got (call at callee b xs ys) q) λ xs g k y.
          name_list_right y j k_square_open k_square_close refl refl refl _ (λ _ ys q. got (call at callee (token_at s f.at).start xs ys) q) λ ys q l z. right_ret _ z
      term_by_lem Cancel e =
          right_process lv (term_words s k_cancel refl) _ _ (λ h. h) (λ h. h) refl λ d n v.
          right_plain v (names s) _ _ tt refl λ f i x. right_lastly rest_p _ _ (w f i x)
      term_by_lem Raise e =
          right_process lv (term_words s k_raise refl) _ _ (λ h. h) (λ h. h) refl λ d n v. right_lastly process_p _ _ (r d n v)
      term_by_lem Try e =
          right_process lv (term_words s k_try refl) _ _ (λ h. h) (λ h. h) refl λ d n v.
          right_part Ends bracketed_p _ (λ P q k t ts y f. tt) _ _ (bracketed_right up d n v) λ P f i x.
          right_plain x (marks s k_catch refl) _ _ tt refl λ g k y.
          right_part Ends bracketed_p _ (λ Q q k t ts y f. tt) _ _ (bracketed_right up g k y) λ Q q l z. right_ret _ z
      term_by_lem Spawn e =
          right_process lv (brought_names s) _ _ (λ h. h) (λ h. h) refl λ d n v.
          right_plain v (marks s k_colon refl) _ _ tt refl λ f i x.
          right_part Ends type_p _ (λ A. ahead_one s Ends NotInfix (marks s k_from refl) (λ _. seq bracketed_p λ P. mapped (spawn _ A P) rest_p) refl) _ _ (type_reads s j f i x) λ A g k y.
          right_plain y (marks s k_from refl) _ _ tt refl λ q l z.
          right_part Ends bracketed_p _ (λ P q k t ts y f. tt) _ _ (bracketed_right up q l z) λ P a b c'. right_lastly rest_p _ _ (w a b c')
      term_by_lem Empty e = right_got process_p _ rule.empty lv (λ P q t ts y f z. only t y z refl)
        where
          -- the token there begins no term
          begun : {u : Tok} → u ≡ token_in s c.at → is_term (term_head u.kind) ≡ true → ⊥
          begun z x = true≢false (sym x ∙ ap is_term (ap (λ (u : Tok). term_head u.kind) z ∙ e))

          only : {next : ℕ} {P : Proc} {q : List Terminal} (t : Tok) → IsProcess next q P → first_of q t ≡ token_in s c.at → t.at ≡ next → (q ≡ []) × (P ≡ empty (token_at s c.at).start)
          only t rule.empty z n = (refl, ap empty (sym n ∙ ap (λ (u : Tok). u.at) z))
          only t (rule.send_unit r) z n = absurd (begun z refl)
          only t (rule.send_channel r) z n = absurd (begun z refl)
          only t (rule.send_label r) z n = absurd (begun z refl)
          only t (rule.cancel r) z n = absurd (begun z refl)
          only t (rule.spawn b d x y r) z n = absurd (begun z refl)
          only t (rule.recv_unit x) z n = absurd (begun z refl)
          only t (rule.recv_channel x) z n = absurd (begun z refl)
          only t (rule.recv_label x) z n = absurd (begun z refl)
          only t rule.fwd z n = absurd (begun z refl)
          only t (rule.call d e f x y) z n = absurd (begun z refl)
          only t (rule.raise x) z n = absurd (begun z refl)
          only t (rule.try e f x y) z n = absurd (begun z refl)

      process_right : Right s Ends (Level base o) process_p m c (process_by (λ d. read_type j s d) process rest branches j s c (term_head (kind_at s c.at)))
      process_right =
          right_narrow _ (term_is (term_head (kind_at s c.at))) (λ P q t ts y f z. subst (λ k. lang (term_p k) t.at P q) (ap (λ (u : Tok). term_head u.kind) z) (process_head y t f.0))
          (term_by_lem (term_head (kind_at s c.at)) refl)

  -- ── all of them
  module _ {base : Counts} where
    mutual
      unfolding read_process

      pub process_reads : (n : ℕ) {o : ℕ} (c : Cursor) (m : Counts) → Level base o c m → Right s Ends (Level base o) process_p m c (read_process n s c)
      process_reads zero c m v = record { holds = tt }
      process_reads (suc n) c m v =
          process_right (λ d. read_process n s d) (λ d k w. process_reads n d k w) (λ d k w. process_reads n d k w) (λ d. read_rest n s d) (λ d k w. rest_reads n d k w) (λ d. read_branches n s 0 d) (λ d k w. branches_read n 0 d k w) n c m v

      rest_reads : (n : ℕ) {o : ℕ} (c : Cursor) (m : Counts) → Level base o c m → Right s Ends (Level base o) rest_p m c (read_rest n s c)
      rest_reads zero c m v = record { holds = tt }
      rest_reads (suc n) c m v = rest_right (λ d. read_process n s d) (λ d k w. process_reads n d k w) c m v

      branches_read : (n k : ℕ) {o : ℕ} (c : Cursor) (m : Counts) → Level base o c m → Right s BranchEnds (Level base o) (branches_p k) m c (read_branches n s k c)
      branches_read zero k c m v = record { holds = tt }
      branches_read (suc n) k {o} c m v =
          branches_right (λ d. read_process n s d) (λ d j w. process_reads n d j w) (λ d. read_branches n s (k + 1) d) k
          (λ d j w. let e : k + 1 ≡ suc k = omega arith in subst (λ i. Right s BranchEnds (Level base o) (branches_p i) j d (read_branches n s (k + 1) d)) e (branches_read n (k + 1) d j w)) c m v
