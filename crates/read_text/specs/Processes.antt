-- What the code that reads processes promises.
use Rattle.std.specs.Prelude.{ℕ, ◌+◌, ◌*◌, ◌≤◌, List, Err}
use Rattle.notation.specs.Fine.{SomeBranch, FineProcess, FineBranches}
use Rattle.notation.specs.Limits.{label_limit}
use Rattle.notation.specs.Token.{kind_at, k_name, k_label, k_then, k_colon}
use Rattle.notation.specs.Tree.{Located, Proc, send_unit, send_channel, send_label, recv_unit, recv_channel, recv_label, Branches}
use Rattle.notation.specs.Refusals.{OrRefusal}
use Rattle.notation.specs.Reader.{Result, Taken, on_token, lastly, part, expect, process_term, then_token, name_in, label_in}
use Rattle.notation.specs.Types.{read_type, label_term}
use Rattle.notation.specs.Processes.{payload, unit_taken, bracketed_by, send_by, recv_by, process_by, read_process, read_rest, read_branches}
use Rattle.notation.specs.Tables.{after_process, after_branches, write_process, write_branches, more_terms, pointer_to, term_node}
use Rattle.notation.specs.declared.reading.Cursor.{Cursor}
use Rattle.notation.specs.declared.reading.Tally.{Tally}
use Rattle.notation.specs.declared.reading.TermNode.{TermNode}
use Rattle.notation.specs.declared.token.TermHead.{TermHead}
use Rattle.notation.specs.declared.token.Payload.{Payload}
use Rattle.notation.specs.declared.token.Payload.TheVariants.{Unit as UnitPayload, Channel, Label, Other}
use Rattle.read_types.specs.Filling.{Out, misfit_refusal, Form, Meets, unread}
use Rattle.read_text.specs.declared.turns.Turn.{Turn}
use Rattle.read_text.specs.Turns.{AheadProcess, process_form, term_form, node_form, Turned}

-- ── tokens
-- what a send sends or a recv takes, as one step
unfoldable pub payload_taken : List ℕ → Cursor → Payload → Taken
payload_taken s c UnitPayload = unit_taken s c
payload_taken s c Channel = expect s k_name c
payload_taken s c Label = expect s k_label c
payload_taken s c Other = Err (misfit_refusal s c.at)

unfoldable pub payload_then : List ℕ → Cursor → Payload → Taken
payload_then s c h = then_token (payload_taken s c h) (expect s k_then)

unfoldable pub label_then : List ℕ → ℕ → Cursor → Taken
label_then s n c = then_token (label_term s n c) (expect s k_then)

unfoldable pub name_colon : List ℕ → Cursor → Taken
name_colon s c = then_token (process_term s k_name c) (expect s k_colon)

-- ── terms
-- a process that its first token decides
abbrev pub term_by : TermHead → List ℕ → Cursor → ℕ → Result Proc
term_by h s c m = process_by (λ d. read_type m s d) (λ d. read_process m s d) (λ d. read_rest m s d) (λ d. read_branches m s 0 d) m s c h

-- one that ends its process, and one that another may follow
abbrev pub TermRead : TermHead → List ℕ → List ℕ → Cursor → Tally → Out → List ℕ → Type 0
TermRead h s w c k = Meets process_form s w c k (3 * unread s c) (term_by h s c)

abbrev pub TermTurned : TermHead → List ℕ → List ℕ → Cursor → Tally → OrRefusal Turn → Cursor → Tally → List ℕ → Type 0
TermTurned h s w c k = Turned process_form s w c k (3 * unread s c) (term_by h s c)

-- ── the node of a send or a recv by the first of its kinds, before its pointer is known: the channel at i, what is sent or taken at j
unfoldable pub payload_node : ℕ → Payload → ℕ → ℕ → ℕ → TermNode
payload_node unit UnitPayload at i j = term_node unit at i 0 0
payload_node unit Channel at i j = term_node (unit + 1) at i j 0
payload_node unit Label at i j = term_node (unit + 2) at i j 0
payload_node unit Other at i j = term_node unit at i 0 0

-- ── a send by what it sends, and its node
unfoldable pub sent_of : List ℕ → Payload → ℕ → Located → ℕ → Proc → Proc
sent_of s UnitPayload at c j P = send_unit at c P
sent_of s Channel at c j P = send_channel at c (name_in s j) P
sent_of s Label at c j P = send_label at c (label_in s j) P
sent_of s Other at c j P = send_unit at c P

abbrev pub sent_node : Payload → ℕ → ℕ → ℕ → TermNode
sent_node = payload_node 1

-- what follows the channel of a send that began after k
abbrev pub SentTurned : ℕ → ℕ → Payload → List ℕ → List ℕ → Cursor → Tally → OrRefusal Turn → Cursor → Tally → List ℕ → Type 0
SentTurned at i h s w c k =
    Turned (term_form 0 k) s w c (more_terms k) (3 * unread s c + 1) (λ m. send_by (λ d. read_rest m s d) s at (name_in s i) c h)

-- ── a recv of () or a channel, and its node
unfoldable pub recvd_of : List ℕ → Payload → ℕ → Located → ℕ → Proc → Proc
recvd_of s UnitPayload at c j P = recv_unit at c P
recvd_of s Channel at c j P = recv_channel at c (name_in s j) P
recvd_of s Label at c j P = recv_unit at c P
recvd_of s Other at c j P = recv_unit at c P

abbrev pub recvd_node : Payload → ℕ → ℕ → ℕ → TermNode
recvd_node = payload_node 6

-- a label is taken by branches
abbrev pub NoLabel : Payload → Type 0
NoLabel UnitPayload = Unit
NoLabel Channel = Unit
NoLabel Label = ⊥
NoLabel Other = Unit

abbrev pub OneRead : ℕ → ℕ → Payload → List ℕ → List ℕ → Cursor → Tally → Out → List ℕ → Type 0
OneRead at i h s w c k =
    Meets (term_form 1 k) s w c (more_terms k) (3 * unread s c + 1) (λ m. on_token (payload_then s c h) λ j d. lastly (recvd_of s h at (name_in s i) j)
    (read_process m s d))

-- ── branches
abbrev pub branches_form : Form Branches
branches_form = record {
  after = after_branches;
  write = write_branches;
  Fine = λ B. FineBranches B × SomeBranch B;
  Ahead = λ s c k d l. AheadProcess 1 s c k d l × (l.last ≤ label_limit);
}

abbrev pub BranchesRead : List ℕ → List ℕ → Cursor → Tally → Out → List ℕ → Type 0
BranchesRead s w c k = Meets branches_form s w c k (3 * unread s c + 1) (λ m. read_branches m s 0 c)

abbrev pub LabelsRead : ℕ → ℕ → List ℕ → List ℕ → Cursor → Tally → Out → List ℕ → Type 0
LabelsRead at i s w c k =
    Meets (term_form 1 k) s w c (more_terms k) (3 * unread s c + 1) (λ m. lastly (recv_label at (name_in s i)) (read_branches m s 0 c))

-- what stands in a recv's bracket
abbrev pub handler_by : ℕ → ℕ → List ℕ → Cursor → ℕ → Result Proc
handler_by at i s c m = recv_by (λ d. read_process m s d) (λ d. read_branches m s 0 d) s at (name_in s i) c (payload (kind_at s c.at))

abbrev pub HandlerRead : ℕ → ℕ → List ℕ → List ℕ → Cursor → Tally → Out → List ℕ → Type 0
HandlerRead at i s w c k = Meets (term_form 1 k) s w c (more_terms k) (3 * unread s c + 2) (handler_by at i s c)

-- ── a process in round brackets
abbrev pub BracketedRead : List ℕ → List ℕ → Cursor → Tally → Out → List ℕ → Type 0
BracketedRead s w c k = Meets process_form s w c k (3 * unread s c) (λ m. bracketed_by (λ d. read_process m s d) s c)

-- ── the two halves of a spawn, the term i, after its arrow: its name stands at `at`, and its type's node was read last
abbrev pub parts_form : ℕ → ℕ → Form (Proc × Proc)
parts_form i at = record {
  after = λ p k. after_process p.1 (after_process p.0 k);
  write = λ p k w. (node_form i (term_node 5 at k.last (pointer_to p.0 k.terms) 0)).write p.1 (after_process p.0 k) (write_process p.0 k w);
  Fine = λ p. FineProcess p.0 × FineProcess p.1;
  Ahead = AheadProcess 0;
}

abbrev pub parts_by : List ℕ → Cursor → ℕ → Result (Proc × Proc)
parts_by s c m = part (bracketed_by (λ d. read_process m s d) s c) λ P d. lastly (λ Q. (P, Q)) (read_rest m s d)

abbrev pub PartsTurned : ℕ → ℕ → List ℕ → List ℕ → Cursor → Tally → OrRefusal Turn → Cursor → Tally → List ℕ → Type 0
PartsTurned i at s w c k = Turned (parts_form i at) s w c k (3 * unread s c + 1) (parts_by s c)
