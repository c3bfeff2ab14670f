-- What the code that reads processes term by term promises: one turn of it, and the process that follows.
use Rattle.std.specs.Prelude.{◌≡◌, ℕ, ◌+◌, ◌*◌, ◌<◌, ◌≤◌, List, length, Ok, Err}
use Rattle.notation.specs.Fine.{FineProcess}
use Rattle.notation.specs.Limits.{type_term_limit, process_term_limit}
use Rattle.notation.specs.Token.{token_at, kind_at}
use Rattle.notation.specs.Tree.{Proc}
use Rattle.notation.specs.Refusals.{OrRefusal}
use Rattle.notation.specs.Reader.{Result}
use Rattle.notation.specs.Processes.{term_head, read_process, read_rest}
use Rattle.notation.specs.Tables.{after_process, write_process, pointer_to, empty_pointer, put_term}
use Rattle.notation.specs.declared.reading.Cursor.{Cursor}
use Rattle.notation.specs.declared.reading.Tally.{Tally}
use Rattle.notation.specs.declared.reading.TermNode.{TermNode}
use Rattle.notation.specs.declared.token.TermHead.{TermHead}
use Rattle.notation.specs.declared.token.TermHead.TheVariants.{Send, Recv, Fwd, Call, Cancel, Raise, Try, Spawn, Empty}
use Rattle.read_types.specs.Filling.{Out, Kept, SameDeclared, Room, Form, Meets, unread}
use Rattle.read_text.specs.declared.turns.Turn.{Turn}
use Rattle.read_text.specs.declared.turns.Turn.TheVariants.{On, Done}

-- ── pointers
-- the pointer to a process that begins with a token of this head at `at`, where n is the next node's number
abbrev pub peek_by : TermHead → ℕ → ℕ → ℕ
peek_by Send at n = n
peek_by Recv at n = n
peek_by Fwd at n = n
peek_by Call at n = n
peek_by Cancel at n = n
peek_by Raise at n = n
peek_by Try at n = n
peek_by Spawn at n = n
peek_by Empty at n = empty_pointer at

-- the same by the token at `at`
unfoldable pub peek : List ℕ → ℕ → ℕ → ℕ
peek s at n = peek_by (term_head (kind_at s at)) (token_at s at).start n

-- the node n with the pointer p to what follows it
abbrev pub pointing : TermNode → ℕ → TermNode
pointing n p = record { kind = n.kind; at = n.at; first = n.first; second = n.second; third = p }

-- ── where a reading goes on: each term was counted, and each branch took five bytes but for `spare`
abbrev pub AheadProcess : ℕ → List ℕ → Cursor → Tally → Cursor → Tally → Type 0
AheadProcess spare s c k d l =
    (c.at ≤ d.at)
    × (d.at ≤ length s)
    × (c.types ≤ d.types)
    × (d.types ≤ type_term_limit)
    × (d.terms ≤ process_term_limit)
    × (l.nodes + c.types ≤ d.types + k.nodes)
    × (l.alternatives + c.types ≤ d.types + k.alternatives)
    × (l.terms + c.terms ≤ d.terms + k.terms)
    × (5 * l.branches + c.at ≤ d.at + 5 * k.branches + spare)
    × (l.entries ≡ k.entries)
    × SameDeclared k l

abbrev pub process_form : Form Proc
process_form = record {
  after = after_process;
  write = write_process;
  Fine = FineProcess;
  Ahead = AheadProcess 0;
}

-- the rest of a term that began after k, read with the term counted
abbrev pub term_form : ℕ → Tally → Form Proc
term_form spare k = record {
  after = λ P _. after_process P k;
  write = λ P _ w. write_process P k w;
  Fine = FineProcess;
  Ahead = AheadProcess spare;
}

-- the node n of the term i, and then the process that follows it
abbrev pub node_form : ℕ → TermNode → Form Proc
node_form i n = record {
  after = after_process;
  write = λ P k w. write_process P k (put_term w i (pointing n (pointer_to P k.terms)));
  Fine = FineProcess;
  Ahead = AheadProcess 0;
}

abbrev pub ProcessRead : List ℕ → List ℕ → Cursor → Tally → Out → List ℕ → Type 0
ProcessRead s w c k = Meets process_form s w c k (3 * unread s c + 1) (λ m. read_process m s c)

-- ── turns
-- a process follows at d: whatever is its answer, with these words v, is the answer of the whole
pub record Onward {A : Type 0} (F : Form A) (s w : List ℕ) (c : Cursor) (k : Tally) (bound : ℕ) (f : ℕ → Result A) (v : List ℕ) (d : Cursor)
    (l : Tally) : Type 0 where
  pub room : Room s v d l
  pub later : c.at < d.at
  pub whole : (r : Out) (u : List ℕ) → ProcessRead s v d l r u → Meets F s w c k bound f r u

abbrev pub TurnedOf : {A : Type 0} → Form A → List ℕ → List ℕ → Cursor → Tally → ℕ → (ℕ → Result A) → OrRefusal Turn → Cursor → Tally → List ℕ → Type 0
TurnedOf F s w c k bound f (Ok On) d l v = Onward F s w c k bound f v d l
TurnedOf F s w c k bound f (Ok Done) d l v = Meets F s w c k bound f (Ok (d, l)) v
TurnedOf F s w c k bound f (Err e) d l v = Meets F s w c k bound f (Err e) v

-- one turn: a process follows, or the answer is here
pub record Turned {A : Type 0} (F : Form A) (s w : List ℕ) (c : Cursor) (k : Tally) (bound : ℕ) (f : ℕ → Result A) (t : OrRefusal Turn) (d : Cursor) (l : Tally) (v : List ℕ)
    : Type 0 where
  pub said : TurnedOf F s w c k bound f t d l v
  pub kept : Kept w v

abbrev pub TurnRead : List ℕ → List ℕ → Cursor → Tally → OrRefusal Turn → Cursor → Tally → List ℕ → Type 0
TurnRead s w c k = Turned process_form s w c k (3 * unread s c + 1) (λ m. read_process m s c)

-- the rest of the term i, whose node is n
abbrev pub RestTurned : ℕ → TermNode → List ℕ → List ℕ → Cursor → Tally → OrRefusal Turn → Cursor → Tally → List ℕ → Type 0
RestTurned i n s w c k = Turned (node_form i n) s w c k (3 * unread s c + 1) (λ m. read_rest m s c)
