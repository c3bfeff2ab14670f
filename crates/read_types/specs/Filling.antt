-- What the reader's code promises: its steps, where a reading goes on, and the words that it leaves.
use Rattle.std.specs.Prelude.{◌≡◌, ℕ, zero, suc, ◌+◌, ◌-◌, ◌*◌, ◌<◌, ◌≤◌, List, Bool, true, cond, ◌||◌, length, get_or, drop, set, eqb, ltb, Ok, Err}
use Rattle.notation.specs.Fine.{SomeAlternative, FineType, FineAlternatives}
use Rattle.notation.specs.Limits.{text_limit, label_limit, type_term_limit, process_term_limit}
use Rattle.notation.specs.Token.{token_at, k_colon, k_round_close, k_brace_open, k_star, k_at, k_one, k_name, k_plus, k_with}
use Rattle.notation.specs.Onward.{width}
use Rattle.notation.specs.Tree.{Located, Ty, unit, named, plus, with, Alternatives}
use Rattle.notation.specs.Refusals.{OrRefusal, refusal, refuses}
use Rattle.notation.specs.Reader.{Result, Taken, got, refused, on_token, fault, expect, opening, type_term, closed, then_token, name_in}
use Rattle.notation.specs.Types.{read_type, read_atom, read_alternatives, is_infix, label_term, round_by, choice_by}
use Rattle.notation.specs.Tables.{after_type, after_alternatives, write_type, write_alternatives, put_node, type_node, alternatives_at, Area, offset_radix, pointer_radix, table_words}
use Rattle.notation.specs.declared.reading.Tally.{Tally}
use Rattle.notation.specs.declared.reading.TypeNode.{TypeNode}
use Rattle.notation.specs.declared.reading.TermNode.{TermNode}
use Rattle.notation.specs.declared.reading.ProcessEntry.{ProcessEntry}
use Rattle.notation.specs.declared.reading.Cursor.{Cursor}
use Rattle.notation.specs.declared.refusal.Refusal.{Refusal}

-- where a reading went on to, with the fill of the tables; or a refusal
abbrev pub Out : Type 0
Out = OrRefusal (Cursor × Tally)

-- a step's answer, with the cursor that it left; and a reading's, with the fill of the tables too
abbrev pub taken : OrRefusal ℕ → Cursor → Taken
taken (Ok i) c = Ok (i, c)
taken (Err e) c = Err e

abbrev pub reached : OrRefusal (Unit {0}) → Cursor → Tally → Out
reached (Ok x) c k = Ok (c, k)
reached (Err e) c k = Err e

-- where a step goes on: n bytes later at least, within the text, with so many type terms and process terms more
abbrev pub Further : List ℕ → Cursor → ℕ → ℕ → ℕ → ℕ → Cursor → Type 0
Further s c n types terms i d =
    (c.at + n ≤ d.at)
    × (d.at ≤ length s)
    × (i < length s)
    × (d.types ≡ c.types + types)
    × (types * d.types ≤ type_term_limit)
    × (d.terms ≡ c.terms + terms)
    × (terms * d.terms ≤ process_term_limit)

-- r is what was wanted, and where it goes on
pub record Stepped (s : List ℕ) (c : Cursor) (n types terms : ℕ) (want r : Taken) : Type 0 where
  pub is : r ≡ want
  pub on : (i : ℕ) (d : Cursor) → r ≡ Ok (i, d) → Further s c n types terms i d

-- no token fits here
abbrev pub misfit_refusal : List ℕ → ℕ → Refusal
misfit_refusal s at = refusal (fault (token_at s at)) (token_at s at).start

-- the token at i, before which n were counted, is within their limit
abbrev pub within_limit : ℕ → ℕ → ℕ → OrRefusal (Unit {0})
within_limit i n limit = cond (ltb n limit) (Ok tt) (refuses 5 i)

-- a label within its list's limit, and its colon
unfoldable pub label_colon : List ℕ → ℕ → Cursor → Taken
label_colon s n c = then_token (label_term s n c) (expect s k_colon)

-- the mark of a choice, and its brace
unfoldable pub choice_opening : List ℕ → ℕ → Cursor → Taken
choice_opening s k c = then_token (type_term s k c) (opening s k_brace_open)

-- ── the tables
-- what is past the tables' area
unfoldable pub past_area : List ℕ → List ℕ
past_area w = drop table_words w

-- v has as many words as w, and past the tables' area the same ones
pub record Kept (w v : List ℕ) : Type 0 where
  pub long : length v ≡ length w
  pub past : past_area v ≡ past_area w

-- the word i of the tables is n
pub record WordPut (w : List ℕ) (i n : ℕ) (v : List ℕ) : Type 0 where
  pub words : v ≡ set w i n
  pub kept : Kept w v

-- the first n of the kept words, put from `at` on, the last of them first
unfoldable pub list_put : List ℕ → ℕ → ℕ → List ℕ → List ℕ
list_put kept zero at w = w
list_put kept (suc n) at w = list_put kept n (at + 1) (set w at (get_or kept n 0))

pub record ListPut (w entries : List ℕ) (n at : ℕ) (v : List ℕ) : Type 0 where
  pub words : v ≡ list_put entries n at w
  pub kept : Kept w v

-- words are put: the tally r and the words v
pub record Put (w x : List ℕ) (k r : Tally) (v : List ℕ) : Type 0 where
  pub is : r ≡ k
  pub words : v ≡ x
  pub kept : Kept w v

-- what fits a type node's word
abbrev pub Fits : TypeNode → Type 0
Fits n = (n.kind < 8) × (n.first < 1024) × (n.second < 524288)

-- what fits a process node's two words
abbrev pub FitsTerm : TermNode → Type 0
FitsTerm n = (n.kind < 16) × (n.at < offset_radix) × (n.first < 32768) × (n.second < pointer_radix) × (n.third < 262144)

-- what fits a process's four words
abbrev pub FitsEntry : ProcessEntry → Type 0
FitsEntry p = (p.at < offset_radix) × (p.first ≤ type_term_limit) × (p.provided ≤ type_term_limit) × (p.used ≤ type_term_limit) × (p.body ≤ process_term_limit + text_limit)

-- there is room for what the text can still bring
abbrev pub Room : List ℕ → List ℕ → Cursor → Tally → Type 0
Room s w c k =
    (length s ≤ text_limit)
    × Area w
    × (c.at ≤ length s)
    × (c.types ≤ type_term_limit)
    × (c.terms ≤ process_term_limit)
    × (k.nodes ≤ c.types)
    × (k.alternatives ≤ c.types)
    × (k.entries ≤ c.types)
    × (k.terms ≤ c.terms)
    × (5 * k.branches ≤ c.at)

-- what is appended for an A that was read, what holds of each, and where its reading goes on
pub record Form (A : Type 0) : Type 1 where
  pub after : A → Tally → Tally
  pub write : A → Tally → List ℕ → List ℕ
  pub Fine : A → Type 0
  pub Ahead : List ℕ → Cursor → Tally → Cursor → Tally → Type 0

-- an answer r and the words v are those of the definition's answer
abbrev pub MadeOf : {A : Type 0} → Form A → List ℕ → Tally → Result A → Out → List ℕ → Type 0
MadeOf F w k (got a d) r v = (r ≡ Ok (d, F.after a k)) × (v ≡ F.write a k w) × F.Fine a
MadeOf F w k (refused n i) r v = r ≡ refuses n i

-- the same, under a name from which antt reads what it is of
pub record Made {A : Type 0} (F : Form A) (w : List ℕ) (k : Tally) (x : Result A) (r : Out) (v : List ℕ) : Type 0 where
  pub said : MadeOf F w k x r v

-- r and v are what f says at each fuel above `bound`; a refusal says nothing of the words in the tables' area
pub record Meets {A : Type 0} (F : Form A) (s w : List ℕ) (c : Cursor) (k : Tally) (bound : ℕ) (f : ℕ → Result A) (r : Out) (v : List ℕ) : Type 0 where
  pub is : (m : ℕ) → bound < m → Made F w k (f m) r v
  pub kept : Kept w v
  pub on : (d : Cursor) (l : Tally) → r ≡ Ok (d, l) → F.Ahead s c k d l

-- ── types
-- no declaration was appended
abbrev pub SameDeclared : Tally → Tally → Type 0
SameDeclared k l = (l.types ≡ k.types) × (l.processes ≡ k.processes) × (l.execs ≡ k.execs)

-- the other tables, and the process terms, are as they were
abbrev pub OthersSame : Cursor → Tally → Cursor → Tally → Type 0
OthersSame c k d l = (d.terms ≡ c.terms) × (l.entries ≡ k.entries) × (l.terms ≡ k.terms) × (l.branches ≡ k.branches) × SameDeclared k l

-- past a type: each has a type term more than alternatives; `own` is 1 for a list of them, and one more for each that was read before
abbrev pub AheadType : ℕ → List ℕ → Cursor → Tally → Cursor → Tally → Type 0
AheadType own s c k d l =
    (c.at < d.at)
    × (d.at ≤ length s)
    × (d.types ≤ type_term_limit)
    × (l.nodes + c.types ≤ d.types + k.nodes)
    × (l.alternatives + c.types + 1 ≤ d.types + k.alternatives + own)
    × (k.nodes < l.nodes)
    × OthersSame c k d l

abbrev pub type_form : Form (Ty Located)
type_form = record {
  after = after_type;
  write = write_type;
  Fine = FineType;
  Ahead = λ s c k d l. AheadType 0 s c k d l × (l.last < l.nodes);
}

abbrev pub alternatives_form : Form (Alternatives Located)
alternatives_form = record {
  after = after_alternatives;
  write = write_alternatives;
  Fine = λ r. FineAlternatives r × SomeAlternative r;
  Ahead = λ s c k d l. AheadType 1 s c k d l × (l.last ≤ label_limit);
}

abbrev pub unread : List ℕ → Cursor → ℕ
unread s c = length s - c.at

abbrev pub TypeRead : List ℕ → List ℕ → Cursor → Tally → Out → List ℕ → Type 0
TypeRead s w c k = Meets type_form s w c k (3 * unread s c + 2) (λ m. read_type m s c)

abbrev pub AtomRead : List ℕ → List ℕ → Cursor → Tally → Out → List ℕ → Type 0
AtomRead s w c k = Meets type_form s w c k (3 * unread s c + 1) (λ m. read_atom m s c)

abbrev pub AlternativesRead : List ℕ → List ℕ → Cursor → Tally → Out → List ℕ → Type 0
AlternativesRead s w c k = Meets alternatives_form s w c k (3 * unread s c + 1) (λ m. read_alternatives m s 0 c)

-- ── the parts of these
abbrev pub OneRead : List ℕ → List ℕ → Cursor → Tally → Out → List ℕ → Type 0
OneRead s w c k = Meets type_form s w c k 0 (λ m. on_token (type_term s k_one c) λ _ d. got unit d)

abbrev pub NameRead : List ℕ → List ℕ → Cursor → Tally → Out → List ℕ → Type 0
NameRead s w c k = Meets type_form s w c k 0 (λ m. on_token (type_term s k_name c) λ i d. got (named (name_in s i)) d)

abbrev pub RoundRead : List ℕ → List ℕ → Cursor → Tally → Out → List ℕ → Type 0
RoundRead s w c k = Meets type_form s w c k (3 * unread s c) (λ m. round_by (λ d. read_type m s d) s c)

-- whether a token of this kind is the mark of a choice
unfoldable pub is_choice : ℕ → Bool
is_choice k = eqb k k_plus || eqb k k_with

-- the type that a choice's mark makes of its alternatives
unfoldable pub choice_of : ℕ → Alternatives Located → Ty Located
choice_of k r = cond (eqb k k_plus) (plus r) (with r)

abbrev pub ChoiceRead : ℕ → List ℕ → List ℕ → Cursor → Tally → Out → List ℕ → Type 0
ChoiceRead kind s w c k =
    Meets type_form s w c k (3 * unread s c) (λ m. choice_by (λ d. read_alternatives m s 0 d) s kind (choice_of kind) c)

-- the tables with a alternatives, of which the last n are one list
abbrev pub listing : ℕ → ℕ → Tally → Tally
listing a n k = record { types = k.types; processes = k.processes; execs = k.execs; entries = k.entries; nodes = k.nodes; alternatives = a; terms = k.terms; branches = k.branches; last = n }

-- a list of n alternatives more
abbrev pub listed : ℕ → Tally → Tally
listed n k = listing (k.alternatives + n) n k

abbrev pub put_listed : List ℕ → ℕ → Tally → List ℕ → List ℕ
put_listed kept n k w = list_put kept n (alternatives_at + k.alternatives) w

-- the node kind of an infix mark
unfoldable pub infix_kind : ℕ → ℕ
infix_kind k = cond (eqb k k_star) 2 (cond (eqb k k_at) 3 4)

-- the root of a type whose first atom fills the tables up to l, where a token of this kind follows: an infix mark's node, or the atom's own root
unfoldable pub root_before : ℕ → Tally → ℕ
root_before kind l = cond (is_infix kind) l.nodes l.last

-- a mark of this kind that waits for its right part has the number i, and this root to its left
pub record Waits (mark i left : ℕ) : Type 0 where
  pub few : is_infix mark ≡ true → (i < type_term_limit) × (left < type_term_limit)

-- its node is written; nothing is where no mark waits
unfoldable pub put_mark : ℕ → ℕ → ℕ → ℕ → List ℕ → List ℕ
put_mark mark i left right w = cond (is_infix mark) (put_node w i (type_node (infix_kind mark) left right)) w

pub record MarkPut (mark i left right : ℕ) (w v : List ℕ) : Type 0 where
  pub words : v ≡ put_mark mark i left right w
  pub kept : Kept w v

-- the root of the whole type: the one known so far, or where no mark waits that of what begins here
unfoldable pub whole_root : ℕ → ℕ → ℕ → ℕ
whole_root mark root right = cond (is_infix mark) root right
