-- The parts that every reading is made of: a result, a token that is wanted, and how they follow each other.
-- A reading is described over the readings that it needs, and the knots are tied on fuel: the reading of a text gives more than the text can use.
use Rattle.std.specs.Prelude.{ℕ, ◌+◌, List, Bool, true, false, cond, ltb, eqb, Ok, Err}
use Rattle.notation.specs.Limits.{type_term_limit, process_term_limit, bracket_limit}
use Rattle.notation.specs.Token.{token_at, name_at, k_fault}
use Rattle.notation.specs.Tree.{Located}
use Rattle.notation.specs.Refusals.{OrRefusal, refuses}
use Rattle.notation.specs.declared.token.Token.{Token}
use Rattle.notation.specs.declared.reading.Cursor.{Cursor}

-- what was read and the cursor past it, or a refusal: its number and offset
pub data Result (A : Type 0) : Type 0 where
  got : A → Cursor → Result A
  refused : ℕ → ℕ → Result A

-- a token that was wanted: where it stands and the cursor past it; or a refusal
abbrev pub Taken : Type 0
Taken = OrRefusal (ℕ × Cursor)

-- a token, then the rest
abbrev pub on_token : {A : Type 0} → Taken → (ℕ → Cursor → Result A) → Result A
on_token (Ok (i, c)) k = k i c
on_token (Err e) k = refused e.number e.at

-- a part, then the rest
abbrev pub part : {A B : Type 0} → Result A → (A → Cursor → Result B) → Result B
part (got a c) k = k a c
part (refused n i) k = refused n i

-- a part that is the last, under what it becomes
abbrev pub lastly : {A B : Type 0} → (A → B) → Result A → Result B
lastly f (got a c) = got (f a) c
lastly f (refused n i) = refused n i

-- the one way or the other; each waits for the cursor
abbrev pub choose : {A : Type 0} → Bool → (Cursor → Result A) → (Cursor → Result A) → Cursor → Result A
choose true f g c = f c
choose false f g c = g c

-- the cursor past a token; what was counted stays
abbrev pub past : Cursor → Token → Cursor
past c t = record { at = t.end; types = c.types; terms = c.terms; depth = c.depth }

-- "Where the next token is not the one wanted, the reading ends there": 3 where it is no token, else 4
abbrev pub fault : Token → ℕ
fault t = cond (eqb t.kind k_fault) 3 4

unfoldable pub expect : List ℕ → ℕ → Cursor → Taken
expect s k c =
    let t = token_at s c.at in
    cond (eqb t.kind k) (Ok (t.start, past c t)) (refuses (fault t) t.start)

-- no token fits here
unfoldable pub misfit : {A : Type 0} → List ℕ → Cursor → Result A
misfit s c = let t = token_at s c.at in refused (fault t) t.start

-- A limit is tested after what is wanted, at the token that passes it: 3 or 4 before 5.
abbrev pub limited : Taken → (Cursor → Bool) → (Cursor → Cursor) → Taken
limited (Ok (i, c)) fits more = cond (fits c) (Ok (i, more c)) (refuses 5 i)
limited (Err e) fits more = Err e

-- a bracket that opens
abbrev pub may_open : Cursor → Bool
may_open d = ltb d.depth bracket_limit

abbrev pub deeper : Cursor → Cursor
deeper d = record { at = d.at; types = d.types; terms = d.terms; depth = d.depth + 1 }

unfoldable pub opening : List ℕ → ℕ → Cursor → Taken
opening s k c = limited (expect s k c) may_open deeper

-- "A type term is a `1`, a name, an infix mark, a `+` or a `&` in a type"
abbrev pub may_type : Cursor → Bool
may_type d = ltb d.types type_term_limit

abbrev pub with_type : Cursor → Cursor
with_type d = record { at = d.at; types = d.types + 1; terms = d.terms; depth = d.depth }

unfoldable pub type_term : List ℕ → ℕ → Cursor → Taken
type_term s k c = limited (expect s k c) may_type with_type

-- "a process term counts at its first token"
abbrev pub may_process : Cursor → Bool
may_process d = ltb d.terms process_term_limit

abbrev pub with_process : Cursor → Cursor
with_process d = record { at = d.at; types = d.types; terms = d.terms + 1; depth = d.depth }

unfoldable pub process_term : List ℕ → ℕ → Cursor → Taken
process_term s k c = limited (expect s k c) may_process with_process

-- past a bracket that closes, as many are open as before the one that opened: those of c
abbrev pub closed : Cursor → Cursor → Cursor
closed c d = record { at = d.at; types = d.types; terms = d.terms; depth = c.depth }

-- two tokens in a row: the first one's offset, past the second
abbrev pub onward_from : ℕ → Taken → Taken
onward_from i (Ok (j, d)) = Ok (i, d)
onward_from i (Err e) = Err e

abbrev pub then_token : Taken → (Cursor → Taken) → Taken
then_token (Ok (i, d)) f = onward_from i (f d)
then_token (Err e) f = Err e

abbrev pub closed_taken : Cursor → Taken → Taken
closed_taken c (Ok (i, d)) = Ok (i, closed c d)
closed_taken c (Err e) = Err e

-- the name at an offset; the label whose apostrophe stands there
abbrev pub name_in : List ℕ → ℕ → Located
name_in s i = record { at = i; name = name_at s i }

abbrev pub label_in : List ℕ → ℕ → Located
label_in s i = record { at = i; name = name_at s (i + 1) }
