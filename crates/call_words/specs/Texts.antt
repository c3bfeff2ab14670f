-- What the functions promise that tell what a text is made of. s is the text, at an offset; w and old are the scratch and answer words lent, v and new what they are afterwards, r what is returned.
use Rattle.std.specs.Prelude.{ℕ, ◌<◌, ◌≤◌, ◌≡◌, refl, List, [], ◌∷◌, ◌++◌, length, get_or, drop, Ok, Err}
use Rattle.std.proofs.Common.{◌∙◌, ap, arith}
use Rattle.notation.specs.Token.{token_at}
use Rattle.notation.specs.declared.token.Token.{Token}
use Rattle.notation.specs.declared.token.Lexeme.{Lexeme}
use Rattle.read_text.specs.Reading.{TextRead}
use Rattle.notation.specs.Refusals.{OrRefusal}
use Rattle.notation.specs.declared.script.Script.{Script}
use Rattle.call_positions.specs.Position.{position_at}
use Rattle.call_positions.specs.declared.position.Position.{Position}
use Rattle.call_words.specs.Words.{answer_words, as_word, padded}
use Rattle.call_words.specs.Laying.{Tells}
use Rattle.call_words.specs.Exported.{Untouched, answer_short}

-- line and column
unfoldable pub position_words : Position → List ℕ
position_words p = 0 ∷ as_word p.line ∷ as_word p.column ∷ []

-- a token's kind, where its first byte stands, and where the byte after its last one does
unfoldable pub token_words : Lexeme → List ℕ
token_words t = 0 ∷ as_word t.kind ∷ as_word t.start ∷ as_word t.end ∷ []

-- a 0, or the refusal's number and its offset
unfoldable pub reading_words : OrRefusal Script → List ℕ
reading_words (Ok script) = 0 ∷ []
reading_words (Err r) = r.number ∷ as_word r.at ∷ []

-- the words stand first in the lent ones, zeros up to 130 follow, and what lies past them is as it was; the first is returned
pub record Written (words old : List ℕ) (r : ℕ) (new : List ℕ) : Type 0 where
  pub is : new ≡ padded words ++ drop answer_words old
  pub number : r ≡ get_or (padded words) 0 0

-- of an answer with too few words nothing is written, and scratch is as it was; else what is promised of a long one holds
pub record UnlessShort (w old : List ℕ) (r : ℕ) (v new : List ℕ) (Long : Type 0) : Type 0 where
  pub short : length old < answer_words → Untouched w [] old r v [] new
  pub long : answer_words ≤ length old → Long

-- the words of an answer for which no scratch is lent
abbrev pub WordsTold : List ℕ → List ℕ → ℕ → List ℕ → Type 0
WordsTold words old r new = UnlessShort [] old r [] new (Written words old r new)

abbrev pub PositionExported : List ℕ → ℕ → List ℕ → ℕ → List ℕ → Type 0
PositionExported s at = WordsTold (position_words (position_at s at))

-- a lexeme is a token of any text
abbrev pub lexeme : Token → Lexeme
lexeme t = record { kind = t.kind; start = t.start; end = t.end }

abbrev pub TokenExported : List ℕ → ℕ → List ℕ → ℕ → List ℕ → Type 0
TokenExported s at = WordsTold (token_words (lexeme (token_at s at)))

-- the reading's own contract holds of scratch and of the reading that is told
pub record TablesTold (s w old : List ℕ) (r : ℕ) (v new : List ℕ) : Type 0 where
  pub reading : OrRefusal Script
  pub tables : TextRead s w reading v
  pub written : Written (reading_words reading) old r new

abbrev pub TablesExported : List ℕ → List ℕ → List ℕ → ℕ → List ℕ → List ℕ → Type 0
TablesExported s w old r v new = UnlessShort w old r v new (TablesTold s w old r v new)

module _ {w old : List ℕ} {Long : Type 0} where
  pub too_short : length old < answer_words → UnlessShort w old answer_short w old Long
  too_short l = record {
    short = λ _. record { number = refl; scratch = refl; run = refl; answer = refl };
    long = λ h. absurd (omega (arith, l, h));
  }

  pub long_enough : {r : ℕ} {v new : List ℕ} → answer_words ≤ length old → Long → UnlessShort w old r v new Long
  long_enough l told = record { short = λ h. absurd (omega (arith, l, h)); long = λ _. told }

module _ {old : List ℕ} where
  pub written : (words : List ℕ) {all new : List ℕ} {r : ℕ} → all ≡ padded words → Tells old new all r → Written words old r new
  written words e t = record { is = t.is ∙ ap (λ x. x ++ drop answer_words old) e; number = t.first ∙ ap (λ x. get_or x 0 0) e }

  pub tables_told : {s w v : List ℕ} {a : OrRefusal Script} {r : ℕ} {new all : List ℕ} → TextRead s w a v → all ≡ padded (reading_words a) → Tells old new all r → TablesTold s w old r v new
  tables_told {a = a} t e u = record { reading = a; tables = t; written = written (reading_words a) e u }
