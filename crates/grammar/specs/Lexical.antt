-- Tokens over the bytes of a text, one rule a constructor, in the scope's order and words.
use Rattle.std.specs.Prelude.{ℕ, suc, ◌+◌, ◌≤◌, ◌<◌, ◌≡◌, ◌≢◌, List, [], ◌∷◌, ◌++◌, true, false, length}
use Rattle.std.proofs.Math.Option.{some}
use Rattle.std.proofs.Math.ListN.{get_elem?}
use Rattle.notation.specs.Limits.{name_limit}
use Rattle.notation.specs.Bytes.{letter, name_byte, blank}
use Rattle.notation.specs.Token.{symbols, k_lolli, k_name, k_label, k_end}
use Rattle.notation.specs.Tree.{Name}
use Rattle.grammar.specs.Terminals.{Tok, tok}

-- "letters, digits or `_`"
pub data NameBytes : List ℕ → Type 0 where
  none : NameBytes []
  more : {b : ℕ} {w : List ℕ} → name_byte b ≡ true → NameBytes w → NameBytes (b ∷ w)

-- "A name is a letter, then letters, digits or `_`."
pub data IsName : Name → Type 0 where
  letters : {b : ℕ} {w : List ℕ} → letter b ≡ true → NameBytes w → IsName (b ∷ w)

-- a name, a word and a label end before bytes that could not go on with them
pub data NameEnds : List ℕ → Type 0 where
  text_ends : NameEnds []
  another : {b : ℕ} {r : List ℕ} → name_byte b ≡ false → NameEnds (b ∷ r)

-- the word or mark of a kind
abbrev pub Spells : ℕ → List ℕ → Type 0
Spells k w = get_elem? symbols k ≡ some w

-- "The eleven reserved words stand in one table"
pub record IsWord (k : ℕ) (w : List ℕ) : Type 0 where
  pub spells : Spells k w
  pub reserved : k < k_lolli

-- "The marks are `( ) [ ] { } : , ; = | 1 * @ + & -o <- =>`"
pub record IsMark (k : ℕ) (w : List ℕ) : Type 0 where
  pub spells : Spells k w
  pub after : k_lolli ≤ k
  pub below : k < k_name

-- "the longest mark wins": none that the bytes s begin with is longer than w
abbrev pub Longest : List ℕ → List ℕ → Type 0
Longest w s = (k : ℕ) (v r : List ℕ) → IsMark k v → s ≡ v ++ r → length v ≤ length w

-- `Token i s t j r`: the bytes s, of which the first stands at the offset i, begin with blanks, or none, and the token t; the bytes r, from j on, are left
pub data Token : ℕ → List ℕ → Tok → ℕ → List ℕ → Type 0 where
  -- "Space, tab, LF and CR separate tokens."
  separated : {i j b : ℕ} {s r : List ℕ} {t : Tok} → blank b ≡ true → Token (suc i) s t j r → Token i (b ∷ s) t j r
  -- a name; "None of them is a name"
  name : {i : ℕ} {r : List ℕ} (w : Name) → IsName w → ((k : ℕ) → ¬ IsWord k w) → length w ≤ name_limit → NameEnds r → Token i (w ++ r) (tok k_name i w) (i + length w) r
  -- "A label is an apostrophe and a name.", and any reserved word "may follow the apostrophe"
  label : {i : ℕ} {r : List ℕ} (w : Name) → IsName w → length w ≤ name_limit → NameEnds r → Token i (39 ∷ (w ++ r)) (tok k_label i w) (suc i + length w) r
  -- a reserved word
  word : {i : ℕ} {r : List ℕ} (k : ℕ) (w : List ℕ) → IsWord k w → NameEnds r → Token i (w ++ r) (tok k i []) (i + length w) r
  -- a mark
  mark : {i : ℕ} {r : List ℕ} (k : ℕ) (w : List ℕ) → IsMark k w → Longest w (w ++ r) → Token i (w ++ r) (tok k i []) (i + length w) r
  -- "The end of the text is at its length, with blanks before it or not."
  end : {i : ℕ} → Token i [] (tok k_end i []) i []

-- `NoToken i s a`: the bytes s, from the offset i on, begin with blanks, or none, and what stands then, at a, is no token
pub data NoToken : ℕ → List ℕ → ℕ → Type 0 where
  separated : {i a b : ℕ} {s : List ℕ} → blank b ≡ true → NoToken (suc i) s a → NoToken i (b ∷ s) a
  -- "A byte opens no token": no blank, no letter, no apostrophe, and no mark begins with it here
  opens_none : {i b : ℕ} {s : List ℕ}
      → blank b ≡ false
      → letter b ≡ false
      → b ≢ 39
      → ((k : ℕ) (w r : List ℕ) → IsMark k w → b ∷ s ≢ w ++ r)
      → NoToken i (b ∷ s) i
  -- "An apostrophe that no letter follows opens no token."
  lone_apostrophe : {i : ℕ} {s : List ℕ} → ((w r : List ℕ) → IsName w → s ≢ w ++ r) → NoToken i (39 ∷ s) i
  -- "a name is too long"
  long_name : {i : ℕ} {r : List ℕ} (w : Name) → IsName w → name_limit < length w → NameEnds r → NoToken i (w ++ r) i
  long_label : {i : ℕ} {r : List ℕ} (w : Name) → IsName w → name_limit < length w → NameEnds r → NoToken i (39 ∷ (w ++ r)) i

-- so many tokens, one after the other
pub data Tokens : ℕ → List ℕ → List Tok → ℕ → List ℕ → Type 0 where
  none : {i : ℕ} {s : List ℕ} → Tokens i s [] i s
  more : {i j k : ℕ} {s r q : List ℕ} {t : Tok} {ts : List Tok} → Token i s t j r → Tokens j r ts k q → Tokens i s (t ∷ ts) k q
