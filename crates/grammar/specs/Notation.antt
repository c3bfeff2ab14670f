-- Which texts are within the notation, and refusals 2 to 5 of the others, by the rules alone.
use Rattle.std.specs.Prelude.{ℕ, ◌≤◌, ◌<◌, ◌≡◌, List, [], ◌∷◌, ◌++◌, map, length}
use Rattle.notation.specs.Limits.{text_limit}
use Rattle.notation.specs.Token.{k_end}
use Rattle.notation.specs.Tree.{Declaration}
use Rattle.grammar.specs.Terminals.{Tok, tok, Terminal, token_of}
use Rattle.grammar.specs.Lexical.{Token, NoToken, Tokens}
use Rattle.grammar.specs.Grammar.{IsScript}
use Rattle.grammar.specs.Counting.{Counts, nothing, Fits, Within}

abbrev pub end_at : ℕ → Tok
end_at i = tok k_end i []

-- the rules derive the script ds from the text, and the limits hold
pub record Derives (text : List ℕ) (ds : List Declaration) : Type 0 where
  pub short : length text ≤ text_limit
  pub terminals : List Terminal
  pub tokens : Tokens 0 text (map token_of terminals ++ (end_at (length text) ∷ [])) (length text) []
  pub script : IsScript (length text) terminals ds
  pub counts : Counts
  pub within : Within nothing terminals counts

-- the tokens of a whole script, with the end of its text
pub record ScriptTokens (ts : List Tok) : Type 0 where
  pub terminals : List Terminal
  pub next : ℕ
  pub script : List Declaration
  pub derives : IsScript next terminals script
  pub are : ts ≡ map token_of terminals ++ (end_at next ∷ [])

-- tokens continue to a script: some tokens, put after them, make one; of whatever offsets and names, for the grammar asks for neither
pub record Continues (ts : List Tok) : Type 0 where
  pub after : List Tok
  pub whole : ScriptTokens (ts ++ after)

-- terminals begin a script
pub record Begins (p : List Terminal) : Type 0 where
  pub after : List Terminal
  pub next : ℕ
  pub script : List Declaration
  pub derives : IsScript next (p ++ after) script

-- a text up to an offset, the bytes r being left: its tokens so far begin a script, and pass no limit
pub record SoFar (text : List ℕ) (ts : List Tok) (i : ℕ) (r : List ℕ) : Type 0 where
  pub short : length text ≤ text_limit
  pub tokens : Tokens 0 text ts i r
  pub terminals : List Terminal
  pub are : map token_of terminals ≡ ts
  pub begins : Begins terminals
  pub counts : Counts
  pub within : Within nothing terminals counts

-- a terminal more passes a limit, in whatever script these tokens begin
abbrev pub PassesLimit : List Tok → Tok → Type 0
PassesLimit ts t = (p : List Terminal) (x : Terminal) (k : Counts) → map token_of p ≡ ts → token_of x ≡ t → Begins (p ++ (x ∷ [])) → Within nothing p k → ¬ Fits k x

-- "3 to 5 form one pass: lowest offset, then lowest number."
pub data Refused (text : List ℕ) : (number at : ℕ) → Type 0 where
  -- 2. "The text is over its limit (offset 8,192)."
  too_long : text_limit < length text → Refused text 2 text_limit
  -- 3. "A byte opens no token, or a name is too long."
  no_token : {ts : List Tok} {i a : ℕ} {r : List ℕ} → SoFar text ts i r → NoToken i r a → Refused text 3 a
  -- 4. "The tokens so far continue to no script (text length if it ends early)."
  no_script : {ts : List Tok} {i j : ℕ} {r q : List ℕ} {t : Tok} → SoFar text ts i r → Token i r t j q → ¬ Continues (ts ++ (t ∷ [])) → Refused text 4 t.at
  -- 5. "Another limit of the notation, save channels held, is passed."
  over_limit : {ts : List Tok} {i j : ℕ} {r q : List ℕ} (x : Terminal) (far : SoFar text ts i r)
      → Token i r (token_of x) j q
      → Begins (far.terminals ++ (x ∷ []))
      → PassesLimit ts (token_of x)
      → Refused text 5 (token_of x).at
