-- What the reading of a whole text promises.
use Rattle.std.specs.Prelude.{◌≡◌, ℕ, ◌<◌, ◌≤◌, List, ◌++◌, length, drop, Ok}
use Rattle.notation.specs.Limits.{scratch_words}
use Rattle.notation.specs.Tree.{Declaration}
use Rattle.notation.specs.Reader.{Result, got, refused}
use Rattle.notation.specs.Scripts.{read_text}
use Rattle.notation.specs.Tables.{after_script, nothing, tables, FitsTables}
use Rattle.notation.specs.declared.script.Script.{Script}
use Rattle.notation.specs.Refusals.{OrRefusal, refuses}

-- how many declarations of each kind a script has
abbrev pub script_of : List Declaration → Script
script_of ds = record { types = (after_script ds nothing).types; processes = (after_script ds nothing).processes; execs = (after_script ds nothing).execs }

-- the answer for what was read, or for its refusal
abbrev pub answer_of : Result (List Declaration) → OrRefusal Script
answer_of (got ds c) = Ok (script_of ds)
answer_of (refused n i) = refuses n i

-- the lent words hold the text's tables; of a refused text they are zeros
pub record Filled (s : List ℕ) (r : OrRefusal Script) (v : List ℕ) : Type 0 where
  pub is : r ≡ answer_of (read_text s)
  pub words : v ≡ tables s
  pub fits : FitsTables s

-- for texts and slices of any length: refusal 1 touches nothing, and past `scratch_words` nothing changes
pub record TextRead (s w : List ℕ) (r : OrRefusal Script) (v : List ℕ) : Type 0 where
  pub short : length w < scratch_words → (r ≡ refuses 1 0) × (v ≡ w)
  pub enough : scratch_words ≤ length w → (r ≡ answer_of (read_text s)) × (v ≡ tables s ++ drop scratch_words w) × FitsTables s
