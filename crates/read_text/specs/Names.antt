-- What the code that reads lists of names promises.
use Rattle.std.specs.Prelude.{◌≡◌, ℕ, ◌<◌, ◌≤◌, List, [], eqb, length, Ok, Err}
use Rattle.notation.specs.Token.{kind_at, k_name}
use Rattle.notation.specs.Tree.{Located}
use Rattle.notation.specs.Refusals.{OrRefusal, refuses}
use Rattle.notation.specs.Reader.{Result, Taken, got, refused, on_token, choose, expect}
use Rattle.notation.specs.Processes.{read_names}
use Rattle.notation.specs.declared.reading.Cursor.{Cursor}
use Rattle.read_types.specs.Filling.{unread}

-- the answer of a list's reading with the offset i, and the cursor that it left
abbrev pub passed : ℕ → OrRefusal (Unit {0}) → Cursor → Taken
passed i (Ok x) c = Ok (i, c)
passed i (Err e) c = Err e

-- the code keeps none of the names
abbrev pub forget_names : ℕ → Result (List Located) → Taken
forget_names i (got xs d) = Ok (i, d)
forget_names i (refused n j) = refuses n j

-- where a list of names goes on
abbrev pub AheadNames : List ℕ → Cursor → ℕ → Cursor → Type 0
AheadNames s c i d = (c.at < d.at) × (d.at ≤ length s) × (i < length s) × (d.types ≡ c.types) × (d.terms ≡ c.terms)

-- a list f of names is read, with the offset i
pub record NamesTaken (s : List ℕ) (c : Cursor) (i : ℕ) (f : ℕ → Result (List Located)) (r : Taken) : Type 0 where
  pub is : (m : ℕ) → unread s c < m → r ≡ forget_names i (f m)
  pub on : (j : ℕ) (d : Cursor) → r ≡ Ok (j, d) → AheadNames s c j d

-- what stands in a list's brackets: names, or none
abbrev pub list_end : List ℕ → ℕ → Cursor → Result (List Located)
list_end s close d = on_token (expect s close d) λ _ e. got [] e

abbrev pub names_or_none : ℕ → List ℕ → ℕ → Cursor → Result (List Located)
names_or_none m s close d = choose (eqb (kind_at s d.at) k_name) (read_names m s close) (list_end s close) d
