-- What a process holds, as the calculus has it: the names are those of the text s, the types those of the tables w.
use Rattle.std.specs.Prelude.{ℕ, ◌≤◌, ◌<◌, ◌≡◌, List, [], ◌∷◌, ◌++◌, map, Bool, set}
use Rattle.std.specs.Prelude.{Option as CodeOption, Some, None}
use Rattle.run_words.specs.declared.records.End.{End as EndWords}
use Rattle.std.proofs.Math.Option.{Option, some, none}
use Rattle.std.proofs.Math.ListN.{get_elem?}
use Rattle.notation.specs.Bytes.{same}
use Rattle.notation.specs.Limits.{held_limit, type_term_limit}
use Rattle.notation.specs.Token.{name_at}
use Rattle.notation.specs.Tree.{Name}
use Rattle.calculus.specs.Named.{lookup, without}
use Rattle.calculus.specs.Configuration.{End, end}
use Rattle.calculus.specs.Configuration.{retyped_end}
use Rattle.read_tables.specs.Program.{plain_in}
use Rattle.read_tables.specs.Roots.{TypeIn}
use Rattle.run_words.specs.Lists.{All}
use Rattle.run_words.specs.Raw.{RawEnd, BoundedEnd, side_of}
use Rattle.run_words.specs.Values.{end_in, held_in}
use Rattle.run_words.specs.declared.records.Held.{Held}

abbrev pub end_is : List ℕ → List ℕ → RawEnd → Name × End
end_is s w e = (name_at s e.name, end e.side e.channel (plain_in s w e.node))

abbrev pub ends_in : List ℕ → List ℕ → List RawEnd → List (Name × End)
ends_in s w l = map (end_is s w) l

-- the channels that h holds
unfoldable pub channels_of : List ℕ → List ℕ → Held → List (Name × End)
channels_of s w h = ends_in s w (held_in h)

-- n ends, by their words
abbrev pub held_by : ℕ → List ℕ → Held
held_by n words = record { count = n; words = words }

-- an end whose numbers are those of the text and its tables
pub record EndIn (s w : List ℕ) (e : RawEnd) : Type 0 where
  pub bounds : BoundedEnd e
  pub type : TypeIn s w e.node

pub record HeldIn (s w : List ℕ) (h : Held) : Type 0 where
  pub many : h.count ≤ held_limit
  pub each : All (EndIn s w) (held_in h)

-- ── what the code promises
-- what was found, as the calculus has it
abbrev pub end_found : List ℕ → List ℕ → CodeOption EndWords → Option End
end_found s w (Some e) = some (end_is s w (end_in e)).1
end_found s w None = none

abbrev pub FoundIn : List ℕ → List ℕ → CodeOption EndWords → Type 0
FoundIn s w (Some e) = EndIn s w (end_in e) × (e.side < 2)
FoundIn s w None = 0 ≤ 0

-- the channel under the name at an offset
pub record Sees (s : List ℕ) (h : Held) (at : ℕ) (r : CodeOption EndWords) : Type 0 where
  pub is : (w : List ℕ) → lookup (name_at s at) (channels_of s w h) ≡ end_found s w r
  pub fits : (w : List ℕ) → HeldIn s w h → FoundIn s w r

-- without the channel under the name at an offset
pub record Drops (s : List ℕ) (h : Held) (at : ℕ) (r : Held) : Type 0 where
  pub is : (w : List ℕ) → channels_of s w r ≡ without (name_at s at) (channels_of s w h)
  pub few : r.count ≤ h.count
  pub fits : (w : List ℕ) → HeldIn s w h → HeldIn s w r

-- with the type of a node for the channel under the name at an offset
pub record Retypes (s : List ℕ) (h : Held) (at node : ℕ) (r : Held) : Type 0 where
  pub is : (w : List ℕ) → channels_of s w r ≡ retyped_end (name_at s at) (plain_in s w node) (channels_of s w h)
  pub fits : (w : List ℕ) → TypeIn s w node → HeldIn s w h → HeldIn s w r

-- with the type of a node for the channel at a position
abbrev pub retyped_raw : ℕ → RawEnd → RawEnd
retyped_raw node e = record { name = e.name; side = e.side; node = node; channel = e.channel }

pub record RetypesAt (h : Held) (k node : ℕ) (r : Held) : Type 0 where
  pub is : {e : RawEnd} → get_elem? (held_in h) k ≡ some e → held_in r ≡ set (held_in h) k (retyped_raw node e)
  pub count : r.count ≡ h.count
  pub type : node < type_term_limit

-- with one channel more, the youngest
pub record Brings (h : Held) (at side node channel : ℕ) (r : Held) : Type 0 where
  pub is : (s w : List ℕ) → channels_of s w r ≡ channels_of s w h ++ ((name_at s at, end (side_of side) channel (plain_in s w node)) ∷ [])
  pub fits : (s w : List ℕ) → TypeIn s w node → HeldIn s w h → HeldIn s w r

-- the test of a name
abbrev pub is_named : List ℕ → ℕ → RawEnd → Bool
is_named s at e = same (name_at s at) (name_at s e.name)
