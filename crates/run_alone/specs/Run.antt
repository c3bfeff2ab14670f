-- The run slice as a configuration of a text: s is the text, w its tables, ws the slice.
use Rattle.std.specs.Prelude.{ℕ, ◌≤◌, ◌<◌, ◌≡◌, List, length, drop}
use Rattle.std.proofs.Math.Option.{some}
use Rattle.notation.specs.Limits.{run_words}
use Rattle.notation.specs.Token.{name_at}
use Rattle.calculus.specs.Configuration.{Doing, Process, holding, Config, halt, at}
use Rattle.calculus.specs.Steps as calculus
use Rattle.read_tables.specs.Decode.{process_in}
use Rattle.read_tables.specs.Program.{plain_in}
use Rattle.read_tables.specs.Roots.{TypeIn, ProcessIn}
use Rattle.read_tables.specs.Whole.{Tables}
use Rattle.run_words.specs.Lists.{All}
use Rattle.run_words.specs.Raw.{RawProcess, RawOutside, link_of, links_below, raw_in, Bounded, pointer_limit, folding_kind}
use Rattle.run_words.specs.Decode.{decoded_doing, decoded_process, decoded}
use Rattle.run_words.specs.Values as values
use Rattle.run_words.specs.declared.records.Process.{Process as ProcessWords}
use Rattle.check_contexts.specs.Held.{channels_of, EndIn, HeldIn}
use Rattle.run_alone.specs.declared.outcome.Outcome.{Outcome}
use Rattle.run_alone.specs.declared.outcome.Outcome.TheVariants.{Carried, Uncaught, NotOpen, Lacking}

abbrev pub config_in : List ℕ → List ℕ → List ℕ → Config
config_in s w ws = decoded (name_at s) (plain_in s w) (process_in s w) (raw_in ws)

abbrev pub doing_as : List ℕ → List ℕ → ℕ → ℕ → Doing
doing_as s w = decoded_doing (name_at s) (plain_in s w) (process_in s w)

-- a process by value
abbrev pub process_as : List ℕ → List ℕ → ProcessWords → Process
process_as s w p = holding (channels_of s w p.held) (decoded_process (name_at s) (plain_in s w) (process_in s w) (values.process_in p))

-- a process whose numbers are those of the text and its tables; one that folds up has no term
pub record Fits (s w : List ℕ) (p : RawProcess) : Type 0 where
  pub term : (p.kind ≡ folding_kind → ⊥) → ProcessIn s w p.pointer
  pub held : All (EndIn s w) p.held

-- ws is a run of the text s with the tables w
pub record RunOf (s w ws : List ℕ) : Type 0 where
  pub tables : Tables s w
  pub wide : run_words ≤ length ws
  pub bounds : Bounded (raw_in ws)
  pub processes : All (Fits s w) (raw_in ws).processes
  pub outside : All (λ (o : RawOutside). TypeIn s w o.node) (raw_in ws).outside

-- a process by value that may stand in a run of so many
pub record ProcessOf (s w : List ℕ) (places : ℕ) (p : ProcessWords) : Type 0 where
  pub kind : p.kind < 3
  pub pointer : p.pointer < pointer_limit
  pub link : links_below places (link_of p.link)
  pub term : (p.kind ≡ folding_kind → ⊥) → ProcessIn s w p.pointer
  pub held : HeldIn s w p.held

-- the process p stands at a place
pub record StandsAt (s w ws : List ℕ) (place : ℕ) (p : ProcessWords) : Type 0 where
  pub there : at (config_in s w ws) place ≡ some (process_as s w p)
  pub below : place < length (raw_in ws).processes
  pub is : ProcessOf s w (length (raw_in ws).processes) p

-- the configuration is now D; what lies past it stays
pub record Becomes (s w old new : List ℕ) (D : Config) : Type 0 where
  pub is : config_in s w new ≡ D
  pub run : RunOf s w new
  pub past : drop run_words new ≡ drop run_words old
  pub long : length new ≡ length old

-- what a rule promises, by what the calculus' own step comes to
abbrev pub CarriesBy : List ℕ → List ℕ → List ℕ → List ℕ → Outcome → calculus.Outcome → Type 0
CarriesBy s w old new r (calculus.carried seen D) = (r ≡ Carried seen) × Becomes s w old new D
CarriesBy s w old new r calculus.uncaught = (r ≡ Uncaught) × Becomes s w old new (halt (config_in s w old))
CarriesBy s w old new r calculus.not_open = (r ≡ NotOpen) × (new ≡ old)
CarriesBy s w old new r calculus.lacking = (r ≡ Lacking) × (new ≡ old)

pub record Carries (s w old new : List ℕ) (r : Outcome) (o : calculus.Outcome) : Type 0 where
  pub is : CarriesBy s w old new r o
