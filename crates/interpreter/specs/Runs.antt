-- A run that holds a configuration of this text, as the test of 18 finds it and as the machine takes it.
use Rattle.std.specs.Prelude.{ℕ, ◌≤◌, List, length}
use Rattle.std.proofs.Common.{sym, subst}
use Rattle.notation.specs.Limits.{run_words}
use Rattle.notation.specs.Tables.{tables}
use Rattle.calculus.specs.Configuration.{Config}
use Rattle.calculus.specs.WellFormed.{WellFormed}
use Rattle.read_tables.specs.Program.{program_in}
use Rattle.read_tables.specs.Whole.{Tables}
use Rattle.read_tables.specs.Everywhere.{Everywhere}
use Rattle.run_words.specs.Raw.{raw_in}
use Rattle.run_alone.specs.Run.{config_in, Fits, RunOf, Becomes}
use Rattle.run_wellformed.specs.OfText.{process_of_lem, of_text_lem}
use Rattle.run_wellformed.specs.OfText as words
use Rattle.run_wellformed.specs.Formed.{Formed}
use Rattle.interpreter.specs.Entries.{Leaves}

-- ── what the numbers of a run stand for
module _ (s w : List ℕ) where
  pub run_of : Everywhere s w → (ws : List ℕ) → Tables s w → run_words ≤ length ws → Formed s w (raw_in ws) → RunOf s w ws
  run_of t ws u l f = words.run_of s w t ws u l f.bounded f.of_text

  pub formed_of : (ws : List ℕ) → RunOf s w ws → WellFormed (program_in s w) (config_in s w ws) → Formed s w (raw_in ws)
  formed_of ws r f = record {
    bounded = r.bounds;
    of_text = of_text_lem s w (Fits s w) (λ p h. process_of_lem s w h.term h.held) (raw_in ws) r.processes r.outside;
    is = f;
  }

-- what the machine leaves of an accepted text is such a run
pub leaves_run : (s : List ℕ) (ws vs : List ℕ) (D : Config) → Becomes s (tables s) ws vs D → WellFormed (program_in s (tables s)) D → Leaves s ws vs D
leaves_run s ws vs D b f = record {
  holds = formed_of s (tables s) vs b.run (subst (WellFormed (program_in s (tables s))) (sym b.is) f);
  is = b.is;
  past = b.past;
  long = b.long;
}
