-- What the limits of the notation count in the terminals of a script, one after the other.
use Rattle.std.specs.Prelude.{ℕ, suc, ◌<◌, ◌-◌, List, [], ◌∷◌}
use Rattle.notation.specs.Limits.{type_limit, process_limit, exec_limit, type_term_limit, process_term_limit, bracket_limit, label_limit}
use Rattle.grammar.specs.Terminals.{Terminal, declares_type, declares_proc, declares_exec, type_mark, type_name, term_word, brought, opens, closes, listed, sent, name, mark}

pub record Counts : Type 0 where
  pub types : ℕ
  pub processes : ℕ
  pub execs : ℕ
  pub type_terms : ℕ
  pub process_terms : ℕ
  pub brackets : ℕ

abbrev pub counts : ℕ → ℕ → ℕ → ℕ → ℕ → ℕ → Counts
counts t p e a b o = record { types = t; processes = p; execs = e; type_terms = a; process_terms = b; brackets = o }

-- before the first token
abbrev pub nothing : Counts
nothing = counts 0 0 0 0 0 0

-- .. and with a terminal more. "A type term is a `1`, a name, an infix mark, a `+` or a `&` in a type; a process term counts at its first token, an empty process not at all."
abbrev pub counted : Counts → Terminal → Counts
counted k (declares_type a) = counts (suc k.types) k.processes k.execs k.type_terms k.process_terms k.brackets
counted k (declares_proc a) = counts k.types (suc k.processes) k.execs k.type_terms k.process_terms k.brackets
counted k (declares_exec a) = counts k.types k.processes (suc k.execs) k.type_terms k.process_terms k.brackets
counted k (type_mark j a) = counts k.types k.processes k.execs (suc k.type_terms) k.process_terms k.brackets
counted k (type_name n) = counts k.types k.processes k.execs (suc k.type_terms) k.process_terms k.brackets
counted k (term_word j a) = counts k.types k.processes k.execs k.type_terms (suc k.process_terms) k.brackets
counted k (brought n) = counts k.types k.processes k.execs k.type_terms (suc k.process_terms) k.brackets
counted k (opens j a) = counts k.types k.processes k.execs k.type_terms k.process_terms (suc k.brackets)
counted k (closes j a) = counts k.types k.processes k.execs k.type_terms k.process_terms (k.brackets - 1)
counted k (listed before l) = k
counted k (sent l) = k
counted k (name n) = k
counted k (mark j a) = k

-- after the counts k, the terminal x passes no limit: what it raises was below it
abbrev pub Fits : Counts → Terminal → Type 0
Fits k (declares_type a) = k.types < type_limit
Fits k (declares_proc a) = k.processes < process_limit
Fits k (declares_exec a) = k.execs < exec_limit
Fits k (type_mark j a) = k.type_terms < type_term_limit
Fits k (type_name n) = k.type_terms < type_term_limit
Fits k (term_word j a) = k.process_terms < process_term_limit
Fits k (brought n) = k.process_terms < process_term_limit
Fits k (opens j a) = k.brackets < bracket_limit
Fits k (closes j a) = Unit {0}
Fits k (listed before l) = before < label_limit
Fits k (sent l) = Unit {0}
Fits k (name n) = Unit {0}
Fits k (mark j a) = Unit {0}

-- `Within k p m`: after the counts k none of the terminals p passes a limit, and they leave the counts m
pub data Within : Counts → List Terminal → Counts → Type 0 where
  none : {k : Counts} → Within k [] k
  more : {k m : Counts} {x : Terminal} {p : List Terminal} → Fits k x → Within (counted k x) p m → Within k (x ∷ p) m
