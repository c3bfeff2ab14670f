-- "The limits belong to the notation itself": each once here, as in the associated constants of Script.
use Rattle.std.specs.Prelude.{ℕ}

-- bytes of a text, bytes of a name
abbrev pub text_limit : ℕ
text_limit = 8192

abbrev pub name_limit : ℕ
name_limit = 32

-- declarations
abbrev pub type_limit : ℕ
type_limit = 64

abbrev pub process_limit : ℕ
process_limit = 64

abbrev pub exec_limit : ℕ
exec_limit = 16

-- terms of types and of processes
abbrev pub type_term_limit : ℕ
type_term_limit = 512

abbrev pub process_term_limit : ℕ
process_term_limit = 1024

-- open brackets of all kinds, labels of a choice or branch list, channels held
abbrev pub bracket_limit : ℕ
bracket_limit = 24

abbrev pub label_limit : ℕ
label_limit = 16

abbrev pub held_limit : ℕ
held_limit = 16

-- a run's process places, channel places and outside numbers
abbrev pub process_places : ℕ
process_places = 128

abbrev pub channel_places : ℕ
channel_places = 512

abbrev pub outside_numbers : ℕ
outside_numbers = 32

-- words of scratch and of a run that the caller lends at least
abbrev pub scratch_words : ℕ
scratch_words = 6144

abbrev pub run_words : ℕ
run_words = 6144
