-- The configuration that a run's numbers stand for.
use Rattle.std.specs.Prelude.{ℕ, zero, suc, map, Bool, true, false}
use Rattle.notation.specs.Tree.{Name, Ty, Proc}
use Rattle.calculus.specs.Configuration.{End, end, Doing, running, folding, waiting, Process, process, Outside, Config}
use Rattle.run_words.specs.Raw.{RawEnd, RawProcess, RawOutside, RawConfig}

-- whether a run has halted, by its word
abbrev pub is_halted : ℕ → Bool
is_halted zero = false
is_halted (suc n) = true

-- over the name at an offset of the text, the type of a node and the term of a pointer
module _ (name_of : ℕ → Name) (type_of : ℕ → Ty Name) (term_of : ℕ → Proc) where
  abbrev pub decoded_doing : ℕ → ℕ → Doing
  decoded_doing zero pointer = running (term_of pointer)
  decoded_doing (suc zero) pointer = folding
  decoded_doing (suc (suc kind)) pointer = waiting (term_of pointer)

  abbrev pub decoded_end : RawEnd → Name × End
  decoded_end e = (name_of e.name, end e.side e.channel (type_of e.node))

  abbrev pub decoded_process : RawProcess → Process
  decoded_process p = process (decoded_doing p.kind p.pointer) (map decoded_end p.held) p.link

  abbrev pub decoded_outside : RawOutside → Outside
  decoded_outside o = record { number = o.number; channel = o.channel; type = type_of o.node }

  abbrev pub decoded : RawConfig → Config
  decoded C = record { processes = map decoded_process C.processes; outside = map decoded_outside C.outside; given = C.given; halted = is_halted C.halted }
