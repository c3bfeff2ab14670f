-- The bytes that the program must print for a text.
use Rattle.std.specs.Prelude.{ℕ, zero, suc, ◌+◌, ◌-◌, ◌/◌, ◌%◌, List, [], ◌∷◌, ◌++◌, Bool, true, false, ltb}
use Rattle.std.proofs.Math.Option.{Option, some, none}
use Rattle.notation.specs.Bytes.{bytes}
use Rattle.notation.specs.Token.{name_at}
use Rattle.notation.specs.Tree.{Name, Located, plain}
use Rattle.notation.specs.Computed.{read_now}
use Rattle.calculus.specs.Named
use Rattle.trees.specs.Heads as trees
use Rattle.trees.specs.Listed as lists
use Rattle.trees.specs.Asked as asking
use Rattle.trees.proofs.Asked as asked
use Rattle.trees.proofs.Decide as deciding
use Rattle.calculus.specs.SameType
use Rattle.calculus.specs.Types
use Rattle.calculus.specs.Verdict.{faults}
use Rattle.calculus.specs.Declarations
use Rattle.calculus.specs.Mentions
use Rattle.calculus.specs.Checking
use Rattle.calculus.specs.Configuration
use Rattle.calculus.specs.Steps
use Rattle.calculus.specs.Warnings
use Rattle.calculus.specs.Runs
use Rattle.calculus.specs.Program.{Signature, Program, program_of}
use Rattle.calculus.specs.Accepted.{Checked, accepted, faulty, checked}
use Rattle.calculus.specs.Configuration.{Config}
use Rattle.calculus.specs.Warnings.{Warning, warnings}
use Rattle.calculus.specs.Runs.{start_config, line_signature, exec_of, run_on}
use Rattle.calculus.specs.declared.answers.Seen.{Seen}
use Rattle.calculus.specs.declared.answers.Seen.TheVariants.{Nothing, Label, Close, Passed, Cancelled}
use Rattle.calculus.specs.declared.answers.RanOn.{RanOn}
use Rattle.calculus.specs.declared.answers.RanOn.TheVariants.{Uncaught, Shown, Done, Full, Stopped}

-- "10,000 steps taken in this exec"
abbrev pub step_limit : ℕ
step_limit = 10000

-- a number in decimal, of at most n digits
unfoldable pub digits : ℕ → ℕ → List ℕ → List ℕ
digits zero i after = after
digits (suc n) i after =
    elim (ltb i 10) [ true ↦ (48 + i) ∷ after | false ↦ digits n (i / 10) ((48 + i % 10) ∷ after) ]

abbrev pub decimal : ℕ → List ℕ
decimal i = digits 10 i []

abbrev pub line : List ℕ → List ℕ
line l = l ++ (10 ∷ [])

-- #n -> and what came over it
abbrev pub shows : ℕ → List ℕ → List ℕ
shows n what = line (bytes "#" ++ (decimal n ++ (bytes " -> " ++ what)))

-- "A passed channel already given up shows a second line, cancelled."
abbrev pub second_line : ℕ → Bool → List ℕ
second_line m true = shows m (bytes "cancelled")
second_line m false = []

-- `s` is the text: a label is shown by its bytes there, from the apostrophe on
unfoldable pub sighting : List ℕ → Seen → List ℕ
sighting s Nothing = []
sighting s (Label n at) = shows n (bytes "'" ++ name_at s (at + 1))
sighting s (Close n) = shows n (bytes "()")
sighting s (Passed n m gone) = shows n (bytes "#" ++ decimal m) ++ second_line m gone
sighting s (Cancelled n) = shows n (bytes "cancelled")

abbrev pub ending : List ℕ → ℕ → List ℕ
ending word steps = line (word ++ (bytes " after " ++ (decimal steps ++ bytes " steps")))

-- run-on asked again with what is left of the steps, until it shows no more: `taken` steps were taken before
abbrev pub showing : List ℕ → ℕ → RanOn → (ℕ → List ℕ) → List ℕ
showing s taken (Shown seen steps) more = sighting s seen ++ more (taken + steps)
showing s taken (Uncaught steps) more = ending (bytes "uncaught") (taken + steps)
showing s taken (Done steps) more = ending (bytes "done") (taken + steps)
showing s taken (Full steps) more = ending (bytes "full") (taken + steps)
showing s taken (Stopped steps) more = ending (bytes "stopped") (taken + steps)

unfoldable pub run_lines : ℕ → List ℕ → Program → ℕ → Config → List ℕ
run_lines zero s p taken C = []
run_lines (suc n) s p taken C =
    let r = run_on p C (step_limit - taken) in
    showing s taken r.answer (λ t. run_lines n s p t r.config)

abbrev pub exec_lines : List ℕ → Program → Name → Option Signature → List ℕ
exec_lines s p n none = []
exec_lines s p n (some g) = line (bytes "Executing process " ++ (n ++ bytes ":")) ++ run_lines (suc step_limit) s p 0 (start_config g)

-- "for each exec, a header, each sighting on a line .., and `uncaught`, `done`, `stopped` .. or `full`"
abbrev pub all_execs : List ℕ → Program → List Located → List ℕ
all_execs s p [] = []
all_execs s p (n ∷ ns) = exec_lines s p n.name (line_signature p (some n)) ++ all_execs s p ns

-- "`Warning: process P, channel C, missing 'l`"
abbrev pub warning_line : Warning → List ℕ
warning_line w = line (bytes "Warning: process " ++ (w.process.name ++ (bytes ", channel " ++ (w.channel.name ++ (bytes ", missing '" ++ w.label)))))

abbrev pub warning_lines : List Warning → List ℕ
warning_lines [] = []
warning_lines (w ∷ ws) = warning_line w ++ warning_lines ws

abbrev pub printed_of : List ℕ → Checked → List ℕ
printed_of s (accepted ds) = warning_lines (warnings ds) ++ all_execs s (program_of ds) (program_of ds).execs
printed_of s (faulty n at) = line (bytes "refused " ++ (decimal n ++ (bytes " at " ++ decimal at)))

-- to unfold it is to unfold all that it is made of, so that it computes
unfoldable pub printed : List ℕ → List ℕ
unfolding read_now plain Named.lookup Named.without Named.changed Named.kept Named.names Named.distinct trees.labelled asking.one_more asking.meet asked.asked_words asked.asked_pairs asked.asked_choices asked.asked lists.in? lists.without lists.row lists.square deciding.unvisited deciding.then_done deciding.visit_all deciding.visited deciding.parts deciding.look deciding.turn deciding.visit deciding.compared deciding.equal? SameType.parts SameType.declared_parts SameType.same_type Types.passing Types.choosing Types.labelled program_of faults Declarations.repeats Declarations.type_repeats Declarations.process_repeats Declarations.repeated Declarations.type_undefined Declarations.process_undefined Declarations.undefined Declarations.bare_names Declarations.has_other Declarations.reach_other Declarations.outward Declarations.wrong_execs Declarations.declared Mentions.mentions Mentions.half_mentions Mentions.spawn_takes Mentions.spawn_leaves Mentions.try_takes Mentions.never_both Mentions.exactly_one Checking.without_all Checking.list_fits Checking.fitting Checking.check Checking.typed checked Configuration.held_as Configuration.holder_from Configuration.outside_of Configuration.far_end Configuration.channels_held Configuration.fresh_channel Configuration.inserted Configuration.removed Configuration.let_go Configuration.changed_outside Steps.after_message Steps.after_send Steps.after_receive Steps.parting Steps.send Steps.receive Steps.cancelling Steps.spawning Steps.trying Steps.calling Steps.raising Steps.moved_end Steps.forwarding Steps.leaving Steps.folding_up Steps.step_term Steps.step Warnings.left_out Warnings.missing Warnings.warnings Runs.start_config Runs.exec_of Runs.first_from Runs.choose_place Runs.run_from Runs.run_on digits sighting run_lines
printed s = printed_of s (checked s)
