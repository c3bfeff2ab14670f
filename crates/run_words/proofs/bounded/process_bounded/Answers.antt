use Rattle.run_words.specs.Raw.{process_row}
use native.Mathlib.Omega.{arith}
use Rattle.run_words.proofs.Decisions.{refused, many_words, process_decided}
use Rattle.run_words.proofs.bounded.process_bounded.Goals as goal

pub returns-then-held_count-gt-HELD : goal.returns-then-held_count-gt-HELD
returns-then-held_count-gt-HELD c = refused (λ b. omega (arith, many_words c.args.n (process_row c.args.run.now c.args.i) b))

pub returns-then-p-n : goal.returns-then-p-n
returns-then-p-n c =
    process_decided c.args.n (process_row c.args.run.now c.args.i) c.get-p.result c.get-p.ensures.i_value (omega arith)
    (omega arith) c.get-p.ensures.count_le_held_limit (omega arith) c.ends_bounded.ensures
