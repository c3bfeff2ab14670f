use native.Mathlib.Omega.{arith}
use Prim.Native.Nat.{ℕ, ◌+◌, ◌<◌}
use mathlib.Core.Path.{◌≡◌, refl, sym, ap, ◌∙◌}
use lib.ListN.{get_or}
use Rattle.run_words.specs.Raw.{ends_from, link_of, process_row, held_words}
use Rattle.run_words.specs.Values.{held_in}
use Rattle.run_words.proofs.Slices.{process_of_lem}
use Rattle.run_words.proofs.processes.get.Goals as goal

pub returns-clause-i_value : goal.returns-clause-i_value
unfolding held_in
returns-clause-i_value c =
    let ws = c.args.run.now in
    let w = process_row ws c.args.i in
    let held : (k : ℕ) → k < held_words → w (ends_from + k) ≡ get_or c.copy_out.result k 0 = λ k l. ap (λ m. get_or ws m 0) (omega arith) ∙ sym (c.copy_out.ensures k l) in
    process_of_lem w (w 0) (w 1) c.held_count.result c.copy_out.result refl refl (sym c.held_count.ensures) (omega arith) held
    ∙ λ i. record { kind = sym c.doing-kind.ensures.0 i; pointer = sym c.doing-kind.ensures.1 i; held = held_in (record { count = c.held_count.result; words = c.copy_out.result }); link = link_of (w 1) }
