use native.Mathlib.Omega.{arith}
use Rattle.std.specs.Prelude.{None}
use mathlib.Core.Path.{refl, sym, ◌∙◌, ap}
use Rattle.notation.specs.Bytes.{same}
use Rattle.notation.specs.Token.{name_at}
use Rattle.run_words.specs.ListLaws.{scan_end}
use Rattle.run_words.specs.Operations.{first_step}
use Rattle.run_words.proofs.Searches.{held_there, length_there, stops_here, goes_on_lem}
use Rattle.check_contexts.specs.Held.{is_named}
use Rattle.run_messages.specs.Waiting.{seen_there, seen_nothing}
use Rattle.run_messages.proofs.waiting.end_named.Goals as goal

pub loop-k-init : goal.loop-k-init
loop-k-init c = (c.held_count-n.ensures, c.name_length-m.ensures, refl)

pub held_end-e-requires-clause-run_words_in_bounds : goal.held_end-e-requires-clause-run_words_in_bounds
held_end-e-requires-clause-run_words_in_bounds c = (c.requires.run_words_in_bounds.0, c.requires.run_words_in_bounds.1, omega arith)

pub held_end-e-requires-clause-k_bound : goal.held_end-e-requires-clause-k_bound
held_end-e-requires-clause-k_bound c = omega arith

pub has_name-requires : goal.has_name-requires
has_name-requires c = c.loop-k.invariant.1

pub returns-then-has_name : goal.returns-then-has_name
returns-then-has_name c =
    let text = c.args.text.now in
    seen_there text c.args.run.now c.args.i c.args.at c.requires.i_bound c.loop-k.k c.held_end-e.result
    (c.loop-k.invariant.2 ∙ stops_here (is_named text c.args.at) _ c.loop-k.k c.held_end-e.ensures.k_value
    (ap (λ n. same (name_at text c.args.at) (name_at text n)) (sym c.wide-there.ensures.value) ∙ sym c.has_name.ensures ∙ c.if-has_name.true)) c.held_end-e.ensures.k_value c.held_end-e.ensures.side_lt_side_radix.0

pub loop-k-preserved : goal.loop-k-preserved
loop-k-preserved c =
    let text = c.args.text.now in (
      c.loop-k.invariant.0,
      c.loop-k.invariant.1,
      c.loop-k.invariant.2 ∙ goes_on_lem (is_named text c.args.at) _ c.loop-k.k c.held_end-e.ensures.k_value
          (ap (λ n. same (name_at text c.args.at) (name_at text n)) (sym c.wide-there.ensures.value) ∙ sym c.has_name.ensures ∙ c.if-has_name.false),
    )

pub returns : goal.returns
returns c =
    seen_nothing c.args.text.now c.args.run.now c.args.i c.args.at c.requires.i_bound
    (c.loop-k.invariant.2 ∙ scan_end (first_step (is_named c.args.text.now c.args.at)) None (held_there c.args.run.now c.args.i) c.loop-k.k (omega (arith, length_there c.args.run.now c.args.i)))
