use native.Mathlib.Omega.{arith}
use Rattle.std.specs.Prelude.{None}
use mathlib.Core.Path.{refl, sym, ◌∙◌, ap}
use Rattle.notation.specs.Bytes.{same}
use Rattle.notation.specs.Token.{name_at}
use Rattle.run_words.specs.ListLaws.{scan_end}
use Rattle.run_words.specs.Operations.{first_step}
use Rattle.run_words.specs.Values.{held_in, held_length}
use Rattle.run_words.proofs.Searches.{stops_here, goes_on_lem}
use Rattle.check_contexts.specs.Found.{end_of_words}
use Rattle.check_contexts.specs.Held.{held_by, is_named}
use Rattle.check_contexts.proofs.held.position_in.Goals as goal

pub loop-k-init : goal.loop-k-init
loop-k-init c = refl

pub has_name-requires : goal.has_name-requires
has_name-requires c = c.name_length-bytes.ensures

pub returns-then-has_name : goal.returns-then-has_name
returns-then-has_name c =
    let loop = c.loop-k in
    let a = c.args in
    let named = c.has_name.ensures ∙ ap (λ i. same (name_at a.text.now a.at) (name_at a.text.now i)) c.name_at.ensures in
    sym (loop.invariant ∙ stops_here (is_named a.text.now a.at) _ loop.k (end_of_words a.n a.ends.now loop.k c.loop-k-test.true) (sym named ∙ c.if-has_name.true))

pub loop-k-preserved : goal.loop-k-preserved
loop-k-preserved c =
    let loop = c.loop-k in
    let a = c.args in
    let named = c.has_name.ensures ∙ ap (λ i. same (name_at a.text.now a.at) (name_at a.text.now i)) c.name_at.ensures in
    loop.invariant ∙ goes_on_lem (is_named a.text.now a.at) _ loop.k (end_of_words a.n a.ends.now loop.k c.loop-k-test.true) (sym named ∙ c.if-has_name.false)

pub returns : goal.returns
returns c =
    let a = c.args in
    sym (c.loop-k.invariant ∙ scan_end (first_step (is_named a.text.now a.at)) None (held_in (held_by a.n a.ends.now)) c.loop-k.k (omega (arith, held_length (held_by a.n a.ends.now))))
