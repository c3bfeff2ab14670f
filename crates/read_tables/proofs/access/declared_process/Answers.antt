use native.Mathlib.Omega.{arith}
use Prim.Native.Nat.{◌+◌, ◌*◌}
use mathlib.Core.Path.{◌≡◌, ◌∙◌, ap}
use lib.ListN.{get_or}
use Rattle.read_tables.specs.Access.{signature_of_lem}
use Rattle.read_tables.specs.Decode.{process_at, process_entry_of}
use Rattle.read_tables.proofs.access.declared_process.Goals as goal

pub returns : goal.returns
unfolding process_at process_entry_of
returns c =
    let a = c.args in
    let last : 144 + 4 * a.i + 2 + 1 ≡ 144 + 4 * a.i + 3 = omega arith in
    let body = c.two_words-counted.ensures.first_value.1 ∙ ap (λ m. get_or a.scratch.now m 0) last in
    signature_of_lem _ _ _ (λ j. process_entry_of (c.two_words-named.ensures.first_value.0 j) (c.two_words-named.ensures.first_value.1 j) (c.two_words-counted.ensures.first_value.0 j) (body j)) (omega (arith, c.two_words-named.ensures.first_bound.1))
