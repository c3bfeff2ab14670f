use Prim.Native.Nat.{◌+◌, ◌-◌}
use native.Mathlib.Omega.{arith}
use Rattle.check_declarations.specs.Names.{compared, seek_start, seek_end, seek_found, seek_on, fits_less}
use Rattle.check_declarations.proofs.names.seen_before.Goals as goal

pub loop-k-init : goal.loop-k-init
loop-k-init c = seek_start

pub name_at-b-requires : goal.name_at-b-requires
name_at-b-requires c =
    let loop = c.loop-k in
    (c.requires.0, fits_less c.args.names (loop.k - 1 + 1) (c.args.j + 1) (omega (arith, loop.invariant.upto)) c.requires.1)

pub returns-then-names_equal : goal.returns-then-names_equal
returns-then-names_equal c =
    let same = compared _ c.name_at-a.ensures c.name_at-b.ensures c.names_equal.ensures in
    seek_found c.loop-k.invariant (omega arith) same c.if-names_equal.true

pub loop-k-preserved : goal.loop-k-preserved
loop-k-preserved c =
    let same = compared _ c.name_at-a.ensures c.name_at-b.ensures c.names_equal.ensures in
    seek_on c.loop-k.invariant (omega arith) same c.if-names_equal.false

pub returns : goal.returns
returns c = seek_end c.loop-k.invariant (omega arith)
