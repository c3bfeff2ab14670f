-- The tables lie in zeroed scratch, by `layout`.
use Rattle.std.proofs.Common.{arith}
use Rattle.notation.specs.Tables.{zeros, Area}
use Rattle.notation.specs.Layout.{layout, zeros_length}

pub zeros_area : Area zeros
zeros_area = omega (arith, layout.fits, zeros_length)
