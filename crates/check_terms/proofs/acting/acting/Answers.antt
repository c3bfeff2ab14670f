use native.Mathlib.Omega.{arith}
use Rattle.read_tables.specs.Access.{node_there}
use Rattle.check_terms.specs.Acting.{typed_as, acts_nothing, acts_found}
use Rattle.check_terms.proofs.acting.acting.Goals as goal

pub find_end-requires : goal.find_end-requires
find_end-requires c = c.requires.1.many

pub returns-in_err-e : goal.returns-in_err-e
returns-in_err-e c = rw c.from_residual.ensures (acts_nothing c.in_err-e.ensures)

pub standing-node-requires : goal.standing-node-requires
standing-node-requires c = (
  c.requires.0,
  typed_as c.args.text.now c.args.scratch.now c.in_ok-e.e _ c.wide.ensures.value (c.in_ok-e.ensures.fits c.args.scratch.now c.requires.1).0,
)

pub narrow-requires : goal.narrow-requires
narrow-requires c = omega (arith, node_there _ _ c.requires.0 _ c.standing-node.ensures.type)

pub returns : goal.returns
returns c =
    acts_found c.in_ok-e.e _ _ c.in_ok-e.ensures c.requires.1 c.wide.ensures.value c.standing-node.ensures
    (node_there _ _ c.requires.0 _ c.standing-node.ensures.type) c.narrow.ensures
