use Rattle.std.proofs.Common.{ap, arith}
use Rattle.std.proofs.lemmas.Nat.{mul-add-lt}
use Rattle.notation.specs.Token.{name_at}
use Rattle.read_tables.specs.Search.{seeking_none, seeking_found, seeking_on, seeking_end}
use Rattle.read_tables.proofs.search.find_named.Goals as goal

pub loop-i-init : goal.loop-i-init
loop-i-init c = seeking_none _ _ _

pub overflow_mul-size : goal.overflow_mul-size
overflow_mul-size c = omega (arith, mul-add-lt c.loop-i.i c.args.size 0 c.args.n (omega arith) (omega arith))

pub returns-then-has_name : goal.returns-then-has_name
returns-then-has_name c = seeking_found _ _ _ c.loop-i.invariant (omega arith) (ap (name_at c.args.text.now) c.word.ensures.value) c.has_name.ensures c.if-has_name.true

pub loop-i-preserved : goal.loop-i-preserved
loop-i-preserved c = seeking_on _ _ _ c.loop-i.invariant (omega arith) (ap (name_at c.args.text.now) c.word.ensures.value) c.has_name.ensures c.if-has_name.false

pub returns : goal.returns
returns c = seeking_end _ _ _ c.loop-i.invariant (omega arith)
