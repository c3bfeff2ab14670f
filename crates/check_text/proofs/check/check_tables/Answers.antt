use Rattle.check_text.specs.Texts.{tables_there, part_fine, part_faulty}
use Rattle.check_text.proofs.check.check_tables.Goals as goal

pub script_verdict-requires : goal.script_verdict-requires
script_verdict-requires c = tables_there c.args.text.now c.args.part.now c.requires

pub returns-in-Ok : goal.returns-in-Ok
returns-in-Ok c = part_fine c.args.text.now c.args.part.now c.requires _ c.script_verdict.ensures c.in-Ok.is

pub returns-in-Err : goal.returns-in-Err
returns-in-Err c = part_faulty c.args.text.now c.args.part.now c.requires _ c.script_verdict.ensures c.in-Err.is _ c.zero.ensures
