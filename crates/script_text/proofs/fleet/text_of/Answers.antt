use Rattle.script_text.proofs.Names.{name_utf8}
use Rattle.script_text.proofs.fleet.text_of.Goals as goal

pub unreachable-requires : goal.unreachable-requires
unreachable-requires c = c.in-Err.ensures.cases.0 (name_utf8 c.args.name.now c.requires)
