use Rattle.std.proofs.Common.{ap, sym, ◌∙◌}
use Rattle.std.specs.Option.{is_some}
use Rattle.script_text.proofs.Places.{new_name}
use Rattle.script_text.proofs.fleet.is_new.Goals as goal

pub returns : goal.returns
returns c = new_name c.args.tables.now c.args.word.now c.is_none.result (ap is_some (sym c.place_of.ensures) ∙ c.is_none.ensures)
