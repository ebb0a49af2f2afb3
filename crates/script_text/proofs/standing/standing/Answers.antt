use Rattle.std.proofs.Common.{rules}
use Rattle.query_text.specs.Reading.{query_of}
use Rattle.row_model.specs.declared.script_fault.Why.TheVariants as why
use Rattle.script_text.specs.Words.{behind_word, trimmed}
use Rattle.script_text.specs.Commands.{on_line, standing_leaf}
use Rattle.script_text.proofs.Standings.{standing_read}
use Rattle.script_text.proofs.standing.standing.Goals as goal

pub returns-clause-exact : goal.returns-clause-exact
returns-clause-exact c =
    let words = c.args.words.now in
    standing_read c.args.number c.args.fleet.now (standing_leaf c.args.declared words) c.in-Some.leaf c.in_ok-query.query (on_line c.args.number why.Query (query_of (trimmed (behind_word words)))) c.standing_at.result
    c.requires.0.few (search rules) (search rules) c.standing_at.ensures.exact
