use Rattle.query_text.proofs.Meaning.{texts_spell}
use Rattle.query_text.proofs.Refused.{refused}
use Rattle.query_text.proofs.laws.grammar_meaning.Goals as goal

pub returns : goal.returns
returns c = record { spelled = texts_spell; refused = refused }
