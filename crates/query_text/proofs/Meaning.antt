-- A text is read as a query exactly where its tokens spell the query.
use Rattle.std.proofs.Common.{◌≡◌, ℕ, List, length, Result, Ok, Err, sym, ap, ◌∙◌}
use Rattle.std.specs.Prelude.{◌↔◌, IfOk}
use Rattle.leaf_model.specs.declared.queries.Query.{Query}
use Rattle.row_model.specs.declared.query_fault.QueryFault.{QueryFault}
use Rattle.query_text.specs.declared.places.Place.TheVariants.{Select}
use Rattle.query_text.specs.Tokens.{tokens_of}
use Rattle.query_text.specs.Reading.{query_of, nothing_read}
use Rattle.query_text.specs.Grammar.{IsQuery, IsSpelled, plain_tokens}
use Rattle.query_text.proofs.Plain.{read_ok, same_reading, read_since}
use Rattle.query_text.proofs.Found.{found}
use Rattle.query_text.proofs.Only.{only}

pub read_spelled : (text : List ℕ) (q : Query) → query_of text ≡ Ok q → IsSpelled q (plain_tokens (tokens_of text))
read_spelled text q h = only q (plain_tokens (tokens_of text)) (sym (same_reading (length text) (tokens_of text) nothing_read Select) ∙ ap read_ok h)

pub spelled_read : (text : List ℕ) (q : Query) → IsSpelled q (plain_tokens (tokens_of text)) → query_of text ≡ Ok q
spelled_read text q h = read_since (query_of text) q (same_reading (length text) (tokens_of text) nothing_read Select ∙ found q (plain_tokens (tokens_of text)) h)

pub texts_spell : (text : List ℕ) (q : Query) → (query_of text ≡ Ok q) ↔ IsSpelled q (plain_tokens (tokens_of text))
texts_spell text q = (read_spelled text q, spelled_read text q)

-- what is read is a query
pub read_query : (text : List ℕ) (r : Result Query QueryFault) → r ≡ query_of text → IfOk r IsQuery
read_query text (Ok q) h = (read_spelled text q (sym h)).query
read_query text (Err fault) h = tt
