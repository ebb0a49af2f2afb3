-- What one token does to the reading of what is left.
use Rattle.std.proofs.Common.{◌≡◌, ℕ, List, ◌∷◌, sym, ap}
use Rattle.leaf_model.specs.declared.queries.Query.{Query}
use Rattle.query_text.specs.declared.tokens.Token.{Token}
use Rattle.query_text.specs.declared.places.Place.{Place}
use Rattle.query_text.specs.declared.places.Move.TheVariants.{On}
use Rattle.query_text.specs.Tokens.{Placed}
use Rattle.query_text.specs.Reading.{read_from, goes_on, led, fault_of}

pub goes_further : (end at : ℕ) (q r : Query) (place next : Place) (t : Token) (ps : List Placed) → On r next ≡ goes_on q place t
    → read_from end q place (record { at = at; token = t } ∷ ps) ≡ read_from end r next ps
goes_further end at q r place next t ps h = ap (λ m. led m (λ r next. read_from end r next ps) (fault_of place at t)) (sym h)
