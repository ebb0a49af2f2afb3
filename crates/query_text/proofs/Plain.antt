-- The reading of tokens without their places.
use Rattle.std.proofs.Common.{◌≡◌, ℕ, Bool, true, false, List, [], ◌∷◌, Result, Ok, Err, Option, Some, None, if◌then◌else◌, refl, ap, pos, ℤ}
use Rattle.leaf_model.specs.declared.queries.Cond.{Cond}
use Rattle.leaf_model.specs.declared.queries.Agg.{Agg}
use Rattle.leaf_model.specs.declared.queries.Query.{Query}
use Rattle.row_model.specs.declared.query_fault.QueryFault.{QueryFault}
use Rattle.query_text.specs.declared.tokens.Token.{Token}
use Rattle.query_text.specs.declared.places.Place.{Place}
use Rattle.query_text.specs.declared.places.Move.{Move}
use Rattle.query_text.specs.declared.places.Move.TheVariants.{On, Stuck}
use Rattle.query_text.specs.Tokens.{Placed}
use Rattle.query_text.specs.Reading.{read_from, goes_on, led, fault_of, plain_fault, may_end}
use Rattle.query_text.specs.Grammar.{plain_tokens}

abbrev pub moved : Move → (Query → Place → Option Query) → Option Query
moved (On q place) further = further q place
moved Stuck further = None

-- the query that tokens lead to
abbrev pub reads : Query → Place → List Token → Option Query
reads q place [] = if may_end q place then Some q else None
reads q place (t ∷ ts) = moved (goes_on q place t) (λ r next. reads r next ts)

abbrev pub read_ok : Result Query QueryFault → Option Query
read_ok (Ok q) = Some q
read_ok (Err fault) = None

end_same : (b : Bool) (q : Query) (fault : QueryFault) → read_ok (if b then Ok q else Err fault) ≡ (if b then Some q else None)
end_same true q fault = refl
end_same false q fault = refl

move_same : (m : Move) (f : Query → Place → Result Query QueryFault) (g : Query → Place → Option Query) (fault : QueryFault)
    → ((r : Query) (next : Place) → read_ok (f r next) ≡ g r next) → read_ok (led m f fault) ≡ moved m g
move_same (On r next) f g fault h = h r next
move_same Stuck f g fault h = refl

pub same_reading : (end : ℕ) (ps : List Placed) (q : Query) (place : Place) → read_ok (read_from end q place ps) ≡ reads q place (plain_tokens ps)
same_reading end [] q place = end_same (may_end q place) q (plain_fault place end)
same_reading end (p ∷ ps) q place = move_same (goes_on q place p.token) (λ r next. read_from end r next ps) (λ r next. reads r next (plain_tokens ps)) (fault_of place p.at p.token) (λ r next. same_reading end ps r next)

pub read_since : (r : Result Query QueryFault) (q : Query) → read_ok r ≡ Some q → r ≡ Ok q
read_since (Ok p) q h = ap (λ o. or_query o p) h
  where
    or_query : Option Query → Query → Result Query QueryFault
    or_query (Some q) p = Ok q
    or_query None p = Ok p
read_since (Err fault) q h = cc

-- what was read, part by part
abbrev pub made : List ℕ → ℤ → ℤ → List Cond → List (List ℕ) → List Agg → Option ℕ → ℕ → Query
made table from to conds keys aggs order limit = record { table = table; from = from; to = to; conds = conds; keys = keys; aggs = aggs; order = order; limit = limit }

-- names and aggregates alone
abbrev pub selected : List (List ℕ) → List Agg → Query
selected keys aggs = made [] (pos 0) (pos 0) [] keys aggs None 100000
