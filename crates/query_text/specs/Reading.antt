-- What a query's text means. Its tokens are read one by one. The first that no query goes on with is the fault.
use Rattle.std.specs.Prelude.{ℕ, ◌+◌, Bool, true, false, ◌&&◌, not, List, [], ◌∷◌, ◌++◌, length, pos, Option, Some, None, option_and_then, Result, Ok, Err, if◌then◌else◌, nat_lt, codes, bytes_eq, slice_get}
use Rattle.std.specs.List.{list_any, position_from}
use Rattle.row_model.specs.declared.rows.Value.{Value}
use Rattle.leaf_model.specs.declared.queries.Op.{Op}
use Rattle.leaf_model.specs.declared.queries.Op.TheVariants.{Le, Ge}
use Rattle.leaf_model.specs.declared.queries.Agg.{Agg}
use Rattle.leaf_model.specs.declared.queries.Query.{Query}
use Rattle.query_text.specs.declared.tokens.Token.{Token}
use Rattle.query_text.specs.declared.tokens.Token.TheVariants as token
use Rattle.row_model.specs.declared.query_fault.QueryFault.{QueryFault}
use Rattle.row_model.specs.declared.query_fault.QueryFault.TheVariants.{Syntax, NoTime, TooLarge}
use Rattle.query_text.specs.declared.places.Place.{Place}
use Rattle.query_text.specs.declared.places.Place.TheVariants.{Select, Item, NameEnd, Opening, Inside, Closing, AggEnd, NextAgg, Table, Where, LowTime, LowSign, LowBound, And, HighTime, HighSign, HighBound, CondEnd, CondName, CondOp, CondValue, By, GroupName, GroupEnd, OrderBy, OrderAgg, OrderOpening, OrderInside, OrderClosing, Ordered, LimitNumber, Last}
use Rattle.query_text.specs.declared.places.Move.{Move}
use Rattle.query_text.specs.declared.places.Move.TheVariants.{On, Stuck}
use Rattle.query_text.specs.Tokens.{Placed, tokens_of}
use Rattle.query_text.specs.Roles.{is_word, is_mark, name_of_token, agg_word_of, table_of_token, is_int, op_of, int_of, const_for, is_has, limit_from, agg_inside, same_agg, has_kind, is_orderable}

-- ---- one token more

-- go on if a test holds
abbrev pub on_if : Bool → Query → Place → Move
on_if true q place = On q place
on_if false q place = Stuck

-- go on with what a token gives; if it gives nothing, the other move
abbrev pub goes_with : {A : Type 0} → Option A → (A → Move) → Move → Move
goes_with None f other = other
goes_with (Some x) f other = f x

-- `>=` before the low bound, `<=` before the high one
abbrev pub sign_fits : Bool → Option Op → Bool
sign_fits true (Some Ge) = true
sign_fits false (Some Le) = true
sign_fits low op = false

-- the selected name at that place
abbrev pub is_key : Option (List ℕ) → Option (List ℕ) → Bool
is_key (Some a) (Some b) = bytes_eq a b
is_key a b = false

-- what was read so far is q
module _ (q : Query) where
  -- one selected name more
  abbrev pub with_key : List ℕ → Query
  with_key name = record q { keys = q.keys ++ (name ∷ []) }

  -- one aggregate more
  abbrev pub with_agg : Agg → Query
  with_agg a = record q { aggs = q.aggs ++ (a ∷ []) }

  -- one condition more
  abbrev pub with_cond : List ℕ → Op → Value → Query
  with_cond name op v = record q { conds = q.conds ++ (record { name = name; op = op; value = v } ∷ []) }

  -- ORDER, if there is an aggregate that it takes, or LIMIT
  abbrev pub order_or_limit : Token → Move
  order_or_limit t = if is_word (codes "ORDER") t && list_any is_orderable q.aggs then On q OrderBy else on_if (is_word (codes "LIMIT") t) q LimitNumber

  -- a name is selected
  abbrev pub has_keys : Bool
  has_keys = nat_lt 0 (length q.keys)

  -- what a token does at a place: Stuck if no query goes on with it
  abbrev pub goes_on : Place → Token → Move
  goes_on Select t = on_if (is_word (codes "SELECT") t) q Item
  goes_on Item t = goes_with (agg_word_of t) (λ kind. On q (Opening kind)) (goes_with (name_of_token t) (λ name. On (with_key name) NameEnd) Stuck)
  goes_on NameEnd t = on_if (is_mark token.Comma t) q Item
  goes_on (Opening kind) t = on_if (is_mark token.Open t) q (Inside kind)
  goes_on (Inside kind) t = goes_with (agg_inside kind t) (λ a. On q (Closing a)) Stuck
  goes_on (Closing a) t = on_if (is_mark token.Close t) (with_agg a) AggEnd
  goes_on AggEnd t = if is_mark token.Comma t then On q NextAgg else on_if (is_word (codes "FROM") t) q Table
  goes_on NextAgg t = goes_with (agg_word_of t) (λ kind. On q (Opening kind)) Stuck
  goes_on Table t = goes_with (table_of_token t) (λ name. On (record q { table = name }) Where) Stuck
  goes_on Where t = on_if (is_word (codes "WHERE") t) q LowTime
  goes_on LowTime t = on_if (is_word (codes "time") t) q LowSign
  goes_on LowSign t = on_if (sign_fits true (op_of t)) q LowBound
  goes_on LowBound t = goes_with (int_of t) (λ n. On (record q { from = n }) And) Stuck
  goes_on And t = on_if (is_word (codes "AND") t) q HighTime
  goes_on HighTime t = on_if (is_word (codes "time") t) q HighSign
  goes_on HighSign t = on_if (sign_fits false (op_of t)) q HighBound
  goes_on HighBound t = goes_with (int_of t) (λ n. On (record q { to = n }) CondEnd) Stuck
  goes_on CondEnd t =
      if is_word (codes "AND") t then On q CondName
      else (if has_keys then on_if (is_word (codes "GROUP") t) q By else order_or_limit t)
  goes_on CondName t = goes_with (name_of_token t) (λ name. On q (CondOp name)) Stuck
  goes_on (CondOp name) t = goes_with (op_of t) (λ op. On q (CondValue name op)) Stuck
  goes_on (CondValue name op) t = goes_with (const_for op t) (λ value. On (with_cond name op value) CondEnd) Stuck
  goes_on By t = on_if (is_word (codes "BY") t) q (GroupName 0)
  goes_on (GroupName i) t = on_if (is_key (slice_get q.keys i) (name_of_token t)) q (GroupEnd (i + 1))
  goes_on (GroupEnd i) t = if nat_lt i (length q.keys) then on_if (is_mark token.Comma t) q (GroupName i) else order_or_limit t
  goes_on OrderBy t = on_if (is_word (codes "BY") t) q OrderAgg
  goes_on OrderAgg t = goes_with (agg_word_of t) (λ kind. on_if (list_any (has_kind kind) q.aggs) q (OrderOpening kind)) Stuck
  goes_on (OrderOpening kind) t = on_if (is_mark token.Open t) q (OrderInside kind)
  goes_on (OrderInside kind) t = goes_with (option_and_then (λ a. position_from (same_agg a) 0 q.aggs) (agg_inside kind t)) (λ i. On q (OrderClosing i)) Stuck
  goes_on (OrderClosing i) t = on_if (is_mark token.Close t) (record q { order = Some i }) Ordered
  goes_on Ordered t = on_if (is_word (codes "LIMIT") t) q LimitNumber
  goes_on LimitNumber t = goes_with (limit_from (int_of t)) (λ n. On (record q { limit = n }) Last) Stuck
  goes_on Last t = Stuck

  -- the places where the text may end: after the conditions if no name is selected, after the last name of GROUP BY,
  -- after ORDER BY, and after LIMIT
  abbrev pub may_end : Place → Bool
  may_end CondEnd = not has_keys
  may_end (GroupEnd i) = not (nat_lt i (length q.keys))
  may_end Ordered = true
  may_end Last = true
  may_end place = false

-- ---- faults

-- where an integer may stand
abbrev pub takes_int : Place → Bool
takes_int LowBound = true
takes_int HighBound = true
takes_int (CondValue name op) = not (is_has op)
takes_int LimitNumber = true
takes_int place = false

-- after the table and before the end of the range
abbrev pub is_in_range : Place → Bool
is_in_range Where = true
is_in_range LowTime = true
is_in_range LowSign = true
is_in_range LowBound = true
is_in_range And = true
is_in_range HighTime = true
is_in_range HighSign = true
is_in_range HighBound = true
is_in_range place = false

-- the fault of a token that no query goes on with, whatever its size, and of the text's end
abbrev pub plain_fault : Place → ℕ → QueryFault
plain_fault place at = if is_in_range place then NoTime else Syntax at

-- the fault of a token that no query goes on with: TooLarge if only its size is wrong
abbrev pub fault_of : Place → ℕ → Token → QueryFault
fault_of place at t = if takes_int place && is_int t then TooLarge at else plain_fault place at

-- ---- the whole text

-- what a move leads to, by the reading of what follows
abbrev pub led : Move → (Query → Place → Result Query QueryFault) → QueryFault → Result Query QueryFault
led (On q place) further fault = further q place
led Stuck further fault = Err fault

-- the reading of the tokens that are left, after what was read; `end` is the offset of the text's end
abbrev pub read_from : ℕ → Query → Place → List Placed → Result Query QueryFault
read_from end q place [] = if may_end q place then Ok q else Err (plain_fault place end)
read_from end q place (p ∷ ps) = led (goes_on q place p.token) (λ r next. read_from end r next ps) (fault_of place p.at p.token)

-- before the first token; without LIMIT the limit is 100,000
abbrev pub nothing_read : Query
nothing_read = record { table = []; from = pos 0; to = pos 0; conds = []; keys = []; aggs = []; order = None; limit = 100000 }

-- the query that a text is, or its first fault
abbrev pub query_of : List ℕ → Result Query QueryFault
query_of text = read_from (length text) nothing_read Select (tokens_of text)
