-- Worked examples, which the definitions compute.
use Rattle.std.specs.Prelude.{◌≡◌, List, [], ◌∷◌, ◌++◌, pos, negsuc, Some, None, codes, refl}
use Rattle.std.specs.Fmt.{digits}
use Rattle.json.specs.Print.{escape_byte}
use Rattle.row_model.specs.declared.rows.Value.TheVariants as value
use Rattle.row_model.specs.declared.rows.Row.{Row}
use Rattle.leaf_model.specs.declared.queries.Agg.TheVariants.{Count, Sum, Min, Max, Avg}
use Rattle.leaf_model.specs.declared.queries.Query.{Query}
use Rattle.leaf_model.specs.declared.groups.Fold.{Fold}
use Rattle.leaf_model.specs.declared.groups.Group.{Group}
use Rattle.leaf_model.specs.declared.groups.Key.TheVariants as key
use Rattle.leaf_model.specs.Groups.{groups}
use Rattle.answer_text.specs.Answer.{answer_lines, key_text}

-- three rows, of which two have a host and two a number
abbrev hosts : List Row
hosts =
    record { time = pos 1; cells = record { name = codes "host"; value = value.Text (codes "a") } ∷ record { name = codes "v"; value = value.Int (pos 2) } ∷ [] } ∷
    record { time = pos 2; cells = record { name = codes "v"; value = value.Int (pos 3) } ∷ [] } ∷
    record { time = pos 3; cells = record { name = codes "host"; value = value.Text (codes "a") } ∷ [] } ∷ []

abbrev by_host : Query
by_host = record {
  table = codes "errors";
  from = pos 0;
  to = pos 9;
  conds = [];
  keys = codes "host" ∷ [];
  aggs = Count ∷ Avg (codes "v") ∷ Max (codes "v") ∷ [];
  order = Some 0;
  limit = 100000;
}

-- by the count, the greatest first
host_lines : answer_lines by_host (groups by_host hosts) ≡ codes "\"a\" 2 2/1 2" ∷ codes "- 1 3/1 3" ∷ []
unfolding digits escape_byte
host_lines = refl

-- the order comes before the cut
cut_at_one : answer_lines (record by_host { limit = 1 }) (groups by_host hosts) ≡ codes "\"a\" 2 2/1 2" ∷ []
unfolding digits escape_byte
cut_at_one = refl

cut_at_none : answer_lines (record by_host { limit = 0 }) (groups by_host hosts) ≡ []
cut_at_none = refl

-- without an order, and by what all have alike, by key
abbrev by_key : Query
by_key = record by_host { aggs = Count ∷ Min (codes "w") ∷ Sum (codes "w") ∷ Avg (codes "w") ∷ []; order = None }

key_lines : answer_lines by_key (groups by_key hosts) ≡ codes "- 1 - 0 0/0" ∷ codes "\"a\" 2 - 0 0/0" ∷ []
unfolding digits escape_byte
key_lines = refl

tied_lines : answer_lines (record by_key { order = Some 2 }) (groups by_key hosts) ≡ codes "- 1 - 0 0/0" ∷ codes "\"a\" 2 - 0 0/0" ∷ []
unfolding digits escape_byte
tied_lines = refl

-- a missing number comes last, and a negative one before it
abbrev all_seen : Fold
all_seen = record { seen = 1; sum = negsuc 6; min = Some (negsuc 6); max = Some (negsuc 6) }

abbrev none_seen : Fold
none_seen = record { seen = 0; sum = pos 0; min = None; max = None }

abbrev two : List Group
two = record { keys = key.Missing ∷ []; count = 1; folds = none_seen ∷ [] } ∷ record { keys = key.Int (pos 5) ∷ []; count = 1; folds = all_seen ∷ [] } ∷ []

missing_last : answer_lines (record by_host { aggs = Max (codes "v") ∷ [] }) two ≡ codes "5 -7" ∷ codes "- -" ∷ []
unfolding digits
missing_last = refl

-- 70,000 times the greatest integer of 64 bits
abbrev large : Fold
large = record { seen = 70000; sum = pos 645636042579834306490000; min = Some (pos 9223372036854775807); max = Some (pos 9223372036854775807) }

large_lines : answer_lines (record by_host { keys = []; aggs = Sum (codes "v") ∷ Avg (codes "v") ∷ []; order = None }) (record { keys = []; count = 70000; folds = large ∷ large ∷ [] } ∷ [])
    ≡ codes "645636042579834306490000 645636042579834306490000/70000" ∷ []
unfolding digits
large_lines = refl

-- a quote, a backslash and the control bytes are escaped, and all else stands as it is
escaped : key_text (key.Text (34 ∷ 92 ∷ 8 ∷ 12 ∷ 10 ∷ 13 ∷ 9 ∷ 1 ∷ 31 ∷ 47 ∷ 127 ∷ [])) ≡ codes "\"\\\"\\\\\\b\\f\\n\\r\\t\\u0001\\u001f/" ++ (127 ∷ 34 ∷ [])
unfolding escape_byte
escaped = refl
