-- What a token may stand for: a keyword, a name, an aggregate's kind, a table, a comparison, a constant.
use Rattle.std.specs.Prelude.{ℕ, Bool, true, false, ◌||◌, List, [], ◌∷◌, length, map, ℤ, pos, Option, Some, None, option_map, if◌then◌else◌, nat_lt, nat_le, codes, bytes_eq}
use Rattle.std.specs.List.{list_any}
use Rattle.row_model.specs.declared.rows.Value.TheVariants as value
use Rattle.leaf_model.specs.declared.queries.Op.{Op}
use Rattle.leaf_model.specs.declared.queries.Op.TheVariants.{Has}
use Rattle.leaf_model.specs.declared.queries.Agg.{Agg}
use Rattle.leaf_model.specs.declared.queries.Agg.TheVariants as agg
use Rattle.row_model.specs.Names.{is_table_name}
use Rattle.query_text.specs.declared.tokens.Token.{Token}
use Rattle.query_text.specs.declared.tokens.Token.TheVariants as token
use Rattle.query_text.specs.declared.places.AggWord.{AggWord}
use Rattle.query_text.specs.declared.places.AggWord.TheVariants.{Count, Sum, Min, Max, Avg}

-- the words that no plain name may be
abbrev pub is_keyword : List ℕ → Bool
is_keyword w = list_any (bytes_eq w) (map codes ("HAS" ∷ "SELECT" ∷ "FROM" ∷ "WHERE" ∷ "AND" ∷ "GROUP" ∷ "BY" ∷ "ORDER" ∷ "LIMIT" ∷ "COUNT" ∷ "SUM" ∷ "MIN" ∷ "MAX" ∷ "AVG" ∷ []))

-- the token is this word, without quotes
abbrev pub is_word : List ℕ → Token → Bool
is_word w (token.Word v) = bytes_eq v w
is_word w other = false

-- a word of at most 255 bytes that is no keyword, or a quoted name
abbrev pub name_of_token : Token → Option (List ℕ)
name_of_token (token.Word w) = if is_keyword w || nat_lt 255 (length w) then None else Some w
name_of_token (token.Name n) = Some n
name_of_token other = None

-- what a word stands for, if a list has it
abbrev pub listed : {A : Type 0} → List (List ℕ × A) → List ℕ → Option A
listed [] word = None
listed (entry ∷ more) word = if bytes_eq word entry.0 then Some entry.1 else listed more word

-- the words of aggregates
abbrev pub agg_word_of : Token → Option AggWord
agg_word_of (token.Word w) = listed ((codes "COUNT", Count) ∷ (codes "SUM", Sum) ∷ (codes "MIN", Min) ∷ (codes "MAX", Max) ∷ (codes "AVG", Avg) ∷ []) w
agg_word_of other = None

-- a word that may be a table's name
abbrev pub table_of_token : Token → Option (List ℕ)
table_of_token (token.Word w) = if is_table_name w then Some w else None
table_of_token other = None

-- the token is this mark: `(`, `)`, `*` or `,`
abbrev pub is_mark : Token → Token → Bool
is_mark token.Open token.Open = true
is_mark token.Close token.Close = true
is_mark token.Star token.Star = true
is_mark token.Comma token.Comma = true
is_mark mark other = false

-- an integer, whatever its size
abbrev pub is_int : Token → Bool
is_int (token.Int n) = true
is_int other = false

-- a comparison
abbrev pub op_of : Token → Option Op
op_of (token.Compare op) = Some op
op_of other = None

-- an integer that is an i64
abbrev pub int_of : Token → Option ℤ
int_of (token.Int n) = n
int_of other = None

-- an integer or a text
abbrev pub const_of : Token → Option value.the_data
const_of (token.Int (Some n)) = Some (value.Int n)
const_of (token.Text t) = Some (value.Text t)
const_of other = None

-- a text
abbrev pub text_of_token : Token → Option value.the_data
text_of_token (token.Text t) = Some (value.Text t)
text_of_token other = None

-- whether an operator is HAS
abbrev pub is_has : Op → Bool
is_has Has = true
is_has op = false

-- the constant of a comparison: HAS takes a text, and every other operator an integer or a text
abbrev pub const_for : Op → Token → Option value.the_data
const_for op t = if is_has op then text_of_token t else const_of t

-- 0 to 100,000
abbrev pub limit_from : Option ℤ → Option ℕ
limit_from (Some (pos n)) = if nat_le n 100000 then Some n else None
limit_from other = None

-- ---- aggregates

-- an aggregate by what stands between its parentheses: COUNT takes `*`, and every other one a name
abbrev pub agg_inside : AggWord → Token → Option Agg
agg_inside Count t = if is_mark token.Star t then Some agg.Count else None
agg_inside Sum t = option_map agg.Sum (name_of_token t)
agg_inside Min t = option_map agg.Min (name_of_token t)
agg_inside Max t = option_map agg.Max (name_of_token t)
agg_inside Avg t = option_map agg.Avg (name_of_token t)

-- two aggregates have the same kind and the same name
abbrev pub same_agg : Agg → Agg → Bool
same_agg agg.Count agg.Count = true
same_agg (agg.Sum a) (agg.Sum b) = bytes_eq a b
same_agg (agg.Min a) (agg.Min b) = bytes_eq a b
same_agg (agg.Max a) (agg.Max b) = bytes_eq a b
same_agg (agg.Avg a) (agg.Avg b) = bytes_eq a b
same_agg a b = false

-- an aggregate has this kind, and ORDER BY takes it: any but AVG
abbrev pub has_kind : AggWord → Agg → Bool
has_kind Count agg.Count = true
has_kind Sum (agg.Sum name) = true
has_kind Min (agg.Min name) = true
has_kind Max (agg.Max name) = true
has_kind kind a = false

-- every aggregate but AVG
abbrev pub is_orderable : Agg → Bool
is_orderable (agg.Avg name) = false
is_orderable a = true
