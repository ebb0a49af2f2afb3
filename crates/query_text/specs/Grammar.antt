-- The grammar: the tokens that spell a query, part by part. Each part is given with what follows it.
use Rattle.std.specs.Prelude.{if◌then◌else◌, nat_lt, ◌&&◌, ◌≡◌, ◌≤◌, ◌<◌, ℕ, Bool, true, false, List, [], ◌∷◌, ◌++◌, length, map, ℤ, pos, Option, Some, None, codes, slice_get}
use Rattle.std.specs.List.{position_from}
use Rattle.row_model.specs.declared.rows.Value.{Value}
use Rattle.row_model.specs.declared.rows.Value.TheVariants as value
use Rattle.leaf_model.specs.declared.queries.Op.{Op}
use Rattle.leaf_model.specs.declared.queries.Op.TheVariants.{Le, Ge}
use Rattle.leaf_model.specs.declared.queries.Cond.{Cond}
use Rattle.leaf_model.specs.declared.queries.Agg.{Agg}
use Rattle.leaf_model.specs.declared.queries.Agg.TheVariants.{Count, Sum, Min, Max, Avg}
use Rattle.leaf_model.specs.declared.queries.Query.{Query}
use Rattle.query_text.specs.declared.tokens.Token.{Token}
use Rattle.query_text.specs.declared.tokens.Token.TheVariants as token
use Rattle.row_model.specs.declared.query_fault.QueryFault.{QueryFault}
use Rattle.row_model.specs.declared.query_fault.QueryFault.TheVariants.{Syntax, NoTime, TooLarge, NoMemory}
use Rattle.query_text.specs.Tokens.{Placed, tokens_of}
use Rattle.row_model.specs.Names.{is_table_name}
use Rattle.query_text.specs.Roles.{name_of_token, is_has, is_word, is_int, is_orderable, same_agg}
use Rattle.query_text.specs.Printing.{ordering_agg}

-- ---- what is written at one place

-- a sign stands for one token, for any token that gives a name, plain or quoted, or for no token
pub data Sign : Type 0 where
  Exactly : (token : Token) → Sign
  TheName : (name : List ℕ) → Sign
  Never : Sign

-- a token is one that the sign stands for
abbrev pub Says : Sign → Token → Type 0
Says (Exactly u) t = t ≡ u
Says (TheName name) t = name_of_token t ≡ Some name
Says Never t = ⊥

-- the tokens are those that the signs stand for, one for each
abbrev pub Spells : List Sign → List Token → Type 0
Spells [] [] = Unit {0}
Spells [] (t ∷ ts) = ⊥
Spells (s ∷ signs) [] = ⊥
Spells (s ∷ signs) (t ∷ ts) = Says s t × Spells signs ts

-- a word that is not quoted
abbrev pub keyword : List ℕ → Sign
keyword word = Exactly (token.Word word)

-- an integer
abbrev pub int : ℤ → Sign
int n = Exactly (token.Int (Some n))

-- ---- the parts

-- a word, and a name in parentheses
abbrev pub call : List ℕ → List ℕ → List Sign → List Sign
call word name further = keyword word ∷ Exactly token.Open ∷ TheName name ∷ Exactly token.Close ∷ further

-- COUNT ( * ), or another aggregate's word with a name
abbrev pub agg_signs : Agg → List Sign → List Sign
agg_signs Count further = keyword (codes "COUNT") ∷ Exactly token.Open ∷ Exactly token.Star ∷ Exactly token.Close ∷ further
agg_signs (Sum name) further = call (codes "SUM") name further
agg_signs (Min name) further = call (codes "MIN") name further
agg_signs (Max name) further = call (codes "MAX") name further
agg_signs (Avg name) further = call (codes "AVG") name further

-- the selected names, each with a comma
abbrev pub names_signs : List (List ℕ) → List Sign → List Sign
names_signs [] further = further
names_signs (name ∷ names) further = TheName name ∷ Exactly token.Comma ∷ names_signs names further

-- more aggregates, each after a comma
abbrev pub more_aggs_signs : List Agg → List Sign → List Sign
more_aggs_signs [] further = further
more_aggs_signs (a ∷ aggs) further = Exactly token.Comma ∷ agg_signs a (more_aggs_signs aggs further)

-- the aggregates, with a comma between each two
abbrev pub aggs_signs : List Agg → List Sign → List Sign
aggs_signs [] further = further
aggs_signs (a ∷ aggs) further = agg_signs a (more_aggs_signs aggs further)

-- the table and the range of times
abbrev pub range_signs : List ℕ → ℤ → ℤ → List Sign → List Sign
range_signs table from to further =
    keyword (codes "FROM") ∷ keyword table
    ∷ keyword (codes "WHERE") ∷ keyword (codes "time") ∷ Exactly (token.Compare Ge) ∷ int from
    ∷ keyword (codes "AND") ∷ keyword (codes "time") ∷ Exactly (token.Compare Le) ∷ int to ∷ further

-- a text
abbrev pub text_sign : Value → Sign
text_sign (value.Text t) = Exactly (token.Text t)
text_sign v = Never

-- an integer or a text
abbrev pub const_sign : Value → Sign
const_sign (value.Int n) = int n
const_sign (value.Text t) = Exactly (token.Text t)
const_sign (value.Set members) = Never

-- what a comparison is with
abbrev pub asked_sign : Op → Value → Sign
asked_sign op v = if is_has op then text_sign v else const_sign v

-- AND, a name, a comparison and a constant, for each condition
abbrev pub conds_signs : List Cond → List Sign → List Sign
conds_signs [] further = further
conds_signs (c ∷ conds) further = keyword (codes "AND") ∷ TheName c.name ∷ Exactly (token.Compare c.op) ∷ asked_sign c.op c.value ∷ conds_signs conds further

-- more names, each after a comma
abbrev pub more_names_signs : List (List ℕ) → List Sign → List Sign
more_names_signs [] further = further
more_names_signs (name ∷ names) further = Exactly token.Comma ∷ TheName name ∷ more_names_signs names further

-- GROUP BY and the selected names in the same order, if there are any
abbrev pub group_signs : List (List ℕ) → List Sign → List Sign
group_signs [] further = further
group_signs (name ∷ names) further = keyword (codes "GROUP") ∷ keyword (codes "BY") ∷ TheName name ∷ more_names_signs names further

-- ORDER BY and an aggregate, if the answer has an order
abbrev pub order_signs : Option Agg → List Sign → List Sign
order_signs None further = further
order_signs (Some a) further = keyword (codes "ORDER") ∷ keyword (codes "BY") ∷ agg_signs a further

-- LIMIT and an integer, if it is written
abbrev pub limit_signs : Bool → ℕ → List Sign
limit_signs false n = []
limit_signs true n = keyword (codes "LIMIT") ∷ int (pos n) ∷ []

-- a query, with LIMIT or without
abbrev pub query_signs : Bool → Query → List Sign
query_signs is_limited q =
    keyword (codes "SELECT") ∷ names_signs q.keys (aggs_signs q.aggs (range_signs q.table q.from q.to
    (conds_signs q.conds (group_signs q.keys (order_signs (ordering_agg q.order q.aggs) (limit_signs is_limited q.limit))))))

-- ---- queries

-- the order is none, or the place of an aggregate that is no AVG and equal to none before it
abbrev pub IsOrder : Option ℕ → List Agg → Type 0
IsOrder None aggs = Unit {0}
IsOrder (Some i) aggs = (a : Agg) × ((slice_get aggs i ≡ Some a) × ((is_orderable a ≡ true) × (position_from (same_agg a) 0 aggs ≡ Some i)))

-- a table's name, at least one aggregate, an order by one of them, and a limit
pub record IsQuery (q : Query) : Type 0 where
  pub table : is_table_name q.table ≡ true
  pub aggs : 0 < length q.aggs
  pub order : IsOrder q.order q.aggs
  pub limit : q.limit ≤ 100000

-- the tokens spell the query; LIMIT may be left out if it is 100,000
pub record IsSpelled (q : Query) (ts : List Token) : Type 0 where
  pub query : IsQuery q
  pub is_limited : Bool
  pub default : is_limited ≡ false → q.limit ≡ 100000
  pub spelled : Spells (query_signs is_limited q) ts

-- the tokens of a text, without their places
abbrev pub plain_tokens : List Placed → List Token
plain_tokens ps = map (λ (p : Placed). p.token) ps

-- ---- refusal

-- some query begins with these tokens
abbrev pub IsBegun : List Token → Type 0
IsBegun ts = (more : List Token) × ((q : Query) × IsSpelled q (ts ++ more))

-- no query goes on: if no token is left, none ends here; else none begins with these tokens and the next
abbrev pub IsStuck : List Token → List Placed → Type 0
IsStuck before [] = (q : Query) → IsSpelled q before → ⊥
IsStuck before (p ∷ ps) = IsBegun (before ++ (p.token ∷ [])) → ⊥

-- the offset of the next token, or the text's end
abbrev pub next_offset : ℕ → List Placed → ℕ
next_offset end [] = end
next_offset end (p ∷ ps) = p.at

-- an integer stands where some integer may stand
abbrev pub IsSize : List Token → List Placed → Type 0
IsSize before [] = ⊥
IsSize before (p ∷ ps) = (is_int p.token ≡ true) × ((n : ℤ) × IsBegun (before ++ (token.Int (Some n) ∷ [])))

-- the number of tokens after the first FROM that is not quoted
abbrev pub behind_from : List Token → Option ℕ
behind_from [] = None
behind_from (t ∷ ts) = if is_word (codes "FROM") t then Some (length ts) else behind_from ts

-- the table is there, and fewer than the eight tokens of the range follow it
abbrev pub is_ranging : Option ℕ → Bool
is_ranging None = false
is_ranging (Some n) = nat_lt 0 n && nat_lt n 9

-- the fault by what stands before and what is left
abbrev pub IsFault : QueryFault → List Token → List Placed → ℕ → Type 0
IsFault (TooLarge at) before rest end = (at ≡ next_offset end rest) × IsSize before rest
IsFault NoTime before rest end = (IsSize before rest → ⊥) × (is_ranging (behind_from before) ≡ true)
IsFault (Syntax at) before rest end = (at ≡ next_offset end rest) × ((IsSize before rest → ⊥) × (is_ranging (behind_from before) ≡ false))
IsFault NoMemory before rest end = ⊥

-- the tokens before the fault begin some query; with the token at the fault, or the end, none goes on; and they decide
-- the fault
pub record IsQueryRefused (text : List ℕ) (fault : QueryFault) : Type 0 where
  pub before : List Placed
  pub rest : List Placed
  pub tokens : tokens_of text ≡ before ++ rest
  pub begun : IsBegun (plain_tokens before)
  pub stuck : IsStuck (plain_tokens before) rest
  pub told : IsFault fault (plain_tokens before) rest (length text)
