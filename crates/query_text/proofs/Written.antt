-- The text that a query is written as is cut into tokens that spell the query.
use Rattle.std.proofs.Common.{◌≡◌, ℕ, suc, zero, ◌≤◌, true, ◌&&◌, List, [], ◌∷◌, ◌++◌, length, Option, Some, None, Ok, refl, sym, ap, ◌∙◌, pos, arith, nat_le, subst, Bool, false, if◌then◌else◌}
use Rattle.std.specs.Prelude.{codes, decimal, slice_get, bytes_eq}
use Rattle.std.specs.Fmt.{signed_decimal}
use Rattle.std.specs.Char.{is_ascii_lowercase}
use Rattle.std.specs.Bool.{◌==◌}
use Rattle.std.specs.List.{list_all, AllByRecursion}
use Rattle.std.proofs.lemmas.Bool.{false≢true, and_parts, true≢false}
use Rattle.std.proofs.lemmas.Bool.Decides.{nat_tests}
use Rattle.std.proofs.lemmas.List.{append-nil}
use Rattle.row_model.specs.declared.rows.Value.{Value}
use Rattle.row_model.specs.declared.rows.Value.TheVariants as value
use Rattle.leaf_model.specs.declared.queries.Cond.{Cond}
use Rattle.leaf_model.specs.declared.queries.Agg.{Agg}
use Rattle.leaf_model.specs.declared.queries.Agg.TheVariants as agg
use Rattle.leaf_model.specs.declared.queries.Query.{Query}
use Rattle.query_text.specs.declared.tokens.Token.TheVariants as token
use Rattle.query_text.specs.Tokens.{begins_word, goes_on_word}
use Rattle.row_model.specs.Names.{is_name_byte, is_table_name}
use Rattle.query_text.specs.Reading.{query_of}
use Rattle.query_text.specs.Printing.{printed, name_text, op_text, value_text, agg_then, names_then, more_aggs_then, aggs_then, range_then, conds_then, more_names_then, group_then, ordering_agg, order_then}
use Rattle.query_text.specs.Grammar.{Sign, Spells, TheName, Exactly, IsQuery, IsOrder, agg_signs, names_signs, more_aggs_signs, aggs_signs, range_signs, conds_signs, more_names_signs, group_signs, order_signs, limit_signs, query_signs, const_sign, text_sign}
use Rattle.query_text.proofs.Found.{some_same, None≢Some}
use Rattle.query_text.proofs.Meaning.{spelled_read}
use Rattle.query_text.proofs.Lexed.{lexed, same_tokens, stops, lexed_word, lexed_int, lexed_text, lexed_name, lexed_op, IsI64, IsText, IsName}
use Rattle.query_text.specs.Roles.{is_has}

-- ---- queries whose parts can be written

abbrev pub IsConst : Value → Type 0
IsConst (value.Int n) = IsI64 n
IsConst (value.Text t) = IsText t
IsConst (value.Set members) = ⊥

-- a text alone, where that is asked for
abbrev pub IsAsked : Bool → Value → Type 0
IsAsked true (value.Text t) = IsText t
IsAsked true v = ⊥
IsAsked false v = IsConst v

abbrev pub IsCond : Cond → Type 0
IsCond c = IsName c.name × IsAsked (is_has c.op) c.value

abbrev pub HasName : Agg → Type 0
HasName agg.Count = Unit {0}
HasName (agg.Sum n) = IsName n
HasName (agg.Min n) = IsName n
HasName (agg.Max n) = IsName n
HasName (agg.Avg n) = IsName n

pub record IsWritable (q : Query) : Type 0 where
  pub keys : AllByRecursion IsName q.keys
  pub aggs : AllByRecursion HasName q.aggs
  pub from : IsI64 q.from
  pub to : IsI64 q.to
  pub conds : AllByRecursion IsCond q.conds

-- ---- part by part, in front of what is spelled

named_call : (n further : List ℕ) (S : List Sign) → IsName n → Spells S (lexed 0 further)
    → Spells (TheName n ∷ Exactly token.Close ∷ S) (lexed 0 (name_text n ++ (codes ")" ++ further)))
named_call n further S good h = let l = lexed_name n (codes ")" ++ further) good refl in rw l.is (l.names, (refl, h))

agg_written : (a : Agg) (further : List ℕ) (S : List Sign) → HasName a → Spells S (lexed 0 further) → Spells (agg_signs a S) (lexed 0 (agg_then a further))
agg_written agg.Count further S good h = (refl, (refl, (refl, (refl, h))))
agg_written (agg.Sum n) further S good h = (refl, (refl, named_call n further S good h))
agg_written (agg.Min n) further S good h = (refl, (refl, named_call n further S good h))
agg_written (agg.Max n) further S good h = (refl, (refl, named_call n further S good h))
agg_written (agg.Avg n) further S good h = (refl, (refl, named_call n further S good h))

names_written : (names : List (List ℕ)) (further : List ℕ) (S : List Sign) → AllByRecursion IsName names → Spells S (lexed 0 further) → Spells (names_signs names S) (lexed 0 (names_then names further))
names_written [] further S good h = h
names_written (n ∷ names) further S good h =
    let l = lexed_name n (codes ", " ++ names_then names further) good.0 refl in
    rw l.is (l.names, (refl, names_written names further S good.1 h))

more_aggs_written : (aggs : List Agg) (further : List ℕ) (S : List Sign) → AllByRecursion HasName aggs → Spells S (lexed 0 further) → Spells (more_aggs_signs aggs S) (lexed 0 (more_aggs_then aggs further))
more_aggs_written [] further S good h = h
more_aggs_written (a ∷ aggs) further S good h =
    (refl, agg_written a (more_aggs_then aggs further) (more_aggs_signs aggs S) good.0 (more_aggs_written aggs further S good.1 h))

aggs_written : (aggs : List Agg) (further : List ℕ) (S : List Sign) → AllByRecursion HasName aggs → Spells S (lexed 0 further) → Spells (aggs_signs aggs S) (lexed 0 (aggs_then aggs further))
aggs_written [] further S good h = h
aggs_written (a ∷ aggs) further S good h = agg_written a (more_aggs_then aggs further) (more_aggs_signs aggs S) good.0 (more_aggs_written aggs further S good.1 h)

lower_begins : (b : ℕ) → is_ascii_lowercase b ≡ true → begins_word b ≡ true
lower_begins b h = grind (arith, nat_tests)

table_byte : (b : ℕ) → is_name_byte b ≡ true → goes_on_word b ≡ true
table_byte b h = grind (arith, nat_tests)

table_word : (bs : List ℕ) → list_all is_name_byte bs ≡ true → list_all goes_on_word bs ≡ true
table_word [] h = refl
table_word (b ∷ bs) h =
    let both = and_parts (is_name_byte b) (list_all is_name_byte bs) h in
    rw (table_byte b both.0, table_word bs both.1) refl

-- a word that begins with a small letter is no HAS
lower_other : (b : ℕ) (bs : List ℕ) → is_ascii_lowercase b ≡ true → bytes_eq (b ∷ bs) (codes "HAS") ≡ false
lower_other b bs h = let other : (b == 72) ≡ false = grind (arith, nat_tests) in rw other refl

lexed_table : (table next : List ℕ) → is_table_name table ≡ true → stops next ≡ true → lexed 0 (table ++ next) ≡ token.Word table ∷ lexed 0 next
lexed_table [] next h end = absurd (false≢true h)
lexed_table (b ∷ bs) next h end =
    let first = and_parts (is_ascii_lowercase b) (nat_le (length bs) 63 && list_all is_name_byte bs) h in
    let rest = and_parts (nat_le (length bs) 63) (list_all is_name_byte bs) first.1 in
    lexed_word b bs next (lower_begins b first.0) (table_word bs rest.1) (lower_other b bs first.0) end

range_written : (q : Query) (further : List ℕ) (S : List Sign) → is_table_name q.table ≡ true → IsI64 q.from → IsI64 q.to → stops further ≡ true
    → Spells S (lexed 0 further) → Spells (range_signs q.table q.from q.to S) (lexed 0 (range_then q further))
range_written q further S fits low high end h =
    let to = lexed_int q.to further high end in
    let from = lexed_int q.from (codes " AND time <= " ++ (signed_decimal q.to ++ further)) low refl in
    let table = lexed_table q.table (codes " WHERE time >= " ++ (signed_decimal q.from ++ (codes " AND time <= " ++ (signed_decimal q.to ++ further)))) fits refl in
    (refl, rw (table, from, to) (refl, (refl, (refl, (refl, (refl, (refl, (refl, (refl, (refl, h))))))))))

const_written : (v : Value) (next : List ℕ) (S : List Sign) → IsConst v → stops next ≡ true → Spells S (lexed 0 next) → Spells (const_sign v ∷ S) (lexed 0 (value_text v ++ next))
const_written (value.Int n) next S good end h = rw (lexed_int n next good end) (refl, h)
const_written (value.Text t) next S good end h = subst (λ ts. Spells (Exactly (token.Text t) ∷ S) ts) (sym (lexed_text t next good end)) (refl, h)
const_written (value.Set members) next S good end h = absurd good

asked_written : (b : Bool) (v : Value) (next : List ℕ) (S : List Sign) → IsAsked b v → stops next ≡ true → Spells S (lexed 0 next) → Spells ((if b then text_sign v else const_sign v) ∷ S) (lexed 0 (value_text v ++ next))
asked_written true (value.Int n) next S good end h = absurd good
asked_written true (value.Text t) next S good end h = subst (λ ts. Spells (Exactly (token.Text t) ∷ S) ts) (sym (lexed_text t next good end)) (refl, h)
asked_written true (value.Set members) next S good end h = absurd good
asked_written false v next S good end h = const_written v next S good end h

conds_stop : (conds : List Cond) (further : List ℕ) → stops further ≡ true → stops (conds_then conds further) ≡ true
conds_stop [] further h = h
conds_stop (c ∷ conds) further h = refl

conds_written : (conds : List Cond) (further : List ℕ) (S : List Sign) → AllByRecursion IsCond conds → stops further ≡ true → Spells S (lexed 0 further) → Spells (conds_signs conds S) (lexed 0 (conds_then conds further))
conds_written [] further S good end h = h
conds_written (c ∷ conds) further S good end h =
    let rest = conds_then conds further in
    let l = lexed_name c.name (codes " " ++ (op_text c.op ++ (codes " " ++ (value_text c.value ++ rest)))) good.0.0 refl in
    let v = asked_written (is_has c.op) c.value rest (conds_signs conds S) good.0.1 (conds_stop conds further end) (conds_written conds further S good.1 end h) in
    (refl, rw (l.is, lexed_op c.op (value_text c.value ++ rest)) (l.names, (refl, v)))

names_stop : (names : List (List ℕ)) (further : List ℕ) → stops further ≡ true → stops (more_names_then names further) ≡ true
names_stop [] further h = h
names_stop (n ∷ names) further h = refl

more_names_written : (names : List (List ℕ)) (further : List ℕ) (S : List Sign) → AllByRecursion IsName names → stops further ≡ true → Spells S (lexed 0 further) → Spells (more_names_signs names S) (lexed 0 (more_names_then names further))
more_names_written [] further S good end h = h
more_names_written (n ∷ names) further S good end h =
    let l = lexed_name n (more_names_then names further) good.0 (names_stop names further end) in
    (refl, rw l.is (l.names, more_names_written names further S good.1 end h))

group_written : (names : List (List ℕ)) (further : List ℕ) (S : List Sign) → AllByRecursion IsName names → stops further ≡ true → Spells S (lexed 0 further) → Spells (group_signs names S) (lexed 0 (group_then names further))
group_written [] further S good end h = h
group_written (n ∷ names) further S good end h =
    let l = lexed_name n (more_names_then names further) good.0 (names_stop names further end) in
    (refl, (refl, rw l.is (l.names, more_names_written names further S good.1 end h)))

group_stop : (names : List (List ℕ)) (further : List ℕ) → stops further ≡ true → stops (group_then names further) ≡ true
group_stop [] further h = h
group_stop (n ∷ names) further h = refl

has_name_at : (aggs : List Agg) (i : ℕ) (a : Agg) → slice_get aggs i ≡ Some a → AllByRecursion HasName aggs → HasName a
has_name_at [] i a h good = absurd (None≢Some h)
has_name_at (b ∷ aggs) zero a h good = rw (← some_same h) good.0
has_name_at (b ∷ aggs) (suc i) a h good = has_name_at aggs i a h good.1

order_written : (o : Option ℕ) (aggs : List Agg) (further : List ℕ) (S : List Sign) → IsOrder o aggs → AllByRecursion HasName aggs → Spells S (lexed 0 further)
    → Spells (order_signs (ordering_agg o aggs) S) (lexed 0 (order_then (ordering_agg o aggs) further))
order_written None aggs further S order good h = h
order_written (Some i) aggs further S order good h =
    rw order.1.0 (refl, (refl, agg_written order.0 further S (has_name_at aggs i order.0 order.1.0 good) h))

order_stop : (o : Option Agg) (further : List ℕ) → stops further ≡ true → stops (order_then o further) ≡ true
order_stop None further h = h
order_stop (Some a) further h = refl

limit_written : (n : ℕ) → n ≤ 100000 → Spells (limit_signs true n) (lexed 0 (codes " LIMIT " ++ decimal n))
limit_written n small =
    let number = lexed_int (pos n) [] (omega (arith, small)) refl in
    let bare : lexed 0 (decimal n) ≡ token.Int (Some (pos n)) ∷ [] = ap (lexed 0) (sym (append-nil (decimal n))) ∙ number in
    rw bare (refl, (refl, tt))

-- ---- the whole

written : (q : Query) → IsQuery q → IsWritable q → Spells (query_signs true q) (lexed 0 (printed q))
written q good w =
    let limit = codes " LIMIT " ++ decimal q.limit in
    let order = order_then (ordering_agg q.order q.aggs) limit in
    let order_signs_of = order_signs (ordering_agg q.order q.aggs) (limit_signs true q.limit) in
    let group = group_then q.keys order in
    let group_signs_of = group_signs q.keys order_signs_of in
    let conds = conds_then q.conds group in
    let conds_signs_of = conds_signs q.conds group_signs_of in
    let order_ends = order_stop (ordering_agg q.order q.aggs) limit refl in
    let group_ends = group_stop q.keys order order_ends in (
      refl,
      names_written q.keys (aggs_then q.aggs (range_then q conds)) (aggs_signs q.aggs (range_signs q.table q.from q.to conds_signs_of)) w.keys
          (aggs_written q.aggs (range_then q conds) (range_signs q.table q.from q.to conds_signs_of) w.aggs
          (range_written q conds conds_signs_of good.table w.from w.to (conds_stop q.conds group group_ends)
          (conds_written q.conds group group_signs_of w.conds group_ends
          (group_written q.keys order order_signs_of w.keys order_ends
          (order_written q.order q.aggs limit (limit_signs true q.limit) good.order w.aggs (limit_written q.limit good.limit)))))),
    )

pub written_back : (q : Query) → IsQuery q → IsWritable q → query_of (printed q) ≡ Ok q
written_back q good w =
    spelled_read (printed q) q (rw (same_tokens 0 0 (printed q)) (record { query = good; is_limited = true; default = λ e. absurd (true≢false e); spelled = written q good w }))
