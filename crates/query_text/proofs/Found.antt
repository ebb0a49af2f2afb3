-- The tokens that spell a query are read as that query.
use Rattle.std.proofs.Common.{◌≡◌, ℕ, suc, zero, ◌+◌, ◌<◌, ◌≤◌, Bool, true, false, ◌||◌, List, [], ◌∷◌, ◌++◌, length, Option, Some, None, if◌then◌else◌, refl, sym, ap, ◌∙◌, ℤ, arith, nat_lt}
use Rattle.std.specs.Prelude.{codes, bytes_eq, slice_get, is_some}
use Rattle.std.specs.List.{list_any, position_from}
use Rattle.std.proofs.lemmas.Bool.{le-leb, lt-ltb, le-ltb, true≢false, false≢true}
use Rattle.std.proofs.lemmas.Slice.Eq.{bytes_eq-Decides}
use Rattle.std.proofs.lemmas.List.{append_assoc, append-nil, length-append}
use Rattle.row_model.specs.declared.rows.Value.{Value}
use Rattle.row_model.specs.declared.rows.Value.TheVariants as value
use Rattle.leaf_model.specs.declared.queries.Op.TheVariants.{Le, Ge}
use Rattle.leaf_model.specs.declared.queries.Op.{Op}
use Rattle.leaf_model.specs.declared.queries.Cond.{Cond}
use Rattle.leaf_model.specs.declared.queries.Agg.{Agg}
use Rattle.leaf_model.specs.declared.queries.Agg.TheVariants as agg
use Rattle.leaf_model.specs.declared.queries.Query.{Query}
use Rattle.query_text.specs.declared.tokens.Token.{Token}
use Rattle.query_text.specs.declared.tokens.Token.TheVariants as token
use Rattle.query_text.specs.declared.places.AggWord.{AggWord}
use Rattle.query_text.specs.declared.places.AggWord.TheVariants as kind
use Rattle.query_text.specs.declared.places.Place.{Place}
use Rattle.query_text.specs.declared.places.Place.TheVariants.{Select, Item, Opening, AggEnd, NextAgg, CondEnd, GroupEnd, OrderAgg, Ordered}
use Rattle.query_text.specs.declared.places.Move.TheVariants.{On}
use Rattle.row_model.specs.Names.{is_table_name}
use Rattle.query_text.specs.Roles.{name_of_token, const_of, const_for, text_of_token, is_has, agg_word_of, is_keyword, has_kind, is_orderable, same_agg, agg_inside}
use Rattle.query_text.specs.Reading.{goes_on, may_end, order_or_limit, nothing_read, with_agg}
use Rattle.query_text.specs.Printing.{ordering_agg}
use Rattle.query_text.specs.Grammar.{Sign, Says, Spells, TheName, Exactly, keyword, int, IsOrder, IsSpelled, agg_signs, names_signs, more_aggs_signs, aggs_signs, range_signs, conds_signs, more_names_signs, group_signs, order_signs, limit_signs, const_sign, text_sign, asked_sign}
use Rattle.query_text.proofs.Plain.{reads, made, selected}

-- ---- the first tokens of a spelling

pub record One (a : Sign) (further : List Sign) (ts : List Token) : Type 0 where
  pub t : Token
  pub us : List Token
  pub is : ts ≡ t ∷ us
  pub says : Says a t
  pub rest : Spells further us

pub one : (a : Sign) (further : List Sign) (ts : List Token) → Spells (a ∷ further) ts → One a further ts
one a further [] h = absurd h
one a further (t ∷ us) h = record { t = t; us = us; is = refl; says = h.0; rest = h.1 }

pub record Four (a b c d : Sign) (further : List Sign) (ts : List Token) : Type 0 where
  pub t : Token
  pub u : Token
  pub v : Token
  pub x : Token
  pub us : List Token
  pub is : ts ≡ t ∷ u ∷ v ∷ x ∷ us
  pub says_a : Says a t
  pub says_b : Says b u
  pub says_c : Says c v
  pub says_d : Says d x
  pub rest : Spells further us

pub four : (a b c d : Sign) (further : List Sign) (ts : List Token) → Spells (a ∷ b ∷ c ∷ d ∷ further) ts → Four a b c d further ts
four a b c d further [] h = absurd h
four a b c d further (t ∷ []) h = absurd h.1
four a b c d further (t ∷ u ∷ []) h = absurd h.1.1
four a b c d further (t ∷ u ∷ v ∷ []) h = absurd h.1.1.1
four a b c d further (t ∷ u ∷ v ∷ x ∷ us) h = record { t = t; u = u; v = v; x = x; us = us; is = refl; says_a = h.0; says_b = h.1.0; says_c = h.1.1.0; says_d = h.1.1.1.0; rest = h.1.1.1.1 }

-- ---- tests that a sign passes

pub some_same : {A : Type 0} {x y : A} → Some x ≡ Some y → x ≡ y
some_same {A} {x} {y} h = ap (λ o. or_else o) h
  where
    or_else : Option A → A
    or_else None = x
    or_else (Some z) = z

pub None≢Some : {A : Type 0} {x : A} → None ≡ Some x → ⊥
None≢Some h = absurd (false≢true (ap is_some h))

pub same_bytes : (bs : List ℕ) → bytes_eq bs bs ≡ true
same_bytes bs = (bytes_eq-Decides bs bs).1 refl

pub or_false : (x y : Bool) → (x || y) ≡ false → (x ≡ false) × (y ≡ false)
or_false true y h = absurd (true≢false h)
or_false false y h = (refl, h)

-- a word that is a name is no keyword, and has at most 255 bytes
word_is_name : (w name : List ℕ) (b : Bool) → (if b then None else Some w) ≡ Some name → (b ≡ false) × (w ≡ name)
word_is_name w name true h = absurd (None≢Some h)
word_is_name w name false h = (refl, some_same h)

pub name_word : (w name : List ℕ) → name_of_token (token.Word w) ≡ Some name → ((is_keyword w ≡ false) × (nat_lt 255 (length w) ≡ false)) × (w ≡ name)
name_word w name h =
    let both = word_is_name w name (is_keyword w || nat_lt 255 (length w)) h in
    (or_false (is_keyword w) (nat_lt 255 (length w)) both.0, both.1)

kinds_none : (s f w a g b o l c u m x v : Bool) → (s || (f || (w || (a || (g || (b || (o || (l || (c || (u || (m || (x || (v || false))))))))))))) ≡ false
    → (if c then Some kind.Count else (if u then Some kind.Sum else (if m then Some kind.Min else (if x then Some kind.Max else (if v then Some kind.Avg else None))))) ≡ None
kinds_none true f w a g b o l c u m x v h = absurd (true≢false h)
kinds_none false true w a g b o l c u m x v h = absurd (true≢false h)
kinds_none false false true a g b o l c u m x v h = absurd (true≢false h)
kinds_none false false false true g b o l c u m x v h = absurd (true≢false h)
kinds_none false false false false true b o l c u m x v h = absurd (true≢false h)
kinds_none false false false false false true o l c u m x v h = absurd (true≢false h)
kinds_none false false false false false false true l c u m x v h = absurd (true≢false h)
kinds_none false false false false false false false true c u m x v h = absurd (true≢false h)
kinds_none false false false false false false false false true u m x v h = absurd (true≢false h)
kinds_none false false false false false false false false false true m x v h = absurd (true≢false h)
kinds_none false false false false false false false false false false true x v h = absurd (true≢false h)
kinds_none false false false false false false false false false false false true v h = absurd (true≢false h)
kinds_none false false false false false false false false false false false false true h = absurd (true≢false h)
kinds_none false false false false false false false false false false false false false h = refl

-- a token that gives a name begins no aggregate
pub name_no_kind : (t : Token) (name : List ℕ) → name_of_token t ≡ Some name → agg_word_of t ≡ None
name_no_kind (token.Word w) name h =
    kinds_none (bytes_eq w (codes "SELECT")) (bytes_eq w (codes "FROM")) (bytes_eq w (codes "WHERE")) (bytes_eq w (codes "AND")) (bytes_eq w (codes "GROUP")) (bytes_eq w (codes "BY"))
    (bytes_eq w (codes "ORDER")) (bytes_eq w (codes "LIMIT")) (bytes_eq w (codes "COUNT")) (bytes_eq w (codes "SUM")) (bytes_eq w (codes "MIN")) (bytes_eq w (codes "MAX")) (bytes_eq w (codes "AVG"))
    ((or_false (bytes_eq w (codes "HAS")) _ (name_word w name h).0.0).1)
name_no_kind (token.Name n) name h = refl
name_no_kind (token.Text n) name h = refl
name_no_kind (token.Int n) name h = refl
name_no_kind token.Comma name h = refl
name_no_kind token.Open name h = refl
name_no_kind token.Close name h = refl
name_no_kind token.Star name h = refl
name_no_kind (token.Compare o) name h = refl
name_no_kind token.Stray name h = refl

-- ---- the limit and the order

-- what behaves like the end of the conditions, or of GROUP BY
pub record IsTail (s : Query) (place : Place) : Type 0 where
  pub ends : may_end s place ≡ true
  pub limit : goes_on s place (token.Word (codes "LIMIT")) ≡ order_or_limit s (token.Word (codes "LIMIT"))
  pub order : goes_on s place (token.Word (codes "ORDER")) ≡ order_or_limit s (token.Word (codes "ORDER"))

-- LIMIT behind ORDER BY
found_limit : (table : List ℕ) (from to : ℤ) (conds : List Cond) (keys : List (List ℕ)) (aggs : List Agg) (o : Option ℕ) (is_limited : Bool) (n : ℕ) (ts : List Token)
    → n ≤ 100000 → (is_limited ≡ false → n ≡ 100000) → Spells (limit_signs is_limited n) ts
    → reads (made table from to conds keys aggs o 100000) Ordered ts ≡ Some (made table from to conds keys aggs o n)
found_limit table from to conds keys aggs o false n [] small default h = ap (λ k. Some (made table from to conds keys aggs o k)) (sym (default refl))
found_limit table from to conds keys aggs o false n (t ∷ ts) small default h = absurd h
found_limit table from to conds keys aggs o true n [] small default h = absurd h
found_limit table from to conds keys aggs o true n (t ∷ []) small default h = absurd h.1
found_limit table from to conds keys aggs o true n (t ∷ u ∷ []) small default h = rw (h.0, h.1.0, le-leb n 100000 small) refl
found_limit table from to conds keys aggs o true n (t ∷ u ∷ v ∷ ts) small default h = absurd h.1.1

-- LIMIT or the end
found_limit_at : (table : List ℕ) (from to : ℤ) (conds : List Cond) (keys : List (List ℕ)) (aggs : List Agg) (place : Place) (is_limited : Bool) (n : ℕ) (ts : List Token)
    → IsTail (made table from to conds keys aggs None 100000) place
    → n ≤ 100000 → (is_limited ≡ false → n ≡ 100000) → Spells (limit_signs is_limited n) ts
    → reads (made table from to conds keys aggs None 100000) place ts ≡ Some (made table from to conds keys aggs None n)
found_limit_at table from to conds keys aggs place false n [] tail small default h =
    rw tail.ends (ap (λ k. Some (made table from to conds keys aggs None k)) (sym (default refl)))
found_limit_at table from to conds keys aggs place false n (t ∷ ts) tail small default h = absurd h
found_limit_at table from to conds keys aggs place true n [] tail small default h = absurd h
found_limit_at table from to conds keys aggs place true n (t ∷ []) tail small default h = absurd h.1
found_limit_at table from to conds keys aggs place true n (t ∷ u ∷ []) tail small default h = rw (h.0, h.1.0, tail.limit, le-leb n 100000 small) refl
found_limit_at table from to conds keys aggs place true n (t ∷ u ∷ v ∷ ts) tail small default h = absurd h.1.1

-- ---- aggregates

-- where an aggregate may begin
abbrev pub IsStart : Query → Place → Type 0
IsStart s place = (k : AggWord) (t : Token) → agg_word_of t ≡ Some k → goes_on s place t ≡ On s (Opening k)

found_call : (s r : Query) (place : Place) (word name : List ℕ) (k : AggWord) (a : Agg) (further : List Sign) (ts : List Token)
    → IsStart s place → agg_word_of (token.Word word) ≡ Some k → ((t : Token) → name_of_token t ≡ Some name → agg_inside k t ≡ Some a)
    → Spells (keyword word ∷ Exactly token.Open ∷ TheName name ∷ Exactly token.Close ∷ further) ts
    → ((us : List Token) → Spells further us → reads (with_agg s a) AggEnd us ≡ Some r) → reads s place ts ≡ Some r
found_call s r place word name k a further ts start kind inside h next =
    let f = four (keyword word) (Exactly token.Open) (TheName name) (Exactly token.Close) further ts h in
    rw (f.is, f.says_a, start k (token.Word word) kind, f.says_b, inside f.v f.says_c, f.says_d) (next f.us f.rest)

pub found_agg : (s r : Query) (place : Place) (a : Agg) (further : List Sign) (ts : List Token) → IsStart s place
    → Spells (agg_signs a further) ts → ((us : List Token) → Spells further us → reads (with_agg s a) AggEnd us ≡ Some r) → reads s place ts ≡ Some r
found_agg s r place agg.Count further ts start h next =
    let f = four (keyword (codes "COUNT")) (Exactly token.Open) (Exactly token.Star) (Exactly token.Close) further ts h in
    rw (f.is, f.says_a, start kind.Count (token.Word (codes "COUNT")) refl, f.says_b, f.says_c, f.says_d) (next f.us f.rest)
found_agg s r place (agg.Sum name) further ts start h next = found_call s r place (codes "SUM") name kind.Sum (agg.Sum name) further ts start refl (λ t e. rw e refl) h next
found_agg s r place (agg.Min name) further ts start h next = found_call s r place (codes "MIN") name kind.Min (agg.Min name) further ts start refl (λ t e. rw e refl) h next
found_agg s r place (agg.Max name) further ts start h next = found_call s r place (codes "MAX") name kind.Max (agg.Max name) further ts start refl (λ t e. rw e refl) h next
found_agg s r place (agg.Avg name) further ts start h next = found_call s r place (codes "AVG") name kind.Avg (agg.Avg name) further ts start refl (λ t e. rw e refl) h next

found_more_aggs : (r : Query) (keys : List (List ℕ)) (aggs before : List Agg) (further : List Sign) (ts : List Token)
    → Spells (more_aggs_signs aggs further) ts → ((us : List Token) → Spells further us → reads (selected keys (before ++ aggs)) AggEnd us ≡ Some r)
    → reads (selected keys before) AggEnd ts ≡ Some r
found_more_aggs r keys [] before further ts h next = let all = next ts h in rw (append-nil before) at all
found_more_aggs r keys (a ∷ aggs) before further ts h next =
    let f = one (Exactly token.Comma) (agg_signs a (more_aggs_signs aggs further)) ts h in
    rw (f.is, f.says)
    (found_agg (selected keys before) r NextAgg a (more_aggs_signs aggs further) f.us (λ k t e. rw e refl) f.rest
    (λ us g. found_more_aggs r keys aggs (before ++ (a ∷ [])) further us g (λ vs k. rw (append_assoc before (a ∷ []) aggs) (next vs k))))

found_aggs : (r : Query) (keys : List (List ℕ)) (aggs : List Agg) (further : List Sign) (ts : List Token) → 0 < length aggs
    → Spells (aggs_signs aggs further) ts → ((us : List Token) → Spells further us → reads (selected keys aggs) AggEnd us ≡ Some r)
    → reads (selected keys []) Item ts ≡ Some r
found_aggs r keys [] further ts some h next = absurd (omega arith)
found_aggs r keys (a ∷ aggs) further ts some h next =
    found_agg (selected keys []) r Item a (more_aggs_signs aggs further) ts (λ k t e. rw e refl) h
    (λ us g. found_more_aggs r keys aggs (a ∷ []) further us g next)

-- ---- names, the range and the conditions

found_names : (r : Query) (names before : List (List ℕ)) (further : List Sign) (ts : List Token)
    → Spells (names_signs names further) ts → ((us : List Token) → Spells further us → reads (selected (before ++ names) []) Item us ≡ Some r)
    → reads (selected before []) Item ts ≡ Some r
found_names r [] before further ts h next = let all = next ts h in rw (append-nil before) at all
found_names r (name ∷ names) before further ts h next =
    let f = one (TheName name) (Exactly token.Comma ∷ names_signs names further) ts h in
    let g = one (Exactly token.Comma) (names_signs names further) f.us f.rest in
    rw (f.is, g.is, name_no_kind f.t name f.says, f.says, g.says)
    (found_names r names (before ++ (name ∷ [])) further g.us g.rest (λ vs k. rw (append_assoc before (name ∷ []) names) (next vs k)))

found_range : (s r : Query) (table : List ℕ) (from to : ℤ) (further : List Sign) (ts : List Token) → is_table_name table ≡ true
    → Spells (range_signs table from to further) ts
    → ((us : List Token) → Spells further us → reads (record s { table = table; from = from; to = to }) CondEnd us ≡ Some r) → reads s AggEnd ts ≡ Some r
found_range s r table from to further ts fits h next =
    let last = keyword (codes "time") ∷ Exactly (token.Compare Le) ∷ int to ∷ further in
    let f = four (keyword (codes "FROM")) (keyword table) (keyword (codes "WHERE")) (keyword (codes "time")) (Exactly (token.Compare Ge) ∷ int from ∷ keyword (codes "AND") ∷ last) ts h in
    let g = four (Exactly (token.Compare Ge)) (int from) (keyword (codes "AND")) (keyword (codes "time")) (Exactly (token.Compare Le) ∷ int to ∷ further) f.us f.rest in
    let i = one (Exactly (token.Compare Le)) (int to ∷ further) g.us g.rest in
    let j = one (int to) further i.us i.rest in
    rw (f.is, g.is, i.is, j.is, f.says_a, f.says_b, f.says_c, f.says_d, g.says_a, g.says_b, g.says_c, g.says_d, i.says, j.says, fits) (next j.us j.rest)

const_says : (v : Value) (t : Token) → Says (const_sign v) t → const_of t ≡ Some v
const_says (value.Int n) t h = rw h refl
const_says (value.Text x) t h = rw h refl
const_says (value.Set members) t h = absurd h

text_says : (v : Value) (t : Token) → Says (text_sign v) t → text_of_token t ≡ Some v
text_says (value.Int n) t h = absurd h
text_says (value.Text x) t h = rw h refl
text_says (value.Set members) t h = absurd h

asked_by : (b : Bool) (v : Value) (t : Token) → Says (if b then text_sign v else const_sign v) t → (if b then text_of_token t else const_of t) ≡ Some v
asked_by true v t h = text_says v t h
asked_by false v t h = const_says v t h

asked_says : (op : Op) (v : Value) (t : Token) → Says (asked_sign op v) t → const_for op t ≡ Some v
asked_says op v t h = asked_by (is_has op) v t h

found_conds : (r : Query) (table : List ℕ) (from to : ℤ) (conds before : List Cond) (keys : List (List ℕ)) (aggs : List Agg) (further : List Sign) (ts : List Token)
    → Spells (conds_signs conds further) ts
    → ((us : List Token) → Spells further us → reads (made table from to (before ++ conds) keys aggs None 100000) CondEnd us ≡ Some r)
    → reads (made table from to before keys aggs None 100000) CondEnd ts ≡ Some r
found_conds r table from to [] before keys aggs further ts h next = let all = next ts h in rw (append-nil before) at all
found_conds r table from to (c ∷ conds) before keys aggs further ts h next =
    let f = four (keyword (codes "AND")) (TheName c.name) (Exactly (token.Compare c.op)) (asked_sign c.op c.value) (conds_signs conds further) ts h in
    rw (f.is, f.says_a, f.says_b, f.says_c, asked_says c.op c.value f.x f.says_d)
    (found_conds r table from to conds (before ++ (c ∷ [])) keys aggs further f.us f.rest (λ vs k. rw (append_assoc before (c ∷ []) conds) (next vs k)))

-- ---- GROUP BY

pub seam : (before : List (List ℕ)) (name : List ℕ) (names : List (List ℕ)) → slice_get (before ++ (name ∷ names)) (length before) ≡ Some name
seam [] name names = refl
seam (n ∷ before) name names = seam before name names

pub longer : (before : List (List ℕ)) (name : List ℕ) (names : List (List ℕ)) → length before < length (before ++ (name ∷ names))
longer before name names = let sum = length-append before (name ∷ names) in omega (arith, sum)

pub next_length : (before : List (List ℕ)) (name : List ℕ) → length before + 1 ≡ length (before ++ (name ∷ []))
next_length before name = sym (length-append before (name ∷ []))

found_more_names : (s r : Query) (names before : List (List ℕ)) (further : List Sign) (ts : List Token) → s.keys ≡ before ++ names
    → Spells (more_names_signs names further) ts → ((us : List Token) → Spells further us → reads s (GroupEnd (length s.keys)) us ≡ Some r)
    → reads s (GroupEnd (length before)) ts ≡ Some r
found_more_names s r [] before further ts keys h next =
    let same : length s.keys ≡ length before = rw (keys, append-nil before) refl in
    let all = next ts h in rw same at all
found_more_names s r (name ∷ names) before further ts keys h next =
    let f = one (Exactly token.Comma) (TheName name ∷ more_names_signs names further) ts h in
    let g = one (TheName name) (more_names_signs names further) f.us f.rest in
    let room : nat_lt (length before) (length s.keys) ≡ true = rw keys (lt-ltb (length before) (length (before ++ (name ∷ names))) (longer before name names)) in
    let there : slice_get s.keys (length before) ≡ Some name = rw keys (seam before name names) in
    let further_on = found_more_names s r names (before ++ (name ∷ [])) further g.us (keys ∙ sym (append_assoc before (name ∷ []) names)) g.rest next in
    rw (f.is, f.says, room, g.is, there, g.says, same_bytes name, next_length before name) further_on

-- behind the conditions: GROUP BY where a name is selected, and then what follows
found_group : (s r : Query) (names : List (List ℕ)) (further : List Sign) (ts : List Token) → s.keys ≡ names
    → Spells (group_signs names further) ts
    → ((place : Place) → (s.keys ≡ [] → place ≡ CondEnd) → (0 < length s.keys → place ≡ GroupEnd (length s.keys)) → (us : List Token) → Spells further us → reads s place us ≡ Some r)
    → reads s CondEnd ts ≡ Some r
found_group s r [] further ts keys h next = next CondEnd (λ e. refl) (λ some. absurd (none_some s keys some)) ts h
  where
    none_some : (s : Query) → s.keys ≡ [] → 0 < length s.keys → ⊥
    none_some s keys some = let none : length s.keys ≡ 0 = rw keys refl in omega (arith, some, none)
found_group s r (name ∷ names) further ts keys h next =
    let f = one (keyword (codes "GROUP")) (keyword (codes "BY") ∷ TheName name ∷ more_names_signs names further) ts h in
    let g = one (keyword (codes "BY")) (TheName name ∷ more_names_signs names further) f.us f.rest in
    let i = one (TheName name) (more_names_signs names further) g.us g.rest in
    let some : nat_lt 0 (length s.keys) ≡ true = rw keys (lt-ltb 0 (length (name ∷ names)) (omega arith)) in
    let there : slice_get s.keys 0 ≡ Some name = rw keys refl in
    let further_on = found_more_names s r names (name ∷ []) further i.us keys i.rest
    (λ us k. next (GroupEnd (length s.keys)) (λ e. absurd (no_cons name names (sym keys ∙ e))) (λ e. refl) us k) in
    rw (f.is, f.says, some, g.is, g.says, i.is, there, i.says, same_bytes name) further_on
  where
    no_cons : (name : List ℕ) (names : List (List ℕ)) → name ∷ names ≡ [] → ⊥
    no_cons name names e = let none = ap length e in absurd (omega (arith, none))

-- ---- ORDER BY, and the whole

tail_cond : (s : Query) → s.keys ≡ [] → IsTail s CondEnd
tail_cond s none = record { ends = rw none refl; limit = rw none refl; order = rw none refl }

tail_group : (s : Query) → IsTail s (GroupEnd (length s.keys))
tail_group s =
    let full : nat_lt (length s.keys) (length s.keys) ≡ false = le-ltb (length s.keys) (length s.keys) (omega arith) in
    record { ends = rw full refl; limit = rw full refl; order = rw full refl }

tail_by : (s : Query) (place : Place) (keys : List (List ℕ)) → s.keys ≡ keys → (s.keys ≡ [] → place ≡ CondEnd) → (0 < length s.keys → place ≡ GroupEnd (length s.keys)) → IsTail s place
tail_by s place [] e c g = rw (c e) (tail_cond s e)
tail_by s place (name ∷ names) e c g =
    let some : 0 < length s.keys = rw e (omega arith) in
    rw (g some) (tail_group s)

any_at : (p : Agg → Bool) (aggs : List Agg) (i : ℕ) (a : Agg) → slice_get aggs i ≡ Some a → p a ≡ true → list_any p aggs ≡ true
any_at p [] i a there h = absurd (None≢Some there)
any_at p (b ∷ aggs) zero a there h = rw (some_same there, h) refl
any_at p (b ∷ aggs) (suc i) a there h = any_or (p b) (any_at p aggs i a there h)
  where
    any_or : (x : Bool) {y : Bool} → y ≡ true → (x || y) ≡ true
    any_or true e = refl
    any_or false e = e

found_order_call : (s r : Query) (i : ℕ) (word name : List ℕ) (k : AggWord) (a : Agg) (further : List Sign) (ts : List Token)
    → agg_word_of (token.Word word) ≡ Some k → ((t : Token) → name_of_token t ≡ Some name → agg_inside k t ≡ Some a)
    → slice_get s.aggs i ≡ Some a → has_kind k a ≡ true → position_from (same_agg a) 0 s.aggs ≡ Some i
    → Spells (keyword word ∷ Exactly token.Open ∷ TheName name ∷ Exactly token.Close ∷ further) ts
    → ((us : List Token) → Spells further us → reads (record s { order = Some i }) Ordered us ≡ Some r) → reads s OrderAgg ts ≡ Some r
found_order_call s r i word name k a further ts kind inside there has first h next =
    let f = four (keyword word) (Exactly token.Open) (TheName name) (Exactly token.Close) further ts h in
    rw (f.is, f.says_a, kind, any_at (has_kind k) s.aggs i a there has, f.says_b, inside f.v f.says_c, first, f.says_d) (next f.us f.rest)

found_order : (s r : Query) (i : ℕ) (a : Agg) (further : List Sign) (ts : List Token)
    → slice_get s.aggs i ≡ Some a → is_orderable a ≡ true → position_from (same_agg a) 0 s.aggs ≡ Some i
    → Spells (agg_signs a further) ts
    → ((us : List Token) → Spells further us → reads (record s { order = Some i }) Ordered us ≡ Some r) → reads s OrderAgg ts ≡ Some r
found_order s r i agg.Count further ts there fits first h next =
    let f = four (keyword (codes "COUNT")) (Exactly token.Open) (Exactly token.Star) (Exactly token.Close) further ts h in
    rw (f.is, f.says_a, any_at (has_kind kind.Count) s.aggs i agg.Count there refl, f.says_b, f.says_c, first, f.says_d) (next f.us f.rest)
found_order s r i (agg.Sum name) further ts there fits first h next = found_order_call s r i (codes "SUM") name kind.Sum (agg.Sum name) further ts refl (λ t e. rw e refl) there refl first h next
found_order s r i (agg.Min name) further ts there fits first h next = found_order_call s r i (codes "MIN") name kind.Min (agg.Min name) further ts refl (λ t e. rw e refl) there refl first h next
found_order s r i (agg.Max name) further ts there fits first h next = found_order_call s r i (codes "MAX") name kind.Max (agg.Max name) further ts refl (λ t e. rw e refl) there refl first h next
found_order s r i (agg.Avg name) further ts there fits first h next = absurd (false≢true fits)

found_tail : (table : List ℕ) (from to : ℤ) (conds : List Cond) (keys : List (List ℕ)) (aggs : List Agg) (place : Place) (o : Option ℕ) (is_limited : Bool) (n : ℕ) (ts : List Token)
    → IsTail (made table from to conds keys aggs None 100000) place → IsOrder o aggs
    → n ≤ 100000 → (is_limited ≡ false → n ≡ 100000) → Spells (order_signs (ordering_agg o aggs) (limit_signs is_limited n)) ts
    → reads (made table from to conds keys aggs None 100000) place ts ≡ Some (made table from to conds keys aggs o n)
found_tail table from to conds keys aggs place None is_limited n ts tail order small default h = found_limit_at table from to conds keys aggs place is_limited n ts tail small default h
found_tail table from to conds keys aggs place (Some i) is_limited n ts tail order small default h =
    let s = made table from to conds keys aggs None 100000 in
    let a = order.0 in
    let ordered = rw order.1.0 at h in
    let f = one (keyword (codes "ORDER")) (keyword (codes "BY") ∷ agg_signs a (limit_signs is_limited n)) ts ordered in
    let g = one (keyword (codes "BY")) (agg_signs a (limit_signs is_limited n)) f.us f.rest in
    rw (f.is, f.says, tail.order, any_at is_orderable aggs i a order.1.0 order.1.1.0, g.is, g.says)
    (found_order s (made table from to conds keys aggs (Some i) n) i a (limit_signs is_limited n) g.us order.1.0 order.1.1.0 order.1.1.1 g.rest
    (λ us k. found_limit table from to conds keys aggs (Some i) is_limited n us small default k))

pub found : (q : Query) (ts : List Token) → IsSpelled q ts → reads nothing_read Select ts ≡ Some q
found q ts sp =
    let tail = order_signs (ordering_agg q.order q.aggs) (limit_signs sp.is_limited q.limit) in
    let group = group_signs q.keys tail in
    let conds = conds_signs q.conds group in
    let range = range_signs q.table q.from q.to conds in
    let s = made q.table q.from q.to q.conds q.keys q.aggs None 100000 in
    let f = one (keyword (codes "SELECT")) (names_signs q.keys (aggs_signs q.aggs range)) ts sp.spelled in
    rw (f.is, f.says)
    (found_names q q.keys [] (aggs_signs q.aggs range) f.us f.rest
    (λ us h. found_aggs q q.keys q.aggs range us sp.query.aggs h
    (λ us h. found_range (selected q.keys q.aggs) q q.table q.from q.to conds us sp.query.table h
    (λ us h. found_conds q q.table q.from q.to q.conds [] q.keys q.aggs group us h
    (λ us h. found_group s q q.keys tail us refl h
    (λ place c g us h. found_tail q.table q.from q.to q.conds q.keys q.aggs place q.order sp.is_limited q.limit us (tail_by s place q.keys refl c g) sp.query.order sp.query.limit sp.default h))))))
