-- Joining the groups of two lists of rows gives the groups of both.
use Rattle.std.proofs.Common.{◌≡◌, ℕ, ◌+◌, ◌<◌, take, get_or, true, false, List, [], ◌∷◌, ◌++◌, length, map, filter, refl, sym, ap, subst, ◌∙◌}
use Rattle.std.specs.Ordering.{is_eq, match_ordering, ordering_reverse}
use Rattle.std.specs.BTreeSet.{insert_key}
use Rattle.std.specs.List.{AllByRecursion}
use Rattle.std.specs.declared.cmp.Ordering.{Ordering}
use Rattle.std.specs.declared.cmp.Ordering.TheVariants.{Less, Equal, Greater}
use Rattle.std.proofs.lemmas.Cmp.{alike_right, tied_itself}
use Rattle.std.proofs.lemmas.List.Elements.{filter-append}
use Rattle.std.proofs.lemmas.List.{length-map, take_more}
use Rattle.row_model.specs.declared.rows.Row.{Row}
use Rattle.leaf_model.specs.declared.queries.Query.{Query}
use Rattle.leaf_model.specs.declared.groups.Key.{Key}
use Rattle.leaf_model.specs.declared.groups.Group.{Group}
use Rattle.leaf_model.specs.Groups.{keys_cmp, keys_of, passes, distinct_keys, group_of, rows_with, fold_of, agg_ints, groups}
use Rattle.group_table.specs.Joined.{joined_group, joined, joined_from, next_of}
use Rattle.group_table.specs.Table.{keys_in, Above, Ascends, IsTable}
use Rattle.leaf_model.proofs.KeyOrder.{keys_cmp_total, exact_keys}
use Rattle.group_table.proofs.Monoid.{group_assoc, group_comm, group_of-append}

-- a list of groups with one more
abbrev with_group : Group → List Group → List Group
with_group g gs = joined_from g (λ hs. hs) gs

pub joined-nil : (gs : List Group) → joined gs [] ≡ gs
joined-nil [] = refl
joined-nil (g ∷ gs) = ap (λ hs. g ∷ hs) (joined-nil gs)

pub chain : (a b c : List Key) → keys_cmp a b ≡ Less → keys_cmp b c ≡ Less → keys_cmp a c ≡ Less
chain a b c h k = keys_cmp_total.trans a b c h k

turn : (a b : List Key) → keys_cmp a b ≡ Greater → keys_cmp b a ≡ Less
turn a b h = keys_cmp_total.antisymm b a ∙ ap ordering_reverse h

turn_back : (a b : List Key) → keys_cmp a b ≡ Less → keys_cmp b a ≡ Greater
turn_back a b h = keys_cmp_total.antisymm b a ∙ ap ordering_reverse h

chain_back : (a b c : List Key) → keys_cmp a b ≡ Greater → keys_cmp b c ≡ Greater → keys_cmp a c ≡ Greater
chain_back a b c h k = turn_back c a (chain c b a (turn b c k) (turn a b h))

tie_left : (a b c : List Key) (o : Ordering) → keys_cmp a b ≡ Equal → keys_cmp b c ≡ o → keys_cmp a c ≡ o
tie_left a b c o h k = keys_cmp_total.congr a b c h ∙ k

pub tie_right : (a b c : List Key) (o : Ordering) → keys_cmp a b ≡ o → keys_cmp b c ≡ Equal → keys_cmp a c ≡ o
tie_right a b c o h k = sym (alike_right keys_cmp_total b c a k) ∙ h

abbrev Same : Group → List Group → List Group → Type 0
Same g gs hs = joined (with_group g gs) hs ≡ with_group g (joined gs hs)

cases : (g a b : Group) (gs bs : List Group) (o p r : Ordering) → keys_cmp g.keys a.keys ≡ o → keys_cmp a.keys b.keys ≡ p → keys_cmp g.keys b.keys ≡ r
    → Same g gs (b ∷ bs) → Same g gs bs → Same g (a ∷ gs) bs → Same g (a ∷ gs) (b ∷ bs)
cases g a b gs bs Less Less r d e f i j k = let f' = chain g.keys a.keys b.keys d e in rw (d, e, f') (rw (d) refl)
cases g a b gs bs Less Equal r d e f i j k = let f' = tie_right g.keys a.keys b.keys Less d e in rw (d, e, f') (rw (d) refl)
cases g a b gs bs Less Greater Less d e f i j k = rw (d, e, f) refl
cases g a b gs bs Less Greater Equal d e f i j k = rw (d, e, f) refl
cases g a b gs bs Less Greater Greater d e f i j k = rw (d, e, f) (ap (λ hs. b ∷ hs) (rw d at k))
cases g a b gs bs Equal Less r d e f i j k = let f' = tie_left g.keys a.keys b.keys Less d e in rw (d, e, f') (rw d refl)
cases g a b gs bs Equal Equal r d e f i j k = let f' = tie_left g.keys a.keys b.keys Equal d e in rw (d, e, f') (rw d (ap (λ h. h ∷ joined gs bs) (group_assoc g a b)))
cases g a b gs bs Equal Greater r d e f i j k = let f' = tie_left g.keys a.keys b.keys Greater d e in rw (d, e, f') (ap (λ hs. b ∷ hs) (rw d at k))
cases g a b gs bs Greater Less r d e f i j k = rw (d, e) (rw d (ap (λ hs. a ∷ hs) i))
cases g a b gs bs Greater Equal r d e f i j k = rw (d, e) (rw d (ap (λ hs. joined_group a b ∷ hs) j))
cases g a b gs bs Greater Greater r d e f i j k = let f' = chain_back g.keys a.keys b.keys d e in rw (d, e, f') (ap (λ hs. b ∷ hs) (rw d at k))

step : (g a : Group) (gs : List Group) → ((hs : List Group) → Same g gs hs) → (hs : List Group) → Same g (a ∷ gs) hs
step g a gs ih [] = joined-nil (with_group g (a ∷ gs)) ∙ ap (with_group g) (sym (joined-nil (a ∷ gs)))
step g a gs ih (b ∷ bs) =
    cases g a b gs bs (keys_cmp g.keys a.keys) (keys_cmp a.keys b.keys) (keys_cmp g.keys b.keys) refl refl refl (ih (b ∷ bs)) (ih bs) (step g a gs ih bs)

-- a group goes in before or after two lists are joined
with_joined : (g : Group) (gs hs : List Group) → Same g gs hs
with_joined g [] hs = refl
with_joined g (a ∷ gs) hs = step g a gs (with_joined g gs) hs

-- one group joins alike from both sides
one_at : (g a : Group) (gs : List Group) (o : Ordering) → keys_cmp a.keys g.keys ≡ o → joined gs (g ∷ []) ≡ joined (g ∷ []) gs
    → joined (a ∷ gs) (g ∷ []) ≡ joined (g ∷ []) (a ∷ gs)
one_at g a gs Less h more = let turned = turn_back a.keys g.keys h in rw (h, turned) (ap (λ hs. a ∷ hs) more)
one_at g a gs Equal h more =
    let turned = keys_cmp_total.antisymm g.keys a.keys ∙ ap ordering_reverse h in
    let first = group_comm a g (exact_keys a.keys g.keys h) in
    let rest = joined-nil gs in
    rw (h, turned) (λ i. first i ∷ rest i)
one_at g a gs Greater h more = let turned = turn a.keys g.keys h in rw (h, turned) (ap (λ hs. g ∷ a ∷ hs) (joined-nil gs))

pub joined-one : (g : Group) (gs : List Group) → joined gs (g ∷ []) ≡ joined (g ∷ []) gs
joined-one g [] = refl
joined-one g (a ∷ gs) = one_at g a gs (keys_cmp a.keys g.keys) refl (joined-one g gs)

-- ---- lists of keys

abbrev Absent : List Key → List (List Key) → Type 0
Absent k js = AllByRecursion (λ j. is_eq (keys_cmp k j) ≡ false) js

above-chain : (k j : List Key) (js : List (List Key)) → keys_cmp k j ≡ Less → Above j js → Above k js
above-chain k j [] h up = tt
above-chain k j (i ∷ rest) h up = (chain k j i h up.0, above-chain k j rest h up.1)

above-tie : (k j : List Key) (js : List (List Key)) → keys_cmp k j ≡ Equal → Above j js → Above k js
above-tie k j [] h up = tt
above-tie k j (i ∷ rest) h up = (tie_left k j i Less h up.0, above-tie k j rest h up.1)

above-at : (j k i : List Key) (rest further : List (List Key)) (o : Ordering) → keys_cmp j k ≡ Less → Above j (i ∷ rest) → Above j further → Above j (match_ordering o (k ∷ i ∷ rest) (i ∷ rest) (i ∷ further))
above-at j k i rest further Less h up more = (h, up)
above-at j k i rest further Equal h up more = up
above-at j k i rest further Greater h up more = (up.0, more)

above-with : (j k : List Key) (js : List (List Key)) → keys_cmp j k ≡ Less → Above j js → Above j (insert_key keys_cmp js k)
above-with j k [] h up = (h, tt)
above-with j k (i ∷ rest) h up = above-at j k i rest (insert_key keys_cmp rest k) (keys_cmp k i) h up (above-with j k rest h up.1)

ascends-at : (k i : List Key) (rest : List (List Key)) (o : Ordering) → keys_cmp k i ≡ o → Ascends (i ∷ rest) → Ascends (insert_key keys_cmp rest k) → Ascends (match_ordering o (k ∷ i ∷ rest) (i ∷ rest) (i ∷ (insert_key keys_cmp rest k)))
ascends-at k i rest Less h up more = ((h, above-chain k i rest h up.0), up)
ascends-at k i rest Equal h up more = up
ascends-at k i rest Greater h up more = (above-with i k rest (turn k i h) up.0, more)

ascends-with : (k : List Key) (js : List (List Key)) → Ascends js → Ascends (insert_key keys_cmp js k)
ascends-with k [] up = (tt, tt)
ascends-with k (i ∷ rest) up = ascends-at k i rest (keys_cmp k i) refl up (ascends-with k rest up.1)

absent-at : (k j i : List Key) (rest further : List (List Key)) (o : Ordering) → keys_cmp j i ≡ o → (Absent k further → (is_eq (keys_cmp k j) ≡ false) × Absent k rest)
    → Absent k (match_ordering o (j ∷ i ∷ rest) (i ∷ rest) (i ∷ further)) → (is_eq (keys_cmp k j) ≡ false) × Absent k (i ∷ rest)
absent-at k j i rest further Less h more none = (none.0, none.1)
absent-at k j i rest further Equal h more none = (ap is_eq (alike_right keys_cmp_total j i k h) ∙ none.0, none)
absent-at k j i rest further Greater h more none = let m = more none.1 in (m.0, (none.0, m.1))

absent-with : (k j : List Key) (js : List (List Key)) → Absent k (insert_key keys_cmp js j) → (is_eq (keys_cmp k j) ≡ false) × Absent k js
absent-with k j [] none = none
absent-with k j (i ∷ rest) none = absent-at k j i rest (insert_key keys_cmp rest j) (keys_cmp j i) refl (absent-with k j rest) none

is_eq-reverse : (o : Ordering) → is_eq (ordering_reverse o) ≡ is_eq o
is_eq-reverse Less = refl
is_eq-reverse Equal = refl
is_eq-reverse Greater = refl

is_eq-turn : (a b : List Key) → is_eq (keys_cmp a b) ≡ is_eq (keys_cmp b a)
is_eq-turn a b = ap is_eq (keys_cmp_total.antisymm a b) ∙ is_eq-reverse (keys_cmp b a)

-- ---- the groups of rows that pass

ascends : (q : Query) (rows : List Row) → Ascends (distinct_keys q rows)
ascends q [] = tt
ascends q (row ∷ rows) = ascends-with (keys_of q row) (distinct_keys q rows) (ascends q rows)

-- a key list that no row has
no_rows : (q : Query) (k : List Key) (rows : List Row) → Absent k (distinct_keys q rows) → rows_with q k rows ≡ []
no_rows q k [] none = refl
no_rows q k (row ∷ rows) none =
    let parts = absent-with k (keys_of q row) (distinct_keys q rows) none in
    let other = is_eq-turn (keys_of q row) k ∙ parts.0 in
    rw other (no_rows q k rows parts.1)

abbrev made : Query → List Row → List Key → Group
made q rows k = group_of q k (rows_with q k rows)

abbrev pub single : Query → Row → Group
single q row = group_of q (keys_of q row) (row ∷ [])

made-other : (q : Query) (row : Row) (rows : List Row) (k : List Key) → is_eq (keys_cmp (keys_of q row) k) ≡ false → made q (row ∷ rows) k ≡ made q rows k
made-other q row rows k h = ap (group_of q k) (rw h refl)

made-same : (q : Query) (row : Row) (rows : List Row) (k : List Key) → keys_cmp (keys_of q row) k ≡ Equal → made q (row ∷ rows) k ≡ joined_group (single q row) (made q rows k)
made-same q row rows k h =
    let rows_are : rows_with q k (row ∷ rows) ≡ row ∷ rows_with q k rows = rw h refl in
    ap (group_of q k) rows_are ∙ group_of-append q k (row ∷ []) (rows_with q k rows)
    ∙ ap (λ j. joined_group (group_of q j (row ∷ [])) (made q rows k)) (sym (exact_keys (keys_of q row) k h))

made-alone : (q : Query) (row : Row) (rows : List Row) → rows_with q (keys_of q row) rows ≡ [] → made q (row ∷ rows) (keys_of q row) ≡ single q row
made-alone q row rows h =
    let k = keys_of q row in
    let rows_are : rows_with q k (row ∷ rows) ≡ row ∷ rows_with q k rows = rw (tied_itself keys_cmp_total k) refl in
    ap (group_of q k) (rows_are ∙ ap (λ rs. row ∷ rs) h)

others : (q : Query) (row : Row) (rows : List Row) (js : List (List Key)) → Above (keys_of q row) js → map (made q (row ∷ rows)) js ≡ map (made q rows) js
others q row rows [] up = refl
others q row rows (j ∷ js) up =
    let first = made-other q row rows j (ap is_eq up.0) in
    let rest = others q row rows js up.1 in
    λ i. first i ∷ rest i

less_is : (a b : List Key) → keys_cmp a b ≡ Less → is_eq (keys_cmp a b) ≡ false
less_is a b h = ap is_eq h

absent-above : (k : List Key) (js : List (List Key)) → Above k js → Absent k js
absent-above k [] up = tt
absent-above k (j ∷ js) up = (less_is k j up.0, absent-above k js up.1)

with_row-at : (q : Query) (row : Row) (rows : List Row) (j : List Key) (js : List (List Key)) (o : Ordering) → keys_cmp (keys_of q row) j ≡ o
    → Ascends (j ∷ js) → (Absent (keys_of q row) (j ∷ js) → rows_with q (keys_of q row) rows ≡ [])
    → ((Absent (keys_of q row) js → rows_with q (keys_of q row) rows ≡ []) → map (made q (row ∷ rows)) (insert_key keys_cmp js (keys_of q row)) ≡ with_group (single q row) (map (made q rows) js))
    → map (made q (row ∷ rows)) (match_ordering o ((keys_of q row) ∷ j ∷ js) (j ∷ js) (j ∷ (insert_key keys_cmp js (keys_of q row)))) ≡ next_of o (single q row) (made q rows j) (made q rows j ∷ map (made q rows) js) (map (made q rows) js) (with_group (single q row) (map (made q rows) js))
with_row-at q row rows j js Less h up none more =
    let k = keys_of q row in
    let above = above-chain k j js h up.0 in
    let first = made-alone q row rows (none (less_is k j h, absent-above k js above)) in
    let rest = others q row rows (j ∷ js) (h, above) in
    λ i. first i ∷ rest i
with_row-at q row rows j js Equal h up none more =
    let first = made-same q row rows j h in
    let rest = others q row rows js (above-tie (keys_of q row) j js h up.0) in
    λ i. first i ∷ rest i
with_row-at q row rows j js Greater h up none more =
    let first = made-other q row rows j (ap is_eq h) in
    let rest = more (λ absent. none (ap is_eq h, absent)) in
    λ i. first i ∷ rest i

with_row : (q : Query) (row : Row) (rows : List Row) (js : List (List Key)) → Ascends js → (Absent (keys_of q row) js → rows_with q (keys_of q row) rows ≡ [])
    → map (made q (row ∷ rows)) (insert_key keys_cmp js (keys_of q row)) ≡ with_group (single q row) (map (made q rows) js)
with_row q row rows [] up none = ap (λ g. g ∷ []) (made-alone q row rows (none tt))
with_row q row rows (j ∷ js) up none =
    with_row-at q row rows j js (keys_cmp (keys_of q row) j) refl up none
    (with_row q row rows js up.1)

abbrev all_made : Query → List Row → List Group
all_made q rows = map (made q rows) (distinct_keys q rows)

pub one_more : (q : Query) (row : Row) (rows : List Row) → all_made q (row ∷ rows) ≡ with_group (single q row) (all_made q rows)
one_more q row rows = with_row q row rows (distinct_keys q rows) (ascends q rows) (no_rows q (keys_of q row) rows)

both_made : (q : Query) (xs ys : List Row) → all_made q (xs ++ ys) ≡ joined (all_made q xs) (all_made q ys)
both_made q [] ys = refl
both_made q (x ∷ xs) ys =
    one_more q x (xs ++ ys) ∙ ap (with_group (single q x)) (both_made q xs ys)
    ∙ sym (with_joined (single q x) (all_made q xs) (all_made q ys))
    ∙ ap (λ gs. joined gs (all_made q ys)) (sym (one_more q x xs))

-- the groups of both lists of rows are the groups of each, joined
pub groups-append : (q : Query) (xs ys : List Row) → groups q (xs ++ ys) ≡ joined (groups q xs) (groups q ys)
groups-append q xs ys = ap (all_made q) (filter-append (passes q) xs ys) ∙ both_made q (filter (passes q) xs) (filter (passes q) ys)

-- the groups of one row that passes
pub one_row : (q : Query) (row : Row) → passes q row ≡ true → groups q (row ∷ []) ≡ single q row ∷ []
one_row q row h = rw h (ap (λ g. g ∷ []) (made-alone q row [] refl))

-- the groups of rows ascend by their keys
keys_made : (q : Query) (rows : List Row) (js : List (List Key)) → keys_in (map (made q rows) js) ≡ js
keys_made q rows [] = refl
keys_made q rows (j ∷ js) = ap (λ ks. j ∷ ks) (keys_made q rows js)

pub groups_ascend : (q : Query) (rows : List Row) → Ascends (keys_in (groups q rows))
groups_ascend q rows =
    let passing = filter (passes q) rows in
    subst Ascends (sym (keys_made q passing (distinct_keys q passing))) (ascends q passing)

shaped_made : (q : Query) (rows : List Row) (js : List (List Key)) → AllByRecursion (λ (g : Group). length g.folds ≡ length q.aggs) (map (made q rows) js)
shaped_made q rows [] = tt
shaped_made q rows (j ∷ js) = (length-map q.aggs (λ agg. fold_of (agg_ints agg (rows_with q j rows))), shaped_made q rows js)

pub groups_table : (q : Query) (rows : List Row) → IsTable q (groups q rows)
groups_table q rows =
    let passing = filter (passes q) rows in
    record { ascends = groups_ascend q rows; shaped = shaped_made q passing (distinct_keys q passing) }

-- a row that does not pass has no group
pub no_row : (q : Query) (row : Row) → passes q row ≡ false → groups q (row ∷ []) ≡ []
no_row q row h = rw h refl

-- the groups of one row more
pub next_row : (q : Query) (rows : List Row) (i : ℕ) (row : Row) → i < length rows → get_or rows i row ≡ row
    → groups q (take (i + 1) rows) ≡ joined (groups q (take i rows)) (groups q (row ∷ []))
next_row q rows i row h is =
    ap (groups q) (take_more rows i row h ∙ ap (λ r. take i rows ++ r ∷ []) is) ∙ groups-append q (take i rows) (row ∷ [])
