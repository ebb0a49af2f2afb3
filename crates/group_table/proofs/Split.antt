-- The groups of some rows in two tables: a row more in either of them, and both in one.
use Rattle.std.proofs.Common.{◌≡◌, ℕ, ◌+◌, ◌≤◌, Bool, true, false, List, [], ◌∷◌, ◌++◌, drop, take, refl, sym, ap, subst, ◌∙◌, arith}
use Rattle.std.specs.List.{AllByRecursion}
use Rattle.std.proofs.lemmas.List.{append_assoc}
use Rattle.row_model.specs.declared.rows.Row.{Row}
use Rattle.leaf_model.specs.declared.queries.Query.{Query}
use Rattle.leaf_model.specs.declared.groups.Key.{Key}
use Rattle.leaf_model.specs.declared.groups.Group.{Group}
use Rattle.leaf_model.specs.Groups.{groups, group_of, keys_of, passes}
use Rattle.group_table.specs.Joined.{joined, IsWithin}
use Rattle.group_table.specs.Table.{IsTable, put_first}
use Rattle.group_table.specs.Split.{IsMade, IsSplit}
use Rattle.group_table.proofs.Laws.{groups-append, groups_table, joined-nil, joined-one, no_row, one_row}
use Rattle.group_table.proofs.Within.{groups_grow, joined_within}

-- ---- tables made of rows

abbrev Alone : Query → Row → List Group
Alone q row = groups q (row ∷ [])

pub none_made : (q : Query) → IsMade q []
none_made q = record { rows = []; is = refl }

row_made : (q : Query) (row : Row) → IsMade q (Alone q row)
row_made q row = record { rows = row ∷ []; is = refl }

both_made : (q : Query) (gs hs : List Group) → IsMade q gs → IsMade q hs → IsMade q (joined gs hs)
both_made q gs hs mine others = record {
  rows = mine.rows ++ others.rows;
  is = ap (λ xs. joined xs hs) mine.is ∙ ap (joined (groups q mine.rows)) others.is ∙ sym (groups-append q mine.rows others.rows);
}

pub made_table : (q : Query) (gs : List Group) → IsMade q gs → IsTable q gs
made_table q gs made = subst (IsTable q) (sym made.is) (groups_table q made.rows)

rows_assoc : (q : Query) (xs ys zs : List Row) → joined (groups q xs) (joined (groups q ys) (groups q zs)) ≡ joined (joined (groups q xs) (groups q ys)) (groups q zs)
rows_assoc q xs ys zs =
    ap (joined (groups q xs)) (sym (groups-append q ys zs)) ∙ sym (groups-append q xs (ys ++ zs))
    ∙ ap (groups q) (sym (append_assoc xs ys zs))
    ∙ groups-append q (xs ++ ys) zs ∙ ap (λ gs. joined gs (groups q zs)) (groups-append q xs ys)

made_assoc : (q : Query) (fs gs hs : List Group) → IsMade q fs → IsMade q gs → IsMade q hs → joined fs (joined gs hs) ≡ joined (joined fs gs) hs
made_assoc q fs gs hs f g h =
    ap (λ xs. joined xs (joined gs hs)) f.is ∙ ap (λ xs. joined (groups q f.rows) (joined xs hs)) g.is ∙ ap (λ xs. joined (groups q f.rows) (joined (groups q g.rows) xs)) h.is
    ∙ rows_assoc q f.rows g.rows h.rows
    ∙ sym (ap (λ xs. joined (joined xs gs) hs) f.is ∙ ap (λ xs. joined (joined (groups q f.rows) xs) hs) g.is ∙ ap (λ xs. joined (joined (groups q f.rows) (groups q g.rows)) xs) h.is)

row_comm_at : (q : Query) (row : Row) (gs : List Group) (x : Bool) → passes q row ≡ x → joined gs (Alone q row) ≡ joined (Alone q row) gs
row_comm_at q row gs true h = let alone = one_row q row h in ap (joined gs) alone ∙ joined-one _ gs ∙ ap (λ hs. joined hs gs) (sym alone)
row_comm_at q row gs false h = let alone = no_row q row h in ap (joined gs) alone ∙ joined-nil gs ∙ ap (λ hs. joined hs gs) (sym alone)

row_comm : (q : Query) (row : Row) (gs : List Group) → joined gs (Alone q row) ≡ joined (Alone q row) gs
row_comm q row gs = row_comm_at q row gs (passes q row) refl

-- ---- a row more

-- a row of those keys was put at their place
pub row_put : (q : Query) (row : Row) (ks : List Key) (gs hs : List Group) (i : ℕ) → passes q row ≡ true → ks ≡ keys_of q row
    → joined gs (group_of q ks (row ∷ []) ∷ []) ≡ take i gs ++ put_first (group_of q ks (row ∷ [])) (drop i gs)
    → hs ≡ take i gs ++ put_first (group_of q ks (row ∷ [])) (drop i gs) → hs ≡ joined gs (groups q (row ∷ []))
row_put q row ks gs hs i passing same there put =
    let alone = one_row q row passing ∙ ap (λ js. group_of q js (row ∷ []) ∷ []) (sym same) in
    put ∙ sym (ap (joined gs) alone ∙ there)

pub row_within : (q : Query) (row : Row) (ks : List Key) → passes q row ≡ true → ks ≡ keys_of q row
    → AllByRecursion (IsWithin 1) (group_of q ks (row ∷ []) ∷ []) → AllByRecursion (IsWithin 1) (groups q (row ∷ []))
row_within q row ks passing same within =
    let alone = one_row q row passing ∙ ap (λ js. group_of q js (row ∷ []) ∷ []) (sym same) in
    subst (AllByRecursion (IsWithin 1)) (sym alone) within

pub fresh_value : (q : Query) (row : Row) (gs hs : List Group) → IsMade q gs → IsMade q hs → joined gs (joined hs (groups q (row ∷ []))) ≡ joined (joined gs hs) (groups q (row ∷ []))
fresh_value q row gs hs g h = made_assoc q gs hs (Alone q row) g h (row_made q row)

pub settled_value : (q : Query) (row : Row) (gs hs : List Group) → IsMade q gs → IsMade q hs → joined (joined gs (groups q (row ∷ []))) hs ≡ joined (joined gs hs) (groups q (row ∷ []))
settled_value q row gs hs g h =
    sym (made_assoc q gs (Alone q row) hs g (row_made q row) h) ∙ ap (joined gs) (sym (row_comm q row hs)) ∙ fresh_value q row gs hs g h

pub split_grows : (m n : ℕ) (q : Query) (gs hs : List Group) → m ≤ n → IsSplit m q gs hs → IsSplit n q gs hs
split_grows m n q gs hs h split = record {
  mine = split.mine;
  others = split.others;
  within_mine = groups_grow m n gs h split.within_mine;
  within_others = groups_grow m n hs h split.within_others;
  within = groups_grow m n (joined gs hs) h split.within;
}

pub settled_split : (n : ℕ) (q : Query) (row : Row) (gs hs : List Group) → AllByRecursion (IsWithin 1) (groups q (row ∷ [])) → IsSplit n q gs hs → IsSplit (n + 1) q (joined gs (groups q (row ∷ []))) hs
settled_split n q row gs hs one split = record {
  mine = both_made q gs (Alone q row) split.mine (row_made q row);
  others = split.others;
  within_mine = joined_within n 1 gs (Alone q row) split.within_mine one;
  within_others = groups_grow n (n + 1) hs (omega arith) split.within_others;
  within = subst (AllByRecursion (IsWithin (n + 1))) (sym (settled_value q row gs hs split.mine split.others)) (joined_within n 1 (joined gs hs) (Alone q row) split.within one);
}

pub fresh_split : (n : ℕ) (q : Query) (row : Row) (gs hs : List Group) → AllByRecursion (IsWithin 1) (groups q (row ∷ [])) → IsSplit n q gs hs → IsSplit (n + 1) q gs (joined hs (groups q (row ∷ [])))
fresh_split n q row gs hs one split = record {
  mine = split.mine;
  others = both_made q hs (Alone q row) split.others (row_made q row);
  within_mine = groups_grow n (n + 1) gs (omega arith) split.within_mine;
  within_others = joined_within n 1 hs (Alone q row) split.within_others one;
  within = subst (AllByRecursion (IsWithin (n + 1))) (sym (fresh_value q row gs hs split.mine split.others)) (joined_within n 1 (joined gs hs) (Alone q row) split.within one);
}

-- ---- both in one

pub settled_all : (n : ℕ) (q : Query) (gs hs : List Group) → IsSplit n q gs hs → IsSplit n q (joined gs hs) []
settled_all n q gs hs split = record {
  mine = both_made q gs hs split.mine split.others;
  others = none_made q;
  within_mine = split.within;
  within_others = tt;
  within = subst (AllByRecursion (IsWithin n)) (sym (joined-nil (joined gs hs))) split.within;
}
