-- The groups of rows that a test sorts into two lists.
use Rattle.std.proofs.Common.{◌≡◌, Bool, true, false, List, [], ◌∷◌, ◌++◌, filter, refl, sym, ap, ◌∙◌}
use Rattle.std.specs.Prelude.{not}
use Rattle.std.specs.List.{AllByRecursion}
use Rattle.std.proofs.lemmas.Bool.{cond-true, cond-false}
use Rattle.std.proofs.lemmas.Cmp.{tied_itself}
use Rattle.std.proofs.lemmas.List.{append_assoc}
use Rattle.row_model.specs.declared.rows.Row.{Row}
use Rattle.leaf_model.specs.declared.queries.Query.{Query}
use Rattle.leaf_model.specs.declared.groups.Key.{Key}
use Rattle.leaf_model.specs.declared.groups.Group.{Group}
use Rattle.leaf_model.specs.Groups.{groups, group_of, keys_of, passes}
use Rattle.group_table.specs.Joined.{joined}
use Rattle.slot_groups.specs.Slots.{class_group}
use Rattle.leaf_model.proofs.KeyOrder.{keys_cmp_total}
use Rattle.group_table.proofs.Monoid.{group_of-append}
use Rattle.group_table.proofs.Laws.{groups-append, joined-nil, joined-one, no_row, one_row}

abbrev Alone : Query → Row → List Group
Alone q row = groups q (row ∷ [])

rows_assoc : (q : Query) (xs ys zs : List Row) → joined (groups q xs) (joined (groups q ys) (groups q zs)) ≡ joined (joined (groups q xs) (groups q ys)) (groups q zs)
rows_assoc q xs ys zs =
    ap (joined (groups q xs)) (sym (groups-append q ys zs)) ∙ sym (groups-append q xs (ys ++ zs))
    ∙ ap (groups q) (sym (append_assoc xs ys zs))
    ∙ groups-append q (xs ++ ys) zs ∙ ap (λ gs. joined gs (groups q zs)) (groups-append q xs ys)

row_comm_at : (q : Query) (row : Row) (gs : List Group) (x : Bool) → passes q row ≡ x → joined gs (Alone q row) ≡ joined (Alone q row) gs
row_comm_at q row gs true h = let alone = one_row q row h in ap (joined gs) alone ∙ joined-one _ gs ∙ ap (λ hs. joined hs gs) (sym alone)
row_comm_at q row gs false h = let alone = no_row q row h in ap (joined gs) alone ∙ joined-nil gs ∙ ap (λ hs. joined hs gs) (sym alone)

row_comm : (q : Query) (row : Row) (gs : List Group) → joined gs (Alone q row) ≡ joined (Alone q row) gs
row_comm q row gs = row_comm_at q row gs (passes q row) refl

abbrev IsSplitBy : Query → (Row → Bool) → List Row → Type 0
IsSplitBy q p rows = groups q rows ≡ joined (groups q (filter p rows)) (groups q (filter (λ row. not (p row)) rows))

-- one row more goes to either side
one_more : (q : Query) (p : Row → Bool) (x : Row) (xs : List Row) (b : Bool) → p x ≡ b → IsSplitBy q p xs → IsSplitBy q p (x ∷ xs)
one_more q p x xs true e so_far =
    let yes = filter p xs in
    let no = filter (λ row. not (p row)) xs in
    rw e (groups-append q (x ∷ []) xs ∙ ap (joined (Alone q x)) so_far ∙ rows_assoc q (x ∷ []) yes no ∙ ap (λ gs. joined gs (groups q no)) (sym (groups-append q (x ∷ []) yes)))
one_more q p x xs false e so_far =
    let yes = filter p xs in
    let no = filter (λ row. not (p row)) xs in
    rw e (groups-append q (x ∷ []) xs ∙ ap (joined (Alone q x)) so_far ∙ rows_assoc q (x ∷ []) yes no
    ∙ ap (λ gs. joined gs (groups q no)) (sym (row_comm q x (groups q yes))) ∙ sym (rows_assoc q yes (x ∷ []) no)
    ∙ ap (joined (groups q yes)) (sym (groups-append q (x ∷ []) no)))

pub split_by : (q : Query) (p : Row → Bool) (rows : List Row) → IsSplitBy q p rows
split_by q p [] = refl
split_by q p (x ∷ xs) = one_more q p x xs (p x) refl (split_by q p xs)

-- ---- rows of one key list

abbrev pub IsClass : Query → List Key → List Row → Type 0
IsClass q ks rows = groups q rows ≡ class_group q ks (filter (passes q) rows)

front : (q : Query) (ks : List Key) (x : Row) (fs : List Row) → joined (group_of q ks (x ∷ []) ∷ []) (class_group q ks fs) ≡ group_of q ks (x ∷ fs) ∷ []
front q ks x [] = refl
front q ks x (y ∷ ys) = let tied = tied_itself keys_cmp_total ks in rw tied (ap (λ g. g ∷ []) (sym (group_of-append q ks (x ∷ []) (y ∷ ys))))

one_class : (q : Query) (ks : List Key) (x : Row) (xs : List Row) (b : Bool) → passes q x ≡ b → keys_of q x ≡ ks → IsClass q ks xs → IsClass q ks (x ∷ xs)
one_class q ks x xs true e same so_far =
    let fs = filter (passes q) xs in
    groups-append q (x ∷ []) xs
    ∙ ap (λ gs. joined gs (groups q xs)) (one_row q x e ∙ ap (λ k. group_of q k (x ∷ []) ∷ []) same)
    ∙ ap (joined (group_of q ks (x ∷ []) ∷ [])) so_far ∙ front q ks x fs ∙ ap (class_group q ks) (sym (cond-true (passes q x) (x ∷ fs) fs e))
one_class q ks x xs false e same so_far =
    let fs = filter (passes q) xs in
    groups-append q (x ∷ []) xs ∙ ap (λ gs. joined gs (groups q xs)) (no_row q x e) ∙ so_far ∙ ap (class_group q ks) (sym (cond-false (passes q x) (x ∷ fs) fs e))

pub class_of : (q : Query) (ks : List Key) (rows : List Row) → AllByRecursion (λ row. keys_of q row ≡ ks) rows → IsClass q ks rows
class_of q ks [] each = refl
class_of q ks (x ∷ xs) each = one_class q ks x xs (passes q x) refl each.0 (class_of q ks xs each.1)
