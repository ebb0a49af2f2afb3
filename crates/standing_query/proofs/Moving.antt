-- The groups of rows do not depend on the order of the rows.
use Rattle.std.proofs.Common.{◌≡◌, List, [], ◌∷◌, ◌++◌, refl, sym, ap, ◌∙◌}
use Rattle.std.proofs.lemmas.List.{append_assoc, append-nil}
use Rattle.row_model.specs.declared.rows.Row.{Row}
use Rattle.leaf_model.specs.declared.queries.Query.{Query}
use Rattle.leaf_model.specs.declared.groups.Group.{Group}
use Rattle.leaf_model.specs.Groups.{groups}
use Rattle.group_table.specs.Joined.{joined}
use Rattle.group_table.specs.Split.{IsMade}
use Rattle.group_table.proofs.Laws.{groups-append}
use Rattle.group_table.proofs.Split.{settled_value}

of_rows : (q : Query) (rows : List Row) → IsMade q (groups q rows)
of_rows q rows = record { rows = rows; is = refl }

-- a row in the middle, or behind all
row_last : (q : Query) (xs : List Row) (row : Row) (ys : List Row) → groups q (xs ++ row ∷ ys) ≡ joined (groups q (xs ++ ys)) (groups q (row ∷ []))
row_last q xs row ys =
    ap (groups q) (sym (append_assoc xs (row ∷ []) ys)) ∙ groups-append q (xs ++ row ∷ []) ys
    ∙ ap (λ (gs : List Group). joined gs (groups q ys)) (groups-append q xs (row ∷ []))
    ∙ settled_value q row (groups q xs) (groups q ys) (of_rows q xs) (of_rows q ys)
    ∙ ap (λ (gs : List Group). joined gs (groups q (row ∷ []))) (sym (groups-append q xs ys))

-- a row in the middle, or in front
row_moved : (q : Query) (xs : List Row) (row : Row) (ys : List Row) → groups q (xs ++ row ∷ ys) ≡ groups q (row ∷ (xs ++ ys))
row_moved q xs row ys = row_last q xs row ys ∙ sym (row_last q [] row (xs ++ ys))

-- both lists, in either order
turned : (q : Query) (xs ys : List Row) → groups q (xs ++ ys) ≡ groups q (ys ++ xs)
turned q xs [] = ap (groups q) (append-nil xs)
turned q xs (y ∷ ys) =
    row_moved q xs y ys ∙ groups-append q (y ∷ []) (xs ++ ys) ∙ ap (joined (groups q (y ∷ []))) (turned q xs ys)
    ∙ sym (groups-append q (y ∷ []) (ys ++ xs))

-- the first two of three lists, in either order
pub swapped : (q : Query) (xs ys zs : List Row) → groups q (xs ++ (ys ++ zs)) ≡ groups q (ys ++ (xs ++ zs))
swapped q xs ys zs =
    ap (groups q) (sym (append_assoc xs ys zs)) ∙ groups-append q (xs ++ ys) zs
    ∙ ap (λ (gs : List Group). joined gs (groups q zs)) (turned q xs ys)
    ∙ sym (groups-append q (ys ++ xs) zs)
    ∙ ap (groups q) (append_assoc ys xs zs)

-- rows in front of two lists that have the same groups
pub behind : (q : Query) (xs ys zs : List Row) → groups q ys ≡ groups q zs → groups q (xs ++ ys) ≡ groups q (xs ++ zs)
behind q xs ys zs same = groups-append q xs ys ∙ ap (joined (groups q xs)) same ∙ sym (groups-append q xs zs)
