-- The groups of a query are told by those of its spread.
use Rattle.std.proofs.Common.{◌≡◌, true, List, [], ◌∷◌, refl, sym, ap, ap₂, ◌∙◌, arith}
use Rattle.std.specs.Prelude.{ℤ, pos, negsuc, ◌≤ℤ◌, ◌-◌, ◌^◌, int_le, FitsSigned}
use Rattle.std.specs.Int.{w64}
use Rattle.std.proofs.lemmas.Int.{ints}
use Rattle.std.proofs.lemmas.Bool.{and_from, true_from_ne_false}
use Rattle.row_model.specs.declared.rows.Row.{Row}
use Rattle.leaf_model.specs.declared.queries.Query.{Query}
use Rattle.leaf_model.specs.declared.groups.Group.{Group}
use Rattle.row_model.specs.Values.{IsTime}
use Rattle.leaf_model.specs.Groups.{groups, passes}
use Rattle.group_table.specs.Joined.{joined}
use Rattle.group_table.proofs.Laws.{groups-append, one_row, single}
use Rattle.standing_query.specs.Spread.{IsEnough, back, cells_read, rows_shown, spread}
use Rattle.standing_query.proofs.Stood.{joined_stand}
use Rattle.standing_query.proofs.Alike.{groups_alike}
use Rattle.standing_query.proofs.Showing.{shown_alike, shown_of}

no_earlier : (t : ℤ) → pos 0 ≤ℤ t → int_le (pos 0) t ≡ true
no_earlier t low = true_from_ne_false (int_le (pos 0) t) (λ no. omega (arith, ints, low, no))

no_later : (t : ℤ) → FitsSigned w64 t → int_le t (pos (2 ^ 63 - 1)) ≡ true
no_later (pos n) fits = let below = fits.sfits in true_from_ne_false (int_le (pos n) (pos (2 ^ 63 - 1))) (λ no. omega (arith, ints, below, no))
no_later (negsuc n) fits = true_from_ne_false (int_le (negsuc n) (pos (2 ^ 63 - 1))) (λ no. omega (arith, ints, no))

time_passes : (q : Query) (row : Row) → IsTime row.time → passes (spread q) row ≡ true
time_passes q row time = and_from (int_le (pos 0) row.time) _ (no_earlier row.time time.0) (and_from (int_le row.time (pos (2 ^ 63 - 1))) true (no_later row.time time.1) refl)

-- the groups of a spread with one row more in front
first_joined : (q : Query) (row : Row) (rows : List Row) → IsTime row.time → groups (spread q) (row ∷ rows) ≡ joined (single (spread q) row ∷ []) (groups (spread q) rows)
first_joined q row rows time =
    let s = spread q in
    groups-append s (row ∷ []) rows ∙ ap (λ (gs : List Group). joined gs (groups s rows)) (one_row s row (time_passes q row time))

pub enough : IsEnough
enough q [] all = refl
enough q (row ∷ rows) all =
    let names = cells_read q in
    let others : List Group = groups (spread q) rows in
    ap (back q) (first_joined q row rows all.0)
    ∙ joined_stand q names (single (spread q) row ∷ []) others
    ∙ groups-append q (shown_of q row ∷ []) (rows_shown names others)
    ∙ ap₂ joined (groups_alike q (shown_of q row) row (shown_alike q row)) (enough q rows all.1)
    ∙ sym (groups-append q (row ∷ []) rows)
