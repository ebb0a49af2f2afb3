-- The groups of a query out of parts of those of its spread.
use Rattle.std.proofs.Common.{◌≡◌, ℕ, ◌+◌, ◌<◌, ◌≤◌, ◌^◌, List, [], ◌∷◌, ◌++◌, length, map, take, drop, get_or, sym, ap, subst, ◌∙◌, arith, length-append}
use Rattle.std.specs.Prelude.{replicate}
use Rattle.std.specs.List.{AllByRecursion, flat_map}
use Rattle.std.proofs.lemmas.List.{append-nil, take-append-drop, take_more}
use Rattle.std.proofs.lemmas.List.Folds.{length-flat_map-take}
use Rattle.std.proofs.lemmas.Grind.{flat_map-append}
use Rattle.row_model.specs.declared.rows.Row.{Row}
use Rattle.leaf_model.specs.declared.queries.Query.{Query}
use Rattle.leaf_model.specs.declared.groups.Group.{Group}
use Rattle.leaf_model.specs.Groups.{groups}
use Rattle.group_table.specs.Joined.{FitsGroup, IsWithin, joined}
use Rattle.group_table.proofs.Within.{joined_fit}
use Rattle.standing_query.specs.Spread.{rows_shown}
use Rattle.standing_query.specs.Times.{group_times}
use Rattle.standing_query.proofs.Repeated.{times_are, times_fit, times_within}

-- ---- one row, as often as its group counts

pub record IsOnce (q : Query) (row : Row) (once : List Group) : Type 0 where
  pub value : once ≡ groups q (row ∷ [])
  pub within : AllByRecursion (IsWithin 1) (groups q (row ∷ []))

pub folded_once : (q : Query) (row : Row) (rows : List Row) (once : List Group) → rows ≡ row ∷ [] → once ≡ groups q rows → AllByRecursion (IsWithin (length rows)) once → IsOnce q row once
folded_once q row rows once alone value within =
    let is : once ≡ groups q (row ∷ []) = value ∙ ap (groups q) alone in
    record { value = is; within = subst (AllByRecursion (IsWithin 1)) is (subst (λ (rs : List Row). AllByRecursion (IsWithin (length rs)) once) alone within) }

pub once_fits : (q : Query) (row : Row) (n : ℕ) (once : List Group) → IsOnce q row once → 0 < n → n ≤ 2 ^ 62 → AllByRecursion FitsGroup (map (group_times n) once)
once_fits q row n once o some few = subst (λ (gs : List Group). AllByRecursion FitsGroup (map (group_times n) gs)) (sym o.value) (times_fit q row n some few o.within)

pub once_value : (q : Query) (row : Row) (n : ℕ) (once : List Group) → IsOnce q row once → 0 < n → map (group_times n) once ≡ groups q (replicate n row)
once_value q row n once o some = ap (map (group_times n)) o.value ∙ times_are q row n some

pub once_within : (q : Query) (row : Row) (n : ℕ) (once : List Group) → IsOnce q row once → 0 < n → AllByRecursion (IsWithin n) (map (group_times n) once)
once_within q row n once o some = subst (AllByRecursion (IsWithin n)) (sym (once_value q row n once o some)) (times_within q row n some o.within)

-- ---- the front and the back of some groups

pub apart : (gs front back : List Group) (k : ℕ) → front ≡ take k gs → back ≡ drop k gs → front ++ back ≡ gs
apart gs front back k is_front is_back =
    ap (λ (fs : List Group). fs ++ back) is_front ∙ ap (λ (bs : List Group). take k gs ++ bs) is_back ∙ take-append-drop k gs

pub alone : (gs front back : List Group) → front ++ back ≡ gs → back ≡ [] → front ≡ gs
alone gs front back are none = sym (append-nil front) ∙ ap (λ (bs : List Group). front ++ bs) (sym none) ∙ are

module _ (names : List (List ℕ)) (gs front back : List Group) (are : front ++ back ≡ gs) where
  pub halves : rows_shown names front ++ rows_shown names back ≡ rows_shown names gs
  halves = sym (flat_map-append _ front back) ∙ ap (rows_shown names) are

  pub halves_count : length (rows_shown names front) + length (rows_shown names back) ≡ length (rows_shown names gs)
  halves_count = sym (length-append (rows_shown names front) (rows_shown names back)) ∙ ap (λ (rows : List Row). length rows) halves

  pub halves_fit : (mine theirs : List Group) → length (rows_shown names gs) ≤ 2 ^ 62 → AllByRecursion (IsWithin (length (rows_shown names front))) mine
      → AllByRecursion (IsWithin (length (rows_shown names back))) theirs → AllByRecursion FitsGroup (joined mine theirs)
  halves_fit mine theirs few v w =
      let count = halves_count in
      joined_fit (length (rows_shown names front)) (length (rows_shown names back)) mine theirs (omega (arith, count, few)) v w

-- ---- parts, one after another

module _ (names : List (List ℕ)) (parts : List (List Group)) (i : ℕ) (part : List Group) (inside : i < length parts) (here : part ≡ get_or parts i part) where
  abbrev so_far : List Row
  so_far = flat_map (rows_shown names) (take i parts)

  pub next_count : length so_far + length (rows_shown names part) ≤ length (flat_map (rows_shown names) parts)
  next_count =
      subst (λ (gs : List Group). length so_far + length (rows_shown names gs) ≤ length (flat_map (rows_shown names) parts)) (sym here)
      (length-flat_map-take (rows_shown names) parts i part inside)

  pub next_rows : so_far ++ rows_shown names part ≡ flat_map (rows_shown names) (take (i + 1) parts)
  next_rows = sym (
      ap (flat_map (rows_shown names)) (take_more parts i part inside ∙ ap (λ (gs : List Group). take i parts ++ gs ∷ []) (sym here))
      ∙ flat_map-append (rows_shown names) (take i parts) (part ∷ [])
      ∙ ap (λ (rows : List Row). so_far ++ rows) (append-nil (rows_shown names part)))

  pub next_within : (gs : List Group) → AllByRecursion (IsWithin (length so_far + length (rows_shown names part))) gs
      → AllByRecursion (IsWithin (length (flat_map (rows_shown names) (take (i + 1) parts)))) gs
  next_within gs w =
      subst (λ (n : ℕ). AllByRecursion (IsWithin n) gs) (sym (length-append so_far (rows_shown names part)) ∙ ap (λ (rows : List Row). length rows) next_rows) w
