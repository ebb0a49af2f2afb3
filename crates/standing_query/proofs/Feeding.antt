-- What a state means goes on by an entry, and the groups that it tells are those of the rows that it means.
use Rattle.std.proofs.Common.{◌≡◌, ℕ, ◌≤◌, ◌^◌, Bool, List, length, sym, ap, subst, ◌∙◌, arith}
use Rattle.std.specs.List.{AllByRecursion, flat_map}
use Rattle.row_model.specs.declared.rows.Row.{Row}
use Rattle.leaf_model.specs.declared.queries.Query.{Query}
use Rattle.leaf_model.specs.declared.groups.Group.{Group}
use Rattle.leaf_model.specs.Groups.{groups}
use Rattle.row_model.specs.Values.{IsTime}
use Rattle.standing_query.specs.declared.fed.Fed.{Fed}
use Rattle.standing_query.specs.Spread.{back, rows_shown, spread}
use Rattle.standing_query.specs.States.{FedTo, IsSpread, Means, StandingState}
use Rattle.standing_query.specs.Parts.{GoesOn, HoldsParts, IsKept, all_joined}
use Rattle.standing_query.proofs.Enough.{enough}
use Rattle.standing_query.proofs.Going.{means_on}
use Rattle.standing_query.proofs.Held.{parts_stood}

module _ (v : StandingState) (q s : Query) (upto : ℕ) (stale : Bool) (most : ℕ) (list : List (List Group)) (capacity : ℕ) (kept : IsKept q s stale most list capacity)
    (view_is : record { query = q; upto = upto; stale = stale; groups = all_joined list } ≡ v) where
  means_here : (rows : List Row) → Means v rows → all_joined list ≡ groups (spread q) rows
  means_here rows means =
      ap (λ (t : StandingState). t.groups) view_is ∙ means.1 ∙ ap (λ (t : StandingState). groups (spread t.query) rows) (sym view_is)

  pub feed_means : (fed : Fed) (now_most : ℕ) (now_list : List (List Group)) (rows now : List Row)
      → ((before : List Row) → HoldsParts s list most before → (after : List Row) × GoesOn fed before after × HoldsParts s now_list now_most after)
      → Means v rows → FedTo fed rows now → all_joined now_list ≡ groups (spread q) now
  feed_means fed now_most now_list rows now goes means fed_to =
      let after = goes kept.rows kept.holds in
      means_on s q kept.of fed list now_list most now_most kept.rows after.0 rows now kept.holds after.2 after.1 (means_here rows means) fed_to

  pub given_here : (gs : List Group) → IsSpread v.query gs → IsSpread q gs
  given_here gs given = subst (λ (t : StandingState). IsSpread t.query gs) (sym view_is) given

  pub few_stood : (names : List (List ℕ)) → length (flat_map (rows_shown names) list) ≤ 2 ^ 62
  few_stood names =
      let stood = parts_stood names s list kept.rows kept.holds.are in
      let few = kept.holds.few in
      let bound = kept.holds.bound in
      omega (arith, stood, few, bound)

  pub tells : (rows : List Row) → Means v rows → AllByRecursion (λ (row : Row). IsTime row.time) rows → back q (all_joined list) ≡ groups v.query rows
  tells rows means times =
      ap (back q) (means_here rows means) ∙ enough q rows times ∙ ap (λ (t : StandingState). groups t.query rows) view_is
