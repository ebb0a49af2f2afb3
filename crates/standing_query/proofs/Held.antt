-- Parts of some rows: the last two merged, one more, what an expiry leaves, and what all of them tell.
use Rattle.std.proofs.Common.{◌≡◌, ℕ, ◌+◌, ◌≤◌, ◌^◌, List, [], ◌∷◌, ◌++◌, length, map, ℤ, refl, sym, ap, ap₂, subst, ◌∙◌, arith, length-append}
use Rattle.std.specs.Prelude.{Bool, int_le, not}
use Rattle.std.specs.List.{AllByRecursion, flat_map}
use Rattle.std.proofs.lemmas.List.{append_assoc, append-nil}
use Rattle.std.proofs.lemmas.List.Elements.{filter-append}
use Rattle.std.proofs.lemmas.List.Filters.{length-filter_both}
use Rattle.row_model.specs.declared.rows.Row.{Row}
use Rattle.leaf_model.specs.declared.queries.Agg.TheVariants.{Count}
use Rattle.leaf_model.specs.declared.queries.Query.{Query}
use Rattle.leaf_model.specs.declared.groups.Key.{Key}
use Rattle.leaf_model.specs.declared.groups.Group.{Group}
use Rattle.leaf_model.specs.Content.{rows_from}
use Rattle.leaf_model.specs.Groups.{groups}
use Rattle.group_table.specs.Joined.{FitsGroup, IsWithin, joined}
use Rattle.group_table.proofs.Laws.{groups-append}
use Rattle.group_table.proofs.Within.{joined_fit}
use Rattle.standing_query.specs.Spread.{rows_shown, spread, time_in}
use Rattle.standing_query.specs.Parts.{AreCounted, AreParts, HoldsParts, all_joined, groups_from}
use Rattle.standing_query.proofs.Counted.{count_within, groups_stood}
use Rattle.standing_query.proofs.Expired.{groups_kept}
use Rattle.standing_query.proofs.Moving.{behind}
use Rattle.standing_query.proofs.Stood.{joined_stand}

within_front : (rows front behind : List Row) → rows ≡ front ++ behind → length rows ≡ length front + length behind
within_front rows front behind are = ap (λ (rs : List Row). length rs) are ∙ length-append front behind

-- ---- the last two

last_fit : (q : Query) → q.aggs ≡ Count ∷ [] → (list : List (List Group)) (before last : List Group) (rows : List Row) → length rows ≤ 2 ^ 62
    → AreParts q rows (list ++ before ∷ last ∷ []) → AllByRecursion FitsGroup (joined before last)
last_fit q counts [] before last rows few parts =
    let more = parts.4 in
    let all = within_front rows parts.0 parts.1 parts.2 in
    let rest = within_front parts.1 more.0 more.1 more.2 in
    joined_fit (length parts.0) (length more.0) before last (omega (arith, all, rest, few))
    (subst (λ (gs : List Group). AllByRecursion (IsWithin (length parts.0)) gs) (sym parts.3) (count_within q counts parts.0))
    (subst (λ (gs : List Group). AllByRecursion (IsWithin (length more.0)) gs) (sym more.3) (count_within q counts more.0))
last_fit q counts (p ∷ ps) before last rows few parts =
    let all = within_front rows parts.0 parts.1 parts.2 in
    last_fit q counts ps before last parts.1 (omega (arith, all, few)) parts.4

last_merged : (q : Query) (list : List (List Group)) (before last now : List Group) (rows : List Row)
    → ((xs ys : List Row) → before ≡ groups q xs → last ≡ groups q ys → now ≡ groups q (xs ++ ys))
    → AreParts q rows (list ++ before ∷ last ∷ []) → AreParts q rows (list ++ now ∷ [])
last_merged q [] before last now rows both parts =
    let more = parts.4 in (
      parts.0 ++ more.0,
      [],
      parts.2 ∙ ap (λ (rs : List Row). parts.0 ++ rs) (more.2 ∙ ap (λ (rs : List Row). more.0 ++ rs) more.4) ∙ sym (append_assoc parts.0 more.0 []),
      both parts.0 more.0 parts.3 more.3,
      refl,
    )
last_merged q (p ∷ ps) before last now rows both parts = (parts.0, parts.1, parts.2, parts.3, last_merged q ps before last now parts.1 both parts.4)

module _ (was list : List (List Group)) (before last : List Group) (popped : was ≡ list ++ before ∷ []) where
  apart : was ++ last ∷ [] ≡ list ++ before ∷ last ∷ []
  apart = ap (λ (ps : List (List Group)). ps ++ last ∷ []) popped ∙ append_assoc list (before ∷ []) (last ∷ [])

  pub two_fit : AreCounted (was ++ last ∷ []) → AllByRecursion FitsGroup (joined before last)
  two_fit counted = last_fit counted.query counted.counts list before last counted.rows counted.few (subst (AreParts counted.query counted.rows) apart counted.are)

  module _ (now : List Group) (both : (q : Query) (xs ys : List Row) → before ≡ groups q xs → last ≡ groups q ys → now ≡ groups q (xs ++ ys)) where
    pub two_merged : (q : Query) (rows : List Row) → AreParts q rows (was ++ last ∷ []) → AreParts q rows (list ++ now ∷ [])
    two_merged q rows parts = last_merged q list before last now rows (both q) (subst (AreParts q rows) apart parts)

    pub still_counted : AreCounted (was ++ last ∷ []) → AreCounted (list ++ now ∷ [])
    still_counted counted =
        record { query = counted.query; counts = counted.counts; rows = counted.rows; are = two_merged counted.query counted.rows counted.are; few = counted.few }

-- ---- one more

pushed : (q : Query) (list : List (List Group)) (part : List Group) (rows kept : List Row) → part ≡ groups q kept → AreParts q rows list → AreParts q (rows ++ kept) (list ++ part ∷ [])
pushed q [] part rows kept is parts = (kept, [], ap (λ (rs : List Row). rs ++ kept) parts ∙ sym (append-nil kept), is, refl)
pushed q (p ∷ ps) part rows kept is parts = (
  parts.0,
  parts.1 ++ kept,
  ap (λ (rs : List Row). rs ++ kept) parts.2 ∙ append_assoc parts.0 parts.1 kept,
  parts.3,
  pushed q ps part parts.1 kept is parts.4,
)

module _ (s : Query) (list : List (List Group)) (most : ℕ) (part : List Group) (kept : List Row) (is : part ≡ groups s kept) where
  pub pushed_counted : (q : Query) → s ≡ spread q → (rows : List Row) → HoldsParts s list most rows → most + length kept ≤ 2 ^ 62 → AreCounted (list ++ part ∷ [])
  pushed_counted q of rows held few = record {
    query = s;
    counts = ap (λ (t : Query). t.aggs) of;
    rows = rows ++ kept;
    are = pushed s list part rows kept is held.are;
    few = let both = length-append rows kept in let most_rows = held.few in omega (arith, both, most_rows, few);
  }

  pub pushed_held : (rows : List Row) (now : List (List Group)) → ((rs : List Row) → AreParts s rs (list ++ part ∷ []) → AreParts s rs now) → most + length kept ≤ 2 ^ 62
      → HoldsParts s list most rows → HoldsParts s now (most + length kept) (rows ++ kept)
  pushed_held rows now stay few held = record {
    are = stay (rows ++ kept) (pushed s list part rows kept is held.are);
    few = let both = length-append rows kept in let most_rows = held.few in omega (arith, both, most_rows);
    bound = few;
  }

-- ---- what an expiry leaves

abbrev is_from : ℤ → List Key → Bool
is_from h ks = int_le h (time_in ks)

abbrev row_from : ℤ → Row → Bool
row_from h row = int_le h row.time

parts_from : (q : Query) (h : ℤ) (list : List (List Group)) (rows : List Row) → AreParts (spread q) rows list → AreParts (spread q) (rows_from h rows) (map (groups_from h) list)
parts_from q h [] rows parts = ap (rows_from h) parts
parts_from q h (p ∷ ps) rows parts = (
  rows_from h parts.0,
  rows_from h parts.1,
  ap (rows_from h) parts.2 ∙ filter-append (row_from h) parts.0 parts.1,
  ap (groups_from h) parts.3 ∙ groups_kept (is_from h) (spread q) (row_from h) (λ row. refl) parts.0,
  parts_from q h ps parts.1 parts.4,
)

pub expired_held : (s q : Query) → s ≡ spread q → (h : ℤ) (list now : List (List Group)) (most : ℕ) (rows : List Row) → now ≡ map (groups_from h) list → HoldsParts s list most rows → HoldsParts s now most (rows_from h rows)
expired_held s q of h list now most rows left held = record {
  are =
      subst (λ (ps : List (List Group)). AreParts s (rows_from h rows) ps) (sym left)
      (subst (λ (t : Query). AreParts t (rows_from h rows) (map (groups_from h) list)) (sym of) (parts_from q h list rows (subst (λ (t : Query). AreParts t rows list) of held.are)));
  few = let fewer = length-filter_both (row_from h) (λ row. not (row_from h row)) (λ row. refl) rows in let few = held.few in omega (arith, fewer, few);
  bound = held.bound;
}

-- ---- all parts

pub parts_joined : (q : Query) (list : List (List Group)) (rows : List Row) → AreParts q rows list → all_joined list ≡ groups q rows
parts_joined q [] rows parts = ap (groups q) (sym parts)
parts_joined q (p ∷ ps) rows parts =
    ap₂ joined parts.3 (parts_joined q ps parts.1 parts.4) ∙ sym (groups-append q parts.0 parts.1) ∙ ap (groups q) (sym parts.2)

pub parts_stood : (names : List (List ℕ)) (q : Query) (list : List (List Group)) (rows : List Row) → AreParts q rows list → length (flat_map (rows_shown names) list) ≤ length rows
parts_stood names q [] rows parts = omega arith
parts_stood names q (p ∷ ps) rows parts =
    let here : length (rows_shown names p) ≤ length parts.0 = subst (λ (gs : List Group). length (rows_shown names gs) ≤ length parts.0) (sym parts.3) (groups_stood names q parts.0) in
    let more = parts_stood names q ps parts.1 parts.4 in
    let both = length-append (rows_shown names p) (flat_map (rows_shown names) ps) in
    let all = within_front rows parts.0 parts.1 parts.2 in
    omega (arith, here, more, both, all)

pub parts_told : (q : Query) (names : List (List ℕ)) (list : List (List Group)) → groups q (flat_map (rows_shown names) list) ≡ groups q (rows_shown names (all_joined list))
parts_told q names [] = refl
parts_told q names (p ∷ ps) =
    behind q (rows_shown names p) (flat_map (rows_shown names) ps) (rows_shown names (all_joined ps)) (parts_told q names ps)
    ∙ sym (joined_stand q names p (all_joined ps))

-- ---- no row, or some

pub none_held : (s : Query) (list : List (List Group)) (most : ℕ) (rows : List Row) → HoldsParts s list most rows → HoldsParts s list most (rows ++ [])
none_held s list most rows held = subst (HoldsParts s list most) (sym (append-nil rows)) held
