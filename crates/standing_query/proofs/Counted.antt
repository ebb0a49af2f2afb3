-- How many rows the groups of a spread stand for, and that they are within these.
use Rattle.std.proofs.Common.{◌≡◌, ℕ, suc, ◌+◌, ◌≤◌, Bool, true, false, List, [], ◌∷◌, length, map, refl, sym, ap, subst, ◌∙◌, arith, length-append}
use Rattle.std.specs.Prelude.{replicate}
use Rattle.std.specs.List.{AllByRecursion}
use Rattle.std.proofs.lemmas.Int.{ints}
use Rattle.std.proofs.lemmas.List.{length-replicate}
use Rattle.std.specs.declared.cmp.Ordering.{Ordering}
use Rattle.std.specs.declared.cmp.Ordering.TheVariants.{Less, Equal, Greater}
use Rattle.row_model.specs.declared.rows.Row.{Row}
use Rattle.leaf_model.specs.declared.queries.Agg.{Agg}
use Rattle.leaf_model.specs.declared.queries.Agg.TheVariants.{Count}
use Rattle.leaf_model.specs.declared.queries.Query.{Query}
use Rattle.leaf_model.specs.declared.groups.Group.{Group}
use Rattle.leaf_model.specs.Groups.{agg_ints, fold_of, groups, keys_cmp, passes}
use Rattle.group_table.specs.Joined.{IsFoldWithin, IsWithin, joined, joined_group, next_of}
use Rattle.group_table.proofs.Laws.{groups-append, no_row, one_row, single}
use Rattle.group_table.proofs.Within.{joined_within}
use Rattle.standing_query.specs.Spread.{row_shown, rows_shown}

-- ---- a query that counts alone

module _ (q : Query) (counts : q.aggs ≡ Count ∷ []) where
  no_fold : IsFoldWithin 1 (fold_of [])
  no_fold = record { seen = omega arith; low = omega (arith, ints); high = omega (arith, ints) }

  single_within : (row : Row) → IsWithin 1 (single q row)
  single_within row = record {
    count = omega arith;
    folds = subst (λ (aggs : List Agg). AllByRecursion (IsFoldWithin 1) (map (λ agg. fold_of (agg_ints agg (row ∷ []))) aggs)) (sym counts) (no_fold, tt);
  }

  one_within : (row : Row) (x : Bool) → passes q row ≡ x → AllByRecursion (IsWithin 1) (groups q (row ∷ []))
  one_within row true h = subst (AllByRecursion (IsWithin 1)) (sym (one_row q row h)) (single_within row, tt)
  one_within row false h = subst (AllByRecursion (IsWithin 1)) (sym (no_row q row h)) tt

  pub count_within : (rows : List Row) → AllByRecursion (IsWithin (length rows)) (groups q rows)
  count_within [] = tt
  count_within (row ∷ rows) =
      let more : 1 + length rows ≡ suc (length rows) = omega arith in
      subst (λ (n : ℕ). AllByRecursion (IsWithin n) (groups q (row ∷ rows))) more
      (subst (AllByRecursion (IsWithin (1 + length rows))) (sym (groups-append q (row ∷ []) rows))
      (joined_within 1 (length rows) (groups q (row ∷ [])) (groups q rows) (one_within row (passes q row) refl) (count_within rows)))

-- ---- the rows that groups stand for

module _ (names : List (List ℕ)) where
  abbrev stood : List Group → ℕ
  stood gs = length (rows_shown names gs)

  first_stood : (g : Group) (gs : List Group) → stood (g ∷ gs) ≡ g.count + stood gs
  first_stood g gs =
      length-append (replicate g.count (row_shown names g.keys)) (rows_shown names gs)
      ∙ ap (λ (n : ℕ). n + stood gs) (length-replicate g.count (row_shown names g.keys))

  next_stood : (a b : Group) (m n : ℕ) (left both right : List Group) (o : Ordering) → stood left ≡ m + (b.count + n) → stood both ≡ m + n → stood right ≡ (a.count + m) + n
      → stood (next_of o a b left both right) ≡ (a.count + m) + (b.count + n)
  next_stood a b m n left both right Less l s r = let first = first_stood a left in omega (arith, first, l)
  next_stood a b m n left both right Equal l s r = let first = first_stood (joined_group a b) both in omega (arith, first, s)
  next_stood a b m n left both right Greater l s r = let first = first_stood b right in omega (arith, first, r)

  abbrev Adds : List Group → List Group → Type 0
  Adds as_ bs = stood (joined as_ bs) ≡ stood as_ + stood bs

  from_stood : (a : Group) (as_ : List Group) → ((bs : List Group) → Adds as_ bs) → (bs : List Group) → Adds (a ∷ as_) bs
  from_stood a as_ ih [] =
      let first = first_stood a as_ in
      let joined_first = first_stood a (joined as_ []) in
      let rest = ih [] in
      omega (arith, first, joined_first, rest)
  from_stood a as_ ih (b ∷ bs) =
      let mine = first_stood a as_ in
      let theirs = first_stood b bs in
      let left : stood (joined as_ (b ∷ bs)) ≡ stood as_ + (b.count + stood bs) = ih (b ∷ bs) ∙ ap (λ (n : ℕ). stood as_ + n) theirs in
      let right : stood (joined (a ∷ as_) bs) ≡ (a.count + stood as_) + stood bs = from_stood a as_ ih bs ∙ ap (λ (n : ℕ). n + stood bs) mine in
      let next = next_stood a b (stood as_) (stood bs) (joined as_ (b ∷ bs)) (joined as_ bs) (joined (a ∷ as_) bs) (keys_cmp a.keys b.keys) left (ih bs) right in
      omega (arith, mine, theirs, next)

  joined_stood : (as_ bs : List Group) → Adds as_ bs
  joined_stood [] bs = omega arith
  joined_stood (a ∷ as_) bs = from_stood a as_ (joined_stood as_) bs

  one_stood : (q : Query) (row : Row) (x : Bool) → passes q row ≡ x → stood (groups q (row ∷ [])) ≤ 1
  one_stood q row true h = let first = first_stood (single q row) [] in rw (one_row q row h) (omega (arith, first))
  one_stood q row false h = rw (no_row q row h) (omega arith)

  -- groups of rows stand for no more than there are
  pub groups_stood : (q : Query) (rows : List Row) → stood (groups q rows) ≤ length rows
  groups_stood q [] = omega arith
  groups_stood q (row ∷ rows) =
      let here = one_stood q row (passes q row) refl in
      let both = joined_stood (groups q (row ∷ [])) (groups q rows) in
      let all = ap stood (groups-append q (row ∷ []) rows) in
      let more = groups_stood q rows in
      omega (arith, here, both, all, more)
