-- The rows that joined groups stand for are those of both lists, for every query.
use Rattle.std.proofs.Common.{◌≡◌, ℕ, List, [], ◌∷◌, ◌++◌, refl, sym, ap, ◌∙◌}
use Rattle.std.specs.Prelude.{replicate}
use Rattle.std.specs.declared.cmp.Ordering.{Ordering}
use Rattle.std.specs.declared.cmp.Ordering.TheVariants.{Less, Equal, Greater}
use Rattle.std.proofs.lemmas.List.{append_assoc, replicate-append-replicate}
use Rattle.row_model.specs.declared.rows.Row.{Row}
use Rattle.leaf_model.specs.declared.queries.Query.{Query}
use Rattle.leaf_model.specs.declared.groups.Key.{Key}
use Rattle.leaf_model.specs.declared.groups.Group.{Group}
use Rattle.leaf_model.specs.Groups.{groups, keys_cmp}
use Rattle.leaf_model.proofs.KeyOrder.{exact_keys}
use Rattle.group_table.specs.Joined.{joined, joined_group, next_of}
use Rattle.standing_query.specs.Spread.{row_shown, rows_shown}
use Rattle.standing_query.proofs.Moving.{behind, swapped}

module _ (q : Query) (names : List (List ℕ)) where
  abbrev stand : List Group → List Row
  stand gs = rows_shown names gs

  abbrev of : Group → List Row
  of g = replicate g.count (row_shown names g.keys)

  -- what is joined and what stands apart have the same groups
  abbrev Alike : List Group → List Group → List Group → Type 0
  Alike both as_ bs = groups q (stand both) ≡ groups q (stand as_ ++ stand bs)

  both_of : (a b : Group) → keys_cmp a.keys b.keys ≡ Equal → of (joined_group a b) ≡ of a ++ of b
  both_of a b tie =
      sym (replicate-append-replicate a.count b.count (row_shown names a.keys))
      ∙ ap (λ (ks : List Key). of a ++ replicate b.count (row_shown names ks)) (exact_keys a.keys b.keys tie)

  first_alike : (a : Group) (as_ bs more : List Group) → Alike more as_ bs → Alike (a ∷ more) (a ∷ as_) bs
  first_alike a as_ bs more same =
      behind q (of a) (stand more) (stand as_ ++ stand bs) same ∙ ap (groups q) (sym (append_assoc (of a) (stand as_) (stand bs)))

  both_alike : (a b : Group) (as_ bs more : List Group) → keys_cmp a.keys b.keys ≡ Equal → Alike more as_ bs → Alike (joined_group a b ∷ more) (a ∷ as_) (b ∷ bs)
  both_alike a b as_ bs more tie same =
      ap (λ (rows : List Row). groups q (rows ++ stand more)) (both_of a b tie)
      ∙ ap (groups q) (append_assoc (of a) (of b) (stand more))
      ∙ behind q (of a) (of b ++ stand more) (stand as_ ++ (of b ++ stand bs))
      (behind q (of b) (stand more) (stand as_ ++ stand bs) same ∙ swapped q (of b) (stand as_) (stand bs))
      ∙ ap (groups q) (sym (append_assoc (of a) (stand as_) (of b ++ stand bs)))

  last_alike : (b : Group) (as_ bs more : List Group) → Alike more as_ bs → Alike (b ∷ more) as_ (b ∷ bs)
  last_alike b as_ bs more same = behind q (of b) (stand more) (stand as_ ++ stand bs) same ∙ swapped q (of b) (stand as_) (stand bs)

  next_alike : (a b : Group) (as_ bs left both right : List Group) (o : Ordering) → keys_cmp a.keys b.keys ≡ o
      → Alike left as_ (b ∷ bs) → Alike both as_ bs → Alike right (a ∷ as_) bs → Alike (next_of o a b left both right) (a ∷ as_) (b ∷ bs)
  next_alike a b as_ bs left both right Less tie l s r = first_alike a as_ (b ∷ bs) left l
  next_alike a b as_ bs left both right Equal tie l s r = both_alike a b as_ bs both tie s
  next_alike a b as_ bs left both right Greater tie l s r = last_alike b (a ∷ as_) bs right r

  from_alike : (a : Group) (as_ : List Group) → ((bs : List Group) → Alike (joined as_ bs) as_ bs) → (bs : List Group) → Alike (joined (a ∷ as_) bs) (a ∷ as_) bs
  from_alike a as_ ih [] = first_alike a as_ [] (joined as_ []) (ih [])
  from_alike a as_ ih (b ∷ bs) =
      next_alike a b as_ bs (joined as_ (b ∷ bs)) (joined as_ bs) (joined (a ∷ as_) bs) (keys_cmp a.keys b.keys) refl (ih (b ∷ bs)) (ih bs) (from_alike a as_ ih bs)

  pub joined_stand : (as_ bs : List Group) → groups q (stand (joined as_ bs)) ≡ groups q (stand as_ ++ stand bs)
  joined_stand [] bs = refl
  joined_stand (a ∷ as_) bs = from_alike a as_ (joined_stand as_) bs
