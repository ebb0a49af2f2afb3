-- Groups one behind the other.
use Rattle.std.proofs.Common.{◌≡◌, ℕ, suc, ◌+◌, ◌-◌, length, slice_get, Some, List, [], ◌∷◌, ◌++◌, refl, sym, ap, subst, ◌∙◌, arith}
use Rattle.std.specs.List.{AllByRecursion}
use Rattle.std.proofs.lemmas.Option.{none-some, same_Some}
use Rattle.std.specs.declared.cmp.Ordering.{Ordering}
use Rattle.std.specs.declared.cmp.Ordering.TheVariants.{Less}
use Rattle.row_model.specs.declared.rows.Row.{Row}
use Rattle.leaf_model.specs.declared.queries.Query.{Query}
use Rattle.leaf_model.specs.declared.groups.Group.{Group}
use Rattle.leaf_model.specs.Groups.{groups, keys_cmp}
use Rattle.group_table.specs.Joined.{IsWithin, joined, next_of}
use Rattle.group_table.specs.Table.{Above, Ascends, keys_in}
use Rattle.group_table.proofs.Laws.{chain, groups-append, groups_ascend, joined-nil}
use Rattle.group_table.proofs.Within.{groups_grow}
use Rattle.block_scan.specs.Slots.{EndsBelow}
use Rattle.block_scan.proofs.Lists.{all_append}

-- keys below those that are below the first of the others
below_all : (a c : Group) (front back : List Group) → Above a.keys (keys_in (c ∷ front)) → EndsBelow (c ∷ front) back → (b : Group) (rest : List Group) → back ≡ b ∷ rest → keys_cmp a.keys b.keys ≡ Less
below_all a c [] [] above ends b rest is = absurd ends
below_all a c [] (d ∷ back) above ends b rest is =
    subst (λ (l : List Group). FirstAbove a l) is (chain a.keys c.keys d.keys above.0 ends)
  where
    FirstAbove : Group → List Group → Type 0
    FirstAbove x [] = Unit
    FirstAbove x (y ∷ ys) = keys_cmp x.keys y.keys ≡ Less
below_all a c (e ∷ front) back above ends b rest is = below_all a e front back above.1 ends b rest is

-- where the one ends below the other, joining them is appending
pub appended : (front back : List Group) → Ascends (keys_in front) → EndsBelow front back → joined front back ≡ front ++ back
appended [] back up ends = absurd ends
appended (a ∷ []) [] up ends = absurd ends
appended (a ∷ []) (b ∷ back) up ends = ap (λ (o : Ordering). next_of o a b (b ∷ back) back (joined (a ∷ []) back)) ends
appended (a ∷ (c ∷ front)) [] up ends = joined-nil (a ∷ (c ∷ front)) ∙ sym (ap (λ (l : List Group). a ∷ l) (all (c ∷ front)))
  where
    all : (gs : List Group) → gs ++ [] ≡ gs
    all [] = refl
    all (g ∷ gs) = ap (λ (l : List Group). g ∷ l) (all gs)
appended (a ∷ (c ∷ front)) (b ∷ back) up ends =
    let less = below_all a c front (b ∷ back) up.0 ends b back refl in
    ap (λ (o : Ordering). next_of o a b (joined (c ∷ front) (b ∷ back)) (joined (c ∷ front) back) (joined (a ∷ (c ∷ front)) back)) less
    ∙ ap (λ (l : List Group). a ∷ l) (appended (c ∷ front) (b ∷ back) up.1 ends)

pub both_appended : (q : Query) (xs ys : List Row) (front back : List Group) → front ≡ groups q xs → back ≡ groups q ys → EndsBelow front back → front ++ back ≡ groups q (xs ++ ys)
both_appended q xs ys front back mine theirs ends =
    sym (appended front back (subst (λ (l : List Group). Ascends (keys_in l)) (sym mine) (groups_ascend q xs)) ends)
    ∙ (λ i. joined (mine i) (theirs i)) ∙ sym (groups-append q xs ys)

pub both_within : (m n : ℕ) (front back : List Group) → AllByRecursion (IsWithin m) front → AllByRecursion (IsWithin n) back → AllByRecursion (IsWithin (m + n)) (front ++ back)
both_within m n front back mine theirs =
    all_append (IsWithin (m + n)) front back (groups_grow m (m + n) front (omega arith) mine) (groups_grow n (m + n) back (omega arith) theirs)

pub ends : (front back : List Group) (a b : Group) → Some a ≡ slice_get front (length front - 1) → Some b ≡ slice_get back 0 → keys_cmp a.keys b.keys ≡ Less → EndsBelow front back
ends [] back a b last first less = absurd (none-some a (sym last))
ends (c ∷ []) [] a b last first less = absurd (none-some b (sym first))
ends (c ∷ []) (d ∷ back) a b last first less =
    let mine : a ≡ c = same_Some a c last in
    let theirs : b ≡ d = same_Some b d first in
    (λ i. keys_cmp (sym mine i).keys (sym theirs i).keys) ∙ less
ends (c ∷ (e ∷ front)) back a b last first less =
    let place : length (c ∷ (e ∷ front)) - 1 ≡ suc (length (e ∷ front) - 1) = omega arith in
    ends (e ∷ front) back a b (last ∙ ap (slice_get (c ∷ (e ∷ front))) place) first less
