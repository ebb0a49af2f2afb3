-- What entries make of rows that are held, and of those that a state stands for.
use Rattle.std.proofs.Common.{◌≡◌, ℕ, ◌≤◌, Bool, true, false, List, [], ◌∷◌, ◌++◌, ◌<◌, ◌^◌, ◌==◌, ◌&&◌, length, map, ℤ, refl, sym, ap, subst, ◌∙◌, true≢false, arith}
use Rattle.std.specs.Prelude.{Result, Ok, Err, IfErr, int_le}
use Rattle.std.specs.List.{list_all}
use Rattle.std.specs.declared.cmp.Ordering.{Ordering}
use Rattle.std.specs.declared.cmp.Ordering.TheVariants.{Less, Equal, Greater}
use Rattle.std.proofs.lemmas.Bool.{eqb-true}
use Rattle.std.proofs.lemmas.List.{append-nil}
use Rattle.row_model.specs.declared.rows.Row.{Row}
use Rattle.leaf_model.specs.declared.queries.Query.{Query}
use Rattle.leaf_model.specs.declared.groups.Group.{Group}
use Rattle.leaf_model.specs.declared.groups.Key.{Key}
use Rattle.leaf_model.specs.Content.{rows_from}
use Rattle.leaf_model.specs.Groups.{groups, keys_cmp}
use Rattle.group_table.specs.Joined.{joined, next_of}
use Rattle.group_table.proofs.Laws.{groups-append, joined-nil}
use Rattle.standing_query.specs.declared.fed.Fed.{Fed}
use Rattle.standing_query.specs.declared.fed.Fed.TheVariants.{Added, Expired, Kept, Opened, Closed, Other}
use Rattle.standing_query.specs.Spread.{spread, time_in}
use Rattle.standing_query.specs.States.{FedTo, IsSpread}
use Rattle.standing_query.specs.Parts.{AreParts, GoesOn, HoldsParts, IsCut, IsKept, all_joined, groups_from}
use Rattle.standing_query.proofs.Expired.{groups_kept}
use Rattle.standing_query.proofs.Held.{expired_held, parts_joined}

pub err_of : {T E P : Type 0} (r : Result T E) → P → IfErr r (λ _. P)
err_of (Ok x) p = tt
err_of (Err e) p = p

-- the parts behind an expiry
pub expired_goes : (s q : Query) → s ≡ spread q → (fed : Fed) (h : ℤ) (list now : List (List Group)) (most : ℕ) (before : List Row) (z : ℤ) → fed ≡ Expired h → now ≡ map (groups_from z) list → z ≡ h
    → HoldsParts s list most before → (rows : List Row) × GoesOn fed before rows × HoldsParts s now most rows
expired_goes s q of fed h list now most before z is left same held = (
  rows_from h before,
  subst (λ (f : Fed). GoesOn f before (rows_from h before)) (sym is) refl,
  expired_held s q of h list now most before (left ∙ ap (λ (t : ℤ). map (groups_from t) list) same) held,
)

pub cut_as : (rows given kept left : List Row) (late : ℕ) → rows ≡ given → left ≡ kept → IsCut rows late kept → IsCut given late left
cut_as rows given kept left late same stay cut = subst (λ (rs : List Row). IsCut rs late left) same (subst (IsCut rows late) (sym stay) cut)

from_groups : (q : Query) (h : ℤ) (rows : List Row) → groups_from h (groups (spread q) rows) ≡ groups (spread q) (rows_from h rows)
from_groups q h rows = groups_kept (λ (ks : List Key). int_le h (time_in ks)) (spread q) (λ (row : Row). int_le h row.time) (λ row. refl) rows

-- rows with the same groups have the same groups behind an entry
same_behind : (q : Query) (fed : Fed) (mine now_mine theirs now_theirs : List Row) → groups (spread q) mine ≡ groups (spread q) theirs
    → GoesOn fed mine now_mine → FedTo fed theirs now_theirs → groups (spread q) now_mine ≡ groups (spread q) now_theirs
same_behind q (Added rows late) mine now_mine theirs now_theirs same goes fed_to =
    let s = spread q in
    let added = rows_from fed_to.0 rows in
    ap (groups s) (goes.2 ∙ ap (λ (rs : List Row). mine ++ rs) (goes.1 fed_to.0 fed_to.1)) ∙ groups-append s mine added
    ∙ ap (λ (gs : List Group). joined gs (groups s added)) same
    ∙ sym (ap (groups s) fed_to.2 ∙ groups-append s theirs added)
same_behind q (Expired h) mine now_mine theirs now_theirs same goes fed_to =
    ap (groups (spread q)) goes ∙ sym (from_groups q h mine) ∙ ap (groups_from h) same ∙ from_groups q h theirs ∙ sym (ap (groups (spread q)) fed_to)
same_behind q (Kept removed) mine now_mine theirs now_theirs same goes fed_to = ap (groups (spread q)) goes ∙ same ∙ sym (ap (groups (spread q)) fed_to)
same_behind q Opened mine now_mine theirs now_theirs same goes fed_to = ap (groups (spread q)) goes ∙ same ∙ sym (ap (groups (spread q)) fed_to)
same_behind q Closed mine now_mine theirs now_theirs same goes fed_to = ap (groups (spread q)) goes ∙ same ∙ sym (ap (groups (spread q)) fed_to)
same_behind q Other mine now_mine theirs now_theirs same goes fed_to = ap (groups (spread q)) goes ∙ same ∙ sym (ap (groups (spread q)) fed_to)

module _ (s q : Query) (of : s ≡ spread q) where
  told : (list : List (List Group)) (most : ℕ) (rows : List Row) → HoldsParts s list most rows → all_joined list ≡ groups (spread q) rows
  told list most rows held = parts_joined s list rows held.are ∙ ap (λ (t : Query). groups t rows) of

  -- what a state means goes on as its parts do
  pub means_on : (fed : Fed) (list now_list : List (List Group)) (most now_most : ℕ) (mine now_mine rows now : List Row) → HoldsParts s list most mine → HoldsParts s now_list now_most now_mine
      → GoesOn fed mine now_mine → all_joined list ≡ groups (spread q) rows → FedTo fed rows now → all_joined now_list ≡ groups (spread q) now
  means_on fed list now_list most now_most mine now_mine rows now held now_held goes means fed_to =
      told now_list now_most now_mine now_held ∙ same_behind q fed mine now_mine rows now (sym (told list most mine held) ∙ means) goes fed_to

-- what is asked of the parts of a state, and what is left of these where they are let go
pub fresh_kept : (q s : Query) (stale now_stale : Bool) (most now_most : ℕ) (list now_list : List (List Group)) (capacity now_capacity : ℕ) (rows : List Row)
    → IsKept q s stale most list capacity → now_stale ≡ false → capacity ≤ now_capacity → HoldsParts s now_list now_most rows → IsKept q s now_stale now_most now_list now_capacity
fresh_kept q s stale now_stale most now_most list now_list capacity now_capacity rows kept fresh room held = record {
  of = kept.of;
  none = λ gone. absurd (true≢false (sym gone ∙ fresh));
  room = let some = kept.room in omega (arith, some, room);
  rows = rows;
  holds = held;
}

pub none_kept : (q s : Query) (now_stale : Bool) (now_most : ℕ) (now_list : List (List Group)) (now_capacity : ℕ) → s ≡ spread q → now_list ≡ [] → now_most ≤ 2 ^ 62 → 0 < now_capacity
    → IsKept q s now_stale now_most now_list now_capacity
none_kept q s now_stale now_most now_list now_capacity of empty bound room = record {
  of = of;
  none = λ _. empty;
  room = room;
  rows = [];
  holds = record { are = subst (AreParts s []) (sym empty) refl; few = omega arith; bound = bound };
}

-- the parts of groups that a caller gives
pub settled_kept : (q s : Query) (now_stale : Bool) (now_list : List (List Group)) (gs : List Group) (now_capacity : ℕ) → s ≡ spread q → now_stale ≡ false → now_list ≡ gs ∷ [] → IsSpread q gs → 0 < now_capacity
    → IsKept q s now_stale (2 ^ 40) now_list now_capacity
settled_kept q s now_stale now_list gs now_capacity of fresh are given room = record {
  of = of;
  none = λ gone. absurd (true≢false (sym gone ∙ fresh));
  room = room;
  rows = given.rows;
  holds = record {
    are = subst (AreParts s given.rows) (sym are) (given.rows, [], sym (append-nil given.rows), given.is ∙ ap (λ (t : Query). groups t given.rows) (sym of), refl);
    few = given.few;
    bound = omega arith;
  };
}

pub one_joined : (now_list : List (List Group)) (gs : List Group) → now_list ≡ gs ∷ [] → all_joined now_list ≡ gs
one_joined now_list gs are = ap all_joined are ∙ joined-nil gs

-- ---- parts of which none has a group

some_first : (n : ℕ) (b more : Bool) → (n == 0) ≡ b → 0 < n → (b && more) ≡ true → ⊥
some_first n true more e some all = absurd (omega (arith, eqb-true n 0 e, some))
some_first n false more e some all = true≢false (sym all)

pub none_told : (list : List (List Group)) → list_all (λ (part : List Group). length part == 0) list ≡ true → all_joined list ≡ []
none_told [] all = refl
none_told ([] ∷ ps) all = none_told ps all
none_told ((g ∷ gs) ∷ ps) all =
    absurd (some_first (length (g ∷ gs)) (length (g ∷ gs) == 0) (list_all (λ (part : List Group). length part == 0) ps) refl (omega arith) all)

some_next : (o : Ordering) (a b : Group) (left both right : List Group) → next_of o a b left both right ≡ [] → ⊥
some_next Less a b left both right e = cc
some_next Equal a b left both right e = cc
some_next Greater a b left both right e = cc

some_joined : (g : Group) (gs hs : List Group) → joined (g ∷ gs) hs ≡ [] → ⊥
some_joined g gs [] e = cc
some_joined g gs (h ∷ hs) e = some_next (keys_cmp g.keys h.keys) g h (joined gs (h ∷ hs)) (joined gs hs) (joined (g ∷ gs) hs) e

pub some_told : (list : List (List Group)) → list_all (λ (part : List Group). length part == 0) list ≡ false → all_joined list ≡ [] → ⊥
some_told [] some e = true≢false some
some_told ([] ∷ ps) some e = some_told ps some e
some_told ((g ∷ gs) ∷ ps) some e = some_joined g gs (all_joined ps) e
