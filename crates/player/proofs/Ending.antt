-- The leaves are abandoned one after another, from the last to the first.
use Rattle.std.proofs.Common.{◌≡◌, ◌≢◌, ◌⊎◌, inl, inr, true, false, ℕ, suc, ◌<◌, ◌≤◌, List, [], ◌∷◌, ◌++◌, length, map, Option, Some, None, refl, sym, ap, subst, ◌∙◌, arith, append_assoc, length-append}
use Rattle.std.specs.Prelude.{is_some, slice_get}
use Rattle.std.proofs.lemmas.Bool.{cases_eq}
use Rattle.std.proofs.lemmas.List.{append-nil}
use Rattle.std.proofs.lemmas.Option.{slice_get_within}
use Rattle.berth_face.specs.Berth.{Meaning}
use Rattle.leaf_table.specs.Calls.{SeatView}
use Rattle.leaf_table.specs.Turns.{Shared}
use Rattle.leaf_table.specs.Lists.{row}
use Rattle.leaf_steward.specs.Seated.{Seated}
use Rattle.leaf_steward.proofs.Seating.{same_at}
use Rattle.leaf_moves.specs.Holds.{HasMet, Hold, berth_in}
use Rattle.leaf_moves.specs.Stage.{Leaf, MeetAll}
use Rattle.leaf_deeds.specs.declared.leaf.OneLeaf.{OneLeaf}
use Rattle.player.specs.Crew.{column}
use Rattle.player.specs.Rows.{AreCalled, AreRows, MayMeet, OnlyColumn}
use Rattle.leaf_deeds.specs.Held.{berth_of, seats_of, leaf_state}
use Rattle.player.specs.Stage.{hold_at, own_berth}
use Rattle.player.specs.Members.{holds_from}
use Rattle.player.proofs.Columns.{get_behind, only_rows}

pub no_one : {A : Type 0} (o : Option A) → o ≡ None → is_some o ≡ true → ⊥
no_one o none some = by (ap (λ p. is_some p) (sym none) ∙ some)
  where
    by : false ≡ true → ⊥
    by same = cc

-- the same columns may meet
pub may_still : (leaf : ℕ) (x : Seated) (rows rows' : List (List SeatView)) → ((count size : ℕ) → AreRows count size rows → AreRows count size rows') → column leaf rows' ≡ column leaf rows → MayMeet leaf x rows → MayMeet leaf x rows'
may_still leaf x rows rows' sizes same may = record {
  column = record {
    size = may.column.size;
    sizes = sizes (length x.tables) may.column.size may.column.sizes;
    within = may.column.within;
    few = may.column.few;
    called = subst (λ (seats : List (Option SeatView)). AreCalled (record { tables = x.tables; seats = seats })) (sym same) may.column.called;
  };
  seats = may.seats;
}

-- The leaves behind these were abandoned: each has met, and their berths stand in front of the others.
pub record Abandoned {B : Type 0} (meaning : B → Meaning) (full : List (Option (OneLeaf B))) (first : List (List SeatView)) (old : List B) (leaves : List (Option (OneLeaf B))) (rows : List (List SeatView)) (berths : List B) : Type 0 where
  pub done : List (Option (OneLeaf B))
  pub split : full ≡ leaves ++ done
  pub columns : (other : ℕ) → other < length leaves → column other rows ≡ column other first
  pub sizes : (count size : ℕ) → AreRows count size first → AreRows count size rows
  pub met : (tables : List (List Shared)) (leaf : ℕ) (x : OneLeaf B) → length leaves ≤ leaf → slice_get full leaf ≡ Some (Some x) → HasMet meaning (hold_at leaf tables first (Some x))
  pub own : List B
  pub owned : map Some own ≡ map own_berth done
  pub berths_are : berths ≡ own ++ old

module _ {B : Type 0} (meaning : B → Meaning) where
  pub abandoned_none : (full : List (Option (OneLeaf B))) (first : List (List SeatView)) (old : List B) → Abandoned meaning full first old full first old
  abandoned_none full first old = record {
    done = [];
    split = sym (append-nil full);
    columns = λ other below. refl;
    sizes = λ count size has. has;
    met = λ tables leaf x beyond at. absurd (omega (arith, beyond, slice_get_within full leaf (Some x) at));
    own = [];
    owned = refl;
    berths_are = refl;
  }

  -- what stands last stands there
  pub last_at : (full : List (Option (OneLeaf B))) (first : List (List SeatView)) (old : List B) (leaves now : List (Option (OneLeaf B))) (rows : List (List SeatView)) (berths : List B) (slot : Option (OneLeaf B))
      → Abandoned meaning full first old leaves rows berths → leaves ≡ now ++ slot ∷ [] → slice_get full (length now) ≡ Some slot
  last_at full first old leaves now rows berths slot so_far popped =
      ap (λ (ls : List (Option (OneLeaf B))). slice_get ls (length now))
      (so_far.split ∙ (ap (λ (ls : List (Option (OneLeaf B))). ls ++ so_far.done) popped ∙ append_assoc now (slot ∷ []) so_far.done))
      ∙ get_behind now slot so_far.done (length now) refl

  -- one leaf more
  module _ (full : List (Option (OneLeaf B))) (first : List (List SeatView)) (old : List B) (leaves now : List (Option (OneLeaf B))) (rows : List (List SeatView)) (berths : List B) (leaf : OneLeaf B)
      (so_far : Abandoned meaning full first old leaves rows berths) (popped : leaves ≡ now ++ Some leaf ∷ []) where
    pub longer : length leaves ≡ suc (length now)
    longer = omega (arith, ap (λ (ls : List (Option (OneLeaf B))). length ls) popped, length-append now (Some leaf ∷ []))

    split_now : full ≡ now ++ Some leaf ∷ so_far.done
    split_now = so_far.split ∙ (ap (λ (ls : List (Option (OneLeaf B))). ls ++ so_far.done) popped ∙ append_assoc now (Some leaf ∷ []) so_far.done)

    pub there : slice_get full (length now) ≡ Some (Some leaf)
    there = last_at full first old leaves now rows berths (Some leaf) so_far popped

    pub may_now : MayMeet (length now) (seats_of leaf) first → MayMeet (length now) (seats_of leaf) rows
    may_now may = may_still (length now) (seats_of leaf) first rows so_far.sizes (so_far.columns (length now) (omega (arith, longer))) may

    pub abandoned_more : (then : Leaf) (rows' : List (List SeatView)) (berths' : List B)
        → MeetAll (leaf_state leaf) (column (length now) rows) then (column (length now) rows') (meaning (berth_of leaf))
        → OnlyColumn (length now) rows rows' → berths' ≡ berth_of leaf ∷ berths → Abandoned meaning full first old now rows' berths'
    abandoned_more then rows' berths' met only put = record {
      done = Some leaf ∷ so_far.done;
      split = split_now;
      columns = λ other below. only.others other (λ same. omega (arith, same, below)) ∙ so_far.columns other (omega (arith, below, longer));
      sizes = λ count size has. only_rows (length now) count size rows rows' only (so_far.sizes count size has);
      met = λ tables other x beyond at. by tables other x beyond at (cases_eq other (length now));
      own = berth_of leaf ∷ so_far.own;
      owned = ap (λ (os : List (Option B)). Some (berth_of leaf) ∷ os) so_far.owned;
      berths_are = put ∙ ap (λ (bs : List B). berth_of leaf ∷ bs) so_far.berths_are;
    }
      where
        here : (tables : List (List Shared)) → HasMet meaning (hold_at (length now) tables first (Some leaf))
        here tables = (
          record { tables = row tables (length now); callers = column (length now) rows'; held = Some (then, berth_of leaf) },
          record {
            leaf = leaf_state leaf;
            berth = berth_of leaf;
            leaf_then = then;
            callers_then = column (length now) rows';
            held = refl;
            met = subst (λ (cs : List (Option SeatView)). MeetAll (leaf_state leaf) cs then (column (length now) rows') (meaning (berth_of leaf))) (so_far.columns (length now) (omega (arith, longer))) met;
            now = refl;
          },
        )

        by : (tables : List (List Shared)) (other : ℕ) (x : OneLeaf B) → length now ≤ other → slice_get full other ≡ Some (Some x) → (other ≡ length now) ⊎ (other ≢ length now)
            → HasMet meaning (hold_at other tables first (Some x))
        by tables other x beyond at (inl same) =
            let is : Some leaf ≡ Some x = same_at full (length now) (Some leaf) (Some x) there (subst (λ (n : ℕ). slice_get full n ≡ Some (Some x)) same at) in
            subst (λ (n : ℕ). HasMet meaning (hold_at n tables first (Some x))) (sym same) (subst (λ (z : Option (OneLeaf B)). HasMet meaning (hold_at (length now) tables first z)) is (here tables))
        by tables other x beyond at (inr apart) = so_far.met tables other x (omega (arith, beyond, apart, longer)) at

  -- at the end none is left
  pub berths_at_the_end : (full : List (Option (OneLeaf B))) (first : List (List SeatView)) (old : List B) (leaves : List (Option (OneLeaf B))) (rows : List (List SeatView)) (berths : List B)
      → Abandoned meaning full first old leaves rows berths → leaves ≡ [] → (own : List B) × (map Some own ≡ map own_berth full) × (berths ≡ own ++ old)
  berths_at_the_end full first old leaves rows berths so_far none =
      (so_far.own, so_far.owned ∙ ap (λ (ls : List (Option (OneLeaf B))). map own_berth ls) (sym (so_far.split ∙ ap (λ (ls : List (Option (OneLeaf B))). ls ++ so_far.done) none)), so_far.berths_are)

pub holds_berths : {B : Type 0} (first : ℕ) (tables : List (List Shared)) (xs : List (Option (OneLeaf B))) (rows : List (List SeatView))
    → map (λ (x : Hold B). berth_in x) (holds_from first tables xs rows) ≡ map own_berth xs
holds_berths first tables [] rows = refl
holds_berths {B} first tables (None ∷ xs) rows = ap (λ (bs : List (Option B)). None ∷ bs) (holds_berths (suc first) tables xs rows)
holds_berths {B} first tables (Some x ∷ xs) rows = ap (λ (bs : List (Option B)). Some (berth_of x) ∷ bs) (holds_berths (suc first) tables xs rows)
