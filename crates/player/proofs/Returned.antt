-- What a lane held is taken back.
use Rattle.std.proofs.Common.{◌≡◌, ◌≢◌, ◌⊎◌, inl, inr, ℕ, suc, ◌<◌, ◌≤◌, List, [], ◌∷◌, ◌++◌, length, Option, Some, refl, sym, ap, subst, ◌∙◌, arith, length-append, length-set, get_or-set_same, get_or-set_other}
use Rattle.std.specs.Prelude.{slice_get, slice_set, is_some}
use Rattle.std.proofs.lemmas.Bool.{cases_eq}
use Rattle.std.proofs.lemmas.Option.{slice_get_within}
use Rattle.berth_face.specs.Berth.{Meaning}
use Rattle.leaf_table.specs.Calls.{SeatView}
use Rattle.leaf_table.specs.Lists.{row}
use Rattle.leaf_steward.proofs.Seating.{same_at, set_either, set_other}
use Rattle.leaf_moves.specs.Stage.{Leaf, MeetAll}
use Rattle.leaf_moves.specs.Holds.{Hold, HoldMeets, caller_in}
use Rattle.leaf_moves.specs.Lanes.{ComesBack}
use Rattle.leaf_deeds.specs.declared.leaf.OneLeaf.{OneLeaf}
use Rattle.player.specs.Crew.{SameSeats, StillHas}
use Rattle.player.specs.Stage.{held_of}
use Rattle.player.specs.Returning.{JoinsFrom, LeafBack, LeavesBack, RowsJoined}
use Rattle.player.proofs.Columns.{below_or_not, element_at, get_behind, get_front, row_beyond, same_some}

-- ---- lists

-- the list is the front of another
pub record IsFront {A : Type 0} (full left : List A) : Type 0 where
  pub few : length left ≤ length full
  pub each : (i : ℕ) → i < length left → slice_get left i ≡ slice_get full i

pub front_all : {A : Type 0} (full : List A) → IsFront full full
front_all full = record { few = omega arith; each = λ i below. refl }

module _ {A : Type 0} (full left now : List A) (x : A) (front : IsFront full left) (popped : left ≡ now ++ x ∷ []) where
  pub longer : length left ≡ suc (length now)
  longer = omega (arith, ap (λ (ls : List A). length ls) popped, length-append now (x ∷ []))

  pub front_last : (i : ℕ) → i ≡ length now → slice_get full i ≡ Some x
  front_last i is =
      sym (front.each i (omega (arith, is, longer)))
      ∙ (ap (λ (ls : List A). slice_get ls i) popped ∙ get_behind now x [] i is)

  pub front_pop : IsFront full now
  front_pop = record {
    few = omega (arith, longer, front.few);
    each = λ i below. sym (get_front now (x ∷ []) i below) ∙ (ap (λ (ls : List A). slice_get ls i) (sym popped) ∙ front.each i (omega (arith, below, longer)));
  }

-- ---- rows

pub joined_more : (k next : ℕ) (rows offs between lefts rows' offs' : List (List SeatView)) (r o : List SeatView) → next ≡ suc k → k < length rows → RowsJoined k rows offs between lefts
    → JoinsFrom 0 (row between k) (row lefts k) r → rows' ≡ slice_set between k r → offs' ≡ slice_set lefts k o → RowsJoined next rows offs rows' offs'
joined_more k next rows offs between lefts rows' offs' r o is inside so_far joins rows_are offs_are = record {
  counts = (
    ap (λ (ls : List (List SeatView)). length ls) rows_are ∙ (length-set between k r ∙ so_far.counts.0),
    ap (λ (ls : List (List SeatView)). length ls) offs_are ∙ (length-set lefts k o ∙ so_far.counts.1),
  );
  joined = λ table below. by table below (cases_eq table k);
  others = λ table above.
      let apart : table ≢ k = λ same. omega (arith, same, above, is) in
      let old = so_far.others table (omega (arith, above, is)) in (
        ap (λ (ls : List (List SeatView)). row ls table) rows_are ∙ (get_or-set_other between k table r [] apart ∙ old.0),
        ap (λ (ls : List (List SeatView)). row ls table) offs_are ∙ (get_or-set_other lefts k table o [] apart ∙ old.1),
      );
}
  where
    by : (table : ℕ) → table < next → (table ≡ k) ⊎ (table ≢ k) → JoinsFrom 0 (row rows table) (row offs table) (row rows' table)
    by table below (inl here) =
        let now : row rows' k ≡ r = ap (λ (ls : List (List SeatView)). row ls k) rows_are ∙ get_or-set_same between k r [] (omega (arith, inside, so_far.counts.0)) in
        let old = so_far.others k (omega arith) in
        subst (λ (n : ℕ). JoinsFrom 0 (row rows n) (row offs n) (row rows' n)) (sym here)
        (subst (λ (vs : List SeatView). JoinsFrom 0 vs (row offs k) (row rows' k)) old.0
        (subst (λ (vs : List SeatView). JoinsFrom 0 (row between k) vs (row rows' k)) old.1
        (subst (λ (vs : List SeatView). JoinsFrom 0 (row between k) (row lefts k) vs) (sym now) joins)))
    by table below (inr apart) =
        subst (λ (vs : List SeatView). JoinsFrom 0 (row rows table) (row offs table) vs) (sym (ap (λ (ls : List (List SeatView)). row ls table) rows_are ∙ get_or-set_other between k table r [] apart))
        (so_far.joined table (omega (arith, below, is, apart)))

no_seats : JoinsFrom 0 [] [] []
no_seats = record { count = refl; joined = λ leaf above. refl; others = λ leaf below. absurd (omega (arith, below)) }

-- each table of them
pub joined_all : (k : ℕ) (rows offs rows' offs' : List (List SeatView)) → RowsJoined k rows offs rows' offs' → length rows ≤ k → length offs ≤ k
    → (table : ℕ) → JoinsFrom 0 (row rows table) (row offs table) (row rows' table)
joined_all k rows offs rows' offs' joins all all_offs table = by (below_or_not table k)
  where
    by : (table < k) ⊎ (k ≤ table) → JoinsFrom 0 (row rows table) (row offs table) (row rows' table)
    by (inl below) = joins.joined table below
    by (inr above) =
        let none = row_beyond rows table (omega (arith, above, all)) in
        let none_off = row_beyond offs table (omega (arith, above, all_offs)) in
        let now = (joins.others table above).0 ∙ none in
        subst (λ (vs : List SeatView). JoinsFrom 0 vs (row offs table) (row rows' table)) (sym none)
        (subst (λ (vs : List SeatView). JoinsFrom 0 [] vs (row rows' table)) (sym none_off)
        (subst (λ (vs : List SeatView). JoinsFrom 0 [] [] vs) (sym now) no_seats))

-- ---- seats that stand where they stood

pub seats_same : {B : Type 0} (xs : List (Hold B)) → SameSeats xs xs
seats_same xs = record {
  count = refl;
  each = λ leaf x y at now table. ap (λ (h : Hold _). is_some (caller_in h.callers table)) (same_at xs leaf y x now at);
}

pub seats_on : {B : Type 0} (xs ys zs : List (Hold B)) → SameSeats xs ys → SameSeats ys zs → SameSeats xs zs
seats_on xs ys zs one other = record {
  count = other.count ∙ one.count;
  each = λ leaf x z was now table.
      let y = element_at ys leaf (omega (arith, one.count, slice_get_within xs leaf x was)) in
      other.each leaf y.0 z y.1 now table ∙ one.each leaf x y.0 was y.1 table;
}

pub seats_of_still : {B : Type 0} (xs ys : List (Hold B)) → StillHas xs ys → SameSeats xs ys
seats_of_still xs ys still = record { count = still.count; each = λ leaf x y at now. (still.each leaf x y at now).1 }

-- ---- leaves

module _ {B : Type 0} (meaning : B → Meaning) where
  -- a leaf that was put there has met
  pub comes_back : (l : Leaf) (b : B) (stayed : Option (Leaf × B)) (before y : Hold B) → before.held ≡ Some (l, b) → HoldMeets meaning before y
      → (y.tables ≡ before.tables) × ComesBack meaning (Some (l, b)) stayed before.callers y.held y.callers
  comes_back l b stayed before y held m =
      let pair : (l, b) ≡ (m.leaf, m.berth) = same_some (l, b) (m.leaf, m.berth) (sym held ∙ m.held) in
      subst (λ (h : Hold B). (h.tables ≡ before.tables) × ComesBack meaning (Some (l, b)) stayed before.callers h.held h.callers) (sym m.now) (
        refl,
        (
          m.leaf_then,
          subst (λ (p : Leaf × B). MeetAll p.0 before.callers m.leaf_then m.callers_then (meaning p.1)) (sym pair) m.met,
          ap (λ (p : Leaf × B). Some (m.leaf_then, p.1)) (sym pair),
        ),
      )

  pub back_none : (k : ℕ) (offs : List (Option (OneLeaf B))) (xs : List (Hold B)) → length offs ≤ k → LeavesBack meaning k offs xs xs
  back_none k offs xs all = record {
    count = refl;
    back = λ leaf x y o above at there now. absurd (omega (arith, slice_get_within offs leaf o there, all, above));
    others = λ leaf below. refl;
  }

  pub back_more : (k next number : ℕ) (offs : List (Option (OneLeaf B))) (xs ys zs : List (Hold B)) (o : Option (OneLeaf B)) → k ≡ suc next → number ≡ next → slice_get offs number ≡ Some o
      → LeavesBack meaning k offs xs ys → LeafBack meaning number (held_of o) ys zs → LeavesBack meaning next offs xs zs
  back_more k next number offs xs ys zs o is same lent so_far one = record {
    count = ap (λ (hs : List (Hold B)). length hs) one.now ∙ (length-set ys number one.after ∙ so_far.count);
    back = λ leaf x z p above at there now. by leaf x z p above at there (set_either ys number leaf one.after z (subst (λ (hs : List (Hold B)). slice_get hs leaf ≡ Some z) one.now now));
    others = λ leaf below.
        ap (λ (hs : List (Hold B)). slice_get hs leaf) one.now ∙ (set_other ys number leaf one.after (λ e. omega (arith, e, below, same)) ∙ so_far.others leaf (omega (arith, below, is)));
  }
    where
      by : (leaf : ℕ) (x z : Hold B) (p : Option (OneLeaf B)) → next ≤ leaf → slice_get xs leaf ≡ Some x → slice_get offs leaf ≡ Some p
          → ((leaf ≡ number) × (z ≡ one.after)) ⊎ ((leaf ≢ number) × (slice_get ys leaf ≡ Some z)) → (z.tables ≡ x.tables) × ComesBack meaning (held_of p) x.held x.callers z.held z.callers
      by leaf x z p above at there (inl h) =
          let before : one.before ≡ x = same_at ys number one.before x one.at (so_far.others number (omega (arith, is, same)) ∙ subst (λ (n : ℕ). slice_get xs n ≡ Some x) h.0 at) in
          let lent_is : o ≡ p = same_at offs number o p lent (subst (λ (n : ℕ). slice_get offs n ≡ Some p) h.0 there) in
          subst (λ (w : Hold B). (w.tables ≡ x.tables) × ComesBack meaning (held_of p) x.held x.callers w.held w.callers) (sym h.1)
          (subst (λ (w : Hold B). (one.after.tables ≡ w.tables) × ComesBack meaning (held_of p) w.held w.callers one.after.held one.after.callers) before
          (subst (λ (q : Option (OneLeaf B)). (one.after.tables ≡ one.before.tables) × ComesBack meaning (held_of q) one.before.held one.before.callers one.after.held one.after.callers) lent_is (one.tables, one.comes)))
      by leaf x z p above at there (inr h) = so_far.back leaf x z p (omega (arith, above, h.0, is, same)) at there h.1
