-- The leaves of a new fleet begin one after another.
use Rattle.std.proofs.Common.{◌≡◌, ◌⊎◌, inl, inr, ⊎_elim, ℕ, zero, suc, ◌+◌, ◌<◌, ◌≤◌, List, [], ◌∷◌, ◌++◌, length, map, take, drop, Option, Some, refl, sym, ap, ap₂, subst, ◌∙◌, arith, length-append, Vec, Global}
use Rattle.std.specs.Prelude.{slice_get, slice_index_or, is_some}
use Rattle.std.specs.List.{AllByRecursion}
use Rattle.std.proofs.lemmas.List.{length-take-le}
use Rattle.std.proofs.lemmas.Option.{slice_get_within}
use Rattle.berth_face.specs.Berth.{Meaning}
use Rattle.region_layout.specs.Names.{AreNames}
use Rattle.leaf_history.specs.History.{LegalFrom}
use Rattle.crash_moments.specs.Left.{NamedStates}
use Rattle.leaf_table.specs.declared.base.TableBase.{TableBase}
use Rattle.leaf_table.specs.Turns.{Shared, is_founded, start_of}
use Rattle.leaf_table.specs.Calls.{SeatView, IsCaller, base_seen, name_of, seen_of}
use Rattle.leaf_table.specs.Fleet.{IsAt, IsNewFleet}
use Rattle.leaf_table.specs.Lists.{lists_in, place, row}
use Rattle.script_text.specs.Fits.{AreLeaves}
use Rattle.leaf_steward.specs.Seated.{Seated, AreAlike, AreFounded, AtEach, IsUnused}
use Rattle.leaf_steward.proofs.Seating.{same_at}
use Rattle.crash_states.specs.Beginning.{MayBegin}
use Rattle.script_text.specs.Commands.{leaf_count}
use Rattle.leaf_moves.specs.Stage.{Leaf, IsDown, LeafStands, seated_of}
use Rattle.leaf_moves.specs.Holds.{Hold, caller_in}
use Rattle.leaf_deeds.specs.declared.leaf.OneLeaf.{OneLeaf}
use Rattle.player.specs.declared.members.Members.{Members}
use Rattle.player.specs.Crew.{HasLeaf, HasSeats, column, new_holds, seated_at}
use Rattle.player.specs.Rows.{AreRows, IsCallersAt, IsColumn}
use Rattle.player.specs.Stage.{held_of, hold_at}
use Rattle.player.specs.Members.{AreMembers, IsLeafOf, fleet_in, holds_from}
use Rattle.player.specs.Beginning.{AreBegun, BeginsWith, IsBegun, LeafIsReady}
use Rattle.player.proofs.Columns.{caller_at, column_back, column_count, element_at, same_some}
use Rattle.player.proofs.HoldLists.{holds_back}

-- ---- lists

pub drop_get : {A : Type 0} (k : ℕ) (xs : List A) → slice_get (drop k xs) 0 ≡ slice_get xs k
drop_get zero xs = refl
drop_get (suc k) [] = refl
drop_get (suc k) (x ∷ xs) = drop_get k xs

pub drop_next : {A : Type 0} (k : ℕ) (xs : List A) → drop 1 (drop k xs) ≡ drop (suc k) xs
drop_next zero xs = refl
drop_next (suc k) [] = refl
drop_next (suc k) (x ∷ xs) = drop_next k xs

get_last : {A : Type 0} (xs : List A) (y z : A) (j : ℕ) → slice_get (xs ++ y ∷ []) j ≡ Some z → (slice_get xs j ≡ Some z) ⊎ ((j ≡ length xs) × (z ≡ y))
get_last [] y z zero at = inr (refl, cc)
get_last [] y z (suc j) at = absurd cc
get_last (x ∷ xs) y z zero at = inl at
get_last (x ∷ xs) y z (suc j) at = ⊎_elim (λ h. inl h) (λ h. inr (ap suc h.0, h.1)) (get_last xs y z j at)

take_get : {A : Type 0} (n i : ℕ) (xs : List A) → i < n → slice_get (take n xs) i ≡ slice_get xs i
take_get zero i xs below = absurd (omega (arith, below))
take_get (suc n) i [] below = refl
take_get (suc n) zero (x ∷ xs) below = refl
take_get (suc n) (suc i) (x ∷ xs) below = take_get n i xs (omega (arith, below))

map_is : {A C : Type 0} (f : A → C) (xs : List A) (ys : List C) → length xs ≡ length ys → ((i : ℕ) (x : A) (y : C) → slice_get xs i ≡ Some x → slice_get ys i ≡ Some y → f x ≡ y) → map f xs ≡ ys
map_is f [] [] same each = refl
map_is f [] (y ∷ ys) same each = absurd (omega (arith, same))
map_is f (x ∷ xs) [] same each = absurd (omega (arith, same))
map_is {A} {C} f (x ∷ xs) (y ∷ ys) same each =
    ap₂ (λ (z : C) (zs : List C). z ∷ zs) (each 0 x y refl refl) (map_is f xs ys (omega (arith, same)) (λ i v w at there. each (suc i) v w at there))

abbrev seated : List (List ℕ) → List Shared → List SeatView → Seated
seated names tables seats = record { names = names; tables = tables; seats = seats }

pub seated_same : (names names' : List (List ℕ)) (tables tables' : List Shared) (seats seats' : List SeatView) → names ≡ names' → tables ≡ tables' → seats ≡ seats'
    → seated names tables seats ≡ seated names' tables' seats'
seated_same names names' tables tables' seats seats' a b c =
    ap (λ (n : List (List ℕ)). seated n tables seats) a ∙ (ap (λ (t : List Shared). seated names' t seats) b ∙ ap (λ (s : List SeatView). seated names' tables' s) c)

-- ---- one leaf more

module _ {B : Type 0} (meaning : B → Meaning) (names : List (List ℕ)) (tables : List (List Shared)) (stewards : List (List SeatView)) (berths : List B) where
  pub begun_none : (leaves : List (Option (OneLeaf B))) → leaves ≡ [] → AreBegun meaning names tables stewards berths 0 leaves
  begun_none leaves none = subst (AreBegun meaning names tables stewards berths 0) (sym none) (record { length_is = refl; each = λ leaf x at. absurd cc })

  pub begun_more : (k next : ℕ) (leaves now : List (Option (OneLeaf B))) (x : Seated) (b : B) (leaf : Option (OneLeaf B)) → next ≡ suc k → AreBegun meaning names tables stewards berths k leaves
      → slice_get berths k ≡ Some b → x ≡ seated_at names tables stewards k → IsBegun meaning x b leaf → now ≡ leaves ++ leaf ∷ [] → AreBegun meaning names tables stewards berths next now
  begun_more k next leaves now x b leaf is so_far at same begun put =
      subst (AreBegun meaning names tables stewards berths next) (sym put) (record {
        length_is = omega (arith, length-append leaves (leaf ∷ []), so_far.length_is, is);
        each = λ other y there. ⊎_elim (λ h. so_far.each other y h) (λ h. last other y h) (get_last leaves leaf y other there);
      })
    where
      last : (other : ℕ) (y : Option (OneLeaf B)) → (other ≡ length leaves) × (y ≡ leaf) → (c : B) × (slice_get berths other ≡ Some c) × IsBegun meaning (seated_at names tables stewards other) c y
      last other y h =
          let here : other ≡ k = h.0 ∙ so_far.length_is in
          subst (λ (n : ℕ). (c : B) × (slice_get berths n ≡ Some c) × IsBegun meaning (seated_at names tables stewards n) c y) (sym here)
          (b, at, subst (λ (z : Option (OneLeaf B)). IsBegun meaning (seated_at names tables stewards k) b z) (sym h.1) (subst (λ (s : Seated). IsBegun meaning s b leaf) same begun))

  -- ---- all of them

  holds_new : (first : ℕ) (xs : List (Option (OneLeaf B))) (bs : List B) (callers : List (List SeatView)) → length xs ≡ length bs
      → ((i leaf : ℕ) (x : Option (OneLeaf B)) → leaf ≡ first + i → slice_get xs i ≡ Some x → (b : B) × (slice_get bs i ≡ Some b) × IsBegun meaning (seated_at names tables stewards leaf) b x)
      → holds_from first tables xs callers ≡ new_holds first names tables stewards callers bs
  holds_new first [] [] callers same each = refl
  holds_new first [] (b ∷ bs) callers same each = absurd (omega (arith, same))
  holds_new first (x ∷ xs) [] callers same each = absurd (omega (arith, same))
  holds_new first (x ∷ xs) (b ∷ bs) callers same each =
      let here = each 0 first x (omega arith) refl in
      let berth : here.0 ≡ b = cc (here.1) in
      ap₂ (λ (h : Hold B) (hs : List (Hold B)). h ∷ hs)
      (ap (λ (z : Option (OneLeaf B)). hold_at first tables callers z) here.2.is
      ∙ ap (λ (c : B). record { tables = row tables first; callers = column first callers; held = Some (IsDown (seated_at names tables stewards first), c) }) berth)
      (holds_new (suc first) xs bs callers (omega (arith, same)) (λ i leaf z is at. each (suc i) leaf z (omega (arith, is)) at))

  pub begun_holds : (count : ℕ) (leaves : List (Option (OneLeaf B))) (callers : List (List SeatView)) → count ≤ length berths → AreBegun meaning names tables stewards berths count leaves
      → holds_from 0 tables leaves callers ≡ new_holds 0 names tables stewards callers (take count berths)
  begun_holds count leaves callers enough begun =
      holds_new 0 leaves (take count berths) callers (begun.length_is ∙ sym (length-take-le count berths enough))
      (λ i leaf x is at.
      let same : leaf ≡ i = omega (arith, is) in
      let here = begun.each i x at in (
        here.0,
        take_get count i berths (omega (arith, slice_get_within leaves i x at, begun.length_is)) ∙ here.1,
        subst (λ (n : ℕ). IsBegun meaning (seated_at names tables stewards n) here.0 x) (sym same) here.2,
      ))

  pub begun_stands : (count : ℕ) (leaves : List (Option (OneLeaf B))) (callers : List (List SeatView)) → AreBegun meaning names tables stewards berths count leaves
      → (leaf : ℕ) (h : Hold B) (l : Leaf) (b : B) (states : NamedStates) → slice_get (holds_from 0 tables leaves callers) leaf ≡ Some h → h.held ≡ Some (l, b) → AreFounded (seated_of l)
      → MayBegin states (meaning b) → BeginsWith states (seated_of l) → LeafStands states l (meaning b)
  begun_stands count leaves callers begun leaf h l b states at held =
      let back = holds_back 0 leaf leaf tables leaves h callers (omega arith) at in
      let here = begun.each leaf back.0 back.1 in
      let is : Some (IsDown (seated_at names tables stewards leaf), here.0) ≡ Some (l, b) =
      sym (ap (λ (g : Hold B). g.held) back.2 ∙ ap (λ (z : Option (OneLeaf B)). held_of z) here.2.is) ∙ held in
      let same : (IsDown (seated_at names tables stewards leaf), here.0) ≡ (l, b) = same_some _ (l, b) is in
      subst (λ (p : Leaf × B). AreFounded (seated_of p.0) → MayBegin states (meaning p.1) → BeginsWith states (seated_of p.0) → LeafStands states p.0 (meaning p.1)) same
      (λ founded may begins. here.2.stands states founded may begins)

  -- each is held
  pub begun_held : (count : ℕ) (leaves : List (Option (OneLeaf B))) (callers : List (List SeatView)) → AreBegun meaning names tables stewards berths count leaves
      → (leaf : ℕ) → HasLeaf (holds_from 0 tables leaves callers) leaf
  begun_held count leaves callers begun leaf = λ h at.
      let back = holds_back 0 leaf leaf tables leaves h callers (omega arith) at in
      let here = begun.each leaf back.0 back.1 in
      ap (λ (g : Hold B). is_some g.held) back.2 ∙ ap (λ (z : Option (OneLeaf B)). is_some (held_of z)) here.2.is

-- ---- a new fleet

module _ (base : ℕ → ℕ → Option TableBase) (count : ℕ) (names : List (List ℕ)) (tables : List (List Shared)) (stewards callers : List (List SeatView))
    (named : AreNames names) (new : IsNewFleet base count names 65536 tables stewards callers) where
  at_is : (leaf place : ℕ) (t : Shared) → leaf < count → slice_get (row tables leaf) place ≡ Some t → IsAt base names 65536 (row tables leaf) (row stewards leaf) callers leaf place
  at_is leaf place t below at = new.places leaf place below (omega (arith, slice_get_within (row tables leaf) place t at, (new.in_leaf leaf below).0))

  pub names_are : (leaf : ℕ) → leaf < count → map name_of (row tables leaf) ≡ names
  names_are leaf below = map_is name_of (row tables leaf) names (new.in_leaf leaf below).0 (λ i t name at there.
      let is = at_is leaf i t below at in
      let table : is.table ≡ t = same_at (row tables leaf) i is.table t is.stands at in
      let called : is.name ≡ name = same_at names i is.name name is.named there in
      ap name_of (sym table) ∙ (is.new.named ∙ called))

  unused_at : (leaf : ℕ) → leaf < count → AtEach (λ place t v. IsUnused t v) (seated_at names tables stewards leaf)
  unused_at leaf below = λ place t v at seat.
      let is = at_is leaf place t below at in
      let table : is.table ≡ t = same_at (row tables leaf) place is.table t is.stands at in
      let steward : is.steward ≡ v = same_at (row stewards leaf) place is.steward v is.stewards_seat seat in
      subst (λ (u : Shared). IsUnused u v) table (subst (λ (w : SeatView). IsUnused is.table w) steward
      (record { unused = is.new.unused; seat = is.new.seats.0; shut = is.new.shut }))

  pub ready_at : {B : Type 0} (meaning : B → Meaning) (berths : List B) (leaf : ℕ) → leaf < count → AreAlike (seated_at names tables stewards leaf)
      → ((b : B) → slice_get berths leaf ≡ Some b → AreFounded (seated_at names tables stewards leaf) → (states : NamedStates) × MayBegin states (meaning b) × BeginsWith states (seated_at names tables stewards leaf))
      → LeafIsReady meaning names tables stewards berths leaf
  ready_at meaning berths leaf below alike ready = record {
    named = named;
    names_are = names_are leaf below;
    count = (new.in_leaf leaf below).1 ∙ sym (new.in_leaf leaf below).0;
    unused = unused_at leaf below;
    alike = alike;
    ready = ready;
  }

  -- ---- its callers

  pub rows_are : AreRows (length names) count callers
  rows_are = record { count = new.counts.2; each = λ t below. inr (new.in_table t below) }

  caller_is : (leaf place : ℕ) (t : Shared) (c : SeatView) → leaf < count → slice_get (row tables leaf) place ≡ Some t → slice_get (column leaf callers) place ≡ Some (Some c) → IsCallersAt t c
  caller_is leaf place t c below at seat =
      let is = at_is leaf place t below at in
      let table : is.table ≡ t = same_at (row tables leaf) place is.table t is.stands at in
      let caller : is.caller ≡ c = same_some is.caller c (sym is.callers_seat ∙ column_back leaf callers place (Some c) seat) in
      subst (λ (u : Shared). IsCallersAt u c) table (subst (λ (w : SeatView). IsCallersAt is.table w) caller
      (record {
        seat = is.new.seats.1;
        caller = subst IsCaller (sym is.new.unused_caller) (omega arith);
        legal = subst (λ (v : SeatView). LegalFrom (is_founded (base_seen is.table)) (start_of (base_seen is.table)) (seen_of v)) (sym is.new.unused_caller) tt;
      }))

  pub column_is : (leaf : ℕ) → leaf < count → IsColumn leaf (row tables leaf) callers
  column_is leaf below = record {
    size = count;
    sizes = subst (λ (n : ℕ). AreRows n count callers) (sym (new.in_leaf leaf below).0) rows_are;
    within = below;
    few = omega (arith, named.few, (new.in_leaf leaf below).0);
    called = record {
      count = column_count leaf callers ∙ (new.counts.2 ∙ sym (new.in_leaf leaf below).0);
      each = λ place t c at seat. caller_is leaf place t c below at seat;
    };
  }

  -- and each table has a seat at each leaf
  pub new_seats : {B : Type 0} (leaves : List (Option (OneLeaf B))) → length leaves ≡ count → (table : ℕ) → table < length names → HasSeats (holds_from 0 tables leaves callers) table
  new_seats {B} leaves same table below = λ leaf h at.
      let back = holds_back 0 leaf leaf tables leaves h callers (omega arith) at in
      let seat = element_at (row callers table) leaf (omega (arith, slice_get_within leaves leaf back.0 back.1, same, new.in_table table below)) in
      ap (λ (g : Hold B). is_some (caller_in g.callers table)) back.2
      ∙ (ap (λ (o : Option SeatView). is_some o) (caller_at leaf callers table) ∙ ap (λ (o : Option SeatView). is_some o) seat.1)

-- the leaves of a new fleet are members
pub new_members : {B : Type 0} (meaning : B → Meaning) (base : ℕ → ℕ → Option TableBase) (stewards : List (List SeatView)) (berths : List B) (x : Members B)
    → AreNames x.names → AreLeaves x.machines x.per_machine → IsNewFleet base (leaf_count (fleet_in x)) x.names 65536 x.tables.now stewards (lists_in x.rows.items)
    → AreBegun meaning x.names x.tables.now stewards berths (leaf_count (fleet_in x)) x.leaves.items → AreMembers x
new_members {B} meaning base stewards berths x named few new begun =
    let count = leaf_count (fleet_in x) in
    record {
      named = named;
      few = few;
      leaves = begun.length_is;
      tables = new.counts.0;
      rows = rows_are base count x.names x.tables.now stewards (lists_in x.rows.items) named new;
      names = names_are base count x.names x.tables.now stewards (lists_in x.rows.items) named new;
      columns = column_is base count x.names x.tables.now stewards (lists_in x.rows.items) named new;
      each = λ leaf one at.
          let here = begun.each leaf (Some one) at in
          let below : leaf < count = omega (arith, slice_get_within x.leaves.items leaf (Some one) at, begun.length_is) in
          subst (λ z. IsLeafOf x leaf z) (same_some _ one (sym here.2.is)) (record { names = refl; tables = refl; seats = (new.in_leaf leaf below).1 });
    }

-- ---- the step that makes one leaf

-- what a leaf begins with, as it is taken from its lists
pub record StepReady {B : Type 0} (meaning : B → Meaning) (copy : List (List ℕ)) (tables : List Shared) (seats : List SeatView) (b : B) : Type 0 where
  pub named : AreNames copy
  pub names_are : map name_of tables ≡ copy
  pub count : length seats ≡ length tables
  pub unused : AtEach (λ place t v. IsUnused t v) (record { names = copy; tables = tables; seats = seats })
  pub alike : AreAlike (record { names = copy; tables = tables; seats = seats })
  pub ready : AreFounded (record { names = copy; tables = tables; seats = seats }) → (states : NamedStates) × MayBegin states (meaning b) × BeginsWith states (record { names = copy; tables = tables; seats = seats })

pub step_ready : {B : Type 0} (meaning : B → Meaning) (names copy : List (List ℕ)) (tables : List (List Shared)) (stewards : List (List SeatView)) (berths : List B) (k : ℕ) (tabs : List Shared) (seats : List SeatView) (b : B)
    → copy ≡ names → tabs ≡ row tables k → seats ≡ row stewards k → slice_get berths k ≡ Some b → LeafIsReady meaning names tables stewards berths k → StepReady meaning copy tabs seats b
step_ready {B} meaning names copy tables stewards berths k tabs seats b named tabs_are seats_are at is =
    subst (λ (n : List (List ℕ)). StepReady meaning n tabs seats b) (sym named)
    (subst (λ (ts : List Shared). StepReady meaning names ts seats b) (sym tabs_are)
    (subst (λ (vs : List SeatView). StepReady meaning names (row tables k) vs b) (sym seats_are)
    (record { named = is.named; names_are = is.names_are; count = is.count; unused = is.unused; alike = is.alike; ready = is.ready b at })))

-- what is taken from the front is what stands in that place
pub front_is : {A : Type 0} (all now : List A) (k : ℕ) (x : A) → now ≡ drop k all → 0 < length now → x ≡ slice_index_or now 0 x → slice_get all k ≡ Some x
front_is {A} all now k x is some read = sym (drop_get k all) ∙ (ap (λ (xs : List A). slice_get xs 0) (sym is) ∙ first now some read)
  where
    first : (xs : List A) → 0 < length xs → x ≡ slice_index_or xs 0 x → slice_get xs 0 ≡ Some x
    first [] some read = absurd (omega (arith, some))
    first (y ∷ ys) some read = ap (λ (z : A). Some z) (sym read)

pub front_gone : {A : Type 0} (all now then : List A) (k next : ℕ) → next ≡ suc k → now ≡ drop k all → then ≡ drop 1 now → then ≡ drop next all
front_gone {A} all now then k next is was gone = gone ∙ (ap (λ (xs : List A). drop 1 xs) was ∙ (drop_next k all ∙ ap (λ (n : ℕ). drop n all) (sym is)))

pub all_but_first : {A : Type 0} (P : A → Type 0) (xs ys : List A) → ys ≡ drop 1 xs → AllByRecursion P xs → AllByRecursion P ys
all_but_first P [] ys is all = subst (AllByRecursion P) (sym is) tt
all_but_first P (x ∷ xs) ys is all = subst (AllByRecursion P) (sym is) all.1

pub first_of_all : {A : Type 0} (P : A → Type 0) (xs : List A) (x : A) → 0 < length xs → x ≡ slice_index_or xs 0 x → AllByRecursion P xs → P x
first_of_all P [] x some read all = absurd (omega (arith, some))
first_of_all P (y ∷ ys) x some read all = subst P (sym read) all.0

-- a row of the seats as the program holds them
pub seats_row : (rows : List (Vec SeatView Global)) (k : ℕ) (v : Vec SeatView Global) → slice_get rows k ≡ Some v → v.items ≡ row (lists_in rows) k
seats_row [] k v at = absurd cc
seats_row (u ∷ us) zero v at = ap (λ (w : Vec SeatView Global). w.items) (sym (same_some u v at))
seats_row (u ∷ us) (suc k) v at = seats_row us k v at
