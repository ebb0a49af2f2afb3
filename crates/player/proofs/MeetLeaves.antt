-- The seats of whole leaves meet, one leaf after another.
use Rattle.std.proofs.Common.{◌≡◌, ◌≢◌, ◌⊎◌, inl, inr, ℕ, zero, suc, ◌+◌, ◌<◌, ◌≤◌, List, [], ◌∷◌, length, Option, Some, None, Vec, Global, refl, sym, ap, subst, ◌∙◌, arith, length-set}
use Rattle.std.specs.Prelude.{slice_get, slice_set, slice_index_or}
use Rattle.std.proofs.lemmas.Bool.{cases_eq}
use Rattle.std.proofs.lemmas.Option.{slice_get_within}
use Rattle.berth_face.specs.Berth.{Meaning}
use Rattle.berth_face.proofs.Moments.{passes_none}
use Rattle.leaf_table.specs.Calls.{SeatView}
use Rattle.leaf_table.specs.Lists.{lists_in, row}
use Rattle.leaf_steward.proofs.Seating.{same_at, set_either, set_other}
use Rattle.leaf_moves.specs.Stage.{Leaf, MeetAll, MeetsIf, seated_of}
use Rattle.leaf_moves.specs.Holds.{AllMeet, Hold, HoldMeets, caller_in, with_leaf}
use Rattle.leaf_deeds.specs.declared.leaf.OneLeaf.{OneLeaf}
use Rattle.player.specs.declared.members.Members.{Members}
use Rattle.player.specs.Crew.{AllPass, PassesIf, Spares, StillHas, column}
use Rattle.player.specs.Rows.{OnlyColumn}
use Rattle.leaf_deeds.specs.Held.{berth_of, leaf_state}
use Rattle.player.specs.Stage.{hold_at}
use Rattle.player.specs.Members.{AreMembers, holds_in}
use Rattle.player.specs.Lending.{MeetLeaves, MeetsLeaf}
use Rattle.player.proofs.Calling.{stands_at}
use Rattle.player.proofs.Chains.{still_set}
use Rattle.player.proofs.Columns.{caller_at, element_at, same_some}
use Rattle.player.proofs.HoldLists.{holds_at, holds_back}
use Rattle.player.proofs.MemberSteps.{holds_then, seats_still, with_parts}

-- ---- shares

caller_get : (cs : List (Option SeatView)) (table : ℕ) (c : SeatView) → caller_in cs table ≡ Some c → slice_get cs table ≡ Some (Some c)
caller_get [] table c at = absurd cc
caller_get (d ∷ ds) zero c at = ap (λ (o : Option SeatView). Some o) at
caller_get (d ∷ ds) (suc table) c at = caller_get ds table c at

caller_is : (cs : List (Option SeatView)) (table : ℕ) (c : SeatView) → slice_get cs table ≡ Some (Some c) → caller_in cs table ≡ Some c
caller_is [] table c at = absurd cc
caller_is (d ∷ ds) zero c at = same_some d (Some c) at
caller_is (d ∷ ds) (suc table) c at = caller_is ds table c at

-- a caller's seat keeps its ids where it meets
share_stays : (v v' : SeatView) (c : Option SeatView) (c' : SeatView) → MeetsIf v c v' (Some c') → (d : SeatView) × (c ≡ Some d) × (c'.share ≡ d.share)
share_stays v v' None c' meets = absurd meets
share_stays v v' (Some d) c' meets = (d, refl, ap (λ (s : SeatView). s.share) meets.caller.view)

pub met_share : (leaf : Leaf) (callers : List (Option SeatView)) (leaf' : Leaf) (callers' : List (Option SeatView)) (m : Meaning) → MeetAll leaf callers leaf' callers' m → length callers ≡ length (seated_of leaf).seats
    → (table : ℕ) (c' : SeatView) → caller_in callers' table ≡ Some c' → (d : SeatView) × (caller_in callers table ≡ Some d) × (c'.share ≡ d.share)
met_share leaf callers leaf' callers' m met same table c' at =
    let there = caller_get callers' table c' at in
    let below : table < length callers' = slice_get_within callers' table (Some c') there in
    let c = element_at callers table (omega (arith, below, met.count.1)) in
    let v = element_at (seated_of leaf).seats table (omega (arith, below, met.count.1, same)) in
    let w = element_at met.seats table (omega (arith, below, met.count.1, met.count.0, same)) in
    let d = share_stays v.0 w.0 c.0 c' (met.each table v.0 w.0 c.0 (Some c') v.1 c.1 w.1 there) in
    (d.0, caller_is callers table d.0 (c.1 ∙ ap (λ (o : Option SeatView). Some o) d.1), d.2)

-- ---- one leaf

module _ {B : Type 0} (meaning : B → Meaning) (x : Members B) (number : ℕ) (one next : OneLeaf B) (leaves : Vec (Option (OneLeaf B)) Global) (rows : Vec (Vec SeatView Global) Global) (are : AreMembers x)
    (at : slice_get x.leaves.items number ≡ Some (Some one)) (now : leaves.items ≡ slice_set x.leaves.items number (Some next)) (only : OnlyColumn number (lists_in x.rows.items) (lists_in rows.items)) where
  abbrev was : Hold B
  was = hold_at number x.tables.now (lists_in x.rows.items) (Some one)

  abbrev then : Hold B
  then = with_leaf was (leaf_state next) (berth_of next) (column number (lists_in rows.items))

  there : slice_get (holds_in x) number ≡ Some was
  there = holds_at 0 number number x.tables.now x.leaves.items (Some one) (lists_in x.rows.items) (omega arith) at

  holds : holds_in (with_parts x leaves rows) ≡ slice_set (holds_in x) number then
  holds = holds_then x number one next leaves rows are at now only

  pub leaf_meets : MeetAll (leaf_state one) (column number (lists_in x.rows.items)) (leaf_state next) (column number (lists_in rows.items)) (meaning (berth_of one)) → berth_of next ≡ berth_of one
      → MeetsLeaf meaning number (holds_in x) (holds_in (with_parts x leaves rows))
  leaf_meets met berth = record {
    before = was;
    after = then;
    at = there;
    meets = record {
      leaf = leaf_state one;
      berth = berth_of one;
      leaf_then = leaf_state next;
      callers_then = column number (lists_in rows.items);
      held = refl;
      met = met;
      now = ap (λ (b : B). with_leaf was (leaf_state next) b (column number (lists_in rows.items))) berth;
    };
    now = holds;
  }

  pub leaf_still : StillHas (holds_in x) (holds_in (with_parts x leaves rows))
  leaf_still =
      subst (StillHas (holds_in x)) (sym holds)
      (still_set meaning (holds_in x) number was then there refl (seats_still number (lists_in x.rows.items) (lists_in rows.items) only.lengths))

  pub leaf_spares : MeetAll (leaf_state one) (column number (lists_in x.rows.items)) (leaf_state next) (column number (lists_in rows.items)) (meaning (berth_of one))
      → length (column number (lists_in x.rows.items)) ≡ length (seated_of (leaf_state one)).seats
      → (table n : ℕ) → Spares (holds_in x) table n → Spares (holds_in (with_parts x leaves rows)) table n
  leaf_spares met same table n has = λ leaf h c here seat. by leaf h c seat (set_either (holds_in x) number leaf then h (subst (λ (hs : List (Hold B)). slice_get hs leaf ≡ Some h) holds here))
    where
      by : (leaf : ℕ) (h : Hold B) (c : SeatView) → caller_in h.callers table ≡ Some c → ((leaf ≡ number) × (h ≡ then)) ⊎ ((leaf ≢ number) × (slice_get (holds_in x) leaf ≡ Some h)) → n ≤ c.share
      by leaf h c seat (inl is) =
          let d = met_share (leaf_state one) (column number (lists_in x.rows.items)) (leaf_state next) (column number (lists_in rows.items)) (meaning (berth_of one)) met same table c
          (sym (ap (λ (g : Hold B). caller_in g.callers table) is.1) ∙ seat) in
          subst (λ (k : ℕ). n ≤ k) (sym d.2) (has number was d.0 there d.1)
      by leaf h c seat (inr apart) = has leaf h c apart.1 seat

-- ---- all of them

module _ {B : Type 0} (meaning : B → Meaning) where
  pub leaves_none : (xs : List (Hold B)) → MeetLeaves meaning 0 xs xs
  leaves_none xs = record { count = refl; met = λ leaf x y below at now. absurd (omega (arith, below)); others = λ leaf above. refl }

  pub leaves_more : (k next : ℕ) (xs ys zs : List (Hold B)) → next ≡ suc k → MeetLeaves meaning k xs ys → MeetsLeaf meaning k ys zs → MeetLeaves meaning next xs zs
  leaves_more k next xs ys zs is so_far one = record {
    count = ap (λ (hs : List (Hold B)). length hs) one.now ∙ (length-set ys k one.after ∙ so_far.count);
    met = λ leaf x z below at now. by leaf x z below at (set_either ys k leaf one.after z (subst (λ (hs : List (Hold B)). slice_get hs leaf ≡ Some z) one.now now));
    others = λ leaf above. elsewhere leaf above;
  }
    where
      by : (leaf : ℕ) (x z : Hold B) → leaf < next → slice_get xs leaf ≡ Some x → ((leaf ≡ k) × (z ≡ one.after)) ⊎ ((leaf ≢ k) × (slice_get ys leaf ≡ Some z)) → HoldMeets meaning x z
      by leaf x z below at (inl here) =
          let before : one.before ≡ x = same_at ys k one.before x one.at (so_far.others k (omega arith) ∙ subst (λ (n : ℕ). slice_get xs n ≡ Some x) here.0 at) in
          subst (λ (h : Hold B). HoldMeets meaning h z) before (subst (λ (h : Hold B). HoldMeets meaning one.before h) (sym here.1) one.meets)
      by leaf x z below at (inr apart) = so_far.met leaf x z (omega (arith, below, is, apart.0)) at apart.1

      elsewhere : (leaf : ℕ) → next ≤ leaf → slice_get zs leaf ≡ slice_get xs leaf
      elsewhere leaf above =
          ap (λ (hs : List (Hold B)). slice_get hs leaf) one.now ∙ (set_other ys k leaf one.after (λ same. omega (arith, same, above, is)) ∙ so_far.others leaf (omega (arith, above, is)))

  pub leaves_all : (k : ℕ) (xs ys : List (Hold B)) → length xs ≤ k → MeetLeaves meaning k xs ys → AllMeet meaning xs ys
  leaves_all k xs ys all met = record { count = met.count; each = λ leaf x y at now. met.met leaf x y (omega (arith, slice_get_within xs leaf x at, all)) at now }

  passes : (x y : Hold B) → HoldMeets meaning x y → PassesIf meaning x.held y.held
  passes x y meets =
      subst (λ (h : Hold B). PassesIf meaning x.held h.held) (sym meets.now)
      (subst (λ (o : Option (Leaf × B)). PassesIf meaning o (Some (meets.leaf_then, meets.berth))) (sym meets.held) (passes_none (meaning meets.berth)))

  pub all_pass : (xs ys : List (Hold B)) → AllMeet meaning xs ys → AllPass meaning xs ys
  all_pass xs ys met = record { count = met.count; each = λ leaf x y at now. passes x y (met.each leaf x y at now) }

-- ---- ids

pub row_spares : {B : Type 0} (x : Members B) (table n : ℕ) → ((leaf : ℕ) (s : SeatView) → slice_get (row (lists_in x.rows.items) table) leaf ≡ Some s → n ≤ s.share) → Spares (holds_in x) table n
row_spares x table n least = λ leaf h c at seat.
    let back = holds_back 0 leaf leaf x.tables.now x.leaves.items h (lists_in x.rows.items) (omega arith) at in
    least leaf c (sym (caller_at leaf (lists_in x.rows.items) table) ∙ (ap (λ (g : Hold _). caller_in g.callers table) (sym back.2) ∙ seat))

-- one seat more
pub least_more : (seats : List SeatView) (k least now : ℕ) (item : SeatView) → k < length seats → item ≡ slice_index_or seats k item
    → ((leaf : ℕ) (s : SeatView) → leaf < k → slice_get seats leaf ≡ Some s → least ≤ s.share) → now ≤ least → now ≤ item.share
    → (leaf : ℕ) (s : SeatView) → leaf < k + 1 → slice_get seats leaf ≡ Some s → now ≤ s.share
least_more seats k least now item within read so_far less here leaf s below at = by (cases_eq leaf k)
  where
    by : (leaf ≡ k) ⊎ (leaf ≢ k) → now ≤ s.share
    by (inl same) =
        let is : item ≡ s = same_at seats k item s (stands_at seats k item within read) (subst (λ (n : ℕ). slice_get seats n ≡ Some s) same at) in
        subst (λ (z : SeatView). now ≤ z.share) is here
    by (inr apart) = let under = so_far leaf s (omega (arith, below, apart)) at in omega (arith, under, less)
