-- A run begins, and goes on by one item.
use Rattle.std.proofs.Common.{◌≡◌, ℕ, List, [], ◌∷◌, ◌++◌, length, map, Option, Some, None, sym, ap, subst, ◌∙◌}
use Rattle.std.specs.Prelude.{slice_get}
use Rattle.std.specs.List.{flat_map}
use Rattle.berth_face.specs.Berth.{Meaning}
use Rattle.leaf_history.specs.History.{Entry}
use Rattle.script_text.specs.declared.fleet.FleetShape.{FleetShape}
use Rattle.transcript.specs.Pieces.{Played, PlayedItem, One, Burst, all_pieces}
use Rattle.transcript.specs.Transcript.{Known}
use Rattle.leaf_moves.specs.Stage.{Leaf}
use Rattle.leaf_moves.specs.Holds.{AllMeet, Hold, seen_in, berth_in}
use Rattle.leaf_moves.specs.Plays.{Plays}
use Rattle.leaf_moves.specs.Lanes.{Fans, PlaysItem, PlaysOn}
use Rattle.transcript_leaf.specs.Session.{AreMet, AreSame, IsWhole, LeafSession}
use Rattle.transcript_fleet.specs.Session.{Session, Stretch, nothing_yet}
use Rattle.transcript_fleet.specs.Laws.{SessionsBegin, SessionsGoOn, SessionsKnow}
use Rattle.transcript_leaf.proofs.Leaf.{leaf_begins, leaf_in_turn, leaf_joined, leaf_lends, leaf_meets, meet_grows}
use Rattle.transcript_leaf.proofs.Lists.{get_map, length_mapped, same_some}
use Rattle.transcript_leaf.proofs.Terms.{Grows}
use Rattle.transcript_leaf.proofs.Leaf.{whole_still}
use Rattle.transcript_fleet.proofs.Lists.{also_at, plays-append, plays_in_turn}
use Rattle.transcript_fleet.proofs.Growing.{Becomes, becomes_still, went_back}
use Rattle.transcript_fleet.proofs.Playing.{AreRight, WentOn, command_on, lane_on, leaves_of, right_joined, right_of, right_still, stretch_of}
use Rattle.transcript_fleet.proofs.Fanning.{fans_on}
use Rattle.transcript_fleet.proofs.Asking.{base_state_is}

-- ---- it begins

-- the berth that is held with a leaf
pub berth_held : {B : Type 0} (x : Hold B) (l : Leaf) (b : B) → x.held ≡ Some (l, b) → berth_in x ≡ Some b
berth_held {B} x l b held = ap (λ (h : Option (Leaf × B)). berth_in (record { tables = x.tables; callers = x.callers; held = h })) held

module _ {B : Type 0} (meaning : B → Meaning) where
  -- the berth of the leaf in that place
  berth_is : (berths : List B) (xs : List (Hold B)) (leaf : ℕ) (old : B) (x : Hold B) (new : B) → map Some berths ≡ map (λ (y : Hold B). berth_in y) xs
      → slice_get berths leaf ≡ Some old → slice_get xs leaf ≡ Some x → berth_in x ≡ Some new → new ≡ old
  berth_is berths xs leaf old x new are at_old at new_is =
      let was : slice_get (map Some berths) leaf ≡ Some (Some old) = get_map Some berths leaf old at_old in
      let now : slice_get (map (λ (y : Hold B). berth_in y) xs) leaf ≡ Some (berth_in x) = get_map (λ (y : Hold B). berth_in y) xs leaf x at in
      let same : berth_in x ≡ Some old = same_some (berth_in x) (Some old) (sym now ∙ (ap (λ (bs : List (Option B)). slice_get bs leaf) (sym are) ∙ was)) in
      same_some new old (sym new_is ∙ same)

  pub begins : (berths : List B) → SessionsBegin meaning berths
  begins berths fleet base known xs names count are new = record {
    stretch = record {
      counts = (
        sym (length_mapped Some berths) ∙ (ap (λ (bs : List (Option B)). length bs) are ∙ (length_mapped (λ (y : Hold B). berth_in y) xs ∙ count)),
        count,
      );
      prints = tt;
      each = λ leaf old x at_old at.
          let first = new leaf x at in
          subst (λ (b : B). LeafSession meaning leaf fleet.names (known leaf) (meaning b) [] (nothing_yet leaf) [] x)
          (berth_is berths xs leaf old x first.berth are at_old at (berth_held x _ first.berth first.down))
          (leaf_begins meaning leaf fleet.names (known leaf) (base leaf) x names first).0;
      answered = λ histories on. tt;
      worn = λ histories on. tt;
    };
    whole = λ leaf x at. (leaf_begins meaning leaf fleet.names (known leaf) (base leaf) x names (new leaf x at)).1;
  }

-- ---- it goes on

-- what was seen of a leaf when a burst began
abbrev seen_at : {B : Type 0} → Option (Hold B) → ℕ → List Entry
seen_at None place = []
seen_at (Some x) place = seen_in x place

module _ {B : Type 0} {meaning : B → Meaning} {olds : List B} {fleet : FleetShape} {known : ℕ → Option Known} {items : List PlayedItem} {xs : List (Hold B)}
    (s : Session meaning fleet known olds items xs) where
  abbrev Now : ℕ → B → List PlayedItem → Hold B → Type 0
  Now leaf old is x = LeafSession meaning leaf fleet.names (known leaf) (meaning old) [] (nothing_yet leaf) is x

  -- the run holds all leaves and seats still
  all_whole : (others : List PlayedItem) (ys : List (Hold B)) → Stretch meaning fleet known olds [] nothing_yet others ys → Becomes xs ys
      → (leaf : ℕ) (y : Hold B) → slice_get ys leaf ≡ Some y → IsWhole y
  all_whole others ys now becomes leaf y at =
      let x = also_at ys xs leaf y (sym becomes.grow.count) at in
      let old = also_at ys olds leaf y (now.counts.0 ∙ sym now.counts.1) at in
      whole_still meaning leaf fleet.names (known leaf) (meaning old.0) [] (nothing_yet leaf) others x.0 y
      (s.stretch.each leaf old.0 x.0 old.1 x.1).callers_are (now.each leaf old.0 y old.1 at) (becomes.same leaf x.0 y x.1 at) (s.whole leaf x.0 x.1)

  -- the run behind an item, and how it came there
  abbrev Later : PlayedItem → List (Hold B) → Type 0
  Later x ys = Session meaning fleet known olds (items ++ x ∷ []) ys × Becomes xs ys

  one_on : (p : Played) (ys : List (Hold B)) → Plays meaning fleet p.command xs p.pieces ys → Later (One p) ys
  one_on p ys step =
      let w = command_on p s.stretch step in
      (record { stretch = w.stretch; whole = all_whole (items ++ One p ∷ []) ys w.stretch w.becomes }, w.becomes)

  in_turn_on : (lanes : List (List Played)) (ys : List (Hold B)) → PlaysOn meaning fleet xs (flat_map (λ (lane : List Played). lane) lanes) ys → Later (Burst lanes) ys
  in_turn_on lanes ys plays =
      let w = lane_on plays items s.stretch in
      let now : Stretch meaning fleet known olds [] nothing_yet (items ++ Burst lanes ∷ []) ys = stretch_of
      (record {
        counts = w.stretch.counts;
        each = λ leaf old y at_old at. leaf_in_turn meaning leaf fleet.names (known leaf) (meaning old) [] (nothing_yet leaf) items lanes y (w.stretch.each leaf old y at_old at);
      })
      (subst (λ (ps : List Played). AreRight fleet known ps ys) (plays_in_turn items lanes)
      (right_of w.stretch)) in
      (record { stretch = now; whole = all_whole (items ++ Burst lanes ∷ []) ys now w.becomes }, w.becomes)

  -- ---- beside one another

  module _ (met : List (Hold B)) (meet : AllMeet meaning xs met) where
    abbrev start : ℕ → ℕ → List Entry
    start leaf = seen_at (slice_get met leaf)

    -- the seats of the leaf with that number met
    met_at : (leaf : ℕ) (old : B) (x y : Hold B) → slice_get olds leaf ≡ Some old → slice_get xs leaf ≡ Some x → slice_get met leaf ≡ Some y
        → Now leaf old items y × AreMet y × Grows x y × AreSame x y × IsWhole y
    met_at leaf old x y at_old at_x at_y =
        let was = s.stretch.each leaf old x at_old at_x in
        let now = leaf_meets meaning leaf fleet.names (known leaf) (meaning old) [] (nothing_yet leaf) items x y was (meet.each leaf x y at_x at_y) in
        let grew = meet_grows meaning leaf fleet.names (known leaf) (meaning old) [] (nothing_yet leaf) items x y was (meet.each leaf x y at_x at_y) in (
          now.0,
          now.1,
          grew.0,
          grew.1,
          whole_still meaning leaf fleet.names (known leaf) (meaning old) [] (nothing_yet leaf) items x y was.callers_are now.0 grew.1 (s.whole leaf x at_x),
        )

    -- those of the leaf in that place of the leaves that met
    meeting : (leaf : ℕ) (old : B) (y : Hold B) → slice_get olds leaf ≡ Some old → slice_get met leaf ≡ Some y → Now leaf old items y × AreMet y × IsWhole y
    meeting leaf old y at_old at_y =
        let x = also_at met xs leaf y (sym meet.count) at_y in
        let now = met_at leaf old x.0 y at_old x.1 at_y in
        (now.0, now.1, now.4)

    became : Becomes xs met
    became = record {
      grow = record {
        count = meet.count;
        each = λ leaf x y at_x at_y.
            let old = also_at xs olds leaf x (s.stretch.counts.0 ∙ sym s.stretch.counts.1) at_x in
            (met_at leaf old.0 x y old.1 at_x at_y).2;
      };
      same = λ leaf x y at_x at_y.
          let old = also_at xs olds leaf x (s.stretch.counts.0 ∙ sym s.stretch.counts.1) at_x in
          (met_at leaf old.0 x y old.1 at_x at_y).3;
    }

    -- a burst has begun
    lent : Stretch meaning fleet known olds (all_pieces items) start (Burst [] ∷ []) met
    lent = record {
      counts = (s.stretch.counts.0, meet.count ∙ s.stretch.counts.1);
      prints = tt;
      each = λ leaf old y at_old at.
          let now = meeting leaf old y at_old at in
          subst (λ (begun : ℕ → List Entry). LeafSession meaning leaf fleet.names (known leaf) (meaning old) (all_pieces items) begun (Burst [] ∷ []) y) (ap seen_at (sym at))
          (leaf_lends meaning leaf fleet.names (known leaf) (meaning old) [] (nothing_yet leaf) items y now.0 now.1 now.2);
      answered = λ histories on. tt;
      worn = λ histories on. tt;
    }

    beside_on : (lanes : List (List Played)) (ys : List (Hold B)) → Fans meaning fleet met lanes ys → Later (Burst lanes) ys
    beside_on lanes ys fan =
        let w = fans_on fan lent in
        let becomes : Becomes xs ys = becomes_still became w.becomes in
        let right = right_joined (right_still becomes.grow (right_of s.stretch)) (right_of w.stretch) in
        let now : Stretch meaning fleet known olds [] nothing_yet (items ++ Burst lanes ∷ []) ys = stretch_of
        (record {
          counts = w.stretch.counts;
          each = λ leaf old y at_old at. joined_at lanes ys w leaf old y at_old at;
        })
        (subst (λ (ps : List Played). AreRight fleet known ps ys) (sym (plays-append items (Burst lanes ∷ []))) right) in
        (record { stretch = now; whole = all_whole (items ++ Burst lanes ∷ []) ys now becomes }, becomes)
      where
        joined_at : (lanes : List (List Played)) (ys : List (Hold B))
            → WentOn meaning fleet known olds (all_pieces items) start (Burst lanes ∷ []) (all_pieces (Burst lanes ∷ [])) met ys
            → (leaf : ℕ) (old : B) (y : Hold B) → slice_get olds leaf ≡ Some old → slice_get ys leaf ≡ Some y → Now leaf old (items ++ Burst lanes ∷ []) y
        joined_at lanes ys w leaf old y at_old at =
            let x = also_at ys met leaf y (sym w.becomes.grow.count) at in
            let was = meeting leaf old x.0 at_old x.1 in
            leaf_joined meaning leaf fleet.names (known leaf) (meaning old) [] (nothing_yet leaf) items lanes x.0 y was.0 was.1 was.2 (w.becomes.same leaf x.0 y x.1 at)
            (subst (λ (begun : ℕ → List Entry). LeafSession meaning leaf fleet.names (known leaf) (meaning old) (all_pieces items) begun (Burst lanes ∷ []) y) (ap seen_at x.1)
            (w.stretch.each leaf old y at_old at))

-- ---- each item

module _ {B : Type 0} (meaning : B → Meaning) (olds : List B) where
  pub plays_on : SessionsGoOn meaning olds
  plays_on fleet known items xs ys x s step =
      let later = by x step in
      (later.0, λ histories on. went_back histories later.1.grow on)
    where
      by : (x : PlayedItem) → PlaysItem meaning fleet xs x ys → Later s x ys
      by x (PlaysItem.one p is plays) =
          subst (λ (z : PlayedItem). Later s z ys) (sym is)
          (one_on s p ys plays)
      by x (PlaysItem.beside lanes met is meet fan) =
          subst (λ (z : PlayedItem). Later s z ys) (sym is)
          (beside_on s met meet lanes ys fan)
      by x (PlaysItem.in_turn lanes is plays) =
          subst (λ (z : PlayedItem). Later s z ys) (sym is)
          (in_turn_on s lanes ys plays)

  pub sessions_know : SessionsKnow meaning olds
  sessions_know fleet known items xs s leaf table below within =
      base_state_is (leaves_of s.stretch) leaf table below within
