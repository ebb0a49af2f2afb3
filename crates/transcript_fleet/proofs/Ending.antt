-- A run ends: once all seats have met it is a transcript, and the berths are left so.
use Rattle.std.proofs.Common.{◌≡◌, ℕ, ◌<◌, Bool, true, false, List, [], arith, length, refl, sym, ap, subst, ◌∙◌, Option, Some, None}
use Rattle.std.specs.Prelude.{slice_get, nat_lt, is_some}
use Rattle.std.proofs.lemmas.Bool.{ltb-true, ltb-false}
use Rattle.berth_face.specs.Berth.{Meaning}
use Rattle.leaf_history.specs.History.{Entry}
use Rattle.script_text.specs.declared.fleet.FleetShape.{FleetShape}
use Rattle.script_text.specs.Commands.{leaf_count}
use Rattle.transcript.specs.Pieces.{Piece, PlayedItem, all_pieces, deeds}
use Rattle.transcript.specs.Life.{Life, Lives}
use Rattle.transcript.specs.Answers.{columns_of}
use Rattle.transcript.specs.Transcript.{Known, first_life, base_states_of}
use Rattle.transcript.specs.Moments.{MomentsRise, notes_told}
use Rattle.transcript.specs.Leaving.{LeavesBerth}
use Rattle.leaf_moves.specs.Stage.{Leaf}
use Rattle.leaf_moves.specs.Holds.{GoOn, HasMet, Hold, seen_in, berth_in}
use Rattle.transcript_leaf.specs.Session.{AreMet, IsWhole, LeafSession}
use Rattle.transcript_fleet.specs.Session.{Session, nothing_yet}
use Rattle.transcript_fleet.specs.Laws.{IsToldFleet, SessionsEnd}
use Rattle.transcript_leaf.proofs.Leaf.{leaf_history, leaf_leaves, leaf_lives, leaf_meets, leaf_order, leaf_strangers, meet_grows}
use Rattle.transcript_leaf.proofs.Ended.{moments_all}
use Rattle.transcript_leaf.proofs.Lists.{element_at, same_some, within}
use Rattle.transcript_leaf.proofs.Terms.{Grows}
use Rattle.transcript_leaf.proofs.Leaf.{whole_still}
use Rattle.transcript_fleet.proofs.Lists.{one_at}
use Rattle.transcript_fleet.proofs.Growing.{Longer, goes_on_all}
use Rattle.transcript_fleet.proofs.Sessions.{berth_held}

-- what there is at each place below a number, as a function of the place
module _ {X : Type 0} (nowhere : X) (P : ℕ → X → Type 0) (count : ℕ) (there : (place : ℕ) → place < count → (x : X) × P place x) where
  abbrev by_test : (place : ℕ) (b : Bool) → nat_lt place count ≡ b → X
  by_test place true e = (there place (ltb-true place count e)).0
  by_test place false e = nowhere

  abbrev pub chosen : ℕ → X
  chosen place = by_test place (nat_lt place count) refl

  is_chosen : (place : ℕ) → place < count → (b : Bool) (e : nat_lt place count ≡ b) → P place (by_test place b e)
  is_chosen place below true e = (there place (ltb-true place count e)).1
  is_chosen place below false e = absurd (omega (arith, below, ltb-false place count e))

  pub chosen_is : (place : ℕ) → place < count → P place (chosen place)
  chosen_is place below = is_chosen place below (nat_lt place count) refl

-- the life of a leaf, and what is held of it, at the end
record Final (B : Type 0) : Type 0 where
  life : Life
  hold : Hold B

-- what is held of no leaf
abbrev nobody : {B : Type 0} → Hold B
nobody = record { tables = []; callers = []; held = None }

-- a leaf ended so
record EndsSo {B : Type 0} (meaning : B → Meaning) (fleet : FleetShape) (known : ℕ → Option Known) (olds : List B) (items : List PlayedItem) (xs : List (Hold B)) (leaf : ℕ) (end : Final B) : Type 0 where
  old : B
  x : Hold B
  at_old : slice_get olds leaf ≡ Some old
  at : slice_get xs leaf ≡ Some x
  last : Leaf
  berth : B
  now : LeafSession meaning leaf fleet.names (known leaf) (meaning old) [] (nothing_yet leaf) items end.hold
  met : AreMet end.hold
  whole : IsWhole end.hold
  held : end.hold.held ≡ Some (last, berth)
  life_is : (now.held last berth held).1.life ≡ end.life
  berth_is : berth_in x ≡ Some berth
  longer : Grows x end.hold

module _ {B : Type 0} {meaning : B → Meaning} {olds : List B} {fleet : FleetShape} {known : ℕ → Option Known} {items : List PlayedItem} {xs : List (Hold B)}
    (s : Session meaning fleet known olds items xs) (met : (leaf : ℕ) (x : Hold B) → slice_get xs leaf ≡ Some x → HasMet meaning x) where
  abbrev pieces : List Piece
  pieces = all_pieces items

  abbrev Ends : ℕ → Final B → Type 0
  Ends leaf end = EndsSo meaning fleet known olds items xs leaf end

  ends_so : (leaf : ℕ) → leaf < leaf_count fleet → (end : Final B) × Ends leaf end
  ends_so leaf below =
      let old = element_at olds leaf (subst (λ (n : ℕ). leaf < n) (sym s.stretch.counts.0) below) in
      let x = element_at xs leaf (subst (λ (n : ℕ). leaf < n) (sym s.stretch.counts.1) below) in
      let m = met leaf x.0 x.1 in
      let y = m.0 in
      let was = s.stretch.each leaf old.0 x.0 old.1 x.1 in
      let now = leaf_meets meaning leaf fleet.names (known leaf) (meaning old.0) [] (nothing_yet leaf) items x.0 y was m.1 in
      let grew = meet_grows meaning leaf fleet.names (known leaf) (meaning old.0) [] (nothing_yet leaf) items x.0 y was m.1 in
      let held : y.held ≡ Some (m.1.leaf_then, m.1.berth) = ap (λ (z : Hold B). z.held) m.1.now in (
        record { life = (now.0.held m.1.leaf_then m.1.berth held).1.life; hold = y },
        record {
          old = old.0;
          x = x.0;
          at_old = old.1;
          at = x.1;
          last = m.1.leaf_then;
          berth = m.1.berth;
          now = now.0;
          met = now.1;
          whole = whole_still meaning leaf fleet.names (known leaf) (meaning old.0) [] (nothing_yet leaf) items x.0 y was.callers_are now.0 grew.1 (s.whole leaf x.0 x.1);
          held = held;
          life_is = refl {a = (now.0.held m.1.leaf_then m.1.berth held).1.life};
          berth_is = berth_held x.0 m.1.leaf m.1.berth m.1.held;
          longer = grew.0;
        },
      )

  abbrev finals : ℕ → Final B
  finals = chosen (record { life = first_life None fleet.names; hold = nobody }) Ends (leaf_count fleet) ends_so

  ended_so : (leaf : ℕ) → leaf < leaf_count fleet → Ends leaf (finals leaf)
  ended_so = chosen_is (record { life = first_life None fleet.names; hold = nobody }) Ends (leaf_count fleet) ends_so

  -- what the seats have seen at the end
  abbrev histories : ℕ → ℕ → List Entry
  histories leaf table = seen_in (finals leaf).hold table

  below_count : (leaf : ℕ) (x : Hold B) → slice_get xs leaf ≡ Some x → leaf < leaf_count fleet
  below_count leaf x at = subst (λ (n : ℕ). leaf < n) s.stretch.counts.1 (within xs leaf x at)

  go_on : GoOn xs histories
  go_on = goes_on_all xs histories
      (λ leaf x at table.
      let end = ended_so leaf (below_count leaf x at) in
      subst (λ (z : Hold B). Longer (seen_in z table) (histories leaf table)) (one_at xs leaf end.x x end.at at) (end.longer table))

  leaves_so : (leaf : ℕ) (k : Known) (old new : B) (x : Hold B) → known leaf ≡ Some k → slice_get olds leaf ≡ Some old → slice_get xs leaf ≡ Some x → berth_in x ≡ Some new
      → LeavesBerth fleet.names k.base (finals leaf).life (histories leaf) (meaning old) (meaning new)
  leaves_so leaf k old new x is at_old at berth =
      let end = ended_so leaf (below_count leaf x at) in
      let there : berth_in end.x ≡ Some new = ap (λ (z : Hold B). berth_in z) (one_at xs leaf end.x x end.at at) ∙ berth in
      subst (λ (b : B). LeavesBerth fleet.names k.base (finals leaf).life (histories leaf) (meaning b) (meaning new)) (one_at olds leaf end.old old end.at_old at_old)
      (subst (λ (b : B). LeavesBerth fleet.names k.base (finals leaf).life (histories leaf) (meaning end.old) (meaning b)) (same_some end.berth new (sym end.berth_is ∙ there))
      (subst (λ (l : Life). LeavesBerth fleet.names k.base l (histories leaf) (meaning end.old) (meaning end.berth)) end.life_is
      (leaf_leaves meaning leaf fleet.names (known leaf) (meaning end.old) items (finals leaf).hold k is end.now end.met end.last end.berth end.held)))

  moments_so : (leaf : ℕ) (old new : B) (x : Hold B) → slice_get olds leaf ≡ Some old → slice_get xs leaf ≡ Some x → berth_in x ≡ Some new
      → MomentsRise (histories leaf) (meaning old).clock (notes_told leaf pieces) (meaning new).clock
  moments_so leaf old new x at_old at berth =
      let end = ended_so leaf (below_count leaf x at) in
      let there : berth_in end.x ≡ Some new = ap (λ (z : Hold B). berth_in z) (one_at xs leaf end.x x end.at at) ∙ berth in
      subst (λ (b : B). MomentsRise (histories leaf) (meaning b).clock (notes_told leaf pieces) (meaning new).clock) (one_at olds leaf end.old old end.at_old at_old)
      (subst (λ (b : B). MomentsRise (histories leaf) (meaning end.old).clock (notes_told leaf pieces) (meaning b).clock) (same_some end.berth new (sym end.berth_is ∙ there))
      (moments_all meaning leaf fleet.names (known leaf) (meaning end.old) items (finals leaf).hold end.now end.met end.last end.berth end.held))

  pub told_fleet : IsToldFleet meaning fleet known items olds xs
  told_fleet = record {
    transcript = record {
      played = items;
      histories = histories;
      lives = λ leaf. (finals leaf).life;
      items_are = refl;
      text = refl;
      prints = s.stretch.prints;
      each_lives = λ leaf below.
          let end = ended_so leaf below in
          subst (λ (l : Life). Lives (is_some (known leaf)) (length fleet.names) (columns_of (base_states_of fleet known leaf) (histories leaf) (length fleet.names)) [] (first_life (known leaf) fleet.names) (deeds leaf pieces) l)
          end.life_is (leaf_lives meaning leaf fleet.names (known leaf) (meaning end.old) items (finals leaf).hold end.now end.met end.last end.berth end.held);
      one_history = λ leaf table below within.
          let end = ended_so leaf below in
          leaf_history meaning leaf fleet.names (known leaf) (meaning end.old) items (finals leaf).hold end.now end.whole end.met table within;
      in_order = λ leaf table below within.
          let end = ended_so leaf below in
          leaf_order meaning leaf fleet.names (known leaf) (meaning end.old) items (finals leaf).hold end.now end.whole end.met table within;
      answers = s.stretch.answered histories go_on;
      worn = s.stretch.worn histories go_on;
    };
    played_is = refl;
    go_on = go_on;
    strangers = λ leaf k below is.
        let end = ended_so leaf below in
        leaf_strangers meaning leaf fleet.names (known leaf) (meaning end.old) items (finals leaf).hold k is end.now end.whole;
    leaves = leaves_so;
    moments = moments_so;
  }

pub ended : {B : Type 0} (meaning : B → Meaning) (olds : List B) → SessionsEnd meaning olds
ended meaning olds fleet known items xs s met = told_fleet s met
