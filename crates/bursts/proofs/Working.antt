-- Lanes that play with what was cut off for them.
use Rattle.std.proofs.Common.{◌≡◌, ℕ, ◌<◌, List, [], ◌∷◌, ◌++◌, length, take, drop, refl, sym, ap, subst, ◌∙◌, arith}
use Rattle.std.proofs.Math.Seq.{take-append_seam}
use Rattle.std.proofs.lemmas.List.{get_or_append_left, get_or_push, length_push}
use Rattle.std.specs.List.{All}
use Rattle.std.specs.Prelude.{slice_index_or}
use Rattle.berth_face.specs.Berth.{Meaning}
use Rattle.rollover_watch.specs.Watches.{Held}
use Rattle.lane_play.specs.Went.{LaneWent}
use Rattle.lane_play.proofs.Held.{pass_none, still_same}
use Rattle.lane_play.proofs.Playing.{lane_idle}
use Rattle.bursts.specs.declared.work.LaneWork.{LaneWork}
use Rattle.bursts.specs.Lanes.{AreDone, LaneIsDone, MayWork}

module _ {B X : Type 0} {Y : X → Type 0} (hear : LaneWork B X Y → List Held) (meaning : B → Meaning) where
  lane_waits : (lane : LaneWork B X Y) → MayWork lane → LaneIsDone hear meaning lane lane
  lane_waits lane may = record {
    fleet = refl;
    tables = refl;
    still = still_same lane.crew.holds;
    time = pass_none meaning lane.crew.holds;
    went = subst (λ o. LaneWent meaning lane.crew.fleet lane.commands.items lane.crew.holds (hear lane) o lane.crew.holds (hear lane)) (sym may.unplayed)
        (lane_idle meaning lane.crew.fleet lane.commands.items lane.crew.holds (hear lane));
  }

  -- none has begun
  pub none_done : (lanes : List (LaneWork B X Y)) → All MayWork lanes → AreDone hear meaning lanes lanes
  none_done lanes may = record { count = refl; each = λ i d below. lane_waits (slice_index_or lanes i d) (may i d below) }

  -- all have played, as they stand in the list that was lent
  pub all_done : (lanes now now' : List (LaneWork B X Y)) (len : ℕ) → now ≡ lanes → length now' ≡ length now → len ≡ length lanes
      → ((i : ℕ) (d : LaneWork B X Y) → i < length now → LaneIsDone hear meaning (slice_index_or now i d) (slice_index_or now' i d))
      → AreDone hear meaning lanes (take len (now' ++ drop (length now') lanes))
  all_done lanes now now' len same long size each =
      let whole : length now' ≡ length lanes = long ∙ ap (λ (ws : List (LaneWork B X Y)). length ws) same in
      let are : take len (now' ++ drop (length now') lanes) ≡ now' =
      ap (λ (n : ℕ). take n (now' ++ drop (length now') lanes)) (size ∙ sym whole) ∙ take-append_seam now' (drop (length now') lanes) in
      subst (λ (ws : List (LaneWork B X Y)). AreDone hear meaning lanes ws) (sym are)
      (subst (λ (ws : List (LaneWork B X Y)). AreDone hear meaning ws now') same (record { count = long; each = each }))

  -- all but the last, and the last
  pub last_done : (us vs : List (LaneWork B X Y)) (a b : LaneWork B X Y) (xs ys : List (LaneWork B X Y)) → xs ≡ us ++ a ∷ [] → ys ≡ vs ++ b ∷ [] → AreDone hear meaning xs ys → AreDone hear meaning us vs × LaneIsDone hear meaning a b
  last_done us vs a b xs ys was is done =
      let all : AreDone hear meaning (us ++ a ∷ []) (vs ++ b ∷ []) =
      subst (λ (ws : List (LaneWork B X Y)). AreDone hear meaning ws (vs ++ b ∷ [])) was (subst (λ (ws : List (LaneWork B X Y)). AreDone hear meaning xs ws) is done) in
      let long : length vs ≡ length us = omega (arith, all.count, length_push us a, length_push vs b) in (
        record {
          count = long;
          each = λ i d below.
              subst (λ w. LaneIsDone hear meaning w (slice_index_or vs i d)) (get_or_append_left us (a ∷ []) d i below)
              (subst (λ w. LaneIsDone hear meaning (slice_index_or (us ++ a ∷ []) i d) w) (get_or_append_left vs (b ∷ []) d i (omega (arith, below, long)))
              (all.each i d (omega (arith, below, length_push us a))));
        },
        subst (λ w. LaneIsDone hear meaning w b) (get_or_push us a a (length us) refl)
            (subst (λ w. LaneIsDone hear meaning (slice_index_or (us ++ a ∷ []) (length us) a) w) (get_or_push vs b a (length us) long)
            (all.each (length us) a (omega (arith, length_push us a)))),
      )
