-- What a look at a leaf's berth leaves of the berths.
use Rattle.std.proofs.Common.{◌≡◌, ℕ, ◌+◌, ◌<◌, List, Option, Some, None, Result, Ok, Err, IsTrue, IfOk, get_or, length, drop, slice_get, slice_set, refl, sym, ap, subst, ◌∙◌, inl, inr, arith}
use Rattle.std.proofs.lemmas.List.{drop-set-lt, length-set}
use Rattle.std.proofs.lemmas.Option.{slice_get_read}
use Rattle.berth_face.specs.Berth.{Meaning}
use Rattle.berth_face.specs.Causes.{Rose}
use Rattle.berth_face.specs.Streams.{WritesFront}
use Rattle.region_reading.specs.Reading.{Untouched}
use Rattle.region_reading.specs.declared.fault.AdoptFault.{AdoptFault}
use Rattle.region_reading.specs.declared.fault.AdoptFault.TheVariants as fault
use Rattle.region_inspect.specs.declared.seen.Seen.{Seen}
use Rattle.region_inspect.specs.Shows.{Shows}
use Rattle.region_inspect.specs.Lines.{region_text}
use Rattle.leaf_steward.proofs.Seating.{set_either, some_same}
use Rattle.run_ends.specs.declared.status.Status.{Status}
use Rattle.run_ends.specs.declared.status.Status.TheVariants as status
use Rattle.play.specs.Inspected.{InspectEndsShort, IsLookedAt, IsSeen}
use Rattle.play.specs.Played.{KeepsCounts, LeavesBerths}
use Rattle.play.specs.Shortened.{IfShort}
use Rattle.play.proofs.Holding.{keeps_passed, keeps_same}

-- nothing was looked at
pub leaves_all : {B : Type 0} (meaning : B → Meaning) (leaves : ℕ) (berths : List B) → LeavesBerths meaning leaves berths berths
leaves_all meaning leaves berths = record {
  as_many = refl;
  used = λ leaf old new was is. keeps_same meaning old new (some_same old new (sym was ∙ is));
  others = refl;
}

module _ {B : Type 0} (meaning : B → Meaning) (leaf : ℕ) (olds news : List B) (looked : IsLookedAt meaning leaf olds news) where
  own_keeps : (other : ℕ) (old new : B) → slice_get olds other ≡ Some old → other ≡ leaf → new ≡ looked.berth_now → KeepsCounts (meaning old) (meaning new)
  own_keeps other old new was own is =
      let same : looked.berth ≡ old = some_same looked.berth old (sym looked.at ∙ ap (λ (i : ℕ). slice_get olds i) (sym own) ∙ was) in
      subst (λ (b : B). KeepsCounts (meaning old) (meaning b)) (sym is) (subst (λ (b : B). KeepsCounts (meaning b) (meaning looked.berth_now)) same (keeps_passed (meaning looked.berth) (meaning looked.berth_now) looked.untouched.time))

  used : (other : ℕ) (old new : B) → slice_get olds other ≡ Some old → slice_get news other ≡ Some new → KeepsCounts (meaning old) (meaning new)
  used other old new was is = elim (set_either olds leaf other looked.berth_now new (ap (λ (l : List B). slice_get l other) (sym looked.back) ∙ is)) [
    | inl own ↦ own_keeps other old new was own.0 own.1
    | inr still ↦ keeps_same meaning old new (some_same old new (sym was ∙ still.1))
  ]

  pub leaves_looked : LeavesBerths meaning (leaf + 1) olds news
  leaves_looked = record {
    as_many = ap (λ (l : List B). length l) looked.back ∙ length-set olds leaf looked.berth_now;
    used = used;
    others = ap (λ (l : List B). drop (leaf + 1) l) looked.back ∙ drop-set-lt (leaf + 1) olds leaf looked.berth_now (omega arith);
  }

-- ---- what was seen

module _ {B : Type 0} (meaning : B → Meaning) (leaf : ℕ) (olds : List B) where
  -- the berth of the leaf was called, and it is in its place
  abbrev pub looked_at : (berth now : B) → leaf < length olds → berth ≡ get_or olds leaf berth → Untouched (meaning berth) (meaning now) → IsLookedAt meaning leaf olds (slice_set olds leaf now)
  looked_at berth now within is untouched = record {
    berth = berth;
    berth_now = now;
    at = slice_get_read olds (length olds) leaf berth refl within is;
    back = refl;
    untouched = untouched;
  }

  module _ (news : List B) where
    pub seen_by : (r : Result Seen AdoptFault) (looked : IsLookedAt meaning leaf olds news) → (IsTrue (meaning looked.berth).tells → IfOk r (Shows (meaning looked.berth).held.region))
        → IfOk r (λ seen. IsSeen meaning leaf olds news (Some seen))
    seen_by (Ok seen) looked shows = record { looked = looked; shows = shows; cause = λ none. absurd cc }
    seen_by (Err e) looked shows = tt

    pub failed_by : (r : Result Seen AdoptFault) (looked : IsLookedAt meaning leaf olds news)
        → (r ≡ Err fault.RegionFault → Rose (meaning looked.berth).region_faults (meaning looked.berth_now).region_faults) → r ≡ Err fault.RegionFault → IsSeen meaning leaf olds news None
    failed_by r looked cause is = record { looked = looked; shows = λ told. tt; cause = λ none. cause is }

    -- how it ends where not all was written
    pub ends_short : (was now : Option (List ℕ)) (s : Status) (seen : Option Seen) → IsSeen meaning leaf olds news seen → (s ≡ status.WriteFault → WritesFront was now (region_text leaf seen))
        → (s ≡ status.NoMemory → now ≡ was) → IfShort s (InspectEndsShort meaning leaf olds news was now)
    ends_short was now status.WriteFault seen is front none = InspectEndsShort.some seen is (front refl)
    ends_short was now status.NoMemory seen is front none = InspectEndsShort.nothing (none refl) is.looked
    ends_short was now _ seen is front none = tt
