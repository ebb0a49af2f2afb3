-- What the words `inspect L` do.
use Rattle.std.specs.Prelude.{◌≡◌, ℕ, List, Option, Some, None, IsTrue, IfSome, slice_get, slice_set}
use Rattle.std.specs.Io.KnownBytes.{Appends}
use Rattle.berth_face.specs.Berth.{Meaning}
use Rattle.berth_face.specs.Causes.{Rose}
use Rattle.berth_face.specs.Streams.{WritesFront}
use Rattle.region_reading.specs.Reading.{Untouched}
use Rattle.region_inspect.specs.declared.seen.Seen.{Seen}
use Rattle.region_inspect.specs.Shows.{Shows}
use Rattle.region_inspect.specs.Lines.{region_text}

module _ {B : Type 0} (meaning : B → Meaning) (leaf : ℕ) (old new : List B) where
  -- The leaf's berth was read, and is in its place. Its region and its disk hold what they held, and its disk was not
  -- read. All other berths are untouched.
  pub record IsLookedAt : Type 0 where
    pub berth : B
    pub berth_now : B
    pub at : slice_get old leaf ≡ Some berth
    pub back : new ≡ slice_set old leaf berth_now
    pub untouched : Untouched (meaning berth) (meaning berth_now)

  -- The region shows this, if the berth tells its contents. None: a call on the region failed.
  pub record IsSeen (seen : Option Seen) : Type 0 where
    pub looked : IsLookedAt
    pub shows : IsTrue (meaning looked.berth).tells → IfSome seen (Shows (meaning looked.berth).held.region)
    pub cause : seen ≡ None → Rose (meaning looked.berth).region_faults (meaning looked.berth_now).region_faults

  -- the text that was written shows the region of the leaf's berth, or that it failed
  pub record IsInspected (was now : Option (List ℕ)) : Type 0 where
    pub seen : Option Seen
    pub is : IsSeen seen
    pub written : Appends was now (region_text leaf seen)

  -- nothing was written, or a prefix of that text
  pub data InspectEndsShort (was now : Option (List ℕ)) : Type 0 where
    nothing : now ≡ was → IsLookedAt → InspectEndsShort was now
    some : (seen : Option Seen) → IsSeen seen → WritesFront was now (region_text leaf seen) → InspectEndsShort was now
