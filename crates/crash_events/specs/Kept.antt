-- The invariant of a leaf's machine, which every event keeps.
use Rattle.std.specs.Prelude.{◌≡◌, ℕ, ◌+◌, ◌≤◌, ◌==◌, Bool, true, false, ◌||◌, not, List, [], ◌∷◌, Some, None, Option, ⊤, if◌then◌else◌}
use Rattle.leaf_history.specs.History.{write_count}
use Rattle.crash_events.specs.Machine.{Machine, Tracked, Hand, Mode, Down, Finding, Scanning, Adopting, Opening, Up, Preparing, Copying, RegionIs, Closed, Whole, Either, Other}
use Rattle.crash_events.specs.Events.{IsSettled}

-- the writes of the hand's record, of this table
abbrev pub in_hand : Option Hand → ℕ → ℕ
in_hand None t = 0
in_hand (Some h) t = if h.table == t then h.writes else 0

-- P holds of each table and its place, from place t on
abbrev pub AllPlaces : (ℕ → Tracked → Type 0) → ℕ → List Tracked → Type 0
AllPlaces P t [] = ⊤
AllPlaces P t (x ∷ xs) = P t x × AllPlaces P (t + 1) xs

-- the region may be an image
abbrev pub holds_image : RegionIs → Bool
holds_image Closed = false
holds_image Whole = true
holds_image Either = true
holds_image Other = false

-- in these modes a leaf drains, or adopts an image
abbrev pub stays : Mode → Bool
stays Copying = true
stays Adopting = true
stays (Finding found) = found
stays Down = false
stays (Scanning made) = false
stays Opening = false
stays Up = false
stays Preparing = false

-- the tables stay as they are: the region may be an image of them, or is about to be or was found to be one
abbrev pub is_frozen : Mode → RegionIs → Bool
is_frozen mode region = holds_image region || stays mode

-- in these modes the region is closed
abbrev pub is_shut : Mode → Bool
is_shut Up = true
is_shut Preparing = true
is_shut (Scanning made) = true
is_shut Adopting = true
is_shut Opening = true
is_shut Down = false
is_shut (Finding found) = false
is_shut Copying = false

-- in these modes a region may have a version that is not read
abbrev pub may_be_other : Mode → Bool
may_be_other Down = true
may_be_other (Finding found) = not found
may_be_other (Scanning made) = false
may_be_other Adopting = false
may_be_other Opening = false
may_be_other Up = false
may_be_other Preparing = false
may_be_other Copying = false

-- the region is closed
abbrev pub is_closed : RegionIs → Bool
is_closed Closed = true
is_closed Whole = false
is_closed Either = false
is_closed Other = false

-- in these modes a table may be open
abbrev pub may_be_live : Mode → RegionIs → Bool
may_be_live Up region = true
may_be_live Preparing region = true
may_be_live Opening region = true
may_be_live Down region = is_closed region
may_be_live (Finding found) region = false
may_be_live (Scanning made) region = false
may_be_live Adopting region = false
may_be_live Copying region = false

-- in these modes all that was taken is sure but for the hand's record: of an open table, and of any table while the
-- leaf prepares
abbrev pub is_tight : Mode → Bool → Bool
is_tight Up live = live
is_tight Opening live = live
is_tight Preparing live = true
is_tight Down live = false
is_tight (Finding found) live = false
is_tight (Scanning made) live = false
is_tight Adopting live = false
is_tight Copying live = false

-- in these modes no record is being settled
abbrev pub has_no_hand : Mode → Bool
has_no_hand Adopting = true
has_no_hand (Scanning made) = made
has_no_hand Opening = true
has_no_hand Down = false
has_no_hand (Finding found) = false
has_no_hand Up = false
has_no_hand Preparing = false
has_no_hand Copying = false

-- in these modes each table of the leaf is open
abbrev pub is_up : Mode → Bool
is_up Up = true
is_up Opening = false
is_up Preparing = false
is_up Down = false
is_up (Finding found) = false
is_up (Scanning made) = false
is_up Adopting = false
is_up Copying = false

-- in these modes a name that the leaf does not have has no writes
abbrev pub is_running : Mode → Bool
is_running Up = true
is_running Preparing = true
is_running Copying = true
is_running Opening = true
is_running Down = false
is_running (Finding found) = false
is_running (Scanning made) = false
is_running Adopting = false

-- the invariant of one table; n of its writes are in the hand
pub record KeptTable (mode : Mode) (region : RegionIs) (n : ℕ) (x : Tracked) : Type 0 where
  -- what is known to be on the disk is sure; what is sure was taken, and the hand's writes follow it; what was taken
  -- was accepted
  pub flushed : x.state.flushed ≤ x.sure
  pub sure : x.sure + n ≤ x.state.taken
  pub taken : x.state.taken ≤ write_count x.state
  -- no taken write is lost from sight while the leaf runs
  pub tight : x.own ≡ true → is_tight mode x.state.live ≡ true → x.sure + n ≡ x.state.taken
  -- beside an image nothing is written, and all is on the disk
  pub frozen : is_frozen mode region ≡ true → (x.state.live ≡ false) × IsSettled x
  -- where it may be open, and where it is
  pub live : x.own ≡ true → x.state.live ≡ true → may_be_live mode region ≡ true
  pub up : x.own ≡ true → is_up mode ≡ true → x.state.live ≡ true
  -- a drained table is shut, and all of it is on the disk
  pub handed : x.state.handed ≡ true → (x.state.live ≡ false) × IsSettled x
  -- a name that the leaf does not have is shut and not drained, and while the leaf runs it has nothing
  pub stranger : x.own ≡ false → (x.state.live ≡ false) × (x.state.handed ≡ false)
  pub unknown : x.own ≡ false → is_running mode ≡ true → (x.state.writes ≡ []) × (x.state.flushed ≡ 0) × (x.sure ≡ 0) × (x.state.taken ≡ 0)

-- and of the leaf
pub record KeptLeaf (mode : Mode) (region : RegionIs) (hand : Option Hand) : Type 0 where
  -- beside an image no record is being settled
  pub frozen : is_frozen mode region ≡ true → hand ≡ None
  -- while tables may be open, and while the log is read or the image taken over, a start would not find an image
  pub shut : is_shut mode ≡ true → region ≡ Closed
  pub other : region ≡ Other → may_be_other mode ≡ true
  pub no_hand : has_no_hand mode ≡ true → hand ≡ None

-- of its parts
abbrev pub KeptIn : Mode → RegionIs → Option Hand → List Tracked → Type 0
KeptIn mode region hand tables = KeptLeaf mode region hand × AllPlaces (λ t x. KeptTable mode region (in_hand hand t) x) 0 tables

-- what is kept of a machine
abbrev pub Kept : Machine → Type 0
Kept m = KeptIn m.mode m.region m.hand m.tables
