-- What a run writes and leaves, over leaves whose base is known or not.
use Rattle.std.specs.Prelude.{◌≡◌, ℕ, ◌<◌, true, List, [], drop, Option, Some, None, IfSome, slice_get, ⊤}
use Rattle.std.specs.Io.KnownBytes.{Appends}
use Rattle.berth_face.specs.Berth.{Meaning}
use Rattle.berth_face.specs.Moments.{EachNow}
use Rattle.leaf_history.specs.History.{Entry}
use Rattle.region_head.specs.declared.head.Head.TheVariants.{Version}
use Rattle.region_head.specs.Head.{head_of}
use Rattle.region_layout.specs.Region.{layout, reads}
use Rattle.leaf_words.specs.declared.ways.Way.TheVariants.{Memory}
use Rattle.leaf_opening.specs.Starts.{IsWayOf}
use Rattle.crash_moments.specs.Left.{NamedStates, Left}
use Rattle.crash_moments.specs.Told as moments
use Rattle.crash_states.specs.Standing.{states_of_tables}
use Rattle.crash_states.specs.Beginning.{BeginsAgain}
use Rattle.rollover_watch.specs.Watches.{Held}
use Rattle.script_text.specs.declared.item.Item.{Item}
use Rattle.printed_lines.specs.declared.line.Line.{Line}
use Rattle.printed_lines.specs.Lines.{lines_text}
use Rattle.transcript.specs.Base.{LogHas, watched_from}
use Rattle.script_text.specs.Commands.{leaf_count}
use Rattle.transcript.specs.Pieces.{all_lines, all_pieces, deeds, script_fleet, plays_in}
use Rattle.transcript.specs.Life.{Life}
use Rattle.transcript.specs.Counts.{CountsRose}
use Rattle.transcript.specs.Strangers.{StrangersIn}
use Rattle.transcript.specs.Transcript.{Known, Transcript, base_states_of}
use Rattle.transcript.specs.Telling.{AreTold}
use Rattle.transcript.specs.Watching.{HearsAll}
use Rattle.transcript.specs.Moments.{MomentsRise, notes_told}

-- ---- one leaf's berth with a base

-- At each moment since the run began, each pair that a crash may leave belongs to the tables as they stood then, each
-- cut after the steward's last entry. Now each belongs to the tables with all their entries. A run may begin over the
-- berth again, and its first start prints the way that is claimed of it. An image that a drain of this run left has the
-- version that drains write.
pub record LeavesBerth (names : List (List ℕ)) (base : NamedStates) (life : Life) (histories : ℕ → List Entry) (old new : Meaning) : Type 0 where
  pub crash : moments.Told base (watched_from 0 names base (λ table. [])) (watched_from 0 names base histories) old new
  pub left : EachNow (λ p. Left reads (states_of_tables base (watched_from 0 names base histories) new) p) new
  pub begins : BeginsAgain (states_of_tables base (watched_from 0 names base histories) new) new
  pub way : IfSome life.way (IsWayOf new.held.region)
  pub layout : life.begun ≡ true → life.way ≡ Some Memory → head_of new.held.region ≡ Version layout

-- what is known of how a leaf begins, by the base of its berth
abbrev pub IsKnown : Option NamedStates → Meaning → Option Known → Type 0
IsKnown None m None = ⊤
IsKnown (Some base) m (Some k) = (k.base ≡ base) × (k.held ≡ m.held) × IsWayOf m.held.region k.way × ((name : List ℕ) → LogHas m.held.disk name (k.read name))
IsKnown _ m _ = ⊥

-- ---- all berths

module _ {B : Type 0} (meaning : B → Meaning) (olds news : List B) where
  -- P holds of the leaf's berth, as it was and as it is
  abbrev pub AtBerth : ℕ → (Meaning → Meaning → Type 0) → Type 0
  AtBerth leaf P = (old new : B) → slice_get olds leaf ≡ Some old → slice_get news leaf ≡ Some new → P (meaning old) (meaning new)

  abbrev pub AreKnown : (ℕ → Option NamedStates) → (ℕ → Option Known) → Type 0
  AreKnown base known = (leaf : ℕ) (old : B) → slice_get olds leaf ≡ Some old → IsKnown (base leaf) (meaning old) (known leaf)

  -- These lines are a transcript of the items. Standing queries tell what they should. Faults and strangers have their
  -- cause. The watches heard what the lines tell. Each leaf leaves its berth so, and the clocks of its entries do not
  -- fall. Berths that no leaf uses are untouched.
  pub record IsToldRun (items : List Item) (known : ℕ → Option Known) (lines : List Line) (before after : List Held) : Type 0 where
    pub transcript : Transcript (script_fleet items) known items (lines_text (script_fleet items).names lines)
    pub lines_are : all_lines transcript.played ≡ lines
    pub standing : AreTold (script_fleet items) (base_states_of (script_fleet items) known) transcript.histories transcript.played
    pub watched : HearsAll (script_fleet items) (plays_in transcript.played) before after
    pub counts : (leaf : ℕ) → leaf < (leaf_count (script_fleet items)) → AtBerth leaf (CountsRose leaf (all_pieces transcript.played))
    pub strangers : (leaf : ℕ) (k : Known) → leaf < (leaf_count (script_fleet items)) → known leaf ≡ Some k →
        StrangersIn (script_fleet items).names k.held.disk k.held.region (deeds leaf (all_pieces transcript.played))
    pub leaves : (leaf : ℕ) (k : Known) → leaf < (leaf_count (script_fleet items)) → known leaf ≡ Some k →
        AtBerth leaf (LeavesBerth (script_fleet items).names k.base (transcript.lives leaf) (transcript.histories leaf))
    pub moments : (leaf : ℕ) → leaf < (leaf_count (script_fleet items)) →
        AtBerth leaf (λ old new. MomentsRise (transcript.histories leaf) old.clock (notes_told leaf (all_pieces transcript.played)) new.clock)
    pub others : drop (leaf_count (script_fleet items)) news ≡ drop (leaf_count (script_fleet items)) olds

  -- The text of these lines was written. They tell the run, whatever is known of how its leaves began.
  pub record IsWritten (base : ℕ → Option NamedStates) (items : List Item) (was now : Option (List ℕ)) (before after : List Held) : Type 0 where
    pub lines : List Line
    pub written : Appends was now (lines_text (script_fleet items).names lines)
    pub told : (known : ℕ → Option Known) → AreKnown base known → IsToldRun items known lines before after
