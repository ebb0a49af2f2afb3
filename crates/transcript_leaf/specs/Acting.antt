-- What a deed does to the life of its leaf.
use Rattle.std.specs.Prelude.{◌≡◌, ℕ, ◌≤◌, Bool, true, false, List, Option, Some, None, IfSome, is_some, length}
use Rattle.leaf_words.specs.declared.note.Note.{Note}
use Rattle.berth_face.specs.Berth.{Meaning}
use Rattle.leaf_opening.specs.Starts.{IsWayLeft}
use Rattle.printed_lines.specs.declared.line.Ending.{Ending}
use Rattle.printed_lines.specs.declared.line.Deed.{Deed}
use Rattle.printed_lines.specs.declared.line.Deed.TheVariants.{Start}
use Rattle.transcript.specs.Life.{Columns, Life, Does, claimed, durable_with}
use Rattle.transcript.specs.Counts.{is_disk_fault}
use Rattle.leaf_history.specs.History.{Entry}
use Rattle.transcript.specs.Histories.{BaseState}
use Rattle.transcript.specs.Answers.{columns_handed, columns_of}
use Rattle.transcript.specs.Transcript.{Known}
use Rattle.leaf_steward.specs.Seated.{AtEach}
use Rattle.leaf_moves.specs.Stage.{Leaf, seated_of}
use Rattle.leaf_moves.specs.Modes.{mode_of}
use Rattle.transcript_leaf.specs.Session.{AreToldOn, IsDurable, IsNoted}

-- a fault of the disk at a flush or a drain ends the claim on the counts; one at a start leaves the log's records as
-- they were
abbrev pub loses_counts : Deed → Ending → Bool
loses_counts Start ending = false
loses_counts _ ending = is_disk_fault ending

-- the claim on the counts after a deed: it goes on by the notes; or it ended, as the disk failed; or a start made it
-- anew, with counts that are flushed where the base is known
pub data CountsGo (known : Option Known) (deed : Deed) (life : Life) (notes : List Note) (ending : Ending) (next : Life) (leaf : Leaf) (m : Meaning) : Type 0 where
  keeps : loses_counts deed ending ≡ false → next.durable ≡ durable_with life.durable notes → CountsGo known deed life notes ending next leaf m
  lost : next.durable ≡ None → CountsGo known deed life notes ending next leaf m
  opened : (counts : List ℕ) → next.durable ≡ claimed (is_some known) counts → IfSome known (λ k. IsDurable k.base counts leaf m) → CountsGo known deed life notes ending next leaf m

-- the way of the next start, if one is claimed
abbrev pub FitsWay : Option Known → Life → Meaning → Type 0
FitsWay None life m = life.way ≡ None
FitsWay (Some k) life m = IfSome life.way (IsWayLeft life.begun m.held.region)

-- Bounds on the columns and writes of a deed. `handed`: the entries that hand tables over, with `columns` columns in
-- all, at least what the histories imply. `most`, after a copy that did not end, and `bulk`, after one that had no
-- room: at most what the histories imply after the leaf's entries.
pub record Hands (leaf : Leaf) : Type 0 where
  pub handed : List Note
  pub columns : ℕ
  pub most : ℕ
  pub bulk : ℕ
  pub told : (base_states : ℕ → BaseState) (histories : ℕ → List Entry) → AreToldOn base_states histories (seated_of leaf) → columns_handed base_states histories handed ≤ columns
  pub few : (base_states : ℕ → BaseState) (histories : ℕ → List Entry) (notes : List Note) → AreToldOn base_states histories (seated_of leaf) → AtEach (IsNoted notes) (seated_of leaf)
      → (most ≤ (columns_of base_states histories (length (seated_of leaf).tables) notes).most) × (bulk ≤ (columns_of base_states histories (length (seated_of leaf).tables) notes).bulk)

-- the life after a deed
pub record Lived (known : Option Known) (tables : ℕ) (deed : Deed) (life : Life) (notes : List Note) (ending : Ending) (leaf : Leaf) (m : Meaning) : Type 0 where
  pub next : Life
  pub hands : Hands leaf
  pub does : (columns : Columns) → columns.least hands.handed ≤ hands.columns → (is_some known ≡ true → (hands.most ≤ columns.most) × (hands.bulk ≤ columns.bulk)) → Does (is_some known) tables columns deed life notes ending next
  pub counts : CountsGo known deed life notes ending next leaf m
  pub mode : next.mode ≡ mode_of leaf
  pub way : FitsWay known next m
