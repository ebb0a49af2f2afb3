-- The one history of each table, by the numbers in its lines, and the order in which these numbers are printed.
use Rattle.std.specs.Prelude.{◌≡◌, ℕ, suc, ◌-◌, ◌<◌, ◌≤◌, ◌==◌, ◌&&◌, Bool, List, [], ◌∷◌, take, Option, Some, None, ⊤, if◌then◌else◌, IsPermutation}
use Rattle.std.specs.List.{AllByRecursion, flat_map}
use Rattle.row_model.specs.declared.rows.Row.{Row}
use Rattle.leaf_model.specs.declared.groups.Group.{Group}
use Rattle.leaf_model.specs.Content.{Contents}
use Rattle.leaf_words.specs.declared.note.Note.{Note}
use Rattle.leaf_history.specs.Calls.{Call}
use Rattle.leaf_history.specs.Calls as call
use Rattle.leaf_history.specs.Replies as reply
use Rattle.leaf_history.specs.History.{Entry, HistoryState, LegalFrom, after, contents_held}
use Rattle.printed_lines.specs.declared.line.Said.{Said}
use Rattle.printed_lines.specs.declared.line.Said.TheVariants.{Added, Removed, Asked, RefusedShut, RefusedFull, RefusedMemory, Opened, Took, Flushed, Closed, Handed}
use Rattle.transcript.specs.Pieces.{Piece, Called, Acted, PlayedItem, One, Burst, pieces_in, said_of_note}

-- the line of an entry, and the call if a caller made it
pub record Shown : Type 0 where
  pub number : ℕ
  pub call : Option Call
  pub said : Said

abbrev pub shown_if : Bool → Shown → List Shown
shown_if b s = if b then s ∷ [] else []

abbrev pub shown_notes : ℕ → List Note → List Shown
shown_notes table notes = flat_map (λ (n : Note). shown_if (n.table == table) (record { number = n.number; call = None; said = said_of_note n.what })) notes

-- the line tells this entry
abbrev pub ShowsEntry : Option Call → Said → Entry → Type 0
ShowsEntry c (Added kept late) e = (c ≡ Some e.call) × (e.reply ≡ reply.Added kept late)
ShowsEntry c (Removed rows) e = (c ≡ Some e.call) × (e.reply ≡ reply.Removed rows)
ShowsEntry c Asked e = (c ≡ Some e.call) × ((gs : List Group) × (e.reply ≡ reply.Groups gs))
ShowsEntry c RefusedShut e = (c ≡ Some e.call) × (e.reply ≡ reply.Shut)
ShowsEntry c RefusedFull e = (c ≡ Some e.call) × (e.reply ≡ reply.Full)
ShowsEntry c RefusedMemory e = (c ≡ Some e.call) × (e.reply ≡ reply.NoMemory)
ShowsEntry c (Opened n) e = (c ≡ None) × ((contents : Contents) × (e.call ≡ call.Open n contents))
ShowsEntry c (Took n) e = (c ≡ None) × (e.call ≡ call.Take) × (e.reply ≡ reply.Counted n)
ShowsEntry c (Flushed n) e = (c ≡ None) × (e.call ≡ call.Flushed n)
ShowsEntry c (Closed n) e = (c ≡ None) × (e.call ≡ call.Shut) × (e.reply ≡ reply.Counted n)
ShowsEntry c Handed e = (c ≡ None) × (e.call ≡ call.Done)

-- Lines with the numbers from n on tell these entries.
abbrev pub Tells : ℕ → List Shown → List Entry → Type 0
Tells n [] [] = ⊤
Tells n (s ∷ ss) (e ∷ es) = (s.number ≡ n) × ShowsEntry s.call s.said e × Tells (suc n) ss es
Tells n _ _ = ⊥

-- what a table begins with: whether it is founded, and its base
pub record BaseState : Type 0 where
  pub founded : Bool
  pub base : HistoryState

-- the rows of a table before entry `number`
abbrev pub rows_before : BaseState → List Entry → ℕ → List Row
rows_before g entries number = (contents_held (after g.founded g.base (take (number - 1) entries))).rows

-- A table's lines, sorted by number, have the numbers from 1 on, each once, and tell the entries of one legal history.
pub record IsHistoryOf (g : BaseState) (lines : List Shown) (entries : List Entry) : Type 0 where
  pub legal : LegalFrom g.founded g.base entries
  pub placed : List Shown
  pub same : IsPermutation lines placed
  pub tells : Tells 1 placed entries

-- ---- the order of printing

-- the numbers rise, and are above `low` and at most `high`
abbrev pub Rises : ℕ → List Shown → ℕ → Type 0
Rises low [] high = low ≤ high
Rises low (s ∷ ss) high = (low < s.number) × Rises s.number ss high

module _ (leaf table : ℕ) where
  abbrev pub shown_in : Piece → List Shown
  shown_in (Called l t c number said) = shown_if ((l == leaf) && (t == table)) (record { number = number; call = Some c; said = said })
  shown_in (Acted l deed notes ending) = if l == leaf then shown_notes table notes else []
  shown_in _ = []

  -- the lines of a table's entries, in the order of printing
  abbrev pub shown : List Piece → List Shown
  shown pieces = flat_map shown_in pieces

  -- the numbers rise in a command, or in each lane of a burst
  abbrev pub ItemRises : ℕ → PlayedItem → ℕ → Type 0
  ItemRises low (One p) high = Rises low (shown p.pieces) high
  ItemRises low (Burst lanes) high = (low ≤ high) × AllByRecursion (λ lane. Rises low (shown (pieces_in lane)) high) lanes

  -- The numbers of a table rise outside bursts and within each lane. Those of a burst are above all before it and below
  -- all after it.
  abbrev pub InOrder : ℕ → List PlayedItem → ℕ → Type 0
  InOrder low [] high = low ≤ high
  InOrder low (x ∷ xs) high = (between : ℕ) × ItemRises low x between × InOrder between xs high
