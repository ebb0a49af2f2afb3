-- The moments of a leaf's entries: one list for all its tables, in the order in which they were made.
use Rattle.std.specs.List.{flat_map}
use Rattle.std.specs.Prelude.{◌≡◌, ℕ, ◌-◌, ◌≤◌, List, [], ◌∷◌, Some, option_map, slice_get}
use Rattle.leaf_words.specs.declared.note.Note.{Note}
use Rattle.leaf_history.specs.History.{Entry}
use Rattle.transcript.specs.Pieces.{Did, Piece, deeds}

-- the entries of a leaf's steward in these pieces
abbrev pub notes_told : ℕ → List Piece → List Note
notes_told leaf pieces = flat_map (λ (d : Did). d.notes) (deeds leaf pieces)

-- the clocks of these entries, each found by its table and its number, do not fall, and are from `from` to `to`
abbrev pub MomentsRise : (ℕ → List Entry) → ℕ → List Note → ℕ → Type 0
MomentsRise histories from [] to = from ≤ to
MomentsRise histories from (n ∷ ns) to = (t : ℕ) × (option_map (λ (e : Entry). e.clock) (slice_get (histories n.table) (n.number - 1)) ≡ Some t) × (from ≤ t) × MomentsRise histories t ns to
