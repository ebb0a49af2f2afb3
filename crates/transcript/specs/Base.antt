-- What the histories of a leaf begin with.
use Rattle.std.specs.Prelude.{◌≡◌, ℕ, suc, List, [], ◌∷◌, length}
use Rattle.leaf_history.specs.History.{Entry}
use Rattle.row_records.specs.Records.{LogRecord}
use Rattle.disk_backup.specs.Logs.{IsLog, writes_of}
use Rattle.crash_moments.specs.Left.{NamedStates}
use Rattle.crash_moments.specs.Watched.{Watched}

-- the log on the disk has `count` writes of this name
abbrev pub LogHas : List ℕ → List ℕ → ℕ → Type 0
LogHas disk name count = (records : List LogRecord) × (log_end : ℕ) × IsLog disk records log_end × (count ≡ length (writes_of name records))

-- the tables of these names, from `place` on, with their histories
abbrev pub watched_from : ℕ → List (List ℕ) → NamedStates → (ℕ → List Entry) → List Watched
watched_from place [] base histories = []
watched_from place (n ∷ ns) base histories = record { name = n; base = base n; seen = histories place } ∷ watched_from (suc place) ns base histories
