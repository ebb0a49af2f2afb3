-- In which mode a leaf is, in the words of its life.
use Rattle.std.specs.Prelude.{◌≡◌, length, Option, Some, None}
use Rattle.row_records.specs.Records.{LogRecord}
use Rattle.leaf_steward.specs.Owing.{Owing}
use Rattle.leaf_machine.specs.States.{Shutting, treated}
use Rattle.transcript.specs.Life.{LifeMode, Down, Up, Preparing, Owed, Progress, first_open}
use Rattle.leaf_moves.specs.Stage.{Leaf, IsDown, IsUp, IsPreparing}

-- what the log is owed, as lines tell it
abbrev pub owed_as : Owing → Option LogRecord → Option Owed
owed_as o None = None
owed_as o (Some r) = Some (record { table = o.owner; count = o.count })

abbrev pub owed_of : Owing → Option Owed
owed_of o = owed_as o o.log.owed

-- how far a leaf has come that shuts its tables
abbrev pub progress_of : Shutting → Progress
progress_of x = record { owed = owed_of x.serving.owing; treated = treated x; waits = x.waits }

-- as many of its tables are shut as are treated, and one more where that waits
abbrev pub HasShut : Shutting → Type 0
HasShut x = length x.closed ≡ first_open (progress_of x)

abbrev pub mode_of : Leaf → LifeMode
mode_of (IsDown x) = Down
mode_of (IsUp x) = Up (owed_of x.owing)
mode_of (IsPreparing x) = Preparing (progress_of x)
