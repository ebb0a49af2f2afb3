-- The numbers that the program ends with.
use Rattle.std.specs.Prelude.{ℕ}
use Rattle.run_ends.specs.declared.status.Status.{Status}

-- the exit status of a run
abbrev pub exit_number : Status → ℕ
exit_number Status.Done = 0
exit_number Status.Words = 2
exit_number (Status.Script line why) = 3
exit_number Status.ReadFault = 4
exit_number Status.WriteFault = 5
exit_number Status.NoMemory = 6
