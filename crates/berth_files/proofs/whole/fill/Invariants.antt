use Rattle.std.proofs.Common.{◌≡◌, ◌≤◌, ◌-◌, length, take, drop, IsTrue}
use Rattle.berth_face.specs.Berth.{Stays}
use Rattle.berth_files.specs.Files.{FilesGoOn, file_content}
use Rattle.berth_files.proofs.whole.fill.Given as goal

abbrev pub invariant-loop : goal.invariant-loop
invariant-loop g l =
    (length l.room ≡ length l.fn.room) × (l.done ≤ length l.room) × (l.counter ≤ l.done) × FilesGoOn (g.F.FileCalls.holds l.fn.files) (g.F.FileCalls.holds l.files)
    × (IsTrue (g.F.FileCalls.holds l.fn.files).tells → Stays (g.F.FileCalls.holds l.fn.files) (g.F.FileCalls.holds l.files)
    × (l.done ≤ length (file_content l.file (g.F.FileCalls.holds l.fn.files)) - l.at) × (take l.done l.room ≡ take l.done (drop l.at (file_content l.file (g.F.FileCalls.holds l.fn.files)))))
