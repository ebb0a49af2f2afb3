-- All that a flush does.
use Rattle.std.specs.Prelude.{◌≡◌, ℕ, List, IsTrue}
use Rattle.berth_face.specs.Berth.{Meaning, Passes}
use Rattle.berth_face.specs.Causes.{Rose}
use Rattle.leaf_words.specs.declared.note.Note.{Note}
use Rattle.leaf_steward.specs.Seated.{AreFounded}
use Rattle.leaf_steward.specs.Making.{Makes}
use Rattle.leaf_machine.specs.declared.up.FlushReply.{FlushReply}
use Rattle.leaf_machine.specs.declared.up.FlushReply.TheVariants.{DiskFault}
use Rattle.leaf_machine.specs.States.{Serving, IsUp, ServingGoesOn}
use Rattle.leaf_machine.specs.Flushes.{Flushes}

-- the leaf before and after a flush, and its berth
pub record FlushGoes (table : ℕ) (x y : Serving) (notes : List Note) (reply : FlushReply) (m m' : Meaning) : Type 0 where
  pub flushes : Flushes table x y notes reply
  pub up : IsUp y m'
  pub made : Makes m.clock m'.clock x.seated notes y.seated
  pub crash : IsTrue m.tells → AreFounded x.seated → ServingGoesOn x y m m'
  pub region : IsTrue m.tells → m'.held.region ≡ m.held.region
  pub time : Passes m m'
  pub cause : reply ≡ DiskFault → Rose m.disk_faults m'.disk_faults
  pub reads : m'.disk_reads ≡ m.disk_reads
