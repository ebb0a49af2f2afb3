-- What a deed does to one leaf.
use Rattle.std.specs.Prelude.{◌≡◌, false, List}
use Rattle.berth_face.specs.Berth.{Meaning}
use Rattle.leaf_words.specs.declared.note.Note.{Note}
use Rattle.printed_lines.specs.declared.line.Deed.{Deed}
use Rattle.printed_lines.specs.declared.line.Ending.{Ending}
use Rattle.transcript.specs.Counts.{reads_disk}
use Rattle.leaf_moves.specs.Stage.{Leaf, Carries}
use Rattle.leaf_moves.specs.Steps.{Moves}
use Rattle.leaf_deeds.specs.Moves.{FaultRose}

-- what a deed does to a leaf and its berth, with its notes and its ending
pub record DeedDoes (deed : Deed) (m m' : Meaning) (leaf : Leaf) (notes : List Note) (ends : Ending) (leaf' : Leaf) : Type 0 where
  pub moves : Moves deed m m' leaf notes ends leaf'
  pub carries : Carries leaf leaf' notes m m'
  pub cause : FaultRose ends m m'
  pub reads : reads_disk deed ends ≡ false → m'.disk_reads ≡ m.disk_reads
