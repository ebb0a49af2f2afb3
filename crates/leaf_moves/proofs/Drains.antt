-- How a drain may end.
use Rattle.std.proofs.Common.{ℕ, List, Option}
use Rattle.berth_face.specs.Berth.{Meaning}
use Rattle.leaf_words.specs.declared.note.Note.{Note}
use Rattle.printed_lines.specs.declared.line.Ending.{Ending}
use Rattle.printed_lines.specs.declared.line.Ending.TheVariants as ending
use Rattle.leaf_moves.specs.Stage.{Leaf}
use Rattle.leaf_moves.specs.Steps.{DrainMoves}

-- what holds of each of its endings holds of how it ended
pub by_endings : (P : Ending → Type 0) → P ending.Done → P ending.FaultRegion → P ending.FaultRoom → P ending.FaultMemory → P ending.FaultDisk → P ending.Stopped → P ending.NotUp
    → (m m' : Meaning) (leaf : Leaf) (stop : Option ℕ) (notes : List Note) (ends : Ending) (leaf' : Leaf) → DrainMoves m m' leaf stop notes ends leaf' → P ends
by_endings P done region room memory disk stopped down m m' leaf stop notes ending.Done leaf' moves = done
by_endings P done region room memory disk stopped down m m' leaf stop notes ending.FaultRegion leaf' moves = region
by_endings P done region room memory disk stopped down m m' leaf stop notes ending.FaultRoom leaf' moves = room
by_endings P done region room memory disk stopped down m m' leaf stop notes ending.FaultMemory leaf' moves = memory
by_endings P done region room memory disk stopped down m m' leaf stop notes ending.FaultDisk leaf' moves = disk
by_endings P done region room memory disk stopped down m m' leaf stop notes ending.Stopped leaf' moves = stopped
by_endings P done region room memory disk stopped down m m' leaf stop notes ending.NotUp leaf' moves = down
by_endings P done region room memory disk stopped down m m' leaf stop notes ending.NotDown leaf' moves = absurd moves
by_endings P done region room memory disk stopped down m m' leaf stop notes ending.Worn leaf' moves = absurd moves
by_endings P done region room memory disk stopped down m m' leaf stop notes (ending.Started way) leaf' moves = absurd moves
by_endings P done region room memory disk stopped down m m' leaf stop notes ending.FaultDamaged leaf' moves = absurd moves
by_endings P done region room memory disk stopped down m m' leaf stop notes (ending.FaultStranger name) leaf' moves = absurd moves
by_endings P done region room memory disk stopped down m m' leaf stop notes (ending.FaultWorn table) leaf' moves = absurd moves
