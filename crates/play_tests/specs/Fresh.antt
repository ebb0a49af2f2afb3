-- The berths of these tests.
use Rattle.std.specs.Prelude.{◌≡◌}
use Rattle.berth_face.specs.Berth.{Meaning}
use Rattle.berth_mem.specs.declared.berth.MemBerth.{MemBerth}
use Rattle.berth_mem.specs.Forms.{meaning}
use Rattle.play.specs.Played.{IsBase}
use Rattle.play.specs.Empty.{nothing_kept}
use Rattle.play_again.specs.Over.{HasBase}

-- a leaf may begin over it, and no name has a write there
abbrev pub IsEmptyBerth : MemBerth → Type 0
IsEmptyBerth berth = IsBase nothing_kept (meaning berth)

-- a leaf may begin over it, and it is at its first moment
abbrev pub IsFresh : Meaning → Type 0
IsFresh m = HasBase m × (m.clock ≡ 0)
