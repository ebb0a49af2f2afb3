-- Laws of what region and disk hold, as statements.
use Rattle.std.specs.Prelude.{ℕ, List, Option}
use Rattle.region_layout.specs.Region.{reads}
use Rattle.leaf_model.specs.declared.writes.Write.{Write}
use Rattle.row_records.specs.Records.{LogRecord}
use Rattle.berth_face.specs.Berth.{Meaning}
use Rattle.berth_face.specs.Moments.{EachNow}
use Rattle.disk_backup.specs.State.{LogState}
use Rattle.drain_copy.specs.Draining.{DrainState}
use Rattle.crash_moments.specs.Left.{NamedStates, Left}
use Rattle.crash_moments.specs.Watched.{Watched, tables_then}
use Rattle.crash_states.specs.Standing.{Runs, Rests, Copies}

-- each pair that a crash may leave belongs to the tables, in each state of a leaf
abbrev pub IsLeftNow : List Watched → NamedStates → Meaning → Type 0
IsLeftNow ws others m = EachNow (λ p. Left reads (tables_then others m.clock ws) p) m

pub record StandingIsLeft (m : Meaning) : Type 0 where
  pub runs : (ws : List Watched) (others : NamedStates) (owner : ℕ) (log : LogState) (writes : List ℕ → List Write) → Runs ws owner log writes m → IsLeftNow ws others m
  pub rests : (ws : List Watched) (others : NamedStates) (least : List ℕ → List Write) (next : Option LogRecord) → Rests ws others least next m → IsLeftNow ws others m
  pub copies : (ws : List Watched) (others : NamedStates) (drain : DrainState) (writes : List ℕ → List Write) → Copies ws drain writes m → IsLeftNow ws others m
