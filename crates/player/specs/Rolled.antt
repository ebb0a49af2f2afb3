-- What a rollover does, and its lines.
use Rattle.std.specs.Prelude.{◌≡◌, ℕ, suc, Bool, List, [], ◌∷◌, ◌++◌, length, map, Result, Ok, Err, Vec}
use Rattle.std.specs.Global.{Global}
use Rattle.berth_face.specs.Berth.{Meaning}
use Rattle.rollover_watch.specs.Watches.{Held}
use Rattle.rollover_driver.specs.declared.driving.Rolled.{Rolled}
use Rattle.rollover_driver.specs.Calls.{FleetCall}
use Rattle.rollover_driver.specs.Drives.{Drives}
use Rattle.printed_lines.specs.declared.line.Line.{Line}
use Rattle.printed_lines.specs.declared.line.Line.TheVariants as line
use Rattle.transcript.specs.Watching.{watch_line}
use Rattle.player.specs.declared.members.Members.{Members}
use Rattle.player.specs.Restarts.{RollsOn}

-- the lines of the waves of a plan of `total` waves, from wave `number` on
abbrev pub wave_lines : ℕ → ℕ → List (List ℕ) → List Line
wave_lines number total [] = []
wave_lines number total (wave ∷ waves) = line.Wave number total wave ∷ wave_lines (suc number) total waves

-- the line of each watch
abbrev pub watch_lines : List Held → List Line
watch_lines watches = map (λ (watch : Held). line.Watch (watch_line watch)) watches

-- how a rollover of `total` waves ended, and the line of each watch
abbrev pub end_lines : Rolled → ℕ → List Held → List Line
end_lines rolled total watches = line.Rolled rolled.halted rolled.waves total ∷ watch_lines watches

-- these lines follow the earlier ones, which are not Err
abbrev pub AreFollowed : {E : Type 0} → Result (Vec Line Global) E → List Line → List Line → Type 0
AreFollowed (Ok earlier) more lines = lines ≡ earlier.items ++ more
AreFollowed (Err e) more lines = ⊥

-- the leaves went through the waves of a plan, and the watches were told
pub record RollsThrough {B E : Type 0} (meaning : B → Meaning) (plan : List (List ℕ)) (x : Members B) (old : List Held) (rolled : Rolled) (lines : Result (Vec Line Global) E) (y : Members B) (new : List Held) : Type 0 where
  pub calls : List FleetCall
  pub left : List Line
  pub draining : Bool
  pub rolls : RollsOn meaning x (wave_lines 1 (length plan) plan) calls lines y left draining
  pub drives : Drives plan old calls rolled new
