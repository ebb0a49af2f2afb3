-- What the watches hear of commands one after another.
use Rattle.std.proofs.Common.{List, [], ◌∷◌, ◌++◌, refl, subst}
use Rattle.rollover_watch.specs.Watches.{Held}
use Rattle.script_text.specs.declared.fleet.FleetShape.{FleetShape}
use Rattle.transcript.specs.Pieces.{Played}
use Rattle.transcript.specs.Watching.{Hears, HearsAll}

pub watched_join : (fleet : FleetShape) (a b : List Played) (old mid new : List Held) → HearsAll fleet a old mid → HearsAll fleet b mid new → HearsAll fleet (a ++ b) old new
watched_join fleet [] b old mid new heard more = subst (λ (ws : List Held). HearsAll fleet b ws new) heard more
watched_join fleet (p ∷ ps) b old mid new heard more = (heard.0, heard.1, watched_join fleet ps b heard.0 mid new heard.2 more)

pub watched_one : (fleet : FleetShape) (p : Played) (old new : List Held) → Hears fleet p old new → HearsAll fleet (p ∷ []) old new
watched_one fleet p old new heard = (new, heard, refl)
