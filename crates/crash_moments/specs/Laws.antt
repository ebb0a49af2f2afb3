-- Laws of what is told, as statements.
use Rattle.std.specs.Prelude.{ℕ, List, true}
use Rattle.berth_face.specs.Berth.{Meaning}
use Rattle.leaf_history.specs.History.{Entry, HistoryState, LegalFrom, after}
use Rattle.leaf_history.specs.Laws.{CallersKeep}
use Rattle.crash_moments.specs.Left.{NamedStates}
use Rattle.crash_moments.specs.Watched.{Watched, IsFoundation, IsWatched, now_of, state_then}
use Rattle.crash_moments.specs.Told.{Told}

-- invariant: a table was handed in nothing, and has at most 2^40 rows after each prefix of its writes
abbrev pub StaysSound : Type 0
StaysSound = (base : HistoryState) (es : List Entry) → IsFoundation base → LegalFrom true base es → IsFoundation (after true base es)

-- after the steward's last entry a table has only got writes
abbrev pub CutKeeps : Type 0
CutKeeps = (clock : ℕ) (w : Watched) → IsWatched clock w → CallersKeep (state_then clock w) (now_of w)

-- what two calls in a row tell of their moments is told of both together
abbrev pub ToldJoins : Meaning → Meaning → Meaning → Type 0
ToldJoins a b c = (others : NamedStates) (xs ys zs : List Watched) → Told others xs ys a b → Told others ys zs b c → Told others xs zs a c
