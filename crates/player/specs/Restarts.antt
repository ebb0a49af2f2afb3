-- What the leaves of a crew do while a rollover restarts them.
use Rattle.std.specs.Prelude.{◌≡◌, ℕ, ◌<◌, Bool, true, false, List, [], ◌∷◌, ◌++◌, map, None, Result, Vec, IfOk, ⊤}
use Rattle.std.specs.Global.{Global}
use Rattle.std.specs.List.{AllByRecursion}
use denote.Ref.{MutBor}
use denote.Param.Members.{Shared}
use Rattle.berth_face.specs.Berth.{Meaning}
use Rattle.rollover_driver.specs.Calls.{FleetCall}
use Rattle.rollover_driver.specs.Calls as call
use Rattle.printed_lines.specs.declared.line.Line.{Line}
use Rattle.printed_lines.specs.Lines.{IsOf}
use Rattle.script_text.specs.Commands.{leaf_count}
use Rattle.printed_lines.specs.declared.line.Deed.{Deed}
use Rattle.printed_lines.specs.declared.line.Deed.TheVariants as deed
use Rattle.transcript.specs.Pieces.{Piece, Says}
use Rattle.transcript.specs.Shapes.{ActPiece}
use Rattle.transcript.specs.Watching.{drained_by, started_by}
use Rattle.player.specs.declared.answer.DeedOutcome.{DeedOutcome}
use Rattle.player.specs.declared.members.Members.{Members}
use Rattle.player.specs.Crew.{HasLeaf}
use Rattle.player.specs.Lines.{AreJoined}
use Rattle.player.specs.Members.{AreMembers, GoesWith, SameFleet, fleet_in, holds_in}
use Rattle.player.specs.Commands.{DeedAt}

-- ---- deeds

-- a drain to its end, or a start
abbrev pub IsRestart : Deed → Type 0
IsRestart deed.Start = ⊤
IsRestart (deed.Flush table) = ⊥
IsRestart (deed.Drain stop) = stop ≡ None
IsRestart deed.Kill = ⊥

-- a leaf of a crew that holds all leaves may be drained and started
pub record MayDo {B : Type 0} (x : Members B) (number : ℕ) : Type 0 where
  pub members : AreMembers x
  pub within : number < leaf_count (fleet_in x)
  pub held : (leaf : ℕ) → HasLeaf (holds_in x) leaf

-- a leaf was drained or started
pub record DeedIsDone {B E : Type 0} (meaning : B → Meaning) (number : ℕ) (deed : Deed) (x : Members B) (result : DeedOutcome × Result (Vec Line Global) E) (y : Members B) : Type 0 where
  pub members : AreMembers y
  pub same : SameFleet x y
  pub acted : DeedAt meaning number deed x result.0 result.1 y

module _ {F T E : Type 0} (g : Shared F (MutBor T × (ℕ × (Deed × Unit {0}))) ((DeedOutcome × Result (Vec Line Global) E) × (MutBor T × Unit {0}))) (f : F)
    (may : T → ℕ → Type 0) (did : T → ℕ → Deed → DeedOutcome × Result (Vec Line Global) E → T → Type 0) where
  -- the closure may drain and start each leaf that `may` allows, does what `did` says, and other leaves stay allowed
  pub record DoesDeeds : Type 0 where
    pub may_call : (p : MutBor T) (number : ℕ) (deed : Deed) → may p.now number → IsRestart deed → g.pre f (p, (number, (deed, tt)))
    pub does : (p q : MutBor T) (number : ℕ) (deed : Deed) (r : DeedOutcome × Result (Vec Line Global) E) → g.post f (p, (number, (deed, tt))) (r, (q, tt)) → did p.now number deed r q.now
    pub keeps : (x y : T) (number : ℕ) (deed : Deed) (r : DeedOutcome × Result (Vec Line Global) E) (other : ℕ) → did x number deed r y → may x other → may y other

  -- the closure may drain and start this leaf
  pub record MayRestart (x : T) (leaf : ℕ) : Type 0 where
    pub here : may x leaf
    pub deeds : DoesDeeds

-- ---- their lines

-- The line that is put before those of a drain: the first of `heads`, the lines of the waves that are not begun, unless
-- the last deed was a drain of the same wave.
abbrev pub head_at : List Line → Bool → List Line
head_at heads true = []
head_at [] false = []
head_at (l ∷ heads) false = l ∷ []

-- the lines of the waves that are not begun then
abbrev pub heads_left : List Line → Bool → List Line
heads_left heads true = heads
heads_left [] false = []
heads_left (l ∷ heads) false = heads

-- the piece of a drain or a start with this answer
abbrev pub IsCall : FleetCall → Piece → Type 0
IsCall (call.Drains leaf got) p = (acts : ActPiece leaf (deed.Drain None) p) × (got ≡ drained_by acts.1)
IsCall (call.Starts leaf got) p = (acts : ActPiece leaf deed.Start p) × (got ≡ started_by acts.1)

-- the pieces of calls, with the line of each wave before its first drain
abbrev pub Puts : List Line → Bool → List FleetCall → List Piece → List Line → Bool → Type 0
Puts heads draining [] ps heads' draining' = (ps ≡ []) × (heads' ≡ heads) × (draining' ≡ draining)
Puts heads draining (call.Drains leaf got ∷ calls) ps heads' draining' = (p : Piece) × (others : List Piece) × IsCall (call.Drains leaf got) p × (ps ≡ map Says (head_at heads draining) ++ p ∷ others)
    × Puts (heads_left heads draining) true calls others heads' draining'
Puts heads draining (call.Starts leaf got ∷ calls) ps heads' draining' = (p : Piece) × (others : List Piece) × IsCall (call.Starts leaf got) p × (ps ≡ p ∷ others) × Puts heads false calls others heads' draining'

-- calls, one after another, with their lines
pub data Chain {T E : Type 0} (did : T → ℕ → Deed → DeedOutcome × Result (Vec Line Global) E → T → Type 0) (x : T) (lines : Result (Vec Line Global) E) (heads : List Line) (draining : Bool)
    : (calls : List FleetCall) (y : T) (lines' : Result (Vec Line Global) E) (heads' : List Line) (draining' : Bool) → Type 0 where
  none : (calls : List FleetCall) (y : T) (lines' : Result (Vec Line Global) E) (heads' : List Line) (draining' : Bool)
      → calls ≡ []
      → y ≡ x
      → lines' ≡ lines
      → heads' ≡ heads
      → draining' ≡ draining
      → Chain did x lines heads draining calls y lines' heads' draining'
  drained : (calls : List FleetCall) (y : T) (lines' : Result (Vec Line Global) E) (heads' : List Line) (draining' : Bool)
      (earlier : List FleetCall) (mid : T) (lines_mid : Result (Vec Line Global) E) (heads_mid : List Line) (draining_mid : Bool)
      (leaf : ℕ) (answer : DeedOutcome) (more : Result (Vec Line Global) E) (between : List Line)
      → Chain did x lines heads draining earlier mid lines_mid heads_mid draining_mid
      → did mid leaf (deed.Drain None) (answer, more) y
      → IfOk lines' (λ all. AreJoined lines_mid between more all.items)
      → between ≡ head_at heads_mid draining_mid
      → heads' ≡ heads_left heads_mid draining_mid
      → draining' ≡ true
      → calls ≡ earlier ++ call.Drains leaf answer.drained ∷ []
      → Chain did x lines heads draining calls y lines' heads' draining'
  started : (calls : List FleetCall) (y : T) (lines' : Result (Vec Line Global) E) (heads' : List Line) (draining' : Bool)
      (earlier : List FleetCall) (mid : T) (lines_mid : Result (Vec Line Global) E) (heads_mid : List Line) (draining_mid : Bool)
      (leaf : ℕ) (answer : DeedOutcome) (more : Result (Vec Line Global) E)
      → Chain did x lines heads draining earlier mid lines_mid heads_mid draining_mid
      → did mid leaf deed.Start (answer, more) y
      → IfOk lines' (λ all. AreJoined lines_mid [] more all.items)
      → heads' ≡ heads_mid
      → draining' ≡ false
      → calls ≡ earlier ++ call.Starts leaf answer.started ∷ []
      → Chain did x lines heads draining calls y lines' heads' draining'

-- the leaves took these calls, with their pieces and lines; the lines of the waves that are not begun name no table
pub record RollsOn {B E : Type 0} (meaning : B → Meaning) (x : Members B) (heads : List Line) (calls : List FleetCall) (lines : Result (Vec Line Global) E) (y : Members B) (heads' : List Line) (draining : Bool) : Type 0 where
  pub pieces : List Piece
  pub puts : Puts heads false calls pieces heads' draining
  pub members : AreMembers x → AreMembers y
  pub same : SameFleet x y
  pub goes : GoesWith meaning x.names (holds_in x) lines pieces (holds_in y)
  pub fit : AllByRecursion (IsOf x.names) heads'
