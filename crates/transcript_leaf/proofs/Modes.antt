-- In which mode a leaf is, what stays of its life where nothing was done, and what is given of a deed.
use Rattle.std.proofs.Common.{◌≡◌, ℕ, List, [], refl, sym, ap, subst, ◌∙◌, Bool, true, Option, Some, None}
use Rattle.std.specs.Prelude.{IfSome, IsTrue, is_some}
use Rattle.berth_face.specs.Berth.{Meaning, Pair}
use Rattle.leaf_words.specs.declared.ways.Way.{Way}
use Rattle.leaf_opening.specs.Starts.{IsWayLeft}
use Rattle.leaf_table.specs.Calls.{SeatView}
use Rattle.leaf_machine.specs.declared.faults.StartFault.{StartFault}
use Rattle.leaf_machine.specs.declared.faults.StartFault.TheVariants as fault
use Rattle.leaf_steward.specs.Seated.{Seated, AreFounded}
use Rattle.leaf_words.specs.declared.note.Note.{Note}
use Rattle.transcript.specs.Life.{Life, Down, Up, Owed, IsStartRefusal, OfStart, on, way_refused}
use Rattle.transcript.specs.Transcript.{Known}
use Rattle.leaf_moves.specs.Stage.{Leaf, IsDown, IsUp, IsPreparing, seated_of, with_seats}
use Rattle.leaf_moves.specs.Modes.{mode_of}
use Rattle.leaf_moves.specs.Steps.{IsDownLeaf, IsUpLeaf, ending_of}
use Rattle.transcript_leaf.specs.Session.{HaveKnownBase, AreInPlace, FitsNext, IsOwn, StandsKnown}
use Rattle.transcript_leaf.specs.Acting.{FitsWay}
use Rattle.transcript_leaf.proofs.CountingNotes.{AreStewards, are_founded}

-- what comes of a thing comes of it where there is one
pub some_weaken : {X : Type 0} (o : Option X) (P Q : X → Type 0) → ((x : X) → P x → Q x) → IfSome o P → IfSome o Q
some_weaken None P Q f h = tt
some_weaken (Some x) P Q f h = f x h

-- ---- in which mode a leaf is

pub resting_mode : (leaf : Leaf) → IsDownLeaf leaf → mode_of leaf ≡ Down
resting_mode (IsDown x) down = refl
resting_mode (IsUp s) down = absurd down
resting_mode (IsPreparing x) down = absurd down

pub down_leaf : (leaf : Leaf) → mode_of leaf ≡ Down → IsDownLeaf leaf
down_leaf (IsDown x) is = tt
down_leaf (IsUp s) is = absurd cc
down_leaf (IsPreparing x) is = absurd cc

pub up_leaf : (leaf : Leaf) (owed : Option Owed) → mode_of leaf ≡ Up owed → IsUpLeaf leaf
up_leaf (IsDown x) owed is = absurd cc
up_leaf (IsUp s) owed is = tt
up_leaf (IsPreparing x) owed is = absurd cc

-- whatever its steward's seats have seen
pub mode_with : (leaf : Leaf) (seats : List SeatView) → mode_of (with_seats leaf seats) ≡ mode_of leaf
mode_with (IsDown x) seats = refl
mode_with (IsUp s) seats = refl
mode_with (IsPreparing x) seats = refl

-- ---- what is known where the base is

pub where_known : (known : Option Known) (leaf : Leaf) (m : Meaning) (P : Type 0) → IfSome known (λ (k : Known). StandsKnown k leaf m) → (IsTrue m.tells → P) → IfSome known (λ (k : Known). P)
where_known None leaf m P stands f = tt
where_known (Some k) leaf m P stands f = f stands.tells

-- what is claimed of the way, and whether the leaf was up
abbrev pub way_claim : Life → Option Way × Bool
way_claim life = (life.way, life.begun)

-- a life with the same way, over the same region
pub way_stays : (known : Option Known) (life next : Life) (leaf : Leaf) (m m' : Meaning) → way_claim next ≡ way_claim life → FitsNext known life leaf m
    → IfSome known (λ (k : Known). m'.held.region ≡ m.held.region) → FitsWay known next m'
way_stays None life next leaf m m' e fits same = ap (λ (c : Option Way × Bool). c.0) e ∙ fits.0
way_stays (Some k) life next leaf m m' e fits same =
    subst (λ (region : List ℕ). IfSome next.way (IsWayLeft next.begun region)) (sym same) (subst (λ (c : Option Way × Bool). IfSome c.0 (IsWayLeft c.1 m.held.region)) (sym e) fits.0)

-- nothing was done to the berth
pub same_held : (known : Option Known) (leaf : Leaf) (m m' : Meaning) → IfSome known (λ (k : Known). StandsKnown k leaf m) → m'.held ≡ m.held
    → IfSome known (λ (k : Known). m'.held.region ≡ m.held.region)
same_held known leaf m m' stands same = where_known known leaf m (m'.held.region ≡ m.held.region) stands (λ tells. ap (λ (p : Pair). p.region) same)

pub founded_where : (names : List (List ℕ)) (known : Option Known) (x : Seated) → AreInPlace names x → HaveKnownBase known x → is_some known ≡ true → AreFounded x
founded_where names None x in_place known_base is = absurd cc
founded_where names (Some k) x in_place known_base is = are_founded names x in_place k.base known_base

-- ---- a start that is refused

abbrev pub refused_life : Life → StartFault → Life
refused_life life f = on life Down (way_refused (ending_of f) life.way) []

module _ (told : Bool) (tables : ℕ) (life : Life) where
  pub told_refused : (f : StartFault) → life.mode ≡ Down → IsStartRefusal told tables life (ending_of f) → OfStart told tables life [] (ending_of f) (refused_life life f)
  told_refused fault.RegionFault down refusal = (down, refusal, refl, refl)
  told_refused f down refusal = (down, refusal, refl, refl)

  pub refused_told : (notes : List Note) (f : StartFault) (next : Life) → OfStart told tables life notes (ending_of f) next → next ≡ refused_life life f
  refused_told notes fault.RegionFault next does = does.3
  refused_told notes f next does = does.3

-- ---- what is given of a deed

-- what stands of a leaf with this life, before a deed of its steward
pub record Stood (names : List (List ℕ)) (known : Option Known) (life : Life) (leaf : Leaf) (m : Meaning) : Type 0 where
  pub in_place : AreInPlace names (seated_of leaf)
  pub known_base : HaveKnownBase known (seated_of leaf)
  pub stewards : AreStewards (seated_of leaf)
  pub stands : IfSome known (λ k. StandsKnown k leaf m)
  pub own : IfSome known (λ k. life.begun ≡ true → IsOwn names (seated_of leaf) m)
  pub mode : life.mode ≡ mode_of leaf
  pub next : FitsNext known life leaf m

pub stood_as : (names : List (List ℕ)) (known : Option Known) (life : Life) (leaf l : Leaf) (m : Meaning) → leaf ≡ l → Stood names known life leaf m → Stood names known life l m
stood_as names known life leaf l m is given = subst (λ k. Stood names known life k m) is given
