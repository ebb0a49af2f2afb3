-- What is given of a steward's command that tells no fault of the disk, and what holds of each: how many writes there
-- are counts for, and what a leaf that is left alone keeps.
use Rattle.std.proofs.Common.{◌≡◌, ℕ, List, [], length, sym, ap, subst, ◌∙◌, Some}
use Rattle.berth_face.specs.Berth.{Meaning, Pair}
use Rattle.crash_moments.specs.Left.{NamedStates}
use Rattle.leaf_table.specs.Turns.{Shared}
use Rattle.leaf_table.specs.Calls.{name_of}
use Rattle.leaf_words.specs.declared.note.Note.{Note}
use Rattle.leaf_steward.specs.Seated.{AreFounded}
use Rattle.leaf_steward.proofs.Keeping.{makes_tables}
use Rattle.transcript.specs.Base.{LogHas}
use Rattle.transcript.specs.Life.{durable_after}
use Rattle.transcript.specs.Transcript.{Known}
use Rattle.leaf_moves.specs.Stage.{Leaf, IsDown, IsUp, IsPreparing, Carries, LeafStands, seated_of}
use Rattle.transcript_leaf.specs.Session.{HaveKnownBase, AreInPlace, AtCounts, IsDurable, StandsKnown}
use Rattle.transcript_leaf.proofs.CountingNotes.{AreReady, AreStewards, are_founded, length_durable, tables_founded}

-- the leaf before and behind the command, and what stands of it
pub record Given (names : List (List ℕ)) (k : Known) (counts : List ℕ) (m m' : Meaning) (notes : List Note) (leaf leaf' : Leaf) : Type 0 where
  pub in_place : AreInPlace names (seated_of leaf)
  pub known_base : HaveKnownBase (Some k) (seated_of leaf)
  pub stewards : AreStewards (seated_of leaf)
  pub known : StandsKnown k leaf m
  pub carries : Carries leaf leaf' notes m m'
  pub durable : IsDurable k.base counts leaf m

-- a count for each table
pub durable_count : (base : NamedStates) (counts : List ℕ) (leaf : Leaf) (m : Meaning) → IsDurable base counts leaf m → length counts ≡ length (seated_of leaf).tables
durable_count base counts (IsDown x) m durable = durable.0
durable_count base counts (IsUp x) m durable = durable.0
durable_count base counts (IsPreparing x) m durable = durable.0

-- it is a matter of the berth's contents alone
pub durable_held : (base : NamedStates) (counts : List ℕ) (leaf : Leaf) (m m' : Meaning) → m'.held ≡ m.held → IsDurable base counts leaf m → IsDurable base counts leaf m'
durable_held base counts (IsDown x) m m' held durable =
    (durable.0, subst (λ (h : Pair). AtCounts (λ t v n. LogHas h.disk (name_of t) n) x counts) (sym held) durable.1)
durable_held base counts (IsUp x) m m' held durable = durable
durable_held base counts (IsPreparing x) m m' held durable = durable

module _ (names : List (List ℕ)) (k : Known) (counts : List ℕ) (m m' : Meaning) (notes : List Note) where
  abbrev GivenOf : Leaf → Leaf → Type 0
  GivenOf leaf leaf' = Given names k counts m m' notes leaf leaf'

  -- what is to be shown
  abbrev Later : Leaf → Type 0
  Later leaf' = IsDurable k.base (durable_after counts notes) leaf' m'

  -- a leaf that is known to be such and such
  pub of_leaves : (leaf leaf' l l' : Leaf) → leaf ≡ l → leaf' ≡ l' → (GivenOf l l' → Later l') → GivenOf leaf leaf' → Later leaf'
  of_leaves leaf leaf' l l' is is' later g =
      let known : GivenOf l l' = subst (λ (a : Leaf). GivenOf l a) is' (subst (λ (a : Leaf). GivenOf a leaf') is g) in
      subst (λ (a : Leaf). Later a) (sym is') (later known)

  -- no note leaves the counts as they are
  pub counts_same : notes ≡ [] → durable_after counts notes ≡ counts
  counts_same none = ap (λ (ns : List Note). durable_after counts ns) none

  module _ (leaf leaf' : Leaf) (g : GivenOf leaf leaf') where
    pub ready_of : AreReady k.base (seated_of leaf)
    ready_of = record { founded = tables_founded names (seated_of leaf) g.in_place k.base g.known_base; stewards = g.stewards }

    pub founded_of : AreFounded (seated_of leaf)
    founded_of = are_founded names (seated_of leaf) g.in_place k.base g.known_base

    -- what stands behind it
    pub stands_behind : LeafStands k.base leaf' m'
    stands_behind = (g.carries.stands k.base g.known.tells founded_of g.known.sound g.known.stands).stands

    -- a count for each table still
    pub count_behind : length (durable_after counts notes) ≡ length (seated_of leaf').tables
    count_behind =
        length_durable counts notes ∙ durable_count k.base counts leaf m g.durable
        ∙ sym (ap (λ (ts : List Shared). length ts) (makes_tables m.clock m'.clock (seated_of leaf) notes (seated_of leaf') g.carries.made))

    -- a leaf that is left alone
    pub left_alone : notes ≡ [] → m'.held ≡ m.held → leaf' ≡ leaf → Later leaf'
    left_alone none held same =
        subst (λ (cs : List ℕ). IsDurable k.base cs leaf' m') (sym (counts_same none))
        (subst (λ (l : Leaf). IsDurable k.base counts l m') (sym same) (durable_held k.base counts leaf m m' held g.durable))
