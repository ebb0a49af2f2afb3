-- The one way of a region, and that of what a start leaves of it.
use Rattle.std.proofs.Common.{◌≡◌, inl, ℕ, Bool, true, false, cond, ltb, eqb, List, length, Option, Some, None, refl, sym, ap, subst, ◌∙◌}
use Rattle.std.specs.Prelude.{◌≢◌, IfSome, slice_index}
use Rattle.std.proofs.lemmas.Bool.{ltb-true}
use Rattle.berth_face.specs.Berth.{Meaning, Pair, IsClosed}
use Rattle.region_head.specs.declared.head.Head.{Head}
use Rattle.region_head.specs.declared.head.Head.TheVariants as head
use Rattle.region_head.specs.declared.head.Head.TheVariants.{Version}
use Rattle.region_head.specs.Head.{head_of, version_of}
use Rattle.region_head.proofs.Heads.{closed_head, shut_head}
use Rattle.region_layout.specs.Region.{layout, reads}
use Rattle.leaf_words.specs.declared.ways.WhyDisk.{WhyDisk}
use Rattle.leaf_words.specs.declared.ways.WhyDisk.TheVariants as why
use Rattle.adopt.specs.Adopting.{HasNoStranger, IsLeftBehind, IsNoImage, IsStranger, IsWhy}
use Rattle.leaf_words.specs.declared.ways.Way.{Way}
use Rattle.leaf_words.specs.declared.ways.Way.TheVariants.{Memory, Disk}
use Rattle.leaf_opening.specs.Answers.{GoesToLog}
use Rattle.leaf_opening.specs.Starts.{IsWayLeft, IsWayOf, way_after}
use Rattle.leaf_opening.proofs.OneAnswer.{image_alone, image_why}
use Rattle.crash_moments.specs.Left.{NamedStates, RegionLeft}
use Rattle.leaf_steward.specs.Seated.{Seated}
use Rattle.transcript.specs.Life.{MayCome}
use Rattle.leaf_moves.specs.Stage.{IsDown, LeafStands}

-- a head has one version, and that is of one that is read or not
read_not : (h : Head) (v w : ℕ) → h ≡ head.Version v → h ≡ head.Version w → reads v ≡ true → reads w ≡ false → ⊥
read_not h v w e f r n = cc

same_why : (region : List ℕ) (v w : WhyDisk) → IsWhy region v → IsWhy region w → v ≡ w
same_why region why.NoImage why.NoImage g h = refl
same_why region why.NoImage (why.OtherVersion v) g h = absurd (read_not (head_of region) g.0 v g.1 h.0 g.2 h.1)
same_why region (why.OtherVersion v) why.NoImage g h = absurd (read_not (head_of region) h.0 v h.1 g.0 h.2 g.1)
same_why region (why.OtherVersion v) (why.OtherVersion w) g h = cc (g.0, h.0)
same_why region why.NoImage w g h = cc (g.1)
same_why region (why.OtherVersion v) w g h = cc (g.0)
same_why region v why.NoImage g h = cc (h.1)
same_why region v (why.OtherVersion w) g h = cc (h.0)
same_why region v w g h = cc

-- a region has one way
pub same_way : (region : List ℕ) (v w : Way) → IsWayOf region v → IsWayOf region w → v ≡ w
same_way region Memory Memory g h = refl
same_way region Memory (Disk w) g h = absurd (image_alone region g.0 g.1 w g.2 h)
same_way region (Disk v) Memory g h = absurd (image_alone region h.0 h.1 v h.2 g)
same_way region (Disk v) (Disk w) g h = ap Disk (same_why region v w g h)

-- ---- what a start leaves

-- a region without a head is closed
no_head : (region : List ℕ) → head_of region ≡ head.NoHead → IsClosed region
no_head region h = inl (ltb-true (length region) 16 (by (ltb (length region) 16) (eqb (slice_index region 0) 1) (slice_index region 0) (version_of region) h))
  where
    by : (short opened : Bool) (byte version : ℕ) → cond short head.NoHead (cond opened (head.Version version) (head.Closed byte)) ≡ head.NoHead → short ≡ true
    by true opened byte version e = refl
    by false true byte version e = absurd cc
    by false false byte version e = absurd cc

-- the way of the region that a start leaves
pub way_left : (region now : List ℕ) (w : Way) → IsLeftBehind region now → IsWayOf region w → IsWayOf now (way_after w)
way_left region now Memory left h = left.opened h.2.version h.2.is.has.head
way_left region now (Disk why.NoHead) left h = ap (λ (r : List ℕ). head_of r) (left.closed (no_head region h)) ∙ h
way_left region now (Disk (why.Closed flag)) left h = ap (λ (r : List ℕ). head_of r) (left.closed (shut_head region flag h)) ∙ h
way_left region now (Disk (why.OtherVersion v)) left h = left.opened v h.0
way_left region now (Disk why.NoImage) left h = left.opened h.0 h.1

-- ---- ways that are left

pub found_way : (begun : Bool) (region : List ℕ) (way : Option Way) → IfSome way (IsWayLeft begun region) → IfSome way (IsWayOf region)
found_way begun region None h = tt
found_way begun region (Some w) h = h.0

pub drained_way : (begun : Bool) (region : List ℕ) (way : Option Way) → IfSome way (IsWayLeft begun region) → begun ≡ true → way ≡ Some Memory → head_of region ≡ Version layout
drained_way begun region way h up is = (subst (λ (w : Option Way). IfSome w (IsWayLeft begun region)) is h).1 up refl

pub left_as : (begun : Bool) (region : List ℕ) (way : Way) → IsWayOf region way → way ≢ Memory → IsWayLeft begun region way
left_as begun region way is other = (is, λ up memory. absurd (other memory))

pub after_start : (way : Way) → way_after way ≢ Memory
after_start (Disk why.NoHead) = λ e. cc
after_start way = λ e. cc

-- ---- what a leaf left is never bytes that are no image

left_why : (tables : NamedStates) (p : Pair) → RegionLeft reads tables p → IsWhy p.region why.NoImage → ⊥
left_why tables p (RegionLeft.closed shut) w = closed_head p.region shut w.0 w.1
left_why tables p (RegionLeft.other_version v of not) w = read_not (head_of p.region) w.0 v w.1 of w.2 not
left_why tables p (RegionLeft.image v images end read is same log) w = w.3 images end (record { version = v; reads_it = read; is = is })

-- a start over any berth, and over one of a leaf at rest
pub may_come : (way : Way) → MayCome false way
may_come (Disk why.NoImage) = refl
may_come way = tt

pub comes_known : (base : NamedStates) (x : Seated) (m : Meaning) (way : Way) → LeafStands base (IsDown x) m → IsWayOf m.held.region way → MayCome true way
comes_known base x m (Disk why.NoImage) stands is = absurd (left_why _ _ (stands.2.region m.held stands.2.stands.reads) is)
comes_known base x m way stands is = tt

-- ---- a region that goes to the log

no_read : (region name : List ℕ) (names : List (List ℕ)) (h : Head) → IsStranger names region name → head_of region ≡ h → ((version : ℕ) → h ≡ head.Version version → ⊥) → ⊥
no_read region name names h s is none = none s.0 (sym is ∙ s.3.head)

-- has no stranger
pub goes_own : (names : List (List ℕ)) (region : List ℕ) → GoesToLog names region → HasNoStranger names region
goes_own names region (why.NoHead, w) name s = no_read region name names head.NoHead s w (λ version e. cc)
goes_own names region (why.Closed flag, w) name s = no_read region name names (head.Closed flag) s w (λ version e. cc)
goes_own names region (why.OtherVersion v, w) name s = read_not (head_of region) s.0 v s.3.head w.0 s.2 w.1
goes_own names region (why.NoImage, w) name s = w.1 name s

-- and no image, so no start comes from memory
pub goes_none : (names : List (List ℕ)) (region : List ℕ) → GoesToLog names region → IsNoImage region
goes_none names region goes = λ images log_end is. image_why names region images log_end goes.0 is goes.1

pub not_memory : (names : List (List ℕ)) (region : List ℕ) (way : Option Way) → GoesToLog names region → IfSome way (IsWayOf region) → way ≢ Some Memory
not_memory names region way goes is e = let image = subst (λ (w : Option Way). IfSome w (IsWayOf region)) e is in goes_none names region goes image.0 image.1 image.2
