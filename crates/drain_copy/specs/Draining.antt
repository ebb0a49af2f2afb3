-- How far a drain has come, and what it leaves in the region.
use Rattle.std.specs.Prelude.{◌≡◌, ◌⊎◌, ℕ, suc, ◌+◌, ◌≤◌, max, List, [], ◌∷◌, ◌++◌, length, map, drop, fold, replicate, ⊤}
use Rattle.berth_face.specs.Berth.{Pair, Meaning, IsClosed}
use Rattle.berth_face.specs.Moments.{EachNow}
use Rattle.column_bytes.specs.Coding.{joined}
use Rattle.region_head.specs.Head.{head_bytes}
use Rattle.drain_copy.specs.declared.step.Next.{Next}
use Rattle.drain_copy.specs.declared.step.Next.TheVariants as next
use Rattle.drain_copy.specs.declared.step.DrainStep.{DrainStep}
use Rattle.drain_copy.specs.declared.step.DrainStep.TheVariants.{Begun, Column, Directory, Finished}
use Rattle.region_layout.specs.Region.{directory_from, layout}

-- the image that is copied, the next step, and the columns that are still on the heap, in the order in which they are
-- written
pub record DrainState : Type 0 where
  pub image : List ℕ
  pub next : Next
  pub heap : List (List ℕ)

abbrev pub held : DrainState → ℕ
held d = length (joined d.heap)

abbrev pub longest : List (List ℕ) → ℕ
longest columns = fold max 0 (map (λ (c : List ℕ). length c) columns)

-- the image of these columns, with the directory after them
unfoldable pub image_bytes : ℕ → List (List ℕ) → List ℕ → List ℕ
image_bytes place columns directory = head_bytes layout place ++ joined columns ++ directory

unfoldable pub directory_of : List ℕ → List ℕ
directory_of image = drop (directory_from image) image

-- What the region holds before a step. While columns are left: a closed head of zeros and the columns that were
-- written. These, the columns on the heap and the directory make the image but for its head.
abbrev pub RegionStandsAt : Next → List ℕ → List (List ℕ) → List ℕ → Type 0
RegionStandsAt next.Begin image heap region = ⊤
RegionStandsAt next.Copy image heap region = (16 ≤ length region) × ((region ++ joined heap) ++ directory_of image ≡ replicate 16 0 ++ drop 16 image)
RegionStandsAt next.Flag image heap region = (region ≡ 0 ∷ drop 1 image) × (heap ≡ [])
RegionStandsAt next.Nothing image heap region = (region ≡ image) × (heap ≡ [])

abbrev pub Draining : DrainState → List ℕ → Type 0
Draining d region = RegionStandsAt d.next d.image d.heap region

-- ---- steps

-- what a step did, by what came next before it and what comes next after it
abbrev pub IsStepFrom : Next → List (List ℕ) → DrainStep → Next → List (List ℕ) → Type 0
IsStepFrom next.Begin heap s later heap' = (s ≡ Begun) × (later ≡ next.Copy) × (heap' ≡ heap)
IsStepFrom next.Copy [] s later heap' = (s ≡ Directory) × (later ≡ next.Flag) × (heap' ≡ [])
IsStepFrom next.Copy (column ∷ rest) s later heap' = (s ≡ Column (length column)) × (later ≡ next.Copy) × (heap' ≡ rest)
IsStepFrom next.Flag heap s later heap' = (s ≡ Finished) × (later ≡ next.Nothing) × (heap' ≡ heap)
IsStepFrom next.Nothing heap s later heap' = ⊥

pub record IsStep (d : DrainState) (s : DrainStep) (later : DrainState) : Type 0 where
  pub image : later.image ≡ d.image
  pub step : IsStepFrom d.next d.heap s later.next later.heap

-- how many steps are left
abbrev pub left_from : Next → List (List ℕ) → ℕ
left_from next.Begin heap = suc (suc (suc (length heap)))
left_from next.Copy heap = suc (suc (length heap))
left_from next.Flag heap = 1
left_from next.Nothing heap = 0

abbrev pub left : DrainState → ℕ
left d = left_from d.next d.heap

-- ---- what a crash leaves at each moment of a step, and how long the region is during it

-- A pair comes from an earlier one: the disk is the same, and the region is closed; in the last step it may be the
-- image.
pub record DrainsFrom (d : DrainState) (old : Meaning) (p : Pair) : Type 0 where
  pub from : Pair
  pub was : old.leaves old.clock from
  pub disk : p.disk ≡ from.disk
  pub region : IsClosed p.region ⊎ ((d.next ≡ next.Flag) × (p.region ≡ d.image))

-- the region and the heap as it was before the step have together at most the image's length and the longest column's
abbrev pub IsInRoom : DrainState → List ℕ → Type 0
IsInRoom d region = length region + held d ≤ length d.image + longest d.heap

-- each region that a crash may leave now is closed
abbrev pub AllClosed : Meaning → Type 0
AllClosed m = EachNow (λ p. IsClosed p.region) m
