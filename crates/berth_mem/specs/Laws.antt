-- The laws of a berth in memory: what is there may be left, and the region stays or is lost.
use Rattle.std.specs.Prelude.{◌≡◌, ◌⊎◌, ◌↔◌, ℕ, ◌^◌, ◌<◌, List, [], ◌∷◌, length, Vec, refl}
use mathlib.Core.Logic.{inl, inr}
use Rattle.std.proofs.Common.{sym, ap, subst, arith, ⊎_elim}
use Rattle.std.specs.declared.alloc.Global.{Global}
use Rattle.berth_face.specs.Berth.{Pair, IsClosed}
use Rattle.berth_mem.specs.declared.record.BerthCall.{BerthCall}
use Rattle.berth_mem.specs.declared.record.BerthCall.TheVariants.{WroteRegion, CutRegion, WroteDisk, SyncedDisk}
use Rattle.berth_mem.specs.Record.{disk_undone, disk_before, disks_after, resting, moments, leaves_at, regions_at, meaning_of}

-- the disks that a crash may leave after all these calls
abbrev pub disks_at : List BerthCall → List ℕ → (List ℕ → Type 0) → List ℕ → Type 0
disks_at [] disk disks = disks
disks_at (c ∷ calls) disk disks = disks_at calls disk (disks_after c (disk_before calls disk) disks)

pub at_end : (calls : List BerthCall) (region disk : List ℕ) (disks : List ℕ → Type 0) (p : Pair) → leaves_at calls region disk disks (moments calls) p ≡ resting region (disks_at calls disk disks) p
at_end [] region disk disks p = refl
at_end (c ∷ calls) region disk disks p = at_end calls region disk (disks_after c (disk_before calls disk) disks) p

pub disk_stands : (calls : List BerthCall) (disk : List ℕ) (disks : List ℕ → Type 0) → disks (disk_before calls disk) → disks_at calls disk disks disk
disk_stands [] disk disks here = here
disk_stands (c ∷ calls) disk disks here = disk_stands calls disk (disks_after c (disk_before calls disk) disks) (next c here)
  where
    next : (x : BerthCall) → disks (disk_undone x (disk_before calls disk)) → disks_after x (disk_before calls disk) disks (disk_before calls disk)
    next (WroteRegion w) h = h
    next (CutRegion w) h = h
    next (WroteDisk w) h = inr refl
    next SyncedDisk h = refl

pub stands : (region disk : List ℕ) (calls : List BerthCall) (rf df dr : ℕ) → (meaning_of region disk calls rf df dr).leaves (moments calls) (record { region = region; disk = disk })
stands region disk calls rf df dr =
    subst (λ (X : Type 0). X) (sym (at_end calls region disk (λ d. d ≡ disk_before calls disk) (record { region = region; disk = disk }))) (inl refl, disk_stands calls disk (λ d. d ≡ disk_before calls disk) refl)

pub keeps_region : (region disk : List ℕ) (calls : List BerthCall) (rf df dr : ℕ) (p : Pair) → (meaning_of region disk calls rf df dr).leaves (moments calls) p → (p.region ≡ region) ⊎ (p.region ≡ [])
keeps_region region disk calls rf df dr p left = (subst (λ (X : Type 0). X) (at_end calls region disk (λ d. d ≡ disk_before calls disk) p) left).0

-- a region that was lost is closed
pub lost_closed : (region : List ℕ) → region ≡ [] → IsClosed region
lost_closed region lost = inl (let none : length region ≡ 0 = ap (λ (r : List ℕ). length r) lost in omega (arith, none))

pub keeps_or_closed : (region disk : List ℕ) (calls : List BerthCall) (rf df dr : ℕ) (p : Pair) → (meaning_of region disk calls rf df dr).leaves (moments calls) p → (p.region ≡ region) ⊎ IsClosed p.region
keeps_or_closed region disk calls rf df dr p left = ⊎_elim (λ same. inl same) (λ lost. inr (lost_closed p.region lost)) (keeps_region region disk calls rf df dr p left)

pub regions_end : (calls : List BerthCall) (region now : List ℕ) → regions_at calls region (moments calls) now ≡ (now ≡ region)
regions_end [] region now = refl
regions_end (c ∷ calls) region now = regions_end calls region now

pub region_now : (region disk : List ℕ) (calls : List BerthCall) (rf df dr : ℕ) (now : List ℕ) → (meaning_of region disk calls rf df dr).regions (moments calls) now ↔ (now ≡ region)
region_now region disk calls rf df dr now = (λ stands. subst (λ (X : Type 0). X) (regions_end calls region now) stands, λ same. subst (λ (X : Type 0). X) (sym (regions_end calls region now)) same)

pub vec_short : (v : Vec ℕ Global) → length v.items < 2 ^ 63
vec_short v = omega (arith, v.ok, v.small)
