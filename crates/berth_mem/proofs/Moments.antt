-- The record of calls, one call longer.
use Rattle.std.proofs.Common.{◌≡◌, ℕ, zero, suc, ◌≤◌, List, [], ◌∷◌, ◌++◌, refl, ◌∙◌, ap, arith}
use Rattle.berth_face.specs.Berth.{Pair}
use Rattle.berth_mem.specs.declared.record.BerthCall.{BerthCall}
use Rattle.berth_mem.specs.Laws.{disks_at, at_end}
use Rattle.berth_mem.specs.Record.{region_undone, disk_undone, region_before, disk_before, disks_after, resting, during, made_of, moments, leaves_at, regions_at}

abbrev pub Pred : Type 1
Pred = List ℕ → Type 0

pub moments_push : (calls : List BerthCall) (c : BerthCall) → moments (calls ++ c ∷ []) ≡ suc (suc (moments calls))
moments_push [] c = refl
moments_push (x ∷ calls) c = ap (λ (n : ℕ). suc (suc n)) (moments_push calls c)

module _ (c : BerthCall) (region disk region' disk' : List ℕ) (region_is : region_undone c region' ≡ region) (disk_is : disk_undone c disk' ≡ disk) where
  pub region_push : (calls : List BerthCall) → region_before (calls ++ c ∷ []) region' ≡ region_before calls region
  region_push [] = region_is
  region_push (x ∷ calls) = ap (λ (l : List ℕ). region_undone x l) (region_push calls)

  pub disk_push : (calls : List BerthCall) → disk_before (calls ++ c ∷ []) disk' ≡ disk_before calls disk
  disk_push [] = disk_is
  disk_push (x ∷ calls) = ap (λ (l : List ℕ). disk_undone x l) (disk_push calls)

  pub disks_push : (calls : List BerthCall) (disks : Pred) → disks_at (calls ++ c ∷ []) disk' disks ≡ disks_after c disk' (disks_at calls disk disks)
  disks_push [] disks = refl
  disks_push (x ∷ calls) disks =
      ap (λ (l : List ℕ). disks_at (calls ++ c ∷ []) disk' (disks_after x l disks)) (disk_push calls) ∙ disks_push calls (disks_after x (disk_before calls disk) disks)

  -- past moments stay
  pub past_push : (calls : List BerthCall) (disks : Pred) (t : ℕ) (p : Pair) → t ≤ moments calls → leaves_at (calls ++ c ∷ []) region' disk' disks t p ≡ leaves_at calls region disk disks t p
  past_push [] disks zero p le = ap (λ (l : List ℕ). resting l disks p) region_is
  past_push [] disks (suc t) p le = absurd (omega arith)
  past_push (x ∷ calls) disks zero p le = ap (λ (l : List ℕ). resting l disks p) (region_push (x ∷ calls))
  past_push (x ∷ calls) disks (suc zero) p le = ap (λ (l : List ℕ). during x l disks p) (region_push (x ∷ calls))
  past_push (x ∷ calls) disks (suc (suc t)) p le =
      ap (λ (l : List ℕ). leaves_at (calls ++ c ∷ []) region' disk' (disks_after x l disks) t p) (disk_push calls) ∙ past_push calls (disks_after x (disk_before calls disk) disks) t p (omega arith)

  -- the moment inside the new call
  pub inside_push : (calls : List BerthCall) (disks : Pred) (p : Pair) → leaves_at (calls ++ c ∷ []) region' disk' disks (suc (moments calls)) p ≡ during c region (disks_at calls disk disks) p
  inside_push [] disks p = ap (λ (l : List ℕ). during c l disks p) region_is
  inside_push (x ∷ calls) disks p =
      ap (λ (l : List ℕ). leaves_at (calls ++ c ∷ []) region' disk' (disks_after x l disks) (suc (moments calls)) p) (disk_push calls) ∙ inside_push calls (disks_after x (disk_before calls disk) disks) p

  -- the moment after it
  pub after_push : (calls : List BerthCall) (disks : Pred) (p : Pair) → leaves_at (calls ++ c ∷ []) region' disk' disks (moments (calls ++ c ∷ [])) p ≡ resting region' (disks_after c disk' (disks_at calls disk disks)) p
  after_push calls disks p = at_end (calls ++ c ∷ []) region' disk' disks p ∙ ap (λ (ds : Pred). resting region' ds p) (disks_push calls disks)

  -- ---- the regions that may stand

  pub past_regions_push : (calls : List BerthCall) (t : ℕ) (now : List ℕ) → t ≤ moments calls → regions_at (calls ++ c ∷ []) region' t now ≡ regions_at calls region t now
  past_regions_push [] zero now le = ap (λ (l : List ℕ). now ≡ l) region_is
  past_regions_push [] (suc t) now le = absurd (omega arith)
  past_regions_push (x ∷ calls) zero now le = ap (λ (l : List ℕ). now ≡ l) (region_push (x ∷ calls))
  past_regions_push (x ∷ calls) (suc zero) now le = ap (λ (l : List ℕ). made_of x l now) (region_push (x ∷ calls))
  past_regions_push (x ∷ calls) (suc (suc t)) now le = past_regions_push calls t now (omega arith)

  pub making_push : (calls : List BerthCall) (now : List ℕ) → regions_at (calls ++ c ∷ []) region' (suc (moments calls)) now ≡ made_of c region now
  making_push [] now = ap (λ (l : List ℕ). made_of c l now) region_is
  making_push (x ∷ calls) now = making_push calls now
