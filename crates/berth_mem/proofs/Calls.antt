-- What each call of a berth in memory does, by what it puts on the record.
use Rattle.std.proofs.Common.{◌≡◌, inl, inr, ⊎_elim, ℕ, suc, ◌+◌, ◌^◌, ◌<◌, ◌≤◌, List, [], ◌∷◌, ◌++◌, length, take, drop, refl, sym, ◌∙◌, ap, subst, arith, Ok, take-append-drop}
use Rattle.berth_face.specs.Berth.{Pair, Meaning, Torn, Cut, Passes, RegionWritten, RegionCut, DiskWritten, DiskSynced, written}
use Rattle.berth_mem.specs.declared.record.Wrote.{Wrote}
use Rattle.berth_mem.specs.declared.record.CutOff.{CutOff}
use Rattle.berth_mem.specs.declared.record.BerthCall.{BerthCall}
use Rattle.berth_mem.specs.declared.record.BerthCall.TheVariants.{WroteRegion, CutRegion, WroteDisk, SyncedDisk}
use Rattle.berth_mem.specs.Record.{Describes, undone, region_undone, disk_undone, disk_before, disks_after, resting, during, made_of, moments, leaves_at, meaning_of}
use Rattle.berth_mem.specs.Laws.{disks_at, at_end, disk_stands, lost_closed}
use Rattle.berth_mem.proofs.Contents.{torn_written, undone_written}
use Rattle.berth_mem.proofs.Moments.{Pred, moments_push, disk_push, past_push, inside_push, after_push, past_regions_push, making_push}

-- the disks that a crash may leave now
abbrev pub disks_now : List BerthCall → List ℕ → Pred
disks_now calls disk = disks_at calls disk (λ d. d ≡ disk_before calls disk)

to : {A B : Type 0} → A ≡ B → A → B
to e a = subst (λ (X : Type 0). X) e a

from : {A B : Type 0} → A ≡ B → B → A
from e b = subst (λ (X : Type 0). X) (sym e) b

module _ (region disk region' disk' : List ℕ) (calls : List BerthCall) (c : BerthCall) (rf df dr : ℕ) (region_is : region_undone c region' ≡ region) (disk_is : disk_undone c disk' ≡ disk) where
  abbrev old : Meaning
  old = meaning_of region disk calls rf df dr

  abbrev new : Meaning
  new = meaning_of region' disk' (calls ++ c ∷ []) rf df dr

  first : disk_before (calls ++ c ∷ []) disk' ≡ disk_before calls disk
  first = disk_push c region disk region' disk' region_is disk_is calls

  -- the same with the disks that were there at first as they are in old
  shift : (t : ℕ) (p : Pair) → new.leaves t p ≡ leaves_at (calls ++ c ∷ []) region' disk' (λ d. d ≡ disk_before calls disk) t p
  shift t p = ap (λ (l : List ℕ). leaves_at (calls ++ c ∷ []) region' disk' (λ d. d ≡ l) t p) first

  pub passes : Passes old new
  passes = record {
    tells = refl;
    later = omega (arith, moments_push calls c);
    past = λ t p le. let e = shift t p ∙ past_push c region disk region' disk' region_is disk_is calls (λ d. d ≡ disk_before calls disk) t p le in (λ left. to e left, λ left. from e left);
    past_regions = λ t now le. let e = past_regions_push c region disk region' disk' region_is disk_is calls t now le in (λ stands. to e stands, λ stands. from e stands);
    region_faults = omega arith;
    disk_faults = omega arith;
  }

  pub ticks : old.clock + 2 ≤ new.clock
  ticks = omega (arith, moments_push calls c)

  pub inside : (t : ℕ) (p : Pair) → old.clock < t → t < new.clock → new.leaves t p → during c region (disks_now calls disk) p
  inside t p after before left =
      let is : t ≡ suc (moments calls) = omega (arith, moments_push calls c) in
      to (inside_push c region disk region' disk' region_is disk_is calls (λ d. d ≡ disk_before calls disk) p) (to (shift (suc (moments calls)) p) (subst (λ (u : ℕ). new.leaves u p) is left))

  pub meanwhile : (t : ℕ) (now : List ℕ) → old.clock < t → t < new.clock → new.regions t now → made_of c region now
  meanwhile t now after before stands =
      let is : t ≡ suc (moments calls) = omega (arith, moments_push calls c) in
      to (making_push c region disk region' disk' region_is disk_is calls now) (subst (λ (u : ℕ). new.regions u now) is stands)

  pub ended : (p : Pair) → new.leaves new.clock p → resting region' (disks_after c disk' (disks_now calls disk)) p
  ended p left = to (shift new.clock p ∙ after_push c region disk region' disk' region_is disk_is calls (λ d. d ≡ disk_before calls disk) p) left

  -- any disk of now, with the region as it stands
  pub pair_now : (d : List ℕ) → disks_now calls disk d → old.leaves old.clock (record { region = region; disk = d })
  pair_now d left = from (at_end calls region disk (λ e. e ≡ disk_before calls disk) (record { region = region; disk = d })) (inl refl, left)

-- a pair of now, by its parts
pub now_back : (region disk : List ℕ) (calls : List BerthCall) (rf df dr : ℕ) (q : Pair) → resting region (disks_now calls disk) q → (meaning_of region disk calls rf df dr).leaves (moments calls) q
now_back region disk calls rf df dr q rests = from (at_end calls region disk (λ e. e ≡ disk_before calls disk) q) rests

pub undone_is : (w : Wrote) (at : ℕ) (bytes old : List ℕ) → w.at ≡ at → w.was ≡ length old → w.lost.items ≡ take (length bytes) (drop at old) → undone w (written at bytes old) ≡ old
undone_is w at bytes old at_is was_is lost_is =
    ap (λ (n : ℕ). take n (take w.at (written at bytes old) ++ w.lost.items ++ drop (w.at + length w.lost.items) (written at bytes old))) was_is
    ∙ ap (λ (a : ℕ). take (length old) (take a (written at bytes old) ++ w.lost.items ++ drop (a + length w.lost.items) (written at bytes old))) at_is
    ∙ undone_written at bytes old w.lost.items lost_is

-- the same, where the new contents and the new record are known by equations
same_meaning : (region disk region' disk' : List ℕ) (calls calls' : List BerthCall) (rf df dr : ℕ) → region' ≡ region → disk' ≡ disk → calls' ≡ calls → meaning_of region disk calls rf df dr ≡ meaning_of region' disk' calls' rf df dr
same_meaning region disk region' disk' calls calls' rf df dr r d c =
    sym (ap (λ (l : List ℕ). meaning_of l disk' calls' rf df dr) r ∙ ap (λ (l : List ℕ). meaning_of region l calls' rf df dr) d ∙ ap (λ (l : List BerthCall). meaning_of region disk l rf df dr) c)

module _ {T E : Type 0} (region disk : List ℕ) (calls : List BerthCall) (rf df dr : ℕ) where
  pub region_wrote : (v : T) (at : ℕ) (bytes : List ℕ) (w : Wrote) → Describes w at bytes region → at + length bytes < 2 ^ 63
      → Passes (meaning_of region disk calls rf df dr) (meaning_of (written at bytes region) disk (calls ++ WroteRegion w ∷ []) rf df dr) × RegionWritten {E = E} at bytes (Ok v) (meaning_of region disk calls rf df dr) (meaning_of (written at bytes region) disk (calls ++ WroteRegion w ∷ []) rf df dr)
  region_wrote v at bytes w says near =
      let at_is = says.at_is in
      let len_is = says.len_is in
      let back = undone_is w at bytes region at_is says.was_is says.lost_is in
      let c = WroteRegion w in (
        passes region disk (written at bytes region) disk calls c rf df dr back refl,
        record {
          disk = refl;
          ok = refl;
          err = tt;
          too_far = λ far. absurd (omega arith);
          ticks = (ticks region disk (written at bytes region) disk calls c rf df dr back refl, tt);
          inside = λ t p after before left.
              let d = inside region disk (written at bytes region) disk calls c rf df dr back refl t p after before left in (
                record { region = region; disk = p.disk },
                now_back region disk calls rf df dr (record { region = region; disk = p.disk }) (inl refl, d.1),
                (⊎_elim (λ torn. inl (subst (λ (n : ℕ). Torn at n region p.region) len_is (subst (λ (a : ℕ). Torn a w.len region p.region) at_is torn))) (λ lost. inr (lost_closed p.region lost)) d.0, refl),
              );
          ended = λ p left.
              let d = ended region disk (written at bytes region) disk calls c rf df dr back refl p left in
              (record { region = region; disk = p.disk }, now_back region disk calls rf df dr (record { region = region; disk = p.disk }) (inl refl, d.1), refl);
          meanwhile = λ t now after before stands.
              let torn = meanwhile region disk (written at bytes region) disk calls c rf df dr back refl t now after before stands in
              subst (λ (n : ℕ). Torn at n region now) len_is (subst (λ (a : ℕ). Torn a w.len region now) at_is torn);
        },
      )

  pub region_cut_off : (v : T) (len : ℕ) (w : CutOff) → w.len ≡ len → w.lost.items ≡ drop len region
      → Passes (meaning_of region disk calls rf df dr) (meaning_of (take len region) disk (calls ++ CutRegion w ∷ []) rf df dr) × RegionCut {E = E} len (Ok v) (meaning_of region disk calls rf df dr) (meaning_of (take len region) disk (calls ++ CutRegion w ∷ []) rf df dr)
  region_cut_off v len w len_is lost_is =
      let back : take len region ++ w.lost.items ≡ region = ap (λ (l : List ℕ). take len region ++ l) lost_is ∙ take-append-drop len region in
      let c = CutRegion w in (
        passes region disk (take len region) disk calls c rf df dr back refl,
        record {
          disk = refl;
          ok = refl;
          err = tt;
          ticks = (ticks region disk (take len region) disk calls c rf df dr back refl, tt);
          inside = λ t p after before left.
              let d = inside region disk (take len region) disk calls c rf df dr back refl t p after before left in (
                record { region = region; disk = p.disk },
                now_back region disk calls rf df dr (record { region = region; disk = p.disk }) (inl refl, d.1),
                (⊎_elim (λ torn. inl (subst (λ (n : ℕ). Cut n region p.region) len_is torn)) (λ lost. inr (lost_closed p.region lost)) d.0, refl),
              );
          ended = λ p left.
              let d = ended region disk (take len region) disk calls c rf df dr back refl p left in
              (record { region = region; disk = p.disk }, now_back region disk calls rf df dr (record { region = region; disk = p.disk }) (inl refl, d.1), refl);
          meanwhile = λ t now after before stands.
              subst (λ (n : ℕ). Cut n region now) len_is (meanwhile region disk (take len region) disk calls c rf df dr back refl t now after before stands);
        },
      )

  pub disk_wrote : (v : T) (at : ℕ) (bytes : List ℕ) (w : Wrote) → Describes w at bytes disk → at + length bytes < 2 ^ 63
      → Passes (meaning_of region disk calls rf df dr) (meaning_of region (written at bytes disk) (calls ++ WroteDisk w ∷ []) rf df dr) × DiskWritten {E = E} at bytes (Ok v) (meaning_of region disk calls rf df dr) (meaning_of region (written at bytes disk) (calls ++ WroteDisk w ∷ []) rf df dr)
  disk_wrote v at bytes w says near =
      let at_is = says.at_is in
      let len_is = says.len_is in
      let back = undone_is w at bytes disk at_is says.was_is says.lost_is in
      let c = WroteDisk w in (
        passes region disk region (written at bytes disk) calls c rf df dr refl back,
        record {
          region = refl;
          ok = refl;
          err = tt;
          too_far = λ far. absurd (omega arith);
          ticks = (ticks region disk region (written at bytes disk) calls c rf df dr refl back, tt);
          inside = λ t p after before left.
              let d = inside region disk region (written at bytes disk) calls c rf df dr refl back t p after before left in
              (record { region = p.region; disk = d.1.0 }, now_back region disk calls rf df dr (record { region = p.region; disk = d.1.0 }) (d.0, d.1.1), (refl, made w.at w.len d.1.0 p.disk at_is len_is d.1.2));
          ended = λ p left.
              let d = ended region disk region (written at bytes disk) calls c rf df dr refl back p left in
              ⊎_elim
              (λ (torn : (e : List ℕ) × disks_now calls disk e × Torn w.at w.len e p.disk).
              (record { region = p.region; disk = torn.0 }, now_back region disk calls rf df dr (record { region = p.region; disk = torn.0 }) (d.0, torn.1), (refl, made w.at w.len torn.0 p.disk at_is len_is torn.2)))
              (λ (is : p.disk ≡ written at bytes disk). (
                record { region = p.region; disk = disk },
                now_back region disk calls rf df dr (record { region = p.region; disk = disk }) (d.0, disk_stands calls disk (λ e. e ≡ disk_before calls disk) refl),
                (refl, subst (λ (l : List ℕ). Torn at (length bytes) disk l) (sym is) (torn_written at bytes disk)),
              ))
              d.1;
          meanwhile = λ t now after before stands. meanwhile region disk region (written at bytes disk) calls c rf df dr refl back t now after before stands;
        },
      )
    where
      made : (a n : ℕ) (x y : List ℕ) → a ≡ at → n ≡ length bytes → Torn a n x y → Torn at (length bytes) x y
      made a n x y a_is n_is torn = subst (λ (m : ℕ). Torn at m x y) n_is (subst (λ (b : ℕ). Torn b n x y) a_is torn)

  pub disk_synced : (v : T) → Passes (meaning_of region disk calls rf df dr) (meaning_of region disk (calls ++ SyncedDisk ∷ []) rf df dr) × DiskSynced {E = E} (Ok v) (meaning_of region disk calls rf df dr) (meaning_of region disk (calls ++ SyncedDisk ∷ []) rf df dr)
  disk_synced v =
      let c = SyncedDisk in (
        passes region disk region disk calls c rf df dr refl refl,
        record {
          held = refl;
          ticks = (ticks region disk region disk calls c rf df dr refl refl, tt);
          inside = λ t p after before left. now_back region disk calls rf df dr p (inside region disk region disk calls c rf df dr refl refl t p after before left);
          ended = λ p left.
              let d = ended region disk region disk calls c rf df dr refl refl p left in
              now_back region disk calls rf df dr p (d.0, subst (λ (l : List ℕ). disks_now calls disk l) (sym d.1) (disk_stands calls disk (λ e. e ≡ disk_before calls disk) refl));
          durable = λ p left. (ended region disk region disk calls c rf df dr refl refl p left).1;
          meanwhile = λ t now after before stands. meanwhile region disk region disk calls c rf df dr refl refl t now after before stands;
        },
      )

  pub wrote_region : (v : T) (at : ℕ) (bytes region' : List ℕ) (calls' : List BerthCall) → region' ≡ written at bytes region → (w : Wrote) × Describes w at bytes region × (calls' ≡ calls ++ WroteRegion w ∷ []) → at + length bytes < 2 ^ 63
      → Passes (meaning_of region disk calls rf df dr) (meaning_of region' disk calls' rf df dr) × RegionWritten {E = E} at bytes (Ok v) (meaning_of region disk calls rf df dr) (meaning_of region' disk calls' rf df dr)
  wrote_region v at bytes region' calls' region_is made near =
      subst (λ (m : Meaning). Passes (meaning_of region disk calls rf df dr) m × RegionWritten {E = E} at bytes (Ok v) (meaning_of region disk calls rf df dr) m)
      (same_meaning (written at bytes region) disk region' disk (calls ++ WroteRegion made.0 ∷ []) calls' rf df dr region_is refl made.2) (region_wrote v at bytes made.0 made.1 near)

  pub wrote_disk : (v : T) (at : ℕ) (bytes disk' : List ℕ) (calls' : List BerthCall) → disk' ≡ written at bytes disk → (w : Wrote) × Describes w at bytes disk × (calls' ≡ calls ++ WroteDisk w ∷ []) → at + length bytes < 2 ^ 63
      → Passes (meaning_of region disk calls rf df dr) (meaning_of region disk' calls' rf df dr) × DiskWritten {E = E} at bytes (Ok v) (meaning_of region disk calls rf df dr) (meaning_of region disk' calls' rf df dr)
  wrote_disk v at bytes disk' calls' disk_is made near =
      subst (λ (m : Meaning). Passes (meaning_of region disk calls rf df dr) m × DiskWritten {E = E} at bytes (Ok v) (meaning_of region disk calls rf df dr) m)
      (same_meaning region (written at bytes disk) region disk' (calls ++ WroteDisk made.0 ∷ []) calls' rf df dr refl disk_is made.2) (disk_wrote v at bytes made.0 made.1 near)

  pub cut_region : (v : T) (len : ℕ) (region' : List ℕ) (calls' : List BerthCall) → region' ≡ take len region → (w : CutOff) × (w.len ≡ len) × (w.lost.items ≡ drop len region) × (calls' ≡ calls ++ CutRegion w ∷ [])
      → Passes (meaning_of region disk calls rf df dr) (meaning_of region' disk calls' rf df dr) × RegionCut {E = E} len (Ok v) (meaning_of region disk calls rf df dr) (meaning_of region' disk calls' rf df dr)
  cut_region v len region' calls' region_is made =
      subst (λ (m : Meaning). Passes (meaning_of region disk calls rf df dr) m × RegionCut {E = E} len (Ok v) (meaning_of region disk calls rf df dr) m)
      (same_meaning (take len region) disk region' disk (calls ++ CutRegion made.0 ∷ []) calls' rf df dr region_is refl made.3) (region_cut_off v len made.0 made.1 made.2)

  pub synced_disk : (v : T) (calls' : List BerthCall) → calls' ≡ calls ++ SyncedDisk ∷ []
      → Passes (meaning_of region disk calls rf df dr) (meaning_of region disk calls' rf df dr) × DiskSynced {E = E} (Ok v) (meaning_of region disk calls rf df dr) (meaning_of region disk calls' rf df dr)
  synced_disk v calls' made =
      subst (λ (m : Meaning). Passes (meaning_of region disk calls rf df dr) m × DiskSynced {E = E} (Ok v) (meaning_of region disk calls rf df dr) m)
      (same_meaning region disk region disk (calls ++ SyncedDisk ∷ []) calls' rf df dr refl refl made) (disk_synced v)
