-- What a picker hands out may be left.
use Rattle.std.proofs.Common.{◌≡◌, ◌≢◌, ◌/◌, ◌%◌, inl, inr, ℕ, zero, suc, ◌+◌, ◌-◌, ◌*◌, ◌<◌, ◌≤◌, List, [], ◌∷◌, length, take, drop, get_or, refl, sym, ◌∙◌, ap, subst, arith}
use Rattle.std.proofs.lemmas.List.{drop_more}
use Rattle.berth_face.specs.Berth.{Pair, Torn}
use Rattle.berth_mem.specs.declared.record.BerthCall.{BerthCall}
use Rattle.berth_mem.specs.declared.record.BerthCall.TheVariants.{WroteRegion, CutRegion, WroteDisk, SyncedDisk}
use Rattle.berth_mem.specs.Record.{disk_undone, region_before, disk_before, disks_after, during, moments, leaves_at}
use Rattle.berth_mem.specs.Picked.{IsUnsynced, Unsynced, breaks_at}
use Rattle.berth_mem.proofs.Contents.{torn_same}

abbrev Pred : Type 1
Pred = List ℕ → Type 0

abbrev pub double : ℕ → ℕ
double zero = zero
double (suc k) = suc (suc (double k))

pub double_is : (k : ℕ) → double k ≡ 2 * k
double_is zero = refl
double_is (suc k) = omega (arith, double_is k)

pub moments_is : (calls : List BerthCall) → moments calls ≡ 2 * length calls
moments_is [] = refl
moments_is (c ∷ calls) = omega (arith, moments_is calls)

-- the disks that a crash may leave before the k-th of these calls
abbrev pub disks_before : ℕ → List BerthCall → List ℕ → Pred → Pred
disks_before zero calls disk disks = disks
disks_before (suc k) [] disk disks = disks
disks_before (suc k) (c ∷ calls) disk disks = disks_before k calls disk (disks_after c (disk_before calls disk) disks)

next : (x : BerthCall) (after : List ℕ) (disks : Pred) → disks (disk_undone x after) → disks_after x after disks after
next (WroteRegion w) after disks h = h
next (CutRegion w) after disks h = h
next (WroteDisk w) after disks h = inr refl
next SyncedDisk after disks h = refl

-- a disk that was left before a call which is no sync is left after it
stays : (x : BerthCall) (after : List ℕ) (disks : Pred) (d : List ℕ) → IsUnsynced x → disks d → disks_after x after disks d
stays (WroteRegion w) after disks d un h = h
stays (CutRegion w) after disks d un h = h
stays (WroteDisk w) after disks d un h = inl (d, h, torn_same w.at w.len d)
stays SyncedDisk after disks d un h = absurd un

outlives : (k : ℕ) (calls : List BerthCall) (disk : List ℕ) (disks : Pred) (d : List ℕ) → Unsynced (take k calls) → disks d → disks_before k calls disk disks d
outlives zero calls disk disks d all had = had
outlives (suc k) [] disk disks d all had = had
outlives (suc k) (c ∷ calls) disk disks d all had = outlives k calls disk (disks_after c (disk_before calls disk) disks) d all.1 (stays c (disk_before calls disk) disks d all.0 had)

-- one call before them that is no sync, too
pub unsynced_more : (calls : List BerthCall) (k i : ℕ) (c : BerthCall) → 0 < i → i ≤ k → k ≤ length calls → c ≡ get_or calls (i - 1) c → IsUnsynced c → Unsynced (take (k - i) (drop i calls)) → Unsynced (take (k - (i - 1)) (drop (i - 1) calls))
unsynced_more calls k i c some within bound is un had =
    let back : i - 1 + 1 ≡ i = omega arith in
    let size : k - (i - 1) ≡ suc (k - i) = omega arith in
    let split : drop (i - 1) calls ≡ c ∷ drop i calls = drop_more calls (i - 1) c (omega arith) ∙ ap (λ (x : BerthCall). x ∷ drop (i - 1 + 1) calls) (sym is) ∙ ap (λ (n : ℕ). c ∷ drop n calls) back in
    subst (λ (l : List BerthCall). Unsynced (take (k - (i - 1)) l)) (sym split) (subst (λ (n : ℕ). Unsynced (take n (c ∷ drop i calls))) (sym size) (un, had))

-- what stood before the j-th call is left before the k-th, where no sync stands between
pub outlived : (j n k : ℕ) (calls : List BerthCall) (disk : List ℕ) (disks : Pred) → k ≡ j + n → disks (disk_before calls disk) → Unsynced (take n (drop j calls)) → disks_before k calls disk disks (disk_before (drop j calls) disk)
outlived zero n k calls disk disks is here all = subst (λ (m : ℕ). disks_before m calls disk disks (disk_before calls disk)) (the_same is) (outlives n calls disk disks (disk_before calls disk) all here)
  where
    the_same : k ≡ 0 + n → n ≡ k
    the_same e = omega arith
outlived (suc j) n zero calls disk disks is here all = absurd (omega arith)
outlived (suc j) n (suc k) [] disk disks is here all = here
outlived (suc j) n (suc k) (c ∷ calls) disk disks is here all =
    outlived j n k calls disk (disks_after c (disk_before calls disk) disks) (omega arith) (next c (disk_before calls disk) disks here) all

more : (c : BerthCall) (region : List ℕ) (d : List ℕ) (disks : Pred) (p : Pair) → disks d → during c region (λ e. e ≡ d) p → during c region disks p
more (WroteRegion w) region d disks p here had = (had.0, subst disks (sym had.1) here)
more (CutRegion w) region d disks p here had = (had.0, subst disks (sym had.1) here)
more (WroteDisk w) region d disks p here had = (had.0, (d, here, subst (λ (l : List ℕ). Torn w.at w.len l p.disk) had.1.1 had.1.2))
more SyncedDisk region d disks p here had = (had.0, subst disks (sym had.1) here)

even_at : (calls : List BerthCall) (region disk : List ℕ) (disks : Pred) (k : ℕ) (p : Pair) → k ≤ length calls → p.region ≡ region_before (drop k calls) region → disks_before k calls disk disks p.disk → leaves_at calls region disk disks (double k) p
even_at calls region disk disks zero p le is had = (inl is, had)
even_at [] region disk disks (suc k) p le is had = absurd (omega arith)
even_at (c ∷ calls) region disk disks (suc k) p le is had = even_at calls region disk (disks_after c (disk_before calls disk) disks) k p (omega arith) is had

odd_at : (calls : List BerthCall) (region disk : List ℕ) (disks : Pred) (k : ℕ) (d : List ℕ) (p : Pair) → disks_before k calls disk disks d → breaks_at (drop k calls) region d p → leaves_at calls region disk disks (suc (double k)) p
odd_at [] region disk disks zero d p here had = absurd had
odd_at [] region disk disks (suc k) d p here had = absurd had
odd_at (c ∷ calls) region disk disks zero d p here had = more c (region_before (c ∷ calls) region) d disks p here had
odd_at (c ∷ calls) region disk disks (suc k) d p here had = odd_at calls region disk (disks_after c (disk_before calls disk) disks) k d p here had

pub even_leaves : (calls : List BerthCall) (region disk : List ℕ) (t j : ℕ) (p : Pair) → t ≤ moments calls → t % 2 ≡ 0 → j ≤ t / 2 → Unsynced (take (t / 2 - j) (drop j calls))
    → p.region ≡ region_before (drop (t / 2) calls) region → p.disk ≡ disk_before (drop j calls) disk → leaves_at calls region disk (λ d. d ≡ disk_before calls disk) t p
even_leaves calls region disk t j p le even from all r d =
    let is : double (t / 2) ≡ t = omega (arith, double_is (t / 2)) in
    let left = outlived j (t / 2 - j) (t / 2) calls disk (λ e. e ≡ disk_before calls disk) (omega arith) refl all in
    subst (λ (u : ℕ). leaves_at calls region disk (λ e. e ≡ disk_before calls disk) u p) is
    (even_at calls region disk (λ e. e ≡ disk_before calls disk) (t / 2) p (omega (arith, moments_is calls)) r (subst (λ (l : List ℕ). disks_before (t / 2) calls disk (λ e. e ≡ disk_before calls disk) l) (sym d) left))

pub odd_leaves : (calls : List BerthCall) (region disk : List ℕ) (t j : ℕ) (d : List ℕ) (p : Pair) → t % 2 ≢ 0 → j ≤ t / 2 → Unsynced (take (t / 2 - j) (drop j calls))
    → d ≡ disk_before (drop j calls) disk → breaks_at (drop (t / 2) calls) region d p → leaves_at calls region disk (λ e. e ≡ disk_before calls disk) t p
odd_leaves calls region disk t j d p odd from all is_d had =
    let is : suc (double (t / 2)) ≡ t = omega (arith, double_is (t / 2)) in
    let left = outlived j (t / 2 - j) (t / 2) calls disk (λ e. e ≡ disk_before calls disk) (omega arith) refl all in
    subst (λ (u : ℕ). leaves_at calls region disk (λ e. e ≡ disk_before calls disk) u p) is
    (odd_at calls region disk (λ e. e ≡ disk_before calls disk) (t / 2) d p (subst (λ (l : List ℕ). disks_before (t / 2) calls disk (λ e. e ≡ disk_before calls disk) l) (sym is_d) left) had)

-- with the machine, the region may be lost at each moment
pub lost_too : (calls : List BerthCall) (region disk : List ℕ) (disks : Pred) (t : ℕ) (p : Pair) → leaves_at calls region disk disks t p → leaves_at calls region disk disks t (record { region = []; disk = p.disk })
lost_too calls region disk disks zero p left = (inr refl, left.1)
lost_too [] region disk disks (suc t) p left = absurd left
lost_too (c ∷ calls) region disk disks (suc zero) p left = lose c left
  where
    lose : (x : BerthCall) → during x (region_before (c ∷ calls) region) disks p → during x (region_before (c ∷ calls) region) disks (record { region = []; disk = p.disk })
    lose (WroteRegion w) h = (inr refl, h.1)
    lose (CutRegion w) h = (inr refl, h.1)
    lose (WroteDisk w) h = (inr refl, h.1)
    lose SyncedDisk h = (inr refl, h.1)
lost_too (c ∷ calls) region disk disks (suc (suc t)) p left = lost_too calls region disk (disks_after c (disk_before calls disk) disks) t p left
