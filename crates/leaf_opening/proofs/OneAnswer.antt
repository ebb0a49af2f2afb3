-- Bytes decide one answer of a start.
use Rattle.std.proofs.Common.{◌≡◌, inl, inr, ℕ, Bool, true, false, List, [], ◌∷◌, map, Option, Some, None, Result, Ok, Err, refl, sym, ap, subst, ◌∙◌}
use Rattle.region_head.specs.declared.head.Head.{Head}
use Rattle.region_head.specs.declared.head.Head.TheVariants as head
use Rattle.region_layout.specs.Images.{TableImage, image_names}
use Rattle.region_head.specs.Head.{head_of}
use Rattle.region_layout.specs.declared.directory.TablePlaces.{TablePlaces}
use Rattle.region_layout.specs.Region.{IsAdoptable, image_of_parts, parts_in, reads}
use Rattle.region_layout.proofs.Images.{same_directory}
use Rattle.leaf_words.specs.declared.ways.WhyDisk.{WhyDisk}
use Rattle.leaf_words.specs.declared.ways.WhyDisk.TheVariants as why
use Rattle.adopt.specs.Adopting.{IsStranger, IsWhy, IsWhyFor}
use Rattle.region_strangers.specs.Strangers.{stranger_of}
use Rattle.disk_backup.specs.Scanning.{scanned_disk}
use Rattle.log_recovery.proofs.LogAnswers.{one_stranger, recovered_no_stranger, recovered_not_damaged, stranger_not_damaged}
use Rattle.leaf_words.specs.declared.ways.Way.{Way}
use Rattle.leaf_words.specs.declared.ways.Way.TheVariants.{Memory, Disk}
use Rattle.leaf_opening.specs.declared.ways.OpenFault.{OpenFault}
use Rattle.leaf_opening.specs.declared.ways.OpenFault.TheVariants.{RegionFault, DiskFault, DiskDamaged, Stranger, NoMemory}
use Rattle.leaf_opening.specs.Answers.{OneAnswer}
use Rattle.leaf_opening.proofs.Exact.{why_alone}

-- ---- heads

none_version : (h : Head) (v : ℕ) → h ≡ head.NoHead → h ≡ head.Version v → ⊥
none_version h v a b = cc

closed_version : (h : Head) (flag v : ℕ) → h ≡ head.Closed flag → h ≡ head.Version v → ⊥
closed_version h flag v a b = cc

none_closed : (h : Head) (flag : ℕ) → h ≡ head.NoHead → h ≡ head.Closed flag → ⊥
none_closed h flag a b = cc

one_flag : (h : Head) (a b : ℕ) → h ≡ head.Closed a → h ≡ head.Closed b → a ≡ b
one_flag h a b p q = cc

one_version : (h : Head) (a b : ℕ) → h ≡ head.Version a → h ≡ head.Version b → a ≡ b
one_version h a b p q = cc

not_both : (b : Bool) → b ≡ true → b ≡ false → ⊥
not_both b p q = cc

-- a version that is read is no other
read_other : (region : List ℕ) (v w : ℕ) → head_of region ≡ head.Version v → reads v ≡ true → head_of region ≡ head.Version w → reads w ≡ false → ⊥
read_other region v w hv rv hw rw_ = not_both (reads v) rv (subst (λ n. reads n ≡ false) (one_version (head_of region) w v hw hv) rw_)

-- of the region an open head with a version that is read
abbrev IsRead : List ℕ → Type 0
IsRead region = (v : ℕ) × (head_of region ≡ head.Version v) × (reads v ≡ true)

-- ---- why there are no tables

not_read : (region : List ℕ) (w : WhyDisk) → (w ≡ why.NoImage → ⊥) → IsWhy region w → IsRead region → ⊥
not_read region why.NoHead other is r = none_version (head_of region) r.0 is r.1
not_read region (why.Closed flag) other is r = closed_version (head_of region) flag r.0 is r.1
not_read region (why.OtherVersion v) other is r = read_other region r.0 v r.1 r.2 is.0 is.1
not_read region why.NoImage other is r = other refl

one_why : (names : List (List ℕ)) (region : List ℕ) (a b : WhyDisk) → IsWhyFor names region a → IsWhyFor names region b → a ≡ b
one_why names region why.NoHead why.NoHead p q = refl
one_why names region why.NoHead (why.Closed flag) p q = absurd (none_closed (head_of region) flag p q)
one_why names region why.NoHead (why.OtherVersion v) p q = absurd (none_version (head_of region) v p q.0)
one_why names region why.NoHead why.NoImage p q = absurd (none_version (head_of region) q.0.0 p q.0.1)
one_why names region (why.Closed flag) why.NoHead p q = absurd (none_closed (head_of region) flag q p)
one_why names region (why.Closed flag) (why.Closed other) p q = ap (λ n. why.Closed n) (one_flag (head_of region) flag other p q)
one_why names region (why.Closed flag) (why.OtherVersion v) p q = absurd (closed_version (head_of region) flag v p q.0)
one_why names region (why.Closed flag) why.NoImage p q = absurd (closed_version (head_of region) flag q.0.0 p q.0.1)
one_why names region (why.OtherVersion v) why.NoHead p q = absurd (none_version (head_of region) v q p.0)
one_why names region (why.OtherVersion v) (why.Closed flag) p q = absurd (closed_version (head_of region) flag v q p.0)
one_why names region (why.OtherVersion v) (why.OtherVersion w) p q = ap (λ n. why.OtherVersion n) (one_version (head_of region) v w p.0 q.0)
one_why names region (why.OtherVersion v) why.NoImage p q = absurd (read_other region q.0.0 v q.0.1 q.0.2 p.0 p.1)
one_why names region why.NoImage why.NoHead p q = absurd (none_version (head_of region) p.0.0 q p.0.1)
one_why names region why.NoImage (why.Closed flag) p q = absurd (closed_version (head_of region) flag p.0.0 q p.0.1)
one_why names region why.NoImage (why.OtherVersion v) p q = absurd (read_other region p.0.0 v p.0.1 p.0.2 q.0 q.1)
one_why names region why.NoImage why.NoImage p q = refl

-- ---- an image, a stranger, and neither

some_none : {X : Type 0} (o : Option X) (x : X) → o ≡ None → o ≡ Some x → ⊥
some_none o x a b = cc

one_some : {X : Type 0} (o : Option X) (x y : X) → o ≡ Some x → o ≡ Some y → x ≡ y
one_some o x y a b = cc

adoptable_read : (region : List ℕ) (images : List TableImage) (log_end : ℕ) → IsAdoptable region images log_end → IsRead region
adoptable_read region images log_end is = (is.version, is.is.has.head, is.reads_it)

stranger_read : (names : List (List ℕ)) (region name : List ℕ) → IsStranger names region name → IsRead region
stranger_read names region name s = (s.0, s.3.head, s.2)

-- an image is never given up for a reason
pub image_alone : (region : List ℕ) (images : List TableImage) (log_end : ℕ) (w : WhyDisk) → IsAdoptable region images log_end → IsWhy region w → ⊥
image_alone region images log_end why.NoHead is w = not_read region why.NoHead (λ e. cc) w (adoptable_read region images log_end is)
image_alone region images log_end (why.Closed flag) is w = not_read region (why.Closed flag) (λ e. cc) w (adoptable_read region images log_end is)
image_alone region images log_end (why.OtherVersion v) is w = not_read region (why.OtherVersion v) (λ e. cc) w (adoptable_read region images log_end is)
image_alone region images log_end why.NoImage is w = w.3 images log_end is

pub image_why : (names : List (List ℕ)) (region : List ℕ) (images : List TableImage) (log_end : ℕ) (w : WhyDisk) → IsAdoptable region images log_end → IsWhyFor names region w → ⊥
image_why names region images log_end w is told = image_alone region images log_end w is (why_alone names region w told)

stranger_why : (names : List (List ℕ)) (region name : List ℕ) (w : WhyDisk) → IsStranger names region name → IsWhyFor names region w → ⊥
stranger_why names region name why.NoHead s w = not_read region why.NoHead (λ e. cc) w (stranger_read names region name s)
stranger_why names region name (why.Closed flag) s w = not_read region (why.Closed flag) (λ e. cc) w (stranger_read names region name s)
stranger_why names region name (why.OtherVersion v) s w = not_read region (why.OtherVersion v) (λ e. cc) w (stranger_read names region name s)
stranger_why names region name why.NoImage s w = w.1 name s

-- the names of an image's tables are those of its directory
names_are : (region : List ℕ) (tables : List TablePlaces) → image_names (map (λ (t : TablePlaces). image_of_parts t.name (parts_in region t)) tables) ≡ map (λ (t : TablePlaces). t.name) tables
names_are region [] = refl
names_are region (t ∷ ts) = ap (λ (ns : List (List ℕ)). t.name ∷ ns) (names_are region ts)

image_stranger : (names : List (List ℕ)) (region : List ℕ) (images : List TableImage) (log_end : ℕ) (name : List ℕ) → IsAdoptable region images log_end → stranger_of names (image_names images) ≡ None
    → IsStranger names region name → ⊥
image_stranger names region images log_end name is none s =
    let same = same_directory region s.0 is.version s.1 is.is.directory s.3 is.is.has in
    let told : image_names images ≡ map (λ (t : TablePlaces). t.name) s.1.tables =
    ap image_names is.is.tables_are ∙ (names_are region is.is.directory.tables ∙ ap (λ d. map (λ (t : TablePlaces). t.name) d.tables) (sym same)) in
    some_none _ name (subst (λ (ns : List (List ℕ)). stranger_of names ns ≡ None) told none) s.4

same_stranger : (names : List (List ℕ)) (region a b : List ℕ) → IsStranger names region a → IsStranger names region b → a ≡ b
same_stranger names region a b s t =
    let same = same_directory region s.0 t.0 s.1 t.1 s.3 t.3 in
    one_some _ a b (subst (λ d. stranger_of names (map (λ (p : TablePlaces). p.name) d.tables) ≡ Some a) same s.4) t.4

-- ---- all of them

abbrev came : Way → Result Way OpenFault
came way = Ok way

abbrev told : OpenFault → Result Way OpenFault
told fault = Err fault

pub one_answer : OneAnswer
one_answer names region disk (Ok Memory) (Ok Memory) p q = refl
one_answer names region disk (Ok Memory) (Ok (Disk w)) p q = absurd (image_why names region p.0 p.1 w p.2 q.0)
one_answer names region disk (Ok Memory) (Err (Stranger name)) p (inl s) = absurd (image_stranger names region p.0 p.1 name p.2 p.3 s)
one_answer names region disk (Ok Memory) (Err (Stranger name)) p (inr s) = absurd (image_why names region p.0 p.1 s.0.0 p.2 s.0.1)
one_answer names region disk (Ok Memory) (Err DiskDamaged) p q = absurd (image_why names region p.0 p.1 q.0.0 p.2 q.0.1)
one_answer names region disk (Ok (Disk w)) (Ok Memory) p q = absurd (image_why names region q.0 q.1 w q.2 p.0)
one_answer names region disk (Ok (Disk w)) (Ok (Disk v)) p q = ap (λ x. came (Disk x)) (one_why names region w v p.0 q.0)
one_answer names region disk (Ok (Disk w)) (Err (Stranger name)) p (inl s) = absurd (stranger_why names region name w s p.0)
one_answer names region disk (Ok (Disk w)) (Err (Stranger name)) p (inr s) = absurd (recovered_no_stranger names (scanned_disk disk) p.1 p.2 name p.3 s.1)
one_answer names region disk (Ok (Disk w)) (Err DiskDamaged) p q = absurd (recovered_not_damaged names disk p.1 p.2 p.3 q.1)
one_answer names region disk (Err (Stranger name)) (Ok Memory) (inl s) q = absurd (image_stranger names region q.0 q.1 name q.2 q.3 s)
one_answer names region disk (Err (Stranger name)) (Ok Memory) (inr s) q = absurd (image_why names region q.0 q.1 s.0.0 q.2 s.0.1)
one_answer names region disk (Err (Stranger name)) (Ok (Disk w)) (inl s) q = absurd (stranger_why names region name w s q.0)
one_answer names region disk (Err (Stranger name)) (Ok (Disk w)) (inr s) q = absurd (recovered_no_stranger names (scanned_disk disk) q.1 q.2 name q.3 s.1)
one_answer names region disk (Err (Stranger a)) (Err (Stranger b)) (inl s) (inl t) = ap (λ n. told (Stranger n)) (same_stranger names region a b s t)
one_answer names region disk (Err (Stranger a)) (Err (Stranger b)) (inl s) (inr t) = absurd (stranger_why names region a t.0.0 s t.0.1)
one_answer names region disk (Err (Stranger a)) (Err (Stranger b)) (inr s) (inl t) = absurd (stranger_why names region b s.0.0 t s.0.1)
one_answer names region disk (Err (Stranger a)) (Err (Stranger b)) (inr s) (inr t) = ap (λ n. told (Stranger n)) (one_stranger names (scanned_disk disk) a b s.1 t.1)
one_answer names region disk (Err (Stranger a)) (Err DiskDamaged) (inl s) q = absurd (stranger_why names region a q.0.0 s q.0.1)
one_answer names region disk (Err (Stranger a)) (Err DiskDamaged) (inr s) q = absurd (stranger_not_damaged names (scanned_disk disk) a s.1 q.1)
one_answer names region disk (Err DiskDamaged) (Ok Memory) p q = absurd (image_why names region q.0 q.1 p.0.0 q.2 p.0.1)
one_answer names region disk (Err DiskDamaged) (Ok (Disk w)) p q = absurd (recovered_not_damaged names disk q.1 q.2 q.3 p.1)
one_answer names region disk (Err DiskDamaged) (Err (Stranger a)) p (inl s) = absurd (stranger_why names region a p.0.0 s p.0.1)
one_answer names region disk (Err DiskDamaged) (Err (Stranger a)) p (inr s) = absurd (stranger_not_damaged names (scanned_disk disk) a s.1 p.1)
one_answer names region disk (Err DiskDamaged) (Err DiskDamaged) p q = refl
one_answer names region disk (Err RegionFault) b p q = absurd p
one_answer names region disk (Err DiskFault) b p q = absurd p
one_answer names region disk (Err NoMemory) b p q = absurd p
one_answer names region disk a (Err RegionFault) p q = absurd q
one_answer names region disk a (Err DiskFault) p q = absurd q
one_answer names region disk a (Err NoMemory) p q = absurd q
