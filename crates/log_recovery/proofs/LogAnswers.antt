-- A log gives one answer.
use Rattle.std.proofs.Common.{◌≡◌, inl, inr, ℕ, ◌≤◌, ◌^◌, Bool, true, false, not, List, [], ◌∷◌, ◌++◌, length, take, min, Option, Some, None, option_map, refl, sym, ap, subst, ◌∙◌, append_assoc, append-nil, length-append, arith, cond}
use Rattle.std.specs.List.{find, list_any}
use Rattle.std.specs.Str.{bytes_eq}
use Rattle.std.proofs.lemmas.List.{take-append-le, take_min}
use Rattle.leaf_model.specs.declared.writes.Write.{Write}
use Rattle.leaf_model.specs.Content.{content}
use Rattle.row_records.specs.Records.{LogRecord}
use Rattle.table_state.specs.Tables.{Table}
use Rattle.disk_backup.specs.Logs.{IsBounded, IsSound, writes_of}
use Rattle.disk_backup.specs.State.{LogState}
use Rattle.disk_backup.specs.Scanning.{Scanned, scanned_disk}
use Rattle.disk_backup.proofs.Logs.{closed_is_log}
use Rattle.disk_backup.proofs.Scanned.{scanned_is_front}
use Rattle.disk_backup.proofs.SoundLogs.{writes_append}
use Rattle.disk_backup.proofs.InOrder.{scans_in_order, damaged_last}
use Rattle.log_recovery.specs.declared.fault.RecoveryFault.TheVariants as found
use Rattle.log_recovery.specs.Recovery.{ComesTo, IsDamagedLog, IsRecovered, IsRecoveryRefusal, IsTooLong, is_stranger_record, stranger_in}
use Rattle.log_recovery.proofs.Reading.{never_refused}

-- ---- lists that end in one element

-- what stands before the last element, where another list with its last goes on
pub data Goes {X : Type 0} (xs : List X) (x : X) (ys : List X) (y : X) : Type 0 where
  here : xs ≡ ys → x ≡ y → Goes xs x ys y
  later : (more : List X) → ys ≡ xs ++ x ∷ more → Goes xs x ys y

head_is : {X : Type 0} (x y : X) (xs ys : List X) → x ∷ xs ≡ y ∷ ys → x ≡ y
head_is x y xs ys e = cc

tail_is : {X : Type 0} (x y : X) (xs ys : List X) → x ∷ xs ≡ y ∷ ys → xs ≡ ys
tail_is x y xs ys e = cc

goes : {X : Type 0} (xs : List X) (x : X) (rest ys : List X) (y : X) → ys ++ y ∷ [] ≡ (xs ++ x ∷ []) ++ rest → Goes xs x ys y
goes [] x rest [] y e = Goes.here refl (sym (head_is y x [] rest e))
goes [] x rest (z ∷ ys) y e =
    Goes.later ys (ap (λ w. w ∷ ys) (head_is z x (ys ++ y ∷ []) rest e))
goes (w ∷ xs) x rest [] y e = absurd (short (tail_is y w [] ((xs ++ x ∷ []) ++ rest) e))
  where
    short : [] ≡ (xs ++ x ∷ []) ++ rest → ⊥
    short none = omega (arith, ap length none, length-append (xs ++ x ∷ []) rest, length-append xs (x ∷ []))
goes (w ∷ xs) x rest (z ∷ ys) y e =
    on (head_is z w (ys ++ y ∷ []) ((xs ++ x ∷ []) ++ rest) e) (goes xs x rest ys y (tail_is z w (ys ++ y ∷ []) ((xs ++ x ∷ []) ++ rest) e))
  where
    on : z ≡ w → Goes xs x ys y → Goes (w ∷ xs) x (z ∷ ys) y
    on same (Goes.here more last) = Goes.here (ap (λ v. v ∷ xs) (sym same) ∙ ap (λ vs. z ∷ vs) more) last
    on same (Goes.later more is) = Goes.later more (ap (λ v. v ∷ ys) same ∙ ap (λ vs. w ∷ vs) is)

-- ---- what stands in a list without a stranger is none

module _ (names : List (List ℕ)) where
  none_of : {X Y : Type 0} (f : X → Y) (o : Option X) → option_map f o ≡ None → o ≡ None
  none_of f None e = refl
  none_of f (Some x) e = absurd cc

  known_by : (records : List LogRecord) (r : LogRecord) (more : List LogRecord) → find (is_stranger_record names) (records ++ r ∷ more) ≡ None → is_stranger_record names r ≡ false
  known_by [] r more none = first (is_stranger_record names r) none
    where
      first : (b : Bool) → cond b (Some r) (find (is_stranger_record names) more) ≡ None → b ≡ false
      first true e = absurd cc
      first false e = refl
  known_by (s ∷ records) r more none = known_by records r more (rest (is_stranger_record names s) none)
    where
      rest : (b : Bool) → cond b (Some s) (find (is_stranger_record names) (records ++ r ∷ more)) ≡ None → find (is_stranger_record names) (records ++ r ∷ more) ≡ None
      rest true e = absurd cc
      rest false e = e

  known : (records : List LogRecord) (r : LogRecord) (more : List LogRecord) → stranger_in names (records ++ r ∷ more) ≡ None → is_stranger_record names r ≡ false
  known records r more none = known_by records r more (none_of (λ (s : LogRecord). s.name) (find (is_stranger_record names) (records ++ r ∷ more)) none)

  -- a stranger's record is none that is known
  other : (r : LogRecord) (name : List ℕ) → r.name ≡ name → list_any (bytes_eq name) names ≡ false → is_stranger_record names r ≡ false → ⊥
  other r name is none known = clash (ap (λ (n : List ℕ). list_any (bytes_eq n) names) is ∙ none) known
    where
      clash : (list_any (bytes_eq r.name) names) ≡ false → not (list_any (bytes_eq r.name) names) ≡ false → ⊥
      clash a b = both (list_any (bytes_eq r.name) names) a b
        where
          both : (c : Bool) → c ≡ false → not c ≡ false → ⊥
          both true p q = cc
          both false p q = cc

-- ---- a bounded log has no record that is too long

not_too_long : (records : List LogRecord) (r : LogRecord) (more : List LogRecord) → IsBounded ((records ++ r ∷ []) ++ more) → IsTooLong records r → ⊥
not_too_long records r more bounded long =
    let whole = records ++ r ∷ [] in
    let had = writes_of r.name whole in
    let k = min long.0 (length had) in
    let all : writes_of r.name (whole ++ more) ≡ had ++ writes_of r.name more = writes_append r.name whole more in
    let same : take k (writes_of r.name (whole ++ more)) ≡ take long.0 had =
    ap (take k) all ∙ take-append-le k had (writes_of r.name more) (omega arith) ∙ take_min long.0 had in
    let few = subst (λ (l : List Write). length (content l).rows ≤ 2 ^ 40) same (bounded r.name k) in
    absurd (omega (arith, few, long.1))

-- ---- which answers exclude one another

module _ (names : List (List ℕ)) (disk : List ℕ) where
  abbrev StrangerIn : List ℕ → Type 0
  StrangerIn name = IsRecoveryRefusal names disk (found.Stranger name)

  -- what was recovered holds each record that was reached
  pub recovered_no_stranger : (tables : List Table) (log : LogState) (name : List ℕ) → IsRecovered names disk tables log → StrangerIn name → ⊥
  recovered_no_stranger tables log name all s =
      let records = s.0 in
      let r = s.1 in
      let front = scanned_is_front disk (records ++ r ∷ []) all.records s.2.at log.end s.2.scanned (closed_is_log disk all.records log.end all.closed) in
      let is : all.records ≡ records ++ r ∷ front.0 = front.1 ∙ append_assoc records (r ∷ []) front.0 in
      other names r name s.3 s.4 (known names records r front.0 (subst (λ (rs : List LogRecord). stranger_in names rs ≡ None) is all.known))

  -- two strangers that come first are one
  pub one_stranger : (a b : List ℕ) → StrangerIn a → StrangerIn b → a ≡ b
  one_stranger a b s t = elim (scans_in_order disk (s.0 ++ s.1 ∷ []) (t.0 ++ t.1 ∷ []) s.2.at t.2.at s.2.scanned t.2.scanned) [
    | inl more ↦ by a b s t (goes s.0 s.1 more.0 t.0 t.1 more.1)
    | inr more ↦ sym (by b a t s (goes t.0 t.1 more.0 s.0 s.1 more.1))
  ]
    where
      by : (a b : List ℕ) (s : StrangerIn a) (t : StrangerIn b) → Goes s.0 s.1 t.0 t.1 → a ≡ b
      by a b s t (Goes.here same last) = sym s.3 ∙ (ap (λ (r : LogRecord). r.name) last ∙ t.3)
      by a b s t (Goes.later more is) =
          absurd (other names s.1 a s.3 s.4 (known names s.0 s.1 more (subst (λ (rs : List LogRecord). stranger_in names rs ≡ None) is t.2.known)))

  -- a stranger that comes first, and damage that comes first
  stranger_no_damage : (a : List ℕ) → StrangerIn a → IsDamagedLog names disk → ⊥
  stranger_no_damage a s d = elim (scans_in_order disk (s.0 ++ s.1 ∷ []) d.records s.2.at d.at s.2.scanned d.scanned) [
    | inl more ↦ inside (more.0) (more.1 ∙ append_assoc s.0 (s.1 ∷ []) more.0)
    | inr more ↦ behind more.0 more.1
  ]
    where
      inside : (more : List LogRecord) → d.records ≡ s.0 ++ s.1 ∷ more → ⊥
      inside more is = other names s.1 a s.3 s.4 (known names s.0 s.1 more (subst (λ (rs : List LogRecord). stranger_in names rs ≡ None) is d.known))

      behind : (more : List LogRecord) → s.0 ++ s.1 ∷ [] ≡ d.records ++ more → ⊥
      behind [] is = inside [] (sym (append-nil d.records) ∙ sym is)
      behind (x ∷ more) is = damaged_last disk d.records x more d.at s.2.at d.scanned d.damaged (subst (λ (rs : List LogRecord). Scanned disk rs s.2.at) is s.2.scanned)

  -- a stranger that comes first, and a record that is too long that comes first
  abbrev TooLong : Type 0
  TooLong = (records : List LogRecord) × (r : LogRecord) × ComesTo names disk records r × (list_any (bytes_eq r.name) names ≡ true) × IsTooLong records r

  stranger_no_length : (a : List ℕ) → StrangerIn a → TooLong → ⊥
  stranger_no_length a s t = elim (scans_in_order disk (s.0 ++ s.1 ∷ []) (t.0 ++ t.1 ∷ []) s.2.at t.2.at s.2.scanned t.2.scanned) [
    | inl more ↦ first (goes s.0 s.1 more.0 t.0 t.1 more.1)
    | inr more ↦ second (goes t.0 t.1 more.0 s.0 s.1 more.1)
  ]
    where
      clash : (b : Bool) → b ≡ true → b ≡ false → ⊥
      clash b p q = cc

      same_place : s.1 ≡ t.1 → ⊥
      same_place e = clash (list_any (bytes_eq a) names) (subst (λ (n : List ℕ). list_any (bytes_eq n) names ≡ true) (ap (λ (r : LogRecord). r.name) (sym e) ∙ s.3) t.3) s.4

      first : Goes s.0 s.1 t.0 t.1 → ⊥
      first (Goes.here same last) = same_place last
      first (Goes.later more is) = other names s.1 a s.3 s.4 (known names s.0 s.1 more (subst (λ (rs : List LogRecord). stranger_in names rs ≡ None) is t.2.known))

      second : Goes t.0 t.1 s.0 s.1 → ⊥
      second (Goes.here same last) = same_place (sym last)
      second (Goes.later more is) =
          not_too_long t.0 t.1 more (subst (λ (rs : List LogRecord). IsBounded rs) (is ∙ sym (append_assoc t.0 (t.1 ∷ []) more)) s.2.bounded) t.4

  pub stranger_not_damaged : (a : List ℕ) → StrangerIn a → IsRecoveryRefusal names disk found.DiskDamaged → ⊥
  stranger_not_damaged a s (inl d) = stranger_no_damage a s d
  stranger_not_damaged a s (inr t) = stranger_no_length a s t

-- ---- a log that was recovered is sound

begun_again : (disk : List ℕ) → scanned_disk (scanned_disk disk) ≡ scanned_disk disk
begun_again [] = refl
begun_again (b ∷ []) = refl
begun_again (b ∷ c ∷ rest) = refl

pub recovered_not_damaged : (names : List (List ℕ)) (disk : List ℕ) (tables : List Table) (log : LogState) → IsRecovered names (scanned_disk disk) tables log → IsRecoveryRefusal names (scanned_disk disk) found.DiskDamaged → ⊥
recovered_not_damaged names disk tables log all refused =
    let sound : IsSound (scanned_disk disk) = (all.records, log.end, closed_is_log (scanned_disk disk) all.records log.end all.closed, all.bounded) in
    never_refused names (scanned_disk disk) sound (subst (λ (d : List ℕ). IsRecoveryRefusal names d found.DiskDamaged) (sym (begun_again disk)) refused)
