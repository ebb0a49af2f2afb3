-- One record more, for the tables of all names.
use Rattle.std.proofs.Common.{◌≡◌, ℕ, zero, suc, ◌+◌, ◌-◌, ◌<◌, ◌≤◌, ◌^◌, inl, inr, Bool, true, false, cond, not, List, [], ◌∷◌, ◌++◌, length, take, get_or, set, find, map, Option, Some, None, option_map, refl, sym, ap, ap₂, subst, ◌∙◌, append-nil, length-append, arith}
use Rattle.std.specs.Prelude.{◌≢◌, Err}
use Rattle.std.specs.List.{AllByRecursion, list_any}
use Rattle.std.specs.Str.{bytes_eq}
use Rattle.std.proofs.lemmas.Bool.{cases_lt}
use Rattle.std.proofs.lemmas.List.{take-append-le, take_all, get_or-map}
use Rattle.std.proofs.lemmas.List.Sums.{fold-append}
use Rattle.std.proofs.lemmas.Slice.Eq.{bytes_eq-Decides}
use Rattle.leaf_model.specs.declared.writes.Write.{Write}
use Rattle.leaf_model.specs.Content.{Contents, content_after, content_from, content}
use Rattle.row_records.specs.Records.{LogRecord}
use Rattle.table_state.specs.Tables.{Table, bare, no_store}
use Rattle.table_state.specs.declared.fault.AddFault.{AddFault}
use Rattle.table_state.specs.declared.fault.AddFault.TheVariants as add
use Rattle.log_recovery.specs.Faults.{told_of_add}
use Rattle.disk_backup.specs.Logs.{IsBounded, writes_of}
use Rattle.row_model.specs.Names.{AreDistinct}
use Rattle.disk_backup.proofs.SoundLogs.{writes_append}
use Rattle.log_recovery.specs.Recovery.{recovered_table, recovered_tables, is_stranger_record, stranger_in, IsTooLong}
use Rattle.log_recovery.specs.Applying.{Applies, HasApplied, ReplaysAll, count_of}
use Rattle.log_recovery.proofs.Replaying.{table_after}
use Rattle.log_recovery.proofs.Places.{StandsAt, differ}

-- ---- the tables of records have no store

pub bare_tables : (names : List (List ℕ)) (records : List LogRecord) → map bare (recovered_tables names records) ≡ recovered_tables names records
bare_tables [] records = refl
bare_tables (n ∷ names) records = ap (λ (ts : List Table). recovered_table records n ∷ ts) (bare_tables names records)

-- ---- the writes of one name

pub few_writes : (name : List ℕ) (records : List LogRecord) → length (writes_of name records) ≤ count_of records
few_writes name [] = omega arith
few_writes name (s ∷ records) = step (bytes_eq name s.name) (few_writes name records)
  where
    step : (same : Bool) → length (writes_of name records) ≤ count_of records → length (cond same (s.writes ++ writes_of name records) (writes_of name records)) ≤ length s.writes + count_of records
    step true few = omega (arith, few, length-append s.writes (writes_of name records))
    step false few = omega (arith, few)

pub count_more : (records : List LogRecord) (r : LogRecord) → count_of (records ++ r ∷ []) ≡ count_of records + length r.writes
count_more [] r = omega arith
count_more (s ∷ records) r = omega (arith, count_more records r)

module _ (records : List LogRecord) (r : LogRecord) where
  abbrev more : List LogRecord
  more = records ++ r ∷ []

  pub only_by : (name : List ℕ) (same : Bool) → bytes_eq name r.name ≡ same → writes_of name more ≡ writes_of name records ++ cond same r.writes []
  only_by name same e = writes_append name records (r ∷ []) ∙ ap (λ (l : List Write). writes_of name records ++ l) (last (bytes_eq name r.name) same e)
    where
      last : (b same : Bool) → b ≡ same → cond b (r.writes ++ []) [] ≡ cond same r.writes []
      last true true e = append-nil r.writes
      last true false e = absurd cc
      last false true e = absurd cc
      last false false e = refl

  pub writes_here : writes_of r.name more ≡ writes_of r.name records ++ r.writes
  writes_here = only_by r.name true ((bytes_eq-Decides r.name r.name).1 refl)

  writes_other : (name : List ℕ) → bytes_eq name r.name ≡ false → writes_of name more ≡ writes_of name records
  writes_other name e = only_by name false e ∙ append-nil (writes_of name records)

  -- ---- the tables

  abbrev with_writes : List Write → Table
  with_writes writes = record { contents = content writes; writes = length writes; pending = None; store = no_store }

  abbrev with_both : Contents → ℕ → Table
  with_both c n = record { contents = c; writes = n; pending = None; store = no_store }

  table_here : table_after (recovered_table records r.name) r.writes ≡ recovered_table more r.name
  table_here = ap₂ with_both (sym (fold-append content_after (content []) (writes_of r.name records) r.writes)) (sym (length-append (writes_of r.name records) r.writes)) ∙ ap with_writes (sym writes_here)

  table_other : (name : List ℕ) → name ≢ r.name → recovered_table more name ≡ recovered_table records name
  table_other name other = ap with_writes (writes_other name (differ name r.name (bytes_eq name r.name) refl other))

  others_same : (names : List (List ℕ)) → AllByRecursion (λ other. other ≢ r.name) names → recovered_tables names records ≡ recovered_tables names more
  others_same [] others = refl
  others_same (n ∷ ns) others = ap₂ (λ (t : Table) (ts : List Table). t ∷ ts) (sym (table_other n others.0)) (others_same ns others.1)

  apart : (n : List ℕ) (ns : List (List ℕ)) (i : ℕ) → AllByRecursion (λ other. other ≢ n) ns → i < length ns → get_or ns i [] ≡ r.name → n ≢ r.name
  apart n [] i others h e same = omega (arith, h)
  apart n (m ∷ ns) zero others h e same = others.0 (e ∙ sym same)
  apart n (m ∷ ns) (suc i) others h e same = apart n ns i others.1 (omega (arith, h)) e same

  set_here : (names : List (List ℕ)) (i : ℕ) (now : Table) → AreDistinct names → i < length names → get_or names i [] ≡ r.name → now ≡ recovered_table more r.name
      → set (recovered_tables names records) i now ≡ recovered_tables names more
  set_here [] i now distinct h e is = absurd (omega (arith, h))
  set_here (n ∷ ns) zero now distinct h e is =
      ap₂ (λ (t : Table) (ts : List Table). t ∷ ts) (is ∙ ap (recovered_table more) (sym e)) (others_same ns (subst (λ (m : List ℕ). AllByRecursion (λ other. other ≢ m) ns) e distinct.0))
  set_here (n ∷ ns) (suc i) now distinct h e is =
      ap₂ (λ (t : Table) (ts : List Table). t ∷ ts) (sym (table_other n (apart n ns i distinct.0 (omega (arith, h)) e))) (set_here ns i now distinct.1 (omega (arith, h)) e is)

  -- ---- no stranger, and not too long

  none_of : (o : Option LogRecord) → option_map (λ (s : LogRecord). s.name) o ≡ None → o ≡ None
  none_of None e = refl
  none_of (Some s) e = absurd cc

  find_more : (p : LogRecord → Bool) (rs : List LogRecord) → find p rs ≡ None → p r ≡ false → find p (rs ++ r ∷ []) ≡ None
  find_more p [] none not_r = ap (λ (b : Bool). cond b (Some r) None) not_r
  find_more p (s ∷ rs) none not_r = step (λ e. find_more p rs e not_r) (p s) none
    where
      step : (find p rs ≡ None → find p (rs ++ r ∷ []) ≡ None) → (b : Bool) → cond b (Some s) (find p rs) ≡ None → cond b (Some s) (find p (rs ++ r ∷ [])) ≡ None
      step next true e = absurd cc
      step next false e = next e

  known_more : (names : List (List ℕ)) → stranger_in names records ≡ None → list_any (bytes_eq r.name) names ≡ true → stranger_in names more ≡ None
  known_more names none found =
      ap (λ (o : Option LogRecord). option_map (λ (s : LogRecord). s.name) o) (find_more (is_stranger_record names) records (none_of (find (is_stranger_record names) records) none) (ap not found))

  take_beyond : (k : ℕ) (a b : List Write) → length a ≤ k → take k (a ++ b) ≡ a ++ take (k - length a) b
  take_beyond k [] b h = let same : k ≡ k - 0 = omega arith in ap (λ (n : ℕ). take n b) same
  take_beyond zero (x ∷ a) b h = absurd (omega (arith, h))
  take_beyond (suc k) (x ∷ a) b h = let same : k - length a ≡ suc k - suc (length a) = omega arith in ap (λ (l : List Write). x ∷ l) (take_beyond k a b (omega (arith, h)) ∙ ap (λ (n : ℕ). a ++ take n b) same)

  bounded_more : IsBounded records → ((k : ℕ) → length (content_from (content (writes_of r.name records)) (take k r.writes)).rows ≤ 2 ^ 40) → IsBounded more
  bounded_more bounded within name k = by (bytes_eq name r.name) refl
    where
      had : List Write
      had = writes_of r.name records

      here : length (content (take k (writes_of r.name records ++ r.writes))).rows ≤ 2 ^ 40
      here = elim (cases_lt k (length (writes_of r.name records))) [
        | inl before ↦ subst (λ (l : List Write). length (content l).rows ≤ 2 ^ 40) (sym (take-append-le k (writes_of r.name records) r.writes (omega (arith, before)))) (bounded r.name k)
        | inr past ↦
            let n = k - length (writes_of r.name records) in
            let split : content (take k (writes_of r.name records ++ r.writes)) ≡ content_from (content (writes_of r.name records)) (take n r.writes) =
            ap content (take_beyond k (writes_of r.name records) r.writes past) ∙ fold-append content_after (content []) (writes_of r.name records) (take n r.writes) in
            subst (λ (c : Contents). length c.rows ≤ 2 ^ 40) (sym split) (within n)
      ]

      by : (same : Bool) → bytes_eq name r.name ≡ same → length (content (take k (writes_of name more))).rows ≤ 2 ^ 40
      by true e =
          let is : name ≡ r.name = (bytes_eq-Decides name r.name).0 e in
          subst (λ (l : List Write). length (content (take k l)).rows ≤ 2 ^ 40) (sym (ap (λ (m : List ℕ). writes_of m more) is ∙ writes_here)) here
      by false e = subst (λ (l : List Write). length (content (take k l)).rows ≤ 2 ^ 40) (sym (writes_other name e)) (bounded name k)

  -- ---- together

  module _ (names : List (List ℕ)) (tables : List Table) (so_far : HasApplied names records tables) (i : ℕ) (at : StandsAt r.name names i) (before : Table) (read : before ≡ get_or tables i before) where
    pub before_is : before ≡ recovered_table records r.name
    before_is = read ∙ ap (λ (ts : List Table). get_or ts i before) so_far.tables_are ∙ get_or-map (recovered_table records) names i [] before at.within ∙ ap (recovered_table records) at.there

    pub before_few : length before.contents.rows ≤ 2 ^ 40
    before_few =
        let had = writes_of r.name records in
        let all : content (take (length had) had) ≡ before.contents = ap content (take_all (length had) had (omega arith)) ∙ ap (λ (t : Table). t.contents) (sym before_is) in
        subst (λ (c : Contents). length c.rows ≤ 2 ^ 40) all (so_far.bounded r.name (length had))

    pub before_room : count_of records + length r.writes < 2 ^ 63 → before.writes + length r.writes < 2 ^ 64
    before_room room = omega (arith, room, few_writes r.name records, ap (λ (t : Table). t.writes) before_is)

    pub applied_more : AreDistinct names → (now : Table) → ((k : ℕ) → length (content_from before.contents (take k r.writes)).rows ≤ 2 ^ 40) → now ≡ table_after before r.writes → HasApplied names more (set tables i now)
    applied_more distinct now within is = record {
      known = known_more names so_far.known at.known;
      bounded = bounded_more so_far.bounded (subst (λ (t : Table). (k : ℕ) → length (content_from t.contents (take k r.writes)).rows ≤ 2 ^ 40) before_is within);
      tables_are = ap (λ (ts : List Table). set ts i now) so_far.tables_are ∙ set_here names i now distinct at.within at.there (is ∙ ap (λ (t : Table). table_after t r.writes) before_is ∙ table_here);
    }

    pub too_long : (k : ℕ) → 2 ^ 40 < length (content_from before.contents (take k r.writes)).rows → IsTooLong records r
    too_long k many =
        let had = writes_of r.name records in
        let n = length had + k in
        let beyond : n - length had ≡ k = omega arith in
        let split : content (take n (writes_of r.name more)) ≡ content_from before.contents (take k r.writes) =
        ap (λ (l : List Write). content (take n l)) writes_here ∙ ap content (take_beyond n had r.writes (omega arith)) ∙ fold-append content_after (content []) had (take (n - length had) r.writes)
        ∙ ap (λ (m : ℕ). content_from (content had) (take m r.writes)) beyond ∙ ap (λ (t : Table). content_from t.contents (take k r.writes)) (sym before_is) in
        (n, subst (λ (c : Contents). 2 ^ 40 < length c.rows) (sym split) many)

    pub applies_err : (fault : AddFault) (now : Table) (left : List Table) → ReplaysAll before r.writes (Err fault) now → Applies names records r (Err (told_of_add fault)) left
    applies_err add.Full now left refused = (at.known, too_long refused.0 refused.1)
    applies_err add.NoMemory now left refused = tt
