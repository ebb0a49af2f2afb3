-- What the logs of a berth that is ready have: what is flushed of each name, and of one name maybe the record behind
-- that too.
use Rattle.std.proofs.Common.{◌≡◌, ℕ, Bool, true, false, List, [], ◌++◌, length, take, drop, Some, refl, sym, ap, subst, ◌∙◌, arith, inl, inr}
use Rattle.std.specs.Prelude.{◌⊎◌, if◌then◌else◌, bytes_eq}
use Rattle.std.proofs.lemmas.Bool.{false≢true}
use Rattle.std.proofs.lemmas.List.{take_all, take-append-drop, length-take-le}
use Rattle.std.proofs.lemmas.Slice.Eq.{bytes_eq-Decides}
use Rattle.leaf_model.specs.declared.writes.Write.{Write}
use Rattle.leaf_history.specs.History.{HistoryState}
use Rattle.berth_face.specs.Berth.{Pair}
use Rattle.row_records.specs.Records.{LogRecord, new_record}
use Rattle.disk_backup.specs.Logs.{writes_of}
use Rattle.disk_backup.specs.Settling.{with_writes}
use Rattle.disk_backup.specs.SoundLogs.{HasSoundLog}
use Rattle.crash_moments.specs.Left.{NamedStates, Left}
use Rattle.crash_moments.specs.Base.{HasWritesOf, IsBaseOf, IsFixed, HasTwoLengths, PairsMayBegin}

-- the flushed writes of each name
abbrev pub least_of : NamedStates → List ℕ → List Write
least_of base name = take (base name).flushed (base name).writes

-- the record behind those of one name
abbrev pub next_of : NamedStates → List ℕ → LogRecord
next_of base but = new_record but (drop (base but).flushed (base but).writes)

-- each log has what is flushed of this name or all, and of each other name all is flushed
pub record OneVaries (may : Pair → Type 0) (base : NamedStates) (but : List ℕ) : Type 0 where
  pub two : HasTwoLengths may but (base but)
  pub rest : (name : List ℕ) → bytes_eq name but ≡ false → (base name).flushed ≡ length (base name).writes

fixed_all : (may : Pair → Type 0) (name : List ℕ) (s : HistoryState) → IsBaseOf may name s → IsFixed may name → s.flushed ≡ length s.writes
fixed_all may name s is fixed = is.least.4 ∙ fixed is.least.0 is.longest.0 is.least.1 s.writes is.least.2 is.longest.1 is.least.3 is.longest.2

fixed_two : (may : Pair → Type 0) (name : List ℕ) (s : HistoryState) → IsBaseOf may name s → IsFixed may name → HasTwoLengths may name s
fixed_two may name s is fixed = λ p u left has. inr (fixed p is.longest.0 u s.writes left is.longest.1 has is.longest.2)

-- where none varies, any name will do
pub one_varies : (reads : ℕ → Bool) (may : Pair → Type 0) (now : Pair) (base : NamedStates) → PairsMayBegin reads may now base → (but : List ℕ) × OneVaries may base but
one_varies reads may now base begins = elim begins.one_open [
  | inl all ↦ ([], record { two = fixed_two may [] (base []) (begins.base_is []) (all []); rest = λ name differs. fixed_all may name (base name) (begins.base_is name) (all name) })
  | inr one ↦ (
    one.0,
    record {
      two = one.1;
      rest = λ name differs. fixed_all may name (base name) (begins.base_is name) (one.2 name (λ same. false≢true (sym differs ∙ (bytes_eq-Decides name one.0).1 same)));
    },
  )
]

-- what holds of one name, and of each that is not that one
by_but : (P : List ℕ → Type 0) (but name : List ℕ) → P but → (bytes_eq name but ≡ false → P name) → P name
by_but P but name here others = by (bytes_eq name but) refl
  where
    by : (same : Bool) → bytes_eq name but ≡ same → P name
    by true e = subst P (sym ((bytes_eq-Decides name but).0 e)) here
    by false e = others e

-- with the next record there is all of each name
pub most_is : (may : Pair → Type 0) (base : NamedStates) (but name : List ℕ) → OneVaries may base but → with_writes (Some (next_of base but)) (least_of base) name ≡ (base name).writes
most_is may base but name varies = by (bytes_eq name but) refl
  where
    by : (same : Bool) → bytes_eq name but ≡ same → (if same then least_of base name ++ drop (base but).flushed (base but).writes else least_of base name) ≡ (base name).writes
    by true e =
        subst (λ n. least_of base name ++ drop (base n).flushed (base n).writes ≡ (base name).writes) ((bytes_eq-Decides name but).0 e) (take-append-drop (base name).flushed (base name).writes)
    by false e = take_all (base name).flushed (base name).writes (omega (arith, varies.rest name e))

module _ (reads : ℕ → Bool) (may : Pair → Type 0) (base : NamedStates) (but : List ℕ) (p : Pair) (varies : OneVaries may base but) (l : Left reads base p) where
  has_least : (l.front but).0 ≡ (base but).flushed → (name : List ℕ) → writes_of name l.sound.0 ≡ least_of base name
  has_least here name =
      let count : (l.front name).0 ≡ (base name).flushed =
      by_but (λ n. (l.front n).0 ≡ (base n).flushed) but name here (λ e. omega (arith, (l.front name).1, (l.front name).2, varies.rest name e)) in
      (l.front name).3 ∙ ap (λ n. take n (base name).writes) count

  has_most : (l.front but).0 ≡ length (base but).writes → (name : List ℕ) → writes_of name l.sound.0 ≡ with_writes (Some (next_of base but)) (least_of base) name
  has_most here name =
      let count : (l.front name).0 ≡ length (base name).writes =
      by_but (λ n. (l.front n).0 ≡ length (base n).writes) but name here (λ e. omega (arith, (l.front name).1, (l.front name).2, varies.rest name e)) in
      (l.front name).3 ∙ take_all (l.front name).0 (base name).writes (omega (arith, count)) ∙ sym (most_is may base but name varies)

  sound : (writes : List ℕ → List Write) → ((name : List ℕ) → writes_of name l.sound.0 ≡ writes name) → HasSoundLog writes p.disk
  sound writes each = record { sound = l.sound; each = each }

  -- the log of such a pair
  pub log_is : may p → HasSoundLog (least_of base) p.disk ⊎ HasSoundLog (with_writes (Some (next_of base but)) (least_of base)) p.disk
  log_is left =
      let has : HasWritesOf p.disk but (writes_of but l.sound.0) = (l.sound.0, l.sound.1, l.sound.2, refl) in
      let long : length (writes_of but l.sound.0) ≡ (l.front but).0 = ap (λ (ws : List Write). length ws) (l.front but).3 ∙ length-take-le (l.front but).0 (base but).writes (l.front but).1 in
      elim (varies.two p (writes_of but l.sound.0) left has) [
        | inl e ↦ inl (sound (least_of base) (has_least (sym long ∙ e)))
        | inr e ↦ inr (sound (with_writes (Some (next_of base but)) (least_of base)) (has_most (sym long ∙ e)))
      ]
