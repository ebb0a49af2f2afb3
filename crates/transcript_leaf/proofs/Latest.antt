-- The last entries that are told of a leaf's tables, as its seats have seen them.
use Rattle.std.proofs.Common.{◌≡◌, ◌≢◌, ℕ, ◌==◌, ◌≤◌, Bool, true, false, List, [], ◌∷◌, ◌++◌, length, take, Option, refl, sym, ap, subst, ◌∙◌, arith}
use Rattle.std.specs.Prelude.{if◌then◌else◌}
use Rattle.std.proofs.lemmas.Bool.{eq-eqb, eqb-true}
use Rattle.std.proofs.lemmas.List.{append-nil, append_assoc, length-append, take-append-le, take_all}
use Rattle.std.proofs.lemmas.List.Sums.{fold_push}
use Rattle.berth_face.specs.Berth.{Meaning}
use Rattle.turnstile.specs.Seats.{unused_seat}
use Rattle.leaf_history.specs.History.{Entry, HistoryState, LegalFrom, after}
use Rattle.leaf_history.specs.Laws.{CallersKeep}
use Rattle.leaf_history.proofs.Histories.{LegalFrom-back, after-append, others_keep}
use Rattle.leaf_table.specs.Turns.{Shared, is_founded, start_of}
use Rattle.leaf_table.specs.Calls.{SeatView, SeesShut, base_seen, name_of, seen_of, state_of, state_seen}
use Rattle.leaf_words.specs.declared.note.Note.{Note}
use Rattle.leaf_steward.specs.Seated.{Seated, AtEach}
use Rattle.leaf_steward.specs.Making.{Makes, OneEntry}
use Rattle.leaf_steward.proofs.Keeping.{entry_each}
use Rattle.transcript.specs.Histories.{BaseState}
use Rattle.transcript.specs.Answers.{last_of}
use Rattle.transcript.specs.Transcript.{Known, base_state_of}
use Rattle.leaf_moves.specs.Stage.{Leaf, seated_of, seated_with}
use Rattle.transcript_leaf.specs.Session.{HaveKnownBase, IsNoted}
use Rattle.transcript_leaf.proofs.Lists.{element_at, within}
use Rattle.transcript_leaf.proofs.Standing.{LeafMeets, seats_become}
use Rattle.transcript_leaf.proofs.TableMeets.{HasLearned}
use Rattle.transcript_leaf.proofs.Wearing.{seen_length}

-- ---- no entry yet

pub noted_unused : (place : ℕ) (t : Shared) (v : SeatView) → v ≡ unused_seat t.site 0 1 1024 → IsNoted [] place t v
noted_unused place t v unused = subst (λ (s : SeatView). IsNoted [] place t s) (sym unused) (omega arith, λ shut. refl)

-- ---- one more

chosen : (b c : Bool) (one other : ℕ) → b ≡ c → (if b then one else other) ≡ (if c then one else other)
chosen b c one other e = ap (λ (x : Bool). if x then one else other) e

last_own : (table : ℕ) (notes : List Note) (n : Note) → n.table ≡ table → last_of table (notes ++ n ∷ []) ≡ n.number
last_own table notes n own = fold_push (λ (last : ℕ) (m : Note). if m.table == table then m.number else last) 0 notes n ∙ chosen (n.table == table) true n.number (last_of table notes) (eq-eqb n.table table own)

last_other : (table : ℕ) (notes : List Note) (n : Note) → (n.table == table) ≡ false → last_of table (notes ++ n ∷ []) ≡ last_of table notes
last_other table notes n other = fold_push (λ (last : ℕ) (m : Note). if m.table == table then m.number else last) 0 notes n ∙ chosen (n.table == table) false n.number (last_of table notes) other

-- where that is all that the seat has seen
noted_whole : (notes : List Note) (place : ℕ) (t : Shared) (v : SeatView) → last_of place notes ≡ length (seen_of v) → IsNoted notes place t v
noted_whole notes place t v whole = (
  omega (arith, whole),
  λ shut. ap (λ (es : List Entry). (state_of (base_seen t) es).writes) (take_all (last_of place notes) (seen_of v) (omega (arith, whole))),
)

noted_same : (notes more : List Note) (place : ℕ) (t : Shared) (v : SeatView) → last_of place more ≡ last_of place notes → IsNoted notes place t v → IsNoted more place t v
noted_same notes more place t v same h =
    subst (λ (n : ℕ). (n ≤ length (seen_of v)) × (SeesShut t v → (state_of (base_seen t) (take n (seen_of v))).writes ≡ (state_seen (base_seen t) v).writes)) (sym same) h

apart_eqb : (a b : ℕ) → b ≢ a → (a == b) ≡ false
apart_eqb a b apart = by (a == b) refl
  where
    by : (c : Bool) → (a == b) ≡ c → (a == b) ≡ false
    by true e = absurd (apart (sym (eqb-true a b e)))
    by false e = e

entry_noted : (notes : List Note) (clock : ℕ) (x : Seated) (note : Note) (y : Seated) → OneEntry clock x note y → AtEach (IsNoted notes) x → AtEach (IsNoted (notes ++ note ∷ [])) y
entry_noted notes clock x note y one each =
    entry_each (IsNoted notes) (IsNoted (notes ++ note ∷ [])) clock x note y one
    (λ place t v apart h. noted_same notes (notes ++ note ∷ []) place t v (last_other place notes note (apart_eqb note.table place apart)) h)
    (noted_whole (notes ++ note ∷ []) note.table one.table one.after (last_own note.table notes note refl ∙ (one.number ∙ sym (seen_length one.after))))
    each

-- all entries of a deed
pub noted_made : (notes : List Note) (from to : ℕ) (x : Seated) (made : List Note) (y : Seated) → Makes from to x made y → AtEach (IsNoted notes) x → AtEach (IsNoted (notes ++ made)) y
noted_made notes from to x made y (Makes.none f u a ns b le is same) each =
    subst (λ (l : List Note). AtEach (IsNoted l) y) (sym (ap (λ (l : List Note). notes ++ l) is ∙ append-nil notes)) (subst (AtEach (IsNoted notes)) (sym same) each)
noted_made notes from to x made y (Makes.more f u a ns b clock first rest between le one makes is) each =
    let on = noted_made (notes ++ first ∷ []) clock to between rest y makes (entry_noted notes clock x first between one each) in
    subst (λ (l : List Note). AtEach (IsNoted l) y) (append_assoc notes (first ∷ []) rest ∙ ap (λ (l : List Note). notes ++ l) (sym is)) on

-- ---- a meeting

-- callers write nothing to a shut table
noted_learned : (notes : List Note) (place : ℕ) (t : Shared) (v w : SeatView) (g : BaseState) → is_founded (base_seen t) ≡ g.founded → start_of (base_seen t) ≡ g.base → HasLearned g v w
    → IsNoted notes place t v → IsNoted notes place t w
noted_learned notes place t v w g founded base has h = (
  omega (arith, h.0, ap (λ (es : List Entry). length es) has.seen, length-append (seen_of v) has.more),
  λ shut.
      let same : state_seen (base_seen t) w ≡ state_seen (base_seen t) v = now ∙ keeps.shut (sym keeps.live ∙ (ap (λ (s : HistoryState). s.live) (sym now) ∙ shut)) in
      let was = h.1 (ap (λ (s : HistoryState). s.live) (sym same) ∙ shut) in
      ap (λ (es : List Entry). (state_of (base_seen t) es).writes) (ap (λ (es : List Entry). take (last_of place notes) es) has.seen ∙ take-append-le (last_of place notes) (seen_of v) has.more h.0)
      ∙ (was ∙ ap (λ (s : HistoryState). s.writes) (sym same)),
)
  where
    legal : LegalFrom (is_founded (base_seen t)) (start_of (base_seen t)) (seen_of v ++ has.more)
    legal = subst (λ (es : List Entry). LegalFrom (is_founded (base_seen t)) (start_of (base_seen t)) es) has.seen
        (subst (λ (b : Bool). LegalFrom b (start_of (base_seen t)) (seen_of w)) (sym founded) (subst (λ (s : HistoryState). LegalFrom g.founded s (seen_of w)) (sym base) has.legal))

    keeps : CallersKeep (state_seen (base_seen t) v) (after (is_founded (base_seen t)) (state_seen (base_seen t) v) has.more)
    keeps = others_keep (is_founded (base_seen t)) (state_seen (base_seen t) v) has.more (LegalFrom-back (is_founded (base_seen t)) (start_of (base_seen t)) (seen_of v) has.more legal) has.callers

    now : state_seen (base_seen t) w ≡ after (is_founded (base_seen t)) (state_seen (base_seen t) v) has.more
    now = ap (λ (es : List Entry). state_of (base_seen t) es) has.seen ∙ after-append (is_founded (base_seen t)) (start_of (base_seen t)) (seen_of v) has.more

pub noted_met : (notes : List Note) (known : Option Known) (leaf leaf' : Leaf) (m : Meaning) → HaveKnownBase known (seated_of leaf) → LeafMeets known leaf leaf' m
    → AtEach (IsNoted notes) (seated_of leaf) → AtEach (IsNoted notes) (seated_of leaf')
noted_met notes known leaf leaf' m known_base met each = subst (AtEach (IsNoted notes)) (sym (ap seated_of met.leaf_is ∙ seats_become leaf met.seats)) later
  where
    later : AtEach (IsNoted notes) (seated_with (seated_of leaf) met.seats)
    later place t w at sat =
        let v = element_at (seated_of leaf).seats place (let below = within met.seats place w sat in omega (arith, below, met.count)) in
        let base_state = known_base place t v.0 at v.1 in
        noted_learned notes place t v.0 w (base_state_of known (name_of t)) base_state.0 base_state.1 (met.each place t v.0 w at v.1 sat) (each place t v.0 at v.1)
