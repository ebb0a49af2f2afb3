-- What the machine says of a step of a drain is a step of the leaf's life.
use Rattle.std.proofs.Common.{◌≡◌, ℕ, suc, ◌-◌, ◌<◌, Bool, true, false, List, [], ◌∷◌, ◌++◌, length, inl, inr, refl, sym, ap, subst, ◌∙◌, arith, Option, None}
use Rattle.std.specs.Prelude.{IsSome, IsTrue, if◌then◌else◌}
use Rattle.std.proofs.lemmas.List.{length-append}
use Rattle.row_records.specs.Records.{LogRecord}
use Rattle.table_state.specs.Tables.{Table}
use Rattle.leaf_words.specs.declared.note.Note.{Note}
use Rattle.leaf_words.specs.declared.note.What.{What}
use Rattle.leaf_words.specs.declared.note.What.TheVariants as what
use Rattle.leaf_machine.specs.Flushes.{OwedNotes}
use Rattle.leaf_machine.specs.States.{Shutting, treated}
use Rattle.leaf_machine.specs.Prepares as prepares
use Rattle.transcript.specs.Life.{Halts, NotesOf, Progress, Starves, Treats}
use Rattle.leaf_moves.specs.Modes.{HasShut, owed_of, progress_of}
use Rattle.leaf_moves.proofs.Modes.{owed_none, owed_some, progress_is}
use Rattle.leaf_moves.proofs.NoteLines.{tells, tells_owed}

-- ---- how many tables are treated

treated_as : (x : Shutting) (b : Bool) → x.waits ≡ b → treated x ≡ (if b then length x.closed - 1 else length x.closed)
treated_as x b e = ap (λ (s : Bool). if s then length x.closed - 1 else length x.closed) e

treated_same : (x y : Shutting) → y.closed ≡ x.closed → y.waits ≡ x.waits → treated y ≡ treated x
treated_same x y closed shut = treated_as y x.waits shut ∙ ap (λ (ts : List Table). if x.waits then length ts - 1 else length ts) closed

-- one table more is shut
one_closed : (x y : Shutting) (content : Table) → y.closed ≡ x.closed ++ content ∷ [] → length y.closed ≡ suc (length x.closed)
one_closed x y content e =
    let count = ap (λ (ts : List Table). length ts) e ∙ length-append x.closed (content ∷ []) in
    omega (arith, count)

pub has_shut : (x : Shutting) → (IsTrue x.waits → 0 < length x.closed) → HasShut x
has_shut x some = by x.waits some
  where
    by : (b : Bool) → (IsTrue b → 0 < length x.closed) → length x.closed ≡ (if b then suc (if b then length x.closed - 1 else length x.closed) else (if b then length x.closed - 1 else length x.closed))
    by true one = let more = one refl in omega (arith, more)
    by false one = refl

-- where none is half, the next one is the first that is open
place_whole : (x : Shutting) → x.waits ≡ false → length x.closed ≡ treated x
place_whole x e = sym (treated_as x false e)

place_half : (x : Shutting) → HasShut x → x.waits ≡ true → length x.closed ≡ suc (treated x)
place_half x shut e = shut ∙ ap (λ (b : Bool). if b then suc (treated x) else treated x) e

-- ---- the words of an entry

-- those of a table that is treated, by whether it waits
by_waits : (x : Shutting) (b : Bool) (n : ℕ) (ns : List Note) → x.waits ≡ b → NotesOf (owed_of x.serving.owing) (treated x) (if b then [] else what.Closed n ∷ what.Flushed n ∷ []) ns
    → NotesOf (owed_of x.serving.owing) (treated x) (if x.waits then [] else what.Closed n ∷ what.Flushed n ∷ []) ns
by_waits x b n ns e h = subst (λ (c : Bool). NotesOf (owed_of x.serving.owing) (treated x) (if c then [] else what.Closed n ∷ what.Flushed n ∷ []) ns) (sym e) h

abbrev closed_word : ℕ → ℕ → List (ℕ × What)
closed_word n place = (place, what.Closed n) ∷ []

abbrev closed_words : ℕ → ℕ → List (ℕ × What)
closed_words n place = (place, what.Closed n) ∷ (place, what.Flushed n) ∷ []

-- ---- each way that a step may go

pub treats : (x y : Shutting) (notes : List Note) → HasShut x → prepares.PreparingTreats x y notes → Treats (progress_of x) notes (progress_of y)
treats x y notes shut (prepares.whole first closing flushing n content open_ owes notes_are closed open_then none) =
    let place = place_whole x open_ in (
      (n, by_waits x false n notes open_ (tells x.serving.owing notes first _ (treated x) (what.Closed n ∷ what.Flushed n ∷ []) owes notes_are (ap (closed_words n) place))),
      progress_is y None (suc (treated x)) false (owed_none y.serving.owing none) (treated_as y false open_then ∙ (one_closed x y content closed ∙ ap suc place)) open_then,
    )
treats x y notes shut (prepares.rest half owes closed open_then none) = (
  (0, by_waits x true 0 notes half (tells_owed x.serving.owing notes (treated x) owes)),
  progress_is y None (suc (treated x)) false (owed_none y.serving.owing none)
      (treated_as y false open_then ∙ (ap (λ (ts : List Table). length ts) closed ∙ place_half x shut half)) open_then,
)

-- one table more is shut, and waits
half_treated : (x y : Shutting) (content : Table) → x.waits ≡ false → y.closed ≡ x.closed ++ content ∷ [] → y.waits ≡ true → treated y ≡ treated x
half_treated x y content open_ closed half = omega (arith, treated_as y true half, one_closed x y content closed, place_whole x open_)

pub halts : (x y : Shutting) (notes : List Note) → prepares.PreparingHalts x y notes → Halts (progress_of x) notes (progress_of y)
halts x y notes (prepares.half first closing n content open_ owes notes_are closed half some owner count) =
    let place = place_whole x open_ in
    inl (
      n,
      open_,
      tells x.serving.owing notes first _ (treated x) (what.Closed n ∷ []) owes notes_are (ap (closed_word n) place),
      progress_is y _ (treated x) true (owed_some y.serving.owing (treated x) n some (owner ∙ place) count) (half_treated x y content open_ closed half) half,
    )
halts x y notes (prepares.stuck none some seated log owner count closed shut) =
    let before = owed_some x.serving.owing x.serving.owing.owner x.serving.owing.count some refl refl in
    let now = owed_some y.serving.owing x.serving.owing.owner x.serving.owing.count (subst (λ (r : Option LogRecord). IsSome r) (sym log) some) owner count in
    inr (_, before, none, progress_is y (owed_of x.serving.owing) (treated x) x.waits (now ∙ sym before) (treated_same x y closed shut) shut)

-- no table more is shut
starves_same : (tables : ℕ) (x y : Shutting) (notes : List Note) → OwedNotes x.serving.owing.log.owed x.serving.owing notes → y.closed ≡ x.closed → y.waits ≡ x.waits → y.serving.owing.log.owed ≡ None
    → Starves tables (progress_of x) notes (progress_of y)
starves_same tables x y notes owes closed shut none =
    inl (tells_owed x.serving.owing notes (treated x) owes, progress_is y None (treated x) x.waits (owed_none y.serving.owing none) (treated_same x y closed shut) shut)

pub starves : (tables : ℕ) (x y : Shutting) (notes : List Note) → length x.serving.seated.tables ≡ tables → prepares.PreparingStarves x y notes → Starves tables (progress_of x) notes (progress_of y)
starves tables x y notes size (prepares.before open_ owes closed open_then none) = starves_same tables x y notes owes closed (open_then ∙ sym open_) none
starves tables x y notes size (prepares.behind first closing flushing n content open_ few owes notes_are closed half none) =
    let place = place_whole x open_ in
    inr (
      n,
      open_,
      omega (arith, few, place, size),
      tells x.serving.owing notes first _ (treated x) (what.Closed n ∷ what.Flushed n ∷ []) owes notes_are (ap (closed_words n) place),
      progress_is y None (treated x) true (owed_none y.serving.owing none) (half_treated x y content open_ closed half) half,
    )
starves tables x y notes size (prepares.still was owes closed half none) = starves_same tables x y notes owes closed (half ∙ sym was) none

-- one table more is treated
pub one_treated : (x y : Shutting) (notes : List Note) → Treats (progress_of x) notes (progress_of y) → treated y ≡ suc (treated x)
one_treated x y notes step = ap (λ (p : Progress). p.treated) step.1
