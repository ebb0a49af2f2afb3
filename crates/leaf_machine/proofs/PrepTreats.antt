-- What was owed is settled, then the next table is shut where none waits, and the last is sealed.
use Rattle.std.proofs.Common.{◌≡◌, ℕ, ◌<◌, Bool, false, List, [], ◌∷◌, ◌++◌, length, Option, None, sym, ap, subst, ◌∙◌}
use Rattle.std.specs.Prelude.{◌-◌, if◌then◌else◌, IfErr, IsErr, IsOk, OnErr, OnOk, Result, Ok, Err}
use Rattle.std.proofs.lemmas.Bool.{false≢true}
use Rattle.row_records.specs.Records.{LogRecord}
use Rattle.berth_face.specs.Berth.{Meaning}
use Rattle.table_state.specs.Tables.{Table}
use Rattle.leaf_words.specs.declared.note.Note.{Note}
use Rattle.leaf_words.specs.declared.note.What.TheVariants as what
use Rattle.leaf_steward.specs.Owing.{Owing}
use Rattle.leaf_machine.specs.declared.preparing.PrepareFault.{PrepareFault}
use Rattle.leaf_machine.specs.declared.preparing.PrepareFault.TheVariants.{DiskFault, NoRoom, NoMemory}
use Rattle.leaf_machine.specs.States.{Serving, Shutting, treated}
use Rattle.leaf_machine.specs.Flushes.{OwedNotes}
use Rattle.leaf_machine.specs.Prepares.{PreparingHalts, behind, half, stuck, whole}
use Rattle.leaf_machine.specs.PrepParts.{IsNextTreated, IsPartOfStep, PreparingSettles, PreparingShuts, ShutsNext}
use Rattle.leaf_machine.proofs.PrepSettles.{none_owed}

-- nothing was owed, and so nothing was noted of it
noted_none : (o : Option LogRecord) (by : Owing) (notes : List Note) → o ≡ None → OwedNotes o by notes → notes ≡ []
noted_none o by notes none noted = subst (λ (p : Option LogRecord). OwedNotes p by notes) none noted

-- where no table waits, all that are shut are treated
pub more_open : (x : Shutting) (n : ℕ) → x.waits ≡ false → treated x < n → length x.closed < n
more_open x n open_ more = subst (λ (b : Bool). (if b then length x.closed - 1 else length x.closed) < n) open_ more

-- ---- a leaf whose last table is sealed, or is not

abbrev sealed : {B : Type 0} → Shutting × B → Shutting × B
sealed x = (record { serving = x.0.serving; closed = x.0.closed; waits = false }, x.1)

module _ {B : Type 0} (x y : Shutting × B) where
  pub seal_serving : {T E : Type 0} (r : Result T E) → OnOk r (y ≡ sealed x) → OnErr r (y ≡ x) → y.0.serving ≡ x.0.serving
  seal_serving (Ok v) done failed = ap (λ (z : Shutting × B). z.0.serving) done
  seal_serving (Err e) done failed = ap (λ (z : Shutting × B). z.0.serving) failed

  pub seal_berth : {T E : Type 0} (r : Result T E) → OnOk r (y ≡ sealed x) → OnErr r (y ≡ x) → y.1 ≡ x.1
  seal_berth (Ok v) done failed = ap (λ (z : Shutting × B). z.1) done
  seal_berth (Err e) done failed = ap (λ (z : Shutting × B). z.1) failed

  -- nothing else happens
  pub seal_part : {T E : Type 0} (meaning : B → Meaning) (was : Serving) (old new : List Note) (m : Meaning) (r : Result T E) → OnOk r (y ≡ sealed x) → OnErr r (y ≡ x)
      → IsPartOfStep was x.0.serving old new m (meaning x.1) → IsPartOfStep was y.0.serving old new m (meaning y.1)
  seal_part meaning was old new m r done failed part =
      subst (λ (s : Serving). IsPartOfStep was s old new m (meaning y.1)) (sym (seal_serving r done failed))
      (subst (λ (b : B). IsPartOfStep was x.0.serving old new m (meaning b)) (sym (seal_berth r done failed)) part)

-- the next table was shut
pub shut_ok : {T E : Type 0} (x y : Shutting) (made : List Note) (r : Result T E) → IsOk r → ShutsNext x y made r → PreparingShuts x y made
shut_ok x y made (Ok v) good next = next
shut_ok x y made (Err e) good next = absurd (false≢true good)

module _ (x mid : Shutting) (first : List Note) (settles : PreparingSettles x mid first) where
  -- ---- the next table

  module _ (new made : List Note) (open_ : x.waits ≡ false) (all : new ≡ first ++ made) where
    -- the notes of the next table stand behind those of what was settled
    further : (notes : ℕ → List Note) → made ≡ notes (length mid.closed) → new ≡ first ++ notes (length x.closed)
    further notes is = all ∙ ap (λ (l : List Note). first ++ l) (is ∙ ap (λ (c : List Table). notes (length c)) settles.closed)

    pushed : (y : Shutting) (content : Table) → y.closed ≡ mid.closed ++ content ∷ [] → y.closed ≡ x.closed ++ content ∷ []
    pushed y content is = is ∙ ap (λ (l : List Table). l ++ content ∷ []) settles.closed

    halts_behind : (y : Shutting) → PreparingHalts mid y made → PreparingHalts x y new
    halts_behind y (half f closing n content was owed is closed shut some owner count) =
        let none : f ≡ [] = noted_none mid.serving.owing.log.owed mid.serving.owing f settles.owed owed in
        half first closing n content open_ settles.noted
        (further (λ k. record { table = k; number = closing; what = what.Closed n } ∷ []) (is ∙ ap (λ (l : List Note). l ++ record { table = length mid.closed; number = closing; what = what.Closed n } ∷ []) none))
        (pushed y content closed) shut some (owner ∙ ap (λ (l : List Table). length l) settles.closed) count
    halts_behind y (stuck none some seated owed owner count closed shut) = none_owed mid.serving.owing.log.owed settles.owed some

    pub failed_behind : {T E : Type 0} (y : Shutting) (r : Result T E) → IsErr r → ShutsNext mid y made r → PreparingHalts x y new
    failed_behind y (Ok v) bad next = absurd (false≢true bad)
    failed_behind y (Err e) bad next = halts_behind y next

    module _ {B : Type 0} (y z : Shutting × B) (shuts : PreparingShuts mid y.0 made) (more : length x.closed < length x.serving.seated.tables) where
      both : new ≡ first ++ (record { table = length x.closed; number = shuts.closing; what = what.Closed shuts.count } ∷ record { table = length x.closed; number = shuts.flushing; what = what.Flushed shuts.count } ∷ [])
      both = further (λ k. record { table = k; number = shuts.closing; what = what.Closed shuts.count } ∷ record { table = k; number = shuts.flushing; what = what.Flushed shuts.count } ∷ []) shuts.noted

      closed_now : y.0.closed ≡ x.closed ++ shuts.content ∷ []
      closed_now = pushed y.0 shuts.content shuts.closed

      pub sealed_behind : {T : Type 0} (r : Result T PrepareFault) → OnOk r (z ≡ sealed y) → OnErr r (z ≡ y) → IfErr r (λ e. e ≡ NoMemory) → IsNextTreated x z.0 new r
      sealed_behind (Ok v) done failed fault =
          whole first shuts.closing shuts.flushing shuts.count shuts.content open_ settles.noted both (ap (λ (w : Shutting × B). w.0.closed) done ∙ closed_now) (ap (λ (w : Shutting × B). w.0.waits) done)
          (ap (λ (w : Shutting × B). w.0.serving.owing.log.owed) done ∙ shuts.owed)
      sealed_behind (Err DiskFault) done failed fault = absurd cc
      sealed_behind (Err NoRoom) done failed fault = absurd cc
      sealed_behind (Err NoMemory) done failed fault =
          behind first shuts.closing shuts.flushing shuts.count shuts.content open_ more settles.noted both (ap (λ (w : Shutting × B). w.0.closed) failed ∙ closed_now)
          (ap (λ (w : Shutting × B). w.0.waits) failed ∙ shuts.shut) (ap (λ (w : Shutting × B). w.0.serving.owing.log.owed) failed ∙ shuts.owed)
