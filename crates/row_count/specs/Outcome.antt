-- What a count leaves, and which status the text decides.
use Rattle.std.specs.Prelude.{◌≡◌, ◌≢◌, ℕ, List, [], ◌∷◌, ◌++◌, length, Option, Result, Ok, Err, IfSome, codes, decimal}
use Rattle.std.specs.Io.KnownBytes.{Appends, Consumes}
use Rattle.berth_face.specs.Streams.{ReadsAll, TakesAtMost, WritesFront}
use Rattle.row_model.specs.declared.script_fault.Why.TheVariants as why
use Rattle.run_ends.specs.Outcome.{IfScript, IsRefused, TakesText, UnlessCutOff, if_short}
use Rattle.run_ends.specs.Source.{most_taken}
use Rattle.run_ends.specs.declared.status.Status.{Status}
use Rattle.row_count.specs.Count.{IfFault, count_of}
use Rattle.row_count.specs.declared.count.CountError.{CountError}
use Rattle.row_count.specs.declared.count.CountError.TheVariants.{Fault, NoMemory}
use Rattle.row_count.specs.declared.count.LineFault.{LineFault}
use Rattle.row_count.specs.declared.count.Range.{Range}

-- the printed line of a count
abbrev pub count_line : ℕ → List ℕ
count_line n = codes "count " ++ decimal n ++ 10 ∷ []

module _ (range : Range) (before after : Option (List ℕ)) where
  -- the source was read to its end, and this many rows of its text are in the range
  abbrev pub IsCountOf : ℕ → Type 0
  IsCountOf count = (text : List ℕ) × ReadsAll before after text × (count_of range text ≡ Ok count)

  -- the rows were counted, and the line was written
  abbrev pub IsCounted : Option (List ℕ) → Option (List ℕ) → Type 0
  IsCounted was now = (count : ℕ) × IsCountOf count × Appends was now (count_line count)

  -- the rows were counted, and a prefix of the line was written
  abbrev pub IsCutShort : Option (List ℕ) → Option (List ℕ) → Type 0
  IsCutShort was now = (count : ℕ) × IsCountOf count × WritesFront was now (count_line count)

-- ---- which status the text decides

-- the status of a text, by the count of its rows or its first fault
abbrev pub status_of : Result ℕ LineFault → Status
status_of (Ok count) = Status.Done
status_of (Err found) = Status.Script found.line (why.Row found.fault)

-- the status that the text of a count decides
abbrev pub count_verdict : Range → List ℕ → Status
count_verdict range text = if_short text (status_of (count_of range text))

-- ---- a text that is not read to its end, or not counted

-- the status of a count that stopped
abbrev pub error_status : CountError → Status
error_status (Fault found) = Status.Script found.line (why.Row found.fault)
error_status NoMemory = Status.NoMemory

-- of a text `taken` bytes were read, and they have this fault, whatever follows
pub record IsAtFault (range : Range) (before now : Option (List ℕ)) (taken : ℕ) (error : CountError) : Type 0 where
  pub text : List ℕ
  pub bytes : Consumes before now text
  pub size : length text ≡ taken
  pub refused : (more : List ℕ) → IfFault error (λ found. count_of range (text ++ more) ≡ Err found)

-- the status of a count that stopped, and what it implies of the source
pub record CountIsStopped (range : Range) (before after : Option (List ℕ)) (status : Status) : Type 0 where
  pub not_done : status ≢ Status.Done
  pub not_words : status ≢ Status.Words
  pub not_written : status ≢ Status.WriteFault
  pub script : IfScript status (IsRefused (count_verdict range) before after)
  pub exact : IfSome before (λ text. UnlessCutOff status (status ≡ count_verdict range text))
  pub takes : TakesAtMost before after most_taken
  pub text : TakesText status before after
