-- If nothing fails, a run does what it is asked for.
use Rattle.std.specs.Prelude.{◌≡◌, ◌⊎◌, ◌↔◌, ℕ, List, Option, Some, None, IfSome}
use Rattle.berth_face.specs.Causes.{Rose}
use Rattle.run_ends.specs.Outcome.{IfScript, UnlessCutOff}
use Rattle.run_ends.specs.declared.status.Status.{Status}
use Rattle.play.specs.Outcome.{IsTextRefused, verdict}
use Rattle.run_words.specs.declared.words.Request.{Request}

-- what the clauses `words`, `script`, `read_fault`, `write_fault` and `exact` of `run` say of a status, given the
-- number of berths and the counts of faults of source and sink before and after
pub record HasCauses (berths : ℕ) (request : Option Request) (before after : Option (List ℕ)) (source_was source_now sink_was sink_now : ℕ) (status : Status) : Type 0 where
  pub words : (status ≡ Status.Words) ↔ (request ≡ None)
  pub script : IfScript status (IsTextRefused berths request before after)
  pub read_fault : status ≡ Status.ReadFault → Rose source_was source_now
  pub write_fault : status ≡ Status.WriteFault → Rose sink_was sink_now
  pub exact : IfSome before (λ text. UnlessCutOff status (status ≡ verdict berths request text))

-- If the words are a request, the whole text is in its grammar, and no count of faults of source and sink rose, those
-- clauses leave only the statuses Done and NoMemory.
abbrev pub IsComplete : Type 0
IsComplete = (berths : ℕ) (request : Option Request) (text : List ℕ) (after : Option (List ℕ)) (source_was source_now sink_was sink_now : ℕ) (status : Status)
    → HasCauses berths request (Some text) after source_was source_now sink_was sink_now status
    → verdict berths request text ≡ Status.Done
    → ¬ Rose source_was source_now
    → ¬ Rose sink_was sink_now
    → (status ≡ Status.Done) ⊎ (status ≡ Status.NoMemory)
