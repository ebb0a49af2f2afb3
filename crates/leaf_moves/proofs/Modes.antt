-- What the log is owed, and how far a leaf has come, as its life has them.
use Rattle.std.proofs.Common.{◌≡◌, ℕ, Bool, refl, ap, ap₂, ◌∙◌, Option, Some, None}
use Rattle.std.specs.Prelude.{IsSome}
use Rattle.row_records.specs.Records.{LogRecord}
use Rattle.leaf_steward.specs.Owing.{Owing}
use Rattle.leaf_machine.specs.States.{Shutting, treated}
use Rattle.transcript.specs.Life.{Owed, Progress}
use Rattle.leaf_moves.specs.Modes.{owed_as, owed_of, progress_of}

pub owed_none : (o : Owing) → o.log.owed ≡ None → owed_of o ≡ None
owed_none o none = ap (λ (r : Option LogRecord). owed_as o r) none

pub none_owed : (o : Owing) → owed_of o ≡ None → o.log.owed ≡ None
none_owed o none = by o.log.owed none
  where
    by : (r : Option LogRecord) → owed_as o r ≡ None → r ≡ None
    by None e = refl
    by (Some r) e = cc

pub owed_some : (o : Owing) (table count : ℕ) → IsSome o.log.owed → o.owner ≡ table → o.count ≡ count → owed_of o ≡ Some (record { table = table; count = count })
owed_some o table count some owner_is count_is = by o.log.owed some
  where
    by : (r : Option LogRecord) → IsSome r → owed_as o r ≡ Some (record { table = table; count = count })
    by None h = absurd cc
    by (Some r) h = ap₂ (λ (t n : ℕ). let w : Owed = record { table = t; count = n } in Some w) owner_is count_is

-- a progress by its parts
pub progress_is : (x : Shutting) (owed : Option Owed) (n : ℕ) (b : Bool) → owed_of x.serving.owing ≡ owed → treated x ≡ n → x.waits ≡ b
    → progress_of x ≡ record { owed = owed; treated = n; waits = b }
progress_is x owed n b owed_is treated_is waits_is =
    ap (λ (o : Option Owed). let p : Progress = record { owed = o; treated = treated x; waits = x.waits } in p) owed_is
    ∙ (ap (λ (k : ℕ). let p : Progress = record { owed = owed; treated = k; waits = x.waits } in p) treated_is
    ∙ ap (λ (c : Bool). let p : Progress = record { owed = owed; treated = n; waits = c } in p) waits_is)
