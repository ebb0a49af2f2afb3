-- How a count of faults goes on.
use Rattle.std.specs.Prelude.{ℕ, ◌+◌, ◌-◌, ◌^◌, min, Result, Ok, Err}

-- one more, up to the greatest u64
abbrev pub one_more : ℕ → ℕ
one_more n = min (n + 1) (2 ^ 64 - 1)

-- a count of faults after a call: one more if it failed
abbrev pub counted : {T E : Type 0} → Result T E → ℕ → ℕ
counted (Ok value) faults = faults
counted (Err error) faults = one_more faults
