-- The steps of a drain that may be stopped.
use Rattle.std.specs.Prelude.{◌≡◌, ℕ, ◌+◌, Bool, true, false, Option, Some, None, ⊤}
use Rattle.drain_copy.specs.Draining as draining
use Rattle.leaf_machine.specs.States.{Copying}

-- of the steps that were allowed, if these are counted, `made` are made, and the others are left
abbrev pub AreLeft : Option ℕ → ℕ → Option ℕ → Type 0
AreLeft None made None = ⊤
AreLeft None made (Some left) = ⊥
AreLeft (Some stop) made None = ⊥
AreLeft (Some stop) made (Some left) = made + left ≡ stop

-- one of the steps that were left is taken, or none was left
abbrev pub Spends : Option ℕ → Bool → Option ℕ → Type 0
Spends before true now = AreLeft before 1 now
Spends before false now = before ≡ Some 0

-- the steps that a copy still takes
abbrev pub copy_left : Copying → ℕ
copy_left c = draining.left c.drain
