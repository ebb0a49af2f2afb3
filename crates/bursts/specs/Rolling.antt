-- Which lanes of a burst have a rollover, and how the watches go with them.
use Rattle.std.specs.Prelude.{◌≡◌, ℕ, ◌+◌, List, [], ◌∷◌, Bool, true, false}
use Rattle.std.specs.List.{list_any}
use Rattle.script_text.specs.declared.command.Command.{Command}
use Rattle.script_text.specs.declared.command.Command.TheVariants as command
use Rattle.rollover_watch.specs.Watches.{Held}

abbrev pub is_rollover : Command → Bool
is_rollover (command.Rollover percent) = true
is_rollover _ = false

-- one of these commands is a rollover
abbrev pub has_rollover : List Command → Bool
has_rollover commands = list_any is_rollover commands

abbrev pub one_if : Bool → ℕ
one_if true = 1
one_if false = 0

-- the number of lanes with a rollover
abbrev pub rolling : List (List Command) → ℕ
rolling [] = 0
rolling (lane ∷ lanes) = one_if (has_rollover lane) + rolling lanes

-- A lane with a rollover gets all watches, and none is left. Another lane gets none.
abbrev pub IsHandedOver : Bool → List Held → List Held → List Held → Type 0
IsHandedOver true was left its = (its ≡ was) × (left ≡ [])
IsHandedOver false was left its = left ≡ was
