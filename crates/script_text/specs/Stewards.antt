-- The commands of a leaf's steward among the lanes of a burst.
use Rattle.std.specs.Prelude.{ℕ, ◌==◌, List, Bool, true, false, Option, Some, None, is_some}
use Rattle.std.specs.List.{list_any}
use Rattle.std.specs.Option.{option_map_or}
use Rattle.script_text.specs.declared.command.Command.{Command}
use Rattle.script_text.specs.declared.command.Command.TheVariants as command

-- the leaf whose steward gets the command; None for a rollover, which every steward gets
abbrev pub steward_of : Command → Option ℕ
steward_of (command.Flush leaf table) = Some leaf
steward_of (command.Drain leaf stop) = Some leaf
steward_of (command.Kill leaf) = Some leaf
steward_of (command.Start leaf) = Some leaf
steward_of _ = None

-- a steward's command is one of this leaf; a rollover is one of each
abbrev pub is_stewards : ℕ → Command → Bool
is_stewards leaf (command.Rollover percent) = true
is_stewards leaf c = option_map_or (λ number. number == leaf) (steward_of c) false

-- a steward's command is one of some leaf
abbrev pub is_a_stewards : Command → Bool
is_a_stewards (command.Rollover percent) = true
is_a_stewards c = is_some (steward_of c)

-- a lane has a command of the leaf's steward
abbrev pub has_steward : ℕ → List Command → Bool
has_steward leaf lane = list_any (is_stewards leaf) lane

-- a lane has a steward's command
abbrev pub has_stewards : List Command → Bool
has_stewards lane = list_any is_a_stewards lane

-- The command is for a steward for whom one of these lanes has another command. A rollover is for every steward.
abbrev pub is_second : List (List Command) → Command → Bool
is_second lanes (command.Rollover percent) = list_any has_stewards lanes
is_second lanes c = option_map_or (λ leaf. list_any (has_steward leaf) lanes) (steward_of c) false
