-- Prefixes of lists and of items.
use Rattle.std.specs.Prelude.{◌≡◌, List, ◌++◌}
use Rattle.std.specs.List.{AllZip}
use Rattle.script_text.specs.declared.command.Command.{Command}
use Rattle.script_text.specs.declared.item.Item.{Item}
use Rattle.script_text.specs.declared.item.Item.TheVariants as item

-- the first list is a prefix of the second
abbrev pub Begins : {X : Type 0} → List X → List X → Type 0
Begins {X} front whole = (rest : List X) × (whole ≡ front ++ rest)

-- the same command; or a burst with a prefix of each lane
abbrev pub BeginsItem : Item → Item → Type 0
BeginsItem (item.One c) (item.One d) = c ≡ d
BeginsItem (item.Burst lanes) (item.Burst wholes) = AllZip (λ (lane whole : List Command). Begins lane whole) lanes wholes
BeginsItem _ _ = ⊥
