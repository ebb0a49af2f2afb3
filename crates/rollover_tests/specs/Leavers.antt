-- Watches that leave, and that ask for a halt.
use Rattle.rollover_watch.specs.declared.event.Wish.TheVariants.{Leave, Halt}
use Rattle.rollover_watch.specs.Watches.{Held}

-- as another watch, but that it leaves at each event
abbrev pub leaving : Held → Held
leaving watch = record watch { wish = λ more event. Leave }

-- as another watch, but that it asks for a halt at each event
abbrev pub halting : Held → Held
halting watch = record watch { wish = λ more event. Halt }
