-- A watch that leaves at its first event, and one that asks for a halt.
use Rattle.std.specs.Prelude.{ℕ, ◌==◌, if◌then◌else◌, codes}
use Rattle.rollover_watch.specs.declared.event.RollEvent.{RollEvent}
use Rattle.rollover_watch.specs.declared.event.RollEvent.TheVariants as event
use Rattle.rollover_watch.specs.declared.event.Wish.{Wish}
use Rattle.rollover_watch.specs.declared.event.Wish.TheVariants.{Halt, Leave, Stay}
use Rattle.rollover_watch.specs.Watches.{Held}

-- as another watch, but that it leaves at each event
abbrev pub leaving : Held → Held
leaving watch = record watch { wish = λ more event. Leave }

-- a halt at the beginning of the wave with this number, and nothing at any other event
abbrev pub halt_at : ℕ → RollEvent → Wish
halt_at n (event.Wave number of) = if number == n then Halt else Stay
halt_at n _ = Stay

-- as another watch, but that it asks for a halt at that wave, and shows the line `halt`
abbrev pub halting : ℕ → Held → Held
halting n watch = record watch { line = λ more. codes "halt"; wish = λ more event. halt_at n event }
