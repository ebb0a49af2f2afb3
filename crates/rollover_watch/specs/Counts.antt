-- A watch that counts.
use Rattle.std.specs.Prelude.{ℕ, Bool, List, [], ◌∷◌, ◌++◌, None, codes, decimal}
use Rattle.rollover_watch.specs.declared.event.RollEvent.{RollEvent}
use Rattle.rollover_watch.specs.declared.event.Wish.TheVariants.{Stay}
use Rattle.rollover_watch.specs.Watches.{Held, is_adopted, is_drained, raised}

-- a count after these events
abbrev pub raised_by : (RollEvent → Bool) → ℕ → List RollEvent → ℕ
raised_by counts count [] = count
raised_by counts count (e ∷ es) = raised_by counts (raised (counts e) count) es

-- the meaning of a watch that stays, keeps no events, and shows both counts
abbrev pub counted : ℕ → ℕ → Held
counted drained adopted = record {
  line = λ more. codes "drained " ++ (decimal (raised_by is_drained drained more) ++ (codes " adopted " ++ decimal (raised_by is_adopted adopted more)));
  drained = drained;
  adopted = adopted;
  events = None;
  wish = λ more event. Stay;
}
