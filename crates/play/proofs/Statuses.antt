-- A run is done where nothing is at fault.
use Rattle.std.proofs.Common.{◌≡◌, inl, inr, ◌∙◌, refl}
use Rattle.run_ends.specs.declared.status.Status.TheVariants as status
use Rattle.play.specs.Complete.{IsComplete}

-- a status that is told by none of the causes
pub complete : IsComplete
complete berths request text after source_was source_now sink_was sink_now status.Done causes done source sink = inl refl
complete berths request text after source_was source_now sink_was sink_now status.Words causes done source sink = let is : status.Words ≡ status.Done = causes.exact ∙ done in absurd cc
complete berths request text after source_was source_now sink_was sink_now (status.Script line why) causes done source sink = let is : status.Script line why ≡ status.Done = causes.exact ∙ done in absurd cc
complete berths request text after source_was source_now sink_was sink_now status.ReadFault causes done source sink = absurd (source (causes.read_fault refl))
complete berths request text after source_was source_now sink_was sink_now status.WriteFault causes done source sink = absurd (sink (causes.write_fault refl))
complete berths request text after source_was source_now sink_was sink_now status.NoMemory causes done source sink = inr refl
