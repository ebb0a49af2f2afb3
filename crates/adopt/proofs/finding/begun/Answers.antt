use Rattle.std.proofs.Common.{ℕ, List, reverse, sym, ap, subst}
use Rattle.adopt.specs.Taken.{KeepsTrack}
use Rattle.adopt.proofs.Looking.{begins_track}
use Rattle.adopt.proofs.finding.begun.Goals as goal

pub invariant_of-result : goal.invariant_of-result
invariant_of-result c =
    subst (λ (names : List (List ℕ)). KeepsTrack names c.args.looked.directory c.args.looked.place c.args.left.items (reverse c.new.result.items) 0) (sym c.of.ensures)
    (begins_track c.args.names.now c.args.looked c.args.left.items (reverse c.new.result.items) c.requires.read c.requires.known c.requires.left (ap reverse c.new.ensures.items))
