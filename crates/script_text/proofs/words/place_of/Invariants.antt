use Rattle.std.proofs.Common.{◌≡◌, drop}
use Rattle.std.specs.List.{position_from}
use Rattle.std.specs.Str.{bytes_eq}
use Rattle.script_text.specs.Words.{place_of}
use Rattle.script_text.proofs.words.place_of.Given as goal

abbrev pub invariant-loop-other : goal.invariant-loop-other
invariant-loop-other l =
    (position_from (λ other. bytes_eq other l.name) l.place (drop l.other-index l.names) ≡ place_of l.names l.name)
    × (l.place ≡ l.other-index)
