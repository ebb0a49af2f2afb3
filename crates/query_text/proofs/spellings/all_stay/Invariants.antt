use Rattle.std.proofs.Common.{◌≡◌, drop}
use Rattle.std.specs.List.{list_all}
use Rattle.query_text.specs.Tokens.{goes_on_word}
use Rattle.query_text.proofs.spellings.all_stay.Given as goal

abbrev pub invariant-loop-b : goal.invariant-loop-b
invariant-loop-b l = list_all goes_on_word l.rest ≡ list_all goes_on_word (drop l.b-index l.rest)
