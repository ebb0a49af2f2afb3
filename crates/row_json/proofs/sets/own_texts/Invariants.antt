use Rattle.std.proofs.Common.{◌≡◌, ◌++◌, map, string_bytes}
use Rattle.row_json.proofs.sets.own_texts.Given as goal

abbrev pub invariant-loop-string : goal.invariant-loop-string
invariant-loop-string l =
    l.texts.items ++ map string_bytes l.string-iterator ≡ map string_bytes l.fn.strings.keys
