use Rattle.std.proofs.Common.{◌≡◌, ℤ, pos, ◌≤ℤ◌, Some, option_map, option_and_then, sym, ap, subst, ◌∙◌, arith, rules}
use Rattle.std.specs.Int.{w64}
use Rattle.std.proofs.lemmas.Int.{to_z-of_z}
use Rattle.json.specs.Reads.{token_of}
use Rattle.serde_json.specs.Data.{number}
use Rattle.row_json.specs.Row.{not_negative}
use Rattle.row_json.specs.Quick.{data_of}
use Rattle.row_json.proofs.Seen.{not_negative_is}
use Rattle.row_json.proofs.quick.time_in.Goals as goal

pub returns-else-time-lt0 : goal.returns-else-time-lt0
returns-else-time-lt0 c =
    let found = c.in_ok-time-in-Number.ensures in
    let t = c.in_ok-time-in-Number.time in
    let from : pos 0 ≤ℤ t = grind (arith, c.if-time-lt0.false) in
    (number found.0, ap (λ k. data_of (token_of k)) c.in-Number.is ∙ ap (option_map number) found.1, ap (option_and_then not_negative) found.2 ∙ not_negative_is t from ∙ ap Some (sym (to_z-of_z w64 t (search rules))))
