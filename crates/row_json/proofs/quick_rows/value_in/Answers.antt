use Rattle.std.proofs.Common.{Some, option_map, refl, sym, ap, ◌∙◌, arith, rules}
use Rattle.std.specs.Int.{w64}
use Rattle.std.proofs.lemmas.Int.{to_z-of_z}
use Rattle.json.specs.Reads.{token_of}
use Rattle.serde_json.specs.Data.{number, string}
use Rattle.row_model.specs.declared.rows.Value.TheVariants.{Int}
use Rattle.row_json.specs.Quick.{data_of}
use Rattle.row_json.proofs.Placed.{text_means}
use Rattle.row_json.proofs.quick_rows.value_in.Goals as goal

pub returns-in_ok-number-in-Number-clause-exact : goal.returns-in_ok-number-in-Number-clause-exact
returns-in_ok-number-in-Number-clause-exact c =
    let found = c.in_ok-number-in-Number.ensures in
    let z = c.in_ok-number-in-Number.number in
    let same = ap (λ i. Some (Int i)) (sym (to_z-of_z w64 z (search rules))) in
    (number found.0, ap (λ t. data_of (token_of t)) c.in-Number.is ∙ ap (option_map number) found.1, (refl, ap (option_map Int) found.2 ∙ same))

pub returns-in_ok-text-in-String-clause-exact : goal.returns-in_ok-text-in-String-clause-exact
returns-in_ok-text-in-String-clause-exact c =
    let s = c.in-String.text.now in
    (string s, ap (λ t. data_of (token_of t)) c.in-String.is, (refl, text_means s c.in_ok-text-in-String.text c.in_ok-text-in-String.ensures (grind arith)))
