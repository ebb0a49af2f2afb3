use Rattle.std.proofs.Common.{rules, ◌<◌, sym, ◌∙◌, arith, tests}
use Rattle.dictionaries.proofs.Places.{length-texts}
use Rattle.dictionaries.proofs.SetParts.{length-sets}
use Rattle.column_bytes.proofs.view.is_code.Goals as goal

pub returns-in-Dictionary : goal.returns-in-Dictionary
returns-in-Dictionary c =
    let e = c.from.ensures ∙ c.text_count.ensures ∙ sym (length-texts c.args.extra.now) in
    rw c.in-Dictionary.is (
      λ h. let below : c.args.code < c.from.result = search (rules, tests) in omega arith,
      λ h. let below : c.args.code < c.from.result = omega arith in search (rules, tests),
    )

pub returns-in-Sets : goal.returns-in-Sets
returns-in-Sets c =
    let e = c.from-in-Sets.ensures ∙ c.set_count.ensures ∙ sym (length-sets c.args.extra.now) in
    rw c.in-Sets.is (
      λ h. let below : c.args.code < c.from-in-Sets.result = search (rules, tests) in omega arith,
      λ h. let below : c.args.code < c.from-in-Sets.result = omega arith in search (rules, tests),
    )
