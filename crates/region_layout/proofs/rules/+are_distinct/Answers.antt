use Rattle.std.proofs.Common.{not, sym, ap, ◌∙◌, arith}
use Rattle.region_layout.proofs.Following.{first_alone, first_again}
use Rattle.region_layout.proofs.rules.+are_distinct.Goals as goal

pub returns-then-not-has_name : goal.returns-then-not-has_name
returns-then-not-has_name t c =
    c.are_distinct.ensures ∙ first_alone c.args.tables.now c.first-item.result c.as_str.result.now (omega (arith, c.in-len1-up.len_at_least)) c.first-item.is c.as_str.ensures (sym c.has_name.ensures ∙ c.if-not-has_name.true)

pub returns-else-not-has_name : goal.returns-else-not-has_name
returns-else-not-has_name t c =
    ap not c.if-not-has_name.false ∙ first_again c.args.tables.now c.first-item.result c.as_str.result.now (omega (arith, c.in-len1-up.len_at_least)) c.first-item.is c.as_str.ensures (sym c.has_name.ensures ∙ c.if-not-has_name.false)
