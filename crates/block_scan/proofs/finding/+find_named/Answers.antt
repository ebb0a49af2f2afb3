use Rattle.std.proofs.Common.{◌≡◌, List, ◌∷◌, rules, sym, subst, ◌∙◌}
use Rattle.std.specs.List.{AllByRecursion}
use Rattle.block_scan.specs.declared.reading.ReadColumn.{ReadColumn}
use Rattle.block_scan.specs.Decoded.{IsNamed}
use Rattle.block_scan.specs.Reads.{IsRead}
use Rattle.block_scan.proofs.finding.+find_named.Goals as goal

pub returns-else-not-is_same : goal.returns-else-not-is_same
returns-else-not-is_same t c =
    let whole : c.args.read.now ≡ c.in-Some.first.now ∷ c.in-Some.rest.now = search rules in
    let read = subst (AllByRecursion (IsRead c.args.rows)) whole c.requires in
    subst (λ (l : List ReadColumn). IsNamed c.args.rows c.args.name.now l c.with_one.result) (sym whole)
    (c.with_one.ensures c.args.rows c.args.name.now c.in-Some.rest.now read.0 (sym c.is_same.ensures ∙ c.if-not-is_same.false) c.find_named-others.ensures)
