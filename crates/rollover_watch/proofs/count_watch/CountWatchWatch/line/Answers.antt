use Rattle.std.proofs.Common.{rules, ◌∙◌, sym, subst}
use Rattle.std.specs.Fmt.{decimal}
use Rattle.rollover_watch.specs.Lines.{ArePrintable}
use Rattle.rollover_watch.proofs.Cuts.{four_cut}
use Rattle.rollover_watch.proofs.Decimals.{decimal_prints}
use Rattle.rollover_watch.proofs.count_watch.CountWatchWatch.line.Goals as goal

pub push_all-requires-2 : goal.push_all-requires-2
push_all-requires-2 c = subst ArePrintable (sym (c.as_bytes.ensures.value ∙ c.format.ensures.text)) (decimal_prints c.args.self.now.drained (search rules))

pub push_all-requires-4 : goal.push_all-requires-4
push_all-requires-4 c = subst ArePrintable (sym (c.as_bytes-2.ensures.value ∙ c.format-2.ensures.text)) (decimal_prints c.args.self.now.adopted (search rules))

pub returns : goal.returns
returns c =
    rw (c.push_all-4.ensures, c.push_all-3.ensures, c.push_all-2.ensures, c.push_all.ensures, c.as_bytes.ensures.value, c.format.ensures.text, c.as_bytes-2.ensures.value, c.format-2.ensures.text)
    (four_cut 80 c.args.out.now _ (decimal c.args.self.now.drained) _ (decimal c.args.self.now.adopted))
