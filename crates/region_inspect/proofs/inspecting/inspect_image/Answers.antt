use Rattle.std.proofs.Common.{rules, List, sym, subst}
use Rattle.std.specs.Prelude.{IfSome}
use Rattle.std.specs.List.{AllByRecursion, AllZip}
use Rattle.region_layout.specs.declared.directory.TablePlaces.{TablePlaces}
use Rattle.region_inspect.specs.declared.seen.TableLine.{TableLine}
use Rattle.region_inspect.specs.Shows.{ShowsImage}
use Rattle.region_inspect.specs.Inspecting.{HasNone, IsSmallTable, TableIs}
use Rattle.region_inspect.proofs.Images.{all_small, no_image, shows_image}
use Rattle.region_inspect.proofs.inspecting.inspect_image.Goals as goal

pub inspect_tables-requires-after_bounds : goal.inspect_tables-requires-after_bounds
inspect_tables-requires-after_bounds g c κs within =
    subst (AllByRecursion IsSmallTable) (sym c.into_inner.ensures) (all_small c.args.looked.place c.args.looked.directory c.requires.rules)

pub returns-in-Some-clause-shows : goal.returns-in-Some-clause-shows
returns-in-Some-clause-shows g c = λ told read has.
    let region = (g.B.Berth.meaning c.args.berth.now).held.region in
    let d = c.args.looked.directory in
    let each = subst (λ f. IfSome f (λ lines. AllZip (TableIs c.args.version region) c.into_inner.result.items lines.items)) c.in-Some.is (c.in_ok-lines.ensures.some told) in
    let own = subst (λ (ts : List TablePlaces). AllZip (TableIs c.args.version region) ts c.in-Some.lines.items) c.into_inner.ensures each in
    subst (λ (ls : List TableLine). ShowsImage region c.args.version d.log_end ls) (sym c.of.ensures) (shows_image region c.args.version d c.in-Some.lines.items read has own)

pub returns-in-None-clause-shows : goal.returns-in-None-clause-shows
returns-in-None-clause-shows g c = λ told read has.
    let region = (g.B.Berth.meaning c.args.berth.now).held.region in
    let none = c.in_ok-lines.ensures.none told (search rules) in
    (c.args.version, has.head, read, no_image region c.args.version c.args.looked.directory has (subst (HasNone c.args.version region) c.into_inner.ensures none))
