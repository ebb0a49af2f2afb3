use Rattle.std.proofs.Common.{◌≡◌, true, Option, IsTrue, IfOk, refl, rules, sym, subst}
use Rattle.berth_face.specs.Berth.{Pair}
use Rattle.region_layout.specs.Region.{HasDirectory, reads}
use Rattle.region_reading.specs.declared.looked.Looked.{Looked}
use Rattle.region_reading.specs.Reading.{LooksAt}
use Rattle.adopt.proofs.Looking.{no_directory}
use Rattle.region_inspect.specs.Shows.{Shows}
use Rattle.region_inspect.proofs.inspecting.inspect_version.Goals as goal

pub returns-in-Some-clause-shows : goal.returns-in-Some-clause-shows
returns-in-Some-clause-shows g c =
    λ told opened front.
    let version = c.args.version in
    let region = (g.B.Berth.meaning c.args.berth.now).held.region in
    let same = (c.look.ensures.untouched.stays told).held in
    let told_mid = subst IsTrue (sym c.look.ensures.untouched.time.tells) told in
    let read : reads version ≡ true = search rules in
    let found = subst (λ (o : Option Looked). LooksAt version region o) c.in-Some.is (c.in_ok-looked.ensures.told region version told refl opened front) in
    let has = subst (λ (p : Pair). HasDirectory version p.region c.in-Some.looked.directory) (sym same) found.0 in
    subst (λ (p : Pair). IfOk c.inspect_image.result (Shows p.region)) same (c.inspect_image.ensures.shows told_mid read has)

pub returns-in-None-clause-shows : goal.returns-in-None-clause-shows
returns-in-None-clause-shows g c =
    λ told opened front.
    let version = c.args.version in
    let region = (g.B.Berth.meaning c.args.berth.now).held.region in
    let read : reads version ≡ true = search rules in
    let none = subst (λ (o : Option Looked). LooksAt version region o) c.in-None.is (c.in_ok-looked.ensures.told region version told refl opened front) in
    (version, opened, read, λ images log_end is. no_directory region version opened none is.version is.is.directory is.is.has)
