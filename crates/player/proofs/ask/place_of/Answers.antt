use Rattle.std.proofs.Common.{◌≡◌, rules, position, Some, None, ap, ◌∙◌, length}
use Rattle.std.specs.Str.{bytes_eq}
use Rattle.player.proofs.NamePlaces.{found_place, no_place}
use Rattle.player.proofs.ask.place_of.Goals as goal

pub returns-in-Some : goal.returns-in-Some
returns-in-Some c =
    let at : position (bytes_eq c.args.name.now) c.args.names.now ≡ Some c.in-Some.place = search rules in
    found_place c.args.name.now c.args.names.now c.in-Some.place at

pub returns-in-None : goal.returns-in-None
returns-in-None c =
    let at : position (bytes_eq c.args.name.now) c.args.names.now ≡ None = search rules in
    ap length c.as_slice.ensures ∙ no_place c.args.name.now c.args.names.now at
