use Rattle.std.proofs.Common.{◌≡◌, Some, sym, ◌∙◌, subst}
use Rattle.script_text.specs.Words.{place_of}
use Rattle.script_text.proofs.Places.{place_below}
use Rattle.script_text.proofs.target.table_in.Goals as goal

pub returns-in-Some-clause-below : goal.returns-in-Some-clause-below
returns-in-Some-clause-below c =
    let found : place_of c.as_slice.result.now c.args.table.now ≡ Some c.in-Some.place = sym c.place_of.ensures ∙ c.in-Some.is in
    place_below c.args.fleet.now.names c.args.table.now c.in-Some.place (subst (λ names. place_of names c.args.table.now ≡ Some c.in-Some.place) c.as_slice.ensures found)
