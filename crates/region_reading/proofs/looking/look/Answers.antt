use Rattle.std.proofs.lemmas.Bool.{false≢true}
use Rattle.region_reading.proofs.Directories.{all_looks, looks_none}
use Rattle.region_reading.proofs.looking.look.Goals as goal

pub returns-in-Some-clause-told : goal.returns-in-Some-clause-told
returns-in-Some-clause-told g c =
    λ region version told behind opened front.
    all_looks region (g.B.Berth.meaning c.args.berth.now).held.region c.args.front.now version behind opened front c.in-Some.place c.look_at.result c.in-Some.ensures.some (c.look_at.ensures.told told)

pub returns-in-None-clause-told : goal.returns-in-None-clause-told
returns-in-None-clause-told g c =
    λ region version told behind opened front.
    looks_none region (g.B.Berth.meaning c.args.berth.now).held.region c.args.front.now version behind opened front (λ place tells. absurd (false≢true (c.in-None.ensures.none place tells)))
