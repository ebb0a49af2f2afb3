use Rattle.std.proofs.Common.{◌≡◌, ◌++◌, ◌∷◌, [], ap, sym, ◌∙◌, Ok}
use Rattle.script_text.specs.Bursts.{next_lane}
use Rattle.script_text.proofs.Keeps.{lane_keeps, end_keeps_as}
use Rattle.script_text.proofs.reading.in_lane.Goals as goal

pub returns-in-Ok-clause-is_reading : goal.returns-in-Ok-clause-is_reading
returns-in-Ok-clause-is_reading g c =
    let lanes : c.in_ok-lanes-in-Lane.lanes ≡ c.args.earlier ++ c.args.lane ∷ [] = c.in_ok-lanes-in-Lane.ensures in
    let read : next_lane c.args.line.now.number c.args.script (c.args.earlier ++ c.args.lane ∷ []) c.args.line.now.words.now ≡ Ok c.in-Ok.step =
    ap (λ ls. next_lane c.args.line.now.number c.args.script ls c.args.line.now.words.now) (sym lanes) ∙ c.in-Ok.ensures.exact in
    lane_keeps c.args.line.now.number c.args.fleet.now c.args.script c.args.earlier c.args.lane c.args.line.now.words.now c.in-Ok.step c.requires.reading read

pub returns-in_ok-lanes-in-End-clause-is_reading : goal.returns-in_ok-lanes-in-End-clause-is_reading
returns-in_ok-lanes-in-End-clause-is_reading g c =
    let lanes : c.in_ok-lanes-in-End.lanes ≡ c.args.earlier ++ c.args.lane ∷ [] = c.in_ok-lanes-in-End.ensures in
    end_keeps_as c.args.line.now.number c.args.fleet.now c.args.script c.args.earlier c.args.lane c.in_ok-lanes-in-End.lanes c.args.line.now.words.now c.end_burst.result c.requires.reading lanes c.end_burst.ensures.exact
