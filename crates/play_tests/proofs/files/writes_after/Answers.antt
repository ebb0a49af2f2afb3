use Rattle.play_tests.proofs.OverFiles.{holds_of}
use Rattle.play_tests.proofs.files.writes_after.Goals as goal

pub writes_left-requires-clause-since : goal.writes_left-requires-clause-since
writes_left-requires-clause-since g c κs within = holds_of _ c.in_ok-left.left c.in-Some.berth c.in-Some.is c.in_ok-left.ensures

pub writes_left-requires-in-Some-clause-since : goal.writes_left-requires-in-Some-clause-since
writes_left-requires-in-Some-clause-since g c κs within = holds_of _ c.in_ok-left.left c.in-Some.berth c.in-Some.is c.in_ok-left.ensures
