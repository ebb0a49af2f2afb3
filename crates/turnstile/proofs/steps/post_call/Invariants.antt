use Rattle.std.proofs.Common.{Some}
use Rattle.turnstile.specs.Objects.{entry_of}
use Rattle.turnstile.proofs.steps.post_call.Given as goal

abbrev pub ghosts-post : goal.ghosts-post
ghosts-post g a = record { entry = Some (entry_of a._id g.C.Clock.now a._call.now.value a._reply.now) }
