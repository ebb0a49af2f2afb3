use Rattle.std.proofs.Common.{Result, Vec, Global, subst}
use Rattle.std.specs.Prelude.{IfOk}
use Rattle.std.specs.Option.{option_to_list}
use Rattle.std.specs.declared.alloc.AllocError.{AllocError}
use Rattle.printed_lines.specs.declared.line.Line.{Line}
use Rattle.player.specs.Lines.{AreJoined}
use Rattle.player.proofs.restarts.Restarts.restart.Goals as goal

pub returns-clause-done : goal.returns-clause-done
returns-clause-done g c =
    let answered = c.act-more.result in (
      answered.1,
      c.requires.may.deeds.does _ _ c.args.leaf c.args.deed answered c.act-more.ensures,
      subst (λ (o : Result (Vec Line Global) AllocError). IfOk c.joined.result (λ lines. AreJoined o (option_to_list c.args.head) answered.1 lines.items)) c.replace-lines.ensures.value c.joined.ensures,
    )
