use Rattle.std.proofs.Common.{List, ap, ◌∙◌, arith}
use Rattle.std.specs.Prelude.{slice_get}
use Rattle.leaf_table.specs.Calls.{SeatView}
use Rattle.player.proofs.Columns.{row_is}
use Rattle.player.proofs.MeetLeaves.{row_spares}
use Rattle.player.proofs.members.Members.spare.Goals as goal

pub returns-then-table-len : goal.returns-then-table-len
returns-then-table-len g c =
    let x = c.args.self.now in
    let v = c.index.result.now in
    row_spares x c.args.table c.least_share.result (λ leaf s at.
    c.least_share.ensures leaf s (ap (λ (seats : List SeatView). slice_get seats leaf) (c.deref.ensures.value ∙ row_is x.rows.items c.args.table v (omega (arith, c.if-table-len.true, c.len.ensures, x.rows.ok.0)) c.index.ensures) ∙ at))
