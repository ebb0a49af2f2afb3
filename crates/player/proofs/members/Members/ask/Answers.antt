use Rattle.std.proofs.Common.{◌≡◌, ◌<◌, ℕ, length, subst, sym, rules, arith}
use Rattle.std.specs.Prelude.{IfOk, IsErr}
use Rattle.script_text.specs.Commands.{leaf_count}
use Rattle.transcript.specs.Pieces.{place_among}
use Rattle.player.specs.Crew.{HasSeats}
use Rattle.player.specs.Members.{fleet_in, holds_in}
use Rattle.player.specs.Commands.{query_lines}
use Rattle.player.proofs.Asking.{asks_refused, asks_told, members_row}
use Rattle.player.proofs.RowCalls.{seats_at}
use Rattle.player.proofs.members.Members.ask.Goals as goal

pub ask_row-requires-clause-seats : goal.ask_row-requires-clause-seats
ask_row-requires-clause-seats g c = λ κs bounds.
    let x = c.args.self.now in
    let is : c.place_of-table.result ≡ place_among c.args.query.now.table x.names = search rules in
    let within : c.place_of-table.result < length x.names = omega (arith, is, c.requires.table) in
    seats_at x c.place_of-table.result c.requires.members within (subst (HasSeats (holds_in x)) (sym is) c.requires.has)

pub returns-in_err-fanned-clause-members : goal.returns-in_err-fanned-clause-members
returns-in_err-fanned-clause-members g c =
    let x = c.args.self.now in
    let is : c.place_of-table.result ≡ place_among c.args.query.now.table x.names = search rules in
    let within : c.place_of-table.result < length x.names = omega (arith, is, c.requires.table) in
    members_row x c.place_of-table.result c.args.query.now c.ask_row.new.rows c.ask_row.result c.requires.members within (subst (HasSeats (holds_in x)) (sym is) c.requires.has) c.ask_row.ensures.asked

pub returns-in_err-fanned-clause-asks : goal.returns-in_err-fanned-clause-asks
returns-in_err-fanned-clause-asks g c =
    let x = c.args.self.now in
    let is : c.place_of-table.result ≡ place_among c.args.query.now.table x.names = search rules in
    let within : c.place_of-table.result < length x.names = omega (arith, is, c.requires.table) in
    let err : IsErr c.from_residual.result = search rules in
    asks_refused x c.place_of-table.result c.args.query.now c.ask_row.new.rows c.ask_row.result c.requires.members within (subst (HasSeats (holds_in x)) (sym is) c.requires.has) c.ask_row.ensures.asked g.B.Berth.meaning c.from_residual.result is err

pub returns-clause-members : goal.returns-clause-members
returns-clause-members g c =
    let x = c.args.self.now in
    let is : c.place_of-table.result ≡ place_among c.args.query.now.table x.names = search rules in
    let within : c.place_of-table.result < length x.names = omega (arith, is, c.requires.table) in
    members_row x c.place_of-table.result c.args.query.now c.ask_row.new.rows c.ask_row.result c.requires.members within (subst (HasSeats (holds_in x)) (sym is) c.requires.has) c.ask_row.ensures.asked

pub returns-clause-asks : goal.returns-clause-asks
returns-clause-asks g c =
    let x = c.args.self.now in
    let is : c.place_of-table.result ≡ place_among c.args.query.now.table x.names = search rules in
    let within : c.place_of-table.result < length x.names = omega (arith, is, c.requires.table) in
    let count : c.len-leaves.result ≡ leaf_count (fleet_in x) = omega (arith, c.requires.members.leaves, c.len-leaves.ensures, x.leaves.ok.0) in
    let told = subst (λ (n : ℕ). IfOk c.query_lines.result (λ lines. lines.items ≡ query_lines n c.place_of-table.result c.args.query.now c.in_ok-fanned.fanned)) count c.query_lines.ensures in
    asks_told x c.place_of-table.result c.args.query.now c.ask_row.new.rows c.ask_row.result c.requires.members within (subst (HasSeats (holds_in x)) (sym is) c.requires.has) c.ask_row.ensures.asked g.B.Berth.meaning c.query_lines.result is
    c.in_ok-fanned.fanned c.in_ok-fanned.was c.ask_row.ensures.groups told
