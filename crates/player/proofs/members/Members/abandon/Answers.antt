use Rattle.std.proofs.Common.{Some, ap, ◌∙◌, sym, subst, arith}
use Rattle.std.specs.Prelude.{is_some}
use Rattle.std.proofs.lemmas.Option.{slice_get_within}
use Rattle.leaf_table.specs.Lists.{lists_in}
use Rattle.leaf_steward.proofs.Seating.{same_at}
use Rattle.leaf_moves.specs.Holds.{HasMet}
use Rattle.player.specs.Stage.{hold_at}
use Rattle.player.proofs.Ending.{holds_berths}
use Rattle.player.proofs.HoldLists.{holds_back, holds_count, leaf_held}
use Rattle.player.proofs.MemberSteps.{member_at}
use Rattle.player.proofs.members.Members.abandon.Goals as goal

pub abandon_all-requires-clause-few : goal.abandon_all-requires-clause-few
abandon_all-requires-clause-few g c = λ κs bounds. omega (arith, c.requires.members.leaves, c.requires.members.few.few)

pub abandon_all-requires-clause-held : goal.abandon_all-requires-clause-held
abandon_all-requires-clause-held g c = λ κs bounds leaf x at.
    let self = c.args.self in
    let one = leaf_held self.tables.now self.leaves.items (lists_in self.rows.items) leaf (c.requires.held leaf) (slice_get_within self.leaves.items leaf x at) in
    ap (λ o. is_some o) (same_at self.leaves.items leaf x (Some one.0) at one.1)

pub abandon_all-requires-clause-may : goal.abandon_all-requires-clause-may
abandon_all-requires-clause-may g c = λ κs bounds leaf x at.
    let self = c.args.self in
    (member_at self leaf x c.requires.members (omega (arith, slice_get_within self.leaves.items leaf (Some x) at, c.requires.members.leaves)) (c.requires.members.each leaf x at)).may

pub abandon_all-requires-clause-room : goal.abandon_all-requires-clause-room
abandon_all-requires-clause-room g c = λ κs bounds. omega (arith, c.requires.room, holds_count 0 c.args.self.tables.now c.args.self.leaves.items (lists_in c.args.self.rows.items))

pub returns-clause-met : goal.returns-clause-met
returns-clause-met g c = λ leaf x at.
    let self = c.args.self in
    let back = holds_back 0 leaf leaf self.tables.now self.leaves.items x (lists_in self.rows.items) (omega arith) at in
    let one = leaf_held self.tables.now self.leaves.items (lists_in self.rows.items) leaf (c.requires.held leaf) (slice_get_within self.leaves.items leaf back.0 back.1) in
    let same = same_at self.leaves.items leaf back.0 (Some one.0) back.1 one.1 in
    subst (HasMet g.B.Berth.meaning) (sym (back.2 ∙ ap (λ o. hold_at leaf self.tables.now (lists_in self.rows.items) o) same)) (c.abandon_all.ensures.met self.tables.now leaf one.0 one.1)

pub returns-clause-berths : goal.returns-clause-berths
returns-clause-berths g c =
    let own = c.abandon_all.ensures.berths in
    (own.0, own.1 ∙ sym (holds_berths 0 c.args.self.tables.now c.args.self.leaves.items (lists_in c.args.self.rows.items)), own.2)
