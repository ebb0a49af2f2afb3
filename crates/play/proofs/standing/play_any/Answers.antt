use Rattle.std.proofs.Common.{◌≡◌, ◌+◌, ◌∙◌, ap, length, subst, sym}
use Rattle.std.specs.Prelude.{OnOk, ◌≤◌}
use Rattle.script_text.specs.declared.item.Item.{Item}
use Rattle.script_text.specs.declared.item.Item.TheVariants.{Burst, One}
use Rattle.script_text.specs.declared.order.Part.TheVariants.{Run}
use Rattle.script_text.specs.declared.order.RunOrder.TheVariants.{Declare, Tell}
use Rattle.script_text.specs.Fits.{TellsDeclared, declared_by}
use Rattle.script_text.specs.Orders.{IsOfLeaves}
use Rattle.play.specs.Standing.{MayRun}
use Rattle.play.proofs.AskedLines.{in_any}
use Rattle.play.proofs.OwnItems.{declares, leaves_did_as, none_declared, none_told, own_did_as, own_item, run_may}
use Rattle.play.proofs.standing.play_any.Goals as goal

pub play_one-requires-clause-may : goal.play_one-requires-clause-may
play_one-requires-clause-may g c = λ κs bounds.
    run_may c.args.crew.now.fleet c.in-One.command c.in-Leaves.order (sym c.split.ensures ∙ c.in-Leaves.is) (subst (MayRun c.args.crew.now.fleet) c.in-One.is c.requires.may)

pub returns-in-Leaves-clause-did : goal.returns-in-Leaves-clause-did
returns-in-Leaves-clause-did g c =
    let is = sym c.split.ensures ∙ c.in-Leaves.is in
    leaves_did_as g.B.Berth.meaning c.args.crew.now.fleet c.args.item (One c.in-One.command) c.args.followers.now.list.items c.args.crew.now.holds c.play_one.new.crew.holds _ _ _
    c.in-One.is (subst IsOfLeaves (sym is) tt) (c.play_one.ensures.went c.in-One.command is)

pub returns-in-Leaves-clause-count : goal.returns-in-Leaves-clause-count
returns-in-Leaves-clause-count g c =
    let is = sym c.split.ensures ∙ c.in-Leaves.is in
    in_any c.play_one.result (none_declared c.args.item (One c.in-One.command) (length c.args.followers.now.list.items) c.in-One.is (subst IsOfLeaves (sym is) tt))

pub declare-requires-clause-may : goal.declare-requires-clause-may
declare-requires-clause-may g c = λ κs bounds.
    let is = own_item c.in-One.is c.split.ensures (c.in-Run-Declare.is ∙ ap Run c.in-Run-Declare.field-0-is) in
    subst (MayRun c.args.crew.now.fleet) is c.requires.may

pub declare-requires-clause-few : goal.declare-requires-clause-few
declare-requires-clause-few g c = λ κs bounds.
    let is = own_item c.in-One.is c.split.ensures (c.in-Run-Declare.is ∙ ap Run c.in-Run-Declare.field-0-is) in
    subst (λ (x : Item). length c.args.followers.now.list.items + declared_by x ≤ 16) is c.requires.few

pub tell-requires-clause-there : goal.tell-requires-clause-there
tell-requires-clause-there g c = λ κs bounds.
    let is = own_item c.in-One.is c.split.ensures (c.in-Run-Tell.is ∙ ap Run c.in-Run-Tell.field-0-is) in
    subst (TellsDeclared (length c.args.followers.now.list.items)) is c.requires.told

pub returns-in-Run-Declare-clause-did : goal.returns-in-Run-Declare-clause-did
returns-in-Run-Declare-clause-did g c =
    let is = own_item c.in-One.is c.split.ensures (c.in-Run-Declare.is ∙ ap Run c.in-Run-Declare.field-0-is) in
    let fleet = c.args.crew.now.fleet in
    own_did_as g.B.Berth.meaning fleet c.args.item (Declare c.in-Run-Declare.leaf c.in-Run-Declare.query) c.args.followers.now.list.items c.declare.new.followers.list.items c.args.crew.now.holds c.args.crew.now.holds _ c.declare.result is
    (declares g.B.Berth.meaning fleet c.in-Run-Declare.leaf c.in-Run-Declare.query c.args.followers.now.list.items c.declare.new.followers.list.items c.args.crew.now.holds c.declare.result (subst (MayRun fleet) is c.requires.may) c.declare.ensures.lines c.declare.ensures.declared)

pub returns-in-Run-Declare-clause-count : goal.returns-in-Run-Declare-clause-count
returns-in-Run-Declare-clause-count g c =
    let is = own_item c.in-One.is c.split.ensures (c.in-Run-Declare.is ∙ ap Run c.in-Run-Declare.field-0-is) in
    subst (λ (x : Item). OnOk c.declare.result (length c.declare.new.followers.list.items ≡ length c.args.followers.now.list.items + declared_by x)) (sym is) c.declare.ensures.count

pub returns-in-Run-Tell-clause-did : goal.returns-in-Run-Tell-clause-did
returns-in-Run-Tell-clause-did g c =
    let is = own_item c.in-One.is c.split.ensures (c.in-Run-Tell.is ∙ ap Run c.in-Run-Tell.field-0-is) in
    own_did_as g.B.Berth.meaning c.args.crew.now.fleet c.args.item (Tell c.in-Run-Tell.standing) c.args.followers.now.list.items c.tell.new.followers.list.items c.args.crew.now.holds c.tell.new.crew.holds _ c.tell.result is c.tell.ensures.plays

pub returns-in-Run-Tell-clause-count : goal.returns-in-Run-Tell-clause-count
returns-in-Run-Tell-clause-count g c =
    let is = own_item c.in-One.is c.split.ensures (c.in-Run-Tell.is ∙ ap Run c.in-Run-Tell.field-0-is) in
    in_any c.tell.result (none_told c.args.item c.in-Run-Tell.standing (length c.tell.new.followers.list.items) (length c.args.followers.now.list.items) is c.tell.ensures.count)

pub returns-in-Burst-clause-did : goal.returns-in-Burst-clause-did
returns-in-Burst-clause-did g c =
    leaves_did_as g.B.Berth.meaning c.args.crew.now.fleet c.args.item (Burst c.into_inner.result.items) c.args.followers.now.list.items c.args.crew.now.holds c.play_burst.new.crew.holds _ _ _
    (c.in-Burst.is ∙ ap Burst (sym c.into_inner.ensures)) tt c.play_burst.ensures.went
