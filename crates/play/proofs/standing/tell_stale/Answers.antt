use Rattle.std.proofs.Common.{rules, subst, Ok, Err}
use Rattle.leaf_model.specs.declared.queries.Query.{Query}
use Rattle.standing_query.specs.Spread.{spread}
use Rattle.player.specs.Asked.{AsksLeaf}
use Rattle.bursts.proofs.Items.{all_on}
use Rattle.play.proofs.OwnItems.{tells_stale}
use Rattle.play.proofs.standing.tell_stale.Goals as goal

pub returns-in_err-told-clause-plays : goal.returns-in_err-told-clause-plays
returns-in_err-told-clause-plays g c =
    let f = c.args.follower.now in
    let ys = c.ask_leaf-line.new.self.holds in
    let asks : AsksLeaf g.B.Berth.meaning c.args.crew.now.fleet.names f.leaf f.table (spread f.standing.query) c.args.crew.now.holds c.ask_leaf-line.result.0 c.ask_leaf-line.result.1 ys =
    subst (λ (q : Query). AsksLeaf g.B.Berth.meaning c.args.crew.now.fleet.names f.leaf f.table q c.args.crew.now.holds c.ask_leaf-line.result.0 c.ask_leaf-line.result.1 ys) c.spread.ensures c.ask_leaf-line.ensures.asks in
    tells_stale g.B.Berth.meaning c.args.crew.now.fleet c.told_behind.new.follower (Err c.in_err-told.field-0.0) c.requires.stale asks c.in_err-told.ensures.told (search rules)

pub returns-in_err-told-clause-all : goal.returns-in_err-told-clause-all
returns-in_err-told-clause-all g c =
    all_on c.args.crew.now.fleet c.ask_leaf-line.new.self.fleet c.args.crew.now.holds c.ask_leaf-line.new.self.holds c.ask_leaf-line.ensures.fleet.0 c.ask_leaf-line.ensures.still c.requires.all

pub returns-clause-plays : goal.returns-clause-plays
returns-clause-plays g c =
    let f = c.args.follower.now in
    let ys = c.ask_leaf-line.new.self.holds in
    let asks : AsksLeaf g.B.Berth.meaning c.args.crew.now.fleet.names f.leaf f.table (spread f.standing.query) c.args.crew.now.holds c.ask_leaf-line.result.0 c.ask_leaf-line.result.1 ys =
    subst (λ (q : Query). AsksLeaf g.B.Berth.meaning c.args.crew.now.fleet.names f.leaf f.table q c.args.crew.now.holds c.ask_leaf-line.result.0 c.ask_leaf-line.result.1 ys) c.spread.ensures c.ask_leaf-line.ensures.asks in
    tells_stale g.B.Berth.meaning c.args.crew.now.fleet c.told_behind.new.follower (Ok c.in_ok-told.told) c.requires.stale asks c.in_ok-told.ensures.told c.two_lines.ensures

pub returns-clause-all : goal.returns-clause-all
returns-clause-all g c =
    all_on c.args.crew.now.fleet c.ask_leaf-line.new.self.fleet c.args.crew.now.holds c.ask_leaf-line.new.self.holds c.ask_leaf-line.ensures.fleet.0 c.ask_leaf-line.ensures.still c.requires.all
