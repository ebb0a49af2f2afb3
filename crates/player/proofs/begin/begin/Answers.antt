use Rattle.std.proofs.Common.{Some, sym, subst, ap}
use Rattle.leaf_steward.specs.Seated.{AreFounded}
use Rattle.leaf_moves.specs.Stage.{IsDown, LeafStands}
use Rattle.leaf_deeds.specs.declared.leaf.OneLeaf.TheVariants as one
use Rattle.player.specs.Beginning.{BeginsWith}
use Rattle.player.proofs.begin.begin.Goals as goal

pub returns-clause-leaves : goal.returns-clause-leaves
returns-clause-leaves g c = (
  Some (one.Down c.new.result),
  c.in-Ok.ensures.items,
  record {
    is = ap (λ x. Some (one.Down x)) c.new.ensures.leaf;
    stands = λ states founded may begins.
        subst (λ x. LeafStands states (IsDown x.0) (g.B.Berth.meaning x.1)) c.new.ensures.leaf
        (c.new.ensures.rests states (subst (λ x. AreFounded x.0) (sym c.new.ensures.leaf) founded) may (subst (λ x. BeginsWith states x.0) (sym c.new.ensures.leaf) begins));
  },
)
