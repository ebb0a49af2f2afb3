use Rattle.std.proofs.Common.{◌≡◌}
use Rattle.soak.proofs.Drawn.{next_row, two_words}
use Rattle.soak.proofs.draw.Draw.words.Goals as goal

pub invariant_of-self : goal.invariant_of-self
invariant_of-self c = record { behind = two_words c.args.self.now.seed c.args.self.now.next _ _ _ _ _ c.args.self.now.behind c.next_word-host.ensures c.next_word-code.ensures }

pub returns-clause-row : goal.returns-clause-row
returns-clause-row c = next_row c.args.self.now.seed c.args.self.now.next _ _ _ _ _ c.args.self.now.behind c.next_word-host.ensures c.next_word-code.ensures
