use Rattle.leaf_history.proofs.Histories.{LegalFrom-front, LegalFrom-append, after-append, shut_call, others_keep, counts_stay}
use Rattle.leaf_history.proofs.histories_go_on.Goals as goal

pub returns-clause-fronts : goal.returns-clause-fronts
returns-clause-fronts c = λ founded s xs ys h. LegalFrom-front founded s xs ys h

pub returns-clause-goes_on : goal.returns-clause-goes_on
returns-clause-goes_on c = λ founded s xs ys g h. LegalFrom-append founded s xs ys g h

pub returns-clause-shut : goal.returns-clause-shut
returns-clause-shut c = λ founded s e shut h a. shut_call founded s e.caller e.call e.reply shut h a

pub returns-clause-others : goal.returns-clause-others
returns-clause-others c = λ founded s es l o. others_keep founded s es l o

pub returns-clause-counts : goal.returns-clause-counts
returns-clause-counts c = λ founded s es l is. counts_stay founded s es l is

pub returns-clause-state : goal.returns-clause-state
returns-clause-state c = λ founded s xs ys. after-append founded s xs ys
