-- Worked histories, which the definitions compute.
use Rattle.std.specs.Prelude.{◌≡◌, ℕ, List, [], ◌∷◌, map, pos, None, codes, refl, true}
use Rattle.std.proofs.Common.{lit<, lit≤}
use Rattle.row_model.specs.declared.rows.Row.{Row}
use Rattle.leaf_model.specs.declared.writes.Write.TheVariants as write
use Rattle.leaf_model.specs.declared.queries.Agg.TheVariants.{Count}
use Rattle.leaf_model.specs.declared.queries.Query.{Query}
use Rattle.leaf_model.specs.Content.{content, nothing}
use Rattle.leaf_model.specs.Groups.{groups}
use Rattle.leaf_history.specs.Calls.{Call}
use Rattle.leaf_history.specs.Calls as call
use Rattle.leaf_history.specs.Replies.{EntryReply}
use Rattle.leaf_history.specs.Replies as reply
use Rattle.leaf_history.specs.History.{Entry, Legal, no_base, after, contents_held}

abbrev times : List ℕ → List Row
times ts = map (λ t. record { time = pos t; cells = [] }) ts

abbrev entry : ℕ → Call → EntryReply → Entry
entry caller c r = record { caller = caller; call = c; reply = r; clock = 0 }

abbrev count_all : Query
count_all = record { table = codes "errors"; from = pos 0; to = pos 9; conds = []; keys = []; aggs = Count ∷ []; order = None; limit = 100000 }

-- two callers add a row each, and a count after them sees both
abbrev two_adds : List Entry
two_adds =
    entry 0 (call.Open 0 nothing) reply.Noted ∷
    entry 2 (call.Add (times (1 ∷ []))) (reply.Added 1 0) ∷
    entry 1 (call.Add (times (2 ∷ []))) (reply.Added 1 0) ∷
    entry 1 (call.Ask count_all) (reply.Groups (groups count_all (times (1 ∷ 2 ∷ [])))) ∷ []

two_adds_legal : Legal no_base two_adds
two_adds_legal = (
  (refl, refl, record { flushed = lit≤ tt; accepted = lit≤ tt; all = λ _. refl; contents_are = refl }, refl),
  (
    (lit< tt, (refl, lit≤ tt, refl, refl)),
    (
      (lit< tt, (refl, lit≤ tt, refl, refl)),
      (
        (lit< tt, (refl, refl)),
        tt,
      ),
    ),
  ),
)

-- an add, a drain, a count that is refused, and all rows again
abbrev drained : List Entry
drained =
    entry 0 (call.Open 0 nothing) reply.Noted ∷
    entry 1 (call.Add (times (5 ∷ []))) (reply.Added 1 0) ∷
    entry 0 call.Shut (reply.Counted 1) ∷
    entry 0 (call.Flushed 1) reply.Noted ∷
    entry 1 (call.Ask count_all) reply.Shut ∷
    entry 0 call.Done reply.Noted ∷
    entry 0 (call.Open 1 (content (write.Add (times (5 ∷ [])) ∷ []))) reply.Noted ∷ []

drained_legal : Legal no_base drained
drained_legal = (
  (refl, refl, record { flushed = lit≤ tt; accepted = lit≤ tt; all = λ _. refl; contents_are = refl }, refl),
  (
    (lit< tt, (refl, lit≤ tt, refl, refl)),
    (
      (refl, refl, refl),
      (
        (refl, lit≤ tt, refl),
        (
          (lit< tt, refl),
          (
            (refl, refl, refl),
            (
              (refl, refl, record { flushed = lit≤ tt; accepted = lit≤ tt; all = λ _. refl; contents_are = refl }, refl),
              tt,
            ),
          ),
        ),
      ),
    ),
  ),
)

rows_again : (contents_held (after true no_base drained)).rows ≡ times (5 ∷ [])
rows_again = refl
