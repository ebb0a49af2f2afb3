-- What the calls of a tail saw, however the histories go on.
use Rattle.std.proofs.Common.{◌≡◌, ℕ, zero, suc, List, [], ◌∷◌, ◌++◌, Option, Some, None, refl, sym, ap, ◌∙◌, subst, inl, inr, ◌⊎◌, append_assoc}
use Rattle.std.specs.Prelude.{slice_get, slice_set, option_and_then}
use Rattle.std.specs.List.{AllByRecursion}
use Rattle.std.proofs.lemmas.List.{append-nil}
use Rattle.row_model.specs.declared.rows.Row.{Row}
use Rattle.leaf_model.specs.declared.queries.Query.{Query}
use Rattle.leaf_model.specs.declared.groups.Group.{Group}
use Rattle.leaf_model.specs.Groups.{groups}
use Rattle.leaf_history.specs.Calls.{Call}
use Rattle.leaf_history.specs.Calls as call
use Rattle.leaf_history.specs.Replies as reply
use Rattle.leaf_history.specs.History.{Entry, HistoryState, AddReply}
use Rattle.turnstile.specs.Seats.{IsSeatOf}
use Rattle.leaf_table.specs.declared.base.TableBase.{TableBase}
use Rattle.leaf_table.specs.declared.replies.Reply.{Reply}
use Rattle.leaf_table.specs.declared.replies.Reply.TheVariants as told
use Rattle.leaf_table.specs.Turns.{Shared}
use Rattle.leaf_table.specs.Lists.{place}
use Rattle.leaf_table.specs.Calls.{SeatView, SameSeat, Answered, IsToldAs, Replied, base_seen, entry_seen, seen_of, state_before}
use Rattle.aggregator.specs.Asks.{Asked}
use Rattle.aggregator.specs.Partial.{SeatsGoOn, bases_in, rows_seen_before}
use Rattle.aggregator.proofs.Replies.{all_over}
use Rattle.tail_picks.specs.Room.{every_row}
use Rattle.tail_picks.specs.Tails.{TryOf, pick_of}
use Rattle.tailer.specs.Calls.{LeafCall, CallAt, CallsOn, IsOverRows, adding, asking_also, calls_of_tries, free_of, is_added}
use Rattle.tailer.proofs.Calling.{before_set, same_some, set_here}

-- ---- which calls a tail makes

abbrev IsOfTail : Call → Type 0
IsOfTail (call.Ask q) = q ≡ every_row
IsOfTail (call.Add rows) = Unit {0}
IsOfTail _ = ⊥

abbrev AreOfTail : List LeafCall → Type 0
AreOfTail cs = AllByRecursion (λ (c : LeafCall). IsOfTail c.call) cs

both_parts : (cs ds : List LeafCall) → AreOfTail cs → AreOfTail ds → AreOfTail (cs ++ ds)
both_parts [] ds all more = more
both_parts (c ∷ cs) ds all more = (all.0, both_parts cs ds all.1 more)

also_of_tail : (leaf : ℕ) (r : Option Reply) → AreOfTail (asking_also leaf r)
also_of_tail leaf None = tt
also_of_tail leaf (Some r) = (refl, tt)

add_of_tail : (rows : List Row) (pick : Option ℕ) (r : Option Reply) → AreOfTail (adding rows pick r)
add_of_tail rows (Some leaf) (Some r) = (tt, tt)
add_of_tail rows (Some leaf) None = tt
add_of_tail rows None r = tt

all_of_tail : (rows : List Row) (ts : List (TryOf Reply)) → AreOfTail (calls_of_tries rows ts)
all_of_tail rows [] = tt
all_of_tail rows (t ∷ ts) =
    let pick = pick_of free_of is_added t in
    let rest = both_parts (asking_also t.second t.two) (adding rows pick t.added) (also_of_tail t.second t.two) (add_of_tail rows pick t.added) in
    (refl, both_parts (asking_also t.second t.two ++ adding rows pick t.added) (calls_of_tries rows ts) rest (all_of_tail rows ts))

-- ---- a seat sees more and more

replied_more : (base : Option TableBase) (v w : SeatView) (c : Call) (x : Reply) → Replied base v c x w → (more : List Entry) × (seen_of w ≡ seen_of v ++ more)
replied_more base v w c x a = let last = entry_seen v.id 0 c a.1 ∷ [] in (a.2.between ++ last, a.2.seen ∙ append_assoc (seen_of v) a.2.between last)

sees_more : (base : Option TableBase) (v w : SeatView) (c : Call) (x : Reply) → Answered base v c x w → (more : List Entry) × (seen_of w ≡ seen_of v ++ more)
sees_more base v w c told.Worn a = ([], ap seen_of a.1 ∙ sym (append-nil (seen_of v)))
sees_more base v w c (told.Added number kept late) a = replied_more base v w c (told.Added number kept late) a
sees_more base v w c (told.Removed number rows) a = replied_more base v w c (told.Removed number rows) a
sees_more base v w c (told.Groups number gs) a = replied_more base v w c (told.Groups number gs) a
sees_more base v w c (told.Shut number) a = replied_more base v w c (told.Shut number) a
sees_more base v w c (told.Full number) a = replied_more base v w c (told.Full number) a
sees_more base v w c (told.NoMemory number) a = replied_more base v w c (told.NoMemory number) a

-- ---- what one call saw

-- a query is over the rows before its entry: the clause over all leaves, of a fleet of this one
asked_over : (shared : Shared) (q : Query) (v w : SeatView) (number : ℕ) (gs : List Group) (entries more : List Entry) → IsSeatOf w shared.site → SameSeat v w
    → entries ≡ seen_of w ++ more → Answered (base_seen shared) v (call.Ask q) (told.Groups number gs) w → gs ≡ groups q (rows_seen_before (base_seen shared) entries number)
asked_over shared q v w number gs entries more seat same is a =
    let fleet : List (List Shared) = (shared ∷ []) ∷ [] in
    let replies : List Reply = told.Groups number gs ∷ [] in
    let asked : Asked q fleet 0 0 (v ∷ []) replies (w ∷ []) = (record { shared = shared; stands = refl; answered = a; seat = seat; same = same }, tt) in
    (all_over q fleet 0 (λ leaf. entries) (v ∷ []) replies (w ∷ []) go asked).0 ∙ ap (groups q) (append-nil (rows_seen_before (base_seen shared) entries number))
  where
    go : (leaf : ℕ) (u : SeatView) → slice_get (w ∷ []) leaf ≡ Some u → (more : List Entry) × (entries ≡ seen_of u ++ more)
    go zero u e = let own : w ≡ u = cc in (more, is ∙ ap (λ (x : SeatView). seen_of x ++ more) own)
    go (suc leaf) u e = absurd cc

-- an add is not answered with groups
no_groups : (s : HistoryState) (rows : List Row) (m n : ℕ) (gs : List Group) (r : reply.EntryReply) → AddReply s rows r → IsToldAs m r (told.Groups n gs) → ⊥
no_groups s rows m n gs (reply.Added kept late) may is = cc
no_groups s rows m n gs reply.Shut may is = cc
no_groups s rows m n gs reply.Full may is = cc
no_groups s rows m n gs reply.NoMemory may is = cc
no_groups s rows m n gs (reply.Groups hs) may is = may
no_groups s rows m n gs (reply.Removed k) may is = may
no_groups s rows m n gs (reply.Counted k) may is = may
no_groups s rows m n gs reply.Noted may is = may

groups_over : (shared : Shared) (c : Call) (v w : SeatView) (number : ℕ) (gs : List Group) (entries more : List Entry) → IsOfTail c → IsSeatOf w shared.site → SameSeat v w
    → entries ≡ seen_of w ++ more → Answered (base_seen shared) v c (told.Groups number gs) w → gs ≡ groups every_row (rows_seen_before (base_seen shared) entries number)
groups_over shared (call.Ask q) v w number gs entries more ours seat same is a =
    asked_over shared q v w number gs entries more seat same is a ∙ ap (λ (p : Query). groups p (rows_seen_before (base_seen shared) entries number)) ours
groups_over shared (call.Add rows) v w number gs entries more ours seat same is a =
    absurd (no_groups (state_before (base_seen shared) v a.2.between) rows _ number gs a.1 a.2.allowed.1 a.3)
groups_over shared (call.Expire horizon) v w number gs entries more ours seat same is a = absurd ours
groups_over shared (call.Keep n) v w number gs entries more ours seat same is a = absurd ours
groups_over shared call.Take v w number gs entries more ours seat same is a = absurd ours
groups_over shared (call.Flushed n) v w number gs entries more ours seat same is a = absurd ours
groups_over shared call.Shut v w number gs entries more ours seat same is a = absurd ours
groups_over shared call.Done v w number gs entries more ours seat same is a = absurd ours
groups_over shared (call.Open n contents) v w number gs entries more ours seat same is a = absurd ours

module _ (fleet : List (List Shared)) (table : ℕ) (histories : ℕ → List Entry) where
  reply_over : (shared : Shared) (leaf : ℕ) (c : Call) (x : Reply) (v w : SeatView) (more : List Entry) → place fleet leaf table ≡ Some shared → IsOfTail c → IsSeatOf w shared.site → SameSeat v w
      → histories leaf ≡ seen_of w ++ more → Answered (base_seen shared) v c x w → IsOverRows (bases_in fleet table) histories (record { leaf = leaf; call = c; reply = x })
  reply_over shared leaf c (told.Groups number gs) v w more stands ours seat same is a =
      groups_over shared c v w number gs (histories leaf) more ours seat same is a
      ∙ ap (λ (t : Option Shared). groups every_row (rows_seen_before (option_and_then base_seen t) (histories leaf) number)) (sym stands)
  reply_over shared leaf c (told.Added number kept late) v w more stands ours seat same is a = tt
  reply_over shared leaf c (told.Removed number rows) v w more stands ours seat same is a = tt
  reply_over shared leaf c (told.Shut number) v w more stands ours seat same is a = tt
  reply_over shared leaf c (told.Full number) v w more stands ours seat same is a = tt
  reply_over shared leaf c (told.NoMemory number) v w more stands ours seat same is a = tt
  reply_over shared leaf c told.Worn v w more stands ours seat same is a = tt

  -- the seat of the call, as it is behind it
  after_call : (vs ws : List SeatView) (c : LeafCall) (h : CallAt fleet table vs c ws) → slice_get ws c.leaf ≡ Some h.after
  after_call vs ws c h = ap (λ (us : List SeatView). slice_get us c.leaf) h.now ∙ set_here vs c.leaf h.before h.after h.was

  call_over : (vs ws : List SeatView) (c : LeafCall) → IsOfTail c.call → CallAt fleet table vs c ws → SeatsGoOn ws histories → IsOverRows (bases_in fleet table) histories c
  call_over vs ws c ours h go =
      let on = go c.leaf h.after (after_call vs ws c h) in
      reply_over h.shared c.leaf c.call c.reply h.before h.after on.0 h.stands ours h.seat h.same on.1 h.answered

  -- what goes on behind a call goes on before it
  earlier : (vs ws : List SeatView) (c : LeafCall) → CallAt fleet table vs c ws → SeatsGoOn ws histories → SeatsGoOn vs histories
  earlier vs ws c h go = λ leaf u is. by leaf u is (before_set vs c.leaf h.after leaf u is)
    where
      by : (leaf : ℕ) (u : SeatView) → slice_get vs leaf ≡ Some u → (leaf ≡ c.leaf) ⊎ (slice_get (slice_set vs c.leaf h.after) leaf ≡ Some u) → (more : List Entry) × (histories leaf ≡ seen_of u ++ more)
      by leaf u is (inl here) =
          let on = go c.leaf h.after (after_call vs ws c h) in
          let more = sees_more (base_seen h.shared) h.before h.after c.call c.reply h.answered in
          let own : h.before ≡ u = same_some (sym h.was ∙ (ap (λ (n : ℕ). slice_get vs n) (sym here) ∙ is)) in
          let whole : histories c.leaf ≡ seen_of h.before ++ (more.0 ++ on.0) = on.1 ∙ (ap (λ (es : List Entry). es ++ on.0) more.1 ∙ append_assoc (seen_of h.before) more.0 on.0) in
          (more.0 ++ on.0, ap histories here ∙ (whole ∙ ap (λ (x : SeatView). seen_of x ++ (more.0 ++ on.0)) own))
      by leaf u is (inr there) = go leaf u (ap (λ (us : List SeatView). slice_get us leaf) h.now ∙ there)

  -- ---- what all calls saw

  calls_over : (vs : List SeatView) (cs : List LeafCall) (ws : List SeatView) → AreOfTail cs → CallsOn fleet table vs cs ws → SeatsGoOn ws histories
      → AllByRecursion (IsOverRows (bases_in fleet table) histories) cs × SeatsGoOn vs histories
  calls_over vs [] ws ours h go = (tt, subst (λ (us : List SeatView). SeatsGoOn us histories) h go)
  calls_over vs (c ∷ cs) ws ours h go =
      let rest = calls_over h.0 cs ws ours.1 h.2 go in
      ((call_over vs h.0 c ours.0 h.1 rest.1, rest.0), earlier vs h.0 c h.1 rest.1)

  pub all_seen : (rows : List Row) (vs ws : List SeatView) (ts : List (TryOf Reply)) → CallsOn fleet table vs (calls_of_tries rows ts) ws → SeatsGoOn ws histories
      → AllByRecursion (IsOverRows (bases_in fleet table) histories) (calls_of_tries rows ts)
  all_seen rows vs ws ts h go = (calls_over vs (calls_of_tries rows ts) ws (all_of_tail rows ts) h go).0
