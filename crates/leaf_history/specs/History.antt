-- Histories of one table: its state after a list of entries, and which entries may follow.
use Rattle.std.specs.Prelude.{◌≡◌, ℕ, ◌+◌, ◌-◌, ◌<◌, ◌≤◌, ◌^◌, max, Bool, true, false, List, [], ◌∷◌, ◌++◌, length, take, drop, fold, if◌then◌else◌, ⊤}
use Rattle.leaf_history.specs.Calls.{Call}
use Rattle.leaf_history.specs.Calls as call
use Rattle.leaf_history.specs.Replies.{EntryReply}
use Rattle.leaf_history.specs.Replies as reply
use Rattle.row_model.specs.declared.rows.Row.{Row}
use Rattle.leaf_model.specs.declared.queries.Query.{Query}
use Rattle.leaf_model.specs.declared.writes.Write.{Write}
use Rattle.leaf_model.specs.declared.writes.Write.TheVariants as write
use Rattle.leaf_model.specs.Content.{Contents, content_from, nothing, kept_count, late_count, removed_count}
use Rattle.leaf_model.specs.Groups.{groups}

-- One turn of a table. Its number is its place in the history, from 1. The steward is caller 0.
pub record Entry : Type 0 where
  pub caller : ℕ
  pub call : Call
  pub reply : EntryReply
  pub clock : ℕ  -- of a steward's entry, the clock of the leaf's berth at the call; no rule looks at it

-- The state of a table. W is its accepted writes: first those that were handed in with `before`, then `writes`. A table
-- with a known base is handed in nothing, so W is `writes`.
pub record HistoryState : Type 0 where
  pub before : Contents  -- what the writes handed in come to
  pub handed_in : ℕ  -- how many those are
  pub writes : List Write  -- the accepted writes since then
  pub live : Bool  -- open
  pub taken : ℕ  -- how many writes the steward has taken
  pub flushed : ℕ  -- how many the disk is known to hold
  pub handed : Bool  -- drained, and not opened since
  pub spare : ℕ  -- columns that it may have beyond one for each row and each cell of its writes; no rule looks at it

-- the length of W
abbrev pub write_count : HistoryState → ℕ
write_count s = s.handed_in + length s.writes

-- the writes of W that were not taken
abbrev pub untaken : HistoryState → List Write
untaken s = drop (s.taken - s.handed_in) s.writes

-- what the table holds
abbrev pub contents_held : HistoryState → Contents
contents_held s = content_from s.before s.writes

-- a shut table of these writes, with so many spare columns; the disk is known to hold the first n writes
abbrev pub base_of : List Write → ℕ → ℕ → HistoryState
base_of writes flushed spare = record {
  before = nothing;
  handed_in = 0;
  writes = writes;
  live = false;
  taken = length writes;
  flushed = flushed;
  handed = false;
  spare = spare;
}

-- a table without a known base begins shut and with no writes
abbrev pub no_base : HistoryState
no_base = base_of [] 0 0

-- one more accepted write
abbrev pub written : HistoryState → Write → HistoryState
written s w = record s { writes = s.writes ++ w ∷ [] }

-- the accepted writes among the first n that came after those handed in
abbrev pub first_writes : HistoryState → ℕ → List Write
first_writes s n = take (n - s.handed_in) s.writes

-- the state once the table is opened again: a table with a known base (`founded`) has the first n of its writes, any
-- other has what is handed in
abbrev pub opened : Bool → HistoryState → ℕ → Contents → HistoryState
opened true s n contents = record s { writes = first_writes s n; live = true; taken = n; flushed = n; handed = false }
opened false s n contents = record { before = contents; handed_in = n; writes = []; live = true; taken = n; flushed = n; handed = false; spare = s.spare }

module _ (founded : Bool) (s : HistoryState) where
  -- the state after a call that was accepted
  abbrev pub changed : Call → HistoryState
  changed (call.Add rows) = written s (write.Add rows)
  changed (call.Expire horizon) = written s (write.Expire horizon)
  changed (call.Keep n) = written s (write.Keep n)
  changed (call.Ask q) = s
  changed call.Take = record s { taken = write_count s }
  changed (call.Flushed n) = record s { flushed = max s.flushed n }
  changed call.Shut = record s { live = false; taken = write_count s }
  changed call.Done = record s { handed = true }
  changed (call.Open n contents) = opened founded s n contents

abbrev pub is_refusal : EntryReply → Bool
is_refusal reply.Shut = true
is_refusal reply.Full = true
is_refusal reply.NoMemory = true
is_refusal _ = false

-- the state after one entry: a refusal changes nothing
abbrev pub after_entry : Bool → HistoryState → Entry → HistoryState
after_entry founded s e = if is_refusal e.reply then s else changed founded s e.call

-- the state after a history
abbrev pub after : Bool → HistoryState → List Entry → HistoryState
after founded s entries = fold (after_entry founded) s entries

module _ (s : HistoryState) where
  -- the replies that an add may have: a table is full where it would pass 2^40 rows
  abbrev pub AddReply : List Row → EntryReply → Type 0
  AddReply rows reply.Shut = s.live ≡ false
  AddReply rows reply.NoMemory = s.live ≡ true
  AddReply rows reply.Full = (s.live ≡ true) × (2 ^ 40 < length (contents_held s).rows + kept_count (contents_held s) rows)
  AddReply rows (reply.Added kept late) = (s.live ≡ true) × (length (contents_held s).rows + kept_count (contents_held s) rows ≤ 2 ^ 40) × (kept ≡ kept_count (contents_held s) rows) × (late ≡ late_count (contents_held s) rows)
  AddReply rows _ = ⊥

  -- the replies that an expiry or a keep may have
  abbrev pub RemoveReply : Write → EntryReply → Type 0
  RemoveReply w reply.Shut = s.live ≡ false
  RemoveReply w reply.NoMemory = s.live ≡ true
  RemoveReply w (reply.Removed n) = (s.live ≡ true) × (n ≡ removed_count (contents_held s) w)
  RemoveReply w _ = ⊥

  -- the replies that a query may have
  abbrev pub AskReply : Query → EntryReply → Type 0
  AskReply q reply.Shut = s.live ≡ false
  AskReply q reply.NoMemory = s.live ≡ true
  AskReply q (reply.Groups gs) = (s.live ≡ true) × (gs ≡ groups q (contents_held s).rows)
  AskReply q _ = ⊥

  -- the reply tells the length of W
  abbrev pub CountReply : EntryReply → Type 0
  CountReply (reply.Counted n) = n ≡ write_count s
  CountReply _ = ⊥

-- a table with a known base is opened with a prefix, of n writes, of its writes, which has each flushed one; after a
-- drain with all of them
pub record MayOpen (s : HistoryState) (n : ℕ) (contents : Contents) : Type 0 where
  pub flushed : s.flushed ≤ n
  pub accepted : n ≤ write_count s
  pub all : s.handed ≡ true → n ≡ write_count s
  pub contents_are : contents ≡ content_from s.before (first_writes s n)

abbrev pub OpenAllowed : Bool → HistoryState → ℕ → Contents → Type 0
OpenAllowed true s n contents = MayOpen s n contents
OpenAllowed false s n contents = ⊤

module _ (founded : Bool) (s : HistoryState) (caller : ℕ) where
  -- the entries that may come next: who may call, and the replies that agree with the state
  abbrev pub Allowed : Call → EntryReply → Type 0
  Allowed (call.Add rows) r = (0 < caller) × AddReply s rows r
  Allowed (call.Expire horizon) r = (0 < caller) × RemoveReply s (write.Expire horizon) r
  Allowed (call.Keep n) r = (0 < caller) × RemoveReply s (write.Keep n) r
  Allowed (call.Ask q) r = (0 < caller) × AskReply s q r
  Allowed call.Take r = (caller ≡ 0) × (s.live ≡ true) × CountReply s r
  Allowed (call.Flushed n) r = (caller ≡ 0) × (n ≤ s.taken) × (r ≡ reply.Noted)
  Allowed call.Shut r = (caller ≡ 0) × (s.live ≡ true) × CountReply s r
  Allowed call.Done r = (caller ≡ 0) × (s.live ≡ false) × (r ≡ reply.Noted)
  Allowed (call.Open n contents) r = (caller ≡ 0) × (s.live ≡ false) × OpenAllowed founded s n contents × (r ≡ reply.Noted)

-- each entry agrees with the state that the entries before it give
abbrev pub LegalFrom : Bool → HistoryState → List Entry → Type 0
LegalFrom founded s [] = ⊤
LegalFrom founded s (e ∷ es) = Allowed founded s e.caller e.call e.reply × LegalFrom founded (after_entry founded s e) es

-- a legal history of a table with a known base
abbrev pub Legal : HistoryState → List Entry → Type 0
Legal base entries = LegalFrom true base entries
