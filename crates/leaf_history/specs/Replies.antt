-- What a table answers to a call.
use Rattle.std.specs.Prelude.{ℕ, List}
use Rattle.leaf_model.specs.declared.groups.Group.{Group}

pub data EntryReply : Type 0 where
  -- to an add: how many rows were kept, and how many came late
  Added : (kept late : ℕ) → EntryReply
  -- to an expiry or a keep: how many rows went
  Removed : (rows : ℕ) → EntryReply
  -- to a query
  Groups : (groups : List Group) → EntryReply
  -- to a caller, if the table is shut
  Shut : EntryReply
  -- to an add that would pass the most rows of a table
  Full : EntryReply
  -- to a caller, if memory was refused
  NoMemory : EntryReply
  -- to the steward: how many writes the table accepted
  Counted : (writes : ℕ) → EntryReply
  -- to the steward, if there is nothing to tell
  Noted : EntryReply
