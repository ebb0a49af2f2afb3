-- Which writes a sound log has of each name, and which writes a table may be made of.
use Rattle.std.specs.Prelude.{◌≡◌, ℕ, ◌≤◌, ◌^◌, List, length, take}
use Rattle.leaf_model.specs.declared.writes.Write.{Write}
use Rattle.leaf_model.specs.Content.{content}
use Rattle.disk_backup.specs.Logs.{IsSound, writes_of}

-- a table has at most 2^40 rows after any prefix of the writes
abbrev pub HasFewRows : List Write → Type 0
HasFewRows writes = (k : ℕ) → length (content (take k writes)).rows ≤ 2 ^ 40

-- the disk's log is sound, and has these writes of each name
pub record HasSoundLog (writes : List ℕ → List Write) (disk : List ℕ) : Type 0 where
  pub sound : IsSound disk
  pub each : (name : List ℕ) → writes_of name sound.0 ≡ writes name
