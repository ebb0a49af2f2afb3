-- The head of a region.
use Rattle.std.specs.Prelude.{ℕ, List, ◌∷◌, ◌++◌, length, take, drop, slice_index, if◌then◌else◌, nat_lt, ◌==◌, codes}
use Rattle.std.specs.Int.{w32, from_le_bytes}
use Rattle.leaf_model.specs.Bytes.{u32_bytes, u64_bytes}
use Rattle.region_head.specs.declared.head.Head.{Head}
use Rattle.region_head.specs.declared.head.Head.TheVariants.{NoHead, Closed, Version}

-- the four bytes after the flag and the letters
abbrev pub version_of : List ℕ → ℕ
version_of region = from_le_bytes w32 (take 4 (drop 4 region))

-- what the first 16 bytes say
abbrev pub head_of : List ℕ → Head
head_of region = if nat_lt (length region) 16 then NoHead
    else (if slice_index region 0 == 1 then Version (version_of region) else Closed (slice_index region 0))

-- the 16 bytes of an open head: the flag, three letters, the version, and the place of the directory
abbrev pub head_bytes : ℕ → ℕ → List ℕ
head_bytes version place = 1 ∷ (codes "SCB" ++ u32_bytes version ++ u64_bytes place)
