-- Where a directory stands in its region.
use Rattle.std.proofs.Common.{◌≡◌, inl, inr, ℕ, ◌+◌, ◌≤◌, List, length, sym, ap, ◌∙◌, arith}
use Rattle.std.proofs.lemmas.Bool.{cases_lt}
use Rattle.std.proofs.lemmas.List.{drop_all}
use Rattle.region_layout.specs.declared.directory.Directory.{Directory}
use Rattle.region_layout.specs.Directory.{IsDirectory, columns_of}
use Rattle.region_layout.specs.Region.{HasDirectory, directory_from}
use Rattle.region_layout.proofs.Sizes.{directory_length}
use Rattle.adopt.specs.Taken.{span_bytes, spans_of}
use Rattle.adopt.proofs.Columns.{joined_total, same_all, same_joined}

-- the directory stands in the region
pub directory_inside : (version : ℕ) (region : List ℕ) (d : Directory) → HasDirectory version region d → directory_from region ≤ length region
directory_inside version region d has = elim (cases_lt (length region) (directory_from region)) [
  | inl past ↦ let none = ap length (sym (drop_all (directory_from region) region (omega (arith, past))) ∙ has.bytes) in absurd (omega (arith, none, directory_length d))
  | inr not_past ↦ not_past
]

-- it stands behind the head
pub directory_behind : (place : ℕ) (d : Directory) → IsDirectory place d → 16 + span_bytes (spans_of d) ≡ place
directory_behind place d is = joined_total 16 place (spans_of d) (same_joined 16 place (spans_of d) (columns_of d) (same_all d) is.joined)
