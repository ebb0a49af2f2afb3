-- What makes texts a set.
use Rattle.std.specs.Prelude.{◌≡◌, ℕ, ◌-◌, ◌<◌, Bool, true, ◌&&◌, List, [], ◌∷◌, length, nat_le, slice_index_or}
use Rattle.std.specs.Ordering.{nat_cmp, is_lt}
use Rattle.std.specs.Cmp.Lexicographic.{slice_cmp}
use Rattle.std.specs.declared.cmp.Ordering.TheVariants.{Less}
use Rattle.row_model.specs.Values.{bytes_in}

-- text i is greater than text i - 1
abbrev pub GoesUp : List (List ℕ) → ℕ → Type 0
GoesUp texts i = 0 < i → slice_cmp nat_cmp (slice_index_or texts (i - 1) []) (slice_index_or texts i []) ≡ Less

-- ---- the test

-- each text is greater than the one before
abbrev pub do_ascend : List (List ℕ) → Bool
do_ascend [] = true
do_ascend (t ∷ []) = true
do_ascend (t ∷ u ∷ us) = is_lt (slice_cmp nat_cmp t u) && do_ascend (u ∷ us)

-- whether texts of UTF-8 are a set
abbrev pub is_set : List (List ℕ) → Bool
is_set texts = nat_le (length texts) 1024 && (do_ascend texts && nat_le (bytes_in texts) 65535)
