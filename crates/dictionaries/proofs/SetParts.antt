-- The two parts of a dictionary of sets, and the members of a set.
use Rattle.std.proofs.Common.{◌≡◌, ℕ, suc, ◌+◌, ◌-◌, ◌<◌, List, [], length, slice_index_or, ◌∙◌, arith}
use Rattle.std.proofs.lemmas.List.FromFn.{length-map-range_with_len, get_or-map-range_with_len}
use Rattle.dictionaries.specs.Dictionary.{text_at, text_count, text_from, texts_at}
use Rattle.dictionaries.specs.Sets.{AreNumbered, AreSetEnds, member_at, set_at, set_in, sets_at, sets_part}
use Rattle.dictionaries.proofs.Ends.{rises}
use Rattle.dictionaries.proofs.Places.{texts_at_place}

-- the members of set k stand among all members
pub member_inside : (part : List ℕ) (k i : ℕ) → AreSetEnds part → k < text_count part → i < text_from part (suc k) - text_from part k → text_from part k + i < text_from part (text_count part)
member_inside part k i ends within inside =
    let last = rises (text_from part) (text_count part) ends.rising (suc k) (omega arith) in
    omega (arith, last, inside)

pub set_count_is : (texts part : List ℕ) (k : ℕ) → length (set_at (texts_at texts) part k) ≡ text_from part (suc k) - text_from part k
set_count_is texts part k = length-map-range_with_len (λ (j : ℕ). slice_index_or (texts_at texts) (member_at part j) []) (text_from part k) (text_from part (suc k) - text_from part k)

pub set_text : (texts part : List ℕ) (k i : ℕ) → AreNumbered texts part → k < text_count part → i < text_from part (suc k) - text_from part k
    → slice_index_or (set_at (texts_at texts) part k) i [] ≡ text_at texts (member_at part (text_from part k + i))
set_text texts part k i numbered within inside =
    get_or-map-range_with_len (λ (j : ℕ). slice_index_or (texts_at texts) (member_at part j) []) (text_from part k) (text_from part (suc k) - text_from part k) i (text_from part k + i) [] inside (omega arith)
    ∙ texts_at_place texts (member_at part (text_from part k + i)) (numbered.members (text_from part k + i) (member_inside part k i numbered.ends within inside))

pub length-sets : (extra : List ℕ) → length (sets_at extra) ≡ text_count (sets_part extra)
length-sets extra = length-map-range_with_len (set_in extra) 0 (text_count (sets_part extra))

pub sets_at_place : (extra : List ℕ) (k : ℕ) → k < text_count (sets_part extra) → slice_index_or (sets_at extra) k [] ≡ set_in extra k
sets_at_place extra k within = get_or-map-range_with_len (set_in extra) 0 (text_count (sets_part extra)) k k [] within (omega arith)
