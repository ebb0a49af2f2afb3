-- The texts of a dictionary, place by place.
use Rattle.std.proofs.Common.{◌≡◌, ℕ, ◌<◌, List, [], length, slice_index_or, arith}
use Rattle.std.proofs.lemmas.List.FromFn.{length-map-range_with_len, get_or-map-range_with_len}
use Rattle.dictionaries.specs.Dictionary.{text_count, text_at, texts_at}

pub length-texts : (extra : List ℕ) → length (texts_at extra) ≡ text_count extra
length-texts extra = length-map-range_with_len (text_at extra) 0 (text_count extra)

pub texts_at_place : (extra : List ℕ) (k : ℕ) → k < text_count extra → slice_index_or (texts_at extra) k [] ≡ text_at extra k
texts_at_place extra k within = get_or-map-range_with_len (text_at extra) 0 (text_count extra) k k [] within (omega arith)
