-- Dictionaries of sets: a dictionary of texts, then a count, ends and members. A member is the index of a text.
use Rattle.std.specs.Prelude.{◌≡◌, ℕ, suc, ◌+◌, ◌-◌, ◌*◌, ◌<◌, ◌≤◌, List, [], ◌∷◌, ◌++◌, length, map, take, drop, slice_index, slice_index_or, Vec}
use Rattle.byteorder.specs.Endian.{little_bytes}
use Rattle.std.specs.declared.alloc.Global.{Global}
use Rattle.std.specs.List.{range_with_len}
use Rattle.row_model.specs.Values.{IsSet}
use Rattle.dictionaries.specs.Fields.{u32_at}
use Rattle.dictionaries.specs.Dictionary.{texts_size, AreTexts, IsDictionary, text_count, text_from, texts_at, texts_by}

-- member j: the index of a text
abbrev pub member_at : List ℕ → ℕ → ℕ
member_at part j = u32_at part (4 + 4 * text_count part + 4 * j)

-- the texts of set k: its members run from the end of the set before, or from 0, to its own end
abbrev pub set_at : List (List ℕ) → List ℕ → ℕ → List (List ℕ)
set_at texts part k = map (λ j. slice_index_or texts (member_at part j) []) (range_with_len (text_from part k) (text_from part (suc k) - text_from part k))

-- a count, that many ends, none less than the one before, and as many members as the last end says; nothing follows
pub record AreSetEnds (part : List ℕ) : Type 0 where
  pub counted : 4 ≤ length part
  pub whole : 4 + 4 * text_count part + 4 * text_from part (text_count part) ≡ length part
  pub rising : (k : ℕ) → k < text_count part → text_from part k ≤ text_from part (suc k)

-- a dictionary of texts, then such ends; each member is the index of a text
pub record AreNumbered (texts part : List ℕ) : Type 0 where
  pub dictionary : IsDictionary texts
  pub ends : AreSetEnds part
  pub members : (j : ℕ) → j < text_from part (text_count part) → member_at part j < text_count texts

module _ (extra : List ℕ) where
  abbrev pub texts_part : List ℕ
  texts_part = take (texts_size extra) extra

  -- the bytes after it: a count and ends as in a dictionary of texts, but an end counts members, and a member takes four
  -- bytes
  abbrev pub sets_part : List ℕ
  sets_part = drop (texts_size extra) extra

  -- set k of a dictionary of sets
  abbrev pub set_in : ℕ → List (List ℕ)
  set_in k = set_at (texts_at texts_part) sets_part k

  abbrev pub sets_at : List (List (List ℕ))
  sets_at = map set_in (range_with_len 0 (text_count sets_part))

  -- a dictionary of sets: such parts, and the texts of each set are a set
  pub record IsSetDictionary : Type 0 where
    pub numbered : AreNumbered texts_part sets_part
    pub each : (k : ℕ) → k < text_count sets_part → IsSet (set_in k)

-- ---- what is written

-- the items of each vector
abbrev pub numbers_in : List (Vec ℕ Global) → List (List ℕ)
numbers_in sets = map (λ (v : Vec ℕ Global). v.items) sets

-- each number is the index of one of n texts
abbrev pub AreNumbers : ℕ → List ℕ → Type 0
AreNumbers n numbers = (k : ℕ) → k < length numbers → slice_index numbers k < n

-- the sets that the lists of indices stand for
abbrev pub sets_by : List (List ℕ) → List (List ℕ) → List (List (List ℕ))
sets_by texts sets = map (texts_by texts) sets

-- numbers, four bytes each
abbrev pub number_bytes : List ℕ → List ℕ
number_bytes [] = []
number_bytes (n ∷ ns) = little_bytes 4 n ++ number_bytes ns

-- distinct texts, and sets as lists of their indices
pub record AreSetCodes (texts sets : List (List ℕ)) : Type 0 where
  pub each_text : AreTexts texts
  pub numbers : (k : ℕ) → k < length sets → AreNumbers (length texts) (slice_index_or sets k [])
  pub each : (k : ℕ) → k < length sets → IsSet (texts_by texts (slice_index_or sets k []))
