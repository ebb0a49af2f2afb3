-- Dictionaries of texts: the distinct texts of a column, in the order of their first occurrence.
use Rattle.std.specs.Prelude.{◌≡◌, ℕ, zero, suc, ◌+◌, ◌*◌, ◌<◌, ◌≤◌, List, [], ◌∷◌, ◌++◌, length, map, drop, fold, slice_index_or, slice_range, bytes_eq, if◌then◌else◌, IsUtf8}
use Rattle.std.specs.Borrow.{Bor}
use Rattle.std.specs.List.{range_with_len, list_any}
use Rattle.dictionaries.specs.Fields.{u32_at}

-- a text: UTF-8 of at most 65,535 bytes
pub record IsText (text : List ℕ) : Type 0 where
  pub utf8 : IsUtf8 text
  pub short : length text ≤ 65535

module _ (extra : List ℕ) where
  -- the number of texts, as the bytes state it
  abbrev pub text_count : ℕ
  text_count = u32_at extra 0

  -- where text k begins in the bytes of all texts: at the end of the one before, or at 0
  abbrev pub text_from : ℕ → ℕ
  text_from zero = 0
  text_from (suc k) = u32_at extra (4 + 4 * k)

  -- the length of the dictionary, as its bytes state it
  abbrev pub texts_size : ℕ
  texts_size = 4 + 4 * text_count + text_from text_count

  -- text k; the bytes of all texts follow the ends
  abbrev pub text_at : ℕ → List ℕ
  text_at k = slice_range (drop (4 + 4 * text_count) extra) (text_from k) (text_from (suc k))

  abbrev pub texts_at : List (List ℕ)
  texts_at = map text_at (range_with_len 0 text_count)

  -- a count, that many ends, none less than the one before, and as many bytes as the last end says
  pub record AreEnds : Type 0 where
    pub counted : 4 ≤ length extra
    pub whole : texts_size ≡ length extra
    pub rising : (k : ℕ) → k < text_count → text_from k ≤ text_from (suc k)

  -- these ends, and each text is valid
  pub record IsDictionary : Type 0 where
    pub ends : AreEnds
    pub texts : (k : ℕ) → k < text_count → IsText (text_at k)

-- ---- the dictionary of a list of texts

-- the text, appended unless it is among the others
abbrev pub with_text : List (List ℕ) → List ℕ → List (List ℕ)
with_text seen text = if list_any (bytes_eq text) seen then seen else seen ++ text ∷ []

-- the distinct texts, in the order of their first occurrence
abbrev pub distinct : List (List ℕ) → List (List ℕ)
distinct texts = fold with_text [] texts

-- the texts that the codes stand for
abbrev pub texts_by : List (List ℕ) → List ℕ → List (List ℕ)
texts_by texts codes = map (λ code. slice_index_or texts code []) codes

-- each is a valid text
abbrev pub AreTexts : List (List ℕ) → Type 0
AreTexts texts = (k : ℕ) → k < length texts → IsText (slice_index_or texts k [])

-- the bytes of borrowed texts
abbrev pub lent : List (Bor (List ℕ)) → List (List ℕ)
lent texts = map (λ (text : Bor (List ℕ)). text.now) texts

-- the old list is a prefix of the new one
abbrev pub AreKept : List (List ℕ) → List (List ℕ) → Type 0
AreKept old new = (k : ℕ) → k < length old → (k < length new) × (slice_index_or new k [] ≡ slice_index_or old k [])
