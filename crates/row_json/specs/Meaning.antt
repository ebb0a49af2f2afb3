-- Which texts are rows, and what each fault means, by the members of the text's object.
use Rattle.std.specs.Prelude.{◌≡◌, ◌≢◌, ◌⊎◌, ℕ, [], ◌∷◌, ◌<◌, ◌≤◌, ◌≤ℤ◌, ℤ, pos, List, length, true, false, Some, None, option_and_then, Contains, IsUtf8}
use Rattle.std.specs.Cmp.Lexicographic.{slice_cmp}
use Rattle.std.specs.List.{AllByRecursion}
use Rattle.std.specs.Ordering.{nat_cmp}
use Rattle.std.specs.declared.cmp.Ordering.TheVariants.{Less}
use Rattle.std.specs.List.Sorted.{IsStrictlySortedBy}
use Rattle.serde_json.specs.Data.{Data, null, string, array, object, Items, no_items, item, Members}
use Rattle.serde_json.specs.Find.{get_member, as_number, as_str, as_object, as_i64}
use Rattle.serde_json.specs.Read.{read}
use Rattle.row_model.specs.Texts.{text_cmp}
use Rattle.row_model.specs.Names.{is_among}
use Rattle.row_model.specs.Values.{bytes_in, time_name}
use Rattle.row_model.specs.declared.rows.Value.{Value}
use Rattle.row_model.specs.declared.rows.Value.TheVariants.{Int, Text, Set}
use Rattle.row_model.specs.declared.rows.Row.{Row}
use Rattle.row_json.specs.Row.{cell_count, is_bad_name, named_cell}
use Rattle.row_model.specs.declared.row_fault.RowFault.{RowFault}
use Rattle.row_model.specs.declared.row_fault.RowFault.TheVariants.{Json, NotObject, NoTime, TooMany, Name, NoMemory}
use Rattle.row_model.specs.declared.row_fault.RowFault.TheVariants as fault

-- the text is this object; of members with the same name the last counts
pub record IsObject (text : List ℕ) (all : Members) : Type 0 where
  pub utf8 : IsUtf8 text
  pub reads : read text ≡ Some (object all)

-- the object has this member
abbrev pub Has : Members → List ℕ → Data → Type 0
Has all name d = get_member name all ≡ Some d

-- the JSON value is this integer, an i64
abbrev pub IsInteger : Data → ℤ → Type 0
IsInteger d z = option_and_then as_i64 (as_number d) ≡ Some z

-- the JSON value is this text, of at most 65,535 bytes
abbrev pub IsTextValue : Data → List ℕ → Type 0
IsTextValue d t = (as_str d ≡ Some t) × (length t ≤ 65535)

-- the items of an array are exactly these texts
abbrev pub AreTexts : Items → List (List ℕ) → Type 0
AreTexts no_items texts = texts ≡ []
AreTexts (item (string t) rest) texts = (others : List (List ℕ)) × (texts ≡ t ∷ others) × AreTexts rest others
AreTexts (item other rest) texts = ⊥

-- the JSON value is an array of at most 1,024 texts; `members` are its distinct texts, ascending, at most 65,535 bytes
-- together
pub record IsSetValue (d : Data) (members : List (List ℕ)) : Type 0 where
  pub items : Items
  pub is : d ≡ array items
  pub texts : List (List ℕ)
  pub are : AreTexts items texts
  pub few : length texts ≤ 1024
  pub ascending : IsStrictlySortedBy text_cmp members
  pub same : (t : List ℕ) → is_among members t ≡ is_among texts t
  pub together : bytes_in members ≤ 65535

-- a cell value is the meaning of the JSON value: an integer, a text or a set
abbrev pub HoldsValue : Data → Value → Type 0
HoldsValue d (Int z) = IsInteger d z
HoldsValue d (Text t) = IsTextValue d t
HoldsValue d (Set members) = IsSetValue d members

-- the member `time` of the object is this integer, at least 0
pub record IsTimeOf (all : Members) (time : ℤ) : Type 0 where
  pub value : Data
  pub has : Has all time_name value
  pub integer : IsInteger value time
  pub not_negative : pos 0 ≤ℤ time

-- the object has a time
abbrev pub HasTime : Members → Type 0
HasTime all = (time : ℤ) × IsTimeOf all time

-- the object has this member, and it is neither `time` nor null
pub record IsOther (all : Members) (name : List ℕ) (d : Data) : Type 0 where
  pub has : Has all name d
  pub other : name ≢ time_name
  pub there : d ≢ null

-- the row of an object: its time, and a cell for each member that is neither `time` nor null, and no other cell
pub record IsRowOf (all : Members) (row : Row) : Type 0 where
  pub time : IsTimeOf all row.time
  pub whole : (name : List ℕ) (d : Data) → IsOther all name d → (v : Value) × Contains row.cells (named_cell name v) × HoldsValue d v
  pub only : AllByRecursion (λ cell. (d : Data) × IsOther all cell.name d × HoldsValue d cell.value) row.cells

-- a row may have this member: a cell may have the name, and the value is null or one that a cell can hold
abbrev pub IsFine : List ℕ → Data → Type 0
IsFine name d = (is_bad_name name ≡ false) × ((d ≡ null) ⊎ ((v : Value) × HoldsValue d v))

-- the fault of a member: its name, or else its value
abbrev pub IsFaultOf : List ℕ → Data → RowFault → Type 0
IsFaultOf name d (Name n) = (n ≡ name) × (is_bad_name name ≡ true)
IsFaultOf name d (fault.Value n) = (n ≡ name) × (is_bad_name name ≡ false) × (d ≢ null) × ((v : Value) → ¬ HoldsValue d v)
IsFaultOf name d other = ⊥

-- the fault of the first member by name that has one
pub record IsFirstFault (all : Members) (found : RowFault) : Type 0 where
  pub name : List ℕ
  pub value : Data
  pub has : Has all name value
  pub other : name ≢ time_name
  pub is : IsFaultOf name value found
  pub first : (k : List ℕ) (d : Data) → Has all k d → k ≢ time_name → slice_cmp nat_cmp k name ≡ Less → IsFine k d

-- the object has a time and at most 1,024 cells, and this is the first fault of a member
pub record HasFault (all : Members) (found : RowFault) : Type 0 where
  pub time : HasTime all
  pub few : cell_count all ≤ 1024
  pub fault : IsFirstFault all found

-- the text means this row
pub record IsThisRow (text : List ℕ) (row : Row) : Type 0 where
  pub all : Members
  pub object : IsObject text all
  pub few : cell_count all ≤ 1024
  pub is : IsRowOf all row

-- this is why the text is no row
abbrev pub Refuses : List ℕ → RowFault → Type 0
Refuses text Json = IsUtf8 text → read text ≡ None
Refuses text NotObject = IsUtf8 text × ((d : Data) × (read text ≡ Some d) × (as_object d ≡ None))
Refuses text NoTime = (all : Members) × IsObject text all × (HasTime all → ⊥)
Refuses text TooMany = (all : Members) × IsObject text all × HasTime all × (1024 < cell_count all)
Refuses text (Name name) = (all : Members) × IsObject text all × HasFault all (Name name)
Refuses text (fault.Value name) = (all : Members) × IsObject text all × HasFault all (fault.Value name)
Refuses text NoMemory = ⊥
