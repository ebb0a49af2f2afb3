-- The row that a JSON text means, or its first fault.
use Rattle.std.specs.Prelude.{ℕ, suc, ◌+◌, ◌||◌, ◌==◌, ℤ, pos, negsuc, List, [], ◌++◌, length, Bool, nat_lt, if◌then◌else◌, Option, Some, None, option_map, option_and_then, option_to_list, ok_or, Result, Ok, Err, Vec}
use Rattle.std.specs.Option.{is_some}
use Rattle.std.specs.Str.{bytes_eq, is_utf8}
use Rattle.std.specs.declared.alloc.Global.{Global}
use Rattle.std.specs.BTreeSet.{insert_key}
use Rattle.serde_json.specs.Data.{Data, number, string, array, object, Items, no_items, item, Members, no_members, member}
use Rattle.serde_json.specs.Find.{get, as_number, as_null, as_i64}
use Rattle.serde_json.specs.Read.{read}
use Rattle.row_model.specs.Texts.{text_cmp}
use Rattle.row_model.specs.Values.{bytes_in, time_name}
use Rattle.row_model.specs.declared.rows.Value.{Value}
use Rattle.row_model.specs.declared.rows.Value.TheVariants.{Int, Text, Set}
use Rattle.row_model.specs.declared.rows.Cell.{Cell}
use Rattle.row_model.specs.declared.rows.Row.{Row}
use Rattle.row_model.specs.declared.row_fault.RowFault.{RowFault}
use Rattle.row_model.specs.declared.row_fault.RowFault.TheVariants.{Json, NotObject, NoTime, TooMany, Name}
use Rattle.row_model.specs.declared.row_fault.RowFault.TheVariants as fault

-- the name is that of the row's time
abbrev pub is_time : List ℕ → Bool
is_time name = bytes_eq name time_name

-- the integer, if it is at least 0
abbrev pub not_negative : ℤ → Option ℤ
not_negative (pos n) = Some (pos n)
not_negative (negsuc n) = None

-- the row's time, if the object has one
abbrev pub time_of : Data → Option ℤ
time_of d = option_and_then not_negative (option_and_then as_i64 (option_and_then as_number (get time_name d)))

-- a null is a missing cell
abbrev pub is_missing : Data → Bool
is_missing d = is_some (as_null d)

-- the number of members other than the time that are not null
abbrev pub cell_count : Members → ℕ
cell_count no_members = 0
cell_count (member name d rest) = (if is_time name || is_missing d then 0 else 1) + cell_count rest

-- no cell may have this name
abbrev pub is_bad_name : List ℕ → Bool
is_bad_name name = length name == 0 || nat_lt 255 (length name)

-- the value of a text, if it has at most 65,535 bytes
abbrev pub text_of : List ℕ → Option Value
text_of s = if nat_lt 65535 (length s) then None else Some (Text s)

-- the given texts and those of an array, sorted and distinct, if all items are texts
abbrev pub texts_with : List (List ℕ) → Items → Option (List (List ℕ))
texts_with texts no_items = Some texts
texts_with texts (item (string t) rest) = texts_with (insert_key text_cmp texts t) rest
texts_with texts (item other rest) = None

-- the number of items
abbrev pub item_count : Items → ℕ
item_count no_items = 0
item_count (item d rest) = suc (item_count rest)

-- the value of a set, if its array has at most 1,024 items and its texts at most 65,535 bytes together
abbrev pub set_of : ℕ → List (List ℕ) → Option Value
set_of count texts = if nat_lt 1024 count || nat_lt 65535 (bytes_in texts) then None else Some (Set texts)

-- the value that a cell holds of a JSON value: an i64, a text, or a set
abbrev pub value_of : Data → Option Value
value_of (number n) = option_map Int (as_i64 n)
value_of (string s) = text_of s
value_of (array items) = option_and_then (set_of (item_count items)) (texts_with [] items)
value_of other = None

-- a cell of this name and value
abbrev pub named_cell : List ℕ → Value → Cell
named_cell name value = record { name = name; value = value }

-- f of what was found, or the fault
abbrev pub and_then : {A B : Type 0} → Result A RowFault → (A → Result B RowFault) → Result B RowFault
and_then (Ok x) f = f x
and_then (Err e) f = Err e

-- the cell of a member, none, or its fault
abbrev pub cell_of : List ℕ → Data → Result (Option Cell) RowFault
cell_of name d = if is_time name then Ok None
    else (if is_bad_name name then Err (Name name)
    else (if is_missing d then Ok None else and_then (ok_or (value_of d) (fault.Value name)) (λ value. Ok (Some (named_cell name value)))))

-- the cells, ascending by name, or the first fault
abbrev pub cells_of : Members → Result (List Cell) RowFault
cells_of no_members = Ok []
cells_of (member name d rest) = and_then (cell_of name d) (λ cell. and_then (cells_of rest) (λ cells. Ok (option_to_list cell ++ cells)))

-- the items of a vector of cells, or the fault
abbrev pub items_of : Result (Vec Cell Global) RowFault → Result (List Cell) RowFault
items_of cells = and_then cells (λ v. Ok v.items)

-- the row of the members of an object, given its time
abbrev pub row_of_members : Option ℤ → Members → Result Row RowFault
row_of_members None all = Err NoTime
row_of_members (Some time) all = if nat_lt 1024 (cell_count all) then Err TooMany else and_then (cells_of all) (λ cells. Ok (record { time = time; cells = cells }))

-- the row that a JSON value means
abbrev pub row_of_data : Data → Result Row RowFault
row_of_data (object all) = row_of_members (time_of (object all)) all
row_of_data other = Err NotObject

-- the row that a text means, or its first fault
unfoldable pub row_of : List ℕ → Result Row RowFault
row_of text = if is_utf8 text then and_then (ok_or (read text) Json) row_of_data else Err Json
