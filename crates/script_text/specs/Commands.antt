-- The commands of a script. Each line gives a command, or its first fault.
use Rattle.std.specs.Prelude.{ℕ, ◌+◌, ◌*◌, ◌&&◌, List, [], ◌∷◌, length, take, nat_lt, nat_le, Bool, if◌then◌else◌, Option, Some, None, option_map, option_and_then, ok_or, Result, Ok, Err, codes}
use Rattle.std.specs.Str.{bytes_eq}
use Rattle.std.specs.Option.{option_or}
use Rattle.leaf_model.specs.declared.queries.Query.{Query}
use Rattle.row_model.specs.declared.rows.Row.{Row}
use Rattle.row_json.specs.Row.{row_of}
use Rattle.row_model.specs.declared.query_fault.QueryFault.{QueryFault}
use Rattle.query_text.specs.Reading.{query_of}
use Rattle.script_text.specs.declared.command.Command.{Command}
use Rattle.script_text.specs.declared.command.Command.TheVariants.{Add, Expire, Keep, Tail, Flush, Drain, Kill, Start, Rollover, Standing, Tell}
use Rattle.script_text.specs.declared.command.Command.TheVariants as command
use Rattle.row_model.specs.declared.script_fault.Why.{Why}
use Rattle.row_model.specs.declared.script_fault.Why.TheVariants as why
use Rattle.script_text.specs.declared.fleet.FleetShape.{FleetShape}
use Rattle.script_text.specs.declared.target.Target.{Target}
use Rattle.script_text.specs.declared.line_word.CommandWord.{CommandWord}
use Rattle.script_text.specs.declared.line_word.CommandWord.TheVariants as command_word
use Rattle.script_text.specs.declared.line_word.LineWord.{LineWord}
use Rattle.script_text.specs.declared.line_word.LineWord.TheVariants as line_word
use Rattle.row_model.specs.Names.{is_table_name}
use Rattle.script_text.specs.Fits.{AreLeaves, AreTables}
use Rattle.query_text.specs.Roles.{listed}
use Rattle.script_text.specs.Words.{words_of, first_word, behind_word, trimmed, are_tables, place_of}
use Rattle.text_lines.specs.Numbers.{number_of, capped, count_of, time_of_word}

-- a line's number, and its first fault
abbrev pub Fault : Type 0
Fault = ℕ × Why

-- what follows, if there was no fault
infixl 10 ◌>>=◌
abbrev pub ◌>>=◌ : {A B : Type 0} → Result A Fault → (A → Result B Fault) → Result B Fault
(Ok x) >>= f = f x
(Err found) >>= f = Err found

-- what was read of line n, or its fault, with this cause
abbrev pub on_line : {A E : Type 0} → ℕ → (E → Why) → Result A E → Result A Fault
on_line n cause (Ok x) = Ok x
on_line n cause (Err fault) = Err (n, cause fault)

-- what the words of line n give, or the fault Words
abbrev pub or_words : {A : Type 0} → ℕ → Option A → Result A Fault
or_words n found = ok_or found (n, why.Words)

-- the command that begins with this word
abbrev pub command_word_of : List ℕ → Option CommandWord
command_word_of = listed ((codes "add", command_word.Add) ∷ (codes "expire", command_word.Expire) ∷ (codes "keep", command_word.Keep) ∷ (codes "query", command_word.Query) ∷ (codes "tail", command_word.Tail) ∷ (codes "flush", command_word.Flush)
    ∷ (codes "drain", command_word.Drain) ∷ (codes "kill", command_word.Kill) ∷ (codes "start", command_word.Start) ∷ (codes "rollover", command_word.Rollover) ∷ [])

-- the line that begins with this word
abbrev pub line_word_of : List ℕ → Option LineWord
line_word_of word = option_or (listed ((codes "fleet", line_word.Fleet) ∷ (codes "burst", line_word.Burst) ∷ (codes "lane", line_word.Lane) ∷ (codes "end", line_word.End) ∷ (codes "standing", line_word.Standing)
    ∷ (codes "tell", line_word.Tell) ∷ []) word) (option_map line_word.Command (command_word_of word))

-- the number of leaves of a fleet's machines
abbrev pub leaf_count : FleetShape → ℕ
leaf_count fleet = fleet.machines * fleet.per_machine

-- the command that a fleet is
abbrev pub fleet_command : FleetShape → Command
fleet_command fleet = command.Fleet fleet.machines fleet.per_machine fleet.names

-- what is known of a fleet that was read
abbrev pub IsFleet : FleetShape → Type 0
IsFleet fleet = AreLeaves fleet.machines fleet.per_machine × AreTables fleet.names

-- at least one machine, at least one leaf on each, and at most 256 leaves in all
abbrev pub leaves_in_range : ℕ → ℕ → Bool
leaves_in_range machines per_machine = nat_lt 0 machines && nat_lt 0 per_machine && nat_le (machines * per_machine) 256

-- a fleet of these numbers and tables; None if they are out of their range
abbrev pub fleet_with : Option ℕ → Option ℕ → List (List ℕ) → Option FleetShape
fleet_with (Some machines) (Some per_machine) names = if leaves_in_range machines per_machine && are_tables names then Some (record { machines = machines; per_machine = per_machine; names = names }) else None
fleet_with _ _ _ = None

-- `fleet M P T..`
abbrev pub fleet_of : List (List ℕ) → Option FleetShape
fleet_of (machines ∷ per_machine ∷ tables) = fleet_with (number_of machines) (number_of per_machine) tables
fleet_of _ = None

-- the words of a command that names a leaf, a table and one more thing, which is empty if the command has none
pub record TargetForm : Type 0 where
  pub leaf : ℕ
  pub table : List ℕ
  pub last : List ℕ

-- the same, with a leaf's number that saturates at 64 bits
abbrev pub capped_target : TargetForm → TargetForm
capped_target form = record { leaf = capped form.leaf; table = form.table; last = form.last }

-- a leaf's number, a table's name and one more thing
abbrev pub target_with : List ℕ → List ℕ → List ℕ → Option TargetForm
target_with leaf table last = option_and_then (λ number. if is_table_name table then Some (record { leaf = number; table = table; last = last }) else None) (number_of leaf)

-- the words `L T W`
abbrev pub target_words : List (List ℕ) → Option TargetForm
target_words (leaf ∷ table ∷ last ∷ []) = target_with leaf table last
target_words _ = None

-- the number of lines after its own that a command takes as its rows
abbrev pub row_count : Command → ℕ
row_count (Add leaf table rows) = length rows
row_count (Tail key table rows) = length rows
row_count _ = 0

-- the rows of lines that are numbered from n on, none of them skipped
abbrev pub rows_from : ℕ → List (List ℕ) → Result (List Row) Fault
rows_from n [] = Ok []
rows_from n (line ∷ more) = do
  row ← on_line n why.Row (row_of line)
  rows ← rows_from (n + 1) more
  Ok (row ∷ rows)

-- the number, if it is from `least` to `most`
abbrev pub within : ℕ → ℕ → Option ℕ → Option ℕ
within least most (Some number) = if nat_le least number && nat_le number most then Some number else None
within least most None = None

-- the rows that are the next `count` lines
abbrev pub rows_behind : ℕ → List (List ℕ) → ℕ → Result (List Row) Fault
rows_behind n more count = if nat_lt (length more) count then Err (n, why.Short) else rows_from (n + 1) (take count more)

-- an add whose rows are the next `count` lines
abbrev pub add_at : ℕ → List (List ℕ) → Target → ℕ → Result Command Fault
add_at n more target count = rows_behind n more count >>= λ rows. Ok (Add target.leaf target.table rows)

-- the words of a tail: a key of 64 bits, a table's name, and the number of rows
pub record TailForm : Type 0 where
  pub key : ℕ
  pub table : List ℕ
  pub rows : ℕ

-- a tail of these; None if one of them is not as it has to be
abbrev pub tail_with : Option ℕ → List ℕ → Option ℕ → Option TailForm
tail_with (Some key) table (Some rows) = if is_table_name table then Some (record { key = key; table = table; rows = rows }) else None
tail_with _ table _ = None

-- the words `K T N`, of at most 100,000 rows
abbrev pub tail_words : List (List ℕ) → Option TailForm
tail_words (key ∷ table ∷ rows ∷ []) = tail_with (count_of key) table (within 0 100000 (number_of rows))
tail_words _ = None

-- the number that the words are, if they are one word
abbrev pub one_number : List (List ℕ) → Option ℕ
one_number (word ∷ []) = number_of word
one_number _ = None

-- the leaf of a standing query by its first word, if another may be declared
abbrev pub standing_leaf : ℕ → List ℕ → Option ℕ
standing_leaf declared words = if nat_lt declared 16 then number_of (first_word words) else None

-- `tell S`, after so many that were declared
abbrev pub tell_of : ℕ → ℕ → Option ℕ → Result Command Fault
tell_of n declared number = or_words n number >>= λ standing. if nat_lt standing declared then Ok (Tell standing) else Err (n, why.Words)

-- the words `L T`
abbrev pub flush_words : List (List ℕ) → Option TargetForm
flush_words (leaf ∷ table ∷ []) = target_with leaf table []
flush_words _ = None

-- the words of a drain: a leaf, and the number of steps after which it is stopped, if it is
pub record DrainForm : Type 0 where
  pub leaf : ℕ
  pub stop : Option ℕ

-- a drain that is stopped
abbrev pub stopped_drain : Option ℕ → Option ℕ → Option DrainForm
stopped_drain (Some leaf) (Some steps) = Some (record { leaf = leaf; stop = Some steps })
stopped_drain _ _ = None

-- the words `L`, or `L stop N` of at most 1,000,000 steps
abbrev pub drain_words : List (List ℕ) → Option DrainForm
drain_words (leaf ∷ []) = option_map (λ number. record { leaf = number; stop = None }) (number_of leaf)
drain_words (leaf ∷ word ∷ steps ∷ []) = if bytes_eq word (codes "stop") then stopped_drain (number_of leaf) (within 0 1000000 (number_of steps)) else None
drain_words _ = None

-- the words of a rollover: a percent from 1 to 100, or no word, which is 2 percent
abbrev pub rollover_words : List (List ℕ) → Option ℕ
rollover_words [] = Some 2
rollover_words (percent ∷ []) = within 1 100 (number_of percent)
rollover_words _ = None

-- the fleet of a line, while none was read
abbrev pub first_command : ℕ → List ℕ → Option LineWord → Result FleetShape Fault
first_command n line None = Err (n, why.Command)
first_command n line (Some line_word.Fleet) = or_words n (fleet_of (words_of (behind_word line)))
first_command n line (Some _) = Err (n, why.NoFleet)

-- ---- commands on line n, of this fleet

module _ (n : ℕ) (fleet : FleetShape) where
  -- the leaf of this number, if the fleet has it
  abbrev pub leaf_in : ℕ → Result ℕ Fault
  leaf_in leaf = if nat_lt leaf (leaf_count fleet) then Ok leaf else Err (n, why.Leaf)

  -- the place of the table of this name, if the fleet has it
  abbrev pub table_in : List ℕ → Result ℕ Fault
  table_in name = ok_or (place_of fleet.names name) (n, why.Table)

  -- the leaf of this number and the table of this name, if the fleet has them; a fault of the leaf comes first
  abbrev pub target_in : ℕ → List ℕ → Result Target Fault
  target_in number name = do
    leaf ← leaf_in number
    table ← table_in name
    Ok (record { leaf = leaf; table = table })

  -- a command of a leaf, a table and what the last word gives: a fault of the words comes first, then one of the leaf,
  -- then one of the table
  abbrev pub of_target : {A : Type 0} → (List ℕ → Option A) → (Target → A → Result Command Fault) → Option TargetForm → Result Command Fault
  of_target value made words = do
    form ← or_words n words
    last ← or_words n (value form.last)
    target ← target_in form.leaf form.table
    made target last

  -- `add L T N`, of at most 100,000 rows
  abbrev pub add_of : Option TargetForm → List (List ℕ) → Result Command Fault
  add_of form more = of_target (λ word. within 0 100000 (number_of word)) (add_at n more) form

  -- `expire L T H`
  abbrev pub expire_of : Option TargetForm → Result Command Fault
  expire_of = of_target time_of_word (λ target horizon. Ok (Expire target.leaf target.table horizon))

  -- `keep L T N`
  abbrev pub keep_of : Option TargetForm → Result Command Fault
  keep_of = of_target count_of (λ target rows. Ok (Keep target.leaf target.table rows))

  -- `query TEXT`; the fleet has to have its table
  abbrev pub query_command : Result Query QueryFault → Result Command Fault
  query_command read = do
    query ← on_line n why.Query read
    _ ← table_in query.table
    Ok (command.Query query)

  -- `tail K T N`: a fault of the words comes first, then one of the table, then one of the rows
  abbrev pub tail_of : Option TailForm → List (List ℕ) → Result Command Fault
  tail_of words more = do
    form ← or_words n words
    table ← table_in form.table
    rows ← rows_behind n more form.rows
    Ok (Tail form.key table rows)

  -- the leaf whose number is given
  abbrev pub leaf_of : Option ℕ → Result ℕ Fault
  leaf_of number = or_words n number >>= leaf_in

  -- a standing query of this leaf: a fault of the leaf comes first, then one of the table
  abbrev pub standing_at : ℕ → Query → Result Command Fault
  standing_at number query = do
    leaf ← leaf_in number
    _ ← table_in query.table
    Ok (Standing leaf query)

  -- `standing L TEXT`, after so many that were declared: a fault of the words comes first, then one of the query
  abbrev pub standing_of : ℕ → List ℕ → Result Command Fault
  standing_of declared words = do
    number ← or_words n (standing_leaf declared words)
    query ← on_line n why.Query (query_of (trimmed (behind_word words)))
    standing_at number query

  -- `flush L T`, which has no last word
  abbrev pub flush_of : Option TargetForm → Result Command Fault
  flush_of = of_target Some (λ target _. Ok (Flush target.leaf target.table))

  -- `drain L` or `drain L stop N`
  abbrev pub drain_of : Option DrainForm → Result Command Fault
  drain_of words = do
    form ← or_words n words
    leaf ← leaf_in form.leaf
    Ok (Drain leaf form.stop)

  -- the command of this first word and the words after it, with this fleet; these lines follow
  abbrev pub command_of : CommandWord → List ℕ → List (List ℕ) → Result Command Fault
  command_of command_word.Add words more = add_of (target_words (words_of words)) more
  command_of command_word.Expire words more = expire_of (target_words (words_of words))
  command_of command_word.Keep words more = keep_of (target_words (words_of words))
  command_of command_word.Query words more = query_command (query_of (trimmed words))
  command_of command_word.Tail words more = tail_of (tail_words (words_of words)) more
  command_of command_word.Flush words more = flush_of (flush_words (words_of words))
  command_of command_word.Drain words more = drain_of (drain_words (words_of words))
  command_of command_word.Kill words more = leaf_of (one_number (words_of words)) >>= λ leaf. Ok (Kill leaf)
  command_of command_word.Start words more = leaf_of (one_number (words_of words)) >>= λ leaf. Ok (Start leaf)
  command_of command_word.Rollover words more = or_words n (option_map Rollover (rollover_words (words_of words)))
