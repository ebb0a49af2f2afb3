-- The text of a status.
use Rattle.std.specs.Prelude.{ℕ, ◌==◌, List, [], ◌++◌, decimal, codes, if◌then◌else◌}
use Rattle.serde_json.specs.Data.{string}
use Rattle.serde_json.specs.Written.{compact_text}
use Rattle.row_model.specs.declared.row_fault.RowFault.{RowFault}
use Rattle.row_model.specs.declared.row_fault.RowFault.TheVariants as fault
use Rattle.row_model.specs.declared.query_fault.QueryFault.{QueryFault}
use Rattle.row_model.specs.declared.query_fault.QueryFault.TheVariants as query
use Rattle.row_model.specs.declared.script_fault.Why.{Why}
use Rattle.row_model.specs.declared.script_fault.Why.TheVariants as why
use Rattle.run_ends.specs.declared.status.Status.{Status}

-- the name of a cell as a JSON string: the text stays one line whatever the name is
abbrev pub quoted : List ℕ → List ℕ
quoted name = compact_text (string name)

-- the rule of a cell's value
abbrev pub value_rule : List ℕ
value_rule = codes " has no value that a cell may have; a cell is an integer of 64 bits, a text of at most 65535 bytes, or an array of at most 1024 texts"

-- what is wrong with a row
abbrev pub row_cause : RowFault → List ℕ
row_cause fault.Json = codes "the row is no JSON; a row is one object on a line, in UTF-8 without a byte order mark"
row_cause fault.NotObject = codes "the row is no object; a row is one JSON object on a line"
row_cause fault.NoTime = codes "the row has no `time` that is an integer from 0 to 9223372036854775807"
row_cause fault.TooMany = codes "the row has more than 1024 cells"
row_cause (fault.Name name) = codes "no cell may have the name " ++ quoted name
row_cause (fault.Value name) = quoted name ++ value_rule
row_cause fault.NoMemory = codes "out of memory"

-- the place in the text of a query
abbrev pub at_byte : ℕ → List ℕ
at_byte at = decimal at ++ codes " of its text, from 0"

-- what is wrong with a query
abbrev pub query_cause : QueryFault → List ℕ
query_cause (query.Syntax at) = codes "the query is at fault at byte " ++ at_byte at
query_cause query.NoTime = codes "the query has no range `time >= A AND time <= B` after WHERE"
query_cause (query.TooLarge at) = codes "the query has an integer out of its range at byte " ++ at_byte at
query_cause query.NoMemory = codes "out of memory"

-- the cause, and the forms of all commands
abbrev pub with_forms : List ℕ → List ℕ
with_forms cause = cause ++ codes "; the commands are fleet M P T.., add L T N, expire L T H, keep L T N, tail K T N, query TEXT, standing L TEXT, tell S, flush L T, drain L [stop N], kill L, start L, rollover [P], burst, lane, end"

-- what is wrong with a line
abbrev pub cause_of : Why → List ℕ
cause_of why.TooLong = codes "the input has more than 16777216 bytes; give it in pieces"
cause_of why.Command = with_forms (codes "no such command")
cause_of why.NoFleet = codes "a command before any fleet"
cause_of why.Place = codes "the command is out of its place"
cause_of why.Words = with_forms (codes "the words do not fit the command")
cause_of why.Leaf = codes "the fleet has no such leaf; its leaves are numbered from 0"
cause_of why.Table = codes "the fleet has no such table"
cause_of why.Lanes = codes "the burst has more than 16 lanes"
cause_of why.TwoStewards = codes "two lanes of the burst have commands of one leaf's steward"
cause_of why.Short = codes "fewer rows follow than the command says"
cause_of (why.Row f) = row_cause f
cause_of (why.Query f) = query_cause f
cause_of why.NoBerth = codes "the fleet has more leaves than there are berths"

-- the cause, after the number of the line if there is one
abbrev pub at_line : ℕ → List ℕ → List ℕ
at_line line cause = if line == 0 then cause else codes "line " ++ (decimal line ++ (codes ": " ++ cause))

-- the rule of the words
abbrev pub words_rule : List ℕ
words_rule = codes "the words are none of `scuba DIR count FROM TO`, `scuba DIR play`, `scuba DIR soak SEED ROWS` and `scuba DIR inspect L`; DIR is `mem` or a folder, FROM and TO are at most 9223372036854775807, ROWS is 8 to 800000, L is at most 255"

abbrev pub fault_text : Status → List ℕ
fault_text Status.Done = []
fault_text Status.Words = words_rule
fault_text (Status.Script line w) = at_line line (cause_of w)
fault_text Status.ReadFault = codes "the input could not be read"
fault_text Status.WriteFault = codes "the output could not be written"
fault_text Status.NoMemory = codes "out of memory"
