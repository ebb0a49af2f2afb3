-- The faults of a text alone are its own: none of them is that of a caller's limit.
use Rattle.std.proofs.Common.{◌≡◌, ℕ, zero, suc, ◌+◌, ◌++◌, Bool, true, false, List, [], ◌∷◌, length, subst, Option, Some, None, Result, Ok, Err}
use Rattle.std.specs.Prelude.{◌==◌, if◌then◌else◌, take, nat_lt, ok_or, option_map}
use Rattle.leaf_model.specs.declared.queries.Query.{Query}
use Rattle.row_model.specs.declared.rows.Row.{Row}
use Rattle.row_model.specs.declared.row_fault.RowFault.{RowFault}
use Rattle.row_json.specs.Row.{row_of}
use Rattle.query_text.specs.Reading.{query_of}
use Rattle.row_model.specs.declared.query_fault.QueryFault.{QueryFault}
use Rattle.script_text.specs.declared.command.Command.{Command}
use Rattle.script_text.specs.declared.command.Command.TheVariants as command
use Rattle.row_model.specs.declared.script_fault.Why.{Why}
use Rattle.row_model.specs.declared.script_fault.Why.TheVariants as why
use Rattle.script_text.specs.declared.fleet.FleetShape.{FleetShape}
use Rattle.script_text.specs.declared.item.Item.TheVariants as item
use Rattle.script_text.specs.declared.reading.Reading.{Reading}
use Rattle.script_text.specs.declared.reading.Position.{Position}
use Rattle.script_text.specs.declared.reading.Position.TheVariants as position
use Rattle.script_text.specs.declared.reading.LineRead.{LineRead}
use Rattle.script_text.specs.declared.script.Script.{Script}
use Rattle.script_text.specs.declared.target.Target.{Target}
use Rattle.script_text.specs.declared.line_word.CommandWord.{CommandWord}
use Rattle.script_text.specs.declared.line_word.CommandWord.TheVariants as command_word
use Rattle.script_text.specs.declared.line_word.LineWord.{LineWord}
use Rattle.script_text.specs.declared.line_word.LineWord.TheVariants as line_word
use Rattle.text_lines.specs.Lines.{lines_of, is_blank, is_skipped}
use Rattle.script_text.specs.Words.{words_of, first_word, behind_word, trimmed, place_of}
use Rattle.text_lines.specs.Numbers.{number_of, count_of, time_of_word}
use Rattle.script_text.specs.Commands.{Fault, ◌>>=◌, on_line, or_words, fleet_of, leaf_count, leaf_in, table_in, target_in, TargetForm, target_words, of_target, within, rows_from, rows_behind, add_at, TailForm, tail_of, tail_words, query_command, one_number, leaf_of, standing_at, standing_leaf, standing_of, tell_of, flush_words, DrainForm, drain_words, drain_of, rollover_words, first_command, command_of, row_count, line_word_of}
use Rattle.script_text.specs.Script.{NumberedLine, begun, closed, read_from, next_line, script_at, script_of}
use Rattle.script_text.specs.Bursts.{end_burst, inside, lane_more, next_burst, next_lane, one_more, step_of, stepped, line_at, with_item, with_standing}
use Rattle.script_text.specs.Stewards.{is_second}

-- a fault of a text alone
abbrev pub IsOwn : Why → Type 0
IsOwn why.TooLong = ⊥
IsOwn why.NoBerth = ⊥
IsOwn _ = Unit {0}

abbrev Own : {X : Type 0} → Result X Fault → Type 0
Own (Ok x) = Unit {0}
Own (Err found) = IsOwn found.1

own_if : {X : Type 0} (b : Bool) (x y : Result X Fault) → Own x → Own y → Own (if b then x else y)
own_if true x y g h = g
own_if false x y g h = h

own_then : {X Y : Type 0} (r : Result X Fault) (next : X → Result Y Fault) → Own r → ((x : X) → Own (next x)) → Own (r >>= next)
own_then (Ok x) next h each = each x
own_then (Err found) next h each = h

own_or : {X : Type 0} (o : Option X) (found : Fault) → IsOwn found.1 → Own (ok_or o found)
own_or (Some x) found h = tt
own_or None found h = h

own_words : {X : Type 0} (n : ℕ) (o : Option X) → Own (or_words n o)
own_words n o = own_or o (n, why.Words) tt

-- a leaf and a table
own_leaf_in : (n : ℕ) (fleet : FleetShape) (leaf : ℕ) → Own (leaf_in n fleet leaf)
own_leaf_in n fleet leaf = own_if {X = ℕ} (nat_lt leaf (leaf_count fleet)) (Ok leaf) (Err (n, why.Leaf)) tt tt

own_table_in : (n : ℕ) (fleet : FleetShape) (table : List ℕ) → Own (table_in n fleet table)
own_table_in n fleet table = own_or (place_of fleet.names table) (n, why.Table) tt

own_target : (n : ℕ) (fleet : FleetShape) (leaf : ℕ) (table : List ℕ) → Own (target_in n fleet leaf table)
own_target n fleet leaf table = own_then (leaf_in n fleet leaf) (λ number. table_in n fleet table >>= λ place. Ok (record { leaf = number; table = place })) (own_leaf_in n fleet leaf)
    (λ number. own_then (table_in n fleet table) (λ place. Ok (record { leaf = number; table = place })) (own_table_in n fleet table) (λ place. tt))

own_of_target : {A : Type 0} (n : ℕ) (fleet : FleetShape) (value : List ℕ → Option A) (made : Target → A → Result Command Fault) (form : Option TargetForm) → ((target : Target) (last : A) → Own (made target last)) → Own (of_target n fleet value made form)
own_of_target n fleet value made None each = tt
own_of_target n fleet value made (Some form) each =
    let target = target_in n fleet form.leaf form.table in
    own_then (or_words n (value form.last)) (λ last. target >>= λ t. made t last) (own_words n (value form.last))
    (λ last. own_then target (λ t. made t last) (own_target n fleet form.leaf form.table) (λ t. each t last))

own_leaf : (n : ℕ) (fleet : FleetShape) (leaf : Option ℕ) → Own (leaf_of n fleet leaf)
own_leaf n fleet leaf = own_then (or_words n leaf) (leaf_in n fleet) (own_words n leaf) (own_leaf_in n fleet)

own_of_leaf : (n : ℕ) (fleet : FleetShape) (leaf : Option ℕ) (made : ℕ → Command) → Own (leaf_of n fleet leaf >>= λ l. Ok (made l))
own_of_leaf n fleet leaf made = own_then (leaf_of n fleet leaf) (λ l. Ok (made l)) (own_leaf n fleet leaf) (λ l. tt)

-- an add and its rows
own_row : (n : ℕ) (r : Result Row RowFault) → Own (on_line n why.Row r)
own_row n (Ok row) = tt
own_row n (Err fault) = tt

own_rows : (n : ℕ) (lines : List (List ℕ)) → Own (rows_from n lines)
own_rows n [] = tt
own_rows n (line ∷ more) =
    let others = rows_from (n + 1) more in
    own_then (on_line n why.Row (row_of line)) (λ row. others >>= λ rows. Ok (row ∷ rows)) (own_row n (row_of line)) (λ row. own_then others (λ rows. Ok (row ∷ rows)) (own_rows (n + 1) more) (λ rows. tt))

own_behind : (n : ℕ) (more : List (List ℕ)) (count : ℕ) → Own (rows_behind n more count)
own_behind n more count = own_if (nat_lt (length more) count) (Err (n, why.Short)) (rows_from (n + 1) (take count more)) tt (own_rows (n + 1) (take count more))

own_add_at : (n : ℕ) (more : List (List ℕ)) (target : Target) (count : ℕ) → Own (add_at n more target count)
own_add_at n more target count = own_then (rows_behind n more count) (λ rows. Ok (command.Add target.leaf target.table rows)) (own_behind n more count) (λ rows. tt)

-- a tail
own_tail : (n : ℕ) (fleet : FleetShape) (words : Option TailForm) (more : List (List ℕ)) → Own (tail_of n fleet words more)
own_tail n fleet None more = tt
own_tail n fleet (Some form) more =
    let rows = rows_behind n more form.rows in
    own_then (table_in n fleet form.table) (λ table. rows >>= λ read. Ok (command.Tail form.key table read)) (own_table_in n fleet form.table)
    (λ table. own_then rows (λ read. Ok (command.Tail form.key table read)) (own_behind n more form.rows) (λ read. tt))

-- the other commands
own_query : (n : ℕ) (fleet : FleetShape) (q : Result Query QueryFault) → Own (query_command n fleet q)
own_query n fleet (Ok q) = own_then (table_in n fleet q.table) (λ place. Ok (command.Query q)) (own_table_in n fleet q.table) (λ place. tt)
own_query n fleet (Err fault) = tt

own_drain : (n : ℕ) (fleet : FleetShape) (form : Option DrainForm) → Own (drain_of n fleet form)
own_drain n fleet None = tt
own_drain n fleet (Some form) = own_then (leaf_in n fleet form.leaf) (λ leaf. Ok (command.Drain leaf form.stop)) (own_leaf_in n fleet form.leaf) (λ leaf. tt)

-- a command
own_first_command : (n : ℕ) (line : List ℕ) (v : Option LineWord) → Own (first_command n line v)
own_first_command n line None = tt
own_first_command n line (Some line_word.Fleet) = own_words n (fleet_of (words_of (behind_word line)))
own_first_command n line (Some _) = tt

own_command : (n : ℕ) (fleet : FleetShape) (work : CommandWord) (words : List ℕ) (more : List (List ℕ)) → Own (command_of n fleet work words more)
own_command n fleet command_word.Add words more = own_of_target n fleet (λ word. within 0 100000 (number_of word)) (add_at n more) (target_words (words_of words)) (own_add_at n more)
own_command n fleet command_word.Expire words more = own_of_target n fleet time_of_word (λ target horizon. Ok (command.Expire target.leaf target.table horizon)) (target_words (words_of words)) (λ target horizon. tt)
own_command n fleet command_word.Keep words more = own_of_target n fleet count_of (λ target rows. Ok (command.Keep target.leaf target.table rows)) (target_words (words_of words)) (λ target rows. tt)
own_command n fleet command_word.Query words more = own_query n fleet (query_of (trimmed words))
own_command n fleet command_word.Tail words more = own_tail n fleet (tail_words (words_of words)) more
own_command n fleet command_word.Flush words more = own_of_target n fleet (λ word. Some word) (λ target last. Ok (command.Flush target.leaf target.table)) (flush_words (words_of words)) (λ target last. tt)
own_command n fleet command_word.Drain words more = own_drain n fleet (drain_words (words_of words))
own_command n fleet command_word.Kill words more = own_of_leaf n fleet (one_number (words_of words)) command.Kill
own_command n fleet command_word.Start words more = own_of_leaf n fleet (one_number (words_of words)) command.Start
own_command n fleet command_word.Rollover words more = own_words n (option_map command.Rollover (rollover_words (words_of words)))

-- a line
own_why : (b : Bool) (w : Why) → IsOwn w → IsOwn (if b then why.Place else w)
own_why true w h = tt
own_why false w h = h

own_inside : {X : Type 0} (last : ℕ) (r : Result X Fault) → Own r → Own (inside last r)
own_inside last (Ok x) h = tt
own_inside last (Err found) h = own_why (found.0 == last) found.1 h

own_one : (script : Script) (r : Result Command Fault) → Own r → Own (one_more script r)
own_one script (Ok c) h = tt
own_one script (Err found) h = h

own_lane_more : (n : ℕ) (script : Script) (earlier : List (List Command)) (lane : List Command) (r : Result Command Fault) → Own r → Own (lane_more n script earlier lane r)
own_lane_more n script earlier lane (Ok c) h =
    own_if {X = LineRead} (is_second earlier c) (Err (n, why.TwoStewards)) (Ok (stepped script (position.Lane earlier (lane ++ c ∷ [])) (row_count c))) tt tt
own_lane_more n script earlier lane (Err found) h = h

-- a standing query
own_read_query : (n : ℕ) (r : Result Query QueryFault) → Own (on_line n why.Query r)
own_read_query n (Ok query) = tt
own_read_query n (Err fault) = tt

own_standing_at : (n : ℕ) (fleet : FleetShape) (number : ℕ) (query : Query) → Own (standing_at n fleet number query)
own_standing_at n fleet number query = own_then (leaf_in n fleet number) (λ leaf. table_in n fleet query.table >>= λ _. Ok (command.Standing leaf query)) (own_leaf_in n fleet number)
    (λ leaf. own_then (table_in n fleet query.table) (λ _. Ok (command.Standing leaf query)) (own_table_in n fleet query.table) (λ _. tt))

own_standing : (n : ℕ) (fleet : FleetShape) (declared : ℕ) (words : List ℕ) → Own (standing_of n fleet declared words)
own_standing n fleet declared words =
    let read = on_line n why.Query (query_of (trimmed (behind_word words))) in
    own_then (or_words n (standing_leaf declared words)) (λ number. read >>= λ query. standing_at n fleet number query) (own_words n (standing_leaf declared words))
    (λ number. own_then read (λ query. standing_at n fleet number query) (own_read_query n (query_of (trimmed (behind_word words)))) (λ query. own_standing_at n fleet number query))

own_burst : (n : ℕ) (script : Script) (words : List ℕ) → Own (next_burst n script words)
own_burst n script words = own_if {X = LineRead} (is_blank words) (Ok (stepped script position.Opened 0)) (Err (n, why.Words)) tt tt

own_lane : (n : ℕ) (script : Script) (lanes : List (List Command)) (words : List ℕ) → Own (next_lane n script lanes words)
own_lane n script lanes words =
    let few : Result LineRead Fault = if nat_lt (length lanes) 16 then Ok (stepped script (position.Lane lanes []) 0) else Err (n, why.Lanes) in
    own_if {X = LineRead} (is_blank words) few (Err (n, why.Words)) (own_if {X = LineRead} (nat_lt (length lanes) 16) (Ok (stepped script (position.Lane lanes []) 0)) (Err (n, why.Lanes)) tt tt) tt

own_end : (n : ℕ) (script : Script) (lanes : List (List Command)) (words : List ℕ) → Own (end_burst n script lanes words)
own_end n script lanes words = own_if {X = LineRead} (is_blank words) (Ok (stepped (with_item script (item.Burst lanes)) position.Outside 0)) (Err (n, why.Words)) tt tt

own_line : (last n : ℕ) (fleet : FleetShape) (script : Script) (there : Position) (words : List ℕ) (more : List (List ℕ)) (v : LineWord) → Own (line_at last n fleet script there words more v)
own_line last n fleet script position.Outside words more line_word.Burst = own_inside last (next_burst n script words) (own_burst n script words)
own_line last n fleet script position.Outside words more (line_word.Command work) = own_one script (command_of n fleet work words more) (own_command n fleet work words more)
own_line last n fleet script position.Outside words more line_word.Standing = own_then (standing_of n fleet script.standings words) (λ c. Ok (stepped (with_standing script c) position.Outside 0)) (own_standing n fleet script.standings words) (λ c. tt)
own_line last n fleet script position.Outside words more line_word.Tell =
    let number = one_number (words_of words) in
    own_one script (tell_of n script.standings number) (own_then (or_words n number) (λ (s : ℕ). if nat_lt s script.standings then Ok (command.Tell s) else Err (n, why.Words)) (own_words n number) (λ s. own_if {X = Command} (nat_lt s script.standings) (Ok (command.Tell s)) (Err (n, why.Words)) tt tt))
own_line last n fleet script position.Opened words more line_word.Lane = own_inside last (next_lane n script [] words) (own_lane n script [] words)
own_line last n fleet script (position.Lane earlier lane) words more line_word.Lane = own_inside last (next_lane n script (earlier ++ lane ∷ []) words) (own_lane n script (earlier ++ lane ∷ []) words)
own_line last n fleet script (position.Lane earlier lane) words more line_word.End = own_end n script (earlier ++ lane ∷ []) words
own_line last n fleet script (position.Lane earlier lane) words more (line_word.Command work) =
    let read = command_of n fleet work words more in
    own_inside last (lane_more n script earlier lane read) (own_lane_more n script earlier lane read (own_command n fleet work words more))
own_line last n fleet script _ words more _ = tt

own_step : (last n : ℕ) (fleet : FleetShape) (reading : Reading) (line : List ℕ) (more : List (List ℕ)) → Own (step_of last n fleet reading line more)
own_step last n fleet reading line more =
    let read = line_at last n fleet reading.script reading.position (behind_word line) more in
    own_then (ok_or (line_word_of (first_word line)) (n, why.Command)) read (own_or (line_word_of (first_word line)) (n, why.Command) tt) (own_line last n fleet reading.script reading.position (behind_word line) more)

-- the whole script
own_closed : (last : ℕ) (script : Script) (there : Position) → Own (closed last script there)
own_closed last script position.Outside = tt
own_closed last script _ = tt

own_read : (last : ℕ) (fleet : FleetShape) (rows n : ℕ) (reading : Reading) (lines : List (List ℕ)) → Own (read_from last fleet rows n reading lines)
own_read last fleet rows n reading [] = own_closed last reading.script reading.position
own_read last fleet (suc rows) n reading (line ∷ more) = own_read last fleet rows (n + 1) reading more
own_read last fleet zero n reading (line ∷ more) =
    let r = step_of last n fleet reading line more in
    let others = λ (s : LineRead). read_from last fleet s.rows (n + 1) s.reading more in
    own_if (is_skipped line) (read_from last fleet 0 (n + 1) reading more) (r >>= others) (own_read last fleet 0 (n + 1) reading more)
    (own_then r others (own_step last n fleet reading line more) (λ s. own_read last fleet s.rows (n + 1) s.reading more))

own_at : (last : ℕ) (line : Option NumberedLine) → Own (script_at last line)
own_at last None = tt
own_at last (Some line) =
    let first = first_command line.number line.bytes (line_word_of (first_word line.bytes)) in
    own_then first (λ fleet. read_from last fleet 0 (line.number + 1) (begun line.number fleet) line.after) (own_first_command line.number line.bytes (line_word_of (first_word line.bytes)))
    (λ fleet. own_read last fleet 0 (line.number + 1) (begun line.number fleet) line.after)

own_script : (text : List ℕ) → Own (script_of text)
unfolding script_of
own_script text = own_at (length (lines_of text)) (next_line 1 (lines_of text))

pub own_fault : (text : List ℕ) (line : ℕ) (w : Why) → script_of text ≡ Err (line, w) → IsOwn w
own_fault text line w e = subst Own e (own_script text)
