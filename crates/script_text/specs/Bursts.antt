-- What a line after the fleet does to what was read before it, outside bursts and inside one.
use Rattle.std.specs.Prelude.{ℕ, ◌+◌, ◌==◌, List, [], ◌∷◌, ◌++◌, length, nat_lt, if◌then◌else◌, ok_or, Result, Ok, Err}
use Rattle.script_text.specs.declared.command.Command.{Command}
use Rattle.row_model.specs.declared.script_fault.ScriptFault.{ScriptFault}
use Rattle.row_model.specs.declared.script_fault.ScriptFault.TheVariants.{At, NoMemory}
use Rattle.row_model.specs.declared.script_fault.Why.TheVariants as why
use Rattle.script_text.specs.declared.fleet.FleetShape.{FleetShape}
use Rattle.script_text.specs.declared.item.Item.{Item}
use Rattle.script_text.specs.declared.item.Item.TheVariants as item
use Rattle.script_text.specs.declared.reading.Reading.{Reading}
use Rattle.script_text.specs.declared.reading.Position.{Position}
use Rattle.script_text.specs.declared.reading.LineRead.{LineRead}
use Rattle.script_text.specs.declared.reading.Position.TheVariants as position
use Rattle.script_text.specs.declared.script.Script.{Script}
use Rattle.script_text.specs.declared.line_word.LineWord.{LineWord}
use Rattle.script_text.specs.declared.line_word.LineWord.TheVariants as line_word
use Rattle.text_lines.specs.Lines.{is_blank}
use Rattle.script_text.specs.Stewards.{is_second}
use Rattle.script_text.specs.Words.{first_word, behind_word, words_of}
use Rattle.script_text.specs.Commands.{Fault, ◌>>=◌, command_of, one_number, row_count, line_word_of, standing_of, tell_of}

-- the items of a script, and one more
abbrev pub with_item : Script → Item → Script
with_item script one = record script { items = script.items ++ one ∷ [] }

-- one standing query more
abbrev pub with_standing : Script → Command → Script
with_standing script c = record (with_item script (item.One c)) { standings = script.standings + 1 }

-- the reading, with the place of the next line, after this number of lines of rows
abbrev pub stepped : Script → Position → ℕ → LineRead
stepped script there rows = record { reading = record { script = script; position = there }; rows = rows }

-- the fault of a line after which a burst is open: on the text's last line it is Place, whatever it was
abbrev pub fault_inside : ℕ → ScriptFault → ScriptFault
fault_inside last (At n found) = At n (if n == last then why.Place else found)
fault_inside last NoMemory = NoMemory

-- what is read of a line after which a burst is open, with such a fault
abbrev pub inside : {X : Type 0} → ℕ → Result X Fault → Result X Fault
inside last (Ok x) = Ok x
inside last (Err found) = Err (found.0, if found.0 == last then why.Place else found.1)

-- a command outside bursts: one that a burst may have too, a standing query, or a tell
abbrev pub one_more : Script → Result Command Fault → Result LineRead Fault
one_more script read = read >>= λ c. Ok (stepped (with_item script (item.One c)) position.Outside (row_count c))

-- a standing query, which stands outside bursts alone
abbrev pub standing_more : Script → Result Command Fault → Result LineRead Fault
standing_more script read = read >>= λ c. Ok (stepped (with_standing script c) position.Outside 0)

-- on line n, after these items
module _ (n : ℕ) (script : Script) where
  -- `burst`
  abbrev pub next_burst : List ℕ → Result LineRead Fault
  next_burst words = if is_blank words then Ok (stepped script position.Opened 0) else Err (n, why.Words)

  -- `lane`, after these lanes
  abbrev pub next_lane : List (List Command) → List ℕ → Result LineRead Fault
  next_lane lanes words = if is_blank words then (if nat_lt (length lanes) 16 then Ok (stepped script (position.Lane lanes []) 0) else Err (n, why.Lanes))
      else Err (n, why.Words)

  -- `end`, after these lanes
  abbrev pub end_burst : List (List Command) → List ℕ → Result LineRead Fault
  end_burst lanes words = if is_blank words then Ok (stepped (with_item script (item.Burst lanes)) position.Outside 0) else Err (n, why.Words)

  -- a command of a lane, after other lanes
  abbrev pub lane_more : List (List Command) → List Command → Result Command Fault → Result LineRead Fault
  lane_more earlier lane read = read >>= λ c. if is_second earlier c then Err (n, why.TwoStewards) else Ok (stepped script (position.Lane earlier (lane ++ c ∷ [])) (row_count c))

module _ (last n : ℕ) (fleet : FleetShape) (script : Script) where
  -- What a line does, by its place and its first word; any other line is out of its place. A burst that begins on the
  -- last line is left open.
  abbrev pub line_at : Position → List ℕ → List (List ℕ) → LineWord → Result LineRead Fault
  line_at position.Outside words more line_word.Burst = inside last (next_burst n script words)
  line_at position.Outside words more (line_word.Command word) = one_more script (command_of n fleet word words more)
  line_at position.Outside words more line_word.Standing = standing_more script (standing_of n fleet script.standings words)
  line_at position.Outside words more line_word.Tell = one_more script (tell_of n script.standings (one_number (words_of words)))
  line_at position.Opened words more line_word.Lane = inside last (next_lane n script [] words)
  line_at (position.Lane earlier lane) words more line_word.Lane = inside last (next_lane n script (earlier ++ lane ∷ []) words)
  line_at (position.Lane earlier lane) words more line_word.End = end_burst n script (earlier ++ lane ∷ []) words
  line_at (position.Lane earlier lane) words more (line_word.Command word) = inside last (lane_more n script earlier lane (command_of n fleet word words more))
  line_at _ words more _ = Err (n, why.Place)

-- what line n does after this fleet and what was read; the last line has the number `last`, and these lines follow line
-- n
abbrev pub step_of : ℕ → ℕ → FleetShape → Reading → List ℕ → List (List ℕ) → Result LineRead Fault
step_of last n fleet reading line more = do
  word ← ok_or (line_word_of (first_word line)) (n, why.Command)
  line_at last n fleet reading.script reading.position (behind_word line) more word
