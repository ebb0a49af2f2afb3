-- Lines and rows, read one after another.
use Rattle.std.proofs.Common.{◌≡◌, ◌+◌, ◌++◌, ℕ, zero, suc, List, [], ◌∷◌, drop, refl, ap, sym, ◌∙◌, arith, Option, Some, None, Result, Ok, Err, Bool, true, false, append_assoc, add-zero, subst}
use Rattle.std.specs.List.{AllByRecursion}
use Rattle.script_text.specs.declared.fleet.FleetShape.{FleetShape}
use Rattle.row_model.specs.declared.script_fault.ScriptFault.{ScriptFault}
use Rattle.row_model.specs.declared.script_fault.ScriptFault.TheVariants.{At, NoMemory}
use Rattle.script_text.specs.declared.reading.Reading.{Reading}
use Rattle.script_text.specs.declared.reading.LineRead.{LineRead}
use Rattle.script_text.specs.declared.script.Script.{Script}
use Rattle.script_text.specs.Words.{first_word}
use Rattle.text_lines.specs.Lines.{is_skipped}
use Rattle.script_text.specs.Commands.{Fault, ◌>>=◌, first_command, line_word_of}
use Rattle.script_text.specs.Bursts.{step_of}
use Rattle.script_text.specs.Script.{NumberedLine, IfAt, ParsesAs, begun, closed, read_from, next_line, script_at, script_of}
use Rattle.text_lines.specs.Lines.{lines_of}
use Rattle.std.specs.Prelude.{IfOk, IfErr, length}

-- what was read before what is read after it, or the first fault
abbrev pub with_first : {X : Type 0} → Result X Fault → Result (List X) Fault → Result (List X) Fault
with_first first others = first >>= λ x. others >>= λ xs. Ok (x ∷ xs)

-- what was read before others, or the first fault
abbrev pub joined : {X : Type 0} → List X → Result (List X) Fault → Result (List X) Fault
joined first others = others >>= λ xs. Ok (first ++ xs)

-- one more is read
pub joined_more : {X : Type 0} (first : List X) (x : X) (others : Result (List X) Fault) → joined first (with_first (Ok x) others) ≡ joined (first ++ x ∷ []) others
joined_more first x (Ok others) = ap Ok (sym (append_assoc first (x ∷ []) others))
joined_more first x (Err found) = refl

pub AllByRecursion-more : {X : Type 0} (P : X → Type 0) (xs : List X) (x : X) → AllByRecursion P xs → P x → AllByRecursion P (xs ++ x ∷ [])
AllByRecursion-more P [] x all is = (is, tt)
AllByRecursion-more P (y ∷ ys) x all is = (all.0, AllByRecursion-more P ys x all.1 is)

-- what is read of a line and of those after it
abbrev pub line_with : ℕ → FleetShape → NumberedLine → Result LineRead Fault → Result Script Fault
line_with last fleet line read = read >>= λ step. read_from last fleet step.rows (line.number + 1) step.reading line.after

abbrev pub read_at : ℕ → FleetShape → Reading → Option NumberedLine → Result Script Fault
read_at last fleet reading None = closed last reading.script reading.position
read_at last fleet reading (Some line) = line_with last fleet line (step_of last line.number fleet reading line.bytes line.after)

skipped_by : (last n : ℕ) (fleet : FleetShape) (reading : Reading) (line : List ℕ) (more : List (List ℕ)) (is : Bool) → is_skipped line ≡ is → read_from last fleet 0 (n + 1) reading more ≡ read_at last fleet reading (next_line (n + 1) more) → read_from last fleet 0 n reading (line ∷ more) ≡ read_at last fleet reading (next_line n (line ∷ more))
skipped_by last n fleet reading line more true is later = rw is later
skipped_by last n fleet reading line more false is later = rw is

-- skipped lines change nothing
pub read_next : (last n : ℕ) (fleet : FleetShape) (reading : Reading) (lines : List (List ℕ)) → read_from last fleet 0 n reading lines ≡ read_at last fleet reading (next_line n lines)
read_next last n fleet reading [] = refl
read_next last n fleet reading (line ∷ more) = skipped_by last n fleet reading line more (is_skipped line) refl (read_next last (n + 1) fleet reading more)

-- the lines behind the rows of an add
pub read_behind_rows : (last rows n : ℕ) (fleet : FleetShape) (reading : Reading) (lines : List (List ℕ)) → read_from last fleet rows n reading lines ≡ read_from last fleet 0 (n + rows) reading (drop rows lines)
read_behind_rows last zero n fleet reading lines = rw (add-zero n)
read_behind_rows last (suc k) n fleet reading [] = refl
read_behind_rows last (suc k) n fleet reading (line ∷ more) =
    let e : n + 1 + k ≡ n + suc k = omega arith in
    rw (read_behind_rows last k (n + 1) fleet reading more, e)

-- one more line, with the rows that it takes
pub read_step : (last n : ℕ) (fleet : FleetShape) (reading : Reading) (lines : List (List ℕ)) (line : NumberedLine) (s : LineRead) → Some line ≡ next_line n lines → step_of last line.number fleet reading line.bytes line.after ≡ Ok s → read_from last fleet 0 n reading lines ≡ read_from last fleet 0 (line.number + s.rows + 1) s.reading (drop s.rows line.after)
read_step last n fleet reading lines line s found is =
    let e : line.number + 1 + s.rows ≡ line.number + s.rows + 1 = omega arith in
    let behind : read_from last fleet s.rows (line.number + 1) s.reading line.after ≡ read_from last fleet 0 (line.number + s.rows + 1) s.reading (drop s.rows line.after) =
    subst (λ m. read_from last fleet s.rows (line.number + 1) s.reading line.after ≡ read_from last fleet 0 m s.reading (drop s.rows line.after)) e (read_behind_rows last s.rows (line.number + 1) fleet s.reading line.after) in
    read_next last n fleet reading lines ∙ ap (read_at last fleet reading) (sym found) ∙ ap (line_with last fleet line) is ∙ behind

-- a fault behind what was read
pub refused_at : (last n : ℕ) (fleet : FleetShape) (reading : Reading) (lines : List (List ℕ)) (line : NumberedLine) (whole : Result Script Fault) (e : ScriptFault) → Some line ≡ next_line n lines → IfAt e (λ at why. step_of last line.number fleet reading line.bytes line.after ≡ Err (at, why)) → read_from last fleet 0 n reading lines ≡ whole → IfAt e (λ at why. whole ≡ Err (at, why))
refused_at last n fleet reading lines line whole (At at why) found is so_far =
    sym so_far ∙ read_next last n fleet reading lines ∙ ap (read_at last fleet reading) (sym found) ∙ ap (line_with last fleet line) is
refused_at last n fleet reading lines line whole NoMemory found is so_far = tt

-- no line is left
pub read_end : (last n : ℕ) (fleet : FleetShape) (reading : Reading) (lines : List (List ℕ)) (whole : Result Script Fault) → None ≡ next_line n lines → read_from last fleet 0 n reading lines ≡ whole → closed last reading.script reading.position ≡ whole
read_end last n fleet reading lines whole none so_far = ap (read_at last fleet reading) none ∙ sym (read_next last n fleet reading lines) ∙ so_far

pub parses_as : (r : Result Script ScriptFault) (a b : Result Script Fault) → a ≡ b → ParsesAs (λ s. s) r a → ParsesAs (λ s. s) r b
parses_as r a b is p = subst (ParsesAs (λ s. s) r) is p

-- the whole script, behind the fleet
abbrev script_behind : ℕ → NumberedLine → Result FleetShape Fault → Result Script Fault
script_behind last line read = read >>= λ fleet. read_from last fleet 0 (line.number + 1) (begun line.number fleet) line.after

pub script_none : (text : List ℕ) (script : Script) → None ≡ next_line 1 (lines_of text) → script ≡ record { fleet_line = 0; items = []; standings = 0 } → script_of text ≡ Ok script
unfolding script_of
script_none text script none is = ap (script_at (length (lines_of text))) (sym none) ∙ ap Ok (sym is)

pub script_fleet : (text : List ℕ) (line : NumberedLine) (fleet : FleetShape) → Some line ≡ next_line 1 (lines_of text) → first_command line.number line.bytes (line_word_of (first_word line.bytes)) ≡ Ok fleet → script_of text ≡ read_from (length (lines_of text)) fleet 0 (line.number + 1) (begun line.number fleet) line.after
unfolding script_of
script_fleet text line fleet found is =
    ap (script_at (length (lines_of text))) (sym found) ∙ ap (script_behind (length (lines_of text)) line) is

pub script_first_fault : (text : List ℕ) (line : NumberedLine) (e : ScriptFault) → Some line ≡ next_line 1 (lines_of text) → IfAt e (λ at why. first_command line.number line.bytes (line_word_of (first_word line.bytes)) ≡ Err (at, why)) → IfAt e (λ at why. script_of text ≡ Err (at, why))
unfolding script_of
script_first_fault text line (At at why) found is =
    ap (script_at (length (lines_of text))) (sym found) ∙ ap (script_behind (length (lines_of text)) line) is
script_first_fault text line NoMemory found is = tt

pub script_is : (text : List ℕ) (line : NumberedLine) (fleet : FleetShape) (last : ℕ) (r : Result Script ScriptFault) → Some line ≡ next_line 1 (lines_of text) → last ≡ length (lines_of text) → first_command line.number line.bytes (line_word_of (first_word line.bytes)) ≡ Ok fleet → ParsesAs (λ s. s) r (read_from last fleet 0 (line.number + 1) (begun line.number fleet) line.after) → ParsesAs (λ s. s) r (script_of text)
script_is text line fleet last r found count is read =
    let whole : read_from last fleet 0 (line.number + 1) (begun line.number fleet) line.after ≡ script_of text =
    ap (λ n. read_from n fleet 0 (line.number + 1) (begun line.number fleet) line.after) count ∙ sym (script_fleet text line fleet found is) in
    subst (ParsesAs (λ s. s) r) whole read

pub if_parsed : (r : Result Script ScriptFault) (read : Result Script Fault) → ParsesAs (λ s. s) r read → IfOk r (λ script. read ≡ Ok script)
if_parsed (Ok s) read p = p
if_parsed (Err e) read p = tt

pub if_refused : (r : Result Script ScriptFault) (read : Result Script Fault) → ParsesAs (λ s. s) r read → IfErr r (λ fault. IfAt fault (λ line why. read ≡ Err (line, why)))
if_refused (Ok s) read p = tt
if_refused (Err e) read p = p
