-- How many notes a drain makes at most.
use Rattle.std.proofs.Common.{◌≡◌, ℕ, ◌+◌, ◌-◌, ◌≤◌, Bool, true, false, List, [], ◌∷◌, ◌++◌, length, map, Option, Some, None, Result, Ok, Err, refl, ap, arith, inl, inr}
use Rattle.std.specs.Prelude.{if◌then◌else◌}
use Rattle.std.proofs.lemmas.List.{length-append, length-map}
use Rattle.leaf_words.specs.declared.note.Note.{Note}
use Rattle.leaf_words.specs.declared.note.What.{What}
use Rattle.leaf_words.specs.declared.note.What.TheVariants as what
use Rattle.leaf_steward.specs.Seated.{AreSeated}
use Rattle.leaf_steward.proofs.Seating.{few_tables}
use Rattle.leaf_machine.specs.declared.preparing.Prepared.{Prepared}
use Rattle.leaf_machine.specs.declared.preparing.Prepared.TheVariants as prepared
use Rattle.leaf_machine.specs.declared.preparing.PrepareFault.{PrepareFault}
use Rattle.leaf_machine.specs.declared.preparing.PrepareFault.TheVariants as fault
use Rattle.leaf_machine.specs.States.{Shutting, treated}
use Rattle.leaf_machine.specs.Prepares.{IsTreatingStep}
use Rattle.transcript.specs.Life.{Halts, NotesOf, Owed, Progress, Starves, Treats, owed_words, words_in}
use Rattle.leaf_moves.specs.Modes.{HasShut, progress_of}
use Rattle.leaf_deeds.proofs.Lives.{halts, starves, treats}

-- ---- of a step

owed_few : (owed : Option Owed) → length (owed_words owed) ≤ 1
owed_few None = omega arith
owed_few (Some o) = omega arith

-- as many as words, and one of what was owed
words_few : (owed : Option Owed) (table : ℕ) (whats : List What) (notes : List Note) → NotesOf owed table whats notes → length notes ≤ 1 + length whats
words_few owed table whats notes words =
    let of_it : What → ℕ × What = λ w. (table, w) in
    let told : List (ℕ × What) = map of_it whats in
    let count : length (words_in notes) ≡ length notes = length-map notes (λ (n : Note). (n.table, n.what)) in
    let sum : length (owed_words owed ++ told) ≡ length (owed_words owed) + length told = length-append (owed_words owed) told in
    let own : length told ≡ length whats = length-map whats of_it in
    let all : length (words_in notes) ≡ length (owed_words owed ++ told) = ap (λ (ws : List (ℕ × What)). length ws) words in
    omega (arith, count, all, sum, own, owed_few owed)

none_few : (notes : List Note) → notes ≡ [] → length notes ≤ 3
none_few notes none = omega (arith, ap (λ (ns : List Note). length ns) none)

two_few : (b : Bool) (x y : What) → length (if b then [] else x ∷ y ∷ []) ≤ 2
two_few true x y = omega arith
two_few false x y = omega arith

pub treats_few : (p q : Progress) (notes : List Note) → Treats p notes q → length notes ≤ 3
treats_few p q notes step = omega (arith, words_few p.owed p.treated (if p.waits then [] else what.Closed step.0.0 ∷ what.Flushed step.0.0 ∷ []) notes step.0.1, two_few p.waits (what.Closed step.0.0) (what.Flushed step.0.0))

halts_few : (p q : Progress) (notes : List Note) → Halts p notes q → length notes ≤ 3
halts_few p q notes (inl h) = omega (arith, words_few p.owed p.treated (what.Closed h.0 ∷ []) notes h.2)
halts_few p q notes (inr h) = none_few notes h.2

starves_few : (tables : ℕ) (p q : Progress) (notes : List Note) → Starves tables p notes q → length notes ≤ 3
starves_few tables p q notes (inl h) = omega (arith, words_few p.owed p.treated [] notes h.0)
starves_few tables p q notes (inr h) = omega (arith, words_few p.owed p.treated (what.Closed h.0 ∷ what.Flushed h.0 ∷ []) notes h.3)

pub step_few : {B : Type 0} (x : Shutting) (notes : List Note) (r : Result (Prepared B) ((Shutting × B) × PrepareFault)) → HasShut x → IsTreatingStep x notes r → length notes ≤ 3
step_few x notes (Ok (prepared.More leaf)) shut one = treats_few (progress_of x) (progress_of leaf.0) notes (treats x leaf.0 notes shut one.1)
step_few x notes (Ok (prepared.Ready leaf)) shut one = none_few notes one.1
step_few x notes (Err ((y, b), fault.DiskFault)) shut one = halts_few (progress_of x) (progress_of y) notes (halts x y notes one.1)
step_few x notes (Err ((y, b), fault.NoRoom)) shut one = none_few notes one.2
step_few x notes (Err ((y, b), fault.NoMemory)) shut one = starves_few (length x.serving.seated.tables) (progress_of x) (progress_of y) notes (starves _ x y notes refl one)

-- ---- of the tables

pub treated_by : (x : Shutting) (b : Bool) → (if b then length x.closed - 1 else length x.closed) ≤ length x.closed
treated_by x true = omega arith
treated_by x false = omega arith

-- so many are treated at most
pub treated_few : (x : Shutting) → length x.closed ≤ length x.serving.seated.tables → AreSeated x.serving.seated → treated x ≤ 16
treated_few x within seated = omega (arith, treated_by x x.waits, within, few_tables seated)
