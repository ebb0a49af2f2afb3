-- What notes tell: one entry for each table in order, or that of what was owed.
use Rattle.std.proofs.Common.{◌≡◌, ℕ, suc, List, [], ◌∷◌, ◌++◌, length, map, refl, sym, ap, ap₂, subst, ◌∙◌, Option, Some, None}
use Rattle.std.specs.Prelude.{replicate}
use Rattle.std.proofs.lemmas.List.{append-nil, map-append}
use Rattle.row_records.specs.Records.{LogRecord}
use Rattle.leaf_steward.specs.Owing.{Owing}
use Rattle.leaf_words.specs.declared.note.Note.{Note}
use Rattle.leaf_words.specs.declared.note.What.{What}
use Rattle.leaf_words.specs.declared.note.What.TheVariants as what
use Rattle.leaf_steward.specs.Making.{EachNoted, IsClosedNote, IsHandedNote}
use Rattle.leaf_machine.specs.Flushes.{OwedNotes}
use Rattle.leaf_machine.specs.Starts.{IsOpenedNote}
use Rattle.transcript.specs.Life.{NotesFrom, NotesOf, owed_words, words_in}
use Rattle.leaf_moves.specs.Modes.{owed_as, owed_of}

-- ---- one note for each table

closed_what : (w : What) → IsClosedNote w → (writes : ℕ) × (w ≡ what.Closed writes)
closed_what (what.Opened n) h = absurd h
closed_what (what.Took n) h = absurd h
closed_what (what.Flushed n) h = absurd h
closed_what (what.Closed n) h = (n, refl)
closed_what what.Handed h = absurd h

pub closed_noted : (place count : ℕ) (notes : List Note) → EachNoted IsClosedNote place count notes
    → (counts : List ℕ) × (length counts ≡ count) × NotesFrom place (map what.Closed counts) notes
closed_noted place count [] h = ([], sym h, tt)
closed_noted place count (n ∷ ns) h =
    let rest = closed_noted (suc place) h.0 ns h.4 in
    let w = closed_what n.what h.3 in
    (w.0 ∷ rest.0, ap suc rest.1 ∙ sym h.1, (h.2, w.1, rest.2))

opened_what : (w : What) → IsOpenedNote w → (writes : ℕ) × (w ≡ what.Opened writes)
opened_what (what.Opened n) h = (n, refl)
opened_what (what.Took n) h = absurd h
opened_what (what.Flushed n) h = absurd h
opened_what (what.Closed n) h = absurd h
opened_what what.Handed h = absurd h

pub opened_noted : (place count : ℕ) (notes : List Note) → EachNoted IsOpenedNote place count notes
    → (counts : List ℕ) × (length counts ≡ count) × NotesFrom place (map what.Opened counts) notes
opened_noted place count [] h = ([], sym h, tt)
opened_noted place count (n ∷ ns) h =
    let rest = opened_noted (suc place) h.0 ns h.4 in
    let w = opened_what n.what h.3 in
    (w.0 ∷ rest.0, ap suc rest.1 ∙ sym h.1, (h.2, w.1, rest.2))

handed_what : (w : What) → IsHandedNote w → w ≡ what.Handed
handed_what (what.Opened n) h = absurd h
handed_what (what.Took n) h = absurd h
handed_what (what.Flushed n) h = absurd h
handed_what (what.Closed n) h = absurd h
handed_what what.Handed h = refl

pub handed_noted : (place count : ℕ) (notes : List Note) → EachNoted IsHandedNote place count notes → NotesFrom place (replicate count what.Handed) notes
handed_noted place count [] h = subst (λ (c : ℕ). NotesFrom place (replicate c what.Handed) []) (sym h) tt
handed_noted place count (n ∷ ns) h =
    subst (λ (c : ℕ). NotesFrom place (replicate c what.Handed) (n ∷ ns)) (sym h.1)
    (h.2, handed_what n.what h.3, handed_noted (suc place) h.0 ns h.4)

-- ---- what was owed

owed_told : (o : Owing) (notes : List Note) → OwedNotes o.log.owed o notes → words_in notes ≡ owed_words (owed_of o)
owed_told o notes owes = by o.log.owed owes
  where
    by : (r : Option LogRecord) → OwedNotes r o notes → words_in notes ≡ owed_words (owed_as o r)
    by None none = ap words_in none
    by (Some r) one = ap words_in one.1

-- behind its entry a table is told with these words
pub tells : (o : Owing) (notes first own : List Note) (table : ℕ) (whats : List What) → OwedNotes o.log.owed o first → notes ≡ first ++ own
    → words_in own ≡ map (λ (w : What). (table, w)) whats → NotesOf (owed_of o) table whats notes
tells o notes first own table whats owes notes_are words =
    ap words_in notes_are ∙ (map-append (λ (n : Note). (n.table, n.what)) first own ∙ ap₂ (λ (xs ys : List (ℕ × What)). xs ++ ys) (owed_told o first owes) words)

-- or alone
pub tells_owed : (o : Owing) (notes : List Note) (table : ℕ) → OwedNotes o.log.owed o notes → NotesOf (owed_of o) table [] notes
tells_owed o notes table owes = owed_told o notes owes ∙ sym (append-nil (owed_words (owed_of o)))
