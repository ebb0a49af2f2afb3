-- The tables of the notes that a steward makes.
use Rattle.std.proofs.Common.{◌≡◌, ℕ, List, length, map, sym, ap, subst, ◌∙◌}
use Rattle.std.proofs.lemmas.List.{length-map}
use Rattle.std.proofs.lemmas.Option.{slice_get_within}
use Rattle.leaf_table.specs.Turns.{Shared}
use Rattle.leaf_table.specs.Calls.{name_of}
use Rattle.leaf_words.specs.declared.note.Note.{Note}
use Rattle.leaf_steward.specs.Seated.{Seated}
use Rattle.leaf_steward.specs.Making.{Makes, OneEntry}
use Rattle.player.specs.Meeting.{ArePlaces}

same_count : (clock : ℕ) (x y : Seated) (note : Note) → OneEntry clock x note y → length y.tables ≡ length x.tables
same_count clock x y note one = ap (λ (z : Seated). length z.tables) one.now

-- each note is of one of the leaf's tables
pub notes_at : (from to : ℕ) (x : Seated) (notes : List Note) (y : Seated) → Makes from to x notes y → ArePlaces (length x.tables) notes
notes_at from to x notes y (Makes.none f t a ns b later empty same) = subst (ArePlaces (length x.tables)) (sym empty) tt
notes_at from to x notes y (Makes.more f t a ns b clock note rest between later one others is) =
    subst (ArePlaces (length x.tables)) (sym is)
    (slice_get_within x.tables note.table one.table one.at, subst (λ (n : ℕ). ArePlaces n rest) (same_count clock x between note one) (notes_at clock to between rest y others))

-- as many tables as names
pub count_of : (tables : List Shared) (names : List (List ℕ)) → map name_of tables ≡ names → length tables ≡ length names
count_of tables names is = sym (length-map tables name_of) ∙ ap length is
