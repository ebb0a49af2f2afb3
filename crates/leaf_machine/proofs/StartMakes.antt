-- Entries that were made one after another.
use Rattle.std.proofs.Common.{◌≡◌, ◌∙◌, ℕ, suc, List, [], ◌∷◌, length, refl, sym, ap, subst}
use Rattle.table_state.specs.Tables.{Table}
use Rattle.leaf_words.specs.declared.note.Note.{Note}
use Rattle.leaf_words.specs.declared.note.What.{What}
use Rattle.leaf_steward.specs.Seated.{Seated}
use Rattle.leaf_steward.specs.Making.{EachNoted, Makes, OpenedNotes}
use Rattle.leaf_machine.specs.Starts.{IsOpenedNote}

pub makes_names : (from to : ℕ) (x : Seated) (notes : List Note) (y : Seated) → Makes from to x notes y → y.names ≡ x.names
makes_names from to x notes y (Makes.none f u a ns b low no_note same) = ap (λ (s : Seated). s.names) same
makes_names from to x notes y (Makes.more f u a ns b clock note rest between low one makes all) = makes_names clock to between rest y makes ∙ ap (λ (s : Seated). s.names) one.now

-- each table was noted as opened
pub opened_each : (place : ℕ) (ts : List Table) (notes : List Note) → OpenedNotes place ts notes → EachNoted IsOpenedNote place (length ts) notes
opened_each place [] notes none = subst (λ (ns : List Note). EachNoted IsOpenedNote place 0 ns) (sym none) refl
opened_each place (t ∷ ts) [] none = absurd none
opened_each place (t ∷ ts) (note ∷ notes) each =
    (length ts, refl, each.0, subst (λ (w : What). IsOpenedNote w) (sym each.1) tt, opened_each (suc place) ts notes each.2)
