-- What the steward's entries leave: its seats are as they have to be, at the same tables.
use Rattle.std.proofs.Common.{◌≡◌, ◌≢◌, ℕ, ◌≤◌, true, List, [], ◌∷◌, ◌++◌, Option, refl, sym, ap, ◌∙◌, subst, le_trans}
use Rattle.std.specs.List.{AllByRecursion}
use Rattle.leaf_history.specs.Calls.{Call}
use Rattle.leaf_history.specs.Calls as call
use Rattle.leaf_history.specs.Replies.{EntryReply}
use Rattle.leaf_history.specs.Replies as reply
use Rattle.leaf_table.specs.declared.base.TableBase.{TableBase}
use Rattle.leaf_table.specs.Turns.{Shared, is_founded}
use Rattle.leaf_table.specs.Calls.{SeatView, Made, base_seen}
use Rattle.leaf_words.specs.declared.note.Note.{Note}
use Rattle.leaf_words.specs.declared.note.What.{What}
use Rattle.leaf_words.specs.declared.note.What.TheVariants.{Opened, Took, Flushed, Closed, Handed}
use Rattle.leaf_steward.specs.Seated.{Seated, AtEach, AreSeated, AreFounded}
use Rattle.leaf_steward.specs.Making.{MadeAs, Makes, OneEntry}
use Rattle.leaf_steward.proofs.Seating.{each_with, keeps_seated, seated_with}

-- some entry was made
pub record SomeEntry (base : Option TableBase) (clock : ℕ) (v w : SeatView) : Type 0 where
  pub call : Call
  pub reply : EntryReply
  pub made : Made base clock v call reply w

pub some_entry : (base : Option TableBase) (clock : ℕ) (v : SeatView) (what : What) (w : SeatView) → MadeAs base clock v what w → SomeEntry base clock v w
some_entry base clock v (Opened n) w m = record { call = call.Open n m.0; reply = reply.Noted; made = m.1 }
some_entry base clock v (Took n) w m = record { call = call.Take; reply = reply.Counted n; made = m }
some_entry base clock v (Flushed n) w m = record { call = call.Flushed n; reply = reply.Noted; made = m }
some_entry base clock v (Closed n) w m = record { call = call.Shut; reply = reply.Counted n; made = m }
some_entry base clock v Handed w m = record { call = call.Done; reply = reply.Noted; made = m }

-- ---- one entry

pub entry_tables : (clock : ℕ) (x : Seated) (note : Note) (y : Seated) → OneEntry clock x note y → y.tables ≡ x.tables
entry_tables clock x note y one = ap (λ (s : Seated). s.tables) one.now

pub entry_seated : (clock : ℕ) (x : Seated) (note : Note) (y : Seated) → AreSeated x → OneEntry clock x note y → AreSeated y
entry_seated clock x note y s one =
    let some = some_entry (base_seen one.table) clock one.before note.what one.after one.made in
    let seated = keeps_seated one.table clock one.before one.after some.call some.reply (s.each note.table one.table one.before one.at one.was) some.made in
    subst AreSeated (sym one.now) (seated_with x note.table one.table one.after s one.at seated)

-- what is left of each table and seat, where the entry leaves it at its own
pub entry_each : (P Q : ℕ → Shared → SeatView → Type 0) (clock : ℕ) (x : Seated) (note : Note) (y : Seated) → (one : OneEntry clock x note y)
    → ((p : ℕ) (u : Shared) (v : SeatView) → p ≢ note.table → P p u v → Q p u v) → Q note.table one.table one.after → AtEach P x → AtEach Q y
entry_each P Q clock x note y one others here each = subst (AtEach Q) (sym one.now) (each_with P Q x note.table one.table one.after one.at others here each)

-- the same tables are founded
pub founded_as : (x y : Seated) → y.tables ≡ x.tables → AreFounded x → AreFounded y
founded_as x y same founded = subst (AllByRecursion (λ (t : Shared). is_founded (base_seen t) ≡ true)) (sym same) founded

-- ---- many

pub makes_tables : (from to : ℕ) (x : Seated) (notes : List Note) (y : Seated) → Makes from to x notes y → y.tables ≡ x.tables
makes_tables from to x notes y (Makes.none f u a ns b le is same) = ap (λ (s : Seated). s.tables) same
makes_tables from to x notes y (Makes.more f u a ns b clock first rest between le one makes is) = makes_tables clock to between rest y makes ∙ entry_tables clock x first between one

pub makes_seated : (from to : ℕ) (x : Seated) (notes : List Note) (y : Seated) → AreSeated x → Makes from to x notes y → AreSeated y
makes_seated from to x notes y s (Makes.none f u a ns b le is same) = subst AreSeated (sym same) s
makes_seated from to x notes y s (Makes.more f u a ns b clock first rest between le one makes is) = makes_seated clock to between rest y (entry_seated clock x first between s one) makes

pub makes_order : (from to : ℕ) (x : Seated) (notes : List Note) (y : Seated) → Makes from to x notes y → from ≤ to
makes_order from to x notes y (Makes.none f u a ns b low is same) = low
makes_order from to x notes y (Makes.more f u a ns b clock first rest between low one makes is) = le_trans low (makes_order clock to between rest y makes)

pub makes_one : (from clock to : ℕ) (x : Seated) (note : Note) (y : Seated) → from ≤ clock → clock ≤ to → OneEntry clock x note y → Makes from to x (note ∷ []) y
makes_one from clock to x note y low high one = Makes.more from to x (note ∷ []) y clock note [] y low one (Makes.none clock to y [] y high refl refl) refl

-- they were made since an earlier clock too
pub makes_since : (a b c : ℕ) (x : Seated) (notes : List Note) (y : Seated) → a ≤ b → Makes b c x notes y → Makes a c x notes y
makes_since a b c x notes y low (Makes.none f u i ns o high is same) = Makes.none a c x notes y (le_trans low high) is same
makes_since a b c x notes y low (Makes.more f u i ns o clock first rest between from one makes is) = Makes.more a c x notes y clock first rest between (le_trans low from) one makes is

pub makes_join : (a b c : ℕ) (x y z : Seated) (xs ys : List Note) → Makes a b x xs y → Makes b c y ys z → Makes a c x (xs ++ ys) z
makes_join a b c x y z xs ys (Makes.none f u i ns o low is same) later =
    subst (λ (l : List Note). Makes a c x (l ++ ys) z) (sym is) (subst (λ (s : Seated). Makes a c s ys z) same (makes_since a b c y ys z low later))
makes_join a b c x y z xs ys (Makes.more f u i ns o clock first rest between low one makes is) later =
    Makes.more a c x (xs ++ ys) z clock first (rest ++ ys) between low one (makes_join clock b c between y z rest ys makes later) (ap (λ (l : List Note). l ++ ys) is)
