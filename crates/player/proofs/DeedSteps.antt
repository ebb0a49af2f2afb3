-- What each deed of a leaf's steward comes to, from its calls.
use Rattle.std.proofs.Common.{◌≡◌, ℕ, false, List, [], ◌∷◌, length, Option, Result, Vec, Global, refl, sym, ap, subst, ◌∙◌, arith}
use Rattle.std.specs.Prelude.{IfOk}
use Rattle.std.proofs.lemmas.Option.{slice_get_within}
use Rattle.std.proofs.lemmas.Result.{IfOk-weaker}
use Rattle.berth_face.specs.Berth.{Meaning, Passes}
use Rattle.leaf_table.specs.Calls.{SeatView}
use Rattle.leaf_words.specs.declared.note.Note.{Note}
use Rattle.leaf_steward.specs.Seated.{Seated}
use Rattle.leaf_machine.specs.declared.faults.StartFault.{StartFault}
use Rattle.leaf_machine.specs.declared.faults.StartFault.TheVariants as fault
use Rattle.leaf_machine.specs.declared.up.FlushReply.{FlushReply}
use Rattle.leaf_machine.specs.declared.up.FlushReply.TheVariants as reply
use Rattle.printed_lines.specs.declared.line.Ending.{Ending}
use Rattle.printed_lines.specs.declared.line.Line.{Line}
use Rattle.printed_lines.specs.Lines.{EndsOf}
use Rattle.printed_lines.specs.declared.line.Deed.{Deed}
use Rattle.printed_lines.specs.declared.line.Deed.TheVariants.{Start, Flush, Drain, Kill}
use Rattle.transcript.specs.Pieces.{Acted, lines_in}
use Rattle.transcript.specs.Counts.{reads_disk}
use Rattle.leaf_moves.specs.Stage.{Leaf, seated_of, Carries, MeetAll}
use Rattle.leaf_moves.proofs.Drains.{by_endings}
use Rattle.leaf_moves.specs.Steps as step
use Rattle.leaf_moves.specs.Steps.{Moves, StartMoves, FlushMoves, KillMoves, DrainMoves, IsTrueOf, ending_of, ending_of_flush}
use Rattle.leaf_deeds.specs.Held.{KeepsSeats}
use Rattle.player.specs.Stage.{IsMember}
use Rattle.player.specs.Lines.{AreEnded}
use Rattle.player.specs.declared.answer.DeedOutcome.{DeedOutcome}
use Rattle.player.specs.Commands.{ActsWith, answer_of}
use Rattle.leaf_deeds.specs.Moves.{FaultRose}
use Rattle.player.specs.Meeting.{ArePlaces}
use Rattle.player.proofs.NoteTables.{notes_at, count_of}
use Rattle.player.proofs.CommandLines.{counted, deed_fits, one_piece}

-- ---- how a deed ends

worn_fits : (names : List (List ℕ)) (x : Seated) (f : StartFault) → length x.seats ≡ length names → IsTrueOf x f → EndsOf names (ending_of f)
worn_fits names x fault.RegionFault count worn = tt
worn_fits names x fault.DiskFault count worn = tt
worn_fits names x fault.DiskDamaged count worn = tt
worn_fits names x (fault.Stranger name) count worn = tt
worn_fits names x fault.NoMemory count worn = tt
worn_fits names x (fault.Worn table) count worn = omega (arith, slice_get_within x.seats table worn.0 worn.1, count)

flush_fits : (names : List (List ℕ)) (r : FlushReply) → EndsOf names (ending_of_flush r)
flush_fits names reply.Flushed = tt
flush_fits names reply.DiskFault = tt
flush_fits names reply.Worn = tt

start_ends : (names : List (List ℕ)) (m m' : Meaning) (x : Seated) (leaf : Leaf) (notes : List Note) (ends : Ending) (leaf' : Leaf)
    → length x.seats ≡ length names → KeepsSeats x (seated_of leaf) → StartMoves m m' leaf notes ends leaf' → EndsOf names ends
start_ends names m m' x leaf notes ends leaf' fits keeps (step.opened y s way at owed each told ended is) = subst (EndsOf names) (sym ended) tt
start_ends names m m' x leaf notes ends leaf' fits keeps (step.refused y f at worn sound told empty ended is) =
    let count : length y.seats ≡ length names = ap (λ (l : Leaf). length (seated_of l).seats) (sym at) ∙ (keeps.seats ∙ fits) in
    subst (EndsOf names) (sym ended) (worn_fits names y f count worn)
start_ends names m m' x leaf notes ends leaf' fits keeps (step.not_down up empty held ended is) = subst (EndsOf names) (sym ended) tt

flush_ends : (names : List (List ℕ)) (table : ℕ) (m m' : Meaning) (leaf : Leaf) (notes : List Note) (ends : Ending) (leaf' : Leaf) → FlushMoves table m m' leaf notes ends leaf' → EndsOf names ends
flush_ends names table m m' leaf notes ends leaf' (step.flushed s t r at flushes region ended is) = subst (EndsOf names) (sym ended) (flush_fits names r)
flush_ends names table m m' leaf notes ends leaf' (step.not_up down empty held ended is) = subst (EndsOf names) (sym ended) tt

kill_ends : (names : List (List ℕ)) (m m' : Meaning) (leaf : Leaf) (notes : List Note) (ends : Ending) (leaf' : Leaf) → KillMoves m m' leaf notes ends leaf' → EndsOf names ends
kill_ends names m m' leaf notes ends leaf' (step.up s y at each held ended is) = subst (EndsOf names) (sym ended) tt
kill_ends names m m' leaf notes ends leaf' (step.preparing x y count at all each held ended is) = subst (EndsOf names) (sym ended) tt
kill_ends names m m' leaf notes ends leaf' (step.not_up down empty held ended is) = subst (EndsOf names) (sym ended) tt

drain_ends : (names : List (List ℕ)) (m m' : Meaning) (leaf : Leaf) (stop : Option ℕ) (notes : List Note) (ends : Ending) (leaf' : Leaf) → DrainMoves m m' leaf stop notes ends leaf' → EndsOf names ends
drain_ends names m m' leaf stop notes ends leaf' moves = by_endings (EndsOf names) tt tt tt tt tt tt tt m m' leaf stop notes ends leaf' moves

deed_ends : (names : List (List ℕ)) (deed : Deed) (m m' : Meaning) (x : Seated) (leaf : Leaf) (notes : List Note) (ends : Ending) (leaf' : Leaf)
    → length x.seats ≡ length names → KeepsSeats x (seated_of leaf) → Moves deed m m' leaf notes ends leaf' → EndsOf names ends
deed_ends names Start m m' x leaf notes ends leaf' fits keeps moves = start_ends names m m' x leaf notes ends leaf' fits keeps moves
deed_ends names (Flush table) m m' x leaf notes ends leaf' fits keeps moves = flush_ends names table m m' leaf notes ends leaf' moves
deed_ends names (Drain stop) m m' x leaf notes ends leaf' fits keeps moves = drain_ends names m m' leaf stop notes ends leaf' moves
deed_ends names Kill m m' x leaf notes ends leaf' fits keeps moves = kill_ends names m m' leaf notes ends leaf' moves

-- ---- a deed between two meetings, which do not touch the berth

module _ {B E : Type 0} (number : ℕ) (meaning : B → Meaning) (b b1 b2 b3 : B) (leaf met moved after : Leaf) (callers met_callers after_callers : List (Option SeatView)) (notes : List Note) (ends : Ending)
    (names : List (List ℕ)) (deed : Deed) (answer : DeedOutcome) (result : Result (Vec Line Global) E) (rows : List (List SeatView)) (first_berth : b1 ≡ b) (second_berth : b3 ≡ b2) where
  between : (P : Meaning → Meaning → Type 0) → P (meaning b1) (meaning b2) → P (meaning b) (meaning b3)
  between P p = subst (λ (x : B). P (meaning x) (meaning b3)) first_berth (subst (λ (x : B). P (meaning b1) (meaning x)) (sym second_berth) p)

  -- each note is of one of the leaf's tables
  places : IsMember names number (seated_of leaf) rows → KeepsSeats (seated_of leaf) (seated_of met) → Carries met moved notes (meaning b1) (meaning b2) → ArePlaces (length names) notes
  places fits keeps carries =
      let count : length (seated_of met).tables ≡ length names = ap length keeps.tables ∙ count_of (seated_of leaf).tables names fits.names_are in
      subst (λ (n : ℕ). ArePlaces n notes) count (notes_at (meaning b1).clock (meaning b2).clock (seated_of met) notes (seated_of moved) carries.made)

  pub acts : IsMember names number (seated_of leaf) rows → KeepsSeats (seated_of leaf) (seated_of met)
      → MeetAll leaf callers met met_callers (meaning b)
      → MeetAll moved met_callers after after_callers (meaning b2)
      → Moves deed (meaning b1) (meaning b2) met notes ends moved
      → Carries met moved notes (meaning b1) (meaning b2)
      → Passes (meaning b1) (meaning b2)
      → FaultRose ends (meaning b1) (meaning b2)
      → (reads_disk deed ends ≡ false → (meaning b2).disk_reads ≡ (meaning b1).disk_reads)
      → IfOk result (λ lines. AreEnded number deed notes ends lines.items)
      → answer ≡ answer_of ends
      → ActsWith meaning names number deed leaf callers b answer result after after_callers b3
  acts fits keeps first second moves carries time cause reads told answered = record {
    piece = Acted number deed notes ends;
    step = record {
      met = met;
      met_callers = met_callers;
      moved = moved;
      notes = notes;
      ends = ends;
      first = first;
      moves = between (λ (m m' : Meaning). Moves deed m m' met notes ends moved) moves;
      carries = between (Carries met moved notes) carries;
      second = subst (λ (x : B). MeetAll moved met_callers after after_callers (meaning x)) (sym second_berth) second;
      piece_is = refl;
    };
    counted = counted number deed notes ends (meaning b) (meaning b3) (between Passes time) (between (FaultRose ends) cause)
        (between (λ (m m' : Meaning). reads_disk deed ends ≡ false → m'.disk_reads ≡ m.disk_reads) reads);
    fit = deed_fits number names deed notes ends (places fits keeps carries)
        (deed_ends names deed (meaning b1) (meaning b2) (seated_of leaf) met notes ends moved fits.seats keeps moves);
    answered = answered;
    lines_are = IfOk-weaker result (λ lines. AreEnded number deed notes ends lines.items) (λ lines. lines.items ≡ lines_in (Acted number deed notes ends ∷ []))
        (λ lines are. are ∙ sym (one_piece (Acted number deed notes ends))) told;
  }
