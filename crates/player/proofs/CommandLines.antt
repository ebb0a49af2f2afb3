-- The lines of a steward's deed: what they tell, and of which tables.
use Rattle.std.proofs.Common.{◌≡◌, ◌≢◌, ℕ, ◌+◌, ◌-◌, ◌^◌, ◌≤◌, ◌==◌, ◌&&◌, if◌then◌else◌, Bool, true, false, List, [], ◌∷◌, ◌++◌, length, refl, sym, ap, subst, ◌∙◌, append-nil, le_refl, arith, rules}
use Rattle.std.specs.Prelude.{min}
use Rattle.std.specs.List.{AllByRecursion}
use Rattle.std.proofs.lemmas.Bool.{eq-eqb, ne_eqb}
use Rattle.berth_face.specs.Berth.{Meaning, Passes}
use Rattle.leaf_words.specs.declared.note.Note.{Note}
use Rattle.printed_lines.specs.declared.line.Ending.{Ending}
use Rattle.printed_lines.specs.declared.line.Ending.TheVariants.{Done, Stopped, NotUp, NotDown, Started, FaultRegion, FaultRoom, FaultDisk, FaultDamaged, FaultMemory, FaultStranger, FaultWorn}
use Rattle.printed_lines.specs.declared.line.Ending.TheVariants as ending
use Rattle.printed_lines.specs.declared.line.Line.TheVariants as line
use Rattle.printed_lines.specs.Lines.{EndsOf, IsOf}
use Rattle.printed_lines.specs.declared.line.Deed.{Deed}
use Rattle.transcript.specs.Pieces.{Piece, Acted, lines_in, piece_lines}
use Rattle.transcript.specs.Counts.{CountRose, CountsRose, deeds_in, is_disk_fault, is_region_fault, reads_disk}
use Rattle.player.specs.Lines.{note_lines}
use Rattle.leaf_deeds.specs.Moves.{FaultRose}
use Rattle.player.specs.Meeting.{ArePlaces}

-- ---- the lines of a deed

-- lines that were told, with the ending behind them
pub one_piece : (p : Piece) → lines_in (p ∷ []) ≡ piece_lines p
one_piece p = append-nil (piece_lines p)

-- ---- faults, and reads of the disk

least : (a b : ℕ) → min a b ≤ a
least a b = search rules

-- where no fault is told, none need have been counted
not_more : (old new : ℕ) → old ≤ new → CountRose old new 0
not_more old new later = omega (arith, later, least (old + 0) (2 ^ 64 - 1))

pub none_told : (old count : ℕ) → count ≡ 0 → CountRose old old count
none_told old count none = subst (λ (k : ℕ). CountRose old old k) (sym none) (not_more old old (le_refl old))

abbrev pub one_if : Bool → ℕ
one_if true = 1
one_if false = 0

-- of a deed of the leaf itself, one is counted where it is such
one_such : (number : ℕ) (b : Bool) → (if (number == number) && b then 1 else 0) + 0 ≡ one_if b
one_such number true = ap (λ (c : Bool). (if c && true then 1 else 0) + 0) (eq-eqb number number refl)
one_such number false = ap (λ (c : Bool). (if c && false then 1 else 0) + 0) (eq-eqb number number refl)

region_rose : (ends : Ending) (m m' : Meaning) → Passes m m' → FaultRose ends m m' → CountRose m.region_faults m'.region_faults (one_if (is_region_fault ends))
region_rose FaultRegion m m' time rose = rose
region_rose FaultRoom m m' time rose = not_more m.region_faults m'.region_faults time.region_faults
region_rose FaultDisk m m' time rose = not_more m.region_faults m'.region_faults time.region_faults
region_rose FaultDamaged m m' time rose = not_more m.region_faults m'.region_faults time.region_faults
region_rose FaultMemory m m' time rose = not_more m.region_faults m'.region_faults time.region_faults
region_rose (FaultStranger name) m m' time rose = not_more m.region_faults m'.region_faults time.region_faults
region_rose (FaultWorn table) m m' time rose = not_more m.region_faults m'.region_faults time.region_faults
region_rose Done m m' time rose = not_more m.region_faults m'.region_faults time.region_faults
region_rose Stopped m m' time rose = not_more m.region_faults m'.region_faults time.region_faults
region_rose NotUp m m' time rose = not_more m.region_faults m'.region_faults time.region_faults
region_rose NotDown m m' time rose = not_more m.region_faults m'.region_faults time.region_faults
region_rose ending.Worn m m' time rose = not_more m.region_faults m'.region_faults time.region_faults
region_rose (Started way) m m' time rose = not_more m.region_faults m'.region_faults time.region_faults

disk_rose : (ends : Ending) (m m' : Meaning) → Passes m m' → FaultRose ends m m' → CountRose m.disk_faults m'.disk_faults (one_if (is_disk_fault ends))
disk_rose FaultRegion m m' time rose = not_more m.disk_faults m'.disk_faults time.disk_faults
disk_rose FaultRoom m m' time rose = not_more m.disk_faults m'.disk_faults time.disk_faults
disk_rose FaultDisk m m' time rose = rose
disk_rose FaultDamaged m m' time rose = not_more m.disk_faults m'.disk_faults time.disk_faults
disk_rose FaultMemory m m' time rose = not_more m.disk_faults m'.disk_faults time.disk_faults
disk_rose (FaultStranger name) m m' time rose = not_more m.disk_faults m'.disk_faults time.disk_faults
disk_rose (FaultWorn table) m m' time rose = not_more m.disk_faults m'.disk_faults time.disk_faults
disk_rose Done m m' time rose = not_more m.disk_faults m'.disk_faults time.disk_faults
disk_rose Stopped m m' time rose = not_more m.disk_faults m'.disk_faults time.disk_faults
disk_rose NotUp m m' time rose = not_more m.disk_faults m'.disk_faults time.disk_faults
disk_rose NotDown m m' time rose = not_more m.disk_faults m'.disk_faults time.disk_faults
disk_rose ending.Worn m m' time rose = not_more m.disk_faults m'.disk_faults time.disk_faults
disk_rose (Started way) m m' time rose = not_more m.disk_faults m'.disk_faults time.disk_faults

not_read : (b : Bool) → one_if b ≡ 0 → b ≡ false
not_read true none = absurd (omega (arith, none))
not_read false none = refl

pub counted : (number : ℕ) (deed : Deed) (notes : List Note) (ends : Ending) (m m' : Meaning) → Passes m m' → FaultRose ends m m'
    → (reads_disk deed ends ≡ false → m'.disk_reads ≡ m.disk_reads) → CountsRose number (Acted number deed notes ends ∷ []) m m'
counted number deed notes ends m m' time rose same = record {
  region = subst (CountRose m.region_faults m'.region_faults) (sym (one_such number (is_region_fault ends))) (region_rose ends m m' time rose);
  disk = subst (CountRose m.disk_faults m'.disk_faults) (sym (one_such number (is_disk_fault ends))) (disk_rose ends m m' time rose);
  reads = λ none. same (not_read (reads_disk deed ends) (sym (one_such number (reads_disk deed ends)) ∙ none));
}

-- of another leaf's none
other_such : (number other : ℕ) (b : Bool) → other ≢ number → (if (number == other) && b then 1 else 0) + 0 ≡ 0
other_such number other b apart = ap (λ (c : Bool). (if c && b then 1 else 0) + 0) (ne_eqb number other (λ same. apart (sym same)))

pub calm_other : (number other : ℕ) (deed : Deed) (notes : List Note) (ends : Ending) (test : Deed → Ending → Bool) → other ≢ number → deeds_in test other (Acted number deed notes ends ∷ []) ≡ 0
calm_other number other deed notes ends test apart = other_such number other (test deed ends) apart

-- ---- tables

fit_all : (number : ℕ) (names : List (List ℕ)) (deed : Deed) (ends : Ending) (notes : List Note) → ArePlaces (length names) notes → EndsOf names ends
    → AllByRecursion (IsOf names) (note_lines number notes ++ line.Ended deed number ends ∷ [])
fit_all number names deed ends [] places ended = (ended, tt)
fit_all number names deed ends (n ∷ ns) places ended = (places.0, fit_all number names deed ends ns places.1 ended)

pub deed_fits : (number : ℕ) (names : List (List ℕ)) (deed : Deed) (notes : List Note) (ends : Ending) → ArePlaces (length names) notes → EndsOf names ends
    → AllByRecursion (IsOf names) (lines_in (Acted number deed notes ends ∷ []))
deed_fits number names deed notes ends places ended =
    subst (AllByRecursion (IsOf names)) (sym (one_piece (Acted number deed notes ends))) (fit_all number names deed ends notes places ended)
