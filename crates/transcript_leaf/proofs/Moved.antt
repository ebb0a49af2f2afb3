-- What a deed of the steward leaves: the leaf in its place, its next start, and what stands of its berth.
use Rattle.std.proofs.Common.{◌≡◌, ℕ, true, false, List, [], ◌∷◌, ◌++◌, length, map, Option, Some, None, sym, ap, subst, ◌∙◌, le_refl, arith}
use Rattle.std.specs.Prelude.{IsTrue, IfSome, slice_get}
use Rattle.berth_face.specs.Berth.{Meaning}
use Rattle.leaf_table.specs.Turns.{Shared}
use Rattle.leaf_table.specs.Calls.{name_of}
use Rattle.leaf_words.specs.declared.note.Note.{Note}
use Rattle.leaf_steward.proofs.Keeping.{makes_tables}
use Rattle.leaf_machine.proofs.StartMakes.{makes_names}
use Rattle.printed_lines.specs.declared.line.Ending.{Ending}
use Rattle.printed_lines.specs.declared.line.Deed.{Deed}
use Rattle.transcript.specs.Pieces.{Acted, Piece}
use Rattle.transcript.specs.Life.{Columns, Life, durable_with}
use Rattle.transcript.specs.Transcript.{Known}
use Rattle.leaf_moves.specs.Stage.{Carries, Leaf, seated_of}
use Rattle.leaf_moves.specs.Steps.{Moves}
use Rattle.transcript_leaf.specs.Session.{HaveKnownBase, AreInPlace, FitsNext, IsDurable, KnownLeaf}
use Rattle.transcript_leaf.specs.Acting.{CountsGo, Lived, loses_counts}
use Rattle.transcript_leaf.proofs.CountingNotes.{are_founded, makes_seats, seat_there}
use Rattle.transcript_leaf.proofs.Durable.{durable_moves}
use Rattle.transcript_leaf.proofs.Named.{named_act}
use Rattle.transcript_leaf.proofs.Owned.{owned}
use Rattle.transcript_leaf.proofs.Standing.{stands_carried, told_on}
use Rattle.transcript_leaf.proofs.Modes.{Stood}

-- ---- the leaf behind the steward's entries

module _ (names : List (List ℕ)) (met moved : Leaf) (notes : List Note) (m m' : Meaning) (in_place : AreInPlace names (seated_of met)) (carries : Carries met moved notes m m') where
  same_tables : (seated_of moved).tables ≡ (seated_of met).tables
  same_tables = makes_tables m.clock m'.clock (seated_of met) notes (seated_of moved) carries.made

  pub place_moved : AreInPlace names (seated_of moved)
  place_moved = record {
    named = ap (λ (ts : List Shared). map name_of ts) same_tables ∙ in_place.named;
    same_names = makes_names m.clock m'.clock (seated_of met) notes (seated_of moved) carries.made ∙ in_place.same_names;
    seats = makes_seats m.clock m'.clock (seated_of met) notes (seated_of moved) carries.made ∙ in_place.seats;
    distinct = in_place.distinct;
  }

  -- a table, as it was before the steward's entries
  pub table_before : (place : ℕ) (t : Shared) → slice_get (seated_of moved).tables place ≡ Some t → slice_get (seated_of met).tables place ≡ Some t
  table_before place t at = ap (λ (ts : List Shared). slice_get ts place) (sym same_tables) ∙ at

  pub known_base_moved : (kn : Option Known) → HaveKnownBase kn (seated_of met) → HaveKnownBase kn (seated_of moved)
  known_base_moved kn known_base = λ place t v at sat.
      let here = table_before place t at in
      let before = seat_there names (seated_of met) in_place place t here in
      known_base place t before.0 here before.1

-- ---- what the next start opens

-- nothing is claimed of a berth of which nothing is known
none_durable : (deed : Deed) (life next : Life) (notes : List Note) (ends : Ending) (moved : Leaf) (m' : Meaning) → CountsGo None deed life notes ends next moved m' → life.durable ≡ None → next.durable ≡ None
none_durable deed life next notes ends moved m' (CountsGo.keeps calm e) none = e ∙ ap (λ (d : Option (List ℕ)). durable_with d notes) none
none_durable deed life next notes ends moved m' (CountsGo.lost e) none = e
none_durable deed life next notes ends moved m' (CountsGo.opened counts e are) none = e

module _ (names : List (List ℕ)) (k : Known) (deed : Deed) (life next : Life) (m m' : Meaning) (met : Leaf) (notes : List Note) (ends : Ending) (moved : Leaf)
    (given : Stood names (Some k) life met m) (carries : Carries met moved notes m m') (moves : Moves deed m m' met notes ends moved) where
  abbrev AreDurable : Option (List ℕ) → Type 0
  AreDurable durable = IfSome durable (λ counts. IsDurable k.base counts moved m')

  counts_kept : (durable : Option (List ℕ)) → loses_counts deed ends ≡ false → IfSome durable (λ counts. IsDurable k.base counts met m) → AreDurable (durable_with durable notes)
  counts_kept None calm h = tt
  counts_kept (Some counts) calm h = durable_moves names k counts deed m m' met notes ends moved moves calm
      (record { in_place = given.in_place; known_base = given.known_base; stewards = given.stewards; known = given.stands; carries = carries; durable = h })

  counts_on : CountsGo (Some k) deed life notes ends next moved m' → AreDurable next.durable
  counts_on (CountsGo.keeps calm e) = subst AreDurable (sym e) (counts_kept life.durable calm given.next.1)
  counts_on (CountsGo.lost e) = subst AreDurable (sym e) tt
  counts_on (CountsGo.opened counts e are) = subst AreDurable (sym e) are

pub next_moved : (names : List (List ℕ)) (kn : Option Known) (deed : Deed) (life : Life) (m m' : Meaning) (met : Leaf) (notes : List Note) (ends : Ending) (moved : Leaf)
    → Stood names kn life met m → Carries met moved notes m m' → Moves deed m m' met notes ends moved
    → (lived : Lived kn (length names) deed life notes ends moved m') → FitsNext kn lived.next moved m'
next_moved names None deed life m m' met notes ends moved given carries moves lived = (lived.way, none_durable deed life lived.next notes ends moved m' lived.counts given.next.1)
next_moved names (Some k) deed life m m' met notes ends moved given carries moves lived =
    (lived.way, counts_on names k deed life lived.next m m' met notes ends moved given carries moves lived.counts)

-- ---- what stands of the berth

pub known_moved : (number : ℕ) (names : List (List ℕ)) (kn : Option Known) (old : Meaning) (deed : Deed) (life : Life) (pieces : List Piece) (m m' : Meaning) (met : Leaf) (notes : List Note) (ends : Ending) (moved : Leaf)
    → Stood names kn life met m → Moves deed m m' met notes ends moved → Carries met moved notes m m'
    → (lived : Lived kn (length names) deed life notes ends moved m')
    → IfSome kn (KnownLeaf number names old life pieces met m)
    → IfSome kn (KnownLeaf number names old lived.next (pieces ++ Acted number deed notes ends ∷ []) moved m')
known_moved number names None old deed life pieces m m' met notes ends moved given moves carries lived s = tt
known_moved number names (Some k) old deed life pieces m m' met notes ends moved given moves carries lived s =
    let on = stands_carried names k.base met moved notes m m' s.now.tells given.in_place given.known_base s.now.sound s.now.stands carries in
    let columns : Columns = record { least = λ handed. 0; most = lived.hands.most; bulk = lived.hands.bulk } in
    let does = lived.does columns (omega arith) (λ is. (le_refl lived.hands.most, le_refl lived.hands.bulk)) in
    record {
      now = record { tells = subst IsTrue (sym on.told.passes.tells) s.now.tells; sound = s.now.sound; stands = on.stands };
      told = told_on k.base names met moved old m m' s.told on;
      named = named_act number names columns k.held life pieces deed m m' met notes ends moved lived.next s.now.tells given.mode given.in_place.same_names moves does s.named;
      own = λ begun.
          owned names k.base m m' met moved notes ends given.in_place s.now.tells (are_founded names (seated_of met) given.in_place k.base given.known_base) s.now.stands on life lived.next s.own begun
          true (length names) columns deed moves does;
    }
