-- What the starts of a leaf find of strangers until it is first up: just those of what the run was handed.
use Rattle.std.proofs.Common.{◌≡◌, ◌⊎◌, ◌∙◌, inl, inr, ℕ, Bool, true, false, List, [], ◌∷◌, ◌++◌, length, Option, Some, Result, Ok, Err, refl, sym, ap, subst, arith, append_assoc}
use Rattle.std.specs.Prelude.{IsTrue, slice_index}
use Rattle.std.proofs.lemmas.Bool.{cases_eq, cases_lt}
use Rattle.berth_face.specs.Berth.{Meaning, Pair, IsClosed}
use Rattle.disk_backup.specs.Scanning.{BeginsScan}
use Rattle.leaf_words.specs.declared.ways.Way.{Way}
use Rattle.leaf_words.specs.declared.ways.Way.TheVariants.{Memory, Disk}
use Rattle.leaf_opening.specs.declared.ways.OpenFault.{OpenFault}
use Rattle.leaf_opening.specs.declared.ways.OpenFault.TheVariants as opening
use Rattle.leaf_opening.specs.Answers.{IsAnswer}
use Rattle.leaf_opening.proofs.OneAnswer.{one_answer}
use Rattle.leaf_opening.proofs.Regions.{broken_same, left_closed}
use Rattle.leaf_words.specs.declared.note.Note.{Note}
use Rattle.leaf_machine.specs.declared.faults.StartFault.{StartFault}
use Rattle.leaf_machine.specs.declared.faults.StartFault.TheVariants as fault
use Rattle.leaf_machine.specs.States.{Serving}
use Rattle.leaf_machine.specs.Starts.{IsExactRefusal}
use Rattle.printed_lines.specs.declared.line.Ending.{Ending}
use Rattle.printed_lines.specs.declared.line.Ending.TheVariants as ending
use Rattle.printed_lines.specs.declared.line.Deed.{Deed}
use Rattle.printed_lines.specs.declared.line.Deed.TheVariants.{Start, Flush, Drain, Kill}
use Rattle.transcript.specs.Pieces.{Piece, Acted, Did, deeds}
use Rattle.transcript.specs.Life.{Columns, Life, LifeMode, Down, Up, Owed, Does, OfStart, OfFlush, OfDrain, OfKill, BeginsAt, Progress, StageOfDrain}
use Rattle.transcript.specs.Strangers.{Behind, FitsStrangers, StrangersIn}
use Rattle.transcript.specs.Transcript.{Known, first_life}
use Rattle.leaf_moves.specs.Stage.{Leaf, IsUp, seated_of}
use Rattle.leaf_moves.specs.Steps.{Moves, StartMoves, FlushMoves, DrainMoves, KillMoves, IsDownLeaf, Reaches, RegionRefused, ending_of}
use Rattle.leaf_moves.specs.Modes as moves
use Rattle.transcript_leaf.specs.Session.{AreNamed}
use Rattle.transcript_leaf.proofs.Modes.{down_leaf, refused_told, resting_mode}
use Rattle.transcript_leaf.proofs.AsHanded.{read_named, scan_on, then_read}
use Rattle.transcript_leaf.proofs.Lives.{deeds_act, did}
use Rattle.transcript_leaf.proofs.Ways.{goes_none, goes_own}
use Rattle.transcript_leaf.proofs.Lists.{clash_bool}

-- ---- a life that has begun goes on so

pub begun_of : (next life : Life) → next ≡ life → next.begun ≡ life.begun
begun_of next life now = ap (λ (l : Life). l.begun) now

mode_of : (next life : Life) → next ≡ life → next.mode ≡ life.mode
mode_of next life now = ap (λ (l : Life). l.mode) now

start_begun : (told : Bool) (tables : ℕ) (life next : Life) (m m' : Meaning) (leaf : Leaf) (notes : List Note) (ends : Ending) (leaf' : Leaf) → StartMoves m m' leaf notes ends leaf'
    → OfStart told tables life notes ends next → life.begun ≡ true → next.begun ≡ true
start_begun told tables life next m m' leaf notes ends leaf' (StartMoves.opened x s way is owed each came ended now) does begun =
    let h = subst (λ (e : Ending). OfStart told tables life notes e next) ended does in begun_of next _ h.7
start_begun told tables life next m m' leaf notes ends leaf' (StartMoves.refused x f is worn undamaged why none ended same) does begun =
    begun_of next _ (refused_told told tables life notes f next (subst (λ (e : Ending). OfStart told tables life notes e next) ended does)) ∙ begun
start_begun told tables life next m m' leaf notes ends leaf' (StartMoves.not_down up none still ended same) does begun =
    let h = subst (λ (e : Ending). OfStart told tables life notes e next) ended does in begun_of next life h.2 ∙ begun

-- ---- no deed but a start begins a life, or does anything of a leaf that is down

down_up : (mode : LifeMode) (owed : Option Owed) → mode ≡ Down → mode ≡ Up owed → ⊥
down_up mode owed down up = cc

never_begins : (mode : LifeMode) (p : Progress) → mode ≡ Down → BeginsAt mode p → ⊥
never_begins mode p down begins = subst (λ (a : LifeMode). BeginsAt a p) down begins

pub record Rests (life : Life) (ends : Ending) (next : Life) : Type 0 where
  pub now : next ≡ life
  pub ended : ends ≡ ending.NotUp

pub record Stays (life : Life) (ends : Ending) (next : Life) : Type 0 where
  pub begun : next.begun ≡ life.begun
  pub rests : life.mode ≡ Down → Rests life ends next

-- the leaf was up
stays_up : (life : Life) (ends : Ending) (next then : Life) (owed : Option Owed) → life.mode ≡ Up owed → next ≡ then → then.begun ≡ life.begun → Stays life ends next
stays_up life ends next then owed up now begun = record { begun = begun_of next then now ∙ begun; rests = λ down. absurd (down_up life.mode owed down up) }

-- or up, or shutting its tables
stays_so : (life : Life) (ends : Ending) (next then : Life) (p : Progress) → BeginsAt life.mode p → next ≡ then → then.begun ≡ life.begun → Stays life ends next
stays_so life ends next then p begins now begun = record { begun = begun_of next then now ∙ begun; rests = λ down. absurd (never_begins life.mode p down begins) }

-- nothing was done
stays_still : (life next : Life) → next ≡ life → Stays life ending.NotUp next
stays_still life next now = record { begun = begun_of next life now; rests = λ down. record { now = now; ended = refl } }

pub flush_stays : (table : ℕ) (life : Life) (notes : List Note) (ends : Ending) (next : Life) → OfFlush table life notes ends next → Stays life ends next
flush_stays table life notes ending.Done next h = stays_up life ending.Done next _ h.0 h.2 h.4 refl
flush_stays table life notes ending.FaultDisk next (inl h) = stays_up life ending.FaultDisk next _ h.0 h.2 h.4 refl
flush_stays table life notes ending.FaultDisk next (inr h) = stays_up life ending.FaultDisk next _ (Some h.0) h.1 h.3 refl
flush_stays table life notes ending.Worn next h = stays_up life ending.Worn next _ h.0 h.1 h.3 refl
flush_stays table life notes ending.NotUp next h = stays_still life next h.2
flush_stays table life notes ends next h = absurd h

pub drain_stays : (told : Bool) (tables : ℕ) (columns : Columns) (stop : Option ℕ) (life : Life) (notes : List Note) (ends : Ending) (next : Life) → OfDrain told tables columns stop life notes ends next
    → Stays life ends next
drain_stays told tables columns stop life notes ending.Done next h = stays_so life ending.Done next _ h.4.0 h.4.1 h.9 refl
drain_stays told tables columns stop life notes ending.FaultRegion next h = stays_so life ending.FaultRegion next _ h.4.0 h.4.1 h.6 refl
drain_stays told tables columns stop life notes ending.FaultRoom next h = stays_so life ending.FaultRoom next _ h.3.0 h.3.1 h.6 refl
drain_stays told tables columns stop life notes ending.FaultMemory next h = stays_so life ending.FaultMemory next _ h.5.0 h.5.1 h.9 refl
drain_stays told tables columns stop life notes ending.FaultDisk next h = stays_so life ending.FaultDisk next _ h.5.0 h.5.1 h.10 refl
drain_stays told tables columns stop life notes ending.Stopped next h = stays_so life ending.Stopped next _ h.6.0 h.6.1 h.10 refl
drain_stays told tables columns stop life notes ending.NotUp next h = stays_still life next h.2
drain_stays told tables columns stop life notes ends next h = absurd h

pub kill_stays : (tables : ℕ) (life : Life) (notes : List Note) (ends : Ending) (next : Life) → OfKill tables life notes ends next → Stays life ends next
kill_stays tables life notes ending.Done next h = stays_so life ending.Done next _ h.0 h.1 h.3 refl
kill_stays tables life notes ending.NotUp next h = stays_still life next h.2
kill_stays tables life notes ends next h = absurd h

does_begun : (told : Bool) (tables : ℕ) (columns : Columns) (deed : Deed) (life next : Life) (m m' : Meaning) (leaf : Leaf) (notes : List Note) (ends : Ending) (leaf' : Leaf)
    → Moves deed m m' leaf notes ends leaf' → Does told tables columns deed life notes ends next → life.begun ≡ true → next.begun ≡ true
does_begun told tables columns Start life next m m' leaf notes ends leaf' moves does begun = start_begun told tables life next m m' leaf notes ends leaf' moves does begun
does_begun told tables columns (Flush table) life next m m' leaf notes ends leaf' moves does begun = (flush_stays table life notes ends next does).begun ∙ begun
does_begun told tables columns (Drain stop) life next m m' leaf notes ends leaf' moves does begun = (drain_stays told tables columns stop life notes ends next does).begun ∙ begun
does_begun told tables columns Kill life next m m' leaf notes ends leaf' moves does begun = (kill_stays tables life notes ends next does).begun ∙ begun

-- nor touches anything
never_up : (leaf : Leaf) (s : Serving) → IsDownLeaf leaf → leaf ≡ IsUp s → ⊥
never_up leaf s down up = subst (λ (l : Leaf). IsDownLeaf l) up down

flush_held : (table : ℕ) (m m' : Meaning) (leaf : Leaf) (notes : List Note) (ends : Ending) (leaf' : Leaf) → IsDownLeaf leaf → FlushMoves table m m' leaf notes ends leaf' → m'.held ≡ m.held
flush_held table m m' leaf notes ends leaf' down (FlushMoves.flushed s t r up flushes region ended now) = absurd (never_up leaf s down up)
flush_held table m m' leaf notes ends leaf' down (FlushMoves.not_up other none held ended same) = held

kill_held : (m m' : Meaning) (leaf : Leaf) (notes : List Note) (ends : Ending) (leaf' : Leaf) → IsDownLeaf leaf → KillMoves m m' leaf notes ends leaf' → m'.held ≡ m.held
kill_held m m' leaf notes ends leaf' down (KillMoves.up s y up each held ended now) = held
kill_held m m' leaf notes ends leaf' down (KillMoves.preparing x y count is all each held ended now) = held
kill_held m m' leaf notes ends leaf' down (KillMoves.not_up other none held ended same) = held

never_reached : (leaf leaf' : Leaf) (notes : List Note) {copy : ℕ} {s : StageOfDrain} → Reaches leaf leaf' notes copy s → IsDownLeaf leaf → ⊥
never_reached leaf leaf' notes r down = never_begins (moves.mode_of leaf) r.comes.0 (resting_mode leaf down) r.comes.1

drain_held : (stop : Option ℕ) (m m' : Meaning) (leaf : Leaf) (notes : List Note) (ends : Ending) (leaf' : Leaf) → IsDownLeaf leaf → DrainMoves m m' leaf stop notes ends leaf' → m'.held ≡ m.held
drain_held stop m m' leaf notes ending.Done leaf' down h = absurd (never_reached leaf leaf' notes h.1 down)
drain_held stop m m' leaf notes ending.FaultRegion leaf' down h = absurd (never_reached leaf leaf' notes h.2 down)
drain_held stop m m' leaf notes ending.FaultRoom leaf' down h = absurd (never_reached leaf leaf' notes h.1 down)
drain_held stop m m' leaf notes ending.FaultMemory leaf' down h = absurd (never_reached leaf leaf' notes h.2 down)
drain_held stop m m' leaf notes ending.FaultDisk leaf' down h = absurd (never_reached leaf leaf' notes h.2 down)
drain_held stop m m' leaf notes ending.Stopped leaf' down h = absurd (never_reached leaf leaf' notes h.2 down)
drain_held stop m m' leaf notes ending.NotUp leaf' down h = h.2
drain_held stop m m' leaf notes ends leaf' down h = absurd h

-- ---- what a start found

abbrev came : Way → Result Way OpenFault
came way = Ok way

abbrev told_of : OpenFault → Result Way OpenFault
told_of f = Err f

came_not_told : (way : Way) (f : OpenFault) → came way ≡ told_of f → ⊥
came_not_told way f same = absurd cc

-- a region is closed or not
shut_or_open : (region : List ℕ) → IsClosed region ⊎ (IsClosed region → ⊥)
shut_or_open region = elim (cases_lt (length region) 16) [
  | inl short ↦ inl (inl short)
  | inr long ↦ elim (cases_eq (slice_index region 0) 1) [
    | inr other ↦ inl (inr other)
    | inl one ↦ inr (λ closed. elim closed [
      | inl short ↦ omega (arith, short, long)
      | inr other ↦ other one
    ])
  ]
]

-- what holds of the region that a refused start left holds of one that it may have left
behind_refused : (f : StartFault) (m m' : Meaning) (P : List ℕ → Type 0) → RegionRefused f m m' → P m'.held.region → Behind (ending_of f) m.held.region P
behind_refused fault.RegionFault m m' P broken now = elim (shut_or_open m'.held.region) [
  | inl shut ↦ inr (m'.held.region, shut, now)
  | inr opened ↦ inl (subst P (broken_same m.held.region m'.held.region broken opened) now)
]
behind_refused (fault.Worn table) m m' P same now = subst P same now
behind_refused f m m' P left now = (m'.held.region, left_closed m.held.region m'.held.region left, now)

module _ (number : ℕ) (names : List (List ℕ)) (held : Pair) where
  -- the disk reads as it was handed
  abbrev IsRead : Meaning → Type 0
  IsRead m = BeginsScan (length held.disk) held.disk m.held.disk

  -- what is left to be said of a leaf over this region
  abbrev On : List Did → List ℕ → Type 0
  On more region = StrangersIn names held.disk region more

  -- what is to be said of a start or another deed that ended so, and behind it
  abbrev Says : Meaning → Ending → List Did → Type 0
  Says m ends more = FitsStrangers names m.held.region held.disk ends × Behind ends m.held.region (On more)

  -- one that came up found no stranger
  came_fits : (m : Meaning) (way : Way) → IsRead m → IsAnswer names m.held.region m.held.disk (came way) → FitsStrangers names m.held.region held.disk (ending.Started way)
  came_fits m Memory read exact = λ name stranger. came_not_told Memory (opening.Stranger name)
      (one_answer names m.held.region m.held.disk (came Memory) (told_of (opening.Stranger name)) exact (inl stranger))
  came_fits m (Disk w) read exact = (
    goes_own names m.held.region (w, exact.0),
    λ name refusal. came_not_told (Disk w) (opening.Stranger name)
        (one_answer names m.held.region m.held.disk (came (Disk w)) (told_of (opening.Stranger name)) exact (inr ((w, exact.0), then_read names held.disk m.held.disk name read refusal))),
  )

  -- one that was refused told the stranger that there is
  refused_fits : (m : Meaning) (f : StartFault) → IsRead m → IsExactRefusal names m.held f → FitsStrangers names m.held.region held.disk (ending_of f)
  refused_fits m (fault.Stranger name) read exact = elim exact [
    | inl stranger ↦ inl stranger
    | inr logged ↦ inr (goes_own names m.held.region logged.0, goes_none names m.held.region logged.0, read_named names held.disk m.held.disk name read logged.1)
  ]
  refused_fits m f read exact = tt

  -- ---- a deed

  -- what has to be shown of a deed that ended so
  record Goes (life : Life) (ends : Ending) (next : Life) (m m' : Meaning) : Type 0 where
    rest : next.begun ≡ false → (next.mode ≡ Down) × IsRead m'
    on : life.begun ≡ false → (more : List Did) → (next.begun ≡ false → On more m'.held.region) → Says m ends more

  goes_named : (life : Life) (pieces : List Piece) (deed : Deed) (m m' : Meaning) (notes : List Note) (ends : Ending) (next : Life) → Goes life ends next m m' → AreNamed number names held life pieces m
      → AreNamed number names held next (pieces ++ Acted number deed notes ends ∷ []) m'
  goes_named life pieces deed m m' notes ends next goes named = record {
    rest = goes.rest;
    on = λ more all.
        subst (λ (ds : List Did). On ds held.region) (sym (ap (λ (ds : List Did). ds ++ more) (deeds_act number pieces deed notes ends) ∙ append_assoc (deeds number pieces) (did deed notes ends ∷ []) more))
        (named.on (did deed notes ends ∷ more) (λ fresh. goes.on fresh more all));
  }

  begun_goes : (life : Life) (ends : Ending) (next : Life) (m m' : Meaning) → life.begun ≡ true → next.begun ≡ true → Goes life ends next m m'
  begun_goes life ends next m m' begun later = record {
    rest = λ fresh. absurd (clash_bool next.begun later fresh);
    on = λ fresh more all. absurd (clash_bool life.begun begun fresh);
  }

  rests_goes : (life : Life) (ends : Ending) (next : Life) (m m' : Meaning) → life.mode ≡ Down → IsRead m → Rests life ends next → m'.held ≡ m.held → Goes life ends next m m'
  rests_goes life ends next m m' down read rests same = record {
    rest = λ fresh. (mode_of next life rests.now ∙ down, subst (λ (p : Pair). BeginsScan (length held.disk) held.disk p.disk) (sym same) read);
    on = λ fresh more all.
        subst (λ (e : Ending). Says m e more) (sym rests.ended) (tt, subst (λ (p : Pair). On more p.region) same (all (begun_of next life rests.now ∙ fresh)));
  }

  start_goes : (tables : ℕ) (life : Life) (m m' : Meaning) (leaf : Leaf) (notes : List Note) (ends : Ending) (leaf' : Leaf) (next : Life) → IsTrue m.tells → IsDownLeaf leaf → (seated_of leaf).names ≡ names
      → life.mode ≡ Down → IsRead m → StartMoves m m' leaf notes ends leaf' → OfStart true tables life notes ends next → Goes life ends next m m'
  start_goes tables life m m' leaf notes ends leaf' next tells down same_names mode read (StartMoves.opened x s way is owed each told ended now) does =
      let own : x.names ≡ names = sym (ap (λ (l : Leaf). (seated_of l).names) is) ∙ same_names in
      let exact : IsAnswer names m.held.region m.held.disk (came way) = subst (λ (ns : List (List ℕ)). IsAnswer ns m.held.region m.held.disk (came way)) own (told tells).exact in
      let h = subst (λ (e : Ending). OfStart true tables life notes e next) ended does in
      record {
        rest = λ fresh. absurd (clash_bool next.begun (begun_of next _ h.7) fresh);
        on = λ fresh more all. subst (λ (e : Ending). Says m e more) (sym ended) (came_fits m way read exact, tt);
      }
  start_goes tables life m m' leaf notes ends leaf' next tells down same_names mode read (StartMoves.refused x f is worn undamaged told none ended same) does =
      let own : x.names ≡ names = sym (ap (λ (l : Leaf). (seated_of l).names) is) ∙ same_names in
      let exact : IsExactRefusal names m.held f = subst (λ (ns : List (List ℕ)). IsExactRefusal ns m.held f) own (told tells).exact in
      let now = refused_told true tables life notes f next (subst (λ (e : Ending). OfStart true tables life notes e next) ended does) in
      record {
        rest = λ fresh. (mode_of next _ now, scan_on held.disk m.held.disk m'.held.disk read (told tells).disk);
        on = λ fresh more all.
            subst (λ (e : Ending). Says m e more) (sym ended) (refused_fits m f read exact, behind_refused f m m' (On more) (told tells).region (all (begun_of next _ now ∙ fresh)));
      }
  start_goes tables life m m' leaf notes ends leaf' next tells down same_names mode read (StartMoves.not_down up none still ended same) does = absurd (up down)

  -- a deed of a leaf that was never up
  fresh_goes : (tables : ℕ) (columns : Columns) (deed : Deed) (life : Life) (m m' : Meaning) (leaf : Leaf) (notes : List Note) (ends : Ending) (leaf' : Leaf) (next : Life) → IsTrue m.tells → IsDownLeaf leaf
      → (seated_of leaf).names ≡ names → life.mode ≡ Down → IsRead m → Moves deed m m' leaf notes ends leaf' → Does true tables columns deed life notes ends next → Goes life ends next m m'
  fresh_goes tables columns Start life m m' leaf notes ends leaf' next tells down same_names mode read moves does =
      start_goes tables life m m' leaf notes ends leaf' next tells down same_names mode read moves does
  fresh_goes tables columns (Flush table) life m m' leaf notes ends leaf' next tells down same_names mode read moves does =
      rests_goes life ends next m m' mode read ((flush_stays table life notes ends next does).rests mode) (flush_held table m m' leaf notes ends leaf' down moves)
  fresh_goes tables columns (Drain stop) life m m' leaf notes ends leaf' next tells down same_names mode read moves does =
      rests_goes life ends next m m' mode read ((drain_stays true tables columns stop life notes ends next does).rests mode) (drain_held stop m m' leaf notes ends leaf' down moves)
  fresh_goes tables columns Kill life m m' leaf notes ends leaf' next tells down same_names mode read moves does =
      rests_goes life ends next m m' mode read ((kill_stays tables life notes ends next does).rests mode) (kill_held m m' leaf notes ends leaf' down moves)

-- ---- a run

pub named_first : (number : ℕ) (names : List (List ℕ)) (k : Known) (m : Meaning) → k.held ≡ m.held → AreNamed number names k.held (first_life (Some k) names) [] m
named_first number names k m same = record {
  rest = λ fresh. (refl, inl (sym (ap (λ (p : Pair). p.disk) same)));
  on = λ more all. subst (λ (p : Pair). StrangersIn names k.held.disk p.region more) (sym same) (all refl);
}

pub named_act : (number : ℕ) (names : List (List ℕ)) (columns : Columns) (held : Pair) (life : Life) (pieces : List Piece) (deed : Deed) (m m' : Meaning) (leaf : Leaf) (notes : List Note) (ends : Ending) (leaf' : Leaf) (next : Life)
    → IsTrue m.tells → life.mode ≡ moves.mode_of leaf → (seated_of leaf).names ≡ names → Moves deed m m' leaf notes ends leaf' → Does true (length names) columns deed life notes ends next
    → AreNamed number names held life pieces m → AreNamed number names held next (pieces ++ Acted number deed notes ends ∷ []) m'
named_act number names columns held life pieces deed m m' leaf notes ends leaf' next tells fits same_names moves does named =
    goes_named number names held life pieces deed m m' notes ends next (by life.begun refl) named
  where
    by : (b : Bool) → life.begun ≡ b → Goes number names held life ends next m m'
    by true begun = begun_goes number names held life ends next m m' begun (does_begun true (length names) columns deed life next m m' leaf notes ends leaf' moves does begun)
    by false fresh =
        let was = named.rest fresh in
        let down : IsDownLeaf leaf = down_leaf leaf (sym fits ∙ was.0) in
        fresh_goes number names held (length names) columns deed life m m' leaf notes ends leaf' next tells down same_names was.0 was.1 moves does
