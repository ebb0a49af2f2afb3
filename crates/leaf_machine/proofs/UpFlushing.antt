-- A flush, by its steps: what was owed is settled, the table is taken, and what was taken is brought onto the disk.
use Rattle.std.proofs.Common.{◌≡◌, ℕ, ◌<◌, ◌≤◌, List, [], ◌∷◌, ◌++◌, length, Option, Some, None, false, refl, sym, ap, subst, ◌∙◌, arith, append_assoc, append-nil, le_refl}
use Rattle.std.proofs.lemmas.Bool.{false≢true}
use Rattle.std.specs.Prelude.{IsTrue, IsSome, IfSome, Result, Ok, Err, IsOk, IsErr}
use Rattle.leaf_model.specs.declared.writes.Write.{Write}
use Rattle.row_records.specs.Records.{LogRecord}
use Rattle.berth_face.specs.Berth.{Meaning, Passes}
use Rattle.berth_face.specs.Causes.{Rose, HasCause}
use Rattle.berth_face.proofs.Moments.{passes_on}
use Rattle.disk_backup.proofs.Results.{of_err}
use Rattle.crash_moments.proofs.Telling.{told_join}
use Rattle.crash_states.specs.Standing.{Runs}
use Rattle.leaf_table.specs.Turns.{Shared}
use Rattle.leaf_table.specs.Calls.{IsFresh, base_seen, name_of, state_seen}
use Rattle.leaf_words.specs.declared.note.Note.{Note}
use Rattle.leaf_words.specs.declared.note.What.TheVariants as what
use Rattle.leaf_steward.specs.Seated.{Seated, AtPlace, AreSeated, AreFounded, Spares, watched_by}
use Rattle.leaf_steward.specs.Making.{Makes, OneEntry, TakesAt, WornAt}
use Rattle.leaf_steward.proofs.Seating.{same_at}
use Rattle.leaf_steward.proofs.Keeping.{founded_as, makes_join, makes_one, makes_seated, makes_tables}
use Rattle.leaf_steward.specs.Owing.{Owing, Brings, HasJustTaken, RunsTo, SettlesOwed, flushed_note}
use Rattle.leaf_machine.specs.declared.up.FlushReply.{FlushReply}
use Rattle.leaf_machine.specs.declared.up.FlushReply.TheVariants as reply
use Rattle.leaf_machine.specs.States.{Serving, IsUp, UpStands, ServingGoesOn, GoesOnServing}
use Rattle.leaf_machine.specs.Flushes.{Flushes, FreshBehind, OwedNotes}
use Rattle.leaf_machine.specs.UpFlush.{FlushGoes}
use Rattle.leaf_machine.proofs.UpSeats.{count_taken, holds_taken, named_taken, spares_taken, takes_entry}
use Rattle.leaf_machine.specs.Prepares.{begins}
use Rattle.leaf_machine.specs.PrepParts.{IsPartOfStep}
use Rattle.leaf_machine.proofs.Beginning.{begun_up, up_begun}
use Rattle.leaf_machine.proofs.PrepHolds.{Holds, flushed_holds, holds_of}
use Rattle.leaf_machine.proofs.PrepJoins.{notes_are, stands_on}
use Rattle.leaf_machine.proofs.PrepSettles.{quiet_is, settle_part, settle_stands, settled_is, still_owed, still_spares}
use Rattle.leaf_machine.proofs.UpMaking.{told_behind, has_taken, taken_more}

not_both : {T E : Type 0} (r : Result T E) → IsOk r → IsErr r → ⊥
not_both (Ok v) good bad = cc
not_both (Err e) good bad = cc

-- what a call on the log does to the berth
pub record Outside {T E : Type 0} (result : Result T E) (m m' : Meaning) : Type 0 where
  pub region : IsTrue m.tells → m'.held.region ≡ m.held.region
  pub time : Passes m m'
  pub cause : HasCause m.disk_faults m'.disk_faults result
  pub reads : m'.disk_reads ≡ m.disk_reads

-- ---- what was owed is settled

-- how a leaf that is up runs on
abbrev pub Settling : Serving → Serving → Meaning → Meaning → Type 0
Settling x y m m' = (writes : List ℕ → List Write) → IsTrue m.tells → AreFounded x.seated → Runs (watched_by x.seated) x.owing.owner x.owing.log writes m → RunsTo x.seated y.seated y.owing m m'

-- what a step of a flush leaves, and what it is told of
pub record Goes (x y : Serving) (notes : List Note) (m m' : Meaning) : Type 0 where
  pub up : IsUp y m'
  pub made : Makes m.clock m'.clock x.seated notes y.seated
  pub crash : IsTrue m.tells → AreFounded x.seated → ServingGoesOn x y m m'
  pub region : IsTrue m.tells → m'.held.region ≡ m.held.region
  pub time : Passes m m'
  pub reads : m'.disk_reads ≡ m.disk_reads

-- what was owed is on the disk
pub record IsSettled (x y : Serving) (notes : List Note) : Type 0 where
  pub noted : OwedNotes x.owing.log.owed x.owing notes
  pub none : y.owing.log.owed ≡ None

-- it is still owed
pub record IsStuck (x y : Serving) (notes : List Note) : Type 0 where
  pub none : notes ≡ []
  pub some : IsSome x.owing.log.owed
  pub seats : y.seated ≡ x.seated
  pub owed : y.owing.log.owed ≡ x.owing.log.owed
  pub owner : y.owing.owner ≡ x.owing.owner
  pub count : y.owing.count ≡ x.owing.count

module _ {T E : Type 0} (x y : Serving) (before notes : List Note) (result : Result T E) (m m' : Meaning) (up : IsUp x m) (seated : AreSeated x.seated) (none : before ≡ [])
    (runs : Settling x y m m') (outside : Outside result m m') where
  abbrev Settles : Type 0
  Settles = SettlesOwed m'.clock x.seated x.owing before result y.seated y.owing notes

  pub settle_goes : Settles → Goes x y notes m m'
  settle_goes settles =
      let part : IsPartOfStep x y before notes m m' = settle_part x y.seated y.owing m m' before notes result settles runs outside.time outside.region outside.reads in
      let stands : UpStands y m' = settle_stands x y.seated y.owing m m' before notes result settles runs outside.time up.stands in
      record {
        up = begun_up y m' (settled_is (begins x) m m' (up_begun x m up) seated m'.clock before result y.seated y.owing notes settles stands);
        made = notes_are m.clock m'.clock x.seated y.seated before notes none part.made;
        crash = part.crash;
        region = part.region;
        time = part.time;
        reads = part.reads;
      }

  pub settle_done : Settles → IsOk result → IsSettled x y notes
  settle_done (SettlesOwed.nothing empty ok same owing noted) good = record {
    noted = subst (λ (q : Option LogRecord). OwedNotes q x.owing notes) (sym empty) (noted ∙ none);
    none = ap (λ (o : Owing). o.log.owed) owing ∙ empty;
  }
  settle_done (SettlesOwed.done r number owed ok one noted settled) good = record {
    noted = subst (λ (q : Option LogRecord). OwedNotes q x.owing notes) (sym owed) (number, noted ∙ ap (λ (l : List Note). l ++ flushed_note x.owing number ∷ []) none);
    none = settled.0;
  }
  settle_done (SettlesOwed.failed r owed err same noted owing owner count) good = absurd (not_both result good err)

  pub settle_stuck : Settles → IsErr result → IsStuck x y notes
  settle_stuck (SettlesOwed.nothing empty ok same owing noted) bad = absurd (not_both result ok bad)
  settle_stuck (SettlesOwed.done r number owed ok one noted settled) bad = absurd (not_both result ok bad)
  settle_stuck (SettlesOwed.failed r owed err same noted owing owner count) bad = record {
    none = noted ∙ none;
    some = subst (λ (q : Option LogRecord). IsSome q) (sym owed) refl;
    seats = same;
    owed = owing.0;
    owner = owner;
    count = count;
  }

-- ---- the whole of a flush, by how it ends

module _ (table : ℕ) (x y : Serving) (first : List Note) (m m' : Meaning) (up : IsUp x m) (seated : AreSeated x.seated) (goes : Goes x y first m m') where
  pub same_tables : y.seated.tables ≡ x.seated.tables
  same_tables = makes_tables m.clock m'.clock x.seated first y.seated goes.made

  pub still_seated : AreSeated y.seated
  still_seated = makes_seated m.clock m'.clock x.seated first y.seated seated goes.made

  -- what was owed could not be settled
  pub flush_stuck : IsStuck x y first → Rose m.disk_faults m'.disk_faults → FlushGoes table x y first reply.DiskFault m m'
  flush_stuck stuck rose = record {
    flushes = Flushes.stuck stuck.none refl stuck.some stuck.seats stuck.owed stuck.owner stuck.count;
    up = goes.up;
    made = goes.made;
    crash = goes.crash;
    region = goes.region;
    time = goes.time;
    cause = λ is. rose;
    reads = goes.reads;
  }

  -- the seat was worn
  pub flush_worn : IsSettled x y first → (z : Serving) (notes : List Note) → z.seated ≡ y.seated → z.owing ≡ y.owing → notes ≡ first → WornAt y.seated table → (told : FlushReply) → told ≡ reply.Worn → FlushGoes table x z notes told m m'
  flush_worn settled z notes seats owing noted worn told told_is =
      let same : y ≡ z = ap (λ (s : Seated). record { seated = s; owing = y.owing }) (sym seats) ∙ ap (λ (o : Owing). record { seated = z.seated; owing = o }) (sym owing) in
      subst (λ (r : FlushReply). FlushGoes table x z notes r m m') (sym told_is)
      (subst (λ (s : Serving). FlushGoes table x s notes reply.Worn m m') same (subst (λ (l : List Note). FlushGoes table x y l reply.Worn m m') (sym noted) (record {
        flushes = Flushes.worn first settled.noted refl refl worn settled.none;
        up = goes.up;
        made = goes.made;
        crash = goes.crash;
        region = goes.region;
        time = goes.time;
        cause = λ is. absurd cc;
        reads = goes.reads;
      })))

-- ---- the table was taken, and what was taken is brought onto the disk

module _ {T E : Type 0} (table number n : ℕ) (pending : Option LogRecord) (x y z : Serving) (taken : Seated) (first between notes : List Note) (result : Result T E) (a b c : Meaning)
    (up : IsUp x a) (seated : AreSeated x.seated) (goes : Goes x y first a b) (settled : IsSettled x y first)
    (takes : TakesAt b.clock y.seated table number n pending taken) (noted : between ≡ first ++ record { table = table; number = number; what = what.Took n } ∷ [])
    (within : table < length x.seated.tables)
    (runs : (writes : List ℕ → List Write) → IsTrue b.tells → AreFounded taken → HasJustTaken taken y.owing table pending writes b → RunsTo taken z.seated z.owing b c)
    (outside : Outside result b c) where
  abbrev took : Note
  took = record { table = table; number = number; what = what.Took n }

  abbrev Bringing : Type 0
  Bringing = Brings c.clock taken y.owing table n pending between result z.seated z.owing notes

  seated_now : AreSeated y.seated
  seated_now = still_seated table x y first a b up seated goes

  entry : OneEntry b.clock y.seated took taken
  entry = takes_entry b.clock table number n pending y.seated taken takes seated_now

  holds_now : Holds [] taken
  holds_now = holds_taken b.clock table number n pending y.seated taken takes seated_now (holds_of (begins y) b (up_begun y b goes.up))

  spares_now : AtPlace (Spares 4) taken table
  spares_now = spares_taken b.clock table number n pending y.seated taken takes seated_now

  fresh_now : FreshBehind x.seated first table
  fresh_now = (a.clock, b.clock, y.seated, goes.made, λ t v at sat. subst IsFresh (same_at y.seated.seats table takes.before v takes.was sat) takes.fresh)

  made_now : Makes a.clock b.clock x.seated between taken
  made_now = subst (λ (l : List Note). Makes a.clock b.clock x.seated l taken) (sym noted)
      (makes_join a.clock b.clock b.clock x.seated y.seated taken first (took ∷ []) goes.made (makes_one b.clock b.clock b.clock y.seated took taken (le_refl b.clock) (le_refl b.clock) entry))

  taken_tables : taken.tables ≡ x.seated.tables
  taken_tables = makes_tables a.clock b.clock x.seated between taken made_now

  taken_seated : AreSeated taken
  taken_seated = makes_seated a.clock b.clock x.seated between taken seated made_now

  passes : Passes a c
  passes = passes_on a b c goes.time outside.time

  crash_on : IsTrue a.tells → AreFounded x.seated → ServingGoesOn x z a c
  crash_on tells founded writes runs_now =
      let one : GoesOnServing x y a b = goes.crash tells founded writes runs_now in
      let founded_now : AreFounded y.seated = founded_as x.seated y.seated (same_tables table x y first a b up seated goes) founded in
      let founded_taken : AreFounded taken = founded_as x.seated taken taken_tables founded in
      let has : HasJustTaken taken y.owing table pending one.later b = has_taken b table number n pending y.seated taken takes seated_now founded_now y.owing one.later settled.none one.runs in
      let to : RunsTo taken z.seated z.owing b c = runs one.later (subst IsTrue (sym goes.time.tells) tells) founded_taken has in
      record {
        later = to.later;
        runs = to.runs;
        told = λ others. told_join others (watched_by x.seated) (watched_by y.seated) (watched_by z.seated) a b c (one.told others)
            (told_behind others (watched_by y.seated) (watched_by taken) (watched_by z.seated) b c (taken_more b table number n pending y.seated taken takes seated_now founded_now) (to.told others));
      }

  region_on : IsTrue a.tells → c.held.region ≡ a.held.region
  region_on tells = outside.region (subst IsTrue (sym goes.time.tells) tells) ∙ goes.region tells

  -- a fault of the second call rose above what the first left
  rose_on : Rose b.disk_faults c.disk_faults → Rose a.disk_faults c.disk_faults
  rose_on rose = let more = goes.time.disk_faults in omega (arith, more, rose)

  whole : (reply' : FlushReply) → Flushes table x z notes reply' → Makes a.clock c.clock x.seated notes z.seated → (UpStands z c → IsUp z c) → (reply' ≡ reply.DiskFault → Rose a.disk_faults c.disk_faults)
      → FlushGoes table x z notes reply' a c
  whole reply' flushes made leaf cause = record {
    flushes = flushes;
    up = leaf (stands_on x z a c up.stands crash_on (makes_tables a.clock c.clock x.seated notes z.seated made) passes.tells);
    made = made;
    crash = crash_on;
    region = region_on;
    time = passes;
    cause = cause;
    reads = outside.reads ∙ goes.reads;
  }

  pub flush_done : Bringing → IsOk result → (told : FlushReply) → told ≡ reply.Flushed → FlushGoes table x z notes told a c
  flush_done (Brings.failed r is err same kept owed owner count) good told told_is = absurd (not_both result good err)
  flush_done (Brings.done flushing ok one noted_on none) good told told_is =
      let last : Note = record { table = table; number = flushing; what = what.Flushed n } in
      let joined : notes ≡ (first ++ took ∷ []) ++ last ∷ [] = noted_on ∙ ap (λ (l : List Note). l ++ last ∷ []) noted in
      let made : Makes a.clock c.clock x.seated (between ++ last ∷ []) z.seated =
      makes_join a.clock b.clock c.clock x.seated taken z.seated between (last ∷ []) made_now (makes_one b.clock c.clock c.clock taken last z.seated outside.time.later (le_refl c.clock) one) in
      let holds : Holds [] z.seated =
      subst (Holds []) (sym one.now)
      (flushed_holds [] taken holds_now taken_seated table one.table one.before one.after c.clock n one.at one.was one.made (λ past. spares_now one.table one.before one.at one.was) (λ before. absurd (omega (arith, before)))) in
      whole told
      (Flushes.done first number flushing n settled.noted fresh_now (joined ∙ append_assoc first (took ∷ []) (last ∷ [])) told_is none)
      (subst (λ (l : List Note). Makes a.clock c.clock x.seated l z.seated) (sym noted_on) made)
      (λ stands. begun_up z c (quiet_is [] false z.seated z.owing c holds none (λ waits. absurd (false≢true waits)) stands))
      (λ is. absurd cc)

  pub flush_half : Bringing → IsErr result → FlushGoes table x z notes reply.DiskFault a c
  flush_half (Brings.done flushing ok one noted_on none) bad = absurd (not_both result ok bad)
  flush_half (Brings.failed r is err same kept owed owner count) bad =
      let here : table < length taken.tables = omega (arith, within, ap (λ (ts : List Shared). length ts) taken_tables) in
      let counted : AtPlace (λ t v. n ≤ (state_seen (base_seen t) v).taken) taken table = count_taken b.clock table number n pending y.seated taken takes seated_now in
      let named : AtPlace (λ t v. name_of t ≡ r.name) taken table =
      subst (λ (q : Option LogRecord). IfSome q (λ s. AtPlace (λ t v. name_of t ≡ s.name) taken table)) is (named_taken b.clock table number n pending y.seated taken takes seated_now) in
      let o : Owing = record { log = record { end = 0; owed = Some r; laid = false }; owner = table; count = n } in
      let half : UpStands (record { seated = taken; owing = z.owing }) c → IsUp (record { seated = taken; owing = z.owing }) c = λ stands. record {
        opened = λ place t v at sat. holds_now.opened place t v at sat (omega arith);
        spares = λ place t v at sat. holds_now.spares place t v at sat (omega arith);
        spares_owed = still_spares taken o z.owing 4 owed owner spares_now;
        owed = still_owed taken o z.owing owed owner count (here, λ t v at sat. (counted t v at sat, named t v at sat));
        stands = stands;
      } in
      let made : Makes a.clock c.clock x.seated (between ++ []) z.seated =
      makes_join a.clock b.clock c.clock x.seated taken z.seated between [] made_now (Makes.none b.clock c.clock taken [] z.seated outside.time.later refl same) in
      whole reply.DiskFault
      (Flushes.half first number n settled.noted fresh_now (kept ∙ noted) refl (subst (λ (q : Option LogRecord). IsSome q) (sym owed) refl) owner count)
      (subst (λ (l : List Note). Makes a.clock c.clock x.seated l z.seated) (append-nil between ∙ sym kept) made)
      (subst (λ (s : Seated). UpStands (record { seated = s; owing = z.owing }) c → IsUp (record { seated = s; owing = z.owing }) c) (sym same) half)
      (λ is. rose_on (of_err result bad outside.cause.failed))
