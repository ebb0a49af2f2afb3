-- What a leaf is after a step of its copy.
use Rattle.std.proofs.Common.{◌≡◌, ◌⊎◌, ◌∙◌, ℕ, suc, true, List, [], ◌∷◌, length, None, refl, sym, ap, subst, arith}
use Rattle.std.specs.Prelude.{◌≢◌, IsTrue, Result, Ok, Err}
use Rattle.leaf_model.specs.declared.writes.Write.{Write}
use Rattle.berth_face.specs.Berth.{Meaning, IsClosed, Passes}
use Rattle.region_head.specs.Head.{head_of}
use Rattle.region_layout.specs.Region.{IsAdoptable}
use Rattle.drain_copy.specs.declared.step.Next.{Next}
use Rattle.drain_copy.specs.declared.step.Next.TheVariants as next
use Rattle.drain_copy.specs.declared.step.DrainStep.{DrainStep}
use Rattle.drain_copy.specs.declared.step.DrainStep.TheVariants.{Finished}
use Rattle.drain_copy.specs.declared.step.RegionFault.{RegionFault}
use Rattle.drain_copy.specs.Draining.{DrainState, Draining, RegionStandsAt, IsStep, IsStepFrom, left, left_from}
use Rattle.leaf_words.specs.declared.ways.Way.TheVariants.{Memory}
use Rattle.leaf_opening.specs.Starts.{IsWayLeft}
use Rattle.crash_moments.specs.Watched.{Watched, was_opened}
use Rattle.crash_moments.proofs.Telling.{none_more, told_join, opened_more}
use Rattle.crash_states.specs.Standing.{Copies, Holds, Rests}
use Rattle.crash_states.specs.Entries.{HandsAll}
use Rattle.crash_states.proofs.Lefts.{copies_told, rests_left, told_now}
use Rattle.crash_draining.specs.Laws.{DrainStepped, HandsOver}
use Rattle.crash_draining.proofs.Copying.{step_told, step_more, step_last, step_failed, given_up, handed}
use Rattle.leaf_words.specs.declared.note.Note.{Note}
use Rattle.leaf_steward.specs.Seated.{Seated, AreSeated, AreFounded, AtEach, watched_by}
use Rattle.leaf_table.specs.Calls.{SeesShut}
use Rattle.leaf_steward.specs.Making.{Makes, EachNoted, IsHandedNote}
use Rattle.leaf_steward.proofs.Keeping.{founded_as, makes_since, makes_tables}
use Rattle.leaf_steward.proofs.Watching.{makes_hands}
use Rattle.leaf_machine.specs.declared.copying.Copied.TheVariants as copied
use Rattle.leaf_machine.specs.States.{Copying, IsDown, IsCopying, RestsOn, GoesOnCopying}
use Rattle.leaf_machine.specs.Copies.{CopySteps, DrainMade, IsUnderWay}
use Rattle.leaf_machine.proofs.CopyWatching.{no_others, nothing_sound, left_others}

-- ---- which step it was

-- what is left is one step less
less_left : (n n' n'' : Next) (heap heap' heap'' : List (List ℕ)) → suc (left_from n'' heap'') ≡ left_from n heap → n' ≡ n'' → heap' ≡ heap'' → suc (left_from n' heap') ≡ left_from n heap
less_left n n' n'' heap heap' heap'' one next_is heap_is =
    ap (λ (m : Next). suc (left_from m heap')) next_is ∙ ap (λ (h : List (List ℕ)). suc (left_from n'' h)) heap_is ∙ one

-- the drain goes on
pub record DrainGoesOn (n : Next) (heap : List (List ℕ)) (n' : Next) (heap' : List (List ℕ)) : Type 0 where
  pub less : suc (left_from n' heap') ≡ left_from n heap
  pub way : IsUnderWay n'
  pub before : n ≢ next.Flag

goes_as : (n n' n'' : Next) (heap heap' heap'' : List (List ℕ)) → suc (left_from n'' heap'') ≡ left_from n heap → IsUnderWay n'' → n ≢ next.Flag → n' ≡ n'' → heap' ≡ heap'' → DrainGoesOn n heap n' heap'
goes_as n n' n'' heap heap' heap'' one way before next_is heap_is =
    record { less = less_left n n' n'' heap heap' heap'' one next_is heap_is; way = subst IsUnderWay (sym next_is) way; before = before }

more_from : (n : Next) (heap : List (List ℕ)) (s : DrainStep) (n' : Next) (heap' : List (List ℕ)) → s ≢ Finished → IsStepFrom n heap s n' heap' → DrainGoesOn n heap n' heap'
more_from next.Begin heap s n' heap' more is = goes_as next.Begin n' next.Copy heap heap' heap refl tt (λ same. absurd cc) is.1 is.2
more_from next.Copy [] s n' heap' more is = goes_as next.Copy n' next.Flag [] heap' [] refl tt (λ same. absurd cc) is.1 is.2
more_from next.Copy (column ∷ rest) s n' heap' more is = goes_as next.Copy n' next.Copy (column ∷ rest) heap' rest refl tt (λ same. absurd cc) is.1 is.2
more_from next.Flag heap s n' heap' more is = absurd (more is.0)
more_from next.Nothing heap s n' heap' more is = absurd is

pub more_next : (d : DrainState) (s : DrainStep) (later : DrainState) → s ≢ Finished → IsStep d s later → DrainGoesOn d.next d.heap later.next later.heap
more_next d s later more is = more_from d.next d.heap s later.next later.heap more is.step

-- it is over
last_from : (n : Next) (heap : List (List ℕ)) (n' : Next) (heap' : List (List ℕ)) → IsStepFrom n heap Finished n' heap' → (n ≡ next.Flag) × (n' ≡ next.Nothing)
last_from next.Begin heap n' heap' is = let at = is.0 in absurd cc
last_from next.Copy [] n' heap' is = let at = is.0 in absurd cc
last_from next.Copy (column ∷ rest) n' heap' is = let at = is.0 in absurd cc
last_from next.Flag heap n' heap' is = (refl, is.1)
last_from next.Nothing heap n' heap' is = absurd is

-- behind the last the region is the image
pub last_region : (d later : DrainState) (region : List ℕ) → IsStep d Finished later → Draining later region → later.image ≡ d.image → region ≡ d.image
last_region d later region is stands image =
    (subst (λ (n : Next). RegionStandsAt n later.image later.heap region) (last_from d.next d.heap later.next later.heap is.step).1 stands).0 ∙ image

-- ---- what is left

module _ (x : Seated) (drain later : DrainState) {r : Result DrainStep RegionFault} (a b : Meaning) (made : DrainMade drain later r a b) where
  abbrev ws : List Watched
  ws = watched_by x

  stepped : IsTrue a.tells → (writes : List ℕ → List Write) → Copies ws drain writes a → DrainStepped drain a b
  stepped tells writes copies = record { passes = made.time; stands = made.stands tells; moments = made.moments tells copies.draining copies.closed }

  -- the copy goes on
  copy_more : drain.next ≢ next.Flag → IsTrue a.tells → (Draining drain a.held.region → Draining later b.held.region) → (writes : List ℕ → List Write) → Copies ws drain writes a → GoesOnCopying x (record { seated = x; drain = later }) a b
  copy_more before tells draining writes copies = record {
    writes = writes;
    copies = step_more ws drain later writes a b copies (stepped tells writes copies) before made.image (draining copies.draining);
    told = λ others. step_told ws others drain writes a b copies (stepped tells writes copies);
  }

  -- it failed
  copy_failed : IsTrue a.tells → (Draining drain a.held.region → IsClosed a.held.region → IsClosed b.held.region ⊎ (b.held.region ≡ drain.image))
      → (writes : List ℕ → List Write) → Copies ws drain writes a → RestsOn x x a b
  copy_failed tells left writes copies = record {
    least = writes;
    next = None;
    rests = step_failed ws drain writes a b copies (stepped tells writes copies) (left copies.draining (copies.closed a.held copies.stands.reads));
    told = λ others. step_told ws others drain writes a b copies (stepped tells writes copies);
  }

  -- it is whole, and each table is handed over
  module _ (y : Seated) (notes : List Note) (seated : AreSeated x) (founded : AreFounded x) (makes : Makes b.clock b.clock x notes y) (each : EachNoted IsHandedNote 0 (length x.tables) notes) where
    hands : HandsAll b.clock ws (watched_by y)
    hands = makes_hands b.clock x notes y seated founded makes each

    handed_rests : IsTrue a.tells → (writes : List ℕ → List Write) → Copies ws drain writes a → Holds ws drain.image writes b → RestsOn x y a b
    handed_rests tells writes copies holds =
        let over : HandsOver ws (watched_by y) writes b = handed ws (watched_by y) drain.image writes b holds hands in
        let opened : was_opened b.clock (watched_by y) ≡ true = opened_more b.clock b.clock b.clock b.clock ws (watched_by y) (omega arith) over.more holds.opened in
        let rests : Rests (watched_by y) no_others writes None b = over.rests no_others nothing_sound in
        record {
          least = writes;
          next = None;
          rests = over.rests;
          told = λ others.
              told_join others ws ws (watched_by y) a b b (step_told ws others drain writes a b copies (stepped tells writes copies))
              (told_now ws (watched_by y) others b (left_others (watched_by y) others b opened (rests_left (watched_by y) no_others writes None b rests)) over.more);
        }

    copy_last : IsTrue a.tells → (Draining drain a.held.region → b.held.region ≡ drain.image) → (writes : List ℕ → List Write) → Copies ws drain writes a
        → RestsOn x y a b × IsWayLeft true b.held.region Memory
    copy_last tells whole writes copies =
        let region : b.held.region ≡ drain.image = whole copies.draining in
        let holds : Holds ws drain.image writes b = step_last ws drain writes a b copies (stepped tells writes copies) region in (
          handed_rests tells writes copies holds,
          (
            (copies.images, copies.log_end, subst (λ (bytes : List ℕ). IsAdoptable bytes copies.images copies.log_end) (sym region) copies.image),
            λ up memory. ap (λ (bytes : List ℕ). head_of bytes) region ∙ made.laid,
          ),
        )

-- the copy is given up
pub copy_left : (x : Seated) (drain : DrainState) (m : Meaning) (writes : List ℕ → List Write) → Copies (watched_by x) drain writes m → RestsOn x x m m
copy_left x drain m writes copies = record {
  least = writes;
  next = None;
  rests = given_up (watched_by x) drain writes m copies;
  told = λ others. copies_told (watched_by x) (watched_by x) others drain writes m copies (none_more m.clock m.clock (watched_by x));
}

-- ---- what the leaf then is

-- a copy that stood goes on
pub copying_on : (x : Seated) (drain later : DrainState) (a b : Meaning) → IsCopying (record { seated = x; drain = drain }) a → Passes a b → later.next ≢ next.Nothing
    → (IsTrue a.tells → AreFounded x → (writes : List ℕ → List Write) → Copies (watched_by x) drain writes a → GoesOnCopying x (record { seated = x; drain = later }) a b)
    → IsCopying (record { seated = x; drain = later }) b
copying_on x drain later a b is passes more on = record {
  shut = is.shut;
  spares = is.spares;
  more = more;
  stands = λ founded.
      let stood = is.stands founded in
      let now : GoesOnCopying x (record { seated = x; drain = later }) a b = on stood.0 founded stood.1.0 stood.1.1 in
      (subst IsTrue (sym passes.tells) stood.0, (now.writes, now.copies));
}

-- one that is over leaves a leaf at rest
pub copied_down : (x : Seated) (drain : DrainState) (a b : Meaning) (y : Seated) → IsCopying (record { seated = x; drain = drain }) a → Passes a b → y.tables ≡ x.tables → AtEach (λ place t v. SeesShut t v) y
    → (IsTrue a.tells → AreFounded x → (writes : List ℕ → List Write) → Copies (watched_by x) drain writes a → RestsOn x y a b) → IsDown y b
copied_down x drain a b y is passes same shut on = record {
  shut = shut;
  stands = λ founded_now.
      let founded : AreFounded x = founded_as y x (sym same) founded_now in
      let stood = is.stands founded in
      let now : RestsOn x y a b = on stood.0 founded stood.1.0 stood.1.1 in
      (subst IsTrue (sym passes.tells) stood.0, (no_others, now.least, now.next, now.rests no_others nothing_sound));
}

-- ---- all that a step does

module _ {B : Type 0} (meaning : B → Meaning) (c : Copying) (later : DrainState) (b : B) (a : Meaning) (notes : List Note) (is : IsCopying c a) where
  draining_now : IsTrue a.tells → AreFounded c.seated → Draining c.drain a.held.region
  draining_now tells founded = (is.stands founded).1.1.draining

  -- it is not the last
  pub more_steps : (s : DrainStep) → s ≢ Finished → DrainMade c.drain later (Ok s) a (meaning b) → notes ≡ [] → CopySteps meaning c a notes (Ok (copied.More (record { seated = c.seated; drain = later }, b)))
  more_steps s more made none =
      let on : DrainGoesOn c.drain.next c.drain.heap later.next later.heap = more_next c.drain s later more made.step in
      record {
        step = (on.less, refl, made.image, none, on.way);
        made = Makes.none a.clock (meaning b).clock c.seated notes c.seated made.time.later none refl;
        crash = λ tells founded writes copies. copy_more c.seated c.drain later a (meaning b) made on.before tells (made.told tells) writes copies;
        region = λ tells founded writes copies. tt;
        room = λ tells founded.
            let fits = made.room tells (draining_now tells founded) in
            omega (arith, fits, ap (λ (l : List ℕ). length l) made.image);
        inside = λ tells founded. made.inside tells (draining_now tells founded);
        begun = made.begun;
        time = made.time;
        cause = record { later = made.cause.later; failed = tt };
        reads = made.reads;
      }

  pub more_is : (s : DrainStep) → s ≢ Finished → DrainMade c.drain later (Ok s) a (meaning b) → IsCopying (record { seated = c.seated; drain = later }) (meaning b)
  more_is s more made =
      let on : DrainGoesOn c.drain.next c.drain.heap later.next later.heap = more_next c.drain s later more made.step in
      copying_on c.seated c.drain later a (meaning b) is made.time (λ none. subst IsUnderWay none on.way)
      (λ tells founded writes copies. copy_more c.seated c.drain later a (meaning b) made on.before tells (made.told tells) writes copies)

  -- it is the last
  module _ (y : Seated) (seated : AreSeated c.seated) (made : DrainMade c.drain later (Ok Finished) a (meaning b)) (makes : Makes (meaning b).clock (meaning b).clock c.seated notes y)
      (each : EachNoted IsHandedNote 0 (length c.seated.tables) notes) where
    whole : IsTrue a.tells → Draining c.drain a.held.region → (meaning b).held.region ≡ c.drain.image
    whole tells draining = last_region c.drain later (meaning b).held.region made.step (made.told tells draining) made.image

    rests : IsTrue a.tells → AreFounded c.seated → (writes : List ℕ → List Write) → Copies (watched_by c.seated) c.drain writes a → RestsOn c.seated y a (meaning b) × IsWayLeft true (meaning b).held.region Memory
    rests tells founded = copy_last c.seated c.drain later a (meaning b) made y notes seated founded makes each tells (whole tells)

    pub last_steps : CopySteps meaning c a notes (Ok (copied.Finished (y, b)))
    last_steps = record {
      step = ((last_from c.drain.next c.drain.heap later.next later.heap made.step.step).0, each);
      made = makes_since a.clock (meaning b).clock (meaning b).clock c.seated notes y made.time.later makes;
      crash = rests;
      region = λ tells founded writes copies. whole tells copies.draining;
      room = λ tells founded. let same = ap (λ (l : List ℕ). length l) (whole tells (draining_now tells founded)) in omega (arith, same);
      inside = λ tells founded. made.inside tells (draining_now tells founded);
      begun = made.begun;
      time = made.time;
      cause = record { later = made.cause.later; failed = tt };
      reads = made.reads;
    }

    pub last_is : AtEach (λ place t v. SeesShut t v) y → IsDown y (meaning b)
    last_is shut =
        copied_down c.seated c.drain a (meaning b) y is made.time (makes_tables (meaning b).clock (meaning b).clock c.seated notes y makes) shut (λ tells founded writes copies. (rests tells founded writes copies).0)

  -- the region failed
  module _ (fault : RegionFault) (made : DrainMade c.drain later (Err fault) a (meaning b)) where
    pub failed_steps : notes ≡ [] → CopySteps meaning c a notes (Err ((c.seated, b), fault))
    failed_steps none = record {
      step = (refl, none);
      made = Makes.none a.clock (meaning b).clock c.seated notes c.seated made.time.later none refl;
      crash = λ tells founded writes copies. copy_failed c.seated c.drain later a (meaning b) made tells (made.failed tells) writes copies;
      region = λ tells founded writes copies. made.failed tells copies.draining (copies.closed a.held copies.stands.reads);
      room = λ tells founded. tt;
      inside = λ tells founded. made.inside tells (draining_now tells founded);
      begun = made.begun;
      time = made.time;
      cause = record { later = made.cause.later; failed = made.cause.failed };
      reads = made.reads;
    }

    pub failed_is : IsDown c.seated (meaning b)
    failed_is = copied_down c.seated c.drain a (meaning b) c.seated is made.time refl is.shut (λ tells founded writes copies. copy_failed c.seated c.drain later a (meaning b) made tells (made.failed tells) writes copies)
