-- Events that change one table, or the record that is being settled.
use Rattle.std.proofs.Common.{◌≡◌, ℕ, ◌+◌, ◌-◌, ◌≤◌, max, Bool, true, false, List, [], ◌∷◌, refl, sym, subst, ◌∙◌, arith, Option, Some, None, slice_get, slice_set, zero-add}
use Rattle.std.specs.Prelude.{◌==◌, ◌≢◌, if◌then◌else◌}
use Rattle.std.proofs.lemmas.List.{length-append}
use Rattle.std.proofs.lemmas.Bool.{eq-eqb, eqb-true}
use Rattle.leaf_model.specs.declared.writes.Write.{Write}
use Rattle.leaf_history.specs.History.{HistoryState, write_count, written}
use Rattle.crash_events.specs.Machine.{Tracked, Hand, Mode, Down, RegionIs, Closed}
use Rattle.crash_events.specs.Events.{hand_of}
use Rattle.crash_events.specs.Kept.{in_hand, stays, is_shut, may_be_live, is_tight, has_no_hand, is_up, KeptTable, KeptIn}
use Rattle.crash_moments.proofs.Bases.{both}
use Rattle.crash_events.proofs.Places.{Places-get, Places-set, no, some_hand, closed_is_not_other}

-- the tables with one state changed, where mode, region and hand stay
pub one_goes : (mode : Mode) (region : RegionIs) (hand : Option Hand) (ts : List Tracked) (t : ℕ) (x y : Tracked) → slice_get ts t ≡ Some x
    → (KeptTable mode region (in_hand hand t) x → KeptTable mode region (in_hand hand t) y) → KeptIn mode region hand ts → KeptIn mode region hand (slice_set ts t y)
one_goes mode region hand ts t x y at f k =
    let P : ℕ → Tracked → Type 0 = λ i z. KeptTable mode region (in_hand hand i) z in
    (k.0, Places-set P P 0 t ts x y at (λ i z n h. h) (rw zero-add (f (subst (λ i. P i x) (zero-add t) (Places-get P 0 t ts x at k.1)))) k.1)

write_count-written : (s : HistoryState) (w : Write) → write_count (written s w) ≡ write_count s + 1
write_count-written s w = rw (length-append s.writes (w ∷ [])) (omega arith)

-- an accepted write of an open table
pub writes_one : (mode : Mode) (region : RegionIs) (n : ℕ) (x : Tracked) (w : Write) → x.own ≡ true → x.state.live ≡ true
    → KeptTable mode region n x → KeptTable mode region n (record x { state = written x.state w })
writes_one mode region n x w own live h = record {
  flushed = h.flushed;
  sure = h.sure;
  taken = rw (write_count-written x.state w) (omega (arith, h.taken));
  tight = h.tight;
  frozen = λ e. both x.state.live (h.frozen e).0 live;
  live = h.live;
  up = h.up;
  handed = λ e. both x.state.live (h.handed e).0 live;
  stranger = h.stranger;
  unknown = λ e. both x.own e own;
}

-- the steward has taken all
abbrev pub all_taken : Bool → Tracked → Tracked
all_taken live x = record x { state = record x.state { live = live; taken = write_count x.state } }

-- what is new since the last taking comes into the hand
hand_here : (t : ℕ) (x : Tracked) → x.state.taken ≤ write_count x.state → x.state.taken + in_hand (hand_of t x) t ≡ write_count x.state
hand_here t x le = here (write_count x.state) x.state.taken le (write_count x.state == x.state.taken) refl
  where
    here : (all taken : ℕ) → taken ≤ all → (b : Bool) → (all == taken) ≡ b
        → taken + in_hand (if b then None else Some (record { table = t; writes = all - taken; laid = false; gate = false })) t ≡ all
    here all taken l true e = omega (arith, eqb-true all taken e)
    here all taken l false e = rw (eq-eqb t t refl) (omega (arith, l))

hand_elsewhere : (t s : ℕ) (x : Tracked) → s ≢ t → in_hand (hand_of t x) s ≡ 0
hand_elsewhere t s x n = there (write_count x.state == x.state.taken) (t == s) refl
  where
    there : (b c : Bool) → (t == s) ≡ c → in_hand (if b then None else Some (record { table = t; writes = write_count x.state - x.state.taken; laid = false; gate = false })) s ≡ 0
    there true c e = refl
    there false true e = absurd (n (sym (eqb-true t s e)))
    there false false e = rw e refl

pub takes : (mode : Mode) (live' : Bool) (ts : List Tracked) (t : ℕ) (x : Tracked) → stays mode ≡ false → may_be_live mode Closed ≡ true → has_no_hand mode ≡ false
    → is_shut mode ≡ true → (is_up mode ≡ true → live' ≡ true) → slice_get ts t ≡ Some x → x.own ≡ true → x.state.live ≡ true → is_tight mode true ≡ true
    → KeptIn mode Closed None ts → KeptIn mode Closed (hand_of t x) (slice_set ts t (all_taken live' x))
takes mode live' ts t x st ml nh sh up at own live ti k =
    let P : ℕ → Tracked → Type 0 = λ i z. KeptTable mode Closed 0 z in
    let Q : ℕ → Tracked → Type 0 = λ i z. KeptTable mode Closed (in_hand (hand_of t x) i) z in
    let h : KeptTable mode Closed 0 x = Places-get P 0 t ts x at k.1 in
    let tight : x.sure + 0 ≡ x.state.taken = h.tight own (subst (λ l. is_tight mode l ≡ true) (sym live) ti) in
    let new : x.state.taken + in_hand (hand_of t x) t ≡ write_count x.state = hand_here t x h.taken in
    let there : Q t (all_taken live' x) = record {
      flushed = h.flushed;
      sure = omega (arith, tight, new);
      taken = omega arith;
      tight = λ o e. omega (arith, tight, new);
      frozen = λ e. both (stays mode) st e;
      live = λ o e. ml;
      up = λ o e. up e;
      handed = λ e. both x.state.live (h.handed e).0 live;
      stranger = λ e. both x.own e own;
      unknown = λ e. both x.own e own;
    } in (
      record { frozen = λ e. both (stays mode) st e; shut = λ e. refl; other = closed_is_not_other; no_hand = λ e. both (has_no_hand mode) nh e },
      Places-set P Q 0 t ts x (all_taken live' x) at (λ i z n p. rw (hand_elsewhere t i x (λ e. n (e ∙ sym (zero-add t)))) p) (rw zero-add there) k.1,
    )

-- a kill shuts a table
pub shuts : (region : RegionIs) (n : ℕ) (x : Tracked) → x.own ≡ true → x.state.live ≡ true → KeptTable Down region n x → KeptTable Down region n (all_taken false x)
shuts region n x own live h = record {
  flushed = h.flushed;
  sure = omega (arith, h.sure, h.taken);
  taken = omega arith;
  tight = λ o e. no e;
  frozen = λ e. both x.state.live (h.frozen e).0 live;
  live = λ o e. no e;
  up = λ o e. no e;
  handed = λ e. both x.state.live (h.handed e).0 live;
  stranger = λ e. both x.own e own;
  unknown = λ e. both x.own e own;
}

-- a flushed number
pub is_flushed : (mode : Mode) (region : RegionIs) (k n : ℕ) (x : Tracked) → x.own ≡ true → n ≤ x.sure → KeptTable mode region k x
    → KeptTable mode region k (record x { state = record x.state { flushed = max x.state.flushed n } })
is_flushed mode region k n x own le h = record {
  flushed = omega (arith, h.flushed, le);
  sure = h.sure;
  taken = h.taken;
  tight = h.tight;
  frozen = λ e. ((h.frozen e).0, (omega (arith, (h.frozen e).1.0, le), (h.frozen e).1.1));
  live = h.live;
  up = h.up;
  handed = λ e. ((h.handed e).0, (omega (arith, (h.handed e).1.0, le), (h.handed e).1.1));
  stranger = λ e. both x.own e own;
  unknown = λ e. both x.own e own;
}

-- a record that is settled
pub settles : (mode : Mode) (region : RegionIs) (h : Hand) (ts : List Tracked) (x : Tracked) → slice_get ts h.table ≡ Some x
    → KeptIn mode region (Some h) ts → KeptIn mode region None (slice_set ts h.table (record x { sure = x.sure + h.writes }))
settles mode region h ts x at k =
    let P : ℕ → Tracked → Type 0 = λ i z. KeptTable mode region (in_hand (Some h) i) z in
    let Q : ℕ → Tracked → Type 0 = λ i z. KeptTable mode region 0 z in
    let y : Tracked = record x { sure = x.sure + h.writes } in
    let here : in_hand (Some h) h.table ≡ h.writes = rw (eq-eqb h.table h.table refl) refl in
    let p : KeptTable mode region h.writes x = subst (λ n. KeptTable mode region n x) here (subst (λ i. P i x) (zero-add h.table) (Places-get P 0 h.table ts x at k.1)) in
    let there : KeptTable mode region 0 y = record {
      flushed = omega (arith, p.flushed);
      sure = omega (arith, p.sure);
      taken = p.taken;
      tight = λ o e. omega (arith, p.tight o e);
      frozen = λ e. some_hand h (k.0.frozen e);
      live = p.live;
      up = p.up;
      handed = λ e. ((p.handed e).0, (omega (arith, (p.handed e).1.0, (p.handed e).1.1, p.sure, p.taken), omega (arith, (p.handed e).1.1, p.sure, p.taken)));
      stranger = p.stranger;
      unknown = λ o e. let u : (x.state.writes ≡ []) × (x.state.flushed ≡ 0) × (x.sure ≡ 0) × (x.state.taken ≡ 0) = p.unknown o e in (u.0, u.1, omega (arith, u.2, u.3, p.sure), u.3);
    } in (
      record { frozen = λ e. refl; shut = k.0.shut; other = k.0.other; no_hand = λ e. refl },
      Places-set P Q 0 h.table ts x y at (λ i z n q. subst (λ m. KeptTable mode region m z) (not_here h i (λ e. n (e ∙ sym (zero-add h.table)))) q) there k.1,
    )
  where
    not_here : (h : Hand) (i : ℕ) → i ≢ h.table → in_hand (Some h) i ≡ 0
    not_here h i n = there (h.table == i) refl
      where
        there : (b : Bool) → (h.table == i) ≡ b → in_hand (Some h) i ≡ 0
        there true e = absurd (n (sym (eqb-true h.table i e)))
        there false e = rw e refl
