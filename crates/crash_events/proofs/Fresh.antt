-- The machine that begins over a ready berth is kept.
use Rattle.std.proofs.Common.{◌≡◌, ℕ, ◌+◌, ◌-◌, ◌<◌, ◌≤◌, Bool, true, false, List, [], ◌∷◌, length, refl, sym, subst, arith, Some, None, inl, inr, take}
use Rattle.std.specs.Prelude.{◌==◌, ◌≢◌, ◌⊎◌, if◌then◌else◌}
use Rattle.std.specs.List.{AllByRecursion}
use Rattle.std.proofs.lemmas.Bool.{eq-eqb, eqb-true, eqb-false}
use Rattle.row_records.specs.Records.{LogRecord}
use Rattle.disk_backup.specs.Logs.{writes_of}
use Rattle.crash_events.specs.Machine.{Machine, Tracked, Hand, Down, RegionIs}
use Rattle.crash_events.specs.Events.{MayBe, gate_begun}
use Rattle.crash_events.specs.Kept.{AllPlaces, KeptTable, in_hand, is_frozen}
use Rattle.crash_events.specs.Begins.{open_of, open_hand}
use Rattle.crash_events.proofs.Places.{no}
use Rattle.crash_moments.proofs.Bases.{both}

-- a table of a base: shut, with nothing handed in, and all of its writes taken
pub record Fresh (x : Tracked) : Type 0 where
  pub live : x.state.live ≡ false
  pub handed : x.state.handed ≡ false
  pub handed_in : x.state.handed_in ≡ 0
  pub taken : x.state.taken ≡ length x.state.writes
  pub flushed : x.state.flushed ≡ x.sure
  pub le : x.sure ≤ length x.state.writes

-- all of its writes are sure
abbrev pub IsAll : Tracked → Type 0
IsAll x = x.sure ≡ length x.state.writes

-- all of the tables behind one of which that is not so
abbrev pub AtMostOne : List Tracked → Type 0
AtMostOne [] = Unit {0}
AtMostOne (x ∷ xs) = (x.sure ≢ length x.state.writes → AllByRecursion IsAll xs) × AtMostOne xs

away : (h : Hand) (i : ℕ) → i ≢ h.table → in_hand (Some h) i ≡ 0
away h i n = there (h.table == i) refl
  where
    there : (b : Bool) → (h.table == i) ≡ b → in_hand (Some h) i ≡ 0
    there true e = absurd (n (sym (eqb-true h.table i e)))
    there false e = rw e refl

before : (b c : ℕ) (xs : List Tracked) → b < c → in_hand (open_hand c xs) b ≡ 0
before b c [] l = refl
before b c (x ∷ xs) l = by (length x.state.writes == x.sure) (before b (c + 1) xs (omega (arith, l)))
  where
    by : (all : Bool) → in_hand (open_hand (c + 1) xs) b ≡ 0
        → in_hand (if all then open_hand (c + 1) xs else Some (open_of c x)) b ≡ 0
    by true rest = rest
    by false rest = away (open_of c x) b (λ e. omega (arith, e, l))

fresh_kept : (r : RegionIs) (n : ℕ) (x : Tracked) → Fresh x → x.sure + n ≤ length x.state.writes → (is_frozen Down r ≡ true → IsAll x) → KeptTable Down r n x
fresh_kept r n x f le all = record {
  flushed = omega (arith, f.flushed);
  sure = omega (arith, f.taken, le);
  taken = omega (arith, f.taken);
  tight = λ o e. no e;
  frozen = λ e. (f.live, (f.flushed, omega (arith, f.handed_in, all e)));
  live = λ o e. both x.state.live f.live e;
  up = λ o e. no e;
  handed = λ e. both x.state.handed f.handed e;
  stranger = λ o. (f.live, f.handed);
  unknown = λ o e. no e;
}

-- the tables behind the hand's
kept_after : (r : RegionIs) (h : Hand) (c : ℕ) (xs : List Tracked) → h.table < c → AllByRecursion Fresh xs → (is_frozen Down r ≡ true → AllByRecursion IsAll xs)
    → AllPlaces (λ t x. KeptTable Down r (in_hand (Some h) t) x) c xs
kept_after r h c [] l f all = tt
kept_after r h c (x ∷ xs) l f all =
    let none : in_hand (Some h) c ≡ 0 = away h c (λ e. omega (arith, e, l)) in
    (fresh_kept r (in_hand (Some h) c) x f.0 (omega (arith, none, f.0.le)) (λ e. (all e).0), kept_after r h (c + 1) xs (omega (arith, l)) f.1 (λ e. (all e).1))

pub all_kept : (r : RegionIs) (b : ℕ) (xs : List Tracked) → AllByRecursion Fresh xs → (is_frozen Down r ≡ true → AllByRecursion IsAll xs)
    → AllPlaces (λ t x. KeptTable Down r (in_hand (open_hand b xs) t) x) b xs
all_kept r b [] f all = tt
all_kept r b (x ∷ xs) f all = by (length x.state.writes == x.sure) refl (all_kept r (b + 1) xs f.1 (λ e. (all e).1))
  where
    by : (c : Bool) → (length x.state.writes == x.sure) ≡ c → AllPlaces (λ t x. KeptTable Down r (in_hand (open_hand (b + 1) xs) t) x) (b + 1) xs
        → AllPlaces (λ t z. KeptTable Down r (in_hand (if c then open_hand (b + 1) xs else Some (open_of b x)) t) z) b (x ∷ xs)
    by true e rest =
        let none : in_hand (open_hand (b + 1) xs) b ≡ 0 = before b (b + 1) xs (omega arith) in
        (fresh_kept r (in_hand (open_hand (b + 1) xs) b) x f.0 (omega (arith, none, f.0.le)) (λ e. (all e).0), rest)
    by false e rest =
        let h : Hand = open_of b x in
        let its : in_hand (Some h) b ≡ length x.state.writes - x.sure = rw (eq-eqb b b refl) refl in
        (fresh_kept r (in_hand (Some h) b) x f.0 (omega (arith, its, f.0.le)) (λ e. (all e).0), kept_after r h (b + 1) xs (omega arith) f.1 (λ e. (all e).1))

-- where all of each is sure, no record is open
pub no_hand : (b : ℕ) (xs : List Tracked) → AllByRecursion IsAll xs → open_hand b xs ≡ None
no_hand b [] all = refl
no_hand b (x ∷ xs) all = rw (eq-eqb (length x.state.writes) x.sure (sym all.0)) (no_hand (b + 1) xs all.1)

-- what a log has of a table: what is sure, or all
abbrev pub OfLog : List LogRecord → Tracked → Type 0
OfLog records x = (n : ℕ) × ((n ≡ x.sure) ⊎ (n ≡ length x.state.writes)) × (writes_of x.name records ≡ take n x.state.writes)

abbrev pub MayHave : Machine → List LogRecord → ℕ → Tracked → Type 0
MayHave m records t x = (n : ℕ) × MayBe m t x n × (writes_of x.name records ≡ take n x.state.writes)

have_all : (m : Machine) (records : List LogRecord) (t : ℕ) (x : Tracked) → IsAll x → OfLog records x → MayHave m records t x
have_all m records t x all (n, which, is) = (
  n,
  inl (elim which [
    | inl e ↦ e
    | inr e ↦ omega (arith, e, all)
  ]),
  is,
)

rest_have : (m : Machine) (records : List LogRecord) (b : ℕ) (xs : List Tracked) → AllByRecursion IsAll xs → AllByRecursion (OfLog records) xs → AllPlaces (MayHave m records) b xs
rest_have m records b [] all logs = tt
rest_have m records b (x ∷ xs) all logs = (have_all m records b x all.0 logs.0, rest_have m records (b + 1) xs all.1 logs.1)

pub all_have : (m : Machine) (records : List LogRecord) (b : ℕ) (xs : List Tracked) → m.hand ≡ open_hand b xs → AtMostOne xs → AllByRecursion (OfLog records) xs
    → AllByRecursion Fresh xs → AllPlaces (MayHave m records) b xs
all_have m records b [] hand few logs f = tt
all_have m records b (x ∷ xs) hand few logs f = by (length x.state.writes == x.sure) refl hand (λ h. all_have m records (b + 1) xs h few.1 logs.1 f.1)
  where
    by : (c : Bool) → (length x.state.writes == x.sure) ≡ c
        → m.hand ≡ (if c then open_hand (b + 1) xs else Some (open_of b x))
        → (m.hand ≡ open_hand (b + 1) xs → AllPlaces (MayHave m records) (b + 1) xs) → AllPlaces (MayHave m records) b (x ∷ xs)
    by true e same rest = (have_all m records b x (sym (eqb-true (length x.state.writes) x.sure e)) logs.0, rest same)
    by false e same rest =
        let h : Hand = open_of b x in
        let begun : gate_begun (Some h) b ≡ length x.state.writes - x.sure = rw (eq-eqb b b refl) refl in
        let begun' : gate_begun m.hand b ≡ length x.state.writes - x.sure = subst (λ o. gate_begun o b ≡ length x.state.writes - x.sure) (sym same) begun in (
          (
            logs.0.0,
            elim logs.0.1 [
              | inl n ↦ inl n
              | inr n ↦ inr (omega (arith, n, begun', f.0.le))
            ],
            logs.0.2,
          ),
          rest_have m records (b + 1) xs (few.0 (λ same. eqb-false (length x.state.writes) x.sure e (sym same))) logs.1,
        )
