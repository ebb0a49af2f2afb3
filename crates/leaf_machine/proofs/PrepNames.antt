-- The names of the tables that are sealed are the first of all.
use Rattle.std.proofs.Common.{◌≡◌, ℕ, ◌+◌, ◌<◌, ◌≤◌, Bool, true, false, List, [], ◌∷◌, ◌++◌, length, None, sym, ap, ap₂, subst, ◌∙◌, arith}
use Rattle.std.specs.Prelude.{◌-◌, if◌then◌else◌, slice_index_or, take, Result, Ok, Err, OnOk, OnErr}
use Rattle.std.proofs.lemmas.Bool.{false≢true}
use Rattle.std.proofs.lemmas.List.{length-append, length-map, take_more}
use Rattle.berth_face.specs.Berth.{Meaning}
use Rattle.table_state.specs.Tables.{Table}
use Rattle.leaf_table.specs.Calls.{name_of}
use Rattle.leaf_steward.specs.Seated.{Seated, AreSeated}
use Rattle.leaf_steward.specs.Owing.{Owing}
use Rattle.leaf_machine.specs.States.{Shutting, IsShutting, treated}
use Rattle.leaf_machine.specs.Shut.{AreFewShut, AreNoMore, ShutState}
use Rattle.leaf_machine.proofs.PrepFew.{less_few, less_length}
use Rattle.leaf_machine.proofs.PrepHolds.{Holds, holds_of}
use Rattle.leaf_machine.proofs.PrepSettles.{quiet_is}

-- how many are treated, where the last waits, and where none does
treated_waits : (x : Shutting) → x.waits ≡ true → treated x ≡ length x.closed - 1
treated_waits x waits = ap (λ (b : Bool). if b then length x.closed - 1 else length x.closed) waits

pub treated_all : (x : Shutting) → x.waits ≡ false → treated x ≡ length x.closed
treated_all x none = ap (λ (b : Bool). if b then length x.closed - 1 else length x.closed) none

-- a table is shut behind those that are sealed
pub treated_put : (x y : Shutting) (content : Table) → x.waits ≡ false → y.waits ≡ true → y.closed ≡ x.closed ++ content ∷ [] → treated y ≡ treated x
treated_put x y content none waits closed =
    let size : length y.closed ≡ length x.closed + 1 = ap (λ (l : List Table). length l) closed ∙ length-append x.closed (content ∷ []) in
    let less : length y.closed - 1 ≡ length x.closed = omega (arith, size) in
    treated_waits y waits ∙ less ∙ sym (treated_all x none)

-- the last is sealed
names_sealed : (x y : Shutting) (all : List (List ℕ)) (d : List ℕ) → x.waits ≡ true → y.waits ≡ false → y.closed ≡ x.closed → 0 < length x.closed → length x.closed ≤ length all
    → take (treated x) all ++ slice_index_or all (length x.closed - 1) d ∷ [] ≡ take (treated y) all
names_sealed x y all d waits none closed some few =
    let place : ℕ = length x.closed - 1 in
    let before : treated x ≡ place = treated_waits x waits in
    let size : place + 1 ≡ length x.closed = omega (arith, some) in
    ap (λ (n : ℕ). take n all ++ slice_index_or all place d ∷ []) before ∙ sym (take_more all place d (omega (arith, some, few)))
    ∙ ap (λ (n : ℕ). take n all) (size ∙ ap (λ (l : List Table). length l) (sym closed) ∙ sym (treated_all y none))

-- ---- the tables that are shut, of which the last may be sealed

-- a leaf with these tables
abbrev pub IsWith : Seated → Owing → Meaning → ShutState → Type 0
IsWith x o m t =
    IsShutting (record { serving = record { seated = x; owing = o }; closed = t.closed; waits = t.waits }) m
    × (t.names ≡ take (treated (record { serving = record { seated = x; owing = o }; closed = t.closed; waits = t.waits })) x.names)
    × (length t.columns ≡ length t.closed) × AreFewShut x t.columns

module _ (x : Seated) (o : Owing) (m : Meaning) (old new : ShutState) (is : IsWith x o m old) (sits : AreSeated x) (none : o.log.owed ≡ None) (waits : old.waits ≡ true) (closed : new.closed ≡ old.closed)
    (less : AreNoMore new.columns old.columns) (d name : List ℕ) (slice : List (List ℕ)) (n : ℕ) (at : name ≡ slice_index_or slice (n - 1) d) (all : slice ≡ x.names) (len : n ≡ length old.closed) where
  abbrev before : Shutting
  before = record { serving = record { seated = x; owing = o }; closed = old.closed; waits = old.waits }

  abbrev behind : Shutting
  behind = record { serving = record { seated = x; owing = o }; closed = new.closed; waits = new.waits }

  some : 0 < length old.closed
  some = is.0.last waits

  count : length x.names ≡ length x.tables
  count = ap (λ (l : List (List ℕ)). length l) (sym sits.names) ∙ length-map x.tables name_of

  holds : Holds new.closed x
  holds = subst (λ (l : List Table). Holds l x) (sym closed) (holds_of before m is.0)

  named : name ≡ slice_index_or x.names (length old.closed - 1) d
  named = at ∙ ap₂ (λ (l : List (List ℕ)) (k : ℕ). slice_index_or l (k - 1) d) all len

  sealed_is : new.waits ≡ false → IsShutting behind m
  sealed_is sealed =
      quiet_is new.closed new.waits x o m holds none (λ more. absurd (false≢true (sym sealed ∙ more))) is.0.stands

  count_still : length new.columns ≡ length new.closed
  count_still = less_length new.columns old.columns less ∙ is.2 ∙ ap (λ (l : List Table). length l) (sym closed)

  few_still : AreFewShut x new.columns
  few_still = less_few x new.columns old.columns less is.3

  pub seal_is : {T E : Type 0} (r : Result T E) → OnOk r ((new.names ≡ old.names ++ name ∷ []) × (new.waits ≡ false)) → OnErr r ((new.names ≡ old.names) × (new.waits ≡ true)) → IsWith x o m new
  seal_is (Ok v) done failed = (
    sealed_is done.1,
    done.0 ∙ ap₂ (λ (l : List (List ℕ)) (a : List ℕ). l ++ a ∷ []) is.1 named ∙ names_sealed before behind x.names d waits done.1 closed some (omega (arith, is.0.few, count)),
    count_still,
    few_still,
  )
  seal_is (Err e) done failed =
      let same : new.waits ≡ old.waits = failed.1 ∙ sym waits in (
        subst (λ (b : Bool). IsShutting (record { serving = record { seated = x; owing = o }; closed = new.closed; waits = b }) m) (sym same)
            (subst (λ (l : List Table). IsShutting (record { serving = record { seated = x; owing = o }; closed = l; waits = old.waits }) m) (sym closed) is.0),
        failed.0 ∙ is.1 ∙ ap₂ (λ (l : List Table) (b : Bool). take (if b then length l - 1 else length l) x.names) (sym closed) (sym same),
        count_still,
        few_still,
      )

-- what holds of what stands there holds of what is equal to it
pub as_put : (P : List Table → Bool → Type 0) (closed now : List Table) (shut : Bool) → now ≡ closed → shut ≡ true → P closed true → P now shut
as_put P closed now shut same waits is = subst (λ (l : List Table). P l shut) (sym same) (subst (λ (b : Bool). P closed b) (sym waits) is)
