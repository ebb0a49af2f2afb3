-- The ids of seats: they stay at an entry and at a meeting; one is cut off, and others are taken over.
use Rattle.std.proofs.Common.{◌≡◌, ◌⊎◌, inl, inr, ℕ, zero, suc, ◌+◌, ◌-◌, ◌<◌, ◌≤◌, List, [], ◌∷◌, ◌++◌, Option, Some, None, refl, sym, ap, subst, ◌∙◌, arith}
use mathlib.Core.List.{IsPrefix}
use Rattle.turnstile.specs.Ids.{Among, InShare, LongerOf, OwnsId, run_of}
use Rattle.turnstile.specs.Seats.{Owns, SeesAlso, keeps_all_but, given}
use Rattle.turnstile.proofs.Ids.{among_append, among_front, among_run}
use Rattle.turnstile.proofs.Prefixes.{prefix_length, prefix_whole}
use Rattle.leaf_history.specs.Calls.{Call}
use Rattle.leaf_history.specs.Replies.{EntryReply}
use Rattle.leaf_table.specs.declared.base.TableBase.{TableBase}
use Rattle.leaf_table.specs.Calls.{Made, SeatView}
use Rattle.leaf_moves.specs.Stage.{Meets}
use Rattle.leaf_moves.specs.Lanes.{JoinsTo}
use Rattle.transcript_leaf.specs.Session.{IsCallers, IsStewards, OneOf, OwnedBy, StandApart}
use Rattle.transcript_leaf.proofs.Merging.{AreBoth, SameAll, all_back, all_sum}

-- ---- a seat keeps its ids

pub record SameIds (v w : SeatView) : Type 0 where
  pub id : w.id ≡ v.id
  pub share : w.share ≡ v.share
  pub taken : w.taken ≡ v.taken

pub same_here : (v w : SeatView) → w ≡ v → SameIds v w
same_here v w e = record { id = ap (λ (u : SeatView). u.id) e; share = ap (λ (u : SeatView). u.share) e; taken = ap (λ (u : SeatView). u.taken) e }

pub same_back : (v w : SeatView) → SameIds v w → SameIds w v
same_back v w same = record { id = sym same.id; share = sym same.share; taken = sym same.taken }

pub same_on : (u v w : SeatView) → SameIds u v → SameIds v w → SameIds u w
same_on u v w old new = record { id = new.id ∙ old.id; share = new.share ∙ old.share; taken = new.taken ∙ old.taken }

-- an entry leaves them
pub same_made : (base : Option TableBase) (clock : ℕ) (v w : SeatView) (c : Call) (r : EntryReply) → Made base clock v c r w → SameIds v w
same_made base clock v w c r m = record {
  id = ap (λ (u : SeatView). u.id) m.place;
  share = ap (λ (u : SeatView). u.share) m.place;
  taken = ap (λ (u : SeatView). u.taken) m.place;
}

-- and so does a meeting
pub same_told : (v u w : SeatView) → SeesAlso v u w → SameIds v w
same_told v u w t = record {
  id = ap (λ (x : SeatView). x.id) t.view;
  share = ap (λ (x : SeatView). x.share) t.view;
  taken = ap (λ (x : SeatView). x.taken) t.view;
}

pub owns_back : (v w : SeatView) (x : ℕ) → SameIds v w → Owns w x → Owns v x
owns_back v w x same owns =
    subst (λ k. OwnsId k v.share v.taken x) same.id (subst (λ k. OwnsId w.id k v.taken x) same.share (subst (λ ids. OwnsId w.id w.share ids x) same.taken owns))

pub owns_on : (v w : SeatView) (x : ℕ) → SameIds v w → Owns v x → Owns w x
owns_on v w x same owns = owns_back w v x (same_back v w same) owns

pub owns_same : (v w : SeatView) → SameIds v w → SameAll (Owns v) (Owns w)
owns_same v w same = λ id. (λ o. owns_on v w id same o, λ o. owns_back v w id same o)

-- who has the same ids of the steward's seat and of the callers' has the same of both
pub one_same : (v w c d : Option SeatView) → SameAll (OwnedBy v) (OwnedBy w) → SameAll (OwnedBy c) (OwnedBy d) → SameAll (OneOf v c) (OneOf w d)
one_same v w c d a b = all_sum (OwnedBy v) (OwnedBy w) (OwnedBy c) (OwnedBy d) a b

-- of one of them alone
pub callers_alone : (c : Option SeatView) → SameAll (OneOf None c) (OwnedBy c)
callers_alone c = λ id. (to id, λ o. inr o)
  where
    to : (id : ℕ) → OneOf None c id → OwnedBy c id
    to id (inl none) = absurd none
    to id (inr o) = o

pub stewards_alone : (v : Option SeatView) → SameAll (OneOf v None) (OwnedBy v)
stewards_alone v = λ id. (to id, λ o. inl o)
  where
    to : (id : ℕ) → OneOf v None id → OwnedBy v id
    to id (inl o) = o
    to id (inr none) = absurd none

-- a seat, and none beside it
pub kept_both : (c : Option SeatView) → AreBoth (OwnedBy c) (OwnedBy None) (OwnedBy c)
kept_both c = all_back (OneOf c None) (OwnedBy c) (stewards_alone c)

pub none_before : (c : Option SeatView) → AreBoth (OwnedBy None) (OwnedBy c) (OwnedBy c)
none_before c = all_back (OneOf None c) (OwnedBy c) (callers_alone c)

pub stewards_still : (v v' : SeatView) → SameIds v v' → IsStewards v → IsStewards v'
stewards_still v v' same is = record { id = same.id ∙ is.id; share = same.share ∙ is.share; taken = same.taken ∙ is.taken }

pub callers_still : (c c' : SeatView) → SameIds c c' → IsCallers c → IsCallers c'
callers_still c c' same is = record {
  id = subst (λ (k : ℕ). 0 < k) (sym same.id) is.id;
  share = subst (λ (k : ℕ). 0 < k) (sym same.share) is.share;
  apart = subst (λ (k : ℕ). StandApart k c'.share c'.taken) (sym same.id)
      (subst (λ (k : ℕ). StandApart c.id k c'.taken) (sym same.share) (subst (λ (ids : List ℕ). StandApart c.id c.share ids) (sym same.taken) is.apart));
}

-- ---- whose an id is

among_apart : (id share x : ℕ) (ids : List ℕ) → StandApart id share ids → Among x ids → (0 < x) × (InShare id share x → ⊥)
among_apart id share x [] all h = absurd h
among_apart id share x (y ∷ ys) all (inl e) = subst (λ (k : ℕ). (0 < k) × (InShare id share k → ⊥)) (sym e) all.0
among_apart id share x (y ∷ ys) all (inr h) = among_apart id share x ys all.1 h

-- a callers' seat owns no steward's
pub callers_own : (c : SeatView) (x : ℕ) → IsCallers c → Owns c x → 0 < x
callers_own c x is (inl h) = let first = is.id in omega (arith, first, h.0)
callers_own c x is (inr h) = (among_apart c.id c.share x c.taken is.apart h).0

none_among : (x : ℕ) (ids : List ℕ) → ids ≡ [] → Among x ids → ⊥
none_among x [] none h = h
none_among x (y ∷ ys) none h = absurd cc

-- a steward's owns no other
pub stewards_own : (v : SeatView) (x : ℕ) → IsStewards v → Owns v x → x ≡ 0
stewards_own v x is (inl h) = let first = is.id in let one = is.share in omega (arith, first, one, h.1)
stewards_own v x is (inr h) = absurd (none_among x v.taken is.taken h)

-- its own id is among those of a seat
pub own_first : (c : SeatView) → 0 < c.share → Owns c c.id
own_first c some = inl (omega arith, omega (arith, some))

-- ---- an id is cut off

-- the id that is cut off
abbrev pub last_id : SeatView → ℕ
last_id s = s.id + (s.share - 1)

less_or_last : (x n : ℕ) → x ≤ n → (x < n) ⊎ (x ≡ n)
less_or_last zero zero h = inr refl
less_or_last zero (suc n) h = inl (omega arith)
less_or_last (suc x) zero h = absurd (omega (arith, h))
less_or_last (suc x) (suc n) h = up (less_or_last x n (omega (arith, h)))
  where
    up : (x < n) ⊎ (x ≡ n) → (suc x < suc n) ⊎ (suc x ≡ suc n)
    up (inl l) = inl (omega (arith, l))
    up (inr e) = inr (ap suc e)

-- who has it owns it alone
pub given_owns : (s : SeatView) (x : ℕ) → Owns (given 1 s) x → x ≡ last_id s
given_owns s x (inl h) = let low = h.0 in let high = h.1 in omega (arith, low, high)
given_owns s x (inr h) = absurd h

-- what is left does not own it
pub last_apart : (s : SeatView) → IsCallers s → Owns (keeps_all_but 1 s) (last_id s) → ⊥
last_apart s is (inl h) = absurd (omega (arith, h.1))
last_apart s is (inr h) = let some = is.share in (among_apart s.id s.share (last_id s) s.taken is.apart h).1 (omega arith, omega (arith, some))

pub keeps_owns : (s : SeatView) (x : ℕ) → Owns (keeps_all_but 1 s) x → Owns s x
keeps_owns s x (inl h) = inl (h.0, omega (arith, h.1))
keeps_owns s x (inr h) = inr h

pub given_back : (s : SeatView) (x : ℕ) → 0 < s.share → Owns (given 1 s) x → Owns s x
given_back s x some h = let last = given_owns s x h in inl (omega (arith, last), omega (arith, last, some))

-- what a seat owns, the two parts own
pub parts_own : (s : SeatView) (x : ℕ) → 0 < s.share → Owns s x → Owns (keeps_all_but 1 s) x ⊎ Owns (given 1 s) x
parts_own s x some (inr h) = inl (inr h)
parts_own s x some (inl h) = by (less_or_last x (last_id s) (omega (arith, h.1, some)))
  where
    by : (x < last_id s) ⊎ (x ≡ last_id s) → Owns (keeps_all_but 1 s) x ⊎ Owns (given 1 s) x
    by (inl l) = inl (inl (h.0, l))
    by (inr e) = inr (inl (omega (arith, e), omega (arith, e)))

fewer_apart : (id share fewer : ℕ) (ids : List ℕ) → fewer ≤ share → StandApart id share ids → StandApart id fewer ids
fewer_apart id share fewer [] l h = tt
fewer_apart id share fewer (x ∷ xs) l h = ((h.0.0, λ i. h.0.1 (i.0, omega (arith, i.1, l))), fewer_apart id share fewer xs l h.1)

pub keeps_callers : (s : SeatView) → 1 < s.share → IsCallers s → IsCallers (keeps_all_but 1 s)
keeps_callers s more is = record { id = is.id; share = omega (arith, more); apart = fewer_apart s.id s.share (s.share - 1) s.taken (omega arith) is.apart }

pub given_callers : (s : SeatView) → IsCallers s → IsCallers (given 1 s)
given_callers s is = let first = is.id in record { id = omega (arith, first); share = omega arith; apart = tt }

-- ---- others are taken over

among_right : (x : ℕ) (ys zs : List ℕ) → Among x zs → Among x (ys ++ zs)
among_right x [] zs h = h
among_right x (y ∷ ys) zs h = inr (among_right x ys zs h)

in_run : (x from n : ℕ) → InShare from n x → Among x (run_of from n)
in_run x from zero i = absurd (omega (arith, i.0, i.1))
in_run x from (suc n) i = by (less_or_last from x i.0) (λ (l : from < x). in_run x (suc from) n (omega (arith, l), omega (arith, i.1)))
  where
    by : (from < x) ⊎ (from ≡ x) → (from < x → Among x (run_of (suc from) n)) → Among x (run_of from (suc n))
    by (inl l) later = inr (later l)
    by (inr e) later = inl (sym e)

-- the ids of a seat that was taken over
own_run : (d : SeatView) (x : ℕ) → Among x (run_of d.id d.share ++ d.taken) → Owns d x
own_run d x h = by (among_append (run_of d.id d.share) d.taken x h)
  where
    by : Among x (run_of d.id d.share) ⊎ Among x d.taken → Owns d x
    by (inl a) = inl (among_run d.id d.share x a)
    by (inr b) = inr b

run_own : (d : SeatView) (x : ℕ) → Owns d x → Among x (run_of d.id d.share ++ d.taken)
run_own d x (inl i) = among_front (run_of d.id d.share) d.taken x (in_run x d.id d.share i)
run_own d x (inr b) = among_right x (run_of d.id d.share) d.taken b

all_apart : (id share : ℕ) (ids : List ℕ) → ((x : ℕ) → Among x ids → (0 < x) × (InShare id share x → ⊥)) → StandApart id share ids
all_apart id share [] each = tt
all_apart id share (x ∷ xs) each = (each x (inl refl), all_apart id share xs (λ y a. each y (inr a)))

module _ (c d t : SeatView) (j : JoinsTo c d t) where
  one_ids : SameIds c j.one
  one_ids = same_told c d j.one j.met.steward

  other_ids : SameIds d j.other
  other_ids = same_told d c j.other j.met.caller

  taken_is : t.taken ≡ j.one.taken ++ (run_of j.other.id j.other.share ++ j.other.taken)
  taken_is = ap (λ (v : SeatView). v.taken) j.joined.view

  id_is : t.id ≡ j.one.id
  id_is = ap (λ (v : SeatView). v.id) j.joined.view

  share_is : t.share ≡ j.one.share
  share_is = ap (λ (v : SeatView). v.share) j.joined.view

  taken_of : (x : ℕ) → Among x t.taken → Among x j.one.taken ⊎ Owns d x
  taken_of x h = by (among_append j.one.taken (run_of j.other.id j.other.share ++ j.other.taken) x (subst (λ (ids : List ℕ). Among x ids) taken_is h))
    where
      by : Among x j.one.taken ⊎ Among x (run_of j.other.id j.other.share ++ j.other.taken) → Among x j.one.taken ⊎ Owns d x
      by (inl a) = inl a
      by (inr b) = inr (owns_back d j.other x other_ids (own_run j.other x b))

  -- t owns what c owned, and what d did
  pub joined_owns : AreBoth (Owns c) (Owns d) (Owns t)
  joined_owns x = (to, from)
    where
      spread : Among x j.one.taken ⊎ Owns d x → Owns c x ⊎ OwnedBy (Some d) x
      spread (inl a) = inl (owns_back c j.one x one_ids (inr a))
      spread (inr o) = inr o

      to : Owns t x → Owns c x ⊎ OwnedBy (Some d) x
      to (inl h) = inl (owns_back c j.one x one_ids (inl (omega (arith, id_is, h.0), omega (arith, id_is, share_is, h.1))))
      to (inr h) = spread (taken_of x h)

      of_one : Owns j.one x → Owns t x
      of_one (inl h) = inl (omega (arith, id_is, h.0), omega (arith, id_is, share_is, h.1))
      of_one (inr h) = inr (subst (λ (ids : List ℕ). Among x ids) (sym taken_is) (among_front j.one.taken (run_of j.other.id j.other.share ++ j.other.taken) x h))

      from : Owns c x ⊎ OwnedBy (Some d) x → Owns t x
      from (inl o) = of_one (owns_on c j.one x one_ids o)
      from (inr o) = inr (subst (λ (ids : List ℕ). Among x ids) (sym taken_is)
          (among_right x j.one.taken (run_of j.other.id j.other.share ++ j.other.taken) (run_own j.other x (owns_on d j.other x other_ids o))))

  -- where no id was of both it is a callers' seat
  pub joined_callers : IsCallers c → IsCallers d → ((x : ℕ) → Owns c x → Owns d x → ⊥) → IsCallers t
  joined_callers calls callers apart = record {
    id = subst (λ (k : ℕ). 0 < k) (sym (id_is ∙ one_ids.id)) calls.id;
    share = subst (λ (k : ℕ). 0 < k) (sym (share_is ∙ one_ids.share)) calls.share;
    apart = subst (λ (k : ℕ). StandApart k t.share t.taken) (sym (id_is ∙ one_ids.id))
        (subst (λ (k : ℕ). StandApart c.id k t.taken) (sym (share_is ∙ one_ids.share)) (all_apart c.id c.share t.taken each));
  }
    where
      by : (x : ℕ) → Among x j.one.taken ⊎ Owns d x → (0 < x) × (InShare c.id c.share x → ⊥)
      by x (inl a) = among_apart c.id c.share x c.taken calls.apart (subst (λ (ids : List ℕ). Among x ids) one_ids.taken a)
      by x (inr o) = (callers_own d x callers o, λ i. apart x (inl i) o)

      each : (x : ℕ) → Among x t.taken → (0 < x) × (InShare c.id c.share x → ⊥)
      each x h = by x (taken_of x h)

-- ---- behind a meeting both have seen the same

longer_same : {A : Type 0} (xs ys zs us : List A) → LongerOf xs ys zs → LongerOf ys xs us → zs ≡ us
longer_same {A} xs ys zs us a b = by a.one b.one
  where
    by : (zs ≡ xs) ⊎ (zs ≡ ys) → (us ≡ ys) ⊎ (us ≡ xs) → zs ≡ us
    by (inl p) (inr q) = p ∙ sym q
    by (inr p) (inl q) = p ∙ sym q
    by (inl p) (inl q) = prefix_whole zs us (subst (λ (l : List A). IsPrefix l us) (sym p) b.theirs) (prefix_length us zs (subst (λ (l : List A). IsPrefix l zs) (sym q) a.theirs))
    by (inr p) (inr q) = prefix_whole zs us (subst (λ (l : List A). IsPrefix l us) (sym p) b.own) (prefix_length us zs (subst (λ (l : List A). IsPrefix l zs) (sym q) a.own))

pub meets_same : (u c w e : SeatView) → Meets u c w e → w.seen ≡ e.seen
meets_same u c w e m =
    ap (λ (s : SeatView). s.seen) m.steward.view ∙ (longer_same u.seen c.seen m.steward.seen m.caller.seen m.steward.longer m.caller.longer ∙ sym (ap (λ (s : SeatView). s.seen) m.caller.view))

pub joins_same : (c d t : SeatView) → (j : JoinsTo c d t) → j.one.seen ≡ j.other.seen
joins_same c d t j = meets_same c d j.one j.other j.met
