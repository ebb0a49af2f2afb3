-- Where a text is refused: what stands before begins some query, and with what stands there no query goes on.
use Rattle.std.proofs.Common.{◌≡◌, ℕ, ◌+◌, Bool, true, false, ◌&&◌, List, [], ◌∷◌, ◌++◌, length, Option, Some, None, Result, Ok, Err, if◌then◌else◌, refl, sym, ap, ◌∙◌, nat_lt, pos, not}
use Rattle.std.specs.Prelude.{codes, slice_get, ℤ, option_and_then}
use Rattle.std.specs.List.{list_any, position_from}
use Rattle.std.proofs.lemmas.Bool.{true≢false, false≢true}
use Rattle.std.proofs.lemmas.List.{append_assoc, append-nil}
use Rattle.row_model.specs.declared.rows.Value.TheVariants as value
use Rattle.leaf_model.specs.declared.queries.Query.{Query}
use Rattle.row_model.specs.declared.query_fault.QueryFault.{QueryFault}
use Rattle.row_model.specs.declared.query_fault.QueryFault.TheVariants.{Syntax, NoTime, TooLarge}
use Rattle.query_text.specs.declared.tokens.Token.{Token}
use Rattle.query_text.specs.declared.tokens.Token.TheVariants as token
use Rattle.query_text.specs.declared.places.AggWord.{AggWord}
use Rattle.query_text.specs.declared.places.AggWord.TheVariants as kind
use Rattle.query_text.specs.declared.places.Place.{Place}
use Rattle.query_text.specs.declared.places.Place.TheVariants.{Select, Item, NameEnd, Opening, Inside, Closing, AggEnd, NextAgg, Table, Where, LowTime, LowSign, LowBound, And, HighTime, HighSign, HighBound, CondEnd, CondName, CondOp, CondValue, By, GroupName, GroupEnd, OrderBy, OrderAgg, OrderOpening, OrderInside, OrderClosing, Ordered, LimitNumber, Last}
use Rattle.query_text.specs.declared.places.Move.{Move}
use Rattle.query_text.specs.declared.places.Move.TheVariants.{On, Stuck}
use Rattle.query_text.specs.Tokens.{Placed, tokens_of}
use Rattle.query_text.specs.Roles.{name_of_token, const_for, is_has, agg_word_of, op_of, int_of, limit_from, table_of_token, is_word, is_mark, is_int, has_kind, is_orderable, agg_inside, same_agg}
use Rattle.query_text.specs.Reading.{read_from, query_of, nothing_read, led, fault_of, plain_fault, takes_int, is_in_range, goes_on, may_end, on_if, order_or_limit, has_keys, goes_with, sign_fits, is_key, with_agg, with_cond}
use Rattle.query_text.specs.Grammar.{IsBegun, IsStuck, IsQueryRefused, IsSize, IsFault, next_offset, behind_from, is_ranging, plain_tokens}
use Rattle.query_text.proofs.Plain.{reads, moved}
use Rattle.query_text.proofs.Found.{found, None≢Some}
use Rattle.query_text.proofs.Only.{only}
use Rattle.query_text.proofs.Finish.{IsSound, finish}
use Rattle.query_text.proofs.Ranging.{next_behind, behind_after, counted, IsAt, in_range, IsAtMove, at_next}

-- ---- what holds at a place holds at the next

abbrev IsSoundMove : Move → Type 0
IsSoundMove (On q place) = IsSound q place
IsSoundMove Stuck = Unit {0}

on_sound : (b : Bool) (q : Query) (place : Place) → (b ≡ true → IsSound q place) → IsSoundMove (on_if b q place)
on_sound true q place h = h refl
on_sound false q place h = tt

if_sound : (c : Bool) (x y : Move) → (c ≡ true → IsSoundMove x) → (c ≡ false → IsSoundMove y) → IsSoundMove (if c then x else y)
if_sound true x y h k = h refl
if_sound false x y h k = k refl

with_sound : {A : Type 0} (o : Option A) (f : A → Move) (other : Move) → ((x : A) → IsSoundMove (f x)) → IsSoundMove other → IsSoundMove (goes_with o f other)
with_sound None f other h k = k
with_sound (Some x) f other h k = h x

both_right : (x y : Bool) → (x && y) ≡ true → y ≡ true
both_right true y h = h
both_right false y h = absurd (false≢true h)

order_sound : (q : Query) (t : Token) → IsSoundMove (order_or_limit q t)
order_sound q t =
    if_sound (is_word (codes "ORDER") t && list_any is_orderable q.aggs) (On q OrderBy) (on_if (is_word (codes "LIMIT") t) q LimitNumber)
    (λ e. both_right (is_word (codes "ORDER") t) (list_any is_orderable q.aggs) e) (λ e. on_sound (is_word (codes "LIMIT") t) q LimitNumber (λ k. tt))

sound : (q : Query) (place : Place) (t : Token) → IsSound q place → IsSoundMove (goes_on q place t)
sound q Select t h = on_sound (is_word (codes "SELECT") t) q Item (λ e. tt)
sound q Item t h = with_sound (agg_word_of t) _ _ (λ k. tt) (with_sound (name_of_token t) _ _ (λ n. tt) tt)
sound q NameEnd t h = on_sound (is_mark token.Comma t) q Item (λ e. tt)
sound q (Opening k) t h = on_sound (is_mark token.Open t) q (Inside k) (λ e. tt)
sound q (Inside k) t h = with_sound (agg_inside k t) _ _ (λ a. tt) tt
sound q (Closing a) t h = on_sound (is_mark token.Close t) (with_agg q a) AggEnd (λ e. tt)
sound q AggEnd t h = if_sound (is_mark token.Comma t) (On q NextAgg) (on_if (is_word (codes "FROM") t) q Table) (λ e. tt) (λ e. on_sound (is_word (codes "FROM") t) q Table (λ k. tt))
sound q NextAgg t h = with_sound (agg_word_of t) _ _ (λ k. tt) tt
sound q Table t h = with_sound (table_of_token t) _ _ (λ n. tt) tt
sound q Where t h = on_sound (is_word (codes "WHERE") t) q LowTime (λ e. tt)
sound q LowTime t h = on_sound (is_word (codes "time") t) q LowSign (λ e. tt)
sound q LowSign t h = on_sound (sign_fits true (op_of t)) q LowBound (λ e. tt)
sound q LowBound t h = with_sound (int_of t) _ _ (λ n. tt) tt
sound q And t h = on_sound (is_word (codes "AND") t) q HighTime (λ e. tt)
sound q HighTime t h = on_sound (is_word (codes "time") t) q HighSign (λ e. tt)
sound q HighSign t h = on_sound (sign_fits false (op_of t)) q HighBound (λ e. tt)
sound q HighBound t h = with_sound (int_of t) _ _ (λ n. tt) tt
sound q CondEnd t h =
    if_sound (is_word (codes "AND") t) (On q CondName) (if has_keys q then on_if (is_word (codes "GROUP") t) q By else order_or_limit q t) (λ e. tt)
    (λ e. if_sound (has_keys q) (on_if (is_word (codes "GROUP") t) q By) (order_or_limit q t) (λ some. on_sound (is_word (codes "GROUP") t) q By (λ k. some)) (λ none. order_sound q t))
sound q CondName t h = with_sound (name_of_token t) _ _ (λ n. tt) tt
sound q (CondOp name) t h = with_sound (op_of t) _ _ (λ o. tt) tt
sound q (CondValue name op) t h = with_sound (const_for op t) _ _ (λ v. tt) tt
sound q By t h = on_sound (is_word (codes "BY") t) q (GroupName 0) (λ e. h)
sound q (GroupName i) t h = on_sound (is_key (slice_get q.keys i) (name_of_token t)) q (GroupEnd (i + 1)) (λ e. tt)
sound q (GroupEnd i) t h =
    if_sound (nat_lt i (length q.keys)) (on_if (is_mark token.Comma t) q (GroupName i)) (order_or_limit q t) (λ e. on_sound (is_mark token.Comma t) q (GroupName i) (λ k. e)) (λ e. order_sound q t)
sound q OrderBy t h = on_sound (is_word (codes "BY") t) q OrderAgg (λ e. h)
sound q OrderAgg t h = with_sound (agg_word_of t) _ _ (λ k. on_sound (list_any (has_kind k) q.aggs) q (OrderOpening k) (λ e. e)) tt
sound q (OrderOpening k) t h = on_sound (is_mark token.Open t) q (OrderInside k) (λ e. h)
sound q (OrderInside k) t h = with_sound (option_and_then (λ a. position_from (same_agg a) 0 q.aggs) (agg_inside k t)) _ _ (λ i. tt) tt
sound q (OrderClosing i) t h = on_sound (is_mark token.Close t) (record q { order = Some i }) Ordered (λ e. tt)
sound q Ordered t h = on_sound (is_word (codes "LIMIT") t) q LimitNumber (λ e. tt)
sound q LimitNumber t h = with_sound (limit_from (int_of t)) _ _ (λ n. tt) tt
sound q Last t h = tt

-- ---- the way to the fault

abbrev NoMore : Query → Place → List Placed → Type 0
NoMore q place [] = may_end q place ≡ false
NoMore q place (p ∷ ps) = goes_on q place p.token ≡ Stuck

abbrev fault_by : Place → ℕ → List Placed → QueryFault
fault_by place end [] = plain_fault place end
fault_by place end (p ∷ ps) = fault_of place p.at p.token

record Stopped (d : Option ℕ) (end : ℕ) (q : Query) (place : Place) (ps : List Placed) (fault : QueryFault) : Type 0 where
  before : List Placed
  rest : List Placed
  r : Query
  there : Place
  cut : ps ≡ before ++ rest
  holds : IsSound r there
  same : (ts : List Token) → reads q place (plain_tokens before ++ ts) ≡ reads r there ts
  stuck : NoMore r there rest
  is : fault ≡ fault_by there end rest
  at : IsAt there (behind_after d (plain_tokens before))

Ok≢Err : {q : Query} {fault : QueryFault} → Ok q ≡ Err fault → ⊥
Ok≢Err h = absurd (true≢false (ap is_good h))
  where
    is_good : Result Query QueryFault → Bool
    is_good (Ok q) = true
    is_good (Err fault) = false

same_fault : {a b : QueryFault} → ◌≡◌ {A = Result Query QueryFault} (Err a) (Err b) → b ≡ a
same_fault {a} {b} h = sym (ap (fault_in a) h)
  where
    fault_in : QueryFault → Result Query QueryFault → QueryFault
    fault_in a (Ok q) = a
    fault_in a (Err fault) = fault

end_by : (b : Bool) (d : Option ℕ) (end : ℕ) (q : Query) (place : Place) (fault : QueryFault) → may_end q place ≡ b → IsSound q place → IsAt place d → (if b then Ok q else Err (plain_fault place end)) ≡ Err fault → Stopped d end q place [] fault
end_by true d end q place fault e s a h = absurd (Ok≢Err h)
end_by false d end q place fault e s a h = record { before = []; rest = []; r = q; there = place; cut = refl; holds = s; same = λ ts. refl; stuck = e; is = same_fault h; at = a }

move_by : (m : Move) (d : Option ℕ) (end : ℕ) (q : Query) (place : Place) (p : Placed) (ps : List Placed) (fault : QueryFault) → goes_on q place p.token ≡ m → IsSound q place → IsAt place d → IsSoundMove m → IsAtMove m (next_behind d p.token)
    → ((r : Query) (next : Place) → IsSound r next → IsAt next (next_behind d p.token) → read_from end r next ps ≡ Err fault → Stopped (next_behind d p.token) end r next ps fault)
    → led m (λ r next. read_from end r next ps) (fault_of place p.at p.token) ≡ Err fault → Stopped d end q place (p ∷ ps) fault
move_by (On r next) d end q place p ps fault e s a sm am rec h =
    let l = rec r next sm am h in
    record {
      before = p ∷ l.before;
      rest = l.rest;
      r = l.r;
      there = l.there;
      cut = ap (λ qs. p ∷ qs) l.cut;
      holds = l.holds;
      same = λ ts. ap (λ m. moved m (λ r n. reads r n (plain_tokens l.before ++ ts))) e ∙ l.same ts;
      stuck = l.stuck;
      is = l.is;
      at = l.at;
    }
move_by Stuck d end q place p ps fault e s a sm am rec h = record { before = []; rest = p ∷ ps; r = q; there = place; cut = refl; holds = s; same = λ ts. refl; stuck = e; is = same_fault h; at = a }

walk : (d : Option ℕ) (end : ℕ) (ps : List Placed) (q : Query) (place : Place) (fault : QueryFault) → IsSound q place → IsAt place d → read_from end q place ps ≡ Err fault → Stopped d end q place ps fault
walk d end [] q place fault s a h = end_by (may_end q place) d end q place fault refl s a h
walk d end (p ∷ ps) q place fault s a h =
    move_by (goes_on q place p.token) d end q place p ps fault refl s a (sound q place p.token s) (at_next q place p.token d a) (λ r next sn an k. walk (next_behind d p.token) end ps r next fault sn an k) h

-- ---- the theorem

begun_by : (before : List Token) (r : Query) (there : Place) → IsSound r there → ((ts : List Token) → reads nothing_read Select (before ++ ts) ≡ reads r there ts) → IsBegun before
begun_by before r there s same =
    let f = finish r there s in
    (f.more, (f.r, only f.r (before ++ f.more) (same f.more ∙ f.read)))

stuck_by : (before : List Token) (rest : List Placed) (r : Query) (there : Place) → NoMore r there rest → ((ts : List Token) → reads nothing_read Select (before ++ ts) ≡ reads r there ts) → IsStuck before rest
stuck_by before [] r there ends same = λ q sp. (
    let read : reads nothing_read Select (before ++ []) ≡ Some q = rw (append-nil before) (found q before sp) in
    let ended : reads r there [] ≡ None = rw ends refl in
    None≢Some (sym ended ∙ sym (same []) ∙ read))
stuck_by before (p ∷ ps) r there ends same = λ begun. (
    let read : reads nothing_read Select (before ++ (p.token ∷ begun.0)) ≡ Some begun.1.0 = rw (← append_assoc before (p.token ∷ []) begun.0) (found begun.1.0 ((before ++ (p.token ∷ [])) ++ begun.0) begun.1.1) in
    let ended : reads r there (p.token ∷ begun.0) ≡ None = rw ends refl in
    None≢Some (sym ended ∙ sym (same (p.token ∷ begun.0)) ∙ read))

-- an integer is taken where one may stand
record IntTaken (q : Query) (place : Place) : Type 0 where
  s : Query
  next : Place
  goes : (ts : List Token) → reads q place (token.Int (Some (pos 0)) ∷ ts) ≡ reads s next ts
  holds : IsSound s next

not_true : (b : Bool) → not b ≡ true → b ≡ false
not_true true h = absurd (false≢true h)
not_true false h = refl

not_false : (b : Bool) → not b ≡ false → b ≡ true
not_false true h = refl
not_false false h = absurd (true≢false h)

int_taken : (q : Query) (place : Place) → takes_int place ≡ true → IntTaken q place
int_taken q LowBound h = record { s = record q { from = pos 0 }; next = And; goes = λ ts. refl; holds = tt }
int_taken q HighBound h = record { s = record q { to = pos 0 }; next = CondEnd; goes = λ ts. refl; holds = tt }
int_taken q (CondValue name op) h = let plain = not_true (is_has op) h in record { s = with_cond q name op (value.Int (pos 0)); next = CondEnd; goes = λ ts. rw plain refl; holds = tt }
int_taken q LimitNumber h = record { s = record q { limit = 0 }; next = Last; goes = λ ts. refl; holds = tt }
int_taken q place h = absurd (false≢true h)

if_same : {A : Type 0} (b : Bool) (x : A) → (if b then x else x) ≡ x
if_same true x = refl
if_same false x = refl

no_key : (o : Option (List ℕ)) → is_key o None ≡ false
no_key None = refl
no_key (Some n) = refl

int_inside : (k : AggWord) (n : ℤ) → agg_inside k (token.Int (Some n)) ≡ None
int_inside kind.Count n = refl
int_inside kind.Sum n = refl
int_inside kind.Min n = refl
int_inside kind.Max n = refl
int_inside kind.Avg n = refl

-- and nowhere else
int_stuck : (q : Query) (place : Place) (n : ℤ) → takes_int place ≡ false → goes_on q place (token.Int (Some n)) ≡ Stuck
int_stuck q LowBound n h = absurd (true≢false h)
int_stuck q HighBound n h = absurd (true≢false h)
int_stuck q (CondValue name op) n h = let has = not_false (is_has op) h in rw has refl
int_stuck q LimitNumber n h = absurd (true≢false h)
int_stuck q (Inside k) n h = rw (int_inside k n) refl
int_stuck q (OrderInside k) n h = rw (int_inside k n) refl
int_stuck q CondEnd n h = if_same (has_keys q) Stuck
int_stuck q (GroupName i) n h = rw (no_key (slice_get q.keys i)) refl
int_stuck q (GroupEnd i) n h = if_same (nat_lt i (length q.keys)) Stuck
int_stuck q place n h = refl

wanted : (before : List Token) (r : Query) (there : Place) → takes_int there ≡ true → ((ts : List Token) → reads nothing_read Select (before ++ ts) ≡ reads r there ts)
    → (n : ℤ) × IsBegun (before ++ (token.Int (Some n) ∷ []))
wanted before r there takes same =
    let i = int_taken r there takes in (
      pos 0,
      begun_by (before ++ (token.Int (Some (pos 0)) ∷ [])) i.s i.next i.holds
          (λ ts. ap (reads nothing_read Select) (append_assoc before (token.Int (Some (pos 0)) ∷ []) ts) ∙ same (token.Int (Some (pos 0)) ∷ ts) ∙ i.goes ts),
    )

unwanted : (before : List Token) (r : Query) (there : Place) → takes_int there ≡ false → ((ts : List Token) → reads nothing_read Select (before ++ ts) ≡ reads r there ts)
    → (n : ℤ) → IsBegun (before ++ (token.Int (Some n) ∷ [])) → ⊥
unwanted before r there takes same n = stuck_by before (record { at = 0; token = token.Int (Some n) } ∷ []) r there (int_stuck r there n takes) same

plain_kind : (b : Bool) (before : List Token) (rest : List Placed) (end at : ℕ) (fault : QueryFault) → at ≡ next_offset end rest → (IsSize before rest → ⊥) → is_ranging (behind_from before) ≡ b
    → fault ≡ (if b then NoTime else Syntax at) → IsFault fault before rest end
plain_kind true before rest end at fault is none range h = rw h (none, range)
plain_kind false before rest end at fault is none range h = rw h (is, (none, range))

large_kind : (takes is_number : Bool) (before : List Token) (p : Placed) (ps : List Placed) (end : ℕ) (r : Query) (there : Place) (fault : QueryFault) → takes_int there ≡ takes → is_int p.token ≡ is_number
    → is_ranging (behind_from before) ≡ is_in_range there → ((ts : List Token) → reads nothing_read Select (before ++ ts) ≡ reads r there ts)
    → fault ≡ (if takes && is_number then TooLarge p.at else plain_fault there p.at) → IsFault fault before (p ∷ ps) end
large_kind true true before p ps end r there fault et en range same h = rw h (refl, (en, wanted before r there et same))
large_kind true false before p ps end r there fault et en range same h =
    plain_kind (is_in_range there) before (p ∷ ps) end p.at fault refl (λ size. true≢false (sym size.0 ∙ en)) range h
large_kind false is_number before p ps end r there fault et en range same h =
    plain_kind (is_in_range there) before (p ∷ ps) end p.at fault refl (λ size. unwanted before r there et same size.1.0 size.1.1) range h

kind_by : (before : List Token) (rest : List Placed) (end : ℕ) (r : Query) (there : Place) (fault : QueryFault)
    → is_ranging (behind_from before) ≡ is_in_range there → ((ts : List Token) → reads nothing_read Select (before ++ ts) ≡ reads r there ts)
    → fault ≡ fault_by there end rest → IsFault fault before rest end
kind_by before [] end r there fault range same h = plain_kind (is_in_range there) before [] end end fault refl (λ size. size) range h
kind_by before (p ∷ ps) end r there fault range same h = large_kind (takes_int there) (is_int p.token) before p ps end r there fault refl refl range same h

pub refused : (text : List ℕ) (fault : QueryFault) → query_of text ≡ Err fault → IsQueryRefused text fault
refused text fault h =
    let l = walk None (length text) (tokens_of text) nothing_read Select fault tt refl h in
    record {
      before = l.before;
      rest = l.rest;
      tokens = l.cut;
      begun = begun_by (plain_tokens l.before) l.r l.there l.holds l.same;
      stuck = stuck_by (plain_tokens l.before) l.rest l.r l.there l.stuck l.same;
      told = kind_by (plain_tokens l.before) l.rest (length text) l.r l.there fault (ap is_ranging (sym (counted (plain_tokens l.before))) ∙ in_range l.there (behind_after None (plain_tokens l.before)) l.at) l.same l.is;
    }
