-- A legal list of turns goes on by one turn.
use Rattle.std.proofs.Common.{ℤ, ◌≡◌, ◌⊎◌, ℕ, zero, suc, ◌+◌, ◌-◌, ◌<◌, ◌≤◌, ◌^◌, Bool, true, false, List, [], ◌∷◌, ◌++◌, length, take, drop, refl, sym, ap, ◌∙◌, subst, inl, inr, Option, Some, None, arith}
use Rattle.std.specs.List.{AllByRecursion}
use Rattle.turnstile.specs.declared.object.TurnEntry as turnstile
use Rattle.turnstile.specs.Objects.{entry_of}
use Rattle.row_model.specs.declared.rows.Row.{Row}
use Rattle.leaf_model.specs.declared.queries.Query.{Query}
use Rattle.leaf_model.specs.declared.writes.Write.{Write}
use Rattle.leaf_model.specs.declared.writes.Write.TheVariants as write
use Rattle.row_model.specs.Values.{IsRow, IsTime}
use Rattle.leaf_model.specs.Content.{Contents, content_after, content_from, kept_count, late_count, removed_count}
use Rattle.leaf_model.specs.Groups.{groups}
use Rattle.leaf_history.specs.History.{HistoryState, LegalFrom, Allowed, opened, after, after_entry, contents_held, untaken, write_count, written}
use Rattle.leaf_history.specs.Laws.{HasSoundCounts}
use Rattle.leaf_history.proofs.Histories.{counts_stay, length_take}
use Rattle.row_records.specs.Pending.{with_push}
use Rattle.table_state.specs.Tables.{Table, IsHeld, added_by, added_count, bare, columns_most, table_with_write, empty_table}
use Rattle.group_table.proofs.Within.{groups_grow}
use Rattle.leaf_table.specs.declared.base.TableBase.{TableBase}
use Rattle.leaf_table.specs.declared.turns.Turn.{Turn}
use Rattle.leaf_table.specs.declared.turns.Turn.TheVariants as turn
use Rattle.leaf_table.specs.declared.turns.TurnAnswer.{TurnAnswer}
use Rattle.leaf_table.specs.declared.turns.TurnAnswer.TheVariants as answer
use Rattle.leaf_table.specs.declared.value.LeafTable.{LeafTable}
use Rattle.leaf_table.specs.Turns.{TurnsTaken, is_founded, start_of, call_of, reply_of, told, history, record_for, Hands, HandsFrom, LegalTurns, state_after, IsTableOf, StandsFor, MayHandIn, MayNow}
use Rattle.leaf_table.specs.Steps.{AddsTo, RemovesFrom, AsksOf}

push_after : (founded : Bool) (s : HistoryState) (h : TurnsTaken) (e : turnstile.TurnEntry Turn TurnAnswer) → after founded s (history (h ++ e ∷ [])) ≡ after_entry founded (after founded s (history h)) (told e)
push_after founded s [] e = refl
push_after founded s (x ∷ h) e = push_after founded (after_entry founded s (told x)) h e

push_legal : (founded : Bool) (s : HistoryState) (h : TurnsTaken) (e : turnstile.TurnEntry Turn TurnAnswer) → LegalFrom founded s (history h) → Allowed founded (after founded s (history h)) e.by (call_of e.call) (reply_of e.reply) → LegalFrom founded s (history (h ++ e ∷ []))
push_legal founded s [] e l a = (a, tt)
push_legal founded s (x ∷ h) e l a = (l.0, push_legal founded (after_entry founded s (told x)) h e l.1 a)

push_hands : (name : List ℕ) (founded : Bool) (s : HistoryState) (h : TurnsTaken) (e : turnstile.TurnEntry Turn TurnAnswer) → HandsFrom name founded s h → Hands name founded (after founded s (history h)) e.call e.reply → HandsFrom name founded s (h ++ e ∷ [])
push_hands name founded s [] e l a = (a, tt)
push_hands name founded s (x ∷ h) e l a = (l.0, push_hands name founded (after_entry founded s (told x)) h e l.1 a)

push_length : (h : TurnsTaken) (e : turnstile.TurnEntry Turn TurnAnswer) → length (h ++ e ∷ []) ≡ length h + 1
push_length [] e = refl
push_length (x ∷ h) e = let further = push_length h e in omega (arith, further)

-- what one turn tells of the value and of its history
pub record Goes (name : List ℕ) (founded : Bool) (s : HistoryState) (n : ℕ) (by clock : ℕ) (t : Turn) (a : TurnAnswer) (w : LeafTable) : Type 0 where
  pub allowed : Allowed founded s by (call_of t) (reply_of a)
  pub hands : Hands name founded s t a
  pub stands : IsTableOf name founded (after_entry founded s (told (entry_of by clock t a))) (n + 1) w

pub goes_on : (name : List ℕ) (base : Option TableBase) (h : TurnsTaken) (by clock : ℕ) (t : Turn) (a : TurnAnswer) (w : LeafTable) → LegalTurns name base h → Goes name (is_founded base) (state_after base h) (length h) by clock t a w
    → LegalTurns name base (h ++ entry_of by clock t a ∷ []) × StandsFor name base (h ++ entry_of by clock t a ∷ []) w
goes_on name base h by clock t a w l g =
    let e = entry_of by clock t a in
    let s = start_of base in
    let f = is_founded base in
    let same : IsTableOf name f (after f s (history (h ++ e ∷ []))) (length h + 1) w = subst (λ s'. IsTableOf name f s' (length h + 1) w) (sym (push_after f s h e)) g.stands in
    (record { legal = push_legal f s h e l.legal g.allowed; hands = push_hands name f s h e l.hands g.hands }, subst (λ n. IsTableOf name f (after f s (history (h ++ e ∷ []))) n w) (sym (push_length h e)) same)

counted_start : (base : Option TableBase) → HasSoundCounts (start_of base)
counted_start (Some b) = record { taken = omega arith; handed_in = omega arith }
counted_start None = record { taken = omega arith; handed_in = omega arith }

pub counted : (name : List ℕ) (base : Option TableBase) (h : TurnsTaken) → LegalTurns name base h → HasSoundCounts (state_after base h)
counted name base h l = counts_stay (is_founded base) (start_of base) (history h) l.legal (counted_start base)

held_push : (c : Contents) (ws : List Write) (w : Write) → content_after (content_from c ws) w ≡ content_from c (ws ++ w ∷ [])
held_push c [] w = refl
held_push c (x ∷ ws) w = held_push (content_after c x) ws w

-- what one more write adds
added_push : (ws : List Write) (w : Write) → added_count (ws ++ w ∷ []) ≡ added_count ws + added_by w
added_push [] w = omega arith
added_push (x ∷ ws) w = let further = added_push ws w in omega (arith, further)

longer : (ws : List Write) (w : Write) → length (ws ++ w ∷ []) ≡ length ws + 1
longer [] w = refl
longer (x ∷ ws) w = let further = longer ws w in omega (arith, further)

drop_push : (k : ℕ) (ws : List Write) (w : Write) → k ≤ length ws → drop k ws ++ w ∷ [] ≡ drop k (ws ++ w ∷ [])
drop_push zero ws w h = refl
drop_push (suc k) [] w h = absurd (omega (arith, h))
drop_push (suc k) (x ∷ ws) w h = drop_push k ws w (omega (arith, h))

drop_end : (k : ℕ) (ws : List Write) → length ws ≤ k → [] ≡ drop k ws
drop_end zero [] h = refl
drop_end zero (x ∷ ws) h = absurd (omega (arith, h))
drop_end (suc k) [] h = refl
drop_end (suc k) (x ∷ ws) h = drop_end k ws (omega (arith, h))

stays : (name : List ℕ) (founded : Bool) (s : HistoryState) (n : ℕ) (v : LeafTable) → IsTableOf name founded s n v → IsTableOf name founded s (n + 1) v
stays name founded s n v i = record { named = i.named; short = i.short; live = i.live; contents = i.contents; writes = i.writes; pending = i.pending; few = λ yes. let few = i.few yes in omega (arith, few); columns = i.columns }

-- one more write in the record
record_push : (name : List ℕ) (ws : List Write) (w : Write) → Some (with_push name w (record_for name ws)) ≡ record_for name (ws ++ w ∷ [])
record_push name [] w = refl
record_push name (x ∷ ws) w = refl

record_end : (name : List ℕ) (ws : List Write) → [] ≡ ws → None ≡ record_for name ws
record_end name ws is = ap (record_for name) is

-- an open table after one more write
writes_on : (name : List ℕ) (founded : Bool) (s : HistoryState) (n : ℕ) (v u : LeafTable) (w : Write) → HasSoundCounts s → IsTableOf name founded s n v → s.live ≡ true
    → u.name ≡ v.name → u.live ≡ v.live → bare u.table ≡ table_with_write v.name v.table w → columns_most u.table.store ≤ columns_most v.table.store + added_by w → IsTableOf name founded (written s w) (n + 1) u
writes_on name founded s n v u w c i live named lives table columns =
    let count = i.writes live in
    let few = i.few live in
    let more = longer s.writes w in
    let wrote = ap (λ (t : Table). t.writes) table in record {
      named = named ∙ i.named;
      short = i.short;
      live = lives ∙ i.live;
      contents = λ _. ap (λ (t : Table). t.contents) table ∙ (ap (λ x. content_after x w) (i.contents live) ∙ held_push s.before s.writes w);
      writes = λ _. omega (arith, wrote, count, more);
      pending = λ _.
          ap (λ (t : Table). t.pending) table
          ∙ (ap (λ (x : List ℕ). Some (with_push x w v.table.pending)) i.named ∙ (ap (λ p. Some (with_push name w p)) (i.pending live) ∙ (record_push name (untaken s) w ∙ ap (record_for name) (drop_push (s.taken - s.handed_in) s.writes w (omega (arith, c.taken))))));
      few = λ _. omega (arith, wrote, few);
      columns = λ _ yes. let before = i.columns live yes in let adds = added_push s.writes w in omega (arith, columns, before, adds);
    }

pub added : (name : List ℕ) (founded : Bool) (s : HistoryState) (n by clock : ℕ) (v : LeafTable) (rows : List Row) (a : TurnAnswer) (w : LeafTable) → HasSoundCounts s → IsTableOf name founded s n v → (0 < by) × AllByRecursion IsRow rows → AddsTo v rows a w → Goes name founded s n by clock (turn.Add rows) a w
added name founded s n by clock v rows (answer.Added kept late) w c i caller is =
    let live : s.live ≡ true = sym i.live ∙ is.0 in
    let same : v.table.contents ≡ contents_held s = i.contents live in
    record {
      allowed = (caller.0, (live, subst (λ x. length x.rows + kept_count x rows ≤ 2 ^ 40) same is.1, is.2 ∙ ap (λ x. kept_count x rows) same, is.3 ∙ ap (λ x. late_count x rows) same));
      hands = (tt, tt);
      stands = writes_on name founded s n v w (write.Add rows) c i live is.4 is.5 is.6 is.7;
    }
added name founded s n by clock v rows answer.Full w c i caller is =
    let live : s.live ≡ true = sym i.live ∙ is.0 in record {
      allowed = (caller.0, (live, subst (λ x. 2 ^ 40 < length x.rows + kept_count x rows) (i.contents live) is.1));
      hands = (tt, tt);
      stands = subst (λ x. IsTableOf name founded s (n + 1) x) (sym is.2) (stays name founded s n v i);
    }
added name founded s n by clock v rows answer.NoMemory w c i caller is = record { allowed = (caller.0, sym i.live ∙ is.0); hands = (tt, tt); stands = subst (λ x. IsTableOf name founded s (n + 1) x) (sym is.1) (stays name founded s n v i) }
added name founded s n by clock v rows answer.Shut w c i caller is = record { allowed = (caller.0, sym i.live ∙ is.0); hands = (tt, tt); stands = subst (λ x. IsTableOf name founded s (n + 1) x) (sym is.1) (stays name founded s n v i) }
added name founded s n by clock v rows (answer.Removed k) w c i caller is = absurd is
added name founded s n by clock v rows (answer.Groups gs) w c i caller is = absurd is
added name founded s n by clock v rows (answer.Took writes pending) w c i caller is = absurd is
added name founded s n by clock v rows (answer.Closed table) w c i caller is = absurd is
added name founded s n by clock v rows answer.Noted w c i caller is = absurd is

pub copied : (name : List ℕ) (founded : Bool) (s : HistoryState) (n by clock : ℕ) (v : LeafTable) (rows : _) (copy : Option (List Row)) (a : TurnAnswer) (w : LeafTable) → HasSoundCounts s → IsTableOf name founded s n v → MayNow founded s by (turn.AddCopy rows copy) → AddsTo v rows.value a w → Goes name founded s n by clock (turn.AddCopy rows copy) a w
copied name founded s n by clock v rows copy a w c i may is = let goes = added name founded s n by clock v rows.value a w c i (may.0, may.1) is in record { allowed = goes.allowed; hands = goes.hands; stands = goes.stands }

pub expired : (name : List ℕ) (founded : Bool) (s : HistoryState) (n by clock : ℕ) (v : LeafTable) (horizon : ℤ) (a : TurnAnswer) (w : LeafTable) → HasSoundCounts s → IsTableOf name founded s n v → (0 < by) × IsTime horizon → RemovesFrom v (write.Expire horizon) a w → Goes name founded s n by clock (turn.Expire horizon) a w
expired name founded s n by clock v horizon (answer.Removed k) w c i caller is = let live : s.live ≡ true = sym i.live ∙ is.0 in record { allowed = (caller.0, (live, is.1 ∙ ap (λ x. removed_count x (write.Expire horizon)) (i.contents live))); hands = (tt, tt); stands = writes_on name founded s n v w (write.Expire horizon) c i live is.2 is.3 is.4 (let fewer = is.5 in omega (arith, fewer)) }
expired name founded s n by clock v horizon answer.NoMemory w c i caller is = record { allowed = (caller.0, sym i.live ∙ is.0); hands = (tt, tt); stands = subst (λ x. IsTableOf name founded s (n + 1) x) (sym is.1) (stays name founded s n v i) }
expired name founded s n by clock v horizon answer.Shut w c i caller is = record { allowed = (caller.0, sym i.live ∙ is.0); hands = (tt, tt); stands = subst (λ x. IsTableOf name founded s (n + 1) x) (sym is.1) (stays name founded s n v i) }
expired name founded s n by clock v horizon (answer.Added kept late) w c i caller is = absurd is
expired name founded s n by clock v horizon answer.Full w c i caller is = absurd is
expired name founded s n by clock v horizon (answer.Groups gs) w c i caller is = absurd is
expired name founded s n by clock v horizon (answer.Took writes pending) w c i caller is = absurd is
expired name founded s n by clock v horizon (answer.Closed table) w c i caller is = absurd is
expired name founded s n by clock v horizon answer.Noted w c i caller is = absurd is

pub cut_to : (name : List ℕ) (founded : Bool) (s : HistoryState) (n by clock : ℕ) (v : LeafTable) (count : ℕ) (a : TurnAnswer) (w : LeafTable) → HasSoundCounts s → IsTableOf name founded s n v → 0 < by → RemovesFrom v (write.Keep count) a w → Goes name founded s n by clock (turn.Keep count) a w
cut_to name founded s n by clock v count (answer.Removed k) w c i caller is = let live : s.live ≡ true = sym i.live ∙ is.0 in record { allowed = (caller, (live, is.1 ∙ ap (λ x. removed_count x (write.Keep count)) (i.contents live))); hands = (tt, tt); stands = writes_on name founded s n v w (write.Keep count) c i live is.2 is.3 is.4 (let fewer = is.5 in omega (arith, fewer)) }
cut_to name founded s n by clock v count answer.NoMemory w c i caller is = record { allowed = (caller, sym i.live ∙ is.0); hands = (tt, tt); stands = subst (λ x. IsTableOf name founded s (n + 1) x) (sym is.1) (stays name founded s n v i) }
cut_to name founded s n by clock v count answer.Shut w c i caller is = record { allowed = (caller, sym i.live ∙ is.0); hands = (tt, tt); stands = subst (λ x. IsTableOf name founded s (n + 1) x) (sym is.1) (stays name founded s n v i) }
cut_to name founded s n by clock v count (answer.Added kept late) w c i caller is = absurd is
cut_to name founded s n by clock v count answer.Full w c i caller is = absurd is
cut_to name founded s n by clock v count (answer.Groups gs) w c i caller is = absurd is
cut_to name founded s n by clock v count (answer.Took writes pending) w c i caller is = absurd is
cut_to name founded s n by clock v count (answer.Closed table) w c i caller is = absurd is
cut_to name founded s n by clock v count answer.Noted w c i caller is = absurd is

same_query : (copy : Option Query) (q r : Query) → (copy ≡ None) ⊎ (copy ≡ Some q) → copy ≡ Some r → r ≡ q
same_query None q r e is = cc
same_query (Some x) q r (inl e) is = cc
same_query (Some x) q r (inr e) is = cc

pub asked : (name : List ℕ) (founded : Bool) (s : HistoryState) (n by clock : ℕ) (v : LeafTable) (query : _) (copy : Option Query) (a : TurnAnswer) → IsTableOf name founded s n v → MayNow founded s by (turn.Ask query copy) → AsksOf v copy a → Goes name founded s n by clock (turn.Ask query copy) a v
asked name founded s n by clock v query copy (answer.Groups gs) i may is =
    let live : s.live ≡ true = sym i.live ∙ is.0 in
    let which : is.1 ≡ query.value = same_query copy query.value is.1 may.1 is.2 in record {
      allowed = (may.0, (live, is.3 ∙ (ap (λ x. groups is.1 x.rows) (i.contents live) ∙ ap (λ q. groups q (contents_held s).rows) which)));
      hands = (tt, (subst IsHeld (i.contents live) is.4, groups_grow (length v.table.contents.rows) (2 ^ 40) gs is.4.few is.5));
      stands = stays name founded s n v i;
    }
asked name founded s n by clock v query copy answer.NoMemory i may is = record { allowed = (may.0, sym i.live ∙ is); hands = (tt, tt); stands = stays name founded s n v i }
asked name founded s n by clock v query copy answer.Shut i may is = record { allowed = (may.0, sym i.live ∙ is); hands = (tt, tt); stands = stays name founded s n v i }
asked name founded s n by clock v query copy (answer.Added kept late) i may is = absurd is
asked name founded s n by clock v query copy (answer.Removed k) i may is = absurd is
asked name founded s n by clock v query copy answer.Full i may is = absurd is
asked name founded s n by clock v query copy (answer.Took writes pending) i may is = absurd is
asked name founded s n by clock v query copy (answer.Closed table) i may is = absurd is
asked name founded s n by clock v query copy answer.Noted i may is = absurd is

pub taken : (name : List ℕ) (founded : Bool) (s : HistoryState) (n by clock : ℕ) (v : LeafTable) → IsTableOf name founded s n v → MayNow founded s by turn.Take
    → Goes name founded s n by clock turn.Take (answer.Took v.table.writes v.table.pending) (record v { table = record v.table { pending = None } })
taken name founded s n by clock v i may = record {
  allowed = (may.0, may.1, i.writes may.1);
  hands = (i.pending may.1, tt);
  stands = record { named = i.named; short = i.short; live = i.live; contents = i.contents; writes = i.writes; pending = λ _. record_end name (drop (write_count s - s.handed_in) s.writes) (drop_end (write_count s - s.handed_in) s.writes (omega arith)); few = λ yes. let few = i.few yes in omega (arith, few); columns = i.columns };
}

clash : (A : Type 0) → false ≡ true → A
clash A e = absurd (cc e)

pub shut : (name : List ℕ) (founded : Bool) (s : HistoryState) (n by clock : ℕ) (v : LeafTable) → IsTableOf name founded s n v → MayNow founded s by turn.Shut
    → Goes name founded s n by clock turn.Shut (answer.Closed v.table) (record v { live = false; table = empty_table })
shut name founded s n by clock v i may = record {
  allowed = (may.0, may.1, i.writes may.1);
  hands = ((i.contents may.1, i.pending may.1, i.columns may.1), tt);
  stands = record { named = i.named; short = i.short; live = refl; contents = λ e. clash _ e; writes = λ e. clash _ e; pending = λ e. clash _ e; few = λ e. clash _ e; columns = λ e. clash _ e };
}

pub flushed : (name : List ℕ) (founded : Bool) (s : HistoryState) (n by clock : ℕ) (v : LeafTable) (k : ℕ) → IsTableOf name founded s n v → MayNow founded s by (turn.Flushed k) → Goes name founded s n by clock (turn.Flushed k) answer.Noted v
flushed name founded s n by clock v k i may = let on = stays name founded s n v i in record { allowed = (may.0, may.1, refl); hands = (tt, tt); stands = record { named = on.named; short = on.short; live = on.live; contents = on.contents; writes = on.writes; pending = on.pending; few = on.few; columns = on.columns } }

pub done : (name : List ℕ) (founded : Bool) (s : HistoryState) (n by clock : ℕ) (v : LeafTable) → IsTableOf name founded s n v → MayNow founded s by turn.Done → Goes name founded s n by clock turn.Done answer.Noted v
done name founded s n by clock v i may = let on = stays name founded s n v i in record { allowed = (may.0, may.1, refl); hands = (tt, tt); stands = record { named = on.named; short = on.short; live = on.live; contents = on.contents; writes = on.writes; pending = on.pending; few = on.few; columns = on.columns } }

handed_in : (name : List ℕ) (founded : Bool) (s : HistoryState) (n k : ℕ) (v : LeafTable) (table : Table) → HasSoundCounts s → IsTableOf name founded s n v → MayHandIn founded s k table → IsTableOf name founded (opened founded s k table.contents) (n + 1) (record v { live = true; table = table })
handed_in name true s n k v table c i may =
    let a = may.allowed in
    let size = length_take (k - s.handed_in) s.writes (omega (arith, a.accepted, c.handed_in)) in record {
      named = i.named;
      short = i.short;
      live = refl;
      contents = λ _. a.contents_are;
      writes = λ _. omega (arith, size, may.writes, a.flushed, c.handed_in);
      pending = λ _. may.pending ∙ record_end name (drop (k - s.handed_in) (take (k - s.handed_in) s.writes)) (drop_end (k - s.handed_in) (take (k - s.handed_in) s.writes) (omega (arith, size)));
      few = λ _. omega (arith, may.writes, may.small);
      columns = λ _. may.columns;
    }
handed_in name false s n k v table c i may = record {
  named = i.named;
  short = i.short;
  live = refl;
  contents = λ _. refl;
  writes = λ _. omega (arith, may.writes);
  pending = λ _. may.pending ∙ record_end name (drop (k - k) []) (drop_end (k - k) [] (omega arith));
  few = λ _. omega (arith, may.writes, may.small);
  columns = λ _ e. clash _ e;
}

pub reopened : (name : List ℕ) (founded : Bool) (s : HistoryState) (n by clock k : ℕ) (v : LeafTable) (table : Table) → HasSoundCounts s → IsTableOf name founded s n v → MayNow founded s by (turn.Open k table) → Goes name founded s n by clock (turn.Open k table) answer.Noted (record v { live = true; table = table })
reopened name founded s n by clock k v table c i may = record { allowed = (may.0, may.1, may.2.allowed, refl); hands = (tt, tt); stands = handed_in name founded s n k v table c i may.2 }

-- the same, for a turn, an answer and a value that equal the ones it is shown for
pub steps_on : (name : List ℕ) (base : Option TableBase) (h : TurnsTaken) (by clock : ℕ) (v : LeafTable) (t t' : Turn) (a a' : TurnAnswer) (w w' : LeafTable) → t ≡ t' → a ≡ a' → w ≡ w'
    → LegalTurns name base h → StandsFor name base h v → MayNow (is_founded base) (state_after base h) by t
    → (HasSoundCounts (state_after base h) → IsTableOf name (is_founded base) (state_after base h) (length h) v → MayNow (is_founded base) (state_after base h) by t' → Goes name (is_founded base) (state_after base h) (length h) by clock t' a' w')
    → LegalTurns name base (h ++ entry_of by clock t a ∷ []) × StandsFor name base (h ++ entry_of by clock t a ∷ []) w
steps_on name base h by clock v t t' a a' w w' turn_is answer_is value_is l i may goes =
    let f = is_founded base in
    let s = state_after base h in
    let g : Goes name f s (length h) by clock t' a' w' = goes (counted name base h l) i (subst (MayNow f s by) turn_is may) in
    let g' : Goes name f s (length h) by clock t a' w' = subst (λ x. Goes name f s (length h) by clock x a' w') (sym turn_is) g in
    let g'' : Goes name f s (length h) by clock t a w' = subst (λ x. Goes name f s (length h) by clock t x w') (sym answer_is) g' in
    goes_on name base h by clock t a w l (subst (λ x. Goes name f s (length h) by clock t a x) (sym value_is) g'')
