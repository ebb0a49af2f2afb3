-- Histories of founded tables.
use Rattle.std.proofs.Common.{◌≡◌, ℕ, ◌+◌, ◌-◌, ◌<◌, ◌≤◌, ◌^◌, Bool, true, false, not, List, [], ◌∷◌, ◌++◌, length, take, refl, sym, ap, subst, ◌∙◌, arith, inl, inr, le_trans, le_refl, eq-zero-or-pos}
use Rattle.std.specs.Prelude.{if◌then◌else◌, int_le}
use Rattle.std.specs.List.{AllByRecursion}
use Rattle.std.proofs.lemmas.Bool.{true≢false, cases_lt}
use Rattle.std.proofs.lemmas.List.{length-append, length-drop, length-take, take-take, take_all, take-append-le}
use Rattle.std.proofs.lemmas.List.Filters.{length-filter_both}
use Rattle.row_model.specs.declared.rows.Row.{Row}
use Rattle.leaf_model.specs.declared.writes.Write.{Write}
use Rattle.leaf_model.specs.declared.writes.Write.TheVariants as write
use Rattle.leaf_model.specs.Content.{Contents, content, content_from, content_after, nothing, rows_from, last_rows, kept_count}
use Rattle.leaf_history.specs.Calls.{Call}
use Rattle.leaf_history.specs.Calls as call
use Rattle.leaf_history.specs.Replies.{EntryReply}
use Rattle.leaf_history.specs.Replies as reply
use Rattle.leaf_history.specs.History.{Entry, HistoryState, LegalFrom, Allowed, AddReply, after, after_entry, changed, contents_held, is_refusal}
use Rattle.leaf_history.specs.Laws.{CallersKeep, AreCallers, HasSoundCounts}
use Rattle.leaf_history.proofs.Histories.{LegalFrom-back, after-append, others_keep, counts_stay}
use Rattle.crash_moments.specs.Watched.{Between, IsFoundation, is_made, cut, state_then, now_of}
use Rattle.crash_moments.specs.Laws.{StaysSound, CutKeeps}
use Rattle.crash_moments.proofs.Cuts.{NotMade, made_by, cut_split}

-- ---- how many rows a write leaves

fewer_from : (horizon : _) (rows : List Row) → length (rows_from horizon rows) ≤ length rows
fewer_from horizon rows = omega (arith, length-filter_both (λ (row : Row). int_le horizon row.time) (λ (row : Row). not (int_le horizon row.time)) (λ row. refl) rows)

fewer_last : (n : ℕ) (rows : List Row) → length (last_rows n rows) ≤ length rows
fewer_last n rows = omega (arith, length-drop (length rows - n) rows)

last_write : (c : Contents) (writes : List Write) (w : Write) → content_from c (writes ++ w ∷ []) ≡ content_after (content_from c writes) w
last_write c [] w = refl
last_write c (v ∷ writes) w = last_write (content_after c v) writes w

-- ---- fronts of writes that are short

-- no front has more rows than this
abbrev IsWithin : ℕ → List Write → Type 0
IsWithin most writes = (k : ℕ) → length (content (take k writes)).rows ≤ most

whole_within : (most : ℕ) (writes : List Write) → IsWithin most writes → length (content writes).rows ≤ most
whole_within most writes within = subst (λ (ws : List Write). length (content ws).rows ≤ most) (take_all (length writes) writes (le_refl (length writes))) (within (length writes))

front_within : (most n : ℕ) (writes : List Write) → IsWithin most writes → IsWithin most (take n writes)
front_within most n writes within k = elim (cases_lt n k) [
  | inl longer ↦
      let all : take k (take n writes) ≡ take n writes = take_all k (take n writes) (omega (arith, length-take n writes, longer)) in
      subst (λ (ws : List Write). length (content ws).rows ≤ most) (sym all) (within n)
  | inr shorter ↦ subst (λ (ws : List Write). length (content ws).rows ≤ most) (sym (take-take k n writes shorter)) (within k)
]

written_within : (most : ℕ) (writes : List Write) (w : Write) → IsWithin most writes → length (content_after (content writes) w).rows ≤ most → IsWithin most (writes ++ w ∷ [])
written_within most writes w within fits k = elim (cases_lt (length writes) k) [
  | inl longer ↦
      let all : take k (writes ++ w ∷ []) ≡ writes ++ w ∷ [] = take_all k (writes ++ w ∷ []) (omega (arith, length-append writes (w ∷ []), longer)) in
      subst (λ (ws : List Write). length (content ws).rows ≤ most) (sym all) (subst (λ (c : Contents). length c.rows ≤ most) (sym (last_write nothing writes w)) fits)
  | inr shorter ↦ subst (λ (ws : List Write). length (content ws).rows ≤ most) (sym (take-append-le k writes (w ∷ []) shorter)) (within k)
]

-- ---- one accepted call

-- an add that was accepted had room
had_room : (s : HistoryState) (rows : List Row) (r : EntryReply) → AddReply s rows r → is_refusal r ≡ false → length (contents_held s).rows + kept_count (contents_held s) rows ≤ 2 ^ 40
had_room s rows (reply.Added kept late) a accepted = a.1
had_room s rows reply.Shut a accepted = absurd (true≢false accepted)
had_room s rows reply.Full a accepted = absurd (true≢false accepted)
had_room s rows reply.NoMemory a accepted = absurd (true≢false accepted)
had_room s rows (reply.Removed n) a accepted = absurd a
had_room s rows (reply.Groups gs) a accepted = absurd a
had_room s rows (reply.Counted n) a accepted = absurd a
had_room s rows reply.Noted a accepted = absurd a

added_within : (most : ℕ) (before : Contents) (writes : List Write) (rows : List Row) → before ≡ nothing → length (content_from before writes).rows + kept_count (content_from before writes) rows ≤ most
    → length (content_after (content writes) (write.Add rows)).rows ≤ most
added_within most before writes rows founded room =
    let c : Contents = content writes in
    let here : length c.rows + kept_count c rows ≤ most = subst (λ (b : Contents). length (content_from b writes).rows + kept_count (content_from b writes) rows ≤ most) founded room in
    omega (arith, here, length-append c.rows (rows_from c.horizon rows))

-- what is kept of a founded table, beside its counts
record IsPlain (most : ℕ) (s : HistoryState) : Type 0 where
  pub before : s.before ≡ nothing
  pub handed_in : s.handed_in ≡ 0
  pub within : IsWithin most s.writes

written_plain : (most : ℕ) (s : HistoryState) (w : Write) → IsPlain most s → length (content_after (content s.writes) w).rows ≤ most → IsPlain most (record s { writes = s.writes ++ w ∷ [] })
written_plain most s w plain fits = record { before = plain.before; handed_in = plain.handed_in; within = written_within most s.writes w plain.within fits }

plain_changed : (s : HistoryState) (caller : ℕ) (c : Call) (r : EntryReply) → IsPlain (2 ^ 40) s → Allowed true s caller c r → is_refusal r ≡ false → IsPlain (2 ^ 40) (changed true s c)
plain_changed s caller (call.Add rows) r plain a accepted =
    written_plain (2 ^ 40) s (write.Add rows) plain (added_within (2 ^ 40) s.before s.writes rows plain.before (had_room s rows r a.1 accepted))
plain_changed s caller (call.Expire horizon) r plain a accepted =
    written_plain (2 ^ 40) s (write.Expire horizon) plain (le_trans (fewer_from _ (content s.writes).rows) (whole_within (2 ^ 40) s.writes plain.within))
plain_changed s caller (call.Keep n) r plain a accepted =
    written_plain (2 ^ 40) s (write.Keep n) plain (le_trans (fewer_last n (content s.writes).rows) (whole_within (2 ^ 40) s.writes plain.within))
plain_changed s caller (call.Ask q) r plain a accepted = plain
plain_changed s caller call.Take r plain a accepted = record { before = plain.before; handed_in = plain.handed_in; within = plain.within }
plain_changed s caller (call.Flushed n) r plain a accepted = record { before = plain.before; handed_in = plain.handed_in; within = plain.within }
plain_changed s caller call.Shut r plain a accepted = record { before = plain.before; handed_in = plain.handed_in; within = plain.within }
plain_changed s caller call.Done r plain a accepted = record { before = plain.before; handed_in = plain.handed_in; within = plain.within }
plain_changed s caller (call.Open n contents) r plain a accepted =
    record { before = plain.before; handed_in = plain.handed_in; within = front_within (2 ^ 40) (n - s.handed_in) s.writes plain.within }

plain_entry : (s : HistoryState) (e : Entry) → IsPlain (2 ^ 40) s → Allowed true s e.caller e.call e.reply → IsPlain (2 ^ 40) (after_entry true s e)
plain_entry s e plain a = by (is_refusal e.reply) refl
  where
    by : (refused : Bool) → is_refusal e.reply ≡ refused → IsPlain (2 ^ 40) (if refused then s else changed true s e.call)
    by true is = plain
    by false is = plain_changed s e.caller e.call e.reply plain a is

plain_after : (s : HistoryState) (es : List Entry) → IsPlain (2 ^ 40) s → LegalFrom true s es → IsPlain (2 ^ 40) (after true s es)
plain_after s [] plain legal = plain
plain_after s (e ∷ es) plain legal = plain_after (after_entry true s e) es (plain_entry s e plain legal.0) legal.1

-- nothing that was handed in is not flushed
pub founded_counts : (s : HistoryState) → IsFoundation s → HasSoundCounts s
founded_counts s founded = record { taken = founded.taken; handed_in = omega (arith, founded.handed_in) }

pub stays_sound : StaysSound
stays_sound base es founded legal =
    let plain : IsPlain (2 ^ 40) (after true base es) = plain_after base es (record { before = founded.before; handed_in = founded.handed_in; within = founded.short }) legal in
    record { before = plain.before; handed_in = plain.handed_in; taken = (counts_stay true base es legal (founded_counts base founded)).taken; short = plain.within }

-- ---- behind the steward's last entry

pub between_back : (from to : ℕ) (xs ys : List Entry) → Between from to (xs ++ ys) → Between from to ys
between_back from to [] ys within = within
between_back from to (x ∷ xs) ys within = between_back from to xs ys within.1

-- where the steward made nothing, all entries are callers'
callers_of : (t : ℕ) (es : List Entry) → Between 0 t es → AllByRecursion (NotMade t) es → AreCallers es
callers_of t [] within none = tt
callers_of t (e ∷ es) within none = (one within.0 none.0, callers_of t es within.1 none.1)
  where
    one : (e.caller ≡ 0 → (0 ≤ e.clock) × (e.clock ≤ t)) → is_made t e ≡ false → 0 < e.caller
    one by_then not_made = elim (eq-zero-or-pos e.caller) [
      | inl steward ↦ absurd (true≢false (sym (made_by t e steward (by_then steward).1) ∙ not_made))
      | inr caller ↦ caller
    ]

pub cut_keeps : CutKeeps
cut_keeps clock w watched =
    let front : List Entry = cut clock w.seen in
    let split = cut_split clock w.seen in
    let legal : LegalFrom true (state_then clock w) split.0 = LegalFrom-back true w.base front split.0 (subst (λ (es : List Entry). LegalFrom true w.base es) split.1 watched.legal) in
    let callers : AreCallers split.0 = callers_of clock split.0 (between_back 0 clock front split.0 (subst (λ (es : List Entry). Between 0 clock es) split.1 watched.made)) split.2 in
    let now : now_of w ≡ after true (state_then clock w) split.0 = ap (λ (es : List Entry). after true w.base es) split.1 ∙ after-append true w.base front split.0 in
    subst (λ (s : HistoryState). CallersKeep (state_then clock w) s) (sym now) (others_keep true (state_then clock w) split.0 legal callers)
