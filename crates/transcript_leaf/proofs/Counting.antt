-- How many writes of a table were taken and are flushed, as its steward's seat has seen it, and what entries of callers
-- and of the steward make of that.
use Rattle.std.proofs.Common.{◌≡◌, ℕ, ◌≤◌, Bool, true, List, [], ◌∷◌, ◌++◌, refl, sym, ap, subst, ◌∙◌, arith}
use Rattle.leaf_history.specs.Calls.{Call}
use Rattle.leaf_history.specs.Calls as call
use Rattle.leaf_history.specs.Replies.{EntryReply}
use Rattle.leaf_history.specs.Replies as reply
use Rattle.leaf_history.specs.History.{Entry, HistoryState, LegalFrom, Allowed, after, after_entry}
use Rattle.leaf_history.specs.Laws.{AreCallers, HasSoundCounts, CallersKeep}
use Rattle.leaf_history.proofs.Histories.{LegalFrom-front, LegalFrom-back, after-append, counts_stay, others_keep}
use Rattle.crash_moments.specs.Left.{NamedStates}
use Rattle.crash_moments.specs.Watched.{IsFoundation}
use Rattle.crash_moments.proofs.Histories.{founded_counts}
use Rattle.leaf_table.specs.Turns.{Shared, is_founded, start_of}
use Rattle.leaf_table.specs.Calls.{SeatView, Made, base_seen, name_of, entry_seen, seen_of}
use Rattle.leaf_table.proofs.Knowing.{callers_of}
use Rattle.leaf_machine.specs.States.{IsShutAndTaken}
use Rattle.leaf_words.specs.declared.note.What.{What}
use Rattle.leaf_words.specs.declared.note.What.TheVariants.{Opened, Took, Flushed, Closed, Handed}
use Rattle.leaf_steward.specs.Making.{MadeAs, IsHandedNote}
use Rattle.transcript_leaf.specs.Session.{IsStewards, IsSettled}

-- ---- a table

-- where it stands, as the seat has seen it
abbrev pub state_with : NamedStates → Shared → SeatView → HistoryState
state_with base t v = after true (base (name_of t)) (seen_of v)

-- it is founded with this base
abbrev pub IsFoundedWith : NamedStates → Shared → Type 0
IsFoundedWith base t = (is_founded (base_seen t) ≡ true) × (start_of (base_seen t) ≡ base (name_of t))

-- and the base was handed in nothing
pub record IsOf (base : NamedStates) (t : Shared) : Type 0 where
  pub founded : IsFoundedWith base t
  pub sound : IsFoundation (base (name_of t))

-- ---- callers' entries

-- a seat that has learned callers' entries
pub learned_keep : (base : NamedStates) (t : Shared) (v w : SeatView) (es : List Entry) → seen_of w ≡ seen_of v ++ es → AreCallers es → LegalFrom true (base (name_of t)) (seen_of w)
    → CallersKeep (state_with base t v) (state_with base t w)
learned_keep base t v w es seen callers legal =
    let b : HistoryState = base (name_of t) in
    let h : List Entry = seen_of v in
    let whole : LegalFrom true b (h ++ es) = subst (λ (l : List Entry). LegalFrom true b l) seen legal in
    let keeps : CallersKeep (after true b h) (after true (after true b h) es) = others_keep true (after true b h) es (LegalFrom-back true b h es whole) callers in
    let now : after true b (seen_of w) ≡ after true (after true b h) es = ap (λ (l : List Entry). after true b l) seen ∙ after-append true b h es in
    subst (λ (s : HistoryState). CallersKeep (after true b h) s) (sym now) keeps

-- all that was taken is flushed still
pub settled_kept : (base : NamedStates) (t : Shared) (v w : SeatView) (n : ℕ) → CallersKeep (state_with base t v) (state_with base t w) → IsSettled base t v n → IsSettled base t w n
settled_kept base t v w n keeps settled = (keeps.taken ∙ settled.0, keeps.flushed ∙ settled.1)

-- a shut table of which all was taken stays so
pub closed_kept : (s now : HistoryState) → CallersKeep s now → IsShutAndTaken s → IsShutAndTaken now
closed_kept s now keeps closed = subst IsShutAndTaken (sym (keeps.shut closed.shut)) closed

-- ---- an entry of the steward's seat

-- what it is made on: the state behind callers' entries
pub record MadeOn (base : NamedStates) (t : Shared) (clock : ℕ) (v : SeatView) (c : Call) (r : EntryReply) (w : SeatView) : Type 0 where
  pub on : HistoryState
  pub keeps : CallersKeep (state_with base t v) on
  pub counted : HasSoundCounts on
  pub allowed : Allowed true on v.id c r
  pub now : state_with base t w ≡ after_entry true on (entry_seen v.id clock c r)

legal_with : (base : NamedStates) (t : Shared) (es : List Entry) → IsFoundedWith base t → LegalFrom (is_founded (base_seen t)) (start_of (base_seen t)) es
    → LegalFrom true (base (name_of t)) es
legal_with base t es founded legal =
    subst (λ (b : HistoryState). LegalFrom true b es) founded.1 (subst (λ (f : Bool). LegalFrom f (start_of (base_seen t)) es) founded.0 legal)

pub made_on : (base : NamedStates) (t : Shared) (clock : ℕ) (v : SeatView) (c : Call) (r : EntryReply) (w : SeatView)
    → IsOf base t → IsStewards v → Made (base_seen t) clock v c r w → MadeOn base t clock v c r w
made_on base t clock v c r w of sits m =
    let s = base (name_of t) in
    let e = entry_seen v.id clock c r in
    let h = seen_of v in
    let whole : LegalFrom true s ((h ++ m.between) ++ e ∷ []) = subst (LegalFrom true s) m.seen (legal_with base t (seen_of w) of.founded m.legal) in
    let front : LegalFrom true s (h ++ m.between) = LegalFrom-front true s (h ++ m.between) (e ∷ []) whole in
    let back : LegalFrom true (after true s h) m.between = LegalFrom-back true s h m.between front in
    let split : after true s (h ++ m.between) ≡ after true (after true s h) m.between = after-append true s h m.between in
    record {
      on = after true (after true s h) m.between;
      keeps = others_keep true (after true s h) m.between back (callers_of v m.between sits.id (omega (arith, sits.share)) m.others);
      counted = subst HasSoundCounts split (counts_stay true s (h ++ m.between) front (founded_counts s of.sound));
      allowed = subst (λ (b : HistoryState). Allowed true b v.id c r) split (LegalFrom-back true s (h ++ m.between) (e ∷ []) whole).0;
      now = ap (after true s) m.seen ∙ (after-append true s (h ++ m.between) (e ∷ []) ∙ ap (λ (b : HistoryState). after_entry true b e) split);
    }

-- ---- what it makes of a table all of whose taken writes are flushed

-- so many were taken, and no more are flushed
pub record IsHalf (n : ℕ) (s : HistoryState) : Type 0 where
  pub taken : s.taken ≡ n
  pub flushed : s.flushed ≤ n

module _ (base : NamedStates) (t : Shared) (clock : ℕ) (v w : SeatView) (of : IsOf base t) (sits : IsStewards v) where
  -- the table is opened
  pub settled_opened : (n : ℕ) → MadeAs (base_seen t) clock v (Opened n) w → IsSettled base t w n
  settled_opened n made =
      let m = made_on base t clock v (call.Open n made.0) reply.Noted w of sits made.1 in
      (ap (λ (s : HistoryState). s.taken) m.now, ap (λ (s : HistoryState). s.flushed) m.now)

  -- it is taken
  pub half_took : (n c : ℕ) → MadeAs (base_seen t) clock v (Took n) w → IsSettled base t v c → IsHalf n (state_with base t w)
  half_took n c made settled =
      let m = made_on base t clock v call.Take (reply.Counted n) w of sits made in
      record {
        taken = ap (λ (s : HistoryState). s.taken) m.now ∙ sym m.allowed.2;
        flushed = omega (arith, ap (λ (s : HistoryState). s.flushed) m.now, m.keeps.flushed, m.keeps.taken, settled.0, settled.1, m.counted.taken, m.allowed.2);
      }

  -- it is shut
  pub half_closed : (n c : ℕ) → MadeAs (base_seen t) clock v (Closed n) w → IsSettled base t v c → IsHalf n (state_with base t w)
  half_closed n c made settled =
      let m = made_on base t clock v call.Shut (reply.Counted n) w of sits made in
      record {
        taken = ap (λ (s : HistoryState). s.taken) m.now ∙ sym m.allowed.2;
        flushed = omega (arith, ap (λ (s : HistoryState). s.flushed) m.now, m.keeps.flushed, m.keeps.taken, settled.0, settled.1, m.counted.taken, m.allowed.2);
      }

  pub shut_closed : (n : ℕ) → MadeAs (base_seen t) clock v (Closed n) w → IsShutAndTaken (state_with base t w)
  shut_closed n made =
      let m = made_on base t clock v call.Shut (reply.Counted n) w of sits made in
      subst IsShutAndTaken (sym m.now) (record { shut = refl; taken = refl })

  -- its writes are flushed
  pub settled_flushed : (n : ℕ) → MadeAs (base_seen t) clock v (Flushed n) w → IsHalf n (state_with base t v) → IsSettled base t w n
  settled_flushed n made half =
      let m = made_on base t clock v (call.Flushed n) reply.Noted w of sits made in (
        ap (λ (s : HistoryState). s.taken) m.now ∙ (m.keeps.taken ∙ half.taken),
        omega (arith, ap (λ (s : HistoryState). s.flushed) m.now, m.keeps.flushed, half.flushed),
      )

  pub shut_flushed : (n : ℕ) → MadeAs (base_seen t) clock v (Flushed n) w → IsShutAndTaken (state_with base t v) → IsShutAndTaken (state_with base t w)
  shut_flushed n made closed =
      let m = made_on base t clock v (call.Flushed n) reply.Noted w of sits made in
      let before = closed_kept (state_with base t v) m.on m.keeps closed in
      subst IsShutAndTaken (sym m.now) (record { shut = before.shut; taken = before.taken })

  -- handed over, a shut table is as it was
  pub shut_handed : (what : What) → IsHandedNote what → MadeAs (base_seen t) clock v what w → IsShutAndTaken (state_with base t v) → IsShutAndTaken (state_with base t w)
  shut_handed Handed handed made closed =
      let m = made_on base t clock v call.Done reply.Noted w of sits made in
      let before = closed_kept (state_with base t v) m.on m.keeps closed in
      subst IsShutAndTaken (sym m.now) (record { shut = before.shut; taken = before.taken })
  shut_handed what handed made closed = absurd handed

  pub settled_handed : (what : What) (n : ℕ) → IsHandedNote what → MadeAs (base_seen t) clock v what w → IsSettled base t v n → IsSettled base t w n
  settled_handed Handed n handed made settled =
      let m = made_on base t clock v call.Done reply.Noted w of sits made in (
        ap (λ (s : HistoryState). s.taken) m.now ∙ (m.keeps.taken ∙ settled.0),
        ap (λ (s : HistoryState). s.flushed) m.now ∙ (m.keeps.flushed ∙ settled.1),
      )
  settled_handed what n handed made settled = absurd handed
