-- One entry of the steward, and one meeting: what callers did between changed nothing that the steward knew.
use Rattle.std.proofs.Common.{◌≡◌, ℕ, ◌-◌, Bool, true, false, List, [], ◌∷◌, ◌++◌, length, take, Option, refl, sym, ap, subst, ◌∙◌, arith, append_assoc}
use Rattle.std.proofs.lemmas.List.{map-append}
use Rattle.turnstile.specs.Seats.{SeesAlso, LearnsOthers, Others}
use Rattle.leaf_model.specs.Content.{Contents, content, content_from}
use Rattle.leaf_model.specs.declared.writes.Write.{Write}
use Rattle.leaf_history.specs.Calls.{Call}
use Rattle.leaf_history.specs.Calls as call
use Rattle.leaf_history.specs.Replies.{EntryReply}
use Rattle.leaf_history.specs.Replies as reply
use Rattle.leaf_history.specs.History.{Entry, HistoryState, LegalFrom, MayOpen, OpenAllowed, after, first_writes}
use Rattle.leaf_history.specs.Laws.{AreCallers, CallersKeep}
use Rattle.leaf_history.proofs.Histories.{others_keep, LegalFrom-front, LegalFrom-back, after-append}
use Rattle.leaf_table.specs.declared.base.TableBase.{TableBase}
use Rattle.leaf_table.specs.Turns.{Shared, TurnsTaken, told, history, is_founded, start_of}
use Rattle.leaf_table.specs.Calls.{SeatView, Made, AreOthers, base_seen, entry_seen, seen_of, state_seen, state_before}
use Rattle.leaf_table.proofs.Knowing.{callers_of}
use Rattle.crash_moments.specs.Watched.{IsFoundation, now_of}
use Rattle.crash_states.specs.Standing.{MayHave}
use Rattle.crash_states.specs.Entries.{Enters, Learns}
use Rattle.leaf_steward.specs.Seated.{IsSeated, watched}

-- ---- what the steward knew

-- callers made the entries between
pub between_callers : (t : Shared) (v w : SeatView) (clock : ℕ) (c : Call) (r : EntryReply) → IsSeated t v → (made : Made (base_seen t) clock v c r w) → AreCallers made.between
between_callers t v w clock c r seated made = callers_of v made.between seated.id seated.seat.has_id made.others

-- they left what it knew
pub watch_kept : (t : Shared) (v w : SeatView) (clock : ℕ) (c : Call) (r : EntryReply) → IsSeated t v → (made : Made (base_seen t) clock v c r w) → CallersKeep (state_seen (base_seen t) v) (state_before (base_seen t) v made.between)
watch_kept t v w clock c r seated made =
    let f : Bool = is_founded (base_seen t) in
    let s : HistoryState = start_of (base_seen t) in
    let h : List Entry = seen_of v in
    let front : LegalFrom f s (h ++ made.between) = LegalFrom-front f s (h ++ made.between) (entry_seen v.id clock c r ∷ []) (subst (λ (es : List Entry). LegalFrom f s es) made.seen made.legal) in
    subst (CallersKeep (after f s h)) (sym (after-append f s h made.between)) (others_keep f (after f s h) made.between (LegalFrom-back f s h made.between front) (between_callers t v w clock c r seated made))

-- ---- one entry

-- at a founded table, where what came between is what callers did just before it
pub made_enters : (t : Shared) (v w : SeatView) (clock : ℕ) (c : Call) (r : EntryReply) → is_founded (base_seen t) ≡ true → IsSeated t v → (made : Made (base_seen t) clock v c r w)
    → (e : Enters clock c r (watched t v) (watched t w)) × (e.between ≡ made.between)
made_enters t v w clock c r founded seated made = (
  record {
    name = refl;
    base = refl;
    between = made.between;
    others = between_callers t v w clock c r seated made;
    seen = made.seen ∙ ap (λ (id : ℕ). (seen_of v ++ made.between) ++ entry_seen id clock c r ∷ []) seated.id ∙ append_assoc (seen_of v) made.between (entry_seen 0 clock c r ∷ []);
    legal = subst (λ (b : Bool). LegalFrom b (start_of (base_seen t)) (seen_of w)) founded made.legal;
  },
  refl,
)

-- the state that a seat has seen is the watched table's
pub now_seen : (t : Shared) (v : SeatView) → is_founded (base_seen t) ≡ true → now_of (watched t v) ≡ state_seen (base_seen t) v
now_seen t v founded = ap (λ (b : Bool). after b (start_of (base_seen t)) (seen_of v)) (sym founded)

-- ---- one meeting

-- what callers did meanwhile
pub record MetMore (v w : SeatView) : Type 0 where
  pub entries : List Entry
  pub callers : AreCallers entries
  pub seen : seen_of w ≡ seen_of v ++ entries

others_told : (v : SeatView) (es : TurnsTaken) → Others v es → AreOthers v (history es)
others_told v [] o = tt
others_told v (e ∷ es) o = (o.0, others_told v es o.1)

met_more : {t : Shared} (v u w : SeatView) → IsSeated t v → SeesAlso v u w → LearnsOthers v w → MetMore v w
met_more v u w seated met others =
    let more : TurnsTaken = met.longer.own.0 in
    let seen : w.seen ≡ v.seen ++ more = ap (λ (s : SeatView). s.seen) met.view ∙ sym met.longer.own.1 in
    record {
      entries = history more;
      callers = callers_of v (history more) seated.id seated.seat.has_id (others_told v more (others more seen));
      seen = ap history seen ∙ map-append told v.seen more;
    }

-- they left what the steward knew
pub met_kept : (t : Shared) (v u w : SeatView) → IsSeated t v → SeesAlso v u w → LearnsOthers v w → LegalFrom (is_founded (base_seen t)) (start_of (base_seen t)) (seen_of w)
    → CallersKeep (state_seen (base_seen t) v) (state_seen (base_seen t) w)
met_kept t v u w seated met others legal =
    let f : Bool = is_founded (base_seen t) in
    let s : HistoryState = start_of (base_seen t) in
    let more : MetMore v w = met_more v u w seated met others in
    let known : state_seen (base_seen t) w ≡ after f (after f s (seen_of v)) more.entries = ap (after f s) more.seen ∙ after-append f s (seen_of v) more.entries in
    let further : LegalFrom f (after f s (seen_of v)) more.entries = LegalFrom-back f s (seen_of v) more.entries (subst (LegalFrom f s) more.seen legal) in
    subst (CallersKeep (state_seen (base_seen t) v)) (sym known) (others_keep f (state_seen (base_seen t) v) more.entries further more.callers)

pub met_learns : (t : Shared) (v u w : SeatView) → is_founded (base_seen t) ≡ true → IsSeated t v → SeesAlso v u w → LearnsOthers v w → LegalFrom (is_founded (base_seen t)) (start_of (base_seen t)) (seen_of w)
    → Learns (watched t v) (watched t w)
met_learns t v u w founded seated met others legal =
    let more : MetMore v w = met_more v u w seated met others in
    record {
      name = refl;
      base = refl;
      more = more.entries;
      others = more.callers;
      seen = more.seen;
      legal = subst (λ (b : Bool). LegalFrom b (start_of (base_seen t)) (seen_of w)) founded legal;
    }

-- ---- a founded table is opened with the front of its writes

front_content : (s : HistoryState) (n : ℕ) → IsFoundation s → content_from s.before (first_writes s n) ≡ content (take n s.writes)
front_content s n sound =
    let all : n - s.handed_in ≡ n = omega (arith, sound.handed_in) in
    ap (λ (c : Contents). content_from c (first_writes s n)) sound.before ∙ ap (λ (k : ℕ). content (take k s.writes)) all

may_open : (founded : Bool) (s : HistoryState) (n : ℕ) (contents : Contents) → founded ≡ true → OpenAllowed founded s n contents → MayOpen s n contents
may_open true s n contents is allowed = allowed
may_open false s n contents is allowed = absurd cc

-- the contents are what legality says
pub watch_contents : (t : Shared) (v w : SeatView) (clock n : ℕ) (contents : Contents) (writes : List Write) → is_founded (base_seen t) ≡ true → IsSeated t v → Made (base_seen t) clock v (call.Open n contents) reply.Noted w
    → IsFoundation (now_of (watched t v)) → MayHave writes (now_of (watched t v)) → n ≡ length writes → contents ≡ content writes
watch_contents t v w clock n contents writes founded seated made sound may count =
    let base : Option TableBase = base_seen t in
    let known : HistoryState = state_seen base v in
    let s : HistoryState = state_before base v made.between in
    let is : now_of (watched t v) ≡ known = now_seen t v founded in
    let still : s ≡ known = (watch_kept t v w clock (call.Open n contents) reply.Noted seated made).shut (ap (λ (u : HistoryState). u.live) (sym is) ∙ may.shut) in
    let legal : MayOpen s n contents = may_open (is_founded base) s n contents founded made.allowed.2 in
    let front : writes ≡ take (length writes) known.writes = may.front ∙ ap (λ (u : HistoryState). take (length writes) u.writes) is in
    legal.contents_are
    ∙ ap (λ (u : HistoryState). content_from u.before (first_writes u n)) still
    ∙ front_content known n (subst IsFoundation is sound)
    ∙ ap (λ (k : ℕ). content (take k known.writes)) count
    ∙ ap (λ (ws : List Write). content ws) (sym front)
