-- What a seat learns by the steward's entry, or at a meeting.
use Rattle.std.specs.Prelude.{◌≡◌, ◌⊎◌, ℕ, true, false, List, [], ◌∷◌, ◌++◌, length, ⊤}
use Rattle.leaf_model.specs.declared.writes.Write.{Write}
use Rattle.leaf_model.specs.Content.{content}
use Rattle.leaf_history.specs.Calls.{Call}
use Rattle.leaf_history.specs.Calls as call
use Rattle.leaf_history.specs.Replies.{EntryReply}
use Rattle.leaf_history.specs.Replies as reply
use Rattle.leaf_history.specs.History.{Entry, LegalFrom}
use Rattle.leaf_history.specs.Laws.{AreCallers}
use Rattle.crash_moments.specs.Watched.{Watched, now_of}

-- the steward's entry of a call, at this clock of the berth
abbrev pub stewards : ℕ → Call → EntryReply → Entry
stewards clock c r = record { caller = 0; call = c; reply = r; clock = clock }

-- callers made some entries, and then the steward this one
pub record Enters (clock : ℕ) (c : Call) (r : EntryReply) (w w' : Watched) : Type 0 where
  pub name : w'.name ≡ w.name
  pub base : w'.base ≡ w.base
  pub between : List Entry
  pub others : AreCallers between
  pub seen : w'.seen ≡ w.seen ++ (between ++ stewards clock c r ∷ [])
  pub legal : LegalFrom true w'.base w'.seen

-- callers made some entries
pub record Learns (w w' : Watched) : Type 0 where
  pub name : w'.name ≡ w.name
  pub base : w'.base ≡ w.base
  pub more : List Entry
  pub others : AreCallers more
  pub seen : w'.seen ≡ w.seen ++ more
  pub legal : LegalFrom true w'.base w'.seen

-- each open table is shut, and the others stay
abbrev pub ShutsAll : ℕ → List Watched → List Watched → Type 0
ShutsAll clock [] [] = ⊤
ShutsAll clock [] (w' ∷ ws') = ⊥
ShutsAll clock (w ∷ ws) [] = ⊥
ShutsAll clock (w ∷ ws) (w' ∷ ws') = ((((now_of w).live ≡ false) × (w' ≡ w)) ⊎ ((n : ℕ) × Enters clock call.Shut (reply.Counted n) w w')) × ShutsAll clock ws ws'

-- each table is opened with these writes
abbrev pub OpensAll : ℕ → (List ℕ → List Write) → List Watched → List Watched → Type 0
OpensAll clock writes [] [] = ⊤
OpensAll clock writes [] (w' ∷ ws') = ⊥
OpensAll clock writes (w ∷ ws) [] = ⊥
OpensAll clock writes (w ∷ ws) (w' ∷ ws') = Enters clock (call.Open (length (writes w.name)) (content (writes w.name))) reply.Noted w w' × OpensAll clock writes ws ws'

-- each table is handed over
abbrev pub HandsAll : ℕ → List Watched → List Watched → Type 0
HandsAll clock [] [] = ⊤
HandsAll clock [] (w' ∷ ws') = ⊥
HandsAll clock (w ∷ ws) [] = ⊥
HandsAll clock (w ∷ ws) (w' ∷ ws') = Enters clock call.Done reply.Noted w w' × HandsAll clock ws ws'
