-- What an entry of the steward does to its table, and to the leaf.
use Rattle.std.proofs.Common.{◌≡◌, ◌∙◌, ℕ, true, List, [], ◌∷◌, ◌++◌, refl, sym, ap, subst, arith, Some, append_assoc}
use Rattle.std.specs.Prelude.{slice_get, slice_set}
use Rattle.leaf_history.specs.Calls.{Call}
use Rattle.leaf_history.specs.Replies.{EntryReply}
use Rattle.leaf_history.specs.History.{HistoryState, Entry, LegalFrom, Allowed, after, after_entry}
use Rattle.leaf_history.proofs.Histories.{LegalFrom-front, LegalFrom-back, after-append}
use Rattle.crash_moments.specs.Watched.{Watched, Between, AreWatched, IsWatched, IsFoundation, now_of, was_opened}
use Rattle.crash_moments.specs.Told.{SeenMore}
use Rattle.crash_moments.proofs.Telling.{between_append, between_wider, opened_more}
use Rattle.crash_states.specs.Entries.{Enters, Learns, stewards}
use Rattle.crash_states.proofs.Names.{all_at, each_at}
use Rattle.crash_states.proofs.States.{now_sound}
use Rattle.crash_states.proofs.Meeting.{callers_between, learned_watched, met_apart, met_each}
use Rattle.crash_serving.proofs.Places.{set_more}

module _ {clock : ℕ} {c : Call} {r : EntryReply} {w w' : Watched} (e : Enters clock c r w w') where
  abbrev last : List Entry
  last = stewards clock c r ∷ []

  -- the table just before: only callers' entries were made
  abbrev pub just_before : Watched
  just_before = record { name = w.name; base = w.base; seen = w.seen ++ e.between }

  whole : w'.seen ≡ just_before.seen ++ last
  whole = e.seen ∙ sym (append_assoc w.seen e.between last)

  legal : LegalFrom true w.base (just_before.seen ++ last)
  legal = subst (λ (es : List Entry). LegalFrom true w.base es) whole (subst (λ (base : HistoryState). LegalFrom true base w'.seen) e.base e.legal)

  pub entry_learns : Learns w just_before
  entry_learns = record { name = refl; base = refl; more = e.between; others = e.others; seen = refl; legal = LegalFrom-front true w.base just_before.seen last legal }

  -- it was allowed there, and changes that
  pub entry_allowed : Allowed true (now_of just_before) 0 c r
  entry_allowed = (LegalFrom-back true w.base just_before.seen last legal).0

  pub entry_is : now_of w' ≡ after_entry true (now_of just_before) (stewards clock c r)
  entry_is = ap (λ (base : HistoryState). after true base w'.seen) e.base ∙ ap (after true w.base) whole ∙ after-append true w.base just_before.seen last

  added : Between clock clock (e.between ++ last)
  added = between_append clock clock e.between last (callers_between clock clock e.between e.others) ((λ steward. (omega arith, omega arith)), tt)

  pub entry_more : (more : List Entry) × (w'.seen ≡ w.seen ++ more) × Between clock clock more
  entry_more = (e.between ++ last, e.seen, added)

  pub entry_watched : IsWatched clock w → IsWatched clock w'
  entry_watched watched = record {
    base = subst IsFoundation (sym e.base) watched.base;
    legal = e.legal;
    made = subst (Between 0 clock) (sym e.seen) (between_append 0 clock w.seen (e.between ++ last) watched.made (between_wider 0 clock clock clock (e.between ++ last) (omega arith) (omega arith) added));
  }

  -- ---- where it is one table of a leaf

  module _ (place : ℕ) (ws : List Watched) (at : slice_get ws place ≡ Some w) (watched : AreWatched clock ws) where
    abbrev ws' : List Watched
    ws' = slice_set ws place w'

    entry_was : IsWatched clock w
    entry_was = each_at (IsWatched clock) ws watched.each place w at

    pub entry_sound : IsFoundation (now_of just_before)
    entry_sound = now_sound clock just_before (learned_watched w just_before entry_learns clock entry_was)

    pub entered_watched : AreWatched clock ws'
    entered_watched = record {
      each = all_at (IsWatched clock) ws' (met_each (IsWatched clock) place w' ws (entry_watched entry_was) (each_at (IsWatched clock) ws watched.each));
      apart = met_apart place w w' ws at e.name watched.apart;
    }

    pub entered_more : SeenMore clock clock ws ws'
    entered_more = set_more clock clock place w w' ws (e.between ++ last) at e.name e.base e.seen added

    pub entered_opened : was_opened clock ws ≡ true → was_opened clock ws' ≡ true
    entered_opened opened = opened_more clock clock clock clock ws ws' (omega arith) entered_more opened
