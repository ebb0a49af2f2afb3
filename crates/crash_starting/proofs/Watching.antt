-- Tables that are watched: at a later moment, by their places and by their names.
use Rattle.std.proofs.Common.{◌≡◌, ◌∙◌, ℕ, ◌≤◌, Bool, List, [], ◌∷◌, Some, refl, ap, arith}
use Rattle.std.specs.Prelude.{◌||◌, slice_get, bytes_eq, option_map}
use Rattle.std.specs.List.{AllByRecursion, list_any}
use Rattle.std.proofs.lemmas.Option.{slice_get-map}
use Rattle.berth_face.specs.Berth.{Meaning}
use Rattle.leaf_history.specs.History.{Entry}
use Rattle.crash_moments.specs.Left.{NamedStates}
use Rattle.leaf_opening.proofs.Strangers.{is_one_of}
use Rattle.crash_moments.specs.Watched.{Watched, IsWatched, AreWatched, by_name, cut, is_opening, is_watched, now_of, others_then, was_opened}
use Rattle.crash_moments.proofs.Cuts.{cut_later}
use Rattle.crash_moments.proofs.Telling.{between_wider}
use Rattle.crash_states.specs.Standing.{states_of_tables}
use Rattle.crash_starting.specs.Laws.{names_of}

-- ---- at a later moment

-- no entry was made since, so that no table was opened since
opened_later : (c t : ℕ) (ws : List Watched) → c ≤ t → AllByRecursion (IsWatched c) ws → was_opened t ws ≡ was_opened c ws
opened_later c t [] later each = refl
opened_later c t (w ∷ ws) later each =
    ap (λ (es : List Entry). list_any is_opening es || was_opened t ws) (cut_later c t w.seen later each.0.made) ∙ ap (λ (b : Bool). list_any is_opening (cut c w.seen) || b) (opened_later c t ws later each.1)

each_later : (c t : ℕ) (ws : List Watched) → c ≤ t → AllByRecursion (IsWatched c) ws → AllByRecursion (IsWatched t) ws
each_later c t [] later each = tt
each_later c t (w ∷ ws) later each =
    (record { base = each.0.base; legal = each.0.legal; made = between_wider 0 0 c t w.seen (omega arith) later each.0.made }, each_later c t ws later each.1)

pub watched_later : (c t : ℕ) (ws : List Watched) → c ≤ t → AreWatched c ws → AreWatched t ws
watched_later c t ws later watched = record { each = each_later c t ws later watched.each; apart = watched.apart }

-- each name stands where it stood
pub tables_later : (others : NamedStates) (ws : List Watched) (a b : Meaning) → a.clock ≤ b.clock → AreWatched a.clock ws → states_of_tables others ws b ≡ states_of_tables others ws a
tables_later others ws a b later watched = ap (λ (opened : Bool). by_name now_of (others_then opened others) ws) (opened_later a.clock b.clock ws later watched.each)

-- ---- at each place, and by name

pub name_at : (ws : List Watched) (place : ℕ) (w : Watched) → slice_get ws place ≡ Some w → slice_get (names_of ws) place ≡ Some w.name
name_at ws place w at = slice_get-map (λ (v : Watched). v.name) ws place ∙ ap (option_map (λ (v : Watched). v.name)) at

pub named_alike : (ws : List Watched) (name : List ℕ) → is_one_of (names_of ws) name ≡ is_watched ws name
named_alike [] name = refl
named_alike (w ∷ ws) name = ap (λ (b : Bool). bytes_eq name w.name || b) (named_alike ws name)
