-- The lines of one table in what was printed, and the order of their numbers, as one command prints a piece more, and in
-- other words.
use Rattle.std.proofs.Common.{◌≡◌, ℕ, ◌+◌, List, [], ◌∷◌, ◌++◌, length, Option, sym, ap, subst, ◌∙◌, le_refl, IsPermutation}
use Rattle.std.proofs.lemmas.Grind.{flat_map-append}
use Rattle.std.proofs.lemmas.List.{append-nil, append_assoc}
use Rattle.leaf_history.specs.History.{Entry}
use Rattle.leaf_table.specs.Calls.{SeatView}
use Rattle.script_text.specs.declared.command.Command.{Command}
use Rattle.transcript.specs.Pieces.{Piece, Played, PlayedItem, One, all_pieces, pieces_in, plays_in, plays_of}
use Rattle.transcript.specs.Histories.{BaseState, InOrder, Rises, Shown, shown, shown_in}
use Rattle.transcript_leaf.specs.Session.{TableSession}
use Rattle.transcript_leaf.proofs.Terms.{with_pieces}
use Rattle.transcript_leaf.proofs.Tables.{order_append}
use Rattle.transcript_leaf.proofs.Merging.{rises_append, rises_higher}

-- ---- pieces

pub shown-append : (leaf table : ℕ) (ps qs : List Piece) → shown leaf table (ps ++ qs) ≡ shown leaf table ps ++ shown leaf table qs
shown-append leaf table ps qs = flat_map-append (shown_in leaf table) ps qs

pub pieces_append : (xs ys : List PlayedItem) → all_pieces (xs ++ ys) ≡ all_pieces xs ++ all_pieces ys
pieces_append xs ys = ap (λ (ps : List Played). pieces_in ps) (flat_map-append plays_of xs ys) ∙ flat_map-append (λ (p : Played). p.pieces) (plays_in xs) (plays_in ys)

pub pieces_with : (items : List PlayedItem) (c : Command) (ps : List Piece) → all_pieces (with_pieces items c ps) ≡ all_pieces items ++ ps
pieces_with items c ps = pieces_append items (One (record { command = c; pieces = ps }) ∷ []) ∙ ap (λ (qs : List Piece). all_pieces items ++ qs) (append-nil ps)

pub pieces_more : (items : List PlayedItem) (c : Command) (ps : List Piece) (p : Piece) → all_pieces (with_pieces items c (ps ++ p ∷ [])) ≡ all_pieces (with_pieces items c ps) ++ p ∷ []
pieces_more items c ps p =
    pieces_with items c (ps ++ p ∷ []) ∙ (sym (append_assoc (all_pieces items) ps (p ∷ [])) ∙ ap (λ (qs : List Piece). qs ++ p ∷ []) (sym (pieces_with items c ps)))

pub shown_more : (leaf table : ℕ) (items : List PlayedItem) (c : Command) (ps : List Piece) (p : Piece)
    → shown leaf table (all_pieces (with_pieces items c (ps ++ p ∷ []))) ≡ shown leaf table (all_pieces (with_pieces items c ps)) ++ shown leaf table (p ∷ [])
shown_more leaf table items c ps p = ap (λ (qs : List Piece). shown leaf table qs) (pieces_more items c ps p) ∙ shown-append leaf table (all_pieces (with_pieces items c ps)) (p ∷ [])

-- ---- the order of the numbers

-- a piece more of the command that is played
pub order_more : (leaf table low : ℕ) (items : List PlayedItem) (c : Command) (ps : List Piece) (p : Piece) (high high' : ℕ)
    → InOrder leaf table low (with_pieces items c ps) high → Rises high (shown leaf table (p ∷ [])) high' → InOrder leaf table low (with_pieces items c (ps ++ p ∷ [])) high'
order_more leaf table low [] c ps p high high' h r = (
  high',
  subst (λ (ss : List Shown). Rises low ss high') (sym (shown-append leaf table ps (p ∷ [])))
      (rises_append low high high' (shown leaf table ps) (shown leaf table (p ∷ [])) (rises_higher low (shown leaf table ps) h.0 high h.2 h.1) r),
  le_refl high',
)
order_more leaf table low (x ∷ xs) c ps p high high' h r = (h.0, h.1, order_more leaf table h.0 xs c ps p high high' h.2 r)

-- a command more, of which nothing was printed yet
pub order_opens : (leaf table low : ℕ) (items : List PlayedItem) (c : Command) (high : ℕ) → InOrder leaf table low items high → InOrder leaf table low (with_pieces items c []) high
order_opens leaf table low items c high h =
    order_append leaf table low high high items (One (record { command = c; pieces = [] }) ∷ []) h (high, le_refl high, le_refl high)

-- ---- other words for what was printed

-- the same lines, with their numbers in order
pub retell : (g : BaseState) (start : List Entry) (number place : ℕ) (items items' : List PlayedItem) (v c : Option SeatView) → TableSession g start number place items v c
    → shown number place (all_pieces items') ≡ shown number place (all_pieces items)
    → ((high : ℕ) → InOrder number place (length start) items high → InOrder number place (length start) items' high)
    → TableSession g start number place items' v c
retell g start number place items items' v c s same order = record {
  stewards = s.stewards;
  callers = s.callers;
  met = s.met;
  since = s.since;
  seen_steward = s.seen_steward;
  seen_caller = s.seen_caller;
  alone = s.alone;
  told = s.told;
  later = s.later;
  lines = subst (λ (ss : List Shown). IsPermutation ss (s.told ++ s.later)) (sym same) s.lines;
  tells = s.tells;
  tells_later = s.tells_later;
  order = order (length start + length (s.met ++ s.since)) s.order;
  legal = s.legal;
}
