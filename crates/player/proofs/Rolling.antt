-- The pieces of a rollover, wave by wave.
use Rattle.std.proofs.Common.{◌≡◌, ℕ, suc, ◌+◌, ◌<◌, Bool, true, false, List, [], ◌∷◌, ◌++◌, length, map, None, refl, sym, ap, subst, ◌∙◌, arith, nat_lt, append_assoc}
use Rattle.std.specs.List.{AllByRecursion, flat_map}
use Rattle.std.proofs.lemmas.Grind.{flat_map-append}
use Rattle.std.proofs.lemmas.Bool.Decides.{nat_tests}
use Rattle.rollover_watch.specs.Watches.{Held}
use Rattle.rollover_driver.specs.declared.driving.Rolled.{Rolled}
use Rattle.rollover_driver.specs.Calls.{AreOfEach, AreOfWave, FleetCall}
use Rattle.rollover_driver.specs.Calls as call
use Rattle.rollover_driver.specs.Drives.{WavesGo}
use Rattle.printed_lines.specs.declared.line.Line.{Line}
use Rattle.printed_lines.specs.declared.line.Line.TheVariants as line
use Rattle.printed_lines.specs.declared.line.Deed.{Deed}
use Rattle.printed_lines.specs.declared.line.Deed.TheVariants.{Drain, Start}
use Rattle.transcript.specs.Pieces.{Piece, Says}
use Rattle.transcript.specs.Shapes.{ActPiece, EachActs, WavesPieces}
use Rattle.transcript.specs.Watching.{calls_in, piece_calls}
use Rattle.player.specs.Restarts.{IsCall, Puts, head_at, heads_left}
use Rattle.player.specs.Rolled.{wave_lines}

-- ---- the calls that pieces tell

pub said_calls : (ls : List Line) → calls_in (map Says ls) ≡ []
said_calls [] = refl
said_calls (l ∷ ls) = said_calls ls

pub calls_more : (ps qs : List Piece) → calls_in (ps ++ qs) ≡ calls_in ps ++ calls_in qs
calls_more ps qs = flat_map-append piece_calls ps qs

call_told : (c : FleetCall) (p : Piece) → IsCall c p → piece_calls p ≡ c ∷ []
call_told (call.Drains leaf got) p is = ap piece_calls is.0.2 ∙ ap (λ g. call.Drains leaf g ∷ []) (sym is.1)
call_told (call.Starts leaf got) p is = ap piece_calls is.0.2 ∙ ap (λ g. call.Starts leaf g ∷ []) (sym is.1)

-- those of a call and of the pieces behind it
told_more : (c : FleetCall) (cs : List FleetCall) (ls : List Line) (p : Piece) (ps qs : List Piece) → ps ≡ map Says ls ++ p ∷ qs → IsCall c p → calls_in qs ≡ cs → calls_in ps ≡ c ∷ cs
told_more c cs ls p ps qs are is rest =
    ap calls_in are ∙ calls_more (map Says ls) (p ∷ qs) ∙ ap (λ (ds : List FleetCall). ds ++ calls_in (p ∷ qs)) (said_calls ls)
    ∙ ap (λ (ds : List FleetCall). ds ++ calls_in qs) (call_told c p is) ∙ ap (λ (ds : List FleetCall). c ∷ ds) rest

pub told_calls : (cs : List FleetCall) (heads heads' : List Line) (draining draining' : Bool) (ps : List Piece) → Puts heads draining cs ps heads' draining' → calls_in ps ≡ cs
told_calls [] heads heads' draining draining' ps puts = ap calls_in puts.0
told_calls (call.Drains leaf got ∷ cs) heads heads' draining draining' ps puts =
    told_more (call.Drains leaf got) cs (head_at heads draining) puts.0 ps puts.1 puts.3 puts.2 (told_calls cs (heads_left heads draining) heads' true draining' puts.1 puts.4)
told_calls (call.Starts leaf got ∷ cs) heads heads' draining draining' ps puts =
    told_more (call.Starts leaf got) cs [] puts.0 ps puts.1 puts.3 puts.2 (told_calls cs heads heads' false draining' puts.1 puts.4)

-- ---- waves

module _ (heads heads' : List Line) (draining' : Bool) where
  -- these pieces begin with a deed of each leaf
  pub record Parted (deed : Deed) (leaves : List ℕ) (draining : Bool) (more : List FleetCall) (ps : List Piece) : Type 0 where
    pub front : List Piece
    pub back : List Piece
    pub is : ps ≡ front ++ back
    pub acts : EachActs deed leaves front
    pub rest : Puts heads draining more back heads' draining'

  -- a call of this kind comes with its piece alone
  module _ {A : Type 0} (kind : ℕ → A → FleetCall) (deed : Deed) (draining : Bool)
      (first : (leaf : ℕ) (got : A) (cs : List FleetCall) (ps : List Piece) → Puts heads draining (kind leaf got ∷ cs) ps heads' draining'
      → (p : Piece) × (others : List Piece) × ActPiece leaf deed p × (ps ≡ p ∷ others) × Puts heads draining cs others heads' draining') where
    deeds_part : (leaves : List ℕ) (cs more : List FleetCall) (ps : List Piece) → AreOfEach kind leaves cs → Puts heads draining (cs ++ more) ps heads' draining' → Parted deed leaves draining more ps
    deeds_part [] [] more ps are puts = record { front = []; back = ps; is = refl; acts = tt; rest = puts }
    deeds_part [] (c ∷ cs) more ps are puts = absurd are
    deeds_part (leaf ∷ leaves) [] more ps are puts = absurd are
    deeds_part (leaf ∷ leaves) (c ∷ cs) more ps are puts =
        let own = first leaf are.0.0 (cs ++ more) ps (subst (λ (d : FleetCall). Puts heads draining (d ∷ (cs ++ more)) ps heads' draining') are.0.1 puts) in
        let others = deeds_part leaves cs more own.1 are.1 own.4 in
        record { front = own.0 ∷ others.front; back = others.back; is = own.3 ∙ ap (λ (qs : List Piece). own.0 ∷ qs) others.is; acts = (own.2, others.acts); rest = others.rest }

  all_drains : (leaves : List ℕ) (cs more : List FleetCall) (ps : List Piece) → AreOfEach call.Drains leaves cs → Puts heads true (cs ++ more) ps heads' draining' → Parted (Drain None) leaves true more ps
  all_drains = deeds_part call.Drains (Drain None) true (λ leaf got cs ps puts. (puts.0, puts.1, puts.2.0, puts.3, puts.4))

  -- the first of the starts ends the drains
  all_starts : (leaves : List ℕ) (cs more : List FleetCall) (ps : List Piece) → 0 < length leaves → AreOfEach call.Starts leaves cs → Puts heads true (cs ++ more) ps heads' draining' → Parted Start leaves false more ps
  all_starts [] cs more ps some are puts = absurd (omega (arith, some))
  all_starts (leaf ∷ leaves) [] more ps some are puts = absurd are
  all_starts (leaf ∷ leaves) (c ∷ cs) more ps some are puts =
      deeds_part call.Starts Start false (λ l got ds qs own. (own.0, own.1, own.2.0, own.3, own.4)) (leaf ∷ leaves) (c ∷ cs) more ps are
      (subst (λ (d : FleetCall). Puts heads false (d ∷ (cs ++ more)) ps heads' draining') (sym are.0.1) (subst (λ (d : FleetCall). Puts heads true (d ∷ (cs ++ more)) ps heads' draining') are.0.1 puts))

-- the first of the drains begins the wave
pub record Begins (l : Line) (heads : List Line) (calls : List FleetCall) (ps : List Piece) (heads' : List Line) (draining' : Bool) : Type 0 where
  pub others : List Piece
  pub is : ps ≡ Says l ∷ others
  pub rest : Puts heads true calls others heads' draining'

begins : (l : Line) (heads heads' : List Line) (draining' : Bool) (leaves : List ℕ) (cs more : List FleetCall) (ps : List Piece) → 0 < length leaves → AreOfEach call.Drains leaves cs → Puts (l ∷ heads) false (cs ++ more) ps heads' draining'
    → Begins l heads (cs ++ more) ps heads' draining'
begins l heads heads' draining' [] cs more ps some are puts = absurd (omega (arith, some))
begins l heads heads' draining' (leaf ∷ leaves) [] more ps some are puts = absurd are
begins l heads heads' draining' (leaf ∷ leaves) (c ∷ cs) more ps some are puts =
    let own = subst (λ (d : FleetCall). Puts (l ∷ heads) false (d ∷ (cs ++ more)) ps heads' draining') are.0.1 puts in
    record {
      others = own.0 ∷ own.1;
      is = own.3;
      rest = subst (λ (d : FleetCall). Puts heads true (d ∷ (cs ++ more)) (own.0 ∷ own.1) heads' draining') (sym are.0.1) (own.0, own.1, own.2, refl, own.4);
    }

-- ---- rollovers

below_suc : (a b : ℕ) → nat_lt (suc a) (suc b) ≡ nat_lt a b
below_suc a b = grind (arith, nat_tests)

first_below : (a : ℕ) → nat_lt 0 (suc a) ≡ true
first_below a = grind (arith, nat_tests)

-- these are the pieces of waves, of which `begun` were begun before
pub record Rolling (total begun : ℕ) (waves : List (List ℕ)) (rolled : Rolled) (all : List Piece) : Type 0 where
  pub pieces : List (List Piece)
  pub each : WavesPieces (suc begun) total waves pieces
  pub count : rolled.waves ≡ begun + length pieces
  pub halted : rolled.halted ≡ nat_lt (length pieces) (length waves)
  pub are : all ≡ flat_map (λ (wave : List Piece). wave) pieces

module _ (total : ℕ) (heads' : List Line) (draining' : Bool) where
  -- no further wave is begun
  no_more : (begun : ℕ) (waves : List (List ℕ)) (heads : List Line) (calls : List FleetCall) (rolled : Rolled) (ps : List Piece) → calls ≡ [] → rolled ≡ record { waves = begun; halted = nat_lt 0 (length waves) }
      → Puts heads false calls ps heads' draining' → Rolling total begun waves rolled ps
  no_more begun waves heads calls rolled ps none is puts = record {
    pieces = [];
    each = tt;
    count = ap (λ (r : Rolled). r.waves) is ∙ omega arith;
    halted = ap (λ (r : Rolled). r.halted) is;
    are = (subst (λ (cs : List FleetCall). Puts heads false cs ps heads' draining') none puts).0;
  }

  pub rolled_waves : (begun : ℕ) (waves : List (List ℕ)) (asked : Bool) (old : List Held) (calls : List FleetCall) (rolled : Rolled) (new : List Held) (ps : List Piece) → WavesGo total begun waves asked old calls rolled new
      → AllByRecursion (λ (wave : List ℕ). 0 < length wave) waves → Puts (wave_lines (suc begun) total waves) false calls ps heads' draining' → Rolling total begun waves rolled ps
  rolled_waves begun [] asked old calls rolled new ps goes some puts = no_more begun [] [] calls rolled ps goes.0 goes.1 puts
  rolled_waves begun (first ∷ others) true old calls rolled new ps goes some puts =
      no_more begun (first ∷ others) (wave_lines (suc begun) total (first ∷ others)) calls rolled ps goes.0
      (goes.1 ∙ ap (λ (h : Bool). record { waves = begun; halted = h }) (sym (first_below (length others)))) puts
  rolled_waves begun (first ∷ others) false old calls rolled new ps goes some puts =
      let wave : AreOfWave first goes.0 = goes.4 in
      let l : Line = line.Wave (suc begun) total first in
      let heads = wave_lines (suc (suc begun)) total others in
      let calls_are : calls ≡ wave.0 ++ (wave.1 ++ goes.1) = goes.5 ∙ ap (λ (cs : List FleetCall). cs ++ goes.1) wave.4 ∙ append_assoc wave.0 wave.1 goes.1 in
      let lead = begins l heads heads' draining' first wave.0 (wave.1 ++ goes.1) ps some.0 wave.2 (subst (λ (cs : List FleetCall). Puts (l ∷ heads) false cs ps heads' draining') calls_are puts) in
      let drains = all_drains heads heads' draining' first wave.0 (wave.1 ++ goes.1) lead.others wave.2 lead.rest in
      let starts = all_starts heads heads' draining' first wave.1 goes.1 drains.back some.0 wave.3 drains.rest in
      let next : begun + 1 ≡ suc begun = omega arith in
      let sub = rolled_waves (suc begun) others goes.2 goes.3 goes.1 rolled new starts.back
      (subst (λ (k : ℕ). WavesGo total k others goes.2 goes.3 goes.1 rolled new) next goes.7) some.1 starts.rest in
      let rest : List Piece = flat_map (λ (wave : List Piece). wave) sub.pieces in
      record {
        pieces = (Says l ∷ (drains.front ++ starts.front)) ∷ sub.pieces;
        each = (record { drains = drains.front; starts = starts.front; drained = drains.acts; started = starts.acts; are = refl }, sub.each);
        count = sub.count ∙ omega arith;
        halted = sub.halted ∙ sym (below_suc (length sub.pieces) (length others));
        are = lead.is ∙ ap (λ (qs : List Piece). Says l ∷ qs)
            (drains.is ∙ ap (λ (qs : List Piece). drains.front ++ qs) (starts.is ∙ ap (λ (qs : List Piece). starts.front ++ qs) sub.are) ∙ sym (append_assoc drains.front starts.front rest));
      }
