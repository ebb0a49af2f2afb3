-- What was cut off comes back.
use Rattle.std.proofs.Common.{◌≡◌, ◌⊎◌, inl, inr, ℕ, ◌+◌, ◌≤◌, Bool, true, false, List, [], ◌∷◌, ◌++◌, length, Option, Some, None, Result, Vec, Global, refl, sym, ap, subst, ◌∙◌, arith}
use Rattle.std.specs.Prelude.{slice_get, is_some, IfOk, MatchBool}
use Rattle.berth_face.specs.Berth.{Meaning}
use Rattle.leaf_table.specs.Calls.{SeatView}
use Rattle.script_text.specs.declared.command.Command.{Command}
use Rattle.rollover_watch.specs.Watches.{Held}
use Rattle.printed_lines.specs.declared.line.Ending.{Ending}
use Rattle.printed_lines.specs.declared.line.Deed.{Deed}
use Rattle.printed_lines.specs.declared.line.Line.{Line}
use Rattle.script_text.specs.declared.fleet.FleetShape.{FleetShape}
use Rattle.transcript.specs.Pieces.{Piece, pieces_in}
use Rattle.transcript.specs.Counts.{deeds_in}
use Rattle.leaf_moves.specs.Holds.{Hold, caller_in}
use Rattle.leaf_moves.specs.Stage.{Leaf}
use Rattle.leaf_moves.specs.Lanes.{ComesBack, CutsOff, CutsOffAt, Fans, TakesBack, TakesBackAt}
use Rattle.player.specs.Crew.{AllCounted, AllPass, CountedIf, PassesIf, SameSeats, StillHas}
use Rattle.lane_play.specs.Went.{LaneWent, told_lines}
use Rattle.lane_play.proofs.Held.{counted_first, counted_second, passes_if_on, there_too}
use Rattle.bursts.specs.Lanes.{FansWent, IsBehind, all_of}
use Rattle.bursts.specs.Rolling.{IsHandedOver, has_rollover, one_if, rolling}
use Rattle.bursts.proofs.Cutting.{rest_same}
use Rattle.bursts.proofs.Hearing.{both_hear, one_if_true, quiet_front, quiet_lanes, rolling_append}
use Rattle.bursts.proofs.Lanes.{lanes_go_on}

-- ---- one leaf

no_some : {A : Type 0} (h : Option A) → is_some h ≡ false → h ≡ None
no_some None e = refl
no_some (Some x) e = absurd cc

module _ {B : Type 0} (meaning : B → Meaning) where
  -- a leaf that was given away, or one that stayed
  abbrev Parts : Bool → Option (Leaf × B) → Option (Leaf × B) → Option (Leaf × B) → Type 0
  Parts acts x off rest = MatchBool acts ((off ≡ x) × (rest ≡ None)) ((off ≡ None) × (rest ≡ x))

  -- what holds of both parts
  abbrev OfParts : (O R : Option (Leaf × B) → Type 0) → Bool → Option (Leaf × B) → Type 0
  OfParts O R acts x = MatchBool acts (O x × R None) (O None × R x)

  of_parts : (O R : Option (Leaf × B) → Type 0) (acts : Bool) (x off rest : Option (Leaf × B)) → Parts acts x off rest → O off → R rest → OfParts O R acts x
  of_parts O R true x off rest parts o r = (subst O parts.0 o, subst R parts.1 r)
  of_parts O R false x off rest parts o r = (subst O parts.0 o, subst R parts.1 r)

  still_back : (acts : Bool) (x off rest z : Option (Leaf × B)) (callers callers' : List (Option SeatView)) → ComesBack meaning off rest callers z callers'
      → OfParts (λ h. is_some off ≡ is_some h) (λ h. is_some rest ≡ is_some h) acts x → is_some z ≡ is_some x
  still_back true x None rest z callers callers' back p = ap (λ (h : Option (Leaf × B)). is_some h) back.0 ∙ (p.1 ∙ p.0)
  still_back true x (Some l) rest z callers callers' back p = ap (λ (h : Option (Leaf × B)). is_some h) back.2 ∙ p.0
  still_back false x None rest z callers callers' back p = ap (λ (h : Option (Leaf × B)). is_some h) back.0 ∙ p.1
  still_back false x (Some l) rest z callers callers' back p = let wrong : true ≡ false = p.0 in absurd cc

  passes_back : (acts : Bool) (x off rest z : Option (Leaf × B)) (callers callers' : List (Option SeatView)) → ComesBack meaning off rest callers z callers'
      → OfParts (λ h. PassesIf meaning h off) (λ h. PassesIf meaning h rest) acts x → PassesIf meaning x z
  passes_back true x None rest z callers callers' back p = subst (λ (h : Option (Leaf × B)). PassesIf meaning x h) (sym back.0) (passes_if_on meaning x None rest p.0 p.1)
  passes_back true None (Some l) rest z callers callers' back p = absurd p.0
  passes_back true (Some k) (Some l) rest z callers callers' back p = subst (λ (h : Option (Leaf × B)). PassesIf meaning (Some k) h) (sym back.2) p.0
  passes_back false x None rest z callers callers' back p = subst (λ (h : Option (Leaf × B)). PassesIf meaning x h) (sym back.0) p.1
  passes_back false x (Some l) rest z callers callers' back p = absurd p.0

  no_deeds_of : (leaf : ℕ) (ps : List Piece) (h : Option (Leaf × B)) → CountedIf meaning leaf ps None h → (test : Deed → Ending → Bool) → deeds_in test leaf ps ≡ 0
  no_deeds_of leaf ps None c = c
  no_deeds_of leaf ps (Some l) c = absurd c

  counted_back : (leaf : ℕ) (ps qs : List Piece) (acts : Bool) (x off rest z : Option (Leaf × B)) (callers callers' : List (Option SeatView)) → ComesBack meaning off rest callers z callers'
      → OfParts (λ h. CountedIf meaning leaf qs h off) (λ h. CountedIf meaning leaf ps h rest) acts x → CountedIf meaning leaf (ps ++ qs) x z
  counted_back leaf ps qs true None None rest z callers callers' back p =
      subst (λ (h : Option (Leaf × B)). CountedIf meaning leaf (ps ++ qs) None h) (sym back.0) (counted_first meaning leaf ps qs None rest p.1 p.0)
  counted_back leaf ps qs true (Some k) None rest z callers callers' back p = absurd p.0
  counted_back leaf ps qs true None (Some l) rest z callers callers' back p = absurd p.0
  counted_back leaf ps qs true (Some k) (Some l) rest z callers callers' back p =
      subst (λ (h : Option (Leaf × B)). CountedIf meaning leaf (ps ++ qs) (Some k) h) (sym back.2)
      (counted_second meaning leaf ps qs (Some k) (Some (back.0, l.1)) (no_deeds_of leaf ps rest p.1) p.0)
  counted_back leaf ps qs false x None rest z callers callers' back p =
      subst (λ (h : Option (Leaf × B)). CountedIf meaning leaf (ps ++ qs) x h) (sym back.0) (counted_first meaning leaf ps qs x rest p.1 p.0)
  counted_back leaf ps qs false x (Some l) rest z callers callers' back p = absurd p.0

-- ---- all leaves

-- xs were cut in two; both parts played; and they are joined again
module _ {B : Type 0} (meaning : B → Meaning) (needs acts : ℕ → Bool) (xs off rest off' rest' zs : List (Hold B)) (cut : CutsOff needs acts xs off rest) (back : TakesBack meaning rest' off' zs) where
  record At (leaf : ℕ) (x z : Hold B) : Type 0 where
    pub o : Hold B
    pub r : Hold B
    pub o' : Hold B
    pub r' : Hold B
    pub at_o : slice_get off leaf ≡ Some o
    pub at_r : slice_get rest leaf ≡ Some r
    pub at_o' : slice_get off' leaf ≡ Some o'
    pub at_r' : slice_get rest' leaf ≡ Some r'
    pub cuts : CutsOffAt needs (acts leaf) x o r
    pub takes : TakesBackAt meaning r' o' z

  at : (leaf : ℕ) (x z : Hold B) → slice_get xs leaf ≡ Some x → slice_get zs leaf ≡ Some z → At leaf x z
  at leaf x z here there =
      let o = there_too off xs leaf x (sym cut.counts.0) here in
      let r = there_too rest xs leaf x (sym cut.counts.1) here in
      let r' = there_too rest' zs leaf z (sym back.counts.0) there in
      let o' = there_too off' zs leaf z (sym back.counts.1) there in
      record {
        o = o.0;
        r = r.0;
        o' = o'.0;
        r' = r'.0;
        at_o = o.1;
        at_r = r.1;
        at_o' = o'.1;
        at_r' = r'.1;
        cuts = cut.each leaf x o.0 r.0 here o.1 r.1;
        takes = back.each leaf r'.0 o'.0 z r'.1 o'.1 there;
      }

  pub time_back : AllPass meaning off off' → AllPass meaning rest rest' → AllPass meaning xs zs
  time_back o r = record {
    count = sym back.counts.0 ∙ (r.count ∙ cut.counts.1);
    each = λ leaf x z here there.
        let a = at leaf x z here there in
        passes_back meaning (acts leaf) x.held a.o'.held a.r'.held z.held a.takes.joined z.callers a.takes.held
        (of_parts meaning (λ h. PassesIf meaning h a.o'.held) (λ h. PassesIf meaning h a.r'.held) (acts leaf) x.held a.o.held a.r.held a.cuts.held
        (o.each leaf a.o a.o' a.at_o a.at_o') (r.each leaf a.r a.r' a.at_r a.at_r'));
  }

  pub counts_back : (ps qs : List Piece) → AllCounted meaning qs off off' → AllCounted meaning ps rest rest' → AllCounted meaning (ps ++ qs) xs zs
  counts_back ps qs o r = record {
    count = sym back.counts.0 ∙ (r.count ∙ cut.counts.1);
    each = λ leaf x z here there.
        let a = at leaf x z here there in
        counted_back meaning leaf ps qs (acts leaf) x.held a.o'.held a.r'.held z.held a.takes.joined z.callers a.takes.held
        (of_parts meaning (λ h. CountedIf meaning leaf qs h a.o'.held) (λ h. CountedIf meaning leaf ps h a.r'.held) (acts leaf) x.held a.o.held a.r.held a.cuts.held
        (o.each leaf a.o a.o' a.at_o a.at_o') (r.each leaf a.r a.r' a.at_r a.at_r'));
  }

  pub has_back : StillHas off off' → StillHas rest rest' → SameSeats rest' zs → StillHas xs zs
  has_back o r seats = record {
    count = sym back.counts.0 ∙ (r.count ∙ cut.counts.1);
    each = λ leaf x z here there.
        let a = at leaf x z here there in
        let one = o.each leaf a.o a.o' a.at_o a.at_o' in
        let two = r.each leaf a.r a.r' a.at_r a.at_r' in (
          still_back meaning (acts leaf) x.held a.o'.held a.r'.held z.held a.takes.joined z.callers a.takes.held
              (of_parts meaning (λ h. is_some a.o'.held ≡ is_some h) (λ h. is_some a.r'.held ≡ is_some h) (acts leaf) x.held a.o.held a.r.held a.cuts.held one.0 two.0),
          λ table. seats.each leaf a.r' z a.at_r' there table
              ∙ (two.1 table ∙ rest_same (needs table) (caller_in x.callers table) (caller_in a.o.callers table) (caller_in a.r.callers table) (a.cuts.seats table)),
        );
  }

  -- one lane more, which played with what was cut off for it
  module _ (fleet : FleetShape) (others : List (List Command)) (lane : List Command) (us left left' its its' now : List Held) (over : IsHandedOver (has_rollover lane) us left its) (taken : MatchBool (has_rollover lane) (now ≡ its') (now ≡ left')) where
    one_more : {E : Type 0} → rolling (others ++ lane ∷ []) ≤ 1 → (lines own all : Result (Vec Line Global) E) (number : ℕ) → FansWent meaning fleet others rest left (told_lines lines) rest' left'
        → LaneWent meaning fleet lane off its (told_lines own) off' its' → length others ≡ number → IfOk all (λ v. IsBehind lines number own v.items) → FansWent meaning fleet (others ++ lane ∷ []) xs us (told_lines all) zs now
    one_more few lines own all number a b =
        let more : rolling (others ++ lane ∷ []) ≡ rolling others + (one_if (has_rollover lane) + 0) = rolling_append others (lane ∷ []) in
        lanes_go_on meaning fleet (λ played. Fans meaning fleet rest played rest') (λ played. Fans meaning fleet xs played zs) others lane rest rest' off off' xs zs left left' its its' us now lines own all number a b
        (Fans.beside xs (a.played ++ b.played ∷ []) zs a.played b.played needs acts off rest rest' off' cut a.plays b.plays back refl)
        (counts_back (pieces_in (all_of a.played)) (pieces_in b.played) b.counted a.counted)
        (both_hear fleet (has_rollover lane) (all_of a.played) b.played us left left' its its' now over taken a.heard b.heard
        (λ rolls. quiet_lanes fleet a.played others us a.begun (omega (arith, few, more, one_if_true (has_rollover lane) rolls)))
        (λ never. quiet_front fleet b.played lane b.rest left' b.commands_are never))

  pub fans_go_on : {E : Type 0} (fleet rest_fleet off_fleet : FleetShape) → rest_fleet ≡ fleet → off_fleet ≡ fleet → (others : List (List Command)) (lane : List Command) (lanes : List (List Command)) → lanes ≡ others ++ lane ∷ [] → rolling lanes ≤ 1
      → (us left left' its its' now : List Held) (rolls : Bool) → rolls ≡ has_rollover lane → IsHandedOver rolls us left its → MatchBool rolls (now ≡ its') (now ≡ left')
      → (lines own all : Result (Vec Line Global) E) (number : ℕ) → FansWent meaning rest_fleet others rest left (told_lines lines) rest' left' → LaneWent meaning off_fleet lane off its (told_lines own) off' its'
      → length others ≡ number → IfOk all (λ v. IsBehind lines number own v.items) → FansWent meaning fleet lanes xs us (told_lines all) zs now
  fans_go_on fleet rest_fleet off_fleet rest_same off_same others lane lanes are few us left left' its its' now rolls is over taken lines own all number a b count behind =
      subst (λ (ls : List (List Command)). FansWent meaning fleet ls xs us (told_lines all) zs now) (sym are)
      (one_more fleet others lane us left left' its its' now
      (subst (λ (b : Bool). IsHandedOver b us left its) is over) (subst (λ (b : Bool). MatchBool b (now ≡ its') (now ≡ left')) is taken)
      (subst (λ (ls : List (List Command)). rolling ls ≤ 1) are few) lines own all number
      (subst (λ (f : FleetShape). FansWent meaning f others rest left (told_lines lines) rest' left') rest_same a)
      (subst (λ (f : FleetShape). LaneWent meaning f lane off its (told_lines own) off' its') off_same b) count behind)

-- of both parts, one holds a leaf at most
module _ {B : Type 0} (meaning : B → Meaning) (needs acts : ℕ → Bool) (xs off rest off' rest' : List (Hold B)) (cut : CutsOff needs acts xs off rest) (still : StillHas off off') (also : StillHas rest rest') where
  pub apart : (leaf : ℕ) (r o : Hold B) → slice_get rest' leaf ≡ Some r → slice_get off' leaf ≡ Some o → (r.held ≡ None) ⊎ (o.held ≡ None)
  apart leaf r o at_r at_o =
      let was_o = there_too off off' leaf o still.count at_o in
      let was_r = there_too rest rest' leaf r also.count at_r in
      let x = there_too xs off leaf was_o.0 cut.counts.0 was_o.1 in
      by (acts leaf) x.0.held
      (of_parts meaning (λ h. is_some o.held ≡ is_some h) (λ h. is_some r.held ≡ is_some h) (acts leaf) x.0.held was_o.0.held was_r.0.held
      (cut.each leaf x.0 was_o.0 was_r.0 x.1 was_o.1 was_r.1).held (still.each leaf was_o.0 o was_o.1 at_o).0 (also.each leaf was_r.0 r was_r.1 at_r).0)
    where
      by : (b : Bool) (x : Option (Leaf × B)) → OfParts meaning (λ h. is_some o.held ≡ is_some h) (λ h. is_some r.held ≡ is_some h) b x → (r.held ≡ None) ⊎ (o.held ≡ None)
      by true x p = inl (no_some r.held p.1)
      by false x p = inr (no_some o.held p.0)
