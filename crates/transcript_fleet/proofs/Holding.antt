-- Who holds what of one leaf: of what is cut off for a lane, and of what is taken back.
use Rattle.std.proofs.Common.{◌≡◌, ◌⊎◌, ℕ, Bool, true, false, inl, inr, sym, ap, ap₂, ◌∙◌, Option, Some, None}
use Rattle.std.specs.Prelude.{MatchBool, is_some}
use Rattle.leaf_table.specs.Calls.{SeatView}
use Rattle.leaf_moves.specs.Stage.{Leaf}
use Rattle.leaf_moves.specs.Holds.{Hold, caller_in, seen_by, seen_in, steward_in}
use Rattle.leaf_moves.specs.Lanes.{CutsOffAt, SplitsIf}
use Rattle.transcript_leaf.specs.Session.{AreApart, AreSame, HoldsBoth}

either : {A B C D : Type 0} → (A → C) → (B → D) → A ⊎ B → C ⊎ D
either f g (inl a) = inl (f a)
either f g (inr b) = inr (g b)

module _ {B : Type 0} where
  -- what each part holds stays apart
  pub apart_on : (r o r' o' : Hold B) → AreApart r o → AreSame r r' → AreSame o o' → AreApart r' o'
  apart_on r o r' o' apart rest off place id a b = apart place id ((rest.ids place id).1 a) ((off.ids place id).1 b)

  -- one part does not hold the leaf
  pub one_on : (r o r' o' : Hold B) → (is_some r.held ≡ false) ⊎ (is_some o.held ≡ false) → AreSame r r' → AreSame o o' → (is_some r'.held ≡ false) ⊎ (is_some o'.held ≡ false)
  one_on r o r' o' one rest off = either (λ none. sym rest.held ∙ none) (λ none. sym off.held ∙ none) one

  -- a leaf that is not held is held by neither part
  pub none_rest : (r o x : Hold B) → HoldsBoth r o x → is_some x.held ≡ false → is_some r.held ≡ false
  none_rest r o x both none = by both.one
    where
      by : (is_some r.held ≡ false) ⊎ (is_some o.held ≡ false) → is_some r.held ≡ false
      by (inl rest) = rest
      by (inr off) = sym (both.held.1 off) ∙ none

  pub none_off : (r o x : Hold B) → HoldsBoth r o x → is_some x.held ≡ false → is_some o.held ≡ false
  none_off r o x both none = by both.one
    where
      by : (is_some r.held ≡ false) ⊎ (is_some o.held ≡ false) → is_some o.held ≡ false
      by (inl rest) = sym (both.held.0 rest) ∙ none
      by (inr off) = off

  -- what was cut in two and put together again holds the same
  pub same_again : (x r o r' o' y : Hold B) → HoldsBoth r o x → AreSame r r' → AreSame o o' → HoldsBoth r' o' y → AreSame x y
  same_again x r o r' o' y cut rest off back = record {
    ids = λ place id. (
      λ a. (back.ids place id).1 (either (λ b. (rest.ids place id).0 b) (λ b. (off.ids place id).0 b) ((cut.ids place id).0 a)),
      λ a. (cut.ids place id).1 (either (λ b. (rest.ids place id).1 b) (λ b. (off.ids place id).1 b) ((back.ids place id).0 a)),
    );
    held = by cut.one;
  }
    where
      by : (is_some r.held ≡ false) ⊎ (is_some o.held ≡ false) → is_some x.held ≡ is_some y.held
      by (inl none) = cut.held.0 none ∙ (off.held ∙ sym (back.held.0 (sym rest.held ∙ none)))
      by (inr none) = cut.held.1 none ∙ (rest.held ∙ sym (back.held.1 (sym off.held ∙ none)))

  -- ---- what has been seen

  seen_split : (needed acts : Bool) (hx ho hr : Option (Leaf × B)) (cx co cr : Option SeatView) (place : ℕ) → SplitsIf needed cx co cr
      → MatchBool acts ((ho ≡ hx) × (hr ≡ None)) ((ho ≡ None) × (hr ≡ hx))
      → (seen_by (steward_in hr place) cr ≡ seen_by (steward_in hx place) cx) ⊎ (seen_by (steward_in ho place) co ≡ seen_by (steward_in hx place) cx)
  seen_split true acts hx ho hr (Some s) co cr place split held = inl (ap (λ (c : Option SeatView). seen_by (steward_in hr place) c) split.2)
  seen_split false acts hx ho hr (Some s) co cr place split held = inl (ap (λ (c : Option SeatView). seen_by (steward_in hr place) c) split.1)
  seen_split needed true hx ho hr None co cr place split held = inr (ap₂ (λ (h : Option (Leaf × B)) (c : Option SeatView). seen_by (steward_in h place) c) held.0 split.0)
  seen_split needed false hx ho hr None co cr place split held = inl (ap₂ (λ (h : Option (Leaf × B)) (c : Option SeatView). seen_by (steward_in h place) c) held.1 split.1)

  -- one of both parts has seen what was seen before
  pub seen_of_part : (needs : ℕ → Bool) (acts : Bool) (x off rest : Hold B) → CutsOffAt needs acts x off rest → (place : ℕ)
      → (seen_in rest place ≡ seen_in x place) ⊎ (seen_in off place ≡ seen_in x place)
  seen_of_part needs acts x off rest cut place =
      seen_split (needs place) acts x.held off.held rest.held (caller_in x.callers place) (caller_in off.callers place) (caller_in rest.callers place) place (cut.seats place) cut.held
