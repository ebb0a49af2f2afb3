-- What a look at a region leaves of it, and what is no image.
use Rattle.std.proofs.Common.{◌≡◌, ◌⊎◌, inl, inr, ℕ, ◌<◌, ◌∙◌, List, [], ◌∷◌, length, drop, refl, sym, ap₂, subst, arith}
use Rattle.std.specs.Prelude.{slice_index}
use Rattle.std.proofs.lemmas.Bool.{cases_lt, cases_eq}
use Rattle.region_layout.specs.Images.{TableImage}
use Rattle.berth_face.specs.Berth.{IsClosed}
use Rattle.region_head.specs.Head.{version_of}
use Rattle.region_head.proofs.Heads.{open_head, shut_head}
use Rattle.region_layout.specs.Region.{IsAdoptable}
use Rattle.region_layout.proofs.Images.{not_closed}
use Rattle.region_head.specs.Closing.{IsBroken}
use Rattle.adopt.specs.Adopting.{IsLeftBehind}

-- ---- what is left is closed

-- a region is closed, or it is open
shut_or_open : (region : List ℕ) → IsClosed region ⊎ (IsClosed region → ⊥)
shut_or_open region = elim (cases_lt (length region) 16) [
  | inl short ↦ inl (inl short)
  | inr long ↦ elim (cases_eq (slice_index region 0) 1) [
    | inr other ↦ inl (inr other)
    | inl one ↦ inr (λ closed. elim closed [
      | inl short ↦ omega (arith, short, long)
      | inr other ↦ other one
    ])
  ]
]

pub left_closed : (old new : List ℕ) → IsLeftBehind old new → IsClosed new
left_closed old new left = elim (shut_or_open old) [
  | inl shut ↦ subst IsClosed (sym (left.closed shut)) shut
  | inr opened ↦ shut_head new 0 (left.opened (version_of old) (open_head old opened))
]

-- a closed region is no image
pub closed_no_image : (region : List ℕ) → IsClosed region → (images : List TableImage) (log_end : ℕ) → IsAdoptable region images log_end → ⊥
closed_no_image region closed images log_end is = not_closed region images log_end closed is

-- ---- after a fault an open region is the same

front_is : (l : List ℕ) → 0 < length l → l ≡ slice_index l 0 ∷ drop 1 l
front_is [] some = absurd (omega (arith, some))
front_is (x ∷ l) some = refl

pub broken_same : (old new : List ℕ) → IsBroken old new → (IsClosed new → ⊥) → new ≡ old
broken_same old new broken opened = elim (cases_lt (length old) 16) [
  | inl short ↦ broken.closed (inl short)
  | inr long ↦ elim (cases_eq (slice_index old 0) 1) [
    | inr other ↦ broken.closed (inr other)
    | inl one ↦ elim broken.either [
      | inr shut ↦ absurd (opened shut)
      | inl same ↦ elim (cases_eq (slice_index new 0) 1) [
        | inr shut ↦ absurd (opened (inr shut))
        | inl still ↦
            front_is new (omega (arith, long, same.1)) ∙ ap₂ (λ (b : ℕ) (l : List ℕ). b ∷ l) (still ∙ sym one) same.0 ∙ sym (front_is old (omega (arith, long)))
      ]
    ]
  ]
]
