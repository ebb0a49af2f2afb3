-- What closing the flag of a region, a cut and a torn write make of it.
use Rattle.std.proofs.Common.{◌≡◌, inl, inr, ℕ, zero, suc, List, [], ◌∷◌, length, take, refl, sym, subst, arith, length-take}
use Rattle.berth_face.specs.Berth.{IsClosed, Torn, Cut}
use Rattle.region_head.specs.declared.head.Head.TheVariants.{Version}
use Rattle.region_head.specs.Head.{head_of}
use Rattle.region_head.specs.Closing.{IsBroken}
use Rattle.region_head.proofs.Heads.{closed_head, head_long}

pub flag_closed : (rest : List ℕ) → IsClosed (0 ∷ rest)
flag_closed rest = inr (λ e. absurd (omega (arith, e)))

pub untouched : (region : List ℕ) → IsBroken region region
untouched region = record { closed = λ closed. refl; either = inl (refl, refl) }

-- an open region of which a closed one is left
pub closed_breaks : (region new : List ℕ) (version : ℕ) → head_of region ≡ Version version → IsClosed new → IsBroken region new
closed_breaks region new version e is = record { closed = λ closed. absurd (closed_head region closed version e); either = inr is }

pub torn_breaks : (region new : List ℕ) (version : ℕ) → head_of region ≡ Version version → Torn 0 1 region new → IsBroken region new
torn_breaks region new version e torn = record {
  closed = λ closed. absurd (closed_head region closed version e);
  either = inl (torn.after, omega (arith, head_long region version e, torn.no_shorter, torn.no_longer));
}

take_closed : (n : ℕ) (region : List ℕ) → IsClosed region → IsClosed (take n region)
take_closed zero region is = inl (omega arith)
take_closed (suc n) [] is = inl (omega arith)
take_closed (suc n) (x ∷ xs) is = elim is [
  | inl short ↦ inl (let size = length-take n xs in omega (arith, size, short))
  | inr other ↦ inr other
]

pub cut_closed : (n : ℕ) (region : List ℕ) → IsClosed region → IsClosed (take n region)
cut_closed = take_closed

pub torn_cut : (n : ℕ) (old new : List ℕ) → IsClosed old → Cut n old new → IsClosed new
torn_cut n old new is made = subst IsClosed (sym made.front) (take_closed (length new) old is)
