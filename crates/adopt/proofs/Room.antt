-- What is held and the region together stay within the image.
use Rattle.std.proofs.Common.{ℕ, List, arith}
use Rattle.berth_face.specs.Berth.{Meaning}
use Rattle.berth_face.specs.Moments.{Meanwhile}
use Rattle.berth_face.proofs.Moments.{meanwhile_map}
use Rattle.adopt.specs.Adopting.{IsInImage}
use Rattle.region_head.specs.Closing.{IsNoLonger}
use Rattle.adopt.specs.Taken.{AdoptState}

-- so what is held and the region stay within the image
pub in_room : (s : AdoptState) (a b : Meaning) → IsInImage s a.held.region → Meanwhile (IsNoLonger a.held.region) a b → Meanwhile (IsInImage s) a b
in_room s a b fits all = meanwhile_map a b (IsNoLonger a.held.region) (IsInImage s) fitting all
  where
    fitting : (region : List ℕ) → IsNoLonger a.held.region region → IsInImage s region
    fitting region short = omega (arith, fits, short)
