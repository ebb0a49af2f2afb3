-- What the bytes of a directory tell.
use Rattle.std.proofs.Common.{◌≡◌, ℕ, zero, suc, ◌+◌, ◌<◌, ◌≤◌, ◌^◌, List, [], ◌∷◌, length, take, drop, Option, Some, None, Ok, Err, refl, sym, ap, subst, ◌∙◌, arith, length-drop}
use Rattle.std.specs.Prelude.{Result, IfOk}
use Rattle.std.specs.Int.{w64, from_le_bytes}
use Rattle.std.specs.List.{AllByRecursion}
use Rattle.std.proofs.lemmas.List.{drop-take, take-take}
use Rattle.std.proofs.Math.Seq.{drop-nil}
use Rattle.region_head.specs.declared.head.Head.TheVariants.{Version}
use Rattle.region_head.specs.Head.{head_of}
use Rattle.region_head.proofs.Heads.{head_long}
use Rattle.region_layout.specs.declared.directory.Place.{Place}
use Rattle.region_layout.specs.declared.directory.TablePlaces.{TablePlaces}
use Rattle.region_layout.specs.declared.directory.Directory.{Directory}
use Rattle.region_layout.specs.Directory.{IsDirectory, Joined, columns_of}
use Rattle.region_layout.specs.Region.{HasDirectory, directory_from}
use Rattle.region_layout.specs.Written.{MayBeWritten, TableFits}
use Rattle.region_reading.specs.declared.looked.Looked.{Looked}
use Rattle.region_reading.specs.Reading.{IsRead, LooksAt, StandsAt, TellsPlace}

further : (from to : ℕ) (ps : List Place) → Joined from ps to → from ≤ to
further from to [] is = omega (arith, is)
further from to (p ∷ ps) is = let more = further (from + p.length) to ps is.1 in omega (arith, more)

small_writes : (ts : List TablePlaces) → AllByRecursion TableFits ts → AllByRecursion (λ (t : TablePlaces). t.writes < 2 ^ 63) ts
small_writes [] each = tt
small_writes (t ∷ ts) each = (each.0.writes, small_writes ts each.1)

pub is_read : (place : ℕ) (d : Directory) → place < 2 ^ 64 → IsDirectory place d → MayBeWritten d → IsRead place d
is_read place d small is fits = record { small = small; itself = is; few = fits.few; writes = small_writes d.tables fits.each; log_end = fits.log_end }

letters_of : (front region : List ℕ) → front ≡ take 16 region → take 3 (drop 1 front) ≡ take 3 (drop 1 region)
letters_of front region is = ap (λ (l : List ℕ). take 3 (drop 1 l)) is ∙ ap (take 3) (drop-take 1 15 region) ∙ take-take 3 15 (drop 1 region) (omega arith)

place_of : (front region : List ℕ) → front ≡ take 16 region → from_le_bytes w64 (take 8 (drop 8 front)) ≡ directory_from region
place_of front region is = ap (λ (l : List ℕ). from_le_bytes w64 (take 8 (drop 8 l))) is ∙ ap (λ (l : List ℕ). from_le_bytes w64 (take 8 l)) (drop-take 8 8 region) ∙ ap (from_le_bytes w64) (take-take 8 8 (drop 8 region) (omega arith))

drop_suc : (n : ℕ) (l : List ℕ) → drop (suc n) l ≡ drop n (drop 1 l)
drop_suc n [] = sym (drop-nil {A = ℕ} n)
drop_suc n (x ∷ xs) = refl

-- a region that is as another was, but for its flag
module _ (region now front : List ℕ) (version : ℕ) (behind : drop 1 now ≡ drop 1 region) (opened : head_of region ≡ Version version) (front_is : front ≡ take 16 region) where
  same_len : length now ≡ length region
  same_len = let long = head_long region version opened in let size = ap (λ (l : List ℕ). length l) behind in omega (arith, long, size, length-drop 1 now, length-drop 1 region)

  bytes_are : (place : ℕ) → 16 ≤ place → drop place now ≡ drop place region
  bytes_are zero some = absurd (omega (arith, some))
  bytes_are (suc n) some = drop_suc n now ∙ ap (drop n) behind ∙ sym (drop_suc n region)

  told_by : (d : Directory) → HasDirectory version region d → TellsPlace front (directory_from region)
  told_by d has = record {
    place_is = sym (place_of front region front_is);
    behind = further 16 (directory_from region) (columns_of d) has.itself.joined;
    letters = letters_of front region front_is ∙ has.letters;
  }

  -- the head tells no place
  pub looks_none : ((place : ℕ) → TellsPlace front place → ⊥) → LooksAt version region None
  looks_none none = λ d has. none (directory_from region) (told_by d has)

  looks : (place : ℕ) (found : Option Looked) → TellsPlace front place → StandsAt place now found → LooksAt version region found
  looks place None tells stands = λ d has.
      let here = tells.place_is ∙ place_of front region front_is in
      stands d (bytes_are place tells.behind ∙ ap (λ (n : ℕ). drop n region) here ∙ has.bytes) (subst (λ (n : ℕ). IsDirectory n d) (sym here) has.itself)
  looks place (Some l) tells stands =
      let here = tells.place_is ∙ place_of front region front_is in (
        record {
          head = opened;
          letters = sym (letters_of front region front_is) ∙ tells.letters;
          bytes = ap (λ (n : ℕ). drop n region) (sym here) ∙ sym (bytes_are place tells.behind) ∙ stands.0.0;
          itself = subst (λ (n : ℕ). IsDirectory n l.directory) here stands.0.1;
        },
        stands.1 ∙ here,
        stands.2 ∙ same_len,
      )

  pub all_looks : {E : Type 0} (place : ℕ) (result : Result (Option Looked) E) → TellsPlace front place → IfOk result (StandsAt place now) → IfOk result (LooksAt version region)
  all_looks place (Ok found) tells stands = looks place found tells stands
  all_looks place (Err e) tells stands = tt
