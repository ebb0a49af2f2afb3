-- What stands in the region between the steps, and where it ends.
use Rattle.std.proofs.Common.{◌≡◌, ℕ, zero, suc, ◌+◌, ◌-◌, ◌^◌, ◌<◌, ◌≤◌, max, List, [], ◌∷◌, ◌++◌, length, take, drop, map, Ok, Err, ◌⊎◌, inl, inr, refl, sym, ap, ◌∙◌, subst, arith, append_assoc, append-nil, length-append, length-drop}
use Rattle.std.proofs.lemmas.List.{length-replicate}
use Rattle.std.specs.Prelude.{◌≢◌, replicate, fold, Result, OnErr}
use Rattle.column_bytes.specs.Coding.{joined}
use Rattle.berth_face.specs.Berth.{IsClosed}
use Rattle.region_head.specs.Head.{head_bytes}
use Rattle.region_layout.specs.Region.{layout}
use Rattle.drain_copy.specs.declared.step.Next.{Next}
use Rattle.drain_copy.specs.declared.step.Next.TheVariants as next
use Rattle.drain_copy.specs.declared.step.DrainStep.TheVariants.{Begun, Column, Directory, Finished}
use Rattle.drain_copy.specs.Draining.{DrainState, IsStep, IsStepFrom, RegionStandsAt, Draining, held, longest, image_bytes, directory_of}
use Rattle.drain_copy.specs.Regions.{EndsAt}
use Rattle.drain_copy.proofs.Closed.{flag_first}

-- ---- the parts of an image

pub image_drop : (place : ℕ) (columns : List (List ℕ)) (directory : List ℕ) → drop 16 (image_bytes place columns directory) ≡ joined columns ++ directory
unfolding image_bytes
image_drop place columns directory = refl

pub image_flag : (place : ℕ) (columns : List (List ℕ)) (directory : List ℕ) → take 1 (image_bytes place columns directory) ≡ 1 ∷ []
unfolding image_bytes
image_flag place columns directory = refl

image_front : (place : ℕ) (columns : List (List ℕ)) (directory : List ℕ)
    → drop 1 (image_bytes place columns directory) ≡ drop 1 (head_bytes layout place) ++ drop 16 (image_bytes place columns directory)
unfolding image_bytes
image_front place columns directory = refl

pub image_behind : (place : ℕ) (columns : List (List ℕ)) (directory head : List ℕ) → 1 ∷ head ≡ head_bytes layout place
    → head ++ drop 16 (image_bytes place columns directory) ≡ drop 1 (image_bytes place columns directory)
image_behind place columns directory head is = ap (λ (l : List ℕ). drop 1 l ++ drop 16 (image_bytes place columns directory)) is ∙ sym (image_front place columns directory)

pub image_length : (place : ℕ) (columns : List (List ℕ)) (directory : List ℕ) → length (image_bytes place columns directory) ≡ 16 + length (joined columns) + length directory
unfolding image_bytes
image_length place columns directory = omega (arith, length-append (joined columns) directory)

-- ---- what stands behind a step

pub stands_column : (image column : List ℕ) (rest : List (List ℕ)) (region now : List ℕ) → RegionStandsAt next.Copy image (column ∷ rest) region → now ≡ region ++ column → RegionStandsAt next.Copy image rest now
stands_column image column rest region now stands is =
    subst (RegionStandsAt next.Copy image rest) (sym is)
    (omega (arith, stands.0, length-append region column), ap (λ (l : List ℕ). l ++ directory_of image) (append_assoc region column (joined rest)) ∙ stands.1)

-- ---- where the region ends

first_of : (rest behind whole : List ℕ) → (region : List ℕ) → 16 ≤ length region → (region ++ rest) ++ behind ≡ replicate 16 0 ++ whole → take 1 region ≡ 0 ∷ []
first_of rest behind whole [] long e = absurd (omega (arith, long))
first_of rest behind whole (x ∷ xs) long e = ap (take 1) e

pub ends_at : (at : ℕ) (image : List ℕ) (heap : List (List ℕ)) (region : List ℕ) → 16 ≤ length image → at + length (joined heap) + length (directory_of image) ≡ length image
    → RegionStandsAt next.Copy image heap region → EndsAt at region
ends_at at image heap region long place stands =
    let lengths : length ((region ++ joined heap) ++ directory_of image) ≡ length (replicate 16 0 ++ drop 16 image) = ap (λ (l : List ℕ). length l) stands.1 in (
      omega (arith, long, place, lengths, length-append (region ++ joined heap) (directory_of image), length-append region (joined heap), length-append (replicate 16 0) (drop 16 image), length-replicate {A = ℕ} 16 0, length-drop 16 image),
      first_of (joined heap) (directory_of image) (drop 16 image) region stands.0 stands.1,
    )

-- ---- how long the region is

long_by : (n : Next) (image : List ℕ) (heap : List (List ℕ)) (region : List ℕ) → 16 ≤ length image → n ≢ next.Begin → RegionStandsAt n image heap region → length region + length (joined heap) ≤ length image
long_by next.Begin image heap region long later stands = absurd (later refl)
long_by next.Copy image heap region long later stands =
    let lengths : length ((region ++ joined heap) ++ directory_of image) ≡ length (replicate 16 0 ++ drop 16 image) = ap (λ (l : List ℕ). length l) stands.1 in
    omega (arith, long, lengths, length-append (region ++ joined heap) (directory_of image), length-append region (joined heap), length-append (replicate 16 0) (drop 16 image), length-replicate {A = ℕ} 16 0, length-drop 16 image)
long_by next.Flag image heap region long later stands =
    let all : length region ≡ suc (length (drop 1 image)) = ap (λ (l : List ℕ). length l) stands.0 in
    let none : length (joined heap) ≡ 0 = ap (λ (l : List (List ℕ)). length (joined l)) stands.1 in
    omega (arith, long, all, none, length-drop 1 image)
long_by next.Nothing image heap region long later stands =
    let all : length region ≡ length image = ap (λ (l : List ℕ). length l) stands.0 in
    let none : length (joined heap) ≡ 0 = ap (λ (l : List (List ℕ)). length (joined l)) stands.1 in
    omega (arith, all, none)

pub long_enough : (d : DrainState) (region : List ℕ) → 16 ≤ length d.image → d.next ≢ next.Begin → Draining d region → length region + held d ≤ length d.image
long_enough d region long later stands = long_by d.next d.image d.heap region long later stands

-- ---- the longest column

fold_grows : (n : ℕ) (lengths : List ℕ) → n ≤ fold max n lengths
fold_grows n [] = omega arith
fold_grows n (x ∷ xs) = let more = fold_grows (max n x) xs in omega (arith, more)

pub first_fits : (column : List ℕ) (rest : List (List ℕ)) → length column ≤ longest (column ∷ rest)
first_fits column rest = let more = fold_grows (max 0 (length column)) (map (λ (c : List ℕ). length c) rest) in omega (arith, more)

-- ---- how much is held

pub fewer_held : (made : ℕ) (columns : List (List ℕ)) → length (joined (drop made columns)) ≤ length (joined columns)
fewer_held zero columns = omega arith
fewer_held (suc made) [] = omega arith
fewer_held (suc made) (column ∷ columns) = let more = fewer_held made columns in omega (arith, more, length-append column (joined columns))

pub whole_image : (place : ℕ) (planned heap : List (List ℕ)) (directory : List ℕ) → heap ≡ planned → directory_of (image_bytes place planned directory) ≡ directory
    → joined heap ++ directory_of (image_bytes place planned directory) ≡ drop 16 (image_bytes place planned directory)
whole_image place planned heap directory same behind =
    ap (λ (columns : List (List ℕ)). joined columns ++ directory_of (image_bytes place planned directory)) same ∙ ap (λ (d : List ℕ). joined planned ++ d) behind ∙ sym (image_drop place planned directory)

pub held_fits : (place made held : ℕ) (planned heap : List (List ℕ)) → place ≡ 16 + length (joined planned) → heap ≡ drop made planned → held ≡ length (joined heap) → 16 + held ≤ place
held_fits place made held planned heap is left same =
    let few : length (joined heap) ≤ length (joined planned) = subst (λ (h : List (List ℕ)). length (joined h) ≤ length (joined planned)) (sym left) (fewer_held made planned) in
    omega (arith, is, same, few)

pub short_image : (place : ℕ) (planned : List (List ℕ)) (directory : List ℕ) → place ≡ 16 + length (joined planned) → place + length directory < 2 ^ 63 → length (image_bytes place planned directory) < 2 ^ 63
short_image place planned directory is fits = omega (arith, image_length place planned directory, is, fits)

pub ends_where : (place held n : ℕ) (planned heap : List (List ℕ)) (directory : List ℕ) → place ≡ 16 + length (joined planned) → held ≡ length (joined heap) → 16 + held ≤ place → n ≡ place - held
    → directory_of (image_bytes place planned directory) ≡ directory → n + length (joined heap) + length (directory_of (image_bytes place planned directory)) ≡ length (image_bytes place planned directory)
ends_where place held n planned heap directory is same fits at behind =
    let all = image_length place planned directory in
    let rest : length (directory_of (image_bytes place planned directory)) ≡ length directory = ap (λ (l : List ℕ). length l) behind in
    omega (arith, all, rest, is, same, fits, at)

-- ---- of a drain

copying : (d : DrainState) (region : List ℕ) → d.next ≡ next.Copy → Draining d region → RegionStandsAt next.Copy d.image d.heap region
copying d region copies stands = subst (λ (n : Next). RegionStandsAt n d.image d.heap region) copies stands

pub copy_ends : (d : DrainState) (at : ℕ) (region : List ℕ) → d.next ≡ next.Copy → at + held d + length (directory_of d.image) ≡ length d.image → 16 ≤ at → Draining d region → EndsAt at region
copy_ends d at region copies place head stands = ends_at at d.image d.heap region (omega (arith, place, head)) place (copying d region copies stands)

draining_by : (d : DrainState) (n : Next) (image : List ℕ) (heap : List (List ℕ)) (region : List ℕ) → d.next ≡ n → d.image ≡ image → d.heap ≡ heap → RegionStandsAt n image heap region → Draining d region
draining_by d n image heap region at same columns stands =
    subst (λ (k : Next). RegionStandsAt k d.image d.heap region) (sym at) (subst (λ (i : List ℕ). RegionStandsAt n i d.heap region) (sym same) (subst (λ (h : List (List ℕ)). RegionStandsAt n image h region) (sym columns) stands))

pub column_told : (d later : DrainState) (column region now : List ℕ) → d.next ≡ next.Copy → later.next ≡ d.next → later.image ≡ d.image → d.heap ≡ column ∷ later.heap → Draining d region → now ≡ region ++ column → Draining later now
column_told d later column region now copies same_next same heap stands is =
    let before : RegionStandsAt next.Copy d.image (column ∷ later.heap) region = subst (λ (h : List (List ℕ)). RegionStandsAt next.Copy d.image h region) heap (copying d region copies stands) in
    draining_by later next.Copy d.image later.heap now (same_next ∙ copies) same refl (stands_column d.image column later.heap region now before is)

pub directory_told : (d later : DrainState) (head directory region now : List ℕ) → d.next ≡ next.Copy → d.heap ≡ [] → later.next ≡ next.Flag → later.image ≡ d.image → later.heap ≡ []
    → directory ≡ directory_of d.image → head ++ drop 16 d.image ≡ drop 1 d.image → Draining d region → now ≡ 0 ∷ (head ++ drop 16 (region ++ directory)) → Draining later now
directory_told d later head directory region now copies none at same empty behind is stands now_is =
    let before : RegionStandsAt next.Copy d.image [] region = subst (λ (h : List (List ℕ)). RegionStandsAt next.Copy d.image h region) none (copying d region copies stands) in
    let whole : region ++ directory ≡ replicate 16 0 ++ drop 16 d.image = ap (λ (l : List ℕ). region ++ l) behind ∙ ap (λ (l : List ℕ). l ++ directory_of d.image) (sym (append-nil region)) ∙ before.1 in
    let rest : drop 16 (region ++ directory) ≡ drop 16 d.image = ap (drop 16) whole in
    draining_by later next.Flag d.image [] now at same empty (now_is ∙ ap (λ (l : List ℕ). 0 ∷ (head ++ l)) rest ∙ ap (λ (l : List ℕ). 0 ∷ l) is, refl)

pub begun_told : (d later : DrainState) (now : List ℕ) → later.next ≡ next.Copy → later.image ≡ d.image → later.heap ≡ d.heap → joined d.heap ++ directory_of d.image ≡ drop 16 d.image → now ≡ replicate 16 0 → Draining later now
begun_told d later now at same columns whole is =
    let all : (replicate 16 0 ++ joined d.heap) ++ directory_of d.image ≡ replicate 16 0 ++ drop 16 d.image =
    append_assoc (replicate 16 0) (joined d.heap) (directory_of d.image) ∙ ap (λ (l : List ℕ). replicate 16 0 ++ l) whole in
    draining_by later next.Copy d.image d.heap now at same columns
    (subst (RegionStandsAt next.Copy d.image d.heap) (sym is) (omega (arith, length-replicate {A = ℕ} 16 0), all))

flagged : (d : DrainState) (region : List ℕ) → d.next ≡ next.Flag → Draining d region → RegionStandsAt next.Flag d.image d.heap region
flagged d region at stands = subst (λ (n : Next). RegionStandsAt n d.image d.heap region) at stands

pub flag_behind : (d : DrainState) (region : List ℕ) → d.next ≡ next.Flag → Draining d region → region ≡ 0 ∷ drop 1 d.image
flag_behind d region at stands = (flagged d region at stands).0

pub opened_is : (d : DrainState) (region now : List ℕ) → take 1 d.image ≡ 1 ∷ [] → d.next ≡ next.Flag → Draining d region → now ≡ 1 ∷ drop 1 region → now ≡ d.image
opened_is d region now flag at stands is = is ∙ ap (λ (l : List ℕ). 1 ∷ drop 1 l) (flag_behind d region at stands) ∙ flag_first d.image flag

pub opened_told : (d later : DrainState) (region now : List ℕ) → take 1 d.image ≡ 1 ∷ [] → d.next ≡ next.Flag → later.next ≡ next.Nothing → later.image ≡ d.image → later.heap ≡ d.heap → Draining d region
    → now ≡ 1 ∷ drop 1 region → Draining later now
opened_told d later region now flag at after same columns stands is =
    draining_by later next.Nothing d.image d.heap now after same columns (opened_is d region now flag at stands is, (flagged d region at stands).1)

-- ---- how long the region is meanwhile

pub column_in_room : (d : DrainState) (column : List ℕ) (rest : List (List ℕ)) (at n : ℕ) → d.heap ≡ column ∷ rest → at + held d + length (directory_of d.image) ≡ length d.image → n ≡ length column
    → (at + n) + held d ≤ length d.image + longest d.heap
column_in_room d column rest at n heap place is =
    let fits : length column ≤ longest d.heap = subst (λ (h : List (List ℕ)). length column ≤ longest h) (sym heap) (first_fits column rest) in
    omega (arith, fits, place, is)

pub directory_in_room : (d : DrainState) (at n : ℕ) → at + held d + length (directory_of d.image) ≡ length d.image → n ≡ length (directory_of d.image) → (at + n) + held d ≤ length d.image + longest d.heap
directory_in_room d at n place is = omega (arith, place, is)

pub flag_length : (d : DrainState) (region : List ℕ) → 16 ≤ length d.image → d.next ≡ next.Flag → Draining d region → length region ≡ length d.image
flag_length d region long at stands =
    let all : length region ≡ suc (length (drop 1 d.image)) = ap (λ (l : List ℕ). length l) (flag_behind d region at stands) in
    omega (arith, long, all, length-drop 1 d.image)

pub flag_in_room : (d : DrainState) (region : List ℕ) → 16 ≤ length d.image → d.next ≡ next.Flag → Draining d region → length region + held d ≤ length d.image + longest d.heap
flag_in_room d region long at stands =
    let none : held d ≡ 0 = ap (λ (h : List (List ℕ)). length (joined h)) (flagged d region at stands).1 in
    omega (arith, flag_length d region long at stands, none)

-- ---- behind a step

pub later_copy : (later : DrainState) → later.next ≡ next.Copy → later.next ≢ next.Begin
later_copy later is = λ begin. absurd (copy_begin (sym is ∙ begin))
  where
    copy_begin : next.Copy ≡ next.Begin → ⊥
    copy_begin e = absurd cc

pub later_flag : (later : DrainState) → later.next ≡ next.Flag → later.next ≢ next.Begin
later_flag later is = λ begin. absurd (flag_begin (sym is ∙ begin))
  where
    flag_begin : next.Flag ≡ next.Begin → ⊥
    flag_begin e = absurd cc

pub later_nothing : (later : DrainState) → later.next ≡ next.Nothing → later.next ≢ next.Begin
later_nothing later is = λ begin. absurd (nothing_begin (sym is ∙ begin))
  where
    nothing_begin : next.Nothing ≡ next.Begin → ⊥
    nothing_begin e = absurd cc

-- ---- which step it was

pub column_step : (d later : DrainState) (column : List ℕ) (n : ℕ) → d.next ≡ next.Copy → later.next ≡ d.next → later.image ≡ d.image → d.heap ≡ column ∷ later.heap → n ≡ length column → IsStep d (Column n) later
column_step d later column n copies same_next same heap is = record {
  image = same;
  step = subst (λ (k : Next). IsStepFrom k d.heap (Column n) later.next later.heap) (sym copies)
      (subst (λ (h : List (List ℕ)). IsStepFrom next.Copy h (Column n) later.next later.heap) (sym heap) (ap (λ (k : ℕ). Column k) is, same_next ∙ copies, refl));
}

pub directory_step : (d later : DrainState) → d.next ≡ next.Copy → later.next ≡ next.Flag → later.image ≡ d.image → d.heap ≡ [] → later.heap ≡ [] → IsStep d Directory later
directory_step d later copies at same none empty = record {
  image = same;
  step = subst (λ (k : Next). IsStepFrom k d.heap Directory later.next later.heap) (sym copies)
      (subst (λ (h : List (List ℕ)). IsStepFrom next.Copy h Directory later.next later.heap) (sym none) (refl, at, empty));
}

pub begun_step : (d later : DrainState) → d.next ≡ next.Begin → later.next ≡ next.Copy → later.image ≡ d.image → later.heap ≡ d.heap → IsStep d Begun later
begun_step d later begins at same columns = record { image = same; step = subst (λ (k : Next). IsStepFrom k d.heap Begun later.next later.heap) (sym begins) (refl, at, columns) }

pub opened_step : (d later : DrainState) → d.next ≡ next.Flag → later.next ≡ next.Nothing → later.image ≡ d.image → later.heap ≡ d.heap → IsStep d Finished later
opened_step d later flags at same columns = record { image = same; step = subst (λ (k : Next). IsStepFrom k d.heap Finished later.next later.heap) (sym flags) (refl, at, columns) }

-- ---- answers

pub on_err : {T E : Type 0} (r : Result T E) (X : Type 0) → X → OnErr r X
on_err (Ok x) X it = tt
on_err (Err e) X it = it

pub opened_or_shut : (d : DrainState) (region now : List ℕ) → take 1 d.image ≡ 1 ∷ [] → d.next ≡ next.Flag → Draining d region → IsClosed now ⊎ (now ≡ 1 ∷ drop 1 region) → IsClosed now ⊎ (now ≡ d.image)
opened_or_shut d region now flag at stands (inl shut) = inl shut
opened_or_shut d region now flag at stands (inr opened) = inr (opened_is d region now flag at stands opened)

drop_more : (n : ℕ) (columns : List (List ℕ)) → drop 1 (drop n columns) ≡ drop (suc n) columns
drop_more zero columns = refl
drop_more (suc n) [] = refl
drop_more (suc n) (column ∷ columns) = drop_more n columns

pub left_behind : (column : List ℕ) (rest heap planned : List (List ℕ)) (made : ℕ) → heap ≡ column ∷ rest → heap ≡ drop made planned → (x : ℕ) × (rest ≡ drop x planned)
left_behind column rest heap planned made is left = (suc made, sym (ap (drop 1) is) ∙ ap (drop 1) left ∙ drop_more made planned)

pub less_held : (column : List ℕ) (rest heap : List (List ℕ)) (held n : ℕ) → heap ≡ column ∷ rest → held ≡ length (joined heap) → n ≡ length column → held - n ≡ length (joined rest)
less_held column rest heap held n is all first =
    let whole : length (joined heap) ≡ length (column ++ joined rest) = ap (λ (h : List (List ℕ)). length (joined h)) is in
    omega (arith, whole, all, first, length-append column (joined rest))
