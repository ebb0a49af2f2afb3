-- What a step answers that takes a column.
use Rattle.std.proofs.Common.{◌≡◌, true, ℕ, suc, ◌+◌, ◌<◌, ◌≤◌, ◌^◌, List, [], ◌∷◌, ◌++◌, length, take, reverse, Some, None, Result, Ok, Err, sym, ap, subst, ◌∙◌, arith}
use Rattle.column_bytes.specs.Column.{kind_in}
use Rattle.berth_face.specs.Berth.{IsClosed}
use Rattle.region_layout.specs.declared.directory.Directory.{Directory}
use Rattle.region_layout.specs.Region.{allows}
use Rattle.adopt.specs.declared.spans.Span.{Span}
use Rattle.region_reading.specs.declared.fault.AdoptFault.{AdoptFault}
use Rattle.region_reading.specs.declared.fault.AdoptFault.TheVariants.{RegionFault, NoMemory}
use Rattle.adopt.specs.declared.found.AdoptStep.{AdoptStep}
use Rattle.adopt.specs.Adopting.{Adopting, AdoptsOn, IsInImage, IsLeftBehind, IsNoImage}
use Rattle.adopt.specs.Finding.{TakesSpan}
use Rattle.adopt.specs.Taken.{AdoptState, KeepsTrack, span_bytes, spans_of}
use Rattle.adopt.proofs.Columns.{bytes_last}
use Rattle.adopt.specs.Adopting.{BreaksNow, NextMeansCells}
use Rattle.adopt.proofs.Taking.{taken_breaks, taken_means, count_last, cut_left, taken_closed, taken_inside, taken_left, taken_none, taken_on}
use Rattle.adopt.proofs.Tracking.{put_first}

-- the sum of what is held and of a column fits
pub held_fits : (names : List (List ℕ)) (d : Directory) (place held n : ℕ) (all init : List Span) (s : Span) (heap : List (List ℕ)) → KeepsTrack names d place all heap held → all ≡ init ++ s ∷ [] → n ≤ s.length → held + n < 2 ^ 64
held_fits names d place held n all init s heap kept split short =
    let fits = kept.fits in
    let small = kept.read.small in
    let total = ap span_bytes split ∙ bytes_last init s in
    omega (arith, fits, small, total, short)

module _ (names : List (List ℕ)) (version image_len : ℕ) (d : Directory) (place held : ℕ) (all init : List Span) (s : Span) (taken : List (List ℕ))
    (kept : KeepsTrack names d place all (reverse taken) held) (split : all ≡ init ++ s ∷ []) where
  abbrev pub state : AdoptState
  state = record { names = names; version = version; image_len = image_len; directory = d; left = length all; heap = reverse taken }

  front : init ++ s ∷ [] ≡ take (length (init ++ s ∷ [])) (spans_of d)
  front = subst (λ (l : List Span). l ≡ take (length l) (spans_of d)) split kept.front

  left : length all ≡ length (init ++ s ∷ [])
  left = ap length split

  module _ (region old new : List ℕ) (adopting : Adopting region state old) where
    closed : IsClosed old
    closed = taken_closed region old state adopting init s front left

    pub column_fails : (result : Result AdoptStep AdoptFault) (e : AdoptFault) → result ≡ Err e → (IsClosed old → TakesSpan version s old new (Err e)) → AdoptsOn region state new result
    column_fails result RegionFault is takes = subst (AdoptsOn region state new) (sym is) (takes closed)
    column_fails result NoMemory is takes =
        subst (AdoptsOn region state new) (sym is) (subst (IsLeftBehind region) (sym (takes closed)) (taken_left region old state adopting init s front left))

    pub column_none : (IsClosed old → TakesSpan version s old new (Ok None)) → BreaksNow region state × IsNoImage region × IsLeftBehind region new
    column_none takes = (
      taken_breaks region old state adopting init s front left (takes closed).0,
      taken_none region old state adopting init s front left (takes closed).0,
      subst (IsLeftBehind region) (sym (takes closed).1) (taken_left region old state adopting init s front left),
    )

    pub put_fails : (result : Result AdoptStep AdoptFault) (bytes : List ℕ) → result ≡ Err NoMemory → (IsClosed old → TakesSpan version s old new (Ok (Some bytes))) → AdoptsOn region state new result
    put_fails result bytes is takes = subst (AdoptsOn region state new) (sym is) (cut_left region old state adopting init s front left new (takes closed).1)

    pub column_taken : (bytes : List ℕ) (now : List (List ℕ)) (b : AdoptState) → (IsClosed old → TakesSpan version s old new (Ok (Some bytes))) → now ≡ taken ++ bytes ∷ []
        → b ≡ record { names = names; version = version; image_len = image_len; directory = d; left = length init; heap = reverse now } → Adopting region b new × (suc (length init) ≡ length all) × IsInImage b new × NextMeansCells region state
    column_taken bytes now b takes put later =
        let own = later ∙ ap (λ (h : List (List ℕ)). record { names = names; version = version; image_len = image_len; directory = d; left = length init; heap = h }) (put_first taken now bytes put) in
        let got = takes closed in
        let kind = subst (λ (l : List ℕ). allows version (kind_in l) ≡ true) (sym got.0) got.2.1 in (
          taken_on region old state adopting init s front left new bytes b got.0 got.1 kind own,
          sym (left ∙ count_last init s),
          taken_inside region old state adopting init s front left new bytes b got.0 got.1 kind own,
          taken_means region old state adopting init s front left got.2,
        )
