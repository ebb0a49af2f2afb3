-- A column is taken off a region.
use Rattle.std.proofs.Common.{List, Option, Some, [], ℕ, ◌++◌, ◌+◌, ◌-◌, ◌∙◌, ◌∷◌, ◌≡◌, ◌≤◌, ap, append_assoc, ap₂, arith, drop, get_or, inr, length, length-append, length-take, map, refl, subst, suc, sym, take, take-append-drop, true}
use Rattle.std.proofs.lemmas.List.{drop-take, take-take}
use Rattle.column_bytes.specs.Coding.{joined}
use Rattle.column_bytes.specs.Column.{kind_in}
use Rattle.berth_face.specs.Berth.{IsClosed}
use Rattle.region_layout.specs.declared.directory.Place.{Place}
use Rattle.region_layout.specs.Directory.{columns_of}
use Rattle.region_layout.specs.Region.{MeanIn, allows, column_in, directory_from}
use Rattle.std.specs.Prelude.{IfSome, slice_get}
use Rattle.adopt.specs.Adopting.{Adopting, BreaksNow, IsInImage, IsLeftBehind, IsNoImage, NextMeansCells, cut_at, next_span}
use Rattle.adopt.specs.declared.spans.Span.{Span}
use Rattle.adopt.specs.Finding.{bytes_at}
use Rattle.region_head.specs.Closing.{closed_flag}
use Rattle.adopt.specs.Taken.{AdoptState, spans_of}
use Rattle.adopt.proofs.Meanings.{no_cells}
use Rattle.region_head.proofs.Heads.{head_long}
use Rattle.adopt.proofs.Heads.{behind_flag, closed_size, left_cut}
use Rattle.region_head.proofs.Closing.{cut_closed, flag_closed}
use Rattle.adopt.proofs.Reading.{directory_inside}
use Rattle.adopt.proofs.Columns.{JoinedSpans, Stands, held_behind, at_split, past_split, from_split, behind_split, joined_short, places, same_all, same_bytes, same_joined, same_places, span_in, stands}

-- the first columns of a list, and those behind them
pub split_of : (all init : List Span) (s : Span) → init ++ s ∷ [] ≡ take (length (init ++ s ∷ [])) all → all ≡ init ++ s ∷ drop (length (init ++ s ∷ [])) all
split_of all init s front =
    let n = length (init ++ s ∷ []) in
    sym (take-append-drop n all) ∙ ap (λ (l : List Span). l ++ drop n all) (sym front) ∙ append_assoc init (s ∷ []) (drop n all)

pub count_last : (init : List Span) (s : Span) → length (init ++ s ∷ []) ≡ suc (length init)
count_last [] s = refl
count_last (x ∷ init) s = ap suc (count_last init s)

-- what is held and what is left of the region are no longer than the image
pub begins_inside : (region now : List ℕ) (a : AdoptState) → Adopting region a now → IsInImage a now
begins_inside region now a adopting =
    let place = directory_from region in
    let spans = spans_of a.directory in
    let same = same_all a.directory in
    let all_joined : JoinedSpans 16 spans place = same_joined 16 place spans (columns_of a.directory) same adopting.has.itself.joined in
    let cut_is : cut_at a region ≡ get_or (places spans) a.left place = ap (λ (l : List ℕ). get_or l a.left place) (same_places spans (columns_of a.directory) same) in
    let heap_is : a.heap ≡ drop a.left (map (span_in region) spans) = adopting.heap ∙ ap (λ (l : List (List ℕ)). drop a.left l) (same_bytes region spans (columns_of a.directory) same) in
    let heap : length (joined a.heap) ≡ length (joined (drop a.left (map (span_in region) spans))) = ap (λ (l : List (List ℕ)). length (joined l)) heap_is in
    let both = held_behind region a.left 16 place spans all_joined in
    let cut : length now ≡ length (take (cut_at a region) (closed_flag region)) = ap (λ (l : List ℕ). length l) adopting.rest in
    let size = length-take (cut_at a region) (closed_flag region) in
    let len = adopting.len in
    let inside = directory_inside a.version region a.directory adopting.has in
    omega (arith, cut_is, heap, both, cut, size, len, inside)

span_there : (init : List Span) (s : Span) (rest : List Span) → slice_get (init ++ s ∷ rest) (length init) ≡ Some s
span_there [] s rest = refl
span_there (t ∷ init) s rest = span_there init s rest

-- Of an image so much was taken that this column is the last one left.
module _ (region now : List ℕ) (a : AdoptState) (adopting : Adopting region a now) (init : List Span) (s : Span)
    (front : init ++ s ∷ [] ≡ take (length (init ++ s ∷ [])) (spans_of a.directory)) (left : a.left ≡ length (init ++ s ∷ [])) where
  abbrev rest : List Span
  rest = drop (length (init ++ s ∷ [])) (spans_of a.directory)

  abbrev place : ℕ
  place = directory_from region

  split : spans_of a.directory ≡ init ++ s ∷ rest
  split = split_of (spans_of a.directory) init s front

  long : 16 ≤ length region
  long = head_long region a.version adopting.has.head

  size : length (closed_flag region) ≡ length region
  size = closed_size region long

  inside : place ≤ length region
  inside = directory_inside a.version region a.directory adopting.has

  all_joined : JoinedSpans 16 (init ++ s ∷ rest) place
  all_joined = subst (λ (l : List Span). JoinedSpans 16 l place) split (same_joined 16 place (spans_of a.directory) (columns_of a.directory) (same_all a.directory) adopting.has.itself.joined)

  there : Stands s rest 16 place
  there = stands 16 place init s rest all_joined

  places_are : map (λ (p : Place). p.place) (columns_of a.directory) ≡ places (init ++ s ∷ rest)
  places_are = same_places (spans_of a.directory) (columns_of a.directory) (same_all a.directory) ∙ ap places split

  bytes_are : map (λ (p : Place). (column_in region p).bytes) (columns_of a.directory) ≡ map (span_in region) (init ++ s ∷ rest)
  bytes_are = same_bytes region (spans_of a.directory) (columns_of a.directory) (same_all a.directory) ∙ ap (map (span_in region)) split

  count : a.left ≡ suc (length init)
  count = left ∙ count_last init s

  cut_is : cut_at a region ≡ s.place + s.length
  cut_is =
      ap₂ (λ (l : List ℕ) (n : ℕ). get_or l n place) places_are count
      ∙ past_split (λ (t : Span). t.place) place init s rest ∙ sym there.ends

  now_is : now ≡ take (s.place + s.length) (closed_flag region)
  now_is = adopting.rest ∙ ap (λ (n : ℕ). take n (closed_flag region)) cut_is

  pub taken_closed : IsClosed now
  taken_closed = subst IsClosed (sym now_is) (cut_closed (s.place + s.length) (closed_flag region) (flag_closed _))

  pub taken_left : IsLeftBehind region now
  taken_left = subst (IsLeftBehind region) (sym now_is) (left_cut (s.place + s.length) region a.version (let begins = there.begins in omega (arith, begins)) adopting.has.head)

  cut_now : take s.place now ≡ take s.place (closed_flag region)
  cut_now = ap (take s.place) now_is ∙ take-take s.place (s.place + s.length) (closed_flag region) (omega arith)

  pub cut_left : (new : List ℕ) → new ≡ take s.place now → IsLeftBehind region new
  cut_left new is = subst (IsLeftBehind region) (sym (is ∙ cut_now)) (left_cut s.place region a.version there.begins adopting.has.head)

  pub bytes_is : bytes_at now s ≡ span_in region s
  bytes_is =
      let begins = there.begins in
      let back : s.length ≡ s.place + s.length - s.place = omega arith in
      ap (λ (l : List ℕ). take s.length (drop s.place l)) now_is
      ∙ ap (take s.length) (drop-take s.place s.length (closed_flag region))
      ∙ take-take s.length s.length (drop s.place (closed_flag region)) (omega arith)
      ∙ ap (take s.length) (behind_flag s.place region (omega (arith, begins)) long)
      ∙ ap (λ (n : ℕ). take n (drop s.place region)) back

  pub taken_none : (MeanIn a.version (bytes_at now s) s.rows → ⊥) → IsNoImage region
  taken_none fails =
      no_cells a.version region a.directory init s rest adopting.has split (λ means. fails (subst (λ (l : List ℕ). MeanIn a.version l s.rows) (sym bytes_is) means))

  next_is : next_span a ≡ Some s
  next_is =
      let last : a.left - 1 ≡ length init = omega (arith, left, length-append init (s ∷ [])) in
      ap₂ (λ (l : List Span) (n : ℕ). slice_get l n) split last ∙ span_there init s rest

  bytes_there : bytes_at now s ≡ bytes_at region s
  bytes_there = let back : s.place + s.length - s.place ≡ s.length = omega arith in bytes_is ∙ ap (λ (n : ℕ). take n (drop s.place region)) back

  means_there : MeanIn a.version (bytes_at now s) s.rows → MeanIn a.version (bytes_at region s) s.rows
  means_there means = subst (λ (l : List ℕ). MeanIn a.version l s.rows) bytes_there means

  pub taken_means : MeanIn a.version (bytes_at now s) s.rows → NextMeansCells region a
  taken_means means = subst (λ (o : Option Span). IfSome o (λ t. MeanIn a.version (bytes_at region t) t.rows)) (sym next_is) (means_there means)

  pub taken_breaks : (MeanIn a.version (bytes_at now s) s.rows → ⊥) → BreaksNow region a
  taken_breaks fails =
      inr (
        omega (arith, left, length-append init (s ∷ [])),
        λ means. fails (subst (λ (l : List ℕ). MeanIn a.version l s.rows) (sym bytes_there) (subst (λ (o : Option Span). IfSome o (λ t. MeanIn a.version (bytes_at region t) t.rows)) next_is means)),
      )

  behind_is : a.heap ≡ map (span_in region) rest
  behind_is = adopting.heap ∙ ap₂ (λ (n : ℕ) (l : List (List ℕ)). drop n l) count bytes_are ∙ behind_split (span_in region) init s rest

  -- what is then known of it, with its bytes on the heap
  module _ (new bytes : List ℕ) (b : AdoptState) (bytes_read : bytes ≡ bytes_at now s) (cut : new ≡ take s.place now) (kind : allows a.version (kind_in bytes) ≡ true)
      (later : b ≡ record { names = a.names; version = a.version; image_len = a.image_len; directory = a.directory; left = length init; heap = bytes ∷ a.heap }) where
    heap_is : bytes ∷ a.heap ≡ map (span_in region) (s ∷ rest)
    heap_is = ap₂ (λ (x : List ℕ) (l : List (List ℕ)). x ∷ l) (bytes_read ∙ bytes_is) behind_is

    abbrev made : AdoptState
    made = record { names = a.names; version = a.version; image_len = a.image_len; directory = a.directory; left = length init; heap = bytes ∷ a.heap }

    made_on : Adopting region made new
    made_on = record {
      reads_it = adopting.reads_it;
      has = adopting.has;
      known = adopting.known;
      len = adopting.len;
      few = let few = adopting.few in omega (arith, few, count);
      kinds = (kind, adopting.kinds);
      heap = heap_is ∙ sym (ap (drop (length init)) bytes_are ∙ from_split (span_in region) init s rest);
      rest = cut ∙ cut_now
          ∙ ap (λ (n : ℕ). take n (closed_flag region)) (sym (ap (λ (l : List ℕ). get_or l (length init) place) places_are ∙ at_split (λ (t : Span). t.place) place init s rest));
    }

    made_inside : IsInImage made new
    made_inside =
        let heap : length (joined (bytes ∷ a.heap)) ≡ length (joined (map (span_in region) (s ∷ rest))) = ap (λ (l : List (List ℕ)). length (joined l)) heap_is in
        let short = joined_short region (s ∷ rest) in
        let cut_size : length new ≡ length (take s.place (closed_flag region)) = ap length (cut ∙ cut_now) in
        let taken = length-take s.place (closed_flag region) in
        let total = there.total in
        let len = adopting.len in
        omega (arith, heap, short, cut_size, taken, total, len, inside)

    pub taken_on : Adopting region b new
    taken_on = subst (λ (c : AdoptState). Adopting region c new) (sym later) made_on

    pub taken_inside : IsInImage b new
    taken_inside = subst (λ (c : AdoptState). IsInImage c new) (sym later) made_inside
