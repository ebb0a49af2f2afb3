-- What a look finds behind a flag that it has closed.
use Rattle.std.proofs.Common.{◌≡◌, ℕ, true, List, [], length, map, take, Some, None, Ok, refl, sym, ap, ap₂, subst, ◌∙◌, arith, length-take}
use Rattle.std.proofs.lemmas.List.{drop_all, get_or_past, length-map}
use Rattle.std.proofs.Math.Seq.{take-length}
use Rattle.column_bytes.specs.Coding.{joined}
use Rattle.region_head.specs.declared.head.Head.{Head}
use Rattle.region_head.specs.declared.head.Head.TheVariants as head
use Rattle.region_head.specs.Head.{head_of}
use Rattle.region_layout.specs.declared.directory.Place.{Place}
use Rattle.region_layout.specs.Directory.{columns_of}
use Rattle.region_layout.specs.Region.{HasDirectory, column_in, directory_from, reads}
use Rattle.adopt.specs.declared.spans.Span.{Span}
use Rattle.region_reading.specs.declared.looked.Looked.{Looked}
use Rattle.adopt.specs.declared.found.Found.TheVariants as found
use Rattle.adopt.specs.Adopting.{Adopting, Finds, IsInImage, HasNoDirectory, IsLeftBehind}
use Rattle.region_strangers.specs.Strangers.{stranger_of}
use Rattle.region_reading.specs.Reading.{IsRead, LooksAt}
use Rattle.region_head.proofs.Heads.{head_long}
use Rattle.region_head.specs.Closing.{closed_flag}
use Rattle.adopt.specs.Taken.{AdoptState, KeepsTrack, span_bytes, spans_of}
use Rattle.adopt.proofs.Columns.{same_all, same_count}
use Rattle.adopt.proofs.Heads.{closed_size, left_closed}
use Rattle.adopt.proofs.Known.{all_among}
use Rattle.region_strangers.proofs.First.{names_of}
use Rattle.adopt.proofs.Reading.{directory_behind}

one_version : (region : List ℕ) (v w : ℕ) → head_of region ≡ head.Version v → head_of region ≡ head.Version w → v ≡ w
one_version region v w e f = ap version (sym e ∙ f)
  where
    version : Head → ℕ
    version head.NoHead = 0
    version (head.Closed flag) = 0
    version (head.Version n) = n

-- without a directory of its version a region has none
pub no_directory : (region : List ℕ) (version : ℕ) → head_of region ≡ head.Version version → LooksAt version region None → HasNoDirectory region
no_directory region version opened none other d has =
    none d (subst (λ (v : ℕ). HasDirectory v region d) (one_version region other version has.head opened) has)

-- the region after its flag was closed is what a look leaves behind
pub left_as : (region now : List ℕ) (version : ℕ) → head_of region ≡ head.Version version → now ≡ closed_flag region → IsLeftBehind region now
left_as region now version opened closed = subst (IsLeftBehind region) (sym closed) (left_closed region version opened)

pub none_found : (names : List (List ℕ)) (region now : List ℕ) (version : ℕ) → head_of region ≡ head.Version version → now ≡ closed_flag region → reads version ≡ true → LooksAt version region None → Finds names region now (Ok found.NoImage)
none_found names region now version opened closed read none = ((version, opened, read), no_directory region version opened none, left_as region now version opened closed)

-- an adoption of which nothing was taken
abbrev pub begun : List (List ℕ) → ℕ → Looked → ℕ → AdoptState
begun names version l count = record { names = names; version = version; image_len = l.image_len; directory = l.directory; left = count; heap = [] }

pub ready_found : (names : List (List ℕ)) (region old now : List ℕ) (version : ℕ) (l : Looked) (left : List Span) (a : AdoptState) → old ≡ closed_flag region → now ≡ take l.place old → reads version ≡ true → LooksAt version region (Some l)
    → stranger_of names (names_of l.directory.tables) ≡ None → left ≡ spans_of l.directory → a ≡ begun names version l (length left) → Finds names region now (Ok (found.Ready a))
ready_found names region old now version l left a closed cut read looks known spans is =
    subst (λ (b : AdoptState). Finds names region now (Ok (found.Ready b))) (sym is) (on, refl, refl, inside)
  where
    count : length left ≡ length (columns_of l.directory)
    count = ap length spans ∙ same_count (spans_of l.directory) (columns_of l.directory) (same_all l.directory)

    now_is : now ≡ take (directory_from region) (closed_flag region)
    now_is = cut ∙ ap₂ (λ (n : ℕ) (r : List ℕ). take n r) looks.1 closed

    on : Adopting region (begun names version l (length left)) now
    on = record {
      reads_it = read;
      kinds = tt;
      has = looks.0;
      known = known;
      len = looks.2;
      few = omega (arith, count);
      heap = sym (drop_all (length left) (map (λ (p : Place). (column_in region p).bytes) (columns_of l.directory)) (let size = length-map (columns_of l.directory) (λ (p : Place). (column_in region p).bytes) in omega (arith, count, size)));
      rest = now_is ∙ ap (λ (n : ℕ). take n (closed_flag region)) (sym (get_or_past (map (λ (p : Place). p.place) (columns_of l.directory)) (length left) (directory_from region) (let size = length-map (columns_of l.directory) (λ (p : Place). p.place) in omega (arith, count, size))));
    }

    inside : IsInImage (begun names version l (length left)) now
    inside =
        let size = ap length now_is in
        let taken = length-take (directory_from region) (closed_flag region) in
        let same = closed_size region (head_long region version looks.0.head) in
        let len = looks.2 in
        omega (arith, size, taken, same, len)

-- what an adoption keeps from its beginning
pub begins_track : (names : List (List ℕ)) (l : Looked) (left : List Span) (heap : List (List ℕ)) → IsRead l.place l.directory → stranger_of names (names_of l.directory.tables) ≡ None → left ≡ spans_of l.directory → heap ≡ []
    → KeepsTrack names l.directory l.place left heap 0
begins_track names l left heap read known spans none = record {
  read = read;
  known = all_among names l.directory.tables known;
  front = sym (take-length left) ∙ ap (take (length left)) spans;
  held_is = sym (ap (λ (h : List (List ℕ)). length (joined h)) none);
  fits = let behind = directory_behind l.place l.directory read.itself in let same = ap span_bytes spans in omega (arith, behind, same);
}
