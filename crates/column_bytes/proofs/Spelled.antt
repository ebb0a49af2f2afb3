-- What the bytes that are written read as, field by field.
use Rattle.std.proofs.Common.{◌≡◌, ℕ, ◌+◌, ◌-◌, ◌*◌, ◌<◌, ◌≤◌, ◌^◌, List, [], ◌++◌, length, take, drop, slice_index, slice_index_or, slice_range, ℤ, pos, w64, below_more, sym, ap, ap₂, ◌∙◌, arith, length-append, append_assoc, append-nil}
use Rattle.std.proofs.lemmas.List.{drop-append-le, get_or_append_left, length-drop}
use Rattle.std.proofs.Math.Seq.{drop-append_seam, take-append_seam}
use Rattle.byteorder.specs.Endian.{little_number, little_bytes}
use Rattle.byteorder.specs.Numbers.{little_from-append, little_number-reads_back, length-bytes_low_first}
use Rattle.std.specs.Int.{cast_signed}
use Rattle.dictionaries.specs.Fields.{u32_at, u64_at, i64_at}
use Rattle.column_bytes.specs.Column.{codes_from, extra_from, presence_part, codes_part, extra_part, count_in}
use Rattle.column_bytes.specs.Coding.{header_bytes, column_bytes}

pub length-little : (n x : ℕ) → length (little_bytes n x) ≡ n
length-little n x = length-bytes_low_first 0 n x

-- a number is read from the bytes that it was written as
pub u64_written : (before : List ℕ) (x at : ℕ) → length before ≡ at → x < 2 ^ 64 → u64_at (before ++ little_bytes 8 x) at ≡ x
unfolding u64_at
u64_written before x at e fits =
    let seam : drop at (before ++ little_bytes 8 x) ≡ little_bytes 8 x ++ [] =
    ap (λ n. drop n (before ++ little_bytes 8 x)) (sym e) ∙ drop-append_seam before (little_bytes 8 x) ∙ sym (append-nil (little_bytes 8 x)) in
    ap (little_number 8) seam ∙ little_number-reads_back 8 x [] fits

pub u32_written : (before : List ℕ) (x at : ℕ) → length before ≡ at → x < 2 ^ 32 → u32_at (before ++ little_bytes 4 x) at ≡ x
unfolding u32_at
u32_written before x at e fits =
    let seam : drop at (before ++ little_bytes 4 x) ≡ little_bytes 4 x ++ [] =
    ap (λ n. drop n (before ++ little_bytes 4 x)) (sym e) ∙ drop-append_seam before (little_bytes 4 x) ∙ sym (append-nil (little_bytes 4 x)) in
    ap (little_number 4) seam ∙ little_number-reads_back 4 x [] fits

-- and what follows changes nothing
pub u64_front : (xs ys : List ℕ) (at : ℕ) → at + 8 ≤ length xs → u64_at (xs ++ ys) at ≡ u64_at xs at
unfolding u64_at
u64_front xs ys at h =
    ap (little_number 8) (drop-append-le at xs ys (omega arith))
    ∙ little_from-append 8 (drop at xs) ys (omega (arith, length-drop at xs))

pub u32_front : (xs ys : List ℕ) (at : ℕ) → at + 4 ≤ length xs → u32_at (xs ++ ys) at ≡ u32_at xs at
unfolding u32_at
u32_front xs ys at h =
    ap (little_number 4) (drop-append-le at xs ys (omega arith))
    ∙ little_from-append 4 (drop at xs) ys (omega (arith, length-drop at xs))

-- what a header of these bytes and numbers reads as
pub record ReadsHeader (bytes front : List ℕ) (n codes extra whole : ℕ) : Type 0 where
  pub len : length bytes ≡ 40
  pub front_is : (i : ℕ) → i < 4 → slice_index bytes i ≡ slice_index front i
  pub count : u32_at bytes 4 ≡ n
  pub presence_from : u64_at bytes 8 ≡ 40
  pub codes_is : u64_at bytes 16 ≡ codes
  pub extra_is : u64_at bytes 24 ≡ extra
  pub whole_is : u64_at bytes 32 ≡ whole

pub header_reads : (front : List ℕ) (n codes extra whole : ℕ) → length front ≡ 4 → n < 2 ^ 32 → codes < 2 ^ 64 → extra < 2 ^ 64 → whole < 2 ^ 64
    → ReadsHeader (header_bytes front n codes extra whole) front n codes extra whole
unfolding header_bytes
header_reads front n codes extra whole four small c e w =
    let a1 = front ++ little_bytes 4 n in
    let a2 = a1 ++ little_bytes 8 40 in
    let a3 = a2 ++ little_bytes 8 codes in
    let a4 = a3 ++ little_bytes 8 extra in
    let l1 : length a1 ≡ 8 = omega (arith, length-append front (little_bytes 4 n), length-little 4 n) in
    let l2 : length a2 ≡ 16 = omega (arith, length-append a1 (little_bytes 8 40), length-little 8 40) in
    let l3 : length a3 ≡ 24 = omega (arith, length-append a2 (little_bytes 8 codes), length-little 8 codes) in
    let l4 : length a4 ≡ 32 = omega (arith, length-append a3 (little_bytes 8 extra), length-little 8 extra) in
    let front4 : (i : ℕ) → i < 4 → slice_index (a4 ++ little_bytes 8 whole) i ≡ slice_index front i = λ i h.
    get_or_append_left a4 (little_bytes 8 whole) 0 i (omega arith)
    ∙ get_or_append_left a3 (little_bytes 8 extra) 0 i (omega arith)
    ∙ get_or_append_left a2 (little_bytes 8 codes) 0 i (omega arith)
    ∙ get_or_append_left a1 (little_bytes 8 40) 0 i (omega arith)
    ∙ get_or_append_left front (little_bytes 4 n) 0 i (omega arith) in
    record {
      len = omega (arith, length-append a4 (little_bytes 8 whole), length-little 8 whole);
      front_is = front4;
      count = u32_front a4 (little_bytes 8 whole) 4 (omega arith) ∙ u32_front a3 (little_bytes 8 extra) 4 (omega arith)
          ∙ u32_front a2 (little_bytes 8 codes) 4 (omega arith) ∙ u32_front a1 (little_bytes 8 40) 4 (omega arith) ∙ u32_written front n 4 four small;
      presence_from = u64_front a4 (little_bytes 8 whole) 8 (omega arith) ∙ u64_front a3 (little_bytes 8 extra) 8 (omega arith)
          ∙ u64_front a2 (little_bytes 8 codes) 8 (omega arith) ∙ u64_written a1 40 8 l1 (omega arith);
      codes_is = u64_front a4 (little_bytes 8 whole) 16 (omega arith) ∙ u64_front a3 (little_bytes 8 extra) 16 (omega arith) ∙ u64_written a2 codes 16 l2 c;
      extra_is = u64_front a4 (little_bytes 8 whole) 24 (omega arith) ∙ u64_written a3 extra 24 l3 e;
      whole_is = u64_written a4 whole 32 l4 w;
    }

-- what a column of these parts reads as
pub record ReadsColumn (bytes front : List ℕ) (n : ℕ) (presence codes extra : List ℕ) : Type 0 where
  pub len : length bytes ≡ 40 + length presence + length codes + length extra
  pub front_is : (i : ℕ) → i < 4 → slice_index bytes i ≡ slice_index front i
  pub count : count_in bytes ≡ n
  pub presence_from : u64_at bytes 8 ≡ 40
  pub codes_from_is : codes_from bytes ≡ 40 + length presence
  pub extra_from_is : extra_from bytes ≡ 40 + length presence + length codes
  pub whole_is : u64_at bytes 32 ≡ length bytes
  pub presence_is : presence_part bytes ≡ presence
  pub codes_is : codes_part bytes ≡ codes
  pub extra_is : extra_part bytes ≡ extra

-- the part behind what stands before it, where something follows
pub part_between : (before part rest : List ℕ) (from to : ℕ) → length before ≡ from → length before + length part ≡ to → slice_range ((before ++ part) ++ rest) from to ≡ part
part_between before part rest from to e f =
    let count : to - from ≡ length part = omega arith in
    ap₂ (λ n xs. take n (drop from xs)) count (append_assoc before part rest)
    ∙ ap (λ n. take (length part) (drop n (before ++ (part ++ rest)))) (sym e)
    ∙ ap (take (length part)) (drop-append_seam before (part ++ rest))
    ∙ take-append_seam part rest

pub column_reads : (front : List ℕ) (n : ℕ) (presence codes extra : List ℕ) → length front ≡ 4 → n < 2 ^ 32
    → length presence ≤ 2 ^ 40 → length codes ≤ 2 ^ 40 → length extra ≤ 2 ^ 40
    → ReadsColumn (column_bytes front n presence codes extra) front n presence codes extra
unfolding column_bytes
column_reads front n presence codes extra four small p c e =
    let codes_at = 40 + length presence in
    let extra_at = codes_at + length codes in
    let end = extra_at + length extra in
    let head = header_bytes front n codes_at extra_at end in
    let reads = header_reads front n codes_at extra_at end four small (omega arith) (omega arith) (omega arith) in
    let len = reads.len in
    let a1 = head ++ presence in
    let a2 = a1 ++ codes in
    let l1 = length-append head presence in
    let l2 = length-append a1 codes in
    let l3 = length-append a2 extra in
    let far : (at : ℕ) → at + 8 ≤ 40 → u64_at (a2 ++ extra) at ≡ u64_at head at = λ at h.
    u64_front a2 extra at (omega arith) ∙ u64_front a1 codes at (omega arith) ∙ u64_front head presence at (omega arith) in
    let codes_is = far 16 (omega arith) ∙ reads.codes_is in
    let extra_is = far 24 (omega arith) ∙ reads.extra_is in
    record {
      len = omega (arith, l1, l2, l3);
      front_is = λ i h. get_or_append_left a2 extra 0 i (omega arith) ∙ get_or_append_left a1 codes 0 i (omega arith)
          ∙ get_or_append_left head presence 0 i (omega arith) ∙ reads.front_is i h;
      count = u32_front a2 extra 4 (omega arith) ∙ u32_front a1 codes 4 (omega arith) ∙ u32_front head presence 4 (omega arith) ∙ reads.count;
      presence_from = far 8 (omega arith) ∙ reads.presence_from;
      codes_from_is = codes_is;
      extra_from_is = extra_is;
      whole_is = far 32 (omega arith) ∙ reads.whole_is ∙ omega (arith, l1, l2, l3);
      presence_is = ap₂ (λ n xs. slice_range xs 40 n) codes_is (append_assoc a1 codes extra)
          ∙ part_between head presence (codes ++ extra) 40 codes_at len (omega arith);
      codes_is = ap₂ (λ from to. slice_range (a2 ++ extra) from to) codes_is extra_is
          ∙ part_between a1 codes extra codes_at extra_at (omega arith) (omega arith);
      extra_is = ap (λ from. drop from (a2 ++ extra)) (extra_is ∙ omega (arith, l1, l2)) ∙ drop-append_seam a2 extra;
    }

-- one more integer behind those that stand there
pub integers_more : (integers : List ℤ) (bytes more : List ℕ) (i x : ℕ) → length bytes ≡ 8 * i → x < 2 ^ 64 → cast_signed w64 x ≡ slice_index_or integers i (pos 0)
    → more ≡ bytes ++ little_bytes 8 x → ((k : ℕ) → k < i → i64_at bytes (8 * k) ≡ slice_index_or integers k (pos 0))
    → (k : ℕ) → k < i + 1 → i64_at more (8 * k) ≡ slice_index_or integers k (pos 0)
integers_more integers bytes more i x len fits e made before =
    below_more (λ k. i64_at more (8 * k) ≡ slice_index_or integers k (pos 0)) i
    (λ k h. ap (λ b. i64_at b (8 * k)) made ∙ ap (cast_signed w64) (u64_front bytes (little_bytes 8 x) (8 * k) (omega arith)) ∙ before k h)
    (ap (λ b. i64_at b (8 * i)) made ∙ ap (cast_signed w64) (u64_written bytes x (8 * i) len fits) ∙ e)
