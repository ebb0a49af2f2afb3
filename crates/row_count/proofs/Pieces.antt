-- A text that is counted piece by piece while it is read.
use Rattle.std.proofs.Common.{◌≡◌, ◌≢◌, ◌≤◌, ◌<◌, ◌+◌, ◌-◌, ◌^◌, ℕ, min, List, [], ◌++◌, length, take, drop, Bool, true, false, Option, Some, None, Result, Ok, Err, refl, ap, sym, subst, ◌∙◌, append_assoc, append-nil, length-append, zero-add, add-zero, arith}
use Rattle.std.specs.Prelude.{nat_lt, IfSome, IsErrOf}
use Rattle.std.specs.Io.KnownBytes.{Consumes, IsAtEnd}
use Rattle.std.proofs.lemmas.Bool.{cond-false, cond-true}
use Rattle.std.proofs.lemmas.Bool.Decides.{nat_tests}
use Rattle.std.proofs.lemmas.List.{take-append-drop, length-take}
use Rattle.berth_face.specs.Streams.{ReadsAll, TakesAtMost, TakesCount}
use Rattle.row_model.specs.declared.script_fault.Why.TheVariants as why
use Rattle.run_ends.specs.Outcome.{IfScript, IsRefused, TakesText, UnlessCutOff, UnlessWritten, if_short, read_status}
use Rattle.run_ends.specs.Source.{Took, PassesAll, longest_text, most_taken}
use Rattle.run_ends.specs.declared.status.Status.{Status}
use Rattle.run_ends.specs.declared.status.Status.TheVariants as status
use Rattle.run_ends.specs.declared.stream.SourceError.{SourceError}
use Rattle.run_ends.specs.declared.stream.SourceError.TheVariants as read
use Rattle.run_ends.proofs.Taken.{consumes_none, consumes_more}
use Rattle.text_lines.specs.Lines.{lines_of}
use Rattle.text_lines.specs.Parts.{ends_line}
use Rattle.text_lines.proofs.InParts.{ends_line-append, lines_of-joined, lines_short}
use Rattle.row_count.specs.declared.count.CountError.{CountError}
use Rattle.row_count.specs.declared.count.CountError.TheVariants.{Fault, NoMemory}
use Rattle.row_count.specs.declared.count.LineFault.{LineFault}
use Rattle.row_count.specs.declared.count.PartCount.{PartCount}
use Rattle.row_count.specs.declared.count.Range.{Range}
use Rattle.row_count.specs.Count.{IfFault, IsCountedBehind, IsPartCounted, count_of, error_behind}
use Rattle.row_count.specs.Outcome.{IsAtFault, IsCountOf, CountIsStopped, count_verdict, error_status, status_of}
use Rattle.row_count.proofs.Counts.{Within, count_is, count_lines, count_then, later, lines_joined, lines_shifted, lines_within, more_by}

-- ---- two texts, of which the first ends with a line's end

module _ (range : Range) (a b : List ℕ) (ended : ends_line a ≡ true) where
  both_counted : count_of range (a ++ b) ≡ count_then (count_of range a) (count_lines range (length (lines_of a)) (lines_of b))
  both_counted =
      count_is range (a ++ b) ∙ ap (count_lines range 0) (lines_of-joined a b ended) ∙ lines_joined range 0 (lines_of a) (lines_of b)
      ∙ ap (λ (n : ℕ). count_then (count_lines range 0 (lines_of a)) (count_lines range n (lines_of b))) (zero-add (length (lines_of a)))
      ∙ ap (λ (r : Result ℕ LineFault). count_then r (count_lines range (length (lines_of a)) (lines_of b))) (sym (count_is range a))

  after_first : (m : ℕ) → count_of range a ≡ Ok m → count_of range (a ++ b) ≡ more_by m (later (length (lines_of a)) (count_of range b))
  after_first m first =
      both_counted ∙ ap (λ (r : Result ℕ LineFault). count_then r (count_lines range (length (lines_of a)) (lines_of b))) first
      ∙ ap (λ (n : ℕ). more_by m (count_lines range n (lines_of b))) (sym (add-zero (length (lines_of a))))
      ∙ ap (more_by m) (lines_shifted range (length (lines_of a)) 0 (lines_of b) ∙ ap (later (length (lines_of a))) (sym (count_is range b)))

  both_ok : (m k : ℕ) → count_of range a ≡ Ok m → count_of range b ≡ Ok k → count_of range (a ++ b) ≡ Ok (m + k)
  both_ok m k first second = after_first m first ∙ ap (λ (r : Result ℕ LineFault). more_by m (later (length (lines_of a)) r)) second

  second_err : (m : ℕ) (found : LineFault) → count_of range a ≡ Ok m → count_of range b ≡ Err found → count_of range (a ++ b) ≡ Err (record { line = length (lines_of a) + found.line; fault = found.fault })
  second_err m found first second = after_first m first ∙ ap (λ (r : Result ℕ LineFault). more_by m (later (length (lines_of a)) r)) second

  first_err : (found : LineFault) → count_of range a ≡ Err found → count_of range (a ++ b) ≡ Err found
  first_err found first = both_counted ∙ ap (λ (r : Result ℕ LineFault). count_then r (count_lines range (length (lines_of a)) (lines_of b))) first

-- ---- a text behind what was counted before it

part_within : (range : Range) (text : List ℕ) (rows : ℕ) → count_of range text ≡ Ok rows → rows ≤ length (lines_of text)
part_within range text rows is = subst (Within 1 (length (lines_of text))) (sym (count_is range text) ∙ is) (lines_within range 0 (lines_of text))

fault_within : (range : Range) (text : List ℕ) (found : LineFault) → count_of range text ≡ Err found → found.line < 1 + length (lines_of text)
fault_within range text found is = subst (Within 1 (length (lines_of text))) (sym (count_is range text) ∙ is) (lines_within range 0 (lines_of text))

module _ (range : Range) (so_far : PartCount) (text : List ℕ) where
  -- the sums are no more than the lines
  pub sums_fit : (count : PartCount) (most : ℕ) → count.lines ≡ length (lines_of text) → count_of range text ≡ Ok count.rows → so_far.lines + length text < most → so_far.rows ≤ so_far.lines
      → (so_far.lines + count.lines < most) × (so_far.rows + count.rows < most)
  sums_fit count most lines rows fits few =
      let within = part_within range text count.rows rows in
      (omega (arith, lines, fits, lines_short text), omega (arith, within, fits, few, lines_short text))

  pub behind_ok : (count : PartCount) → count.lines ≡ length (lines_of text) → count_of range text ≡ Ok count.rows → IsCountedBehind range so_far text (Ok (record { lines = so_far.lines + count.lines; rows = so_far.rows + count.rows }))
  behind_ok count lines rows = record { lines = ap (λ (n : ℕ). so_far.lines + n) lines; rows = (count.rows, rows, refl); refused = tt }

  pub behind_fits : (error : CountError) (most : ℕ) → IfFault error (λ found. count_of range text ≡ Err found) → so_far.lines + length text < most → IfFault error (λ found. so_far.lines + found.line < most)
  behind_fits (Fault found) most is fits = omega (arith, fault_within range text found is, fits, lines_short text)
  behind_fits NoMemory most is fits = tt

  pub behind_err : (first told : CountError) → IfFault first (λ found. count_of range text ≡ Err found) → told ≡ error_behind so_far.lines first → IsCountedBehind range so_far text (Err told)
  behind_err first told fault is = record { lines = tt; rows = tt; refused = (first, is, fault) }

-- ---- what was read and counted so far

-- the text is what was counted, whose last line has its end, and the rest
pub record IsTallied (range : Range) (before now : Option (List ℕ)) (rest : List ℕ) (passed : ℕ) (so_far : PartCount) : Type 0 where
  pub done : List ℕ
  pub bytes : Consumes before now (done ++ rest)
  pub size : length done ≡ passed
  pub ended : ends_line done ≡ true
  pub lines : length (lines_of done) ≡ so_far.lines
  pub counted : count_of range done ≡ Ok so_far.rows

pub tallied_none : (range : Range) (o : Option (List ℕ)) (text : List ℕ) → text ≡ [] → IsTallied range o o text 0 (record { lines = 0; rows = 0 })
tallied_none range o text none = record {
  done = [];
  bytes = subst (λ (l : List ℕ). Consumes o o l) (sym none) (consumes_none o);
  size = refl;
  ended = refl;
  lines = refl;
  counted = count_is range [];
}

pub tallied_read : (range : Range) (before mid now : Option (List ℕ)) (old new : List ℕ) (passed : ℕ) (so_far : PartCount) → IsTallied range before mid old passed so_far → Took mid now old new → IsTallied range before now new passed so_far
tallied_read range before mid now old new passed so_far t more = record {
  done = t.done;
  bytes = subst (λ (l : List ℕ). Consumes before now l) (append_assoc t.done old more.bytes ∙ ap (λ (l : List ℕ). t.done ++ l) (sym more.added)) (consumes_more before mid now (t.done ++ old) more.bytes t.bytes more.taken);
  size = t.size;
  ended = t.ended;
  lines = t.lines;
  counted = t.counted;
}

module _ (range : Range) (before now : Option (List ℕ)) (text : List ℕ) (passed : ℕ) (so_far : PartCount) (t : IsTallied range before now text passed so_far) where
  -- no more rows than lines, and no more lines than bytes
  pub tallied_few : (so_far.rows ≤ so_far.lines) × (so_far.lines ≤ passed)
  tallied_few =
      let within = part_within range t.done so_far.rows t.counted in
      (omega (arith, within, t.lines), omega (arith, t.lines, t.size, lines_short t.done))

  pub tallied_size : length (t.done ++ text) ≡ passed + length text
  tallied_size = length-append t.done text ∙ ap (λ (k : ℕ). k + length text) t.size

  whole_fault : (part : List ℕ) (first error : CountError) → error ≡ error_behind so_far.lines first → IfFault first (λ found. count_of range part ≡ Err found) → IfFault error (λ found. count_of range (t.done ++ part) ≡ Err found)
  whole_fault part first error is fault = subst (λ (e : CountError). IfFault e (λ found. count_of range (t.done ++ part) ≡ Err found)) (sym is) (by first fault)
    where
      by : (first : CountError) → IfFault first (λ found. count_of range part ≡ Err found) → IfFault (error_behind so_far.lines first) (λ found. count_of range (t.done ++ part) ≡ Err found)
      by (Fault found) fault =
          second_err range t.done part t.ended so_far.rows found t.counted fault ∙ ap (λ (n : ℕ). later n (Err found)) t.lines
      by NoMemory fault = tt

  -- the last piece
  pub all_rows : (count : PartCount) → IsCountedBehind range so_far text (Ok count) → count_of range (t.done ++ text) ≡ Ok count.rows
  all_rows count is = both_ok range t.done text t.ended so_far.rows is.rows.0 t.counted is.rows.1 ∙ ap Ok (sym is.rows.2)

  pub tallied_all : IsAtEnd now → (count : PartCount) → IsCountedBehind range so_far text (Ok count) → IsCountOf range before now count.rows
  tallied_all over count is = (t.done ++ text, (t.bytes, over), all_rows count is)

  pub tallied_takes : passed + length text ≤ longest_text → TakesAtMost before now longest_text
  tallied_takes small = (t.done ++ text, t.bytes, omega (arith, tallied_size, small))

  pub tallied_fault : (error : CountError) → IsCountedBehind range so_far text (Err error) → IfFault error (λ found. count_of range (t.done ++ text) ≡ Err found)
  tallied_fault error is = whole_fault text is.refused.0 error is.refused.1 is.refused.2

  -- a piece up to the end of a line
  module _ (cut : ℕ) (within : cut ≤ length text) (at_end : ends_line (take cut text) ≡ true) where
    joined : (t.done ++ take cut text) ++ drop cut text ≡ t.done ++ text
    joined = append_assoc t.done (take cut text) (drop cut text) ∙ ap (λ (l : List ℕ). t.done ++ l) (take-append-drop cut text)

    both_ended : ends_line (t.done ++ take cut text) ≡ true
    both_ended = ends_line-append t.done (take cut text) t.ended at_end

    pub tallied_cut : (count : PartCount) (rest : List ℕ) → IsCountedBehind range so_far (take cut text) (Ok count) → rest ≡ drop cut text → IsTallied range before now rest (passed + cut) count
    tallied_cut count rest is others =
        let front : length (take cut text) ≡ cut = length-take cut text ∙ omega (arith, within) in
        record {
          done = t.done ++ take cut text;
          bytes = subst (λ (l : List ℕ). Consumes before now l) (sym (ap (λ (l : List ℕ). (t.done ++ take cut text) ++ l) others ∙ joined)) t.bytes;
          size = length-append t.done (take cut text) ∙ omega (arith, front, t.size);
          ended = both_ended;
          lines = ap length (lines_of-joined t.done (take cut text) t.ended) ∙ length-append (lines_of t.done) (lines_of (take cut text)) ∙ omega (arith, t.lines, is.lines);
          counted = both_ok range t.done (take cut text) t.ended so_far.rows is.rows.0 t.counted is.rows.1 ∙ ap Ok (sym is.rows.2);
        }

    pub tallied_refused : (error : CountError) → IsCountedBehind range so_far (take cut text) (Err error) → IsAtFault range before now (passed + length text) error
    tallied_refused error is = record {
      text = t.done ++ text;
      bytes = t.bytes;
      size = tallied_size;
      refused = λ more. by more error (whole_fault (take cut text) is.refused.0 error is.refused.1 is.refused.2);
    }
      where
        by : (more : List ℕ) (error : CountError) → IfFault error (λ found. count_of range (t.done ++ take cut text) ≡ Err found) → IfFault error (λ found. count_of range ((t.done ++ text) ++ more) ≡ Err found)
        by more (Fault found) is =
            ap (count_of range) (ap (λ (l : List ℕ). l ++ more) (sym joined) ∙ append_assoc (t.done ++ take cut text) (drop cut text) more)
            ∙ first_err range (t.done ++ take cut text) (drop cut text ++ more) both_ended found is
        by more NoMemory is = tt

-- ---- the status of a source that was not counted

short_decides : (text : List ℕ) (s : Status) → length text ≤ longest_text → if_short text s ≡ s
short_decides text s small =
    let short : nat_lt longest_text (length text) ≡ false = grind (arith, nat_tests, small) in
    cond-false (nat_lt longest_text (length text)) (status.Script 0 why.TooLong) s short

long_decides : (text : List ℕ) (s : Status) → longest_text < length text → if_short text s ≡ status.Script 0 why.TooLong
long_decides text s large =
    let long : nat_lt longest_text (length text) ≡ true = grind (arith, nat_tests, large) in
    cond-true (nat_lt longest_text (length text)) (status.Script 0 why.TooLong) s long

-- what was known of a source that was read to its end
whole_text : (xs text : List ℕ) (now : Option (List ℕ)) → Consumes (Some xs) now text → IsAtEnd now → xs ≡ text
whole_text xs text None taken over = absurd taken
whole_text xs text (Some ys) taken over = taken ∙ ap (λ (l : List ℕ). text ++ l) over ∙ append-nil text

on_some : (P : List ℕ → Type 0) (o : Option (List ℕ)) → ((xs : List ℕ) → o ≡ Some xs → P xs) → IfSome o P
on_some P None p = tt
on_some P (Some xs) p = p xs refl

-- the text that was read to its end decides
pub read_decides : (range : Range) (before now : Option (List ℕ)) (text : List ℕ) → Consumes before now text → IsAtEnd now → length text ≤ longest_text → IfSome before (λ xs. status_of (count_of range text) ≡ count_verdict range xs)
read_decides range before now text taken over small = on_some (λ xs. status_of (count_of range text) ≡ count_verdict range xs) before (λ xs is.
    let whole : xs ≡ text = whole_text xs text now (subst (λ (o : Option (List ℕ)). Consumes o now text) is taken) over in
    sym (ap (count_verdict range) whole ∙ short_decides text (status_of (count_of range text)) small))

too_long : (range : Range) (before now : Option (List ℕ)) → TakesCount before now most_taken → IfSome before (λ xs. status.Script 0 why.TooLong ≡ count_verdict range xs)
too_long range before now many = on_some (λ xs. status.Script 0 why.TooLong ≡ count_verdict range xs) before (λ xs is.
    sym (long_decides xs (status_of (count_of range xs)) (by xs now (subst (λ (o : Option (List ℕ)). Consumes o now many.0) is many.1))))
  where
    by : (xs : List ℕ) (now : Option (List ℕ)) → Consumes (Some xs) now many.0 → longest_text < length xs
    by xs None taken = absurd taken
    by xs (Some ys) taken = omega (arith, ap length taken, length-append many.0 ys, many.2)

more_taken : (before mid now : Option (List ℕ)) (text : List ℕ) (most k : ℕ) → Consumes before mid text → TakesAtMost mid now k → length text + k ≤ most → TakesAtMost before now most
more_taken before mid now text most k first more few =
    (text ++ more.0, consumes_more before mid now text more.0 first more.1, omega (arith, length-append text more.0, more.2, few))

count_taken : (before mid now : Option (List ℕ)) (text : List ℕ) (most k : ℕ) → Consumes before mid text → TakesCount mid now k → length text + k ≡ most → TakesCount before now most
count_taken before mid now text most k first more few =
    (text ++ more.0, consumes_more before mid now text more.0 first more.1, length-append text more.0 ∙ omega (arith, more.2, few))

raised : (before now : Option (List ℕ)) (least most : ℕ) → least ≤ most → TakesAtMost before now least → TakesAtMost before now most
raised before now least most more taken = (taken.0, taken.1, omega (arith, taken.2, more))

stopped_fault : (range : Range) (before now : Option (List ℕ)) → TakesAtMost before now longest_text → CountIsStopped range before now status.ReadFault
stopped_fault range before now few = record {
  not_done = λ is. absurd (cc);
  not_words = λ is. absurd (cc);
  not_written = λ is. absurd (cc);
  script = tt;
  exact = on_some (λ xs. UnlessCutOff status.ReadFault (status.ReadFault ≡ count_verdict range xs)) before (λ xs is. tt);
  takes = raised before now longest_text most_taken (omega arith) few;
  text = few;
}

pub stopped_memory : (range : Range) (before now : Option (List ℕ)) → TakesAtMost before now longest_text → CountIsStopped range before now status.NoMemory
stopped_memory range before now few = record {
  not_done = λ is. absurd (cc);
  not_words = λ is. absurd (cc);
  not_written = λ is. absurd (cc);
  script = tt;
  exact = on_some (λ xs. UnlessCutOff status.NoMemory (status.NoMemory ≡ count_verdict range xs)) before (λ xs is. tt);
  takes = raised before now longest_text most_taken (omega arith) few;
  text = few;
}

stopped_long : (range : Range) (before now : Option (List ℕ)) → TakesCount before now most_taken → CountIsStopped range before now (status.Script 0 why.TooLong)
stopped_long range before now many = record {
  not_done = λ is. absurd (cc);
  not_words = λ is. absurd (cc);
  not_written = λ is. absurd (cc);
  script = (refl, many);
  exact = too_long range before now many;
  takes = (many.0, many.1, omega (arith, many.2));
  text = many;
}

-- a source that could not be read on, behind the text that was taken
pub stopped_read : {T : Type 0} (range : Range) (before mid now : Option (List ℕ)) (text : List ℕ) (many few : ℕ) (error : SourceError) → Consumes before mid text → length text + many ≡ most_taken → length text + few ≡ longest_text
    → (IsErrOf {T = T} (Err error) read.TooLong → TakesCount mid now many) → ((IsErrOf {T = T} (Err error) read.TooLong → ⊥) → TakesAtMost mid now few) → CountIsStopped range before now (read_status error)
stopped_read {T} range before mid now text many few read.Failed first one all long short = stopped_fault range before now (more_taken before mid now text longest_text few first (short (λ is. absurd (cc))) (omega (arith, all)))
stopped_read {T} range before mid now text many few read.TooLong first one all long short = stopped_long range before now (count_taken before mid now text most_taken many first (long refl) one)
stopped_read {T} range before mid now text many few read.NoMemory first one all long short = stopped_memory range before now (more_taken before mid now text longest_text few first (short (λ is. absurd (cc))) (omega (arith, all)))

-- a text that was read to its end
pub stopped_whole : (range : Range) (before now : Option (List ℕ)) (text : List ℕ) (error : CountError) → Consumes before now text → IsAtEnd now → length text ≤ longest_text → IfFault error (λ found. count_of range text ≡ Err found) → CountIsStopped range before now (error_status error)
stopped_whole range before now text (Fault found) taken over small is = record {
  not_done = λ is. absurd (cc);
  not_words = λ is. absurd (cc);
  not_written = λ is. absurd (cc);
  script = (text, (taken, over), short_decides text (status_of (count_of range text)) small ∙ ap status_of is);
  exact = subst (λ (s : Status). IfSome before (λ xs. s ≡ count_verdict range xs)) (ap status_of is) (read_decides range before now text taken over small);
  takes = (text, taken, omega (arith, small));
  text = (text, taken, small);
}
stopped_whole range before now text NoMemory taken over small is = stopped_memory range before now (text, taken, small)

-- a text with a fault, which is read to its end
pub refused_whole : (range : Range) (before mid now : Option (List ℕ)) (taken : ℕ) (error : CountError) → IsAtFault range before mid taken error → taken ≤ longest_text → PassesAll mid now (longest_text - taken) → CountIsStopped range before now (error_status error)
refused_whole range before mid now taken error at within rest =
    let size : length (at.text ++ rest.0) ≤ longest_text = omega (arith, length-append at.text rest.0, at.size, rest.2, within) in
    stopped_whole range before now (at.text ++ rest.0) error (consumes_more before mid now at.text rest.0 at.bytes rest.1.0) rest.1.1 size (at.refused rest.0)

pub refused_read : {T : Type 0} (range : Range) (before mid now : Option (List ℕ)) (taken : ℕ) (error : CountError) (stop : SourceError) → IsAtFault range before mid taken error → taken ≤ longest_text
    → (IsErrOf {T = T} (Err stop) read.TooLong → TakesCount mid now (most_taken - taken)) → ((IsErrOf {T = T} (Err stop) read.TooLong → ⊥) → TakesAtMost mid now (longest_text - taken)) → CountIsStopped range before now (read_status stop)
refused_read {T} range before mid now taken error stop at within long short =
    stopped_read {T = T} range before mid now at.text (most_taken - taken) (longest_text - taken) stop at.bytes (omega (arith, at.size, within)) (omega (arith, at.size, within)) long short

-- what holds before anything is written
pub unless_written : (s : Status) (P : Type 0) → P → UnlessWritten s P
unless_written status.Done P p = tt
unless_written status.Words P p = p
unless_written (status.Script line cause) P p = p
unless_written status.ReadFault P p = p
unless_written status.WriteFault P p = tt
unless_written status.NoMemory P p = p

module _ (range : Range) (before now : Option (List ℕ)) (text : List ℕ) (passed : ℕ) (so_far : PartCount) (t : IsTallied range before now text passed so_far) where
  whole_small : passed + length text ≤ longest_text → length (t.done ++ text) ≤ longest_text
  whole_small small = omega (arith, tallied_size range before now text passed so_far t, small)

  pub last_exact : IsAtEnd now → passed + length text ≤ longest_text → (count : PartCount) → IsCountedBehind range so_far text (Ok count) → IfSome before (λ xs. status.Done ≡ count_verdict range xs)
  last_exact over small count is =
      subst (λ (s : Status). IfSome before (λ xs. s ≡ count_verdict range xs)) (ap status_of (all_rows range before now text passed so_far t count is)) (read_decides range before now (t.done ++ text) t.bytes over (whole_small small))

  pub last_refused : IsAtEnd now → passed + length text ≤ longest_text → (error : CountError) (s : Status) → IsCountedBehind range so_far text (Err error) → s ≡ error_status error → CountIsStopped range before now s
  last_refused over small error s is same =
      subst (λ (it : Status). CountIsStopped range before now it) (sym same) (stopped_whole range before now (t.done ++ text) error t.bytes over (whole_small small) (tallied_fault range before now text passed so_far t error is))

  -- a source that could not be read on
  pub not_read : {T : Type 0} (after : Option (List ℕ)) (k : ℕ) (error : SourceError) (s : Status) → k ≡ length text → passed + length text ≤ longest_text
      → (IsErrOf {T = T} (Err error) read.TooLong → TakesCount now after (most_taken - passed - k)) → ((IsErrOf {T = T} (Err error) read.TooLong → ⊥) → TakesAtMost now after (longest_text - passed - k)) → s ≡ read_status error → CountIsStopped range before after s
  not_read {T} after k error s len small long short same =
      subst (λ (it : Status). CountIsStopped range before after it) (sym same) (stopped_read {T = T} range before now after (t.done ++ text) (most_taken - passed - k) (longest_text - passed - k) error t.bytes
      (omega (arith, tallied_size range before now text passed so_far t, len, small)) (omega (arith, tallied_size range before now text passed so_far t, len, small)) long short)
