use Rattle.std.proofs.Common.{List, ℕ, Bor, ◌≡◌, ◌+◌, ◌*◌, ◌<◌, ◌^◌, ◌++◌, [], length, slice_index_or, refl, ap, below_more, ◌∙◌, length-append, arith}
use Rattle.byteorder.specs.Endian.{little_bytes}
use Rattle.dictionaries.specs.Fields.{u32_at}
use Rattle.dictionaries.specs.Dictionary.{lent}
use Rattle.column_bytes.specs.Coding.{end_at}
use Rattle.column_bytes.proofs.Spelled.{length-little, u32_front, u32_written}
use Rattle.column_bytes.proofs.Distinct.{lent_at, length-lent}
use Rattle.column_bytes.proofs.JoinedTexts.{end_more, end_upto}
use Rattle.column_bytes.proofs.text_codes.ends_of.Goals as goal

pub loop-text-init : goal.loop-text-init
loop-text-init c =
    let n = length c.args.texts.now in
    let few = c.requires.few in
    let made : c.put_u32.new.out.items ≡ [] ++ little_bytes 4 n = c.in_ok-put_u32.ensures ∙ ap (λ xs. xs ++ little_bytes 4 n) c.in_ok-bytes.ensures.items in
    record {
      len = ap length made ∙ length-little 4 n;
      count = ap (λ b. u32_at b 0) made ∙ u32_written [] n 0 refl (omega arith);
      end_is = refl;
      small = omega arith;
      ends = λ k h. absurd (omega arith);
    }

pub overflow_cast-end : goal.overflow_cast-end
overflow_cast-end c =
    let texts = c.args.texts.now in let i = c.loop-text.text-index in
    let d : Bor (List ℕ) = record { ref_ptr = (0, 0); now = [] } in
    let within = c.loop-text-test.true in
    let same = ap length (lent_at texts i d within) in
    let upto = end_upto (lent texts) (i + 1) in
    let more = end_more (lent texts) i (omega (arith, length-lent texts)) in
    record { fits = omega (arith, same, upto, more, c.loop-text.invariant.end_is, c.requires.small) }

pub loop-text-preserved : goal.loop-text-preserved
loop-text-preserved c =
    let texts = c.args.texts.now in let i = c.loop-text.text-index in
    let d : Bor (List ℕ) = record { ref_ptr = (0, 0); now = [] } in
    let within = c.loop-text-test.true in
    let same = ap length (lent_at texts i d within) in
    let upto = end_upto (lent texts) (i + 1) in
    let more = end_more (lent texts) i (omega (arith, length-lent texts)) in
    let few = c.requires.few in
    let bytes = c.loop-text.bytes.items in let new = c.put_u32-in-loop-text.new.out.items in
    let end = c.loop-text.end + length (slice_index_or texts i d).now in
    let fits : end < 2 ^ 32 = omega (arith, same, upto, more, c.loop-text.invariant.end_is, c.requires.small) in
    let len = c.loop-text.invariant.len in
    let made : new ≡ bytes ++ little_bytes 4 end = c.in_ok-put_u32-2.ensures in
    let end_is : end ≡ end_at (lent texts) (i + 1) = omega (arith, c.loop-text.invariant.end_is, end_more (lent texts) i (omega (arith, length-lent texts)), same) in
    record {
      len = omega (arith, ap length made, length-append bytes (little_bytes 4 end), length-little 4 end);
      count = ap (λ b. u32_at b 0) made ∙ u32_front bytes (little_bytes 4 end) 0 (omega arith) ∙ c.loop-text.invariant.count;
      end_is = end_is;
      small = omega (arith, fits);
      ends = below_more (λ k. u32_at new (4 + 4 * k) ≡ end_at (lent texts) (k + 1)) i
          (λ k h. ap (λ b. u32_at b (4 + 4 * k)) made ∙ u32_front bytes (little_bytes 4 end) (4 + 4 * k) (omega arith) ∙ c.loop-text.invariant.ends k h)
          (ap (λ b. u32_at b (4 + 4 * i)) made ∙ u32_written bytes end (4 + 4 * i) len fits ∙ end_is);
    }
