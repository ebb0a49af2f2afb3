use Rattle.std.proofs.Common.{ℕ, Vec, Global, ◌≡◌, ◌+◌, ◌*◌, ◌<◌, ◌^◌, ◌++◌, [], length, slice_index_or, refl, sym, ap, below_more, ◌∙◌, length-append, arith}
use Rattle.byteorder.specs.Endian.{little_bytes}
use Rattle.dictionaries.specs.Fields.{u32_at}
use Rattle.column_bytes.specs.Coding.{end_at}
use Rattle.dictionaries.specs.Sets.{numbers_in}
use Rattle.column_bytes.proofs.Spelled.{length-little, u32_front, u32_written}
use Rattle.column_bytes.proofs.JoinedTexts.{end_more, end_upto}
use Rattle.column_bytes.proofs.SetCoding.{length-numbers_in, numbers_at}
use Rattle.column_bytes.proofs.set_codes.set_ends.Goals as goal

pub loop-numbers-init : goal.loop-numbers-init
loop-numbers-init c =
    let n = length c.args.sets.now in
    let few = c.requires.few in
    let made : c.put_u32.new.out.items ≡ [] ++ little_bytes 4 n = c.in_ok-put_u32.ensures ∙ ap (λ xs. xs ++ little_bytes 4 n) c.in_ok-bytes.ensures.items in
    record {
      len = ap length made ∙ length-little 4 n;
      count = ap (λ b. u32_at b 0) made ∙ u32_written [] n 0 refl (omega arith);
      end_is = refl;
      small = omega arith;
      ends = λ k h. absurd (omega arith);
    }

pub overflow_cast-end : goal.overflow_cast-end
overflow_cast-end c =
    let vecs = c.args.sets.now in let sets = numbers_in vecs in let i = c.loop-numbers.numbers-index in
    let within = c.loop-numbers-test.true in
    let here = ap (λ (v : Vec ℕ Global). length v.items) c.numbers-item.is ∙ sym (ap length (numbers_at vecs i c.numbers-item.result within)) in
    let same : c.len-end.result ≡ length (slice_index_or sets i []) = omega (arith, c.len-end.ensures, c.numbers-item.result.ok, here) in
    let upto = end_upto sets (i + 1) in
    let more = end_more sets i (omega (arith, within, length-numbers_in vecs)) in
    record { fits = omega (arith, same, upto, more, c.loop-numbers.invariant.end_is, c.requires.small) }

pub loop-numbers-preserved : goal.loop-numbers-preserved
loop-numbers-preserved c =
    let vecs = c.args.sets.now in let sets = numbers_in vecs in let i = c.loop-numbers.numbers-index in
    let within = c.loop-numbers-test.true in
    let here = ap (λ (v : Vec ℕ Global). length v.items) c.numbers-item.is ∙ sym (ap length (numbers_at vecs i c.numbers-item.result within)) in
    let same : c.len-end.result ≡ length (slice_index_or sets i []) = omega (arith, c.len-end.ensures, c.numbers-item.result.ok, here) in
    let upto = end_upto sets (i + 1) in
    let more = end_more sets i (omega (arith, within, length-numbers_in vecs)) in
    let bytes = c.loop-numbers.bytes.items in let new = c.put_u32-in-loop-numbers.new.out.items in
    let end = c.loop-numbers.end + c.len-end.result in
    let fits : end < 2 ^ 32 = omega (arith, same, upto, more, c.loop-numbers.invariant.end_is, c.requires.small) in
    let len = c.loop-numbers.invariant.len in
    let made : new ≡ bytes ++ little_bytes 4 end = c.in_ok-put_u32-2.ensures in
    let end_is : end ≡ end_at sets (i + 1) = omega (arith, c.loop-numbers.invariant.end_is, more, same) in
    record {
      len = omega (arith, ap length made, length-append bytes (little_bytes 4 end), length-little 4 end);
      count = ap (λ b. u32_at b 0) made ∙ u32_front bytes (little_bytes 4 end) 0 (omega arith) ∙ c.loop-numbers.invariant.count;
      end_is = end_is;
      small = omega (arith, fits);
      ends = below_more (λ k. u32_at new (4 + 4 * k) ≡ end_at sets (k + 1)) i
          (λ k h. ap (λ b. u32_at b (4 + 4 * k)) made ∙ u32_front bytes (little_bytes 4 end) (4 + 4 * k) (omega arith) ∙ c.loop-numbers.invariant.ends k h)
          (ap (λ b. u32_at b (4 + 4 * i)) made ∙ u32_written bytes end (4 + 4 * i) len fits ∙ end_is);
    }
