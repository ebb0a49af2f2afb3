use Rattle.std.proofs.Common.{rules, ◌<◌, ◌^◌, length, slice_index_or, pos, w64, FitsSigned, ap, ◌∙◌, arith}
use Rattle.std.specs.Int.{cast_signed, cast_unsigned}
use Rattle.std.proofs.lemmas.Int.{to_z-of_z}
use Rattle.std.proofs.Common.{length-append}
use Rattle.byteorder.specs.Endian.{little_bytes}
use Rattle.column_bytes.proofs.Spelled.{integers_more, length-little}
use Rattle.column_bytes.proofs.integers.integer_bytes.Goals as goal

pub loop-integer-preserved : goal.loop-integer-preserved
loop-integer-preserved c =
    let integers = c.args.integers.now in let i = c.loop-integer.integer-index in
    let bytes = c.loop-integer.bytes.items in let x = c.cast_unsigned.result in
    let fits : FitsSigned w64 (slice_index_or integers i (pos 0)) = search rules in
    let back = to_z-of_z w64 (slice_index_or integers i (pos 0)) fits in
    let small : x < 2 ^ 64 = search rules in
    let len = c.loop-integer.invariant.len in
    record {
      len = omega (arith, ap length c.in_ok-put_u64.ensures, length-append bytes (little_bytes 8 x), length-little 8 x);
      each = integers_more integers bytes c.put_u64.new.out.items i x len small (ap (cast_signed w64) (c.cast_unsigned.ensures ∙ ap (cast_unsigned w64) back) ∙ back)
          c.in_ok-put_u64.ensures c.loop-integer.invariant.each;
    }
