use Rattle.std.proofs.Common.{rules, ◌≡◌, ◌+ℤ◌, ◌≤ℤ◌, slice_index_or, pos, w64, FitsSigned, to_z, of_z, below_more, ap, ◌∙◌}
use Rattle.std.proofs.lemmas.Int.{to_z-of_z}
use Rattle.column_bytes.proofs.Offsets.{offset_back, codes_more}
use Rattle.column_bytes.proofs.integers.offset_codes.Goals as goal

pub loop-integer-preserved : goal.loop-integer-preserved
loop-integer-preserved c =
    let integers = c.args.integers.now in let i = c.loop-integer.integer-index in
    let codes = c.loop-integer.codes.items in
    let base = to_z w64 (of_z w64 c.args.base) in
    let integer = slice_index_or integers i (pos 0) in
    let fits : FitsSigned w64 integer = search rules in
    let based : FitsSigned w64 c.args.base = search rules in
    let back : to_z w64 (of_z w64 integer) ≡ integer = to_z-of_z w64 integer fits in
    let base_back : base ≡ c.args.base = to_z-of_z w64 c.args.base based in
    let above : base ≤ℤ to_z w64 (of_z w64 integer) = rw (base_back, back) (c.requires i c.loop-integer-test.true) in
    let here : base +ℤ pos c.abs_diff.result ≡ integer
    = ap (λ n. base +ℤ pos n) c.abs_diff.ensures ∙ offset_back base (to_z w64 (of_z w64 integer)) above ∙ back in
    record {
      same = search rules;
      each = codes_more base integers codes c.push.new.self.items i c.abs_diff.result c.loop-integer.invariant.same c.in_ok-push.ensures.items here c.loop-integer.invariant.each;
      fit = below_more _ _ c.loop-integer.invariant.fit fits;
    }
