use Rattle.std.proofs.Common.{◌≡◌, ◌∙◌, ◌-◌, ◌++◌, ◌∷◌, [], length, take, drop, refl, ap, List, ℕ, arith}
use Rattle.std.specs.List.{flat_map}
use Rattle.std.proofs.lemmas.List.{take_at}
use Rattle.leaf_model.specs.Bytes.{u64_bytes, name_bytes}
use Rattle.row_records.specs.Bytes.{said_bytes, write_bytes, write_kind}
use Rattle.row_records.specs.Records.{record_body, record_bytes, record_kind}
use Rattle.row_records.proofs.Growing.{fields_of, grown, kind_and_said, pushed, ungated}
use Rattle.row_records.proofs.record_writer.add_write.Goals as goal

pub returns-clause-added : goal.returns-clause-added
returns-clause-added c = λ r is len count.
    let write = c.args.write.now in
    let old = c.args.bytes.now.items in
    let laid = c.as_mut_slice.result.now in
    let new = c.renumber.new.bytes in
    let front : take (length old - 1) old ≡ record_bytes r = ap (λ (w : List ℕ). take (length w - 1) w) is ∙ ungated (record_bytes r) in
    let laid_is : laid ≡ record_bytes r ++ (write_bytes write ++ 0 ∷ []) = c.as_mut_slice.ensures.value ∙ c.in_ok-put_more.ensures.put ∙ ap (λ (w : List ℕ). w ++ write_kind write ∷ (said_bytes write ++ 0 ∷ [])) front ∙ ap (λ (w : List ℕ). record_bytes r ++ (w ++ 0 ∷ [])) (kind_and_said write) in
    let size = ap length laid_is ∙ grown r write in
    let numbered = c.renumber.ensures.fields (u64_bytes (length (record_body r))) (record_kind r.sets ∷ name_bytes r.name) (u64_bytes (length r.writes)) (flat_map write_bytes r.writes ++ (write_bytes write ++ 0 ∷ []))
    (laid_is ∙ fields_of r (write_bytes write ++ 0 ∷ [])) refl (omega (arith, len)) refl in
    let whole = numbered ∙ pushed r write (length laid - 9) c.args.count (omega (arith, size)) count in
    take_at new (drop (length new) c.put_more.new.bytes.items) c.put_more.new.bytes.len (c.renumber.ensures.len ∙ c.as_mut_slice.ensures.len) ∙ whole
