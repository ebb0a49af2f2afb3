use Rattle.std.proofs.Common.{rules, ◌≡◌, ℕ, suc, ◌+◌, ◌≤◌, List, [], ◌∷◌, length, map, string_bytes, string_cmp, sym, ap, ◌∙◌, arith}
use Rattle.std.specs.BTreeSet.{insert_key}
use Rattle.std.specs.Vec.Iter.{into_iter_items}
use Rattle.serde_json.specs.View.{items_view}
use Rattle.serde_json.specs.declared.value.Value.{Value}
use Rattle.row_json.specs.Row.{texts_with}
use Rattle.row_json.proofs.SetItems.{texts_of, text_put, put_length, texts_step}
use Rattle.row_json.proofs.sets.texts_in.Goals as goal

pub loop-item-preserved : goal.loop-item-preserved
loop-item-preserved c =
    let keys = c.loop-item.texts.keys in let text = c.in-String.text in
    let rest = into_iter_items c.next.new.self in
    let put : c.insert.new.self.keys ≡ insert_key string_cmp keys text = search rules in
    let came = c.in-Some.ensures.steps.0 ∙ ap (λ (v : Value). v ∷ rest) c.in-String.is in
    let step = texts_step (texts_of keys) text rest in
    let longer = ap length came in
    let long = ap length put in (
      ap (λ ts. texts_with ts (items_view rest)) (ap texts_of put ∙ text_put keys text)
          ∙ sym step
          ∙ sym (ap (λ vs. texts_with (texts_of keys) (items_view vs)) came)
          ∙ c.loop-item.invariant.0,
      omega (arith, long, longer, put_length keys text, c.loop-item.invariant.1),
    )
