use Rattle.std.proofs.Common.{◌∙◌, ◌++◌, ℕ, List, ap}
use Rattle.leaf_model.specs.Bytes.{name_bytes, i64_bytes, u64_bytes}
use Rattle.region_layout.proofs.Answered.{on_ok}
use Rattle.region_layout.proofs.Putting.{three_put}
use Rattle.region_layout.proofs.directory_writer.put_table_head.Goals as goal

pub returns : goal.returns
returns c =
    let before = c.args.out.now.items in
    let t = c.args.table.now in
    let named = c.in_ok-put_name.ensures ∙ ap (λ (name : List ℕ). before ++ name_bytes name) c.as_str.ensures in
    on_ok c.put_u64.result (λ put. three_put (name_bytes t.name) (i64_bytes t.horizon) (u64_bytes t.writes) before c.put_name.new.out.items c.put_horizon.new.out.items c.put_u64.new.out.items named c.in_ok-put_horizon.ensures put) c.put_u64.ensures
