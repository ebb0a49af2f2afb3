use Rattle.std.proofs.Common.{◌∙◌, ◌++◌, ℕ, List, ap}
use Rattle.leaf_model.specs.Bytes.{name_bytes, u64_bytes}
use Rattle.region_layout.proofs.Answered.{on_ok}
use Rattle.region_layout.specs.Written.{place_bytes}
use Rattle.region_layout.proofs.Putting.{three_put}
use Rattle.region_layout.proofs.directory_writer.put_place.Goals as goal

pub returns : goal.returns
unfolding place_bytes
returns c =
    let before = c.args.out.now.items in
    let p = c.args.place.now in
    let named = c.in_ok-put_name.ensures ∙ ap (λ (name : List ℕ). before ++ name_bytes name) c.as_str.ensures in
    on_ok c.put_u64-2.result (λ put. three_put (name_bytes p.name) (u64_bytes p.place) (u64_bytes p.length) before c.put_name.new.out.items c.put_u64.new.out.items c.put_u64-2.new.out.items named c.in_ok-put_u64.ensures put) c.put_u64-2.ensures
