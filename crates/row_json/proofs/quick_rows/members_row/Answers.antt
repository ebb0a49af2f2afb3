use Rattle.std.proofs.Common.{◌≡◌, ◌-◌, ◌<◌, ◌≤◌, [], ◌∷◌, length, Ok, Some, None, refl, sym, ap, subst, ◌∙◌, arith}
use Rattle.std.specs.List.{AllByRecursion}
use Rattle.json.specs.Json.{read_key, members, value}
use Rattle.json.specs.Reads.{token_of}
use Rattle.json.proofs.Grammar.{read_key-shorter}
use Rattle.serde_json.specs.Data.{no_members, put}
use Rattle.serde_json.specs.Read.{of_json, of_members, converted}
use Rattle.row_model.specs.Values.{IsCell}
use Rattle.row_json.proofs.Found.{none_ascend, put_ascending}
use Rattle.row_json.proofs.Grown.{one_more, all_read}
use Rattle.row_json.proofs.Made.{made_ascend, row_ends, row_fine}
use Rattle.row_json.proofs.Seen.{of_token}
use Rattle.row_json.proofs.quick_rows.members_row.Goals as goal

pub members-init : goal.members-init
members-init c =
    let none : c.in-Ok.cells.items ≡ [] = c.in-Ok.ensures.items in
    (length c.args.reader.now, no_members, omega arith, refl, tt, none_ascend, ap Ok (sym none), subst (AllByRecursion IsCell) (sym none) tt)

pub returns-in_default-found-clause-exact : goal.returns-in_default-found-clause-exact
returns-in_default-found-clause-exact c =
    let l = c.members in
    let n = l.invariant.0 in
    let old = l.invariant.1 in
    let s = c.next_key.new.self in
    let brace : read_key l.reader ≡ Some (None, s) = grind arith in
    let few : length l.cells.items ≤ 1024 = grind arith in
    row_ends c.row_with.result l.time l.cells.items old (converted (λ ms. of_members ms no_members) (members (value 126) (length c.args.reader.now) c.args.reader.now)) s
    (l.invariant.3 ∙ all_read (value 126) old n l.reader s l.invariant.2 brace) c.row_with.ensures.exact l.invariant.4 l.invariant.6 few

pub returns-in_default-found-clause-is_row : goal.returns-in_default-found-clause-is_row
returns-in_default-found-clause-is_row c =
    let l = c.members in
    let few : length l.cells.items ≤ 1024 = grind arith in
    row_fine c.row_with.result l.time l.cells.items l.invariant.1 c.row_with.ensures.exact c.row_with.ensures.is_time l.invariant.5 l.invariant.6 few l.invariant.7

pub put_member-requires-clause-ordered : goal.put_member-requires-clause-ordered
put_member-requires-clause-ordered c =
    let l = c.members in
    made_ascend l.invariant.1 l.cells.items l.invariant.5 l.invariant.6

pub members-preserved : goal.members-preserved
members-preserved c =
    let p = value 126 in
    let l = c.members in
    let n = l.invariant.0 in
    let old = l.invariant.1 in
    let k = c.in-Some.name.now in
    let s = c.next_key.new.self in
    let r = c.next.new.self in
    let found = c.in_ok-time.ensures.exact in
    let d = found.0 in
    let named : read_key l.reader ≡ Some (Some k, s) = grind arith in
    let first : s ≡ token_of c.in_ok-token.token ∷ r = grind arith in
    let done : converted of_json (p s) ≡ Some (d, r) = ap (λ ts. converted of_json (p ts)) first ∙ of_token 126 (token_of c.in_ok-token.token) r d found.1 in
    let less = read_key-shorter l.reader (Some k) s named in
    let lesser : length r < length s = omega (arith, ap length first) in (
      n - 1,
      put k d old,
      omega (arith, l.invariant.2, less, lesser),
      l.invariant.3 ∙ one_more p old n k l.reader s r d (omega (arith, l.invariant.2, less)) named done,
      found.2 old l.invariant.4,
      put_ascending k d old l.invariant.5,
      found.3 old l.invariant.5 l.invariant.6,
      c.in_ok-time.ensures.are_cells,
    )
