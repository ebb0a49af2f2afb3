use Rattle.std.proofs.Common.{◌≡◌, ◌-◌, ◌<◌, ◌≤◌, [], ◌∷◌, length, Some, None, refl, sym, ap, subst, ◌∙◌, arith, rules}
use Rattle.json.specs.Token.{Token}
use Rattle.json.specs.Json.{read_key, members, value}
use Rattle.json.specs.Reads.{token_of}
use Rattle.json.proofs.Grammar.{read_key-shorter}
use Rattle.serde_json.specs.Data.{no_members, put}
use Rattle.serde_json.specs.Read.{of_json, of_members, converted}
use Rattle.row_json.proofs.Grown.{one_more, all_read}
use Rattle.row_json.specs.Row.{cell_count}
use Rattle.row_json.proofs.Seen.{count_put, ended, fine_put, of_token}
use Rattle.row_json.proofs.quick.members_time.Goals as goal

pub members-init : goal.members-init
members-init c = (length c.args.reader.now, no_members, omega arith, refl, tt, tt, omega arith, omega arith)

pub returns-in_default-found : goal.returns-in_default-found
returns-in_default-found c =
    let l = c.members in
    let n = l.invariant.0 in
    let old = l.invariant.1 in
    let s = c.next_key.new.self in
    let brace : read_key l.reader ≡ Some (None, s) = grind arith in
    ended l.time old (converted (λ ms. of_members ms no_members) (members (value 126) (length c.args.reader.now) c.args.reader.now)) s
    (l.invariant.3 ∙ all_read (value 126) old n l.reader s l.invariant.2 brace) l.invariant.5 l.invariant.4 (omega (arith, l.invariant.6, l.invariant.7))

pub members-preserved : goal.members-preserved
members-preserved c =
    let p = value 126 in
    let l = c.members in
    let n = l.invariant.0 in
    let old = l.invariant.1 in
    let k = c.in-Some.name.now in
    let s = c.next_key.new.self in
    let r = c.next.new.self in
    let found = c.in_ok-time.ensures in
    let d = found.0 in
    let named : read_key l.reader ≡ Some (Some k, s) = grind arith in
    let first : s ≡ token_of c.in_ok-token.token ∷ r = grind arith in
    let done : converted of_json (p s) ≡ Some (d, r) = ap (λ ts. converted of_json (p ts)) first ∙ of_token 126 (token_of c.in_ok-token.token) r d found.1 in
    let less = read_key-shorter l.reader (Some k) s named in
    let lesser : length r < length s = omega (arith, ap length first) in (
      n - 1,
      put k d old,
      omega (arith, l.invariant.2, less, lesser),
      l.invariant.3 ∙ one_more p old n k l.reader s r d (omega (arith, l.invariant.2, less)) named done,
      fine_put k d old found.2 l.invariant.4,
      found.3 old l.invariant.5,
      omega (arith, count_put k d old, l.invariant.6),
      omega (arith, c.members-test.true),
    )
