use Rattle.std.proofs.Common.{◌≡◌, ℕ, ◌-◌, ◌≤◌, length, true}
use Rattle.json.specs.Json.{members, value}
use Rattle.json.specs.Lex.{Place, fresh, may_begin}
use Rattle.serde_json.specs.Data.{Members, no_members}
use Rattle.serde_json.specs.Read.{of_members, converted}
use Rattle.row_json.specs.Row.{cell_count}
use Rattle.row_json.specs.Quick.{AreFine, Knows}
use Rattle.row_json.specs.Plain.{json_tokens_from}
use Rattle.row_json.proofs.walk.members_time.Given as goal

abbrev pub invariant-members : goal.invariant-members
invariant-members l =
    (n : ℕ) × (old : Members) × (p : Place) × (may_begin p ≡ true) × (length (json_tokens_from p l.rest) ≤ n)
    × (converted (λ ms. of_members ms no_members) (members (value 126) (length (json_tokens_from fresh l.text)) (json_tokens_from fresh l.text)) ≡ converted (λ ms. of_members ms old) (members (value 126) n (json_tokens_from p l.rest)))
    × AreFine old × Knows l.time old × (cell_count old ≤ l.count) × (l.count ≤ 1024)

abbrev pub decreases-members : goal.decreases-members
decreases-members l = 1024 - l.count
