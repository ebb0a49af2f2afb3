-- What the state of a standing query tells.
use Rattle.std.specs.Prelude.{◌≡◌, ℕ, List}
use Rattle.std.specs.List.{AllByRecursion}
use Rattle.row_model.specs.declared.rows.Row.{Row}
use Rattle.leaf_model.specs.Groups.{groups}
use Rattle.row_model.specs.Values.{IsTime}
use Rattle.answer_text.specs.Answer.{answer_lines}
use Rattle.standing_query.specs.States.{Means, StandingState}

-- the lines that answer the query, over whatever rows the state means
abbrev pub IsAnswerOf : StandingState → List (List ℕ) → Type 0
IsAnswerOf s texts = (rows : List Row) → Means s rows → AllByRecursion (λ (row : Row). IsTime row.time) rows → texts ≡ answer_lines s.query (groups s.query rows)
