-- A text is refused with its own first fault, which is none of a caller's limits.
use Rattle.std.proofs.Common.{◌≡◌, ◌≤◌, ◌∙◌, ℕ, false, List, length, Option, Err, ap, arith}
use Rattle.std.specs.Prelude.{nat_lt}
use Rattle.std.proofs.lemmas.Bool.{cond-false}
use Rattle.std.proofs.lemmas.Bool.Decides.{nat_tests}
use Rattle.berth_face.specs.Streams.{ReadsAll, TakesAtMost}
use Rattle.row_model.specs.declared.script_fault.Why.TheVariants as why
use Rattle.row_model.specs.declared.script_fault.ScriptFault.{ScriptFault}
use Rattle.row_model.specs.declared.script_fault.ScriptFault.TheVariants.{At, NoMemory}
use Rattle.script_text.specs.Script.{IfAt, script_of}
use Rattle.script_text.proofs.Own.{own_fault}
use Rattle.run_ends.specs.Outcome.{IsRefused, TakesText, IfScript, if_short}
use Rattle.run_ends.specs.Source.{longest_text}
use Rattle.run_ends.specs.declared.status.Status.{Status}
use Rattle.run_ends.specs.declared.status.Status.TheVariants as status
use Rattle.play.specs.Outcome.{play_verdict, status_of_fault, status_played}

-- the status of a text that is not too long is what it comes to
short_decides : (text : List ℕ) (s : Status) → length text ≤ longest_text → if_short text s ≡ s
short_decides text s small =
    let short : nat_lt longest_text (length text) ≡ false = grind (arith, nat_tests, small) in
    cond-false (nat_lt longest_text (length text)) (status.Script 0 why.TooLong) s short

-- the text's first fault is this
abbrev pub Found : List ℕ → ScriptFault → Type 0
Found text fault = IfAt fault (λ line w. script_of text ≡ Err (line, w))

pub no_play_fault : (berths : ℕ) (before after : Option (List ℕ)) (text : List ℕ) (fault : ScriptFault) → ReadsAll before after text → length text ≤ longest_text → Found text fault
    → IfScript (status_of_fault fault) (IsRefused (play_verdict berths) before after)
no_play_fault berths before after text (At line why.TooLong) r small e = absurd (own_fault text line why.TooLong e)
no_play_fault berths before after text (At line _) r small e = (text, r, short_decides text (status_played berths (script_of text)) small ∙ ap (status_played berths) e)
no_play_fault berths before after text NoMemory r small e = tt

pub no_more_fault : (before after : Option (List ℕ)) (text : List ℕ) (fault : ScriptFault) → Found text fault → TakesAtMost before after longest_text → TakesText (status_of_fault fault) before after
no_more_fault before after text (At line why.TooLong) e t = absurd (own_fault text line why.TooLong e)
no_more_fault before after text (At line _) e t = t
no_more_fault before after text NoMemory e t = t
