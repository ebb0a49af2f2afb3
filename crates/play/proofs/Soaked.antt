-- The leaves of a soak, and what is taken of a source where none is read.
use Rattle.std.proofs.Common.{◌≡◌, ◌≤◌, ◌∙◌, ℕ, Bool, true, false, List, [], Option, Some, None, refl, sym, ap, subst, arith}
use Rattle.std.specs.Prelude.{if◌then◌else◌}
use Rattle.berth_face.specs.Streams.{TakesAtMost}
use Rattle.script_text.specs.declared.script.Script.{Script}
use Rattle.row_model.specs.declared.script_fault.Why.TheVariants as why
use Rattle.soak.specs.Soak.{soak_script}
use Rattle.run_ends.specs.Outcome.{IfScript, TakesText}
use Rattle.run_ends.specs.Source.{longest_text}
use Rattle.run_ends.specs.declared.status.Status.{Status}
use Rattle.run_ends.specs.declared.status.Status.TheVariants as status
use Rattle.play.specs.Played.{leaves_in, soak_leaves}

-- its script makes as many
pub soak_count : (seed rows : ℕ) → leaves_in (soak_script seed rows).items ≡ soak_leaves
unfolding soak_script
soak_count seed rows = refl

-- so many berths are enough for it
pub soak_enough : (script : Script) (seed rows berths : ℕ) → script ≡ soak_script seed rows → soak_leaves ≤ berths → leaves_in script.items ≤ berths
soak_enough script seed rows berths is enough = subst (λ n. n ≤ berths) (sym (ap (λ (s : Script). leaves_in s.items) is ∙ soak_count seed rows)) enough

-- nothing is no more than so many bytes
takes_none : (before : Option (List ℕ)) (n : ℕ) → TakesAtMost before before n
takes_none None n = ([], tt, omega arith)
takes_none (Some text) n = ([], refl, omega arith)

-- where nothing is taken, no text is too long
not_long : (few : Bool) (line : ℕ) → (if few then status.Script 0 why.NoBerth else status.Done) ≡ status.Script line why.TooLong → ⊥
not_long true line e = cc
not_long false line e = cc

pub none_taken : (few : Bool) (before : Option (List ℕ)) (s : Status) → IfScript s (λ line w. (if few then status.Script 0 why.NoBerth else status.Done) ≡ status.Script line w) → TakesText s before before
none_taken few before (status.Script line why.TooLong) causes = absurd (not_long few line causes)
none_taken few before _ causes = takes_none before longest_text
