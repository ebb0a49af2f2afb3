-- Names that a leaf does not have, once it has opened a table.
use Rattle.std.proofs.Common.{◌≡◌, ℕ, Bool, true, false, List, sym, subst, refl, arith}
use Rattle.region_layout.specs.Region.{reads}
use Rattle.berth_face.specs.Berth.{Meaning}
use Rattle.leaf_history.specs.History.{no_base}
use Rattle.disk_backup.proofs.SoundLogs.{none_short}
use Rattle.crash_moments.specs.Left.{NamedStates, Left}
use Rattle.crash_moments.specs.Watched.{Watched, IsFoundation, by_name, others_then, state_then, was_opened}
use Rattle.crash_states.specs.Laws.{IsLeftNow}

-- names of which nothing stands
abbrev pub no_others : NamedStates
no_others = λ name. no_base

pub nothing_sound : (name : List ℕ) → IsFoundation (no_others name)
nothing_sound name = record { before = refl; handed_in = refl; taken = omega arith; short = none_short }

-- whatever stood of them before the leaf opened a table
others_gone : (others : NamedStates) (opened : Bool) → opened ≡ true → others_then opened others ≡ others_then opened no_others
others_gone others true is = refl
others_gone others false is = absurd cc

pub left_others : (ws : List Watched) (others : NamedStates) (m : Meaning) → was_opened m.clock ws ≡ true → IsLeftNow ws no_others m → IsLeftNow ws others m
left_others ws others m opened now = λ p left.
    subst (λ (outside : NamedStates). Left reads (by_name (state_then m.clock) outside ws) p) (sym (others_gone others (was_opened m.clock ws) opened)) (now p left)
