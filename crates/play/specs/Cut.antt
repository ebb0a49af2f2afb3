-- What a run that stops early has played and written.
use Rattle.std.specs.Prelude.{◌≡◌, ◌⊎◌, ℕ, ◌≤◌, List, [], ◌∷◌, ◌++◌, length, map, Option}
use Rattle.berth_face.specs.Berth.{Meaning}
use Rattle.berth_face.specs.Streams.{Written}
use Rattle.crash_moments.specs.Left.{NamedStates}
use Rattle.rollover_watch.specs.Watches.{Held}
use Rattle.script_text.specs.declared.item.Item.{Item}
use Rattle.printed_lines.specs.declared.line.Line.{Line}
use Rattle.printed_lines.specs.Lines.{lines_text}
use Rattle.lane_play.specs.Shortened.{Begins, BeginsItem}
use Rattle.transcript.specs.Pieces.{PlayedItem, all_lines, item_lines, item_of, script_fleet}
use Rattle.transcript.specs.Transcript.{Known}
use Rattle.transcript.specs.Leaving.{AreKnown, IsToldRun}

-- ---- which commands were played

-- A prefix of these items was played. Its last item may be a burst of which only prefixes of the lanes were.
abbrev pub PlaysSome : List Item → List Item → Type 0
PlaysSome items played = Begins played items
    ⊎ ((before behind : List Item) × (last of : Item) × (items ≡ before ++ of ∷ behind) × BeginsItem last of × (played ≡ before ++ last ∷ []))

-- ---- how much of their text was written

-- the lines of the last item, if there is one
abbrev pub last_lines : List PlayedItem → List Line
last_lines [] = []
last_lines (x ∷ []) = item_lines x
last_lines (x ∷ y ∷ more) = last_lines (y ∷ more)

module _ {B : Type 0} (meaning : B → Meaning) (olds news : List B) where
  -- Some of the items were played. Their transcript says what a finished run of them would say. All of its text was
  -- written but `rest`, which belongs to the last of them.
  pub record IsShortened (base : ℕ → Option NamedStates) (items : List Item) (was now : Option (List ℕ)) (before after : List Held) : Type 0 where
    pub played : List PlayedItem
    pub some : PlaysSome items (map item_of played)
    pub rest : List ℕ
    pub written : Written was now (lines_text (script_fleet items).names (all_lines played)) rest
    pub last : length rest ≤ length (lines_text (script_fleet items).names (last_lines played))
    -- of a burst that was not played whole, nothing was written
    pub cut : Begins (map item_of played) items ⊎ (rest ≡ lines_text (script_fleet items).names (last_lines played))
    pub told : (known : ℕ → Option Known) → AreKnown meaning olds news base known → IsToldRun meaning olds news (map item_of played) known (all_lines played) before after
