-- What holds of what was read still holds with one line more.
use Rattle.std.proofs.Common.{◌≡◌, ◌<◌, ◌≤◌, ◌+◌, ◌++◌, ◌||◌, ℕ, List, [], ◌∷◌, length, refl, ap, sym, ◌∙◌, arith, Result, Ok, Err, Bool, true, false, true≢false, subst, length-append}
use Rattle.std.proofs.lemmas.Bool.{eqb-true}
use Rattle.std.proofs.lemmas.Bool.Decides.{nat_tests}
use Rattle.std.proofs.lemmas.List.Folds.{list_any-append}
use Rattle.std.proofs.lemmas.List.Elements.{filter-append}
use Rattle.std.specs.List.{AllByRecursion, filter, list_any}
use Rattle.std.specs.Prelude.{IfOk, nat_lt}
use Rattle.script_text.specs.declared.command.Command.{Command}
use Rattle.script_text.specs.declared.command.Command.TheVariants as command
use Rattle.row_model.specs.declared.script_fault.ScriptFault.{ScriptFault}
use Rattle.script_text.specs.declared.fleet.FleetShape.{FleetShape}
use Rattle.script_text.specs.declared.item.Item.{Item}
use Rattle.script_text.specs.declared.item.Item.TheVariants as item
use Rattle.script_text.specs.declared.reading.Reading.{Reading}
use Rattle.script_text.specs.declared.reading.Position.{Position}
use Rattle.script_text.specs.declared.reading.Position.TheVariants as position
use Rattle.script_text.specs.declared.reading.LineRead.{LineRead}
use Rattle.script_text.specs.declared.script.Script.{Script}
use Rattle.script_text.specs.declared.line_word.LineWord.{LineWord}
use Rattle.script_text.specs.declared.line_word.LineWord.TheVariants as line_word
use Rattle.script_text.specs.Aims.{Aim, AtLeaf, AtLeaves, aim_of, is_for_some_steward, is_for_steward, is_second_for}
use Rattle.script_text.specs.Bursts.{end_burst, inside, next_lane, stepped, line_at, with_item, with_standing}
use Rattle.script_text.specs.Commands.{Fault, IsFleet, leaf_count}
use Rattle.script_text.specs.Fits.{AreItems, IsAlone, IsBurst, IsCommand, IsItem, IsScript, OneSteward, TellAbove, TellsDeclared, declared_by, declared_in}
use Rattle.text_lines.specs.Lines.{is_blank}
use Rattle.script_text.specs.Readings.{Begun, IsReading}
use Rattle.script_text.specs.Script.{ParsesAs, closed}
use Rattle.script_text.specs.Stewards.{has_steward, has_stewards, is_a_stewards, is_second, is_stewards}
use Rattle.script_text.proofs.Aimed.{second_aim, some_stewards_aim, stewards_aim}
use Rattle.script_text.proofs.Steps.{AllByRecursion-more}

-- ---- lists

all_parts : {X : Type 0} (P : X → Type 0) (xs : List X) (x : X) → AllByRecursion P (xs ++ x ∷ []) → AllByRecursion P xs × P x
all_parts P [] x all = (tt, all.0)
all_parts P (y ∷ ys) x all = let parts = all_parts P ys x all.1 in ((all.0, parts.0), parts.1)

abbrev one_if : Bool → ℕ
one_if true = 1
one_if false = 0

one_passes : {X : Type 0} (p : X → Bool) (x : X) (b : Bool) → p x ≡ b → length (filter p (x ∷ [])) ≡ one_if b
one_passes p x true is = rw is
one_passes p x false is = rw is

-- how many pass of a list and one more
count_more : {X : Type 0} (p : X → Bool) (xs : List X) (x : X) → length (filter p (xs ++ x ∷ [])) ≡ length (filter p xs) + one_if (p x)
count_more p xs x = ap length (filter-append p xs (x ∷ [])) ∙ length-append (filter p xs) (filter p (x ∷ [])) ∙ ap (λ n. length (filter p xs) + n) (one_passes p x (p x) refl)

none_pass_by : {X : Type 0} (p : X → Bool) (x : X) (xs : List X) (b : Bool) → p x ≡ b → list_any p (x ∷ xs) ≡ false → (list_any p xs ≡ false → length (filter p xs) ≡ 0) → length (filter p (x ∷ xs)) ≡ 0
none_pass_by p x xs true is none later = absurd (true≢false (subst (λ b. (b || list_any p xs) ≡ false) is none))
none_pass_by p x xs false is none later = rw is (later (subst (λ b. (b || list_any p xs) ≡ false) is none))

none_pass : {X : Type 0} (p : X → Bool) (xs : List X) → list_any p xs ≡ false → length (filter p xs) ≡ 0
none_pass p [] none = refl
none_pass p (x ∷ xs) none = none_pass_by p x xs (p x) refl none (none_pass p xs)

length_more : {X : Type 0} (xs : List X) (x : X) → length (xs ++ x ∷ []) ≡ length xs + 1
length_more xs x = length-append xs (x ∷ [])

-- ---- the steward's commands of a burst

-- a lane without a steward's command has none of any leaf
or_none : (a b : Bool) → (a || b) ≡ false → (a ≡ false) × (b ≡ false)
or_none true b e = absurd (true≢false e)
or_none false b e = (refl, e)

or_nones : (a b : Bool) → a ≡ false → b ≡ false → (a || b) ≡ false
or_nones true b e f = absurd (true≢false e)
or_nones false b e f = f

not_his_aim : (leaf : ℕ) (aim : Aim) → is_for_some_steward aim ≡ false → is_for_steward leaf aim ≡ false
not_his_aim leaf (AtLeaf number) e = absurd (true≢false e)
not_his_aim leaf AtLeaves e = absurd (true≢false e)
not_his_aim leaf _ e = refl

not_his : (leaf : ℕ) (c : Command) → is_a_stewards c ≡ false → is_stewards leaf c ≡ false
not_his leaf c e = stewards_aim leaf c ∙ not_his_aim leaf (aim_of c) (sym (some_stewards_aim c) ∙ e)

lane_none : (leaf : ℕ) (lane : List Command) → has_stewards lane ≡ false → has_steward leaf lane ≡ false
lane_none leaf [] e = refl
lane_none leaf (c ∷ lane) e =
    let parts = or_none (is_a_stewards c) (has_stewards lane) e in
    or_nones (is_stewards leaf c) (has_steward leaf lane) (not_his leaf c parts.0) (lane_none leaf lane parts.1)

lanes_none : (leaf : ℕ) (lanes : List (List Command)) → list_any has_stewards lanes ≡ false → list_any (has_steward leaf) lanes ≡ false
lanes_none leaf [] e = refl
lanes_none leaf (lane ∷ lanes) e =
    let parts = or_none (has_stewards lane) (list_any has_stewards lanes) e in
    or_nones (has_steward leaf lane) (list_any (has_steward leaf) lanes) (lane_none leaf lane parts.0) (lanes_none leaf lanes parts.1)

-- a steward's command of a leaf that is no second one stands behind lanes without such
not_second_aim : (leaf : ℕ) (aim : Aim) (lanes : List (List Command)) → is_for_steward leaf aim ≡ true → is_second_for lanes aim ≡ false → list_any (has_steward leaf) lanes ≡ false
not_second_aim leaf (AtLeaf number) lanes is not = sym (ap (λ l. list_any (has_steward l) lanes) (eqb-true number leaf is)) ∙ not
not_second_aim leaf AtLeaves lanes is not = lanes_none leaf lanes not
not_second_aim leaf _ lanes is not = absurd (true≢false (sym is))

not_second : (leaf : ℕ) (c : Command) (lanes : List (List Command)) → is_stewards leaf c ≡ true → is_second lanes c ≡ false → list_any (has_steward leaf) lanes ≡ false
not_second leaf c lanes is not = not_second_aim leaf (aim_of c) lanes (sym (stewards_aim leaf c) ∙ is) (sym (second_aim lanes c) ∙ not)

one_if_few : (b : Bool) → one_if b ≤ 1
one_if_few true = omega arith
one_if_few false = omega arith

or_false : (b : Bool) → (b || false) ≡ b
or_false true = refl
or_false false = refl

stewards_more : (earlier : List (List Command)) (lane : List Command) (c : Command) → is_second earlier c ≡ false → OneSteward (earlier ++ lane ∷ []) → OneSteward (earlier ++ (lane ++ c ∷ []) ∷ [])
stewards_more earlier lane c not one leaf = by (is_stewards leaf c) refl
  where
    by : (b : Bool) → is_stewards leaf c ≡ b → length (filter (has_steward leaf) (earlier ++ (lane ++ c ∷ []) ∷ [])) ≤ 1
    by true is =
        let none : length (filter (has_steward leaf) earlier) ≡ 0 = none_pass (has_steward leaf) earlier (not_second leaf c earlier is not) in
        let few : one_if (has_steward leaf (lane ++ c ∷ [])) ≤ 1 = one_if_few (has_steward leaf (lane ++ c ∷ [])) in
        let count = count_more (has_steward leaf) earlier (lane ++ c ∷ []) in
        omega (arith, none, few, count)
    by false is =
        let same : has_steward leaf (lane ++ c ∷ []) ≡ has_steward leaf lane =
        list_any-append (is_stewards leaf) lane (c ∷ []) ∙ ap (λ b. has_steward leaf lane || (b || false)) is ∙ or_false (has_steward leaf lane) in
        let before : length (filter (has_steward leaf) earlier) + one_if (has_steward leaf lane) ≤ 1 = subst (λ n. n ≤ 1) (count_more (has_steward leaf) earlier lane) (one leaf) in
        let count : length (filter (has_steward leaf) (earlier ++ (lane ++ c ∷ []) ∷ [])) ≡ length (filter (has_steward leaf) earlier) + one_if (has_steward leaf lane) =
        count_more (has_steward leaf) earlier (lane ++ c ∷ []) ∙ ap (λ b. length (filter (has_steward leaf) earlier) + one_if b) same in
        subst (λ n. n ≤ 1) (sym count) before

stewards_lane : (lanes : List (List Command)) → OneSteward lanes → OneSteward (lanes ++ [] ∷ [])
stewards_lane lanes one leaf =
    let count = count_more (has_steward leaf) lanes [] in
    let few : length (filter (has_steward leaf) lanes) ≤ 1 = one leaf in
    omega (arith, count, few)

-- ---- the lanes of a burst

burst_more : (leaves : ℕ) (tables : List (List ℕ)) (earlier : List (List Command)) (lane : List Command) (c : Command) → is_second earlier c ≡ false → IsCommand leaves tables c → IsBurst leaves tables (earlier ++ lane ∷ []) → IsBurst leaves tables (earlier ++ (lane ++ c ∷ []) ∷ [])
burst_more leaves tables earlier lane c not fits b =
    let parts = all_parts (AllByRecursion (IsCommand leaves tables)) earlier lane b.each in
    let old = length_more earlier lane in
    let new = length_more earlier (lane ++ c ∷ []) in
    let few : length (earlier ++ lane ∷ []) ≤ 16 = b.few in
    record {
      some = omega (arith, new);
      few = omega (arith, old, new, few);
      each = AllByRecursion-more (AllByRecursion (IsCommand leaves tables)) earlier (lane ++ c ∷ []) parts.0 (AllByRecursion-more (IsCommand leaves tables) lane c parts.1 fits);
      stewards = stewards_more earlier lane c not b.stewards;
    }

burst_lane : (leaves : ℕ) (tables : List (List ℕ)) (lanes : List (List Command)) → length lanes < 16 → AllByRecursion (AllByRecursion (IsCommand leaves tables)) lanes → OneSteward lanes → IsBurst leaves tables (lanes ++ [] ∷ [])
burst_lane leaves tables lanes few each one =
    let new = length_more lanes [] in
    record {
      some = omega (arith, new);
      few = omega (arith, new, few);
      each = AllByRecursion-more (AllByRecursion (IsCommand leaves tables)) lanes [] each tt;
      stewards = stewards_lane lanes one;
    }

-- ---- what was read

-- a standing query that is told in one item more is declared in those before it
told_more : (declared : ℕ) (items : List Item) (one : Item) → TellAbove declared items → TellsDeclared (declared + declared_in items) one → TellAbove declared (items ++ one ∷ [])
told_more declared [] one told tells = let none : declared + 0 ≡ declared = omega arith in (subst (λ n. TellsDeclared n one) none tells, tt)
told_more declared (item ∷ items) one told tells =
    let sum : declared + (declared_by item + declared_in items) ≡ declared + declared_by item + declared_in items = omega arith in
    (told.0, told_more (declared + declared_by item) items one told.1 (subst (λ n. TellsDeclared n one) sum tells))

declared_more : (items : List Item) (one : Item) → declared_in (items ++ one ∷ []) ≡ declared_in items + declared_by one
declared_more [] one = omega arith
declared_more (item ∷ items) one = let later = declared_more items one in omega (arith, later)

begun_more : (fleet : FleetShape) (script more : Script) (one : Item) → Begun fleet script → IsItem (leaf_count fleet) fleet.names one → TellsDeclared script.standings one → more.items ≡ script.items ++ one ∷ []
    → more.standings ≡ script.standings + declared_by one → more.standings ≤ 16 → Begun fleet more
begun_more fleet script more one b fits tells is counts few =
    let sum : 0 + declared_in script.items ≡ declared_in script.items = omega arith in record {
      later = b.later ++ one ∷ [];
      all = is ∙ ap (λ items. items ++ one ∷ []) b.all;
      each = AllByRecursion-more (IsItem (leaf_count fleet) fleet.names) b.later one b.each fits;
      told = subst (TellAbove 0) (sym is) (told_more 0 script.items one b.told (subst (λ n. TellsDeclared n one) (sym sum) (subst (λ n. TellsDeclared n one) b.declared tells)));
      declared = counts ∙ (ap (λ n. n + declared_by one) b.declared ∙ (sym (declared_more script.items one) ∙ ap declared_in (sym is)));
      few = few;
    }

-- a command that may stand in a burst declares no standing query, and tells none
command_declares : (leaves : ℕ) (tables : List (List ℕ)) (c : Command) → IsCommand leaves tables c → declared_by (item.One c) ≡ 0
command_declares leaves tables (command.Standing leaf query) is = absurd is
command_declares leaves tables _ is = refl

command_tells : (leaves : ℕ) (tables : List (List ℕ)) (declared : ℕ) (c : Command) → IsCommand leaves tables c → TellsDeclared declared (item.One c)
command_tells leaves tables declared (command.Tell number) is = absurd is
command_tells leaves tables declared _ is = tt

command_alone : (leaves : ℕ) (tables : List (List ℕ)) (c : Command) → IsCommand leaves tables c → IsAlone leaves tables c
command_alone leaves tables (command.Standing leaf query) is = absurd is
command_alone leaves tables (command.Tell number) is = absurd is
command_alone leaves tables _ is = is

declaring_tells : (declared : ℕ) (c : Command) → declared_by (item.One c) ≡ 1 → TellsDeclared declared (item.One c)
declaring_tells declared (command.Tell number) is = absurd (omega (arith, is))
declaring_tells declared _ is = tt

-- what is read with a command outside bursts, with what a standing query tells, and with one that is declared
pub command_outside_keeps : (fleet : FleetShape) (script : Script) (c : Command) (rows : ℕ) → IsReading fleet (record { script = script; position = position.Outside }) → IsCommand (leaf_count fleet) fleet.names c
    → IsReading fleet (stepped (with_item script (item.One c)) position.Outside rows).reading
command_outside_keeps fleet script c rows r is =
    let none : declared_by (item.One c) ≡ 0 = command_declares (leaf_count fleet) fleet.names c is in
    let few : script.standings ≤ 16 = r.items.few in
    record {
      items = begun_more fleet script (with_item script (item.One c)) (item.One c) r.items (command_alone (leaf_count fleet) fleet.names c is) (command_tells (leaf_count fleet) fleet.names script.standings c is) refl (omega (arith, none)) few;
      position = tt;
    }

pub tell_outside_keeps : (fleet : FleetShape) (script : Script) (c : Command) (rows : ℕ) → IsReading fleet (record { script = script; position = position.Outside }) → IsAlone (leaf_count fleet) fleet.names c → TellsDeclared script.standings (item.One c)
    → declared_by (item.One c) ≡ 0 → IsReading fleet (stepped (with_item script (item.One c)) position.Outside rows).reading
tell_outside_keeps fleet script c rows r is tells none =
    let few : script.standings ≤ 16 = r.items.few in
    record { items = begun_more fleet script (with_item script (item.One c)) (item.One c) r.items is tells refl (omega (arith, none)) few; position = tt }

pub standing_outside_keeps : (fleet : FleetShape) (script : Script) (c : Command) → IsReading fleet (record { script = script; position = position.Outside }) → IsAlone (leaf_count fleet) fleet.names c → declared_by (item.One c) ≡ 1
    → script.standings < 16 → IsReading fleet (stepped (with_standing script c) position.Outside 0).reading
standing_outside_keeps fleet script c r is one below =
    record { items = begun_more fleet script (with_standing script c) (item.One c) r.items is (declaring_tells script.standings c one) refl (omega (arith, one)) (omega (arith, below)); position = tt }

next_lane_by : (n : ℕ) (fleet : FleetShape) (script : Script) (lanes : List (List Command)) (blank few : Bool) (words : List ℕ) (s : LineRead) → is_blank words ≡ blank → nat_lt (length lanes) 16 ≡ few → Begun fleet script → AllByRecursion (AllByRecursion (IsCommand (leaf_count fleet) fleet.names)) lanes → OneSteward lanes → next_lane n script lanes words ≡ Ok s → IsReading fleet s.reading
next_lane_by n fleet script lanes true true words s is low b each one read =
    let same : Ok (stepped script (position.Lane lanes []) 0) ≡ Ok s = rw (is, low) at read in
    let there : stepped script (position.Lane lanes []) 0 ≡ s = cc in
    let below : length lanes < 16 = grind (arith, nat_tests, low) in
    let now : IsReading fleet (stepped script (position.Lane lanes []) 0).reading = record { items = b; position = burst_lane (leaf_count fleet) fleet.names lanes below each one } in
    subst (λ (t : LineRead). IsReading fleet t.reading) there now
next_lane_by n fleet script lanes true false words s is low b each one read = absurd (grind (arith, read, is, low))
next_lane_by n fleet script lanes false few words s is low b each one read = absurd (grind (arith, read, is))

pub lane_keeps : (n : ℕ) (fleet : FleetShape) (script : Script) (earlier : List (List Command)) (lane : List Command) (words : List ℕ) (s : LineRead) → IsReading fleet (record { script = script; position = position.Lane earlier lane }) → next_lane n script (earlier ++ lane ∷ []) words ≡ Ok s → IsReading fleet s.reading
lane_keeps n fleet script earlier lane words s r read =
    let lanes = earlier ++ lane ∷ [] in
    let b : IsBurst (leaf_count fleet) fleet.names lanes = r.position in
    next_lane_by n fleet script lanes (is_blank words) (nat_lt (length lanes) 16) words s refl refl r.items b.each b.stewards read

no_stewards : OneSteward []
no_stewards leaf = omega arith

inside_ok : (last : ℕ) (r : Result LineRead Fault) (s : LineRead) → inside last r ≡ Ok s → r ≡ Ok s
inside_ok last (Ok x) s is = is
inside_ok last (Err found) s is = absurd (grind (arith, is))

pub opened_keeps : (last n : ℕ) (fleet : FleetShape) (script : Script) (words : List ℕ) (more : List (List ℕ)) (v : LineWord) (s : LineRead) → IsReading fleet (record { script = script; position = position.Opened }) → line_at last n fleet script position.Opened words more v ≡ Ok s → IsReading fleet s.reading
opened_keeps last n fleet script words more line_word.Fleet s r read = absurd (grind (arith, read))
opened_keeps last n fleet script words more line_word.Burst s r read = absurd (grind (arith, read))
opened_keeps last n fleet script words more line_word.Lane s r read =
    let lane : next_lane n script [] words ≡ Ok s = inside_ok last (next_lane n script [] words) s read in
    next_lane_by n fleet script [] (is_blank words) true words s refl refl r.items tt no_stewards lane
opened_keeps last n fleet script words more line_word.End s r read = absurd (grind (arith, read))
opened_keeps last n fleet script words more line_word.Standing s r read = absurd (grind (arith, read))
opened_keeps last n fleet script words more line_word.Tell s r read = absurd (grind (arith, read))
opened_keeps last n fleet script words more (line_word.Command word) s r read = absurd (grind (arith, read))

pub command_keeps : (fleet : FleetShape) (script : Script) (earlier : List (List Command)) (lane : List Command) (c : Command) (rows : ℕ) → is_second earlier c ≡ false → IsCommand (leaf_count fleet) fleet.names c → IsReading fleet (record { script = script; position = position.Lane earlier lane }) → IsReading fleet (stepped script (position.Lane earlier (lane ++ c ∷ [])) rows).reading
command_keeps fleet script earlier lane c rows not fits r = record { items = r.items; position = burst_more (leaf_count fleet) fleet.names earlier lane c not fits r.position }

end_burst_by : (n : ℕ) (fleet : FleetShape) (script : Script) (lanes : List (List Command)) (blank : Bool) (words : List ℕ) (s : LineRead) → is_blank words ≡ blank → Begun fleet script → IsBurst (leaf_count fleet) fleet.names lanes → end_burst n script lanes words ≡ Ok s → IsReading fleet s.reading
end_burst_by n fleet script lanes true words s is begun_items b read =
    let same : Ok (stepped (with_item script (item.Burst lanes)) position.Outside 0) ≡ Ok s = rw is at read in
    let there : stepped (with_item script (item.Burst lanes)) position.Outside 0 ≡ s = cc in
    let now : IsReading fleet (stepped (with_item script (item.Burst lanes)) position.Outside 0).reading = record {
      items = begun_more fleet script (with_item script (item.Burst lanes)) (item.Burst lanes) begun_items b tt refl (omega arith) begun_items.few;
      position = tt;
    } in
    subst (λ (t : LineRead). IsReading fleet t.reading) there now
end_burst_by n fleet script lanes false words s is begun_items b read = absurd (grind (arith, read, is))

pub end_keeps : (n : ℕ) (fleet : FleetShape) (script : Script) (earlier : List (List Command)) (lane : List Command) (words : List ℕ) (s : LineRead) → IsReading fleet (record { script = script; position = position.Lane earlier lane }) → end_burst n script (earlier ++ lane ∷ []) words ≡ Ok s → IsReading fleet s.reading
end_keeps n fleet script earlier lane words s r read = end_burst_by n fleet script (earlier ++ lane ∷ []) (is_blank words) words s refl r.items r.position read

pub end_keeps_as : (n : ℕ) (fleet : FleetShape) (script : Script) (earlier : List (List Command)) (lane : List Command) (lanes : List (List Command)) (words : List ℕ) (r : Result LineRead ScriptFault) → IsReading fleet (record { script = script; position = position.Lane earlier lane }) → lanes ≡ earlier ++ lane ∷ [] → ParsesAs (λ step. step) r (end_burst n script lanes words) → IfOk r (λ step. IsReading fleet step.reading)
end_keeps_as n fleet script earlier lane lanes words (Ok s) reading is exact = end_keeps n fleet script earlier lane words s reading (ap (λ ls. end_burst n script ls words) (sym is) ∙ exact)
end_keeps_as n fleet script earlier lane lanes words (Err e) reading is exact = tt

pub opened_keeps_as : (last n : ℕ) (fleet : FleetShape) (script : Script) (words : List ℕ) (more : List (List ℕ)) (v : LineWord) (r : Result LineRead ScriptFault) → IsReading fleet (record { script = script; position = position.Opened }) → ParsesAs (λ step. step) r (line_at last n fleet script position.Opened words more v) → IfOk r (λ step. IsReading fleet step.reading)
opened_keeps_as last n fleet script words more v (Ok s) reading exact = opened_keeps last n fleet script words more v s reading exact
opened_keeps_as last n fleet script words more v (Err e) reading exact = tt

-- ---- the whole script

fits_all : (fleet : FleetShape) (script : Script) → IsFleet fleet → IsReading fleet (record { script = script; position = position.Outside }) → IsScript script
fits_all fleet script f r = record {
  items = subst AreItems (sym r.items.all) (f.0, f.1, r.items.each);
  told = r.items.told;
  few = subst (λ n. n ≤ 16) r.items.declared r.items.few;
}

closed_by : (last : ℕ) (fleet : FleetShape) (script s : Script) (there : Position) → IsFleet fleet → IsReading fleet (record { script = script; position = there }) → closed last script there ≡ Ok s → IsScript s
closed_by last fleet script s position.Outside f r read = let same : script ≡ s = cc in subst IsScript same (fits_all fleet script f r)
closed_by last fleet script s position.Opened f r read = absurd (grind (arith, read))
closed_by last fleet script s (position.Lane earlier lane) f r read = absurd (grind (arith, read))

pub closed_fits : (last : ℕ) (fleet : FleetShape) (reading : Reading) (s : Script) → IsFleet fleet → IsReading fleet reading → closed last reading.script reading.position ≡ Ok s → IsScript s
closed_fits last fleet reading s f r read = closed_by last fleet reading.script s reading.position f r read

pub closed_fits_as : (last : ℕ) (fleet : FleetShape) (reading : Reading) (r : Result Script ScriptFault) → IsFleet fleet → IsReading fleet reading → ParsesAs (λ s. s) r (closed last reading.script reading.position) → IfOk r IsScript
closed_fits_as last fleet reading (Ok s) f is read = closed_fits last fleet reading s f is read
closed_fits_as last fleet reading (Err e) f is read = tt
