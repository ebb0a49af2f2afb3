-- What one entry of a table's legal history makes of the rows that a state of a standing query knows.
use Rattle.std.proofs.Common.{◌≡◌, ℕ, zero, suc, ◌+◌, ◌-◌, ◌≤◌, Bool, true, false, true≢false, ◌||◌, cond, Option, Some, ℤ, int_le, int_lt, refl, sym, ap, ap₂, subst, ◌∙◌, arith}
use Rattle.std.specs.Prelude.{if◌then◌else◌, ⊤, List, [], ◌∷◌, length, take, drop, filter, slice_get}
use Rattle.std.specs.Int.{int_max}
use Rattle.std.specs.List.{AllByRecursion, list_any}
use Rattle.std.proofs.lemmas.Bool.{ltb-false, true_from_ne_false}
use Rattle.std.proofs.lemmas.Int.{ints}
use Rattle.std.proofs.lemmas.List.{length-drop}
use Rattle.std.proofs.lemmas.List.Elements.{All-drop, All-filter, All-from_recursion, filter_passes, recursion_from_All}
use Rattle.std.proofs.lemmas.List.Sums.{count_by-le-length, fold-append, length-filter}
use Rattle.std.proofs.lemmas.Option.{same_Some}
use Rattle.leaf_model.specs.declared.groups.Group.{Group}
use Rattle.leaf_model.specs.declared.queries.Query.{Query}
use Rattle.row_model.specs.declared.rows.Row.{Row}
use Rattle.leaf_model.specs.declared.writes.Write.{Write}
use Rattle.leaf_model.specs.declared.writes.Write.TheVariants as write
use Rattle.leaf_model.specs.Content.{Contents, content_after, last_rows, rows_from}
use Rattle.row_model.specs.Values.{IsTime}
use Rattle.leaf_history.specs.Calls.{Call}
use Rattle.leaf_history.specs.Calls as call
use Rattle.leaf_history.specs.Replies.{EntryReply}
use Rattle.leaf_history.specs.Replies as reply
use Rattle.leaf_history.specs.History.{Allowed, Entry, HistoryState, LegalFrom, after, after_entry, changed, contents_held, is_refusal, written}
use Rattle.printed_lines.specs.declared.line.Said.{Said}
use Rattle.printed_lines.specs.declared.line.Said.TheVariants as said
use Rattle.standing_query.specs.declared.fed.Fed.{Fed}
use Rattle.standing_query.specs.declared.fed.Fed.TheVariants as fed
use Rattle.standing_query.specs.States.{FedTo, Means, StandingState, is_end}
use Rattle.standing_feed.specs.declared.heard.Heard.{Heard}
use Rattle.standing_feed.specs.declared.meant.Meant.{Meant}
use Rattle.standing_feed.specs.declared.meant.Meant.TheVariants as meant
use Rattle.standing_feed.specs.Hearing.{fed_by_call}
use Rattle.transcript.specs.Histories.{BaseState, Shown, ShowsEntry, rows_before}
use Rattle.transcript.specs.Telling.{ends_state}
use Rattle.transcript_standing.specs.Followed.{AreTimes}
use Rattle.transcript_standing.proofs.Lists.{All-joined}
use Rattle.transcript_standing.proofs.HeardPieces.{fed_of, meant_of}
use Rattle.transcript_standing.proofs.Numbers.{ShowsIn}

-- ---- what a table holds

abbrev pub contents_before : BaseState → List Entry → ℕ → Contents
contents_before g entries number = contents_held (after g.founded g.base (take (number - 1) entries))

-- behind the first n entries
abbrev pub contents_behind : BaseState → List Entry → ℕ → Contents
contents_behind g entries n = contents_before g entries (n + 1)

abbrev pub rows_behind : BaseState → List Entry → ℕ → List Row
rows_behind g entries n = rows_before g entries (n + 1)

-- None of its rows is below its horizon. A table that is opened with any contents need not have this.
abbrev pub NoneBelow : Contents → Type 0
NoneBelow c = AllByRecursion (λ (row : Row). int_le c.horizon row.time ≡ true) c.rows

-- a fresh state means the rows behind the first n entries, these have times, and none of them is below the table's
-- horizon
abbrev pub Knows : BaseState → List Entry → ℕ → StandingState → Type 0
Knows g entries n t = Means t (rows_behind g entries n) × AreTimes (rows_behind g entries n) × NoneBelow (contents_behind g entries n)

-- what holds of the state t that s comes to by these lines, the last of which has the number m
pub record FedBehind (g : BaseState) (entries : List Entry) (ss : List Shown) (m : ℕ) (s t : StandingState) : Type 0 where
  pub upto : t.upto ≡ m
  pub query : t.query ≡ s.query
  pub stale : t.stale ≡ (s.stale || list_any (λ (e : Shown). ends_state e.call e.said) ss)
  pub means : t.stale ≡ false → Knows g entries m t

-- ---- rows

module _ {X : Type 0} (P : X → Type 0) where
  each-drop : (n : ℕ) (xs : List X) → AllByRecursion P xs → AllByRecursion P (drop n xs)
  each-drop n xs a = recursion_from_All P (drop n xs) (All-drop P n xs (All-from_recursion P xs a))

  each-filter : (test : X → Bool) (xs : List X) → AllByRecursion P xs → AllByRecursion P (filter test xs)
  each-filter test xs a = recursion_from_All P (filter test xs) (All-filter test P xs (All-from_recursion P xs a))

-- a filter leaves what passes it, and no more than there was
none_from : (h : ℤ) (rows : List Row) → AllByRecursion (λ (row : Row). int_le h row.time ≡ true) (rows_from h rows)
none_from h rows = recursion_from_All (λ (row : Row). int_le h row.time ≡ true) (rows_from h rows) (filter_passes (λ (row : Row). int_le h row.time) rows)

few_from : (h : ℤ) (rows : List Row) → length (rows_from h rows) ≤ length rows
few_from h rows = subst (λ (n : ℕ). n ≤ length rows) (sym (length-filter (λ (row : Row). int_le h row.time) rows)) (count_by-le-length (λ (row : Row). int_le h row.time) rows)

-- where nothing is below the old horizon, an expiry removes what is below its own
same_test : (before horizon time : ℤ) → int_le before time ≡ true → int_le (int_max before horizon) time ≡ int_le horizon time
same_test before horizon time is = by (int_lt horizon before) refl
  where
    by : (b : Bool) → int_lt horizon before ≡ b → int_le (cond b before horizon) time ≡ int_le horizon time
    by true e = is ∙ sym (true_from_ne_false (int_le horizon time) (λ no. omega (arith, ints, e, is, no)))
    by false e = refl

expires : (before horizon : ℤ) (rows : List Row) → AllByRecursion (λ (row : Row). int_le before row.time ≡ true) rows → rows_from (int_max before horizon) rows ≡ rows_from horizon rows
expires before horizon [] all = refl
expires before horizon (x ∷ xs) all =
    ap₂ (λ (b : Bool) (left : List Row). cond b (x ∷ left) left) (same_test before horizon x.time all.0) (expires before horizon xs all.1)

-- a keep that removes nothing leaves all
keeps_all : (n k : ℕ) (rows : List Row) → n ≡ length rows - length (last_rows k rows) → n ≤ 0 → last_rows k rows ≡ rows
keeps_all n k rows is none =
    let long = length-drop (length rows - k) rows in
    let all : length rows - k ≡ 0 = omega (arith, long, is, none) in
    ap (λ (j : ℕ). drop j rows) all

-- ---- what an entry makes of the contents, unless it ends the state

pub record Step (c : Option Call) (d : Said) (before now : Contents) : Type 0 where
  pub feeds : FedTo (fed_of c d) before.rows now.rows
  pub none_below : NoneBelow now

-- it leaves them
stays : (c : Option Call) (d : Said) (before now : Contents) → fed_of c d ≡ fed.Other → now ≡ before → NoneBelow before → Step c d before now
stays c d before now other same below = record {
  feeds = subst (λ (f : Fed). FedTo f before.rows now.rows) (sym other) (ap (λ (x : Contents). x.rows) same);
  none_below = subst (λ (x : Contents). NoneBelow x) (sym same) below;
}

-- one more write
wrote : (s : HistoryState) (w : Write) (c : Option Call) (d : Said) → Step c d (contents_held s) (content_after (contents_held s) w) → Step c d (contents_held s) (contents_held (written s w))
wrote s w c d step = subst (λ (x : Contents). Step c d (contents_held s) x) (sym (fold-append content_after s.before s.writes (w ∷ []))) step

-- an entry of a steward is answered so, and none of a caller
pub added_noted : (kept late : ℕ) → reply.Added kept late ≡ reply.Noted → ⊥
added_noted kept late e = cc

removed_noted : (n : ℕ) → reply.Removed n ≡ reply.Noted → ⊥
removed_noted n e = cc

groups_noted : (gs : List Group) → reply.Groups gs ≡ reply.Noted → ⊥
groups_noted gs e = cc

module _ (founded : Bool) (s : HistoryState) (caller : ℕ) where
  added : (c : Call) (kept late : ℕ) → Allowed founded s caller c (reply.Added kept late) → NoneBelow (contents_held s) → Step (Some c) (said.Added kept late) (contents_held s) (contents_held (changed founded s c))
  added (call.Add rows) kept late a below =
      let few = few_from (contents_held s).horizon rows in
      let many : late + length (rows_from (contents_held s).horizon rows) ≡ length rows = omega (arith, few, a.1.3) in
      wrote s (write.Add rows) (Some (call.Add rows)) (said.Added kept late) (record {
        feeds = ((contents_held s).horizon, many, refl);
        none_below = All-joined (λ (row : Row). int_le (contents_held s).horizon row.time ≡ true) (contents_held s).rows (rows_from (contents_held s).horizon rows) below (none_from (contents_held s).horizon rows);
      })
  added _ kept late a below = absurd (search (a, added_noted kept late))

  removed : (c : Call) (n : ℕ) → Allowed founded s caller c (reply.Removed n) → is_end (fed_of (Some c) (said.Removed n)) ≡ false → NoneBelow (contents_held s)
      → Step (Some c) (said.Removed n) (contents_held s) (contents_held (changed founded s c))
  removed (call.Expire horizon) n a on below =
      wrote s (write.Expire horizon) (Some (call.Expire horizon)) (said.Removed n) (record {
        feeds = expires (contents_held s).horizon horizon (contents_held s).rows below;
        none_below = none_from (int_max (contents_held s).horizon horizon) (contents_held s).rows;
      })
  removed (call.Keep k) n a on below =
      wrote s (write.Keep k) (Some (call.Keep k)) (said.Removed n) (record {
        feeds = keeps_all n k (contents_held s).rows a.1.1 (ltb-false 0 n on);
        none_below = each-drop (λ (row : Row). int_le (contents_held s).horizon row.time ≡ true) (length (contents_held s).rows - k) (contents_held s).rows below;
      })
  removed _ n a on below = absurd (search (a, removed_noted n))

  asked : (c : Call) (gs : List Group) → Allowed founded s caller c (reply.Groups gs) → NoneBelow (contents_held s) → Step (Some c) said.Asked (contents_held s) (contents_held (changed founded s c))
  asked (call.Ask q) gs a below = stays (Some (call.Ask q)) said.Asked (contents_held s) (contents_held s) refl refl below
  asked _ gs a below = absurd (search (a, groups_noted gs))

-- refusals tell nothing
refused : (m : Meant) → (fed_by_call m said.RefusedShut ≡ fed.Other) × (fed_by_call m said.RefusedFull ≡ fed.Other) × (fed_by_call m said.RefusedMemory ≡ fed.Other)
refused (meant.Add rows) = (refl, refl, refl)
refused _ = (refl, refl, refl)

-- a caller's entry, by its call and its reply
called : (founded : Bool) (s : HistoryState) (e : Entry) (c : Option Call) (d : Said) (r : EntryReply) → c ≡ Some e.call → e.reply ≡ r
    → (Allowed founded s e.caller e.call r → Step (Some e.call) d (contents_held s) (contents_held (if is_refusal r then s else changed founded s e.call)))
    → Allowed founded s e.caller e.call e.reply → Step c d (contents_held s) (contents_held (after_entry founded s e))
called founded s e c d r is replied step =
    subst (λ (q : EntryReply). Allowed founded s e.caller e.call q → Step c d (contents_held s) (contents_held (if is_refusal q then s else changed founded s e.call))) (sym replied)
    (subst (λ (o : Option Call). Allowed founded s e.caller e.call r → Step o d (contents_held s) (contents_held (if is_refusal r then s else changed founded s e.call))) (sym is) step)

called_as : (founded : Bool) (s : HistoryState) (e : Entry) (c : Call) → e.call ≡ c → Allowed founded s e.caller e.call e.reply → Allowed founded s e.caller c e.reply
called_as founded s e c is a = subst (λ (k : Call). Allowed founded s e.caller k e.reply) is a

-- what the steward's entry leaves of the state
left_by : (founded : Bool) (s : HistoryState) (e : Entry) (c : Call) (r : EntryReply) → e.call ≡ c → e.reply ≡ r
    → contents_held (after_entry founded s e) ≡ contents_held (if is_refusal r then s else changed founded s c)
left_by founded s e c r is replied = ap₂ (λ (k : Call) (q : EntryReply). contents_held (if is_refusal q then s else changed founded s k)) is replied

entry_step : (founded : Bool) (s : HistoryState) (e : Entry) (c : Option Call) (d : Said) → Allowed founded s e.caller e.call e.reply → ShowsEntry c d e
    → is_end (fed_of c d) ≡ false → NoneBelow (contents_held s) → Step c d (contents_held s) (contents_held (after_entry founded s e))
entry_step founded s e c (said.Added kept late) a shows on below =
    called founded s e c (said.Added kept late) (reply.Added kept late) shows.0 shows.1 (λ allowed. added founded s e.caller e.call kept late allowed below) a
entry_step founded s e c (said.Removed n) a shows on below =
    called founded s e c (said.Removed n) (reply.Removed n) shows.0 shows.1
    (λ allowed. removed founded s e.caller e.call n allowed (subst (λ (o : Option Call). is_end (fed_of o (said.Removed n)) ≡ false) shows.0 on) below) a
entry_step founded s e c said.Asked a shows on below =
    called founded s e c said.Asked (reply.Groups shows.1.0) shows.0 shows.1.1 (λ allowed. asked founded s e.caller e.call shows.1.0 allowed below) a
entry_step founded s e c said.RefusedShut a shows on below =
    called founded s e c said.RefusedShut reply.Shut shows.0 shows.1 (λ allowed. stays (Some e.call) said.RefusedShut (contents_held s) (contents_held s) (refused (meant_of e.call)).0 refl below) a
entry_step founded s e c said.RefusedFull a shows on below =
    called founded s e c said.RefusedFull reply.Full shows.0 shows.1 (λ allowed. stays (Some e.call) said.RefusedFull (contents_held s) (contents_held s) (refused (meant_of e.call)).1 refl below) a
entry_step founded s e c said.RefusedMemory a shows on below =
    called founded s e c said.RefusedMemory reply.NoMemory shows.0 shows.1 (λ allowed. stays (Some e.call) said.RefusedMemory (contents_held s) (contents_held s) (refused (meant_of e.call)).2 refl below) a
entry_step founded s e c (said.Opened n) a shows on below = absurd (true≢false on)
entry_step founded s e c (said.Closed n) a shows on below = absurd (true≢false on)
entry_step founded s e c (said.Took n) a shows on below =
    stays c (said.Took n) (contents_held s) (contents_held (after_entry founded s e)) refl (left_by founded s e call.Take (reply.Counted n) shows.1 shows.2) below
entry_step founded s e c (said.Flushed n) a shows on below =
    stays c (said.Flushed n) (contents_held s) (contents_held (after_entry founded s e)) refl (left_by founded s e (call.Flushed n) reply.Noted shows.1 (called_as founded s e (call.Flushed n) shows.1 a).2) below
entry_step founded s e c said.Handed a shows on below =
    stays c said.Handed (contents_held s) (contents_held (after_entry founded s e)) refl (left_by founded s e call.Done reply.Noted shows.1 (called_as founded s e call.Done shows.1 a).2) below

-- ---- entries of a history

-- the entry in a place of a legal history, and the state behind it
pub entry_at : (founded : Bool) (s : HistoryState) (entries : List Entry) (i : ℕ) (e : Entry) → LegalFrom founded s entries → slice_get entries i ≡ Some e
    → Allowed founded (after founded s (take i entries)) e.caller e.call e.reply × (after founded s (take (suc i) entries) ≡ after_entry founded (after founded s (take i entries)) e)
entry_at founded s [] i e legal at = absurd cc
entry_at founded s (x ∷ xs) zero e legal at =
    subst (λ (y : Entry). Allowed founded s y.caller y.call y.reply × (after_entry founded s x ≡ after_entry founded s y)) (same_Some x e at) (legal.0, refl)
entry_at founded s (x ∷ xs) (suc i) e legal at = entry_at founded (after_entry founded s x) xs i e legal.1 at

behind_is : (g : BaseState) (entries : List Entry) (n k : ℕ) → n + 1 - 1 ≡ k → contents_behind g entries n ≡ contents_held (after g.founded g.base (take k entries))
behind_is g entries n k is = ap (λ (j : ℕ). contents_held (after g.founded g.base (take j entries))) is

pub step_at : (g : BaseState) (entries : List Entry) (s : Shown) (k : ℕ) → LegalFrom g.founded g.base entries → ShowsIn entries s → s.number ≡ k + 1 → is_end (fed_of s.call s.said) ≡ false
    → NoneBelow (contents_behind g entries k) → Step s.call s.said (contents_behind g entries k) (contents_behind g entries (k + 1))
step_at g entries s k legal shows number on below =
    let place : s.number - 1 ≡ k = omega (arith, number) in
    let first = behind_is g entries k k (omega arith) in
    let next = behind_is g entries (k + 1) (suc k) (omega arith) in
    let e = shows.1.0 in
    let at = entry_at g.founded g.base entries k e legal (subst (λ (j : ℕ). slice_get entries j ≡ Some e) place shows.1.1) in
    let state = after g.founded g.base (take k entries) in
    let step = entry_step g.founded state e s.call s.said at.0 shows.1.2 on (subst (λ (x : Contents). NoneBelow x) first below) in
    subst (λ (x : Contents). Step s.call s.said x (contents_behind g entries (k + 1))) (sym first)
    (subst (λ (x : Contents). Step s.call s.said (contents_held state) x) (sym (next ∙ ap (λ (x : HistoryState). contents_held x) at.1)) step)

-- an ask that was answered leaves what the table holds
some_call : (c c' : Call) → Some c ≡ Some c' → c' ≡ c
some_call c c' e = cc

pub asked_leaves : (g : BaseState) (entries : List Entry) (number : ℕ) (q : Query) → ShowsIn entries (record { number = number; call = Some (call.Ask q); said = said.Asked })
    → LegalFrom g.founded g.base entries → contents_behind g entries number ≡ contents_before g entries number
asked_leaves g entries number q shows legal =
    let e = shows.1.0 in
    let state = after g.founded g.base (take (number - 1) entries) in
    let at = entry_at g.founded g.base entries (number - 1) e legal shows.1.1 in
    let left = left_by g.founded state e (call.Ask q) (reply.Groups shows.1.2.1.0) (some_call (call.Ask q) e.call shows.1.2.0) shows.1.2.1.1 in
    let number_is : number + 1 - 1 ≡ suc (number - 1) = omega (arith, shows.0) in
    behind_is g entries number (suc (number - 1)) number_is ∙ (ap (λ (x : HistoryState). contents_held x) at.1 ∙ left)

-- the ending is the one that the transcript reads
end_is : (c : Option Call) (d : Said) → is_end (fed_of c d) ≡ ends_state c d
end_is c (said.Opened n) = refl
end_is (Some (call.Keep k)) _ = refl
end_is _ _ = refl

pub is_end_of : (s : Shown) → is_end (fed_of s.call s.said) ≡ ends_state s.call s.said
is_end_of s = end_is s.call s.said

-- ---- times

-- the rows of an add have times
abbrev pub FedTimes : Fed → Type 0
FedTimes (fed.Added rows late) = AreTimes rows
FedTimes _ = ⊤

abbrev pub HaveTimes : List Heard → Type 0
HaveTimes hs = AllByRecursion (λ (h : Heard). FedTimes h.fed) hs

pub times_fed : (f : Fed) (before now : List Row) → FedTimes f → FedTo f before now → AreTimes before → AreTimes now
times_fed (fed.Added rows late) before now new to times =
    subst (λ (rs : List Row). AreTimes rs) (sym to.2)
    (All-joined (λ (row : Row). IsTime row.time) before (rows_from to.0 rows) times (each-filter (λ (row : Row). IsTime row.time) (λ (row : Row). int_le to.0 row.time) rows new))
times_fed (fed.Expired horizon) before now new to times =
    subst (λ (rs : List Row). AreTimes rs) (sym to) (each-filter (λ (row : Row). IsTime row.time) (λ (row : Row). int_le horizon row.time) before times)
times_fed _ before now new to times = subst (λ (rs : List Row). AreTimes rs) (sym to) times
