-- A turn begins: a ticket is drawn, and looks at the ticket that is served keep the rule.
use Rattle.std.proofs.Common.{◌≡◌, ◌≢◌, ℕ, ◌+◌, ◌%◌, ◌^◌, ◌<◌, ◌≤◌, List, [], ◌∷◌, ◌++◌, length, set, get_or, refl, sym, ap, ◌∙◌, subst, arith, Option, Some, length-append}
use mathlib.Core.Logic.{dite}
use mathlib.Core.Option.{none, some}
use mathlib.Core.List.{append-nil}
use native.Mathlib.Decide.{ℕ_discrete}
use lib.ListN.{get_elem?}
use lib.Seq.{set-get_or}
use Rattle.atomic_table.specs.Table.{State, Me, step, Act, keeps, takes, stepped, carried_after, Valid, Allows}
use Rattle.atomic_table.proofs.Lists.{set_again}
use Rattle.turnstile.specs.declared.object.TurnEntry.{TurnEntry}
use Rattle.turnstile.specs.declared.view.View.{View}
use Rattle.turnstile.specs.declared.view.Stage.{Stage}
use Rattle.turnstile.specs.declared.view.Stage.TheVariants.{Rests, Waits, Inside, Posted}
use Rattle.turnstile.specs.Views.{ticketed, ViewOwns, holds_ticket, staged}
use Rattle.turnstile.specs.Rule.{Stands, Knows, Homes, Turned}
use Rattle.turnstile.specs.Plays.{drew, looked}
use Rattle.turnstile.proofs.Prefixes.{at_behind, at_inside, each_all}
use Rattle.turnstile.proofs.Ids.{put, put_here, put_else}
use Rattle.turnstile.proofs.Views.{each_after, sums, moved, few}

module _ {B C R O : Type 0} (legal : B → List (TurnEntry C R) → Type 0) (stands : B → List (TurnEntry C R) → O → Type 0) (base : B) where
  abbrev E : Type 0
  E = TurnEntry C R

  abbrev V : Type 0
  V = View B C R

  abbrev St : Type 0
  St = State (Option O) V

  abbrev M : Type 0
  M = Me (Option O) V

  abbrev Rule : St → Type 0
  Rule = Turned legal stands base

  abbrev K : List E → ℕ → ℕ → ℕ → (ℕ → ℕ) → (ℕ → ℕ) → ℕ → V → Type 0
  K = Knows base

  pub draws : (slots id : ℕ) (me : M) → me.0.stage ≡ Rests → 0 < me.0.share → Allows Rule slots id me 1 (λ x. (x + 1) % 2 ^ 64) (drew (step slots 1 1 0 none) me)
  draws slots id me is has s r _ at fits =
      let found : ℕ = get_or s.words 1 0 in
      let is_found : found ≡ r.tickets = ap (λ ws. get_or ws 1 0) r.words in
      let w : V = staged me.0 (Waits found) in
      let k = r.each id me.0 at in
      let counted = r.counted.1 in
      let waiting = r.waiting in
      let shares = r.shares in
      let rooms = r.rooms in
      let out = r.counted.0 in
      let few = few legal stands base s r in
      let next : (found + 1) % 18446744073709551616 ≡ r.tickets + 1 = omega arith in
      let ticket : holds_ticket me.0 ≡ 0 = ap ticketed is in
      let sums = sums s.views id me.0 w at in
      let s₀ = sums.0 in
      let s₁ = sums.1 in
      let s₂ = sums.2 in (
        w,
        keeps,
        tt,
        record {
          log = r.log;
          serving = r.serving;
          tickets = r.tickets + 1;
          out = r.out;
          owner = put r.owner r.tickets id;
          holder = r.holder;
          is_legal = r.is_legal;
          ids = r.ids;
          words = (λ i. set (r.words i) 1 (next i));
          counted = r.counted;
          busy = λ b. let c = r.busy b in omega arith;
          home = r.home;
          each = each_after (K r.log r.serving (r.tickets + 1) r.out (put r.owner r.tickets id) r.holder) s.views id w
              record {
                based = k.based;
                begins = k.begins;
                other_begins = k.other_begins;
                apart = k.apart;
                own_apart = k.own_apart;
                older_is = k.older_is;
                fresh = k.fresh;
                holder_is = k.holder_is;
                taken_is = k.taken_is;
                within = k.within;
                turn = has;
                stage = (omega arith, omega arith, ap (put r.owner r.tickets id) is_found ∙ put_here r.owner r.tickets id, λ e. dite (ℕ_discrete r.out 0) (λ z. z) (λ z. let b = r.busy (omega arith) in absurd (omega arith)));
                room = k.room;
                caller = k.caller;
              }
              (λ j d other e. let kj = r.each j d e in moved base r.log r.serving r.tickets r.out r.serving (r.tickets + 1) r.out r.owner (put r.owner r.tickets id) r.holder j d (drawn r.log r.serving r.tickets r.out r.owner id j d d.stage) kj);
          waiting = omega arith;
          shares = omega arith;
          rooms = omega arith;
        },
        (refl, refl, (λ a b. k.caller a b), omega arith),
      )
    where
      drawn : (log : List E) (serving tickets out : ℕ) (owner : ℕ → ℕ) (id j : ℕ) (d : V) (stage : Stage) → Stands log serving tickets out owner j d stage → Stands log serving (tickets + 1) out (put owner tickets id) j d stage
      drawn log serving tickets out owner id j d Rests h = tt
      drawn log serving tickets out owner id j d (Waits t) h = let h₁ = h.1 in (h.0, omega arith, put_else owner tickets id t (omega arith) ∙ h.2, h.3)
      drawn log serving tickets out owner id j d (Inside t) h = let h₁ = h.1 in (h.0, omega arith, put_else owner tickets id t (omega arith) ∙ h.2, h.3, h.4)
      drawn log serving tickets out owner id j d (Posted t) h = let h₁ = h.1 in (h.0, omega arith, put_else owner tickets id t (omega arith) ∙ h.2, h.3, h.4)

  pub looks : (slots id t : ℕ) (me : M) → me.0.stage ≡ Waits t → me.1 ≡ [] → me.0.other ≡ [] → Allows Rule slots id me 2 (λ x. x) (looked legal stands (step slots 2 0 0 none) me)
  looks slots id t me is bare alone s r _ at _ =
      let found : ℕ = get_or s.words 2 0 in
      let is_found : found ≡ r.serving = ap (λ ws. get_or ws 2 0) r.words in
      let k = r.each id me.0 at in
      let st : Stands r.log r.serving r.tickets r.out r.owner id me.0 (Waits t) = subst (Stands r.log r.serving r.tickets r.out r.owner id me.0) is k.stage in
      let counted = r.counted.1 in
      let waiting = r.waiting in
      let shares = r.shares in
      let rooms = r.rooms in
      let ticket : holds_ticket me.0 ≡ 1 = ap ticketed is in
      let F : Type 0 = (w : V) × (a : Act (Option O)) × Valid s.homes me.1 a × Rule (stepped s 2 found id me.1 w a) × looked legal stands (step slots 2 0 0 none) me found (w, carried_after me.1 a) in
      dite (ℕ_discrete found t)
      (λ hit.
      let here : t ≡ r.serving = sym hit ∙ is_found in
      let out : r.out ≡ 0 = st.3 here in
      let mine : r.owner r.serving ≡ id = sym (ap r.owner here) ∙ st.2 in
      let low = st.1 in
      let house : Homes (stands base) r.log 0 s.homes = subst (λ n. Homes (stands base) r.log n s.homes) out r.home in
      let between : List E = k.begins.0 in
      let whole : me.0.seen ++ between ≡ r.log = k.begins.1 in
      let w : V = record me.0 { seen = me.0.seen ++ between; stage = Inside found } in
      let sums = sums s.views id me.0 w at in
      let s₀ = sums.0 in
      let s₁ = sums.1 in
      let s₂ = sums.2 in
      let y : F = (
        w,
        takes 0 (Some house.0),
        ap (λ hs. get_elem? hs 0) house.1,
        record {
          log = r.log;
          serving = r.serving;
          tickets = r.tickets;
          out = 1;
          owner = r.owner;
          holder = r.holder;
          is_legal = r.is_legal;
          ids = r.ids;
          words = (λ i. set (r.words i) 2 (is_found i));
          counted = (omega arith, omega arith);
          busy = λ b. omega arith;
          home = ap (λ hs. set hs 0 none) house.1;
          each = each_after (K r.log r.serving r.tickets 1 r.owner r.holder) s.views id w
              record {
                based = k.based;
                begins = ([], append-nil _ ∙ whole);
                other_begins = k.other_begins;
                apart = λ i e far _ is. let p : length (me.0.seen ++ between) ≡ length me.0.seen + length between = length-append me.0.seen between in k.apart i e (omega arith) (let n = at_inside r.log i e is in absurd (let q : length (me.0.seen ++ between) ≡ length r.log = ap length whole in omega arith)) is;
                own_apart = λ i e far is. let p : length (me.0.seen ++ between) ≡ length me.0.seen + length between = length-append me.0.seen between in k.own_apart i e (omega arith) is;
                older_is = k.older_is;
                fresh = k.fresh;
                holder_is = k.holder_is;
                taken_is = k.taken_is;
                within = k.within;
                turn = subst (λ n. n ≤ me.0.share) ticket k.turn;
                stage = (is_found, omega arith, ap r.owner is_found ∙ mine, refl, whole);
                room = k.room;
                caller = λ a b. let p : length (me.0.seen ++ between) ≡ length me.0.seen + length between = length-append me.0.seen between in k.caller a (omega arith);
              }
              (λ j d other e. moved base r.log r.serving r.tickets r.out r.serving r.tickets 1 r.owner r.owner r.holder j d (kept_out r.log r.serving r.tickets r.out r.owner id j d other mine out d.stage) (r.each j d e));
          waiting = omega arith;
          shares = omega arith;
          rooms = omega arith;
        },
        λ t' is'. (
          (λ same b told. record {
            between = between;
            value = house.0;
            seen = refl;
            slot = ap (λ cs. (0, Some house.0) ∷ cs) bare;
            others = each_all (λ (e : E). ¬ ViewOwns me.0 e.by) between (λ i e a. k.apart (length me.0.seen + i) e (omega arith) (let z : length me.0.other ≡ 0 = ap length alone in omega arith) (subst (λ l. get_elem? l (length me.0.seen + i) ≡ some e) whole (at_behind me.0.seen between i ∙ a)));
            count = ap length whole ∙ (let n : length r.log ≡ found = omega arith in n);
            is_legal = subst (λ (x : B × List E). legal x.0 x.1) (λ i. (sym (k.based b told) i, sym whole i)) r.is_legal;
            stands_for = subst (λ (x : B × List E). stands x.0 x.1 house.0) (λ i. (sym (k.based b told) i, sym whole i)) house.2;
          }),
          λ not. absurd (not (hit ∙ waits_at t t' (sym is ∙ is'))),
        ),
      ) in y)
      (λ miss. let y : F = (
        me.0,
        keeps,
        tt,
        subst (λ (x : List ℕ × List V). Rule record { words = x.0; homes = s.homes; views = x.1 }) (λ i. (sym (set-get_or s.words 2 0) i, sym (set_again s.views id me.0 at) i)) r,
        λ t' is'. ((λ same. absurd (miss (same ∙ waits_at t' t (sym is' ∙ is)))), λ _. refl),
      ) in y)
    where
      waits_at : (t t' : ℕ) → Waits t ≡ Waits t' → t ≡ t'
      waits_at t t' e = ap ticket_or e
        where
          ticket_or : Stage → ℕ
          ticket_or (Waits t) = t
          ticket_or _ = 0

      kept_out : (log : List E) (serving tickets out : ℕ) (owner : ℕ → ℕ) (id j : ℕ) (d : V) → j ≢ id → owner serving ≡ id → out ≡ 0 → (stage : Stage) → Stands log serving tickets out owner j d stage → Stands log serving tickets 1 owner j d stage
      kept_out log serving tickets out owner id j d other mine nobody Rests h = tt
      kept_out log serving tickets out owner id j d other mine nobody (Waits t) h = (h.0, h.1, h.2, λ e. absurd (other (sym h.2 ∙ (ap owner e ∙ mine))))
      kept_out log serving tickets out owner id j d other mine nobody (Inside t) h = absurd (other (sym h.2 ∙ (ap owner h.0 ∙ mine)))
      kept_out log serving tickets out owner id j d other mine nobody (Posted t) h = absurd (other (sym h.2 ∙ (ap owner h.0 ∙ mine)))
