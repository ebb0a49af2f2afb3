-- A turn ends: its entry is posted, and the value goes back.
use Rattle.std.proofs.Common.{◌≡◌, ◌≢◌, ℕ, ◌+◌, ◌-◌, ◌%◌, ◌^◌, ◌<◌, ◌≤◌, List, [], ◌∷◌, ◌++◌, length, set, get_or, refl, sym, ap, ◌∙◌, subst, ⊎_elim, inl, arith, Option, Some, length-append}
use mathlib.Core.Option.{none}
use mathlib.Core.List.{append-nil}
use Rattle.atomic_table.specs.Table.{State, Me, step, keeps, gives, put_back, rest, Allows}
use Rattle.turnstile.specs.Ids.{total_of}
use Rattle.turnstile.specs.declared.object.TurnEntry.{TurnEntry}
use Rattle.turnstile.specs.declared.view.View.{View}
use Rattle.turnstile.specs.declared.view.Stage.{Stage}
use Rattle.turnstile.specs.declared.view.Stage.TheVariants.{Rests, Waits, Inside, Posted}
use Rattle.turnstile.specs.Views.{ticketed, InRange, ViewOwns, holds_ticket, room_of, staged}
use Rattle.turnstile.specs.Rule.{Stands, Knows, Homes, Turned}
use Rattle.turnstile.specs.Plays.{posted, left}
use Rattle.turnstile.specs.Seats.{AreIds}
use Rattle.turnstile.proofs.Totals.{total_at}
use Rattle.turnstile.proofs.Prefixes.{prefix_trans, at_inside, at_push, all_push}
use Rattle.turnstile.proofs.Views.{each_after, sums, moved, still_owns, few}

module _ {B C R O : Type 0} (legal : B → List (TurnEntry C R) → Type 0) (stands : B → List (TurnEntry C R) → O → Type 0) (base : B) where
  abbrev E : Type 0
  E = TurnEntry C R

  abbrev V : Type 0
  V = View B C R

  abbrev St : Type 0
  St = State (Option O) V

  abbrev M : Type 0
  M = Me (Option O) V

  abbrev Rule : St → Type 0
  Rule = Turned legal stands base

  abbrev K : List E → ℕ → ℕ → ℕ → (ℕ → ℕ) → (ℕ → ℕ) → ℕ → V → Type 0
  K = Knows base

  pub posts : (slots id t : ℕ) (me : M) (said : Option E) (e : E) → said ≡ Some e → me.0.stage ≡ Inside t → e.by ≡ me.0.id → me.0.share ≤ me.0.room → (b : B) → me.0.base ≡ Some b → legal b (me.0.seen ++ e ∷ [])
      → Allows Rule slots id me 0 (λ x. (x + 1) % 2 ^ 64) (posted said (step slots 0 1 0 none) me)
  posts slots id t me said e said_is is by has b told ok s r _ at _ =
      let k = r.each id me.0 at in
      let st : Stands r.log r.serving r.tickets r.out r.owner id me.0 (Inside t) = subst (Stands r.log r.serving r.tickets r.out r.owner id me.0) is k.stage in
      let mine : r.owner r.serving ≡ id = sym (ap r.owner st.0) ∙ st.2 in
      let here = st.0 in
      let low = st.1 in
      let out = st.3 in
      let same : me.0.seen ≡ r.log = st.4 in
      let log' : List E = r.log ++ e ∷ [] in
      let long : length log' ≡ length r.log + 1 = length-append r.log (e ∷ []) in
      let long_seen : length (me.0.seen ++ e ∷ []) ≡ length me.0.seen + 1 = length-append me.0.seen (e ∷ []) in
      let as_long : length me.0.seen ≡ length r.log = ap length same in
      let counted = r.counted.1 in
      let waiting = r.waiting in
      let shares = r.shares in
      let rooms = r.rooms in
      let had : me.0.room ≤ total_of room_of s.views = total_at room_of s.views id me.0 at in
      let is_found : get_or s.words 0 0 ≡ length r.log = ap (λ ws. get_or ws 0 0) r.words in
      let next : (get_or s.words 0 0 + 1) % 18446744073709551616 ≡ length log' = omega arith in
      let room : ℕ = me.0.room - ((length me.0.seen + 1 - 2 ^ 62) - (length me.0.seen - 2 ^ 62)) in
      let w : V = record me.0 { seen = me.0.seen ++ e ∷ []; room = room; stage = Posted t } in
      let ticket : holds_ticket me.0 ≡ 1 = ap ticketed is in
      let sums = sums s.views id me.0 w at in
      let s₀ = sums.0 in
      let s₁ = sums.1 in
      let s₂ = sums.2 in
      let turn = k.turn in
      let share : 0 < me.0.share = omega arith in
      let own : InRange me.0 me.0.id = (omega arith, omega arith) in
      let k_room = k.room in
      let within = k.within in
      let ids : AreIds log' = all_push (λ (x : E). x.by < 65537) r.log e r.ids (omega arith) in
      let were : s.homes ≡ none ∷ [] = subst (λ n. Homes (stands base) r.log n s.homes) out r.home in (
        w,
        keeps,
        tt,
        record {
          log = log';
          serving = r.serving;
          tickets = r.tickets;
          out = 2;
          owner = r.owner;
          holder = r.holder;
          is_legal = subst (λ (x : B × List E). legal x.0 (x.1 ++ e ∷ [])) (λ i. (k.based b told i, same i)) ok;
          ids = ids;
          words = (λ i. set (r.words i) 0 (next i));
          counted = (omega arith, omega arith);
          busy = λ _. omega arith;
          home = were;
          each = each_after (K log' r.serving r.tickets 2 r.owner r.holder) s.views id w
              record {
                based = k.based;
                begins = ([], append-nil _ ∙ ap (λ l. l ++ e ∷ []) same);
                other_begins = prefix_trans me.0.other r.log log' k.other_begins (e ∷ [], refl);
                apart = λ i x far _ is. let n = at_inside log' i x is in absurd (omega arith);
                own_apart = λ i x far is. let n = at_inside log' i x is in absurd (omega arith);
                older_is = k.older_is;
                fresh = λ i x is f. ⊎_elim (λ old. k.fresh i x old f) (λ (new : (i ≡ length r.log) × (e ≡ x)). let same_id : x.by ≡ me.0.id = sym (ap (λ (y : E). y.by) new.1) ∙ by in let f₀ = f.0 in absurd (omega arith)) (at_push r.log e x i is);
                holder_is = k.holder_is;
                taken_is = k.taken_is;
                within = k.within;
                turn = omega arith;
                stage = (here, low, st.2, refl, ap (λ l. l ++ e ∷ []) same);
                room = omega arith;
                caller = λ a b. let c = k.caller a (omega arith) in omega arith;
              }
              (λ j d other is_d. let kj = r.each j d is_d in record {
                based = kj.based;
                begins = prefix_trans d.seen r.log log' kj.begins (e ∷ [], refl);
                other_begins = prefix_trans d.other r.log log' kj.other_begins (e ∷ [], refl);
                apart = λ i x far far' is own_x. ⊎_elim (λ old. kj.apart i x far far' old own_x) (λ (new : (i ≡ length r.log) × (e ≡ x)). foreign kj k other (sym (ap (λ (y : E). y.by) new.1) ∙ by) own own_x) (at_push r.log e x i is);
                own_apart = λ i x far is was. ⊎_elim (λ old. kj.own_apart i x far old was) (λ (new : (i ≡ length r.log) × (e ≡ x)). foreign kj k other (sym (ap (λ (y : E). y.by) new.1) ∙ by) own (still_owns base kj was)) (at_push r.log e x i is);
                older_is = kj.older_is;
                fresh = λ i x is f. ⊎_elim (λ old. kj.fresh i x old f) (λ (new : (i ≡ length r.log) × (e ≡ x)). let f₀ = f.0 in foreign kj k other (sym (ap (λ (y : E). y.by) new.1) ∙ by) own (inl (omega arith, f.1))) (at_push r.log e x i is);
                holder_is = kj.holder_is;
                taken_is = kj.taken_is;
                within = kj.within;
                turn = kj.turn;
                stage = after r.log log' r.serving r.tickets r.out r.owner id j d other mine d.stage kj.stage;
                room = kj.room;
                caller = kj.caller;
              });
          waiting = omega arith;
          shares = omega arith;
          rooms = omega arith;
        },
        λ t' e' is' same_e. let same_t : t ≡ t' = ap ticket_or (sym is ∙ is') in let e_is : e ≡ e' = cc (same_e, said_is) in (room, (λ i. record me.0 { seen = me.0.seen ++ e_is i ∷ []; room = room; stage = Posted (same_t i) }), refl, omega arith, omega arith, (λ low. omega arith), subst (λ (l : List E). AreIds (l ++ e ∷ [])) (sym same) ids),
      )
    where
      ticket_or : Stage → ℕ
      ticket_or (Inside t) = t
      ticket_or _ = 0

      foreign : {log : List E} {serving tickets out id j : ℕ} {owner holder : ℕ → ℕ} {v d : V} {x : ℕ} → K log serving tickets out owner holder j d → K log serving tickets out owner holder id v → j ≢ id → x ≡ v.id → InRange v v.id → ViewOwns d x → ⊥
      foreign {holder = holder} kj k other is own own_x = other (sym (kj.holder_is _ own_x) ∙ (ap holder is ∙ k.holder_is _ (inl own)))

      after : (log log' : List E) (serving tickets out : ℕ) (owner : ℕ → ℕ) (id j : ℕ) (d : V) → j ≢ id → owner serving ≡ id → (stage : Stage) → Stands log serving tickets out owner j d stage → Stands log' serving tickets 2 owner j d stage
      after log log' serving tickets out owner id j d other mine Rests h = tt
      after log log' serving tickets out owner id j d other mine (Waits t) h = (h.0, h.1, h.2, λ e. absurd (other (sym h.2 ∙ (ap owner e ∙ mine))))
      after log log' serving tickets out owner id j d other mine (Inside t) h = absurd (other (sym h.2 ∙ (ap owner h.0 ∙ mine)))
      after log log' serving tickets out owner id j d other mine (Posted t) h = absurd (other (sym h.2 ∙ (ap owner h.0 ∙ mine)))

  pub leaves : (slots id t : ℕ) (me : M) (o : O) → me.0.stage ≡ Posted t → me.1 ≡ (0, Some o) ∷ [] → (b : B) → me.0.base ≡ Some b → stands b me.0.seen o → Allows Rule slots id me 2 (λ x. (x + 1) % 2 ^ 64) (left (step slots 2 1 0 none) me)
  leaves slots id t me o is carried b told value s r _ at fits =
      let w : V = staged me.0 Rests in
      let k = r.each id me.0 at in
      let st : Stands r.log r.serving r.tickets r.out r.owner id me.0 (Posted t) = subst (Stands r.log r.serving r.tickets r.out r.owner id me.0) is k.stage in
      let mine : r.owner r.serving ≡ id = sym (ap r.owner st.0) ∙ st.2 in
      let out = st.3 in
      let low = st.1 in
      let here = st.0 in
      let counted = r.counted.1 in
      let waiting = r.waiting in
      let shares = r.shares in
      let rooms = r.rooms in
      let few = few legal stands base s r in
      let is_found : get_or s.words 2 0 ≡ r.serving = ap (λ ws. get_or ws 2 0) r.words in
      let next : (get_or s.words 2 0 + 1) % 18446744073709551616 ≡ r.serving + 1 = omega arith in
      let ticket : holds_ticket me.0 ≡ 1 = ap ticketed is in
      let sums = sums s.views id me.0 w at in
      let s₀ = sums.0 in
      let s₁ = sums.1 in
      let s₂ = sums.2 in
      let were : s.homes ≡ none ∷ [] = subst (λ n. Homes (stands base) r.log n s.homes) out r.home in (
        w,
        gives,
        tt,
        record {
          log = r.log;
          serving = r.serving + 1;
          tickets = r.tickets;
          out = 0;
          owner = r.owner;
          holder = r.holder;
          is_legal = r.is_legal;
          ids = r.ids;
          words = (λ i. set (r.words i) 2 (next i));
          counted = (omega arith, omega arith);
          busy = λ b. absurd (omega arith);
          home = (o, (λ i. put_back (were i) (carried i)), subst (λ (x : B × List E). stands x.0 x.1 o) (λ i. (k.based b told i, st.4 i)) value);
          each = each_after (K r.log (r.serving + 1) r.tickets 0 r.owner r.holder) s.views id w
              record {
                based = k.based;
                begins = k.begins;
                other_begins = k.other_begins;
                apart = k.apart;
                own_apart = k.own_apart;
                older_is = k.older_is;
                fresh = k.fresh;
                holder_is = k.holder_is;
                taken_is = k.taken_is;
                within = k.within;
                turn = omega arith;
                stage = tt;
                room = k.room;
                caller = k.caller;
              }
              (λ j d other e. let kj = r.each j d e in moved base r.log r.serving r.tickets r.out (r.serving + 1) r.tickets 0 r.owner r.owner r.holder j d (gone r.log r.serving r.tickets r.out r.owner id j d other mine d.stage) kj);
          waiting = omega arith;
          shares = omega arith;
          rooms = omega arith;
        },
        (refl, ap rest carried),
      )
    where
      gone : (log : List E) (serving tickets out : ℕ) (owner : ℕ → ℕ) (id j : ℕ) (d : V) → j ≢ id → owner serving ≡ id → (stage : Stage) → Stands log serving tickets out owner j d stage → Stands log (serving + 1) tickets 0 owner j d stage
      gone log serving tickets out owner id j d other mine Rests h = tt
      gone log serving tickets out owner id j d other mine (Waits t) h = let h₀ = h.0 in let apart : t ≢ serving = (λ e. other (sym h.2 ∙ (ap owner e ∙ mine))) in (omega arith, h.1, h.2, λ _. refl)
      gone log serving tickets out owner id j d other mine (Inside t) h = absurd (other (sym h.2 ∙ (ap owner h.0 ∙ mine)))
      gone log serving tickets out owner id j d other mine (Posted t) h = absurd (other (sym h.2 ∙ (ap owner h.0 ∙ mine)))
