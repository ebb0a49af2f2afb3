-- Ids move between seats, and the table is made.
use Rattle.std.proofs.Common.{◌≡◌, ◌≢◌, ◌⊎◌, ℕ, zero, suc, ◌+◌, ◌-◌, ◌<◌, ◌≤◌, List, [], ◌∷◌, ◌++◌, length, set, get_or, refl, sym, ap, ◌∙◌, subst, ⊎_elim, inl, inr, arith, Option, Some, length-set}
use mathlib.Core.Logic.{dite}
use mathlib.Core.Option.{none, some, some-ne-none, some-injective}
use mathlib.Core.List.{IsPrefix}
use native.Mathlib.Decide.{ℕ_discrete, dec_le}
use lib.ListN.{get_elem?}
use lib.Seq.{set-get_or}
use Rattle.atomic_table.specs.Table.{State, Me, step, Act, keeps, stepped, carried_after, Valid, Allows, Splits, Joins, opening}
use Rattle.atomic_table.proofs.Lists.{set_else}
use Rattle.turnstile.specs.Ids.{Among, run_of, InShare, OwnsId}
use Rattle.turnstile.specs.declared.object.TurnEntry.{TurnEntry}
use Rattle.turnstile.specs.declared.view.View.{View}
use Rattle.turnstile.specs.declared.view.Start.{Start}
use Rattle.turnstile.specs.declared.view.Stage.{Stage}
use Rattle.turnstile.specs.declared.view.Stage.TheVariants.{Rests, Waits, Inside, Posted}
use Rattle.turnstile.specs.Views.{view_keeps_all_but, view_given, view_joined, spent, ticketed, InRange, ViewOwns, Owned, holds_ticket, share_of, room_of, first_view}
use Rattle.turnstile.specs.Rule.{Stands, Knows, Turned}
use Rattle.turnstile.specs.Plays.{met}
use Rattle.turnstile.proofs.Totals.{total_snoc}
use Rattle.turnstile.proofs.Prefixes.{prefix_shorter, at_between, at_inside, at_push, all_begin, each_all}
use Rattle.turnstile.proofs.Ids.{hand, hand_in, hand_out, dec_both, among_append, among_front, among_run}
use Rattle.turnstile.proofs.Views.{each_after, sums, same_ids, few}

module _ {B C R O : Type 0} (legal : B → List (TurnEntry C R) → Type 0) (stands : B → List (TurnEntry C R) → O → Type 0) (base : B) where
  abbrev E : Type 0
  E = TurnEntry C R

  abbrev V : Type 0
  V = View B C R

  abbrev St : Type 0
  St = State (Option O) V

  abbrev M : Type 0
  M = Me (Option O) V

  abbrev Rule : St → Type 0
  Rule = Turned legal stands base

  abbrev K : List E → ℕ → ℕ → ℕ → (ℕ → ℕ) → (ℕ → ℕ) → ℕ → V → Type 0
  K = Knows base

  pub splits : (id n : ℕ) (v : V) → v.stage ≡ Rests → n < v.share → v.other ≡ [] → Splits Rule id v (view_keeps_all_but n v) (view_given n v)
  splits id n v is low alone s r at =
      let k = r.each id v at in
      let k_room = k.room in
      let k_within = k.within in
      let left : V = view_keeps_all_but n v in
      let right : V = view_given n v in
      let fresh_seat : ℕ = length (set s.views id left) in
      let p : (x : ℕ) → Dec ((right.id ≤ x) × (x < right.id + right.share)) = λ x. dec_both (dec_le right.id x) (dec_le (suc x) (right.id + right.share)) in
      let holder : ℕ → ℕ = hand p r.holder fresh_seat in
      let P : ℕ → V → Type 0 = K r.log r.serving r.tickets r.out r.owner holder in
      let there : id < length s.views = at_inside s.views id v at in
      let as_many : fresh_seat ≡ length s.views = length-set s.views id left in
      let sums = sums s.views id v left at in
      let s₀ = sums.0 in
      let s₁ = sums.1 in
      let s₂ = sums.2 in
      let t₀ = total_snoc holds_ticket (set s.views id left) right in
      let t₁ = total_snoc share_of (set s.views id left) right in
      let t₂ = total_snoc room_of (set s.views id left) right in
      let waiting = r.waiting in
      let shares = r.shares in
      let rooms = r.rooms in
      let none_ticket : holds_ticket v ≡ 0 = ap ticketed is in
      let lefts : P id left = record {
        based = k.based;
        begins = k.begins;
        other_begins = k.other_begins;
        apart = λ i e far far' is own. k.apart i e far far' is (widens n v.id v.share v.taken e.by own);
        own_apart = λ i e far is was. k.own_apart i e far is (widens n v.id v.share v.older e.by was);
        older_is = k.older_is;
        fresh = λ i e is f. let f₁ = f.1 in k.fresh i e is (f.0, omega arith);
        holder_is = λ x own. hand_out p r.holder fresh_seat x (⊎_elim (λ (t : InRange left x) (q : InRange right x). let a = t.1 in let b = q.0 in absurd (omega arith)) (λ t q. k.taken_is x t (let b = q.0 in let c = q.1 in (omega arith, omega arith))) own) ∙ k.holder_is x (widens n v.id v.share v.taken x own);
        taken_is = λ x a q. let q₁ = q.1 in k.taken_is x a (q.0, omega arith);
        within = omega arith;
        turn = omega arith;
        stage = subst (Stands r.log r.serving r.tickets r.out r.owner id left) (sym is) tt;
        room = omega arith;
        caller = λ a b. let c = k.caller a b in omega arith;
      } in
      let rights : P fresh_seat right = record {
        based = k.based;
        begins = k.begins;
        other_begins = (r.log, refl);
        apart = λ i e _ _ is own. ⊎_elim (λ (t : InRange right e.by). let a = t.0 in let b = t.1 in k.fresh i e is (omega arith, omega arith)) (λ t. t) own;
        own_apart = λ i e _ is was. ⊎_elim (λ (t : InRange right e.by). let a = t.0 in let b = t.1 in k.fresh i e is (omega arith, omega arith)) (λ t. t) was;
        older_is = λ x a. a;
        fresh = λ i e is f. let a = f.0 in let b = f.1 in k.fresh i e is (omega arith, omega arith);
        holder_is = λ x own. ⊎_elim (λ (t : InRange right x). hand_in p r.holder fresh_seat x t) (λ (t : ⊥). absurd t) own;
        taken_is = λ x a _. a;
        within = omega arith;
        turn = omega arith;
        stage = tt;
        room = omega arith;
        caller = λ _ _. omega arith;
      } in
      record {
        log = r.log;
        serving = r.serving;
        tickets = r.tickets;
        out = r.out;
        owner = r.owner;
        holder = holder;
        is_legal = r.is_legal;
        ids = r.ids;
        words = r.words;
        counted = r.counted;
        busy = r.busy;
        home = r.home;
        each = λ j d e. ⊎_elim
            (λ old. each_after P s.views id left lefts (λ i x other is_x. same_ids base (r.each i x is_x) (λ y own. hand_out p r.holder fresh_seat y (λ q. let b = q.0 in let c = q.1 in other (sym ((r.each i x is_x).holder_is y own) ∙ k.holder_is y (inl (omega arith, omega arith)))))) j d old)
            (λ (new : (j ≡ fresh_seat) × (right ≡ d)). subst (λ (x : ℕ × V). P x.0 x.1) (λ i. (sym new.0 i, new.1 i)) rights)
            (at_push (set s.views id left) right d j e);
        waiting = omega arith;
        shares = omega arith;
        rooms = omega arith;
      }
    where
      widens : (n id share : ℕ) (taken : List ℕ) (x : ℕ) → OwnsId id (share - n) taken x → OwnsId id share taken x
      widens n id share taken x own = ⊎_elim (λ (t : InShare id (share - n) x). let a = t.1 in inl (t.0, omega arith)) (λ t. inr t) own

  pub joins : (id : ℕ) (v : V) (other : ℕ) (u : V) → u.stage ≡ Rests → u.other ≡ [] → v.other ≡ [] → Joins Rule id v other u (view_joined v u) spent
  joins id v other u is alone bare s r at apart there' =
      let there : get_elem? s.views other ≡ some u = sym (set_else s.views id other (view_joined v u) apart) ∙ there' in
      let k = r.each id v at in
      let ku = r.each other u there in
      let k_room = k.room in
      let w : V = view_joined v u in
      let p : (x : ℕ) → Dec (r.holder x ≡ other) = λ x. ℕ_discrete (r.holder x) other in
      let holder : ℕ → ℕ = hand p r.holder id in
      let P : ℕ → V → Type 0 = K r.log r.serving r.tickets r.out r.owner holder in
      let sums₁ = sums s.views id v w at in
      let sums₂ = sums (set s.views id w) other u spent there' in
      let a₀ = sums₁.0 in
      let a₁ = sums₁.1 in
      let a₂ = sums₁.2 in
      let b₀ = sums₂.0 in
      let b₁ = sums₂.1 in
      let b₂ = sums₂.2 in
      let waiting = r.waiting in
      let shares = r.shares in
      let rooms = r.rooms in
      let none_ticket : holds_ticket u ≡ 0 = ap ticketed is in
      let both : P id w = record {
        based = k.based;
        begins = k.begins;
        other_begins = ku.begins;
        apart = λ i e far far' is own. ⊎_elim (λ t. k.apart i e far (let z : length v.other ≡ 0 = ap length bare in omega arith) is t) (λ t. ku.apart i e far' (let z : length u.other ≡ 0 = ap length alone in omega arith) is t) (parts v u e.by own);
        own_apart = λ i e far is was. k.apart i e far (let z : length v.other ≡ 0 = ap length bare in omega arith) is was;
        older_is = λ x a. among_front v.taken (run_of u.id u.share ++ u.taken) x a;
        fresh = k.fresh;
        holder_is = λ x own. ⊎_elim (λ t. hand_out p r.holder id x (λ e. apart (sym e ∙ k.holder_is x t)) ∙ k.holder_is x t) (λ t. hand_in p r.holder id x (ku.holder_is x t)) (parts v u x own);
        taken_is = λ x a q. ⊎_elim (λ t. k.taken_is x t q) (λ t. apart (sym (ku.holder_is x (theirs u x t)) ∙ k.holder_is x (inl q))) (among_append v.taken (run_of u.id u.share ++ u.taken) x a);
        within = k.within;
        turn = k.turn;
        stage = re_view r.log r.serving r.tickets r.out r.owner id v w v.stage refl k.stage;
        room = omega arith;
        caller = λ a b. let c = k.caller a b in omega arith;
      } in
      let nobody : P other spent = record {
        based = λ b e. absurd (cc (e));
        begins = (r.log, refl);
        other_begins = (r.log, refl);
        apart = λ i e _ _ is own. ⊎_elim (λ (t : (0 ≤ e.by) × (e.by < 0 + 0)). let z = t.1 in omega arith) (λ t. t) own;
        own_apart = λ i e _ is was. ⊎_elim (λ (t : (0 ≤ e.by) × (e.by < 0 + 0)). let z = t.1 in omega arith) (λ t. t) was;
        older_is = λ x a. a;
        fresh = λ i e is f. let z = f.1 in omega arith;
        holder_is = λ x own. ⊎_elim (λ (t : (0 ≤ x) × (x < 0 + 0)). let z = t.1 in absurd (omega arith)) (λ (t : ⊥). absurd t) own;
        taken_is = λ x a _. a;
        within = omega arith;
        turn = omega arith;
        stage = tt;
        room = omega arith;
        caller = λ _ _. omega arith;
      } in
      record {
        log = r.log;
        serving = r.serving;
        tickets = r.tickets;
        out = r.out;
        owner = r.owner;
        holder = holder;
        is_legal = r.is_legal;
        ids = r.ids;
        words = r.words;
        counted = r.counted;
        busy = r.busy;
        home = r.home;
        each = each_after P (set s.views id w) other spent nobody
            (λ j d far e. each_after (λ i x. i ≢ other → P i x) s.views id w (λ _. both) (λ i x not_me is_x not_u. same_ids base (r.each i x is_x) (λ y own. hand_out p r.holder id y (λ q. not_u (sym ((r.each i x is_x).holder_is y own) ∙ q)))) j d e far);
        waiting = omega arith;
        shares = omega arith;
        rooms = omega arith;
      }
    where
      theirs : (u : V) (x : ℕ) → Among x (run_of u.id u.share ++ u.taken) → ViewOwns u x
      theirs u x a = ⊎_elim (λ t. inl (among_run u.id u.share x t)) (λ t. inr t) (among_append (run_of u.id u.share) u.taken x a)

      parts : (v u : V) (x : ℕ) → ViewOwns (view_joined v u) x → ViewOwns v x ⊎ ViewOwns u x
      parts v u x own = ⊎_elim (λ t. inl (inl t)) (λ a. ⊎_elim (λ t. inl (inr t)) (λ t. inr (theirs u x t)) (among_append v.taken (run_of u.id u.share ++ u.taken) x a)) own

      re_view : (log : List E) (serving tickets out : ℕ) (owner : ℕ → ℕ) (id : ℕ) (v w : V) (stage : Stage) → w.seen ≡ v.seen → Stands log serving tickets out owner id v stage → Stands log serving tickets out owner id w stage
      re_view log serving tickets out owner id v w Rests e h = tt
      re_view log serving tickets out owner id v w (Waits t) e h = h
      re_view log serving tickets out owner id v w (Inside t) e h = (h.0, h.1, h.2, h.3, e ∙ h.4)
      re_view log serving tickets out owner id v w (Posted t) e h = (h.0, h.1, h.2, h.3, e ∙ h.4)

  pub meets : (slots id : ℕ) (me : M) → me.0.stage ≡ Rests → Allows Rule slots id me 0 (λ x. x) (met (step slots 0 0 0 none) me)
  meets slots id me is s r _ at _ =
      let k = r.each id me.0 at in
      let F : Type 0 = (w : V) × (a : Act (Option O)) × Valid s.homes me.1 a × Rule (stepped s 0 (get_or s.words 0 0) id me.1 w a) × met (step slots 0 0 0 none) me (get_or s.words 0 0) (w, carried_after me.1 a) in
      let go : (seen : List E) → IsPrefix seen r.log → length me.0.seen ≤ length seen → length me.0.other ≤ length seen → (seen ≡ me.0.seen) ⊎ (seen ≡ me.0.other) → F =
      λ seen begins far far' one.
      let w : V = record me.0 { seen = seen; other = [] } in
      let sums = sums s.views id me.0 w at in
      let s₀ = sums.0 in
      let s₁ = sums.1 in
      let s₂ = sums.2 in
      let waiting = r.waiting in
      let shares = r.shares in
      let rooms = r.rooms in
      let y : F = (
        w,
        keeps,
        tt,
        record {
          log = r.log;
          serving = r.serving;
          tickets = r.tickets;
          out = r.out;
          owner = r.owner;
          holder = r.holder;
          is_legal = r.is_legal;
          ids = r.ids;
          words = set-get_or s.words 0 0 ∙ r.words;
          counted = r.counted;
          busy = r.busy;
          home = r.home;
          each = each_after (K r.log r.serving r.tickets r.out r.owner r.holder) s.views id w
              record {
                based = k.based;
                begins = begins;
                other_begins = (r.log, refl);
                apart = λ i e at_end _ is_e. k.apart i e (omega arith) (omega arith) is_e;
                own_apart = λ i e at_end is_e. k.own_apart i e (omega arith) is_e;
                older_is = k.older_is;
                fresh = k.fresh;
                holder_is = k.holder_is;
                taken_is = k.taken_is;
                within = k.within;
                turn = k.turn;
                stage = subst (Stands r.log r.serving r.tickets r.out r.owner id w) (sym is) tt;
                room = k.room;
                caller = λ a b. k.caller a (omega arith);
              }
              (λ j d _ e. r.each j d e);
          waiting = omega arith;
          shares = omega arith;
          rooms = omega arith;
        },
        record {
          seen = seen;
          view = refl;
          slots = refl;
          longer = record {
            own = prefix_shorter me.0.seen seen r.log k.begins begins far;
            theirs = prefix_shorter me.0.other seen r.log k.other_begins begins far';
            one = one;
          };
          ids = all_begin (λ (e : E). e.by < 65537) seen r.log begins r.ids;
          others = λ more whole. each_all (λ (e : E). ¬ Owned me.0 e.by) more (λ i e is_e. k.own_apart (length me.0.seen + i) e (omega arith) (at_between me.0.seen seen more r.log i e whole begins is_e));
        },
      ) in y in
      dite (dec_le (length me.0.seen) (length me.0.other))
      (λ le. go me.0.other k.other_begins le (omega arith) (inr refl))
      (λ gt. go me.0.seen k.begins (omega arith) (omega arith) (inl refl))

  pub starts : (o : O) (key : Start B) → key.base ≡ base → key.share ≤ 65536 → legal base [] → stands base [] o → Rule (opening (0 ∷ 0 ∷ 0 ∷ []) (Some o ∷ []) (first_view key))
  starts o key same few ok value = record {
    log = [];
    serving = 0;
    tickets = 0;
    out = 0;
    owner = λ _. 0;
    holder = λ _. 0;
    is_legal = ok;
    ids = tt;
    words = refl;
    counted = (omega arith, omega arith);
    busy = λ b. absurd (omega arith);
    home = (o, refl, value);
    each = only;
    waiting = omega arith;
    shares = omega arith;
    rooms = omega arith;
  }
    where
      only : (j : ℕ) (v : V) → get_elem? (first_view key ∷ []) j ≡ some v → K [] 0 0 0 (λ _. 0) (λ _. 0) j v
      only zero v e = subst (K [] 0 0 0 (λ _. 0) (λ _. 0) 0) (some-injective _ _ e) record {
        based = λ b t. sym (cc (t)) ∙ same;
        begins = ([], refl);
        other_begins = ([], refl);
        apart = λ i x _ _ is _. some-ne-none x (sym is);
        own_apart = λ i x _ is _. some-ne-none x (sym is);
        older_is = λ x a. a;
        fresh = λ i x is _. some-ne-none x (sym is);
        holder_is = λ x _. refl;
        taken_is = λ x a _. a;
        within = omega arith;
        turn = omega arith;
        stage = tt;
        room = omega arith;
        caller = λ a. absurd (a refl);
      }
      only (suc j) v e = absurd (some-ne-none v (sym e))
