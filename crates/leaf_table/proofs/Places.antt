-- A new leaf's tables among those of the leaves before it.
use Rattle.std.proofs.Common.{◌≡◌, ◌≢◌, ℕ, zero, suc, ◌+◌, ◌<◌, List, [], ◌∷◌, ◌++◌, length, get_or, set, slice_get, Option, Some, refl, ap, sym, ◌∙◌, subst, arith, length-append, get_or-set_same, get_or-set_other, Vec, Global}
use Rattle.std.proofs.lemmas.List.{map-set, get_or-map, length-set, map-append, get_or_append_left}
use Rattle.std.proofs.lemmas.Option.{none-some, slice_get_read}
use Rattle.std.proofs.Math.Seq.{get_or-append_seam}
use borrow.Author.Count.{below_more}
use Rattle.leaf_table.specs.declared.base.TableBase.{TableBase}
use Rattle.leaf_table.specs.Turns.{Shared}
use Rattle.leaf_table.specs.Calls.{SeatView}
use Rattle.leaf_table.specs.Lists.{lists_in, row, place, HasRows, Puts}
use Rattle.leaf_table.specs.Fleet.{IsNew, IsAt, IsPartOfFleet, IsNewFleet}

front_at : {A : Type 0} (xs : List A) (y : A) (i : ℕ) (x : A) → slice_get xs i ≡ Some x → slice_get (xs ++ y ∷ []) i ≡ Some x
front_at [] y i x is = absurd (none-some x is)
front_at (z ∷ xs) y zero x is = is
front_at (z ∷ xs) y (suc i) x is = front_at xs y i x is

last_at : {A : Type 0} (xs : List A) (y : A) → slice_get (xs ++ y ∷ []) (length xs) ≡ Some y
last_at [] y = refl
last_at (z ∷ xs) y = last_at xs y

behind : {A : Type 0} (xs : List A) (y : A) (i : ℕ) → length xs ≡ i → slice_get (xs ++ y ∷ []) i ≡ Some y
behind xs y i is = subst (λ (k : ℕ). slice_get (xs ++ y ∷ []) k ≡ Some y) is (last_at xs y)

pub stays : {A : Type 0} (rows : List (List A)) (t i j : ℕ) (s x : A) → place rows i j ≡ Some x → place (set rows t (row rows t ++ s ∷ [])) i j ≡ Some x
stays [] t i j s x is = is
stays (r ∷ rows) zero zero j s x is = front_at r s j x is
stays (r ∷ rows) zero (suc i) j s x is = is
stays (r ∷ rows) (suc t) zero j s x is = is
stays (r ∷ rows) (suc t) (suc i) j s x is = stays rows t i j s x is

pub put_in : {A : Type 0} (rows : List (Vec A Global)) (at : ℕ) (v w : Vec A Global) (x : A) → at < length rows → v ≡ get_or rows at v → w.items ≡ v.items ++ x ∷ [] → Puts (lists_in rows) at x (lists_in (set rows at w))
put_in {A} rows at v w x low is more =
    let items = λ (u : Vec A Global). u.items in
    let old : v.items ≡ row (lists_in rows) at = ap items is ∙ sym (get_or-map items rows at v [] low) in
    record { is = map-set items rows at w ∙ ap (set (lists_in rows) at) (more ∙ ap (λ (r : List A). r ++ x ∷ []) old) }

module _ (base : ℕ → ℕ → Option TableBase) (names : List (List ℕ)) (share : ℕ) where
  at_kept : (tables more_tables : List Shared) (stewards more_stewards : List SeatView) (rows more_rows : List (List SeatView)) (leaf t : ℕ)
      → ((x : Shared) → slice_get tables t ≡ Some x → slice_get more_tables t ≡ Some x)
      → ((x : SeatView) → slice_get stewards t ≡ Some x → slice_get more_stewards t ≡ Some x)
      → ((x : SeatView) → place rows t leaf ≡ Some x → place more_rows t leaf ≡ Some x)
      → IsAt base names share tables stewards rows leaf t → IsAt base names share more_tables more_stewards more_rows leaf t
  at_kept tables more_tables stewards more_stewards rows more_rows leaf t f g h a = record {
    name = a.name;
    table = a.table;
    steward = a.steward;
    caller = a.caller;
    named = a.named;
    stands = f a.table a.stands;
    stewards_seat = g a.steward a.stewards_seat;
    callers_seat = h a.caller a.callers_seat;
    new = a.new;
  }

  part_step : (leaf k : ℕ) (name : List ℕ) (tables : List Shared) (stewards : List SeatView) (before rows more : List (List SeatView)) (table : Shared) (steward caller : SeatView)
      → IsPartOfFleet base leaf names share k tables stewards before rows
      → HasRows (length names) leaf before → k < length names
      → slice_get names k ≡ Some name
      → IsNew (base leaf k) leaf k name share table steward caller
      → Puts rows k caller more
      → IsPartOfFleet base leaf names share (k + 1) (tables ++ table ∷ []) (stewards ++ steward ∷ []) before more
  part_step leaf k name tables stewards before rows more table steward caller p has low named new puts =
      let grown : List SeatView = row rows k ++ caller ∷ [] in
      let inside : k < length rows = omega (arith, p.sizes.2, has.count, low) in
      let here : row more k ≡ grown = ap (λ (r : List (List SeatView)). row r k) puts.is ∙ get_or-set_same rows k grown [] inside in
      let others : (t : ℕ) → t ≢ k → row more t ≡ row rows t = λ t apart. ap (λ (r : List (List SeatView)). row r t) puts.is ∙ get_or-set_other rows k t grown [] apart in
      let stood : row rows k ≡ row before k = p.same k (omega arith) in
      let size : length (row rows k) ≡ leaf = ap length stood ∙ has.each k low in
      let keeps : (i j : ℕ) (seat : SeatView) → place rows i j ≡ Some seat → place more i j ≡ Some seat = λ i j seat is. subst (λ (r : List (List SeatView)). place r i j ≡ Some seat) (sym puts.is) (stays rows k i j caller seat is) in
      record {
        sizes = (
          length-append tables (table ∷ []) ∙ ap (λ (n : ℕ). n + 1) p.sizes.0,
          length-append stewards (steward ∷ []) ∙ ap (λ (n : ℕ). n + 1) p.sizes.1,
          ap length puts.is ∙ (length-set rows k grown ∙ p.sizes.2),
        );
        longer = below_more (λ (t : ℕ). length (row more t) ≡ length (row before t) + 1) k
            (λ t less. ap length (others t (omega (arith, less))) ∙ p.longer t less)
            (ap length here ∙ (length-append (row rows k) (caller ∷ []) ∙ ap (λ (r : List SeatView). length r + 1) stood));
        same = λ t over. others t (omega (arith, over)) ∙ p.same t (omega (arith, over));
        kept = λ i j seat is. keeps i j seat (p.kept i j seat is);
        places = below_more (λ (t : ℕ). IsAt base names share (tables ++ table ∷ []) (stewards ++ steward ∷ []) more leaf t) k
            (λ t less. at_kept tables (tables ++ table ∷ []) stewards (stewards ++ steward ∷ []) rows more leaf t (front_at tables table t) (front_at stewards steward t) (λ x. keeps t leaf x) (p.places t less))
            (record {
              name = name;
              table = table;
              steward = steward;
              caller = caller;
              named = named;
              stands = behind tables table k p.sizes.0;
              stewards_seat = behind stewards steward k p.sizes.1;
              callers_seat = ap (λ (r : List SeatView). slice_get r leaf) here ∙ behind (row rows k) caller leaf size;
              new = new;
            });
      }

  row_front : {A : Type 0} (rows : List (List A)) (r : List A) (i n : ℕ) → length rows ≡ n → i < n → row (rows ++ r ∷ []) i ≡ row rows i
  row_front rows r i n is low = get_or_append_left rows (r ∷ []) [] i (omega (arith, is, low))

  row_last : {A : Type 0} (rows : List (List A)) (r : List A) (n : ℕ) → length rows ≡ n → row (rows ++ r ∷ []) n ≡ r
  row_last rows r n is = subst (λ (k : ℕ). row (rows ++ r ∷ []) k ≡ r) is (get_or-append_seam rows r [] [])

  fleet_step : (k : ℕ) (tables : List (List Shared)) (stewards callers more : List (List SeatView)) (ts : List Shared) (ss : List SeatView)
      → IsNewFleet base k names share tables stewards callers
      → IsPartOfFleet base k names share (length names) ts ss callers more
      → IsNewFleet base (k + 1) names share (tables ++ ts ∷ []) (stewards ++ ss ∷ []) more
  fleet_step k tables stewards callers more ts ss f p =
      let t_front : (i : ℕ) → i < k → row (tables ++ ts ∷ []) i ≡ row tables i = λ i low. row_front tables ts i k f.counts.0 low in
      let s_front : (i : ℕ) → i < k → row (stewards ++ ss ∷ []) i ≡ row stewards i = λ i low. row_front stewards ss i k f.counts.1 low in
      let t_last : row (tables ++ ts ∷ []) k ≡ ts = row_last tables ts k f.counts.0 in
      let s_last : row (stewards ++ ss ∷ []) k ≡ ss = row_last stewards ss k f.counts.1 in
      record {
        counts = (
          length-append tables (ts ∷ []) ∙ ap (λ (n : ℕ). n + 1) f.counts.0,
          length-append stewards (ss ∷ []) ∙ ap (λ (n : ℕ). n + 1) f.counts.1,
          p.sizes.2 ∙ f.counts.2,
        );
        in_leaf = below_more (λ (i : ℕ). (length (row (tables ++ ts ∷ []) i) ≡ length names) × (length (row (stewards ++ ss ∷ []) i) ≡ length names)) k
            (λ i low. (ap length (t_front i low) ∙ (f.in_leaf i low).0, ap length (s_front i low) ∙ (f.in_leaf i low).1))
            (ap length t_last ∙ p.sizes.0, ap length s_last ∙ p.sizes.1);
        in_table = λ t low. p.longer t low ∙ ap (λ (n : ℕ). n + 1) (f.in_table t low);
        places = λ leaf t below low. below_more (λ (i : ℕ). IsAt base names share (row (tables ++ ts ∷ []) i) (row (stewards ++ ss ∷ []) i) more i t) k
            (λ i under. at_kept (row tables i) (row (tables ++ ts ∷ []) i) (row stewards i) (row (stewards ++ ss ∷ []) i) callers more i t
            (λ x is. ap (λ (r : List Shared). slice_get r t) (t_front i under) ∙ is)
            (λ x is. ap (λ (r : List SeatView). slice_get r t) (s_front i under) ∙ is)
            (λ x is. p.kept t i x is)
            (f.places i t under low))
            (at_kept ts (row (tables ++ ts ∷ []) k) ss (row (stewards ++ ss ∷ []) k) more more k t
            (λ x is. ap (λ (r : List Shared). slice_get r t) t_last ∙ is)
            (λ x is. ap (λ (r : List SeatView). slice_get r t) s_last ∙ is)
            (λ x is. is)
            (p.places t low))
            leaf below;
      }

-- the lists of one more vector
lists_more : {A : Type 0} (rows : List (Vec A Global)) (v : Vec A Global) → lists_in (rows ++ v ∷ []) ≡ lists_in rows ++ v.items ∷ []
lists_more {A} rows v = map-append (λ (u : Vec A Global). u.items) rows (v ∷ [])

module _ (base : ℕ → ℕ → Option TableBase) (names : List (List ℕ)) (share : ℕ) where
  -- one more table was made
  pub part_more : (leaf k n : ℕ) (list : List (List ℕ)) (name : List ℕ) (tables tables_after : List Shared) (stewards stewards_after : List SeatView) (before rows more : List (List SeatView)) (table : Shared) (steward caller : SeatView)
      → IsPartOfFleet base leaf names share k tables stewards before rows
      → HasRows (length names) leaf before → list ≡ names → k < length list → name ≡ get_or list k name → n ≡ k
      → IsNew (base leaf n) leaf n name share table steward caller
      → tables_after ≡ tables ++ table ∷ [] → stewards_after ≡ stewards ++ steward ∷ []
      → Puts rows n caller more
      → IsPartOfFleet base leaf names share (k + 1) tables_after stewards_after before more
  part_more leaf k n list name tables tables_after stewards stewards_after before rows more table steward caller p has same low is n_is new t_is s_is puts =
      let small : k < length names = subst (λ (l : List (List ℕ)). k < length l) same low in
      let named : slice_get names k ≡ Some name = slice_get_read names (length names) k name refl small (is ∙ ap (λ (l : List (List ℕ)). get_or l k name) same) in
      let new_at : IsNew (base leaf k) leaf k name share table steward caller = subst (λ (m : ℕ). IsNew (base leaf m) leaf m name share table steward caller) n_is new in
      let puts_at : Puts rows k caller more = subst (λ (m : ℕ). Puts rows m caller more) n_is puts in
      let done : IsPartOfFleet base leaf names share (k + 1) (tables ++ table ∷ []) (stewards ++ steward ∷ []) before more = part_step base names share leaf k name tables stewards before rows more table steward caller p has small named new_at puts_at in
      let one : IsPartOfFleet base leaf names share (k + 1) tables_after (stewards ++ steward ∷ []) before more = subst (λ (l : List Shared). IsPartOfFleet base leaf names share (k + 1) l (stewards ++ steward ∷ []) before more) (sym t_is) done in
      subst (λ (l : List SeatView). IsPartOfFleet base leaf names share (k + 1) tables_after l before more) (sym s_is) one

  -- one more leaf was made
  pub fleet_more : (k : ℕ) (tables tables_after : List (Vec Shared Global)) (stewards stewards_after : List (Vec SeatView Global)) (callers more : List (List SeatView)) (ts : Vec Shared Global) (ss : Vec SeatView Global)
      → IsNewFleet base k names share (lists_in tables) (lists_in stewards) callers
      → IsPartOfFleet base k names share (length names) ts.items ss.items callers more
      → tables_after ≡ tables ++ ts ∷ [] → stewards_after ≡ stewards ++ ss ∷ []
      → IsNewFleet base (k + 1) names share (lists_in tables_after) (lists_in stewards_after) more
  fleet_more k tables tables_after stewards stewards_after callers more ts ss f p t_is s_is =
      let t_all : lists_in tables_after ≡ lists_in tables ++ ts.items ∷ [] = ap (λ (l : List (Vec Shared Global)). lists_in l) t_is ∙ lists_more tables ts in
      let s_all : lists_in stewards_after ≡ lists_in stewards ++ ss.items ∷ [] = ap (λ (l : List (Vec SeatView Global)). lists_in l) s_is ∙ lists_more stewards ss in
      let done : IsNewFleet base (k + 1) names share (lists_in tables ++ ts.items ∷ []) (lists_in stewards ++ ss.items ∷ []) more = fleet_step base names share k (lists_in tables) (lists_in stewards) callers more ts.items ss.items f p in
      let one : IsNewFleet base (k + 1) names share (lists_in tables_after) (lists_in stewards ++ ss.items ∷ []) more = subst (λ (l : List (List Shared)). IsNewFleet base (k + 1) names share l (lists_in stewards ++ ss.items ∷ []) more) (sym t_all) done in
      subst (λ (l : List (List SeatView)). IsNewFleet base (k + 1) names share (lists_in tables_after) l more) (sym s_all) one
