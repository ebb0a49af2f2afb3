-- The members of an object, one more at a time.
use Rattle.std.proofs.Common.{◌≡◌, ℕ, zero, suc, ◌-◌, ◌<◌, ◌≤◌, List, [], ◌∷◌, length, Option, Some, None, option_map, option_and_then, refl, ap, ◌∙◌}
use Rattle.json.specs.Token.{Token}
use Rattle.json.specs.Json as json
use Rattle.json.specs.Json.{Parse, parse_map, read_key, members, if_last}
use Rattle.json.proofs.Grammar.{members_end, members_more}
use Rattle.serde_json.specs.Data.{Data, object, Members, no_members, put}
use Rattle.serde_json.specs.Read.{of_json, of_members, converted}

abbrev or_else : {A : Type 0} → A → Option A → A
or_else d None = d
or_else d (Some a) = a

split : {B : Type 0} (r s : List Token) (x : Option B) (b : B) → option_map {U = B × List Token} (λ y. (y, r)) x ≡ Some (b, s) → (r ≡ s) × (x ≡ Some b)
split r s None b e = absurd (cc)
split r s (Some y) b e = let same = ap (or_else (y, r)) e in (ap (λ p. p.1) same, ap (λ p. Some p.0) same)

read_as : {A B : Type 0} (f : A → Option B) (o : Option (A × List Token)) (b : B) (r : List Token) → converted f o ≡ Some (b, r) → (a : A) × (o ≡ Some (a, r)) × (f a ≡ Some b)
read_as f None b r e = absurd (cc)
read_as f (Some p) b r e = let both = split p.1 r (f p.0) b e in (p.0, ap (λ s. Some (p.0, s)) both.0, both.1)

object_of : (x : Option Members) (r : List Token) → option_map (λ d. (d, r)) (option_map object x) ≡ parse_map object (option_map (λ ms. (ms, r)) x)
object_of None r = refl
object_of (Some ms) r = refl

pub converted_object : (o : Option (json.Members × List Token)) → converted of_json (parse_map json.object o) ≡ parse_map object (converted (λ ms. of_members ms no_members) o)
converted_object None = refl
converted_object (Some p) = object_of (of_members p.0 no_members) p.1

put_one : (k : List ℕ) (j : json.Json) (d : Data) (old : Members) → of_json j ≡ Some d → (o : Option (json.Members × List Token))
    → converted (λ ms. of_members ms old) (parse_map (json.member k j) o) ≡ converted (λ ms. of_members ms (put k d old)) o
put_one k j d old e None = refl
put_one k j d old e (Some p) = rw e

pub one_more : (p : Parse json.Json) (old : Members) (n : ℕ) (k : List ℕ) (ts s r : List Token) (d : Data) → 0 < n → read_key ts ≡ Some (Some k, s) → converted of_json (p s) ≡ Some (d, r)
    → converted (λ ms. of_members ms old) (members p n ts) ≡ converted (λ ms. of_members ms (put k d old)) (members p (n - 1) r)
one_more p old n k ts s r d some key e = let j = read_as of_json (p s) d r e in ap (converted (λ ms. of_members ms old)) (members_more p n k ts s r j.0 some key j.1) ∙ put_one k j.0 d old j.2 _

pub all_read : (p : Parse json.Json) (old : Members) (n : ℕ) (ts r : List Token) → length ts ≤ n → read_key ts ≡ Some (None, r) → converted (λ ms. of_members ms old) (members p n ts) ≡ Some (old, r)
all_read p old n ts r enough e = ap (converted (λ ms. of_members ms old)) (members_end p n ts r enough e)

pub whole_text : (o : Option (json.Json × List Token)) (d : Data) → converted of_json o ≡ Some (d, []) → option_and_then of_json (option_and_then (λ p. if_last p.0 p.1) o) ≡ Some d
whole_text o d e = let j = read_as of_json o d [] e in ap (λ q. option_and_then of_json (option_and_then (λ p. if_last p.0 p.1) q)) j.1 ∙ j.2
