use Rattle.std.proofs.Common.{◌≡◌, ℕ, Vec, Global, List, ◌∷◌, [], length, sym, subst, ◌∙◌}
use Rattle.std.specs.Prelude.{Option, IfSome}
use Rattle.std.specs.List.{AllByRecursion}
use Rattle.block_scan.specs.declared.decoded.Decoded.{Decoded}
use Rattle.block_scan.specs.declared.decoded.Decoded.TheVariants.{Ints}
use Rattle.block_scan.specs.Keyed.{AreOfKeys, IsOfKey, IsPlaced}
use Rattle.block_scan.specs.Reads.{columns_of, row_of}
use Rattle.block_scan.proofs.Keyed.{alone_stands, coded_stands, found_stands, keys_sized, missing_stands, no_name, one_name}
use Rattle.block_scan.proofs.slots.slots_of.Goals as goal

pub found_slots-requires-in-Some-clause-sized : goal.found_slots-requires-in-Some-clause-sized
found_slots-requires-in-Some-clause-sized c =
    let n = length c.args.times.now in let row = row_of c.args.times.now (columns_of c.args.read.now) in let names = c.as_slice.result.now in
    keys_sized n row names c.in-Some.keys.items (subst (λ (f : Option (Vec Decoded Global)). IfSome f (λ ds. AreOfKeys n row names ds.items)) c.in-Some.is c.in_ok-keys-in_default.ensures)

pub returns-in-empty : goal.returns-in-empty
returns-in-empty c =
    let n = length c.args.times.now in let row = row_of c.args.times.now (columns_of c.args.read.now) in let q = c.args.query.now in
    alone_stands q n row c.args.places.now c.requires.inside (sym c.as_slice.ensures ∙ no_name c.as_slice.result.now c.in-empty.len_below)

pub returns-in-Some-Missing : goal.returns-in-Some-Missing
returns-in-Some-Missing c =
    let n = length c.args.times.now in let row = row_of c.args.times.now (columns_of c.args.read.now) in let q = c.args.query.now in let name = c.name-item.result in
    let one = sym c.as_slice.ensures ∙ one_name c.as_slice.result.now name c.in-len1.len_at_least c.in-len1.len_below c.name-item.is in
    let is = subst (IsOfKey n row name) c.in-Some-Missing.field-0-is (subst (λ (f : Option Decoded). IfSome f (IsOfKey n row name)) c.in-Some-Missing.is c.in_ok-decode-in-len1.ensures) in
    missing_stands q n row name one c.args.places.now c.requires.inside is

pub returns-in-Some-Codes : goal.returns-in-Some-Codes
returns-in-Some-Codes c =
    let n = length c.args.times.now in let row = row_of c.args.times.now (columns_of c.args.read.now) in let q = c.args.query.now in let name = c.name-item.result in
    let one = sym c.as_slice.ensures ∙ one_name c.as_slice.result.now name c.in-len1.len_at_least c.in-len1.len_below c.name-item.is in
    let is = subst (IsOfKey n row name) c.in-Some-Codes.field-0-is (subst (λ (f : Option Decoded). IfSome f (IsOfKey n row name)) c.in-Some-Codes.is c.in_ok-decode-in-len1.ensures) in
    coded_stands q n row name one c.in-Some-Codes.codes c.args.places.now c.requires.inside is

pub returns-in_ok-found-in-Some-Ints : goal.returns-in_ok-found-in-Some-Ints
returns-in_ok-found-in-Some-Ints c =
    let n = length c.args.times.now in let row = row_of c.args.times.now (columns_of c.args.read.now) in let q = c.args.query.now in let name = c.name-item.result in
    let found = c.in_ok-found-in-Some-Ints in
    let one = sym c.as_slice.ensures ∙ one_name c.as_slice.result.now name c.in-len1.len_at_least c.in-len1.len_below c.name-item.is in
    let is = subst (IsOfKey n row name) c.in-Some-Ints.field-0-is (subst (λ (f : Option Decoded). IfSome f (IsOfKey n row name)) c.in-Some-Ints.is c.in_ok-decode-in-len1.ensures) in
    let keys : found.found.keys.items ≡ Ints c.in-Some-Ints.integers ∷ [] = found.ensures.keys ∙ c.in_ok-keys-in-Some-Ints.ensures in
    let are : AreOfKeys n row q.keys found.found.keys.items
    = subst (λ (l : List (List ℕ)). AreOfKeys n row l found.found.keys.items) (sym one) (subst (AreOfKeys n row (name ∷ [])) (sym keys) (is, tt)) in
    found_stands q n row found.found c.args.places.now c.requires.inside are found.ensures.held
    (subst (λ (l : List Decoded). AllByRecursion (IsPlaced l found.found.firsts.items found.found.at.items) c.args.places.now) (sym found.ensures.keys) found.ensures.placed)

pub returns-in_ok-found-in-Some : goal.returns-in_ok-found-in-Some
returns-in_ok-found-in-Some c =
    let n = length c.args.times.now in let row = row_of c.args.times.now (columns_of c.args.read.now) in let q = c.args.query.now in let names = c.as_slice.result.now in
    let found = c.in_ok-found-in-Some in
    let all = subst (λ (f : Option (Vec Decoded Global)). IfSome f (λ ds. AreOfKeys n row names ds.items)) c.in-Some.is c.in_ok-keys-in_default.ensures in
    let are : AreOfKeys n row q.keys found.found.keys.items
    = subst (λ (l : List (List ℕ)). AreOfKeys n row l found.found.keys.items) c.as_slice.ensures (subst (AreOfKeys n row names) (sym found.ensures.keys) all) in
    found_stands q n row found.found c.args.places.now c.requires.inside are found.ensures.held
    (subst (λ (l : List Decoded). AllByRecursion (IsPlaced l found.found.firsts.items found.found.at.items) c.args.places.now) (sym found.ensures.keys) found.ensures.placed)
