use Rattle.std.proofs.Common.{◌≡◌, true, false, rules, refl}
use Rattle.std.specs.Str.{is_utf8}
use Rattle.std.proofs.lemmas.Str.{is_utf8-from_IsUtf8}
use Rattle.query_text.proofs.Lexing.{no_text}
use Rattle.query_text.proofs.quotes.text_from.Goals as goal

pub returns-in-Ok : goal.returns-in-Ok
returns-in-Ok c =
    let same : c.as_str-text.result.now ≡ c.args.bytes.items = search rules in
    let yes : is_utf8 c.args.bytes.items ≡ true = rw same at (is_utf8-from_IsUtf8 c.as_str-text.result.now c.as_str-text.utf8) in
    let given : c.of.result ≡ c.args.bytes.items = search rules in
    rw (yes, given) refl

pub returns-in-Err : goal.returns-in-Err
returns-in-Err c =
    let no : is_utf8 c.args.bytes.items ≡ false = no_text c.args.bytes.items c.in-Err.ensures.succeeds in
    rw no refl
