use Rattle.std.proofs.Common.{◌≡◌, ◌∷◌, ◌≤◌, ◌++◌, ℕ, List, [], length, sym, ap, subst, arith}
use Rattle.leaf_model.specs.Lent.{lent_texts}
use Rattle.row_model.specs.Values.{bytes_in}
use Rattle.dictionaries.specs.Dictionary.{AreKept, AreTexts, texts_by}
use Rattle.dictionaries.specs.Sets.{AreNumbers}
use Rattle.column_bytes.proofs.Distinct.{texts_with}
use Rattle.column_bytes.proofs.SetCoding.{bytes_left, bytes_with, grows_with, kept_on, kept_with, numbered_more, parted_more}
use Rattle.column_bytes.proofs.set_codes.numbers_of.Goals as goal

pub loop-text-preserved : goal.loop-text-preserved
loop-text-preserved c =
    let old = c.loop-text.texts in let new = c.code_of.new.self in
    let numbers = c.loop-text.numbers.items in let number = c.in_ok-code_of.field-0 in
    let text = c.in-Some.text.now in let others = lent_texts c.in-Some.others in
    let left = lent_texts c.loop-text.left in let members = lent_texts c.args.members.now in
    let was = c.loop-text.invariant in
    let parted : text ∷ others ≡ left = c.in-Some.ensures in
    let put = c.in_ok-code_of.ensures.texts in
    let bytes = ap bytes_in parted in
    let upto = bytes_left (texts_by old numbers) left in
    let whole = ap bytes_in was.parted in
    let together = c.requires.members.together in
    let short : length text ≤ 65535 = omega (arith, bytes, upto, whole, together) in
    let kept = subst (AreKept old) (sym put) (kept_with old text) in
    let made : numbers ++ number ∷ [] ≡ c.push.new.self.items = sym {A = List ℕ} c.in_ok-push.ensures.items in
    record {
      texts = λ are. subst AreTexts (sym put) (texts_with old text (was.texts are) (record { utf8 = c.code_of.ensures.utf8; short = short }));
      kept = kept_on c.args.texts.now old new was.kept kept;
      grows = omega (arith, ap length put, grows_with old text, ap length parted, was.grows);
      bytes = omega (arith, ap bytes_in put, bytes_with old text, bytes, was.bytes);
      numbers = subst (AreNumbers (length new)) made (numbered_more numbers old new number kept was.numbers c.in_ok-code_of.ensures.below);
      parted = subst (λ ns. texts_by new ns ++ others ≡ members) made
          (parted_more numbers old new number text others left members kept was.numbers c.in_ok-code_of.ensures.code parted was.parted);
    }
