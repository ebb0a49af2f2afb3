use Rattle.std.proofs.Common.{◌≡◌, ◌<◌, ◌++◌, ◌∷◌, [], true, false, length, sym, ap, ◌∙◌, subst, arith, append_assoc}
use Rattle.std.proofs.lemmas.Bool.Decides.{nat_tests}
use Rattle.script_text.specs.Fits.{AreTables}
use Rattle.script_text.specs.Words.{words_of, are_tables, may_follow}
use Rattle.script_text.proofs.Tables.{refused, followed, Followed, are_tables-is}
use Rattle.script_text.proofs.fleet.tables.Goals as goal

pub returns-then-not-may_follow-clause-exact : goal.returns-then-not-may_follow-clause-exact
returns-then-not-may_follow-clause-exact c =
    let tables = c.loop-word.tables.items in
    let word = c.in-Some.word.now in
    let others = words_of c.in-Some.after.now in
    let whole : tables ++ word ∷ others ≡ words_of c.args.words.now = ap (λ ws. tables ++ ws) (sym c.in-Some.ensures.some) ∙ c.loop-word.invariant.0 in
    let no_more : may_follow tables word ≡ false = subst (λ names. may_follow names word ≡ false) c.as_slice.ensures.value (sym c.if-not-may_follow.ensures) in
    let fails : are_tables (words_of c.args.words.now) ≡ false = refused tables word others (words_of c.args.words.now) whole no_more in
    rw fails

pub loop-word-preserved : goal.loop-word-preserved
loop-word-preserved c =
    let tables = c.loop-word.tables.items in
    let word = c.in-Some.word.now in
    let others = words_of c.in-Some.after.now in
    let items : c.push.new.self.items ≡ tables ++ word ∷ [] = c.in_ok-push.ensures.items ∙ ap (λ name. tables ++ name ∷ []) c.in_ok-text_of.ensures in
    let whole : c.push.new.self.items ++ others ≡ words_of c.args.words.now =
    ap (λ names. names ++ others) items ∙ append_assoc tables (word ∷ []) others ∙ ap (λ ws. tables ++ ws) (sym c.in-Some.ensures.some) ∙ c.loop-word.invariant.0 in
    let may : may_follow tables word ≡ true = subst (λ names. may_follow names word ≡ true) c.as_slice.ensures.value (sym c.if-not-may_follow.ensures) in
    let f : Followed c.push.new.self.items = subst Followed (sym items) (followed tables word may c.loop-word.invariant.2 c.loop-word.invariant.3) in
    (whole, f.few, f.each, f.distinct)

pub returns-clause-are_tables : goal.returns-clause-are_tables
returns-clause-are_tables c =
    let inv = c.loop-word.invariant in
    let some : 0 < length c.loop-word.tables.items = grind (arith, nat_tests, c.if-is_empty.ensures) in
    subst AreTables (sym c.of.ensures) (are_tables-is c.loop-word.tables.items some inv.1 inv.2 inv.3)
