-- The form that the bytes of kind and form name is of that kind.
use Rattle.std.proofs.Common.{◌≡◌, ℕ, Bool, true, false, ◌&&◌, List, Option, Some, None, if◌then◌else◌, sym, ap}
use Rattle.std.specs.Bool.{◌==◌}
use Rattle.std.proofs.lemmas.Bool.{false≢true}
use Rattle.column_bytes.specs.declared.kind.Kind.TheVariants as kinds
use Rattle.column_bytes.specs.declared.form.Form.{Form}
use Rattle.column_bytes.specs.declared.form.Form.TheVariants as forms
use Rattle.column_bytes.specs.Cells.{book_of, kind_of_book}
use Rattle.column_bytes.specs.Column.{form_at}

abbrev is_some_form : Option Form → Bool
is_some_form (Some form) = true
is_some_form None = false

abbrev form_or : Form → Option Form → Form
form_or other (Some form) = form
form_or other None = other

none_named : (form : Form) → None ≡ Some form → ⊥
none_named form h = false≢true (ap is_some_form h)

by_form : (found form : Form) (n : ℕ) (extra : List ℕ) → Some found ≡ Some form → kind_of_book (book_of form n extra) ≡ kind_of_book (book_of found n extra)
by_form found form n extra h = ap (λ (f : Form). kind_of_book (book_of f n extra)) (sym (ap (form_or found) h))

by_tests : (a b d e g : Bool) (form : Form) (n : ℕ) (extra : List ℕ)
    → (if a && e then Some forms.Offset else (if a && g then Some forms.Delta else (if b && e then Some forms.Dictionary else (if d && e then Some forms.Sets else None)))) ≡ Some form
    → kind_of_book (book_of form n extra) ≡ (if a then kinds.Ints else (if b then kinds.Texts else kinds.Sets))
by_tests true b d true g form n extra h = by_form forms.Offset form n extra h
by_tests true b d false true form n extra h = by_form forms.Delta form n extra h
by_tests true true true false false form n extra h = absurd (none_named form h)
by_tests true true false false false form n extra h = absurd (none_named form h)
by_tests true false true false false form n extra h = absurd (none_named form h)
by_tests true false false false false form n extra h = absurd (none_named form h)
by_tests false true d true g form n extra h = by_form forms.Dictionary form n extra h
by_tests false false true true g form n extra h = by_form forms.Sets form n extra h
by_tests false false false true g form n extra h = absurd (none_named form h)
by_tests false true true false g form n extra h = absurd (none_named form h)
by_tests false true false false g form n extra h = absurd (none_named form h)
by_tests false false true false g form n extra h = absurd (none_named form h)
by_tests false false false false g form n extra h = absurd (none_named form h)

pub kind_named : (k f : ℕ) (form : Form) (n : ℕ) (extra : List ℕ) → form_at k f ≡ Some form
    → kind_of_book (book_of form n extra) ≡ (if k == 1 then kinds.Ints else (if k == 2 then kinds.Texts else kinds.Sets))
unfolding form_at
kind_named k f form n extra h = by_tests (k == 1) (k == 2) (k == 3) (f == 1) (f == 2) form n extra h
