-- The order of headings is total, and headings that compare alike are one.
use Rattle.std.proofs.Common.{◌≡◌, ℕ, List, refl, ap, ◌∙◌}
use Rattle.std.specs.Cmp.{IsTotalOrder}
use Rattle.std.specs.Ordering.{nat_cmp, ordering_then}
use Rattle.std.specs.declared.cmp.Ordering.{Ordering}
use Rattle.std.specs.declared.cmp.Ordering.TheVariants.{Less, Equal, Greater}
use Rattle.std.proofs.lemmas.Cmp.{nat_cmp_total, nat_list_cmp_total, on_total, then_total}
use Rattle.std.proofs.lemmas.Map.Lookups.{exact_bytes}
use Rattle.row_model.specs.Texts.{text_cmp}
use Rattle.column_bytes.specs.declared.kind.Kind.{Kind}
use Rattle.column_bytes.specs.declared.kind.Kind.TheVariants.{Ints, Texts, Sets}
use Rattle.row_blocks.specs.Headings.{Heading, heading_cmp, kind_place}

pub heading_total : IsTotalOrder heading_cmp
heading_total = then_total (on_total (λ (h : Heading). h.name) nat_list_cmp_total) (on_total (λ (h : Heading). kind_place h.kind) nat_cmp_total)

exact_kind : (a b : Kind) → nat_cmp (kind_place a) (kind_place b) ≡ Equal → a ≡ b
exact_kind Ints Ints e = refl
exact_kind Ints Texts e = absurd cc
exact_kind Ints Sets e = absurd cc
exact_kind Texts Ints e = absurd cc
exact_kind Texts Texts e = refl
exact_kind Texts Sets e = absurd cc
exact_kind Sets Ints e = absurd cc
exact_kind Sets Texts e = absurd cc
exact_kind Sets Sets e = refl

both_equal : (a b : Ordering) → ordering_then a b ≡ Equal → (a ≡ Equal) × (b ≡ Equal)
both_equal Less b e = absurd cc
both_equal Equal b e = (refl, e)
both_equal Greater b e = absurd cc

pub exact_heading : (a b : Heading) → heading_cmp a b ≡ Equal → a ≡ b
exact_heading a b e =
    let both = both_equal (text_cmp a.name b.name) (nat_cmp (kind_place a.kind) (kind_place b.kind)) e in
    ap (λ (n : List ℕ). record { name = n; kind = a.kind }) (exact_bytes a.name b.name both.0)
    ∙ ap (λ (k : Kind). record { name = b.name; kind = k }) (exact_kind a.kind b.kind both.1)
