use Rattle.std.proofs.Common.{◌≡◌, ℕ, List, [], ◌++◌, map, ap, append_assoc}
use Rattle.standing_query.proofs.spread.names_of.Goals as goal

joined : (none one two three cs ks fs : List (List ℕ)) → none ≡ [] → one ≡ none ++ cs → two ≡ one ++ ks → three ≡ two ++ fs → three ≡ cs ++ (ks ++ fs)
joined none one two three cs ks fs e f g h = rw (h, g, f, e) (append_assoc cs ks fs)

pub returns : goal.returns
returns c =
    joined _ _ _ _ _ _ _ (ap (map (λ n. n.now)) c.new.ensures.items) (rw c.as_slice.ensures at c.in_ok-names.ensures) (rw c.as_slice-2.ensures at c.in_ok-names-2.ensures)
    (rw c.as_slice-3.ensures at c.in_ok-with_aggs.ensures)
