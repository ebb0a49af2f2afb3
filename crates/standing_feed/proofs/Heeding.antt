-- Entries that are heeded one after another.
use Rattle.std.proofs.Common.{◌≡◌, List, [], ◌∷◌, refl}
use Rattle.standing_query.specs.States.{StandingState}
use Rattle.standing_feed.specs.declared.heard.Heard.{Heard}
use Rattle.standing_feed.specs.Following.{Heeds, HeedsAll}

pub heeds_more : (s s' s'' : StandingState) (all left others : List Heard) (h : Heard)
    → ((t : StandingState) → HeedsAll s' left t → HeedsAll s all t)
    → left ≡ h ∷ others
    → Heeds s' h s''
    → (t : StandingState) → HeedsAll s'' others t → HeedsAll s all t
heeds_more s s' s'' all left others h so_far e one t rest = so_far t (HeedsAll.more s' left t h others s'' one rest e)

pub heeds_end : (s s' : StandingState) (all left : List Heard) → ((t : StandingState) → HeedsAll s' left t → HeedsAll s all t) → left ≡ [] → HeedsAll s all s'
heeds_end s s' all left so_far e = so_far s' (HeedsAll.none s' left s' e refl)
