-- The least number of spare columns of a base: how many the image in the region has beyond those that the writes allow.
use Rattle.std.proofs.Common.{◌≡◌, ◌≤◌, ◌∙◌, ◌+◌, ◌-◌, inl, inr, ℕ, zero, suc, List, length, refl, sym, ap, subst, arith}
use Rattle.leaf_model.specs.declared.writes.Write.{Write}
use Rattle.leaf_model.specs.Content.{content}
use Rattle.berth_face.specs.Berth.{Pair}
use Rattle.leaf_history.specs.History.{HistoryState}
use Rattle.table_state.specs.Tables.{added_count}
use Rattle.region_layout.specs.Images.{TableImage, table_named}
use Rattle.region_layout.specs.ImageWrites.{AreImagesOf}
use Rattle.region_layout.specs.Region.{IsAdoptable, reads}
use Rattle.region_layout.proofs.Images.{not_closed, one_tables}
use Rattle.disk_backup.specs.Settling.{HasLog}
use Rattle.crash_moments.specs.Left.{NamedStates, RegionLeft, closed, other_version, image}
use Rattle.crash_moments.proofs.Alike.{not_read}
use Rattle.crash_states.specs.Beginning.{IsLeastSpare}

module _ (tables : NamedStates) (writes : List ℕ → List Write) (p : Pair) where
  -- without an image there are none
  abbrev pub spare_left : RegionLeft reads tables p → List ℕ → ℕ
  spare_left (closed shut) name = 0
  spare_left (other_version version head other) name = 0
  spare_left (image version images end reads_it is are had) name = (table_named images name).columns - added_count (writes name)

  -- no fewer would do
  pub least_spare : (left : RegionLeft reads tables p) (name : List ℕ) (s : HistoryState) → s.writes ≡ writes name → s.spare ≡ spare_left left name → IsLeastSpare p.region name s
  least_spare (closed shut) name s same spare = inl spare
  least_spare (other_version version head other) name s same spare = inl spare
  least_spare (image version images end reads_it is are had) name s same spare = by s.spare refl
    where
      by : (n : ℕ) → s.spare ≡ n → IsLeastSpare p.region name s
      by zero none = inl none
      by (suc n) some = inr (images, end, record { version = version; reads_it = reads_it; is = is }, omega (arith, some, spare, ap added_count same))

  -- with them the image has few columns
  pub few_left : (left : RegionLeft reads tables p) (images : List TableImage) (end : ℕ) → IsAdoptable p.region images end → (name : List ℕ)
      → (table_named images name).columns ≤ spare_left left name + added_count (writes name)
  few_left (closed shut) images end is name = absurd (not_closed p.region images end shut is)
  few_left (other_version version head other) images end is name = absurd (not_read version p.region images end head other is)
  few_left (image version those log_end reads_it is_those are had) images end is name =
      let that : IsAdoptable p.region those log_end = record { version = version; reads_it = reads_it; is = is_those } in
      let same : (table_named those name).columns ≡ (table_named images name).columns = ap (λ (l : List TableImage). (table_named l name).columns) (one_tables p.region those images log_end end that is) in
      omega (arith, same)

  -- and the tables have as many
  pub spare_fewer : (left : RegionLeft reads tables p) (name : List ℕ) → ((end : ℕ) → HasLog (λ n. (tables n).writes) end p.disk → (tables name).writes ≡ writes name)
      → spare_left left name ≤ (tables name).spare
  spare_fewer (closed shut) name whole = omega arith
  spare_fewer (other_version version head other) name whole = omega arith
  spare_fewer (image version images end reads_it is are had) name whole = let few = (are name).few in omega (arith, few, ap added_count (whole end had))

-- an image of the tables is one of the same writes, with these spare columns
pub spared : (spare less : List ℕ → ℕ) (a b : List ℕ → List Write) (images : List TableImage) → ((name : List ℕ) → a name ≡ b name)
    → ((name : List ℕ) → (table_named images name).columns ≤ less name + added_count (b name)) → AreImagesOf spare a images → AreImagesOf less b images
spared spare less a b images same few are name = record {
  contents = (are name).contents ∙ ap content (same name);
  count = (are name).count ∙ ap (λ (l : List Write). length l) (same name);
  few = few name;
}
