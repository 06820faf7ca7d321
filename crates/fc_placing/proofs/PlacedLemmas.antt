-- What a place is good for.
use Rattle.std.proofs.Common.{◌≡◌, ◌<◌, ◌&&◌, ◌||◌, ◌==◌, ◌+◌, ◌*◌, ◌-◌, ◌/◌, drop, nat_le, inl, inr, ℕ, Bool, true, false, cond, List, [], ◌∷◌, refl, sym, ap, ap₂, subst, ◌∙◌, arith, Some, None, nat_cmp}
use Rattle.std.specs.Prelude.{nat_lt}
use Rattle.std.specs.FinMap.{FinMap}
use Rattle.std.proofs.lemmas.Bool.{lt-ltb, ne_eqb}
use Rattle.fc_names.specs.Names.{Path}
use Rattle.std.specs.Int.{div_ceil}
use Rattle.fc_record.specs.declared.Geometry.{Geometry}
use Rattle.fc_record.specs.Record.{id_limit}
use Rattle.fc_alloc.specs.declared.owner.Owner.{Owner}
use Rattle.fc_newmap.specs.Map.{Map, ZoneRun, bits_in, id_runs, is_used, sectors_of}
use Rattle.fc_newmap.specs.NewMap.{IsNewMap}
use Rattle.fc_image.specs.Layout.{Layout, dir_form, first_part, id_of, low_of, sectors_at}
use Rattle.fc_image.specs.Walk.{Listing, Object}
use Rattle.fc_image.specs.Objects.{has_sectors, is_owner_of, objects_of}
use Rattle.fc_image.specs.Sound.{AreSound}
use Rattle.fc_image.specs.effects.Placed.{file_low, has_spare_share}
use Rattle.fc_image.specs.effects.Sharing.{slack}
use Rattle.fc_image.specs.effects.Short.{new_dir_size}
use Rattle.fc_names.specs.declared.name.NameForm.TheVariants.{Ten, Long}
use Rattle.fc_plan.specs.declared.plan.Plan.{Plan}
use Rattle.fc_plan.specs.Parts.{fronts}
use Rattle.fc_placing.specs.Slack.{place_in}
use Rattle.fc_tree.specs.declared.node.Node.{Node}
use Rattle.fc_tree.specs.Nodes.{HoldObjects, number_of}
use Rattle.fc_tree.specs.Parts.{AreOwners}
use Rattle.fc_changes.specs.Changed.{IsFileAt, IsInNewSpace}
use Rattle.fc_changes.proofs.BasicLemmas.{clash, or_false}
use Rattle.fc_changes.proofs.PlacedLemmas.{is_shared}
use Rattle.fc_placing.specs.declared.placing.Placing.{Placing}
use Rattle.fc_placing.specs.declared.placing.Placing.TheVariants.{Nowhere, Shared, New}
use Rattle.fc_placing.specs.Leaving.{OwnOnly}
use Rattle.fc_placing.specs.Places.{IsFilePlace, IsOwnPlan, PlaceLaw, address_in, id_in, parts_in, shared_id, slack_left}
use Rattle.fc_placing.proofs.SlackLemmas.{same_slack}

alone : (m : Map) (bytes low : ℕ) (plan : Plan) (o : Object) → IsOwnPlan m bytes plan → o.entry.address ≡ 256 * plan.id + low → IsInNewSpace m bytes low plan.id (fronts plan.parts.items) o
alone m bytes low plan o own address = record { some = own.some; is_new = own.is_new; plan = own.plan; address = address }

pub id_at : (id low : ℕ) → low < 256 → id_of (256 * id + low) ≡ id
id_at id low small = omega (arith, small)

low_small : (b : Bool) → cond b 1 0 < 256
low_small true = omega arith
low_small false = omega arith

module _ (m : Map) (nodes : FinMap nat_cmp Node) (listings : List Listing) (owners : List Owner) (dir : Path) (number bytes : ℕ)
    (is : IsNewMap m) (sound : AreSound (Layout.New m) listings) (held : HoldObjects nodes listings) (are : AreOwners owners nodes (Layout.New m) (objects_of listings))
    (numbered : number_of nodes dir ≡ Some number) (o : Object) where
  same : slack_left m owners number bytes ≡ slack m (objects_of listings) dir bytes
  same = same_slack m nodes listings owners dir number bytes is sound held are numbered

  file : (place : Placing) → IsFilePlace m owners number bytes place → o.entry.address ≡ address_in m place bytes → IsFileAt m (objects_of listings) dir bytes (id_in place) (parts_in place) o
  file Nowhere none address = inr (inr (record { none = none; address = address; nothing = refl }))
  file (Shared share) found address = inl (record { share = place_in share; found = sym same ∙ found; address = address; nothing = refl })
  file (New plan) (none, own) address = inr (inl (sym same ∙ none, alone m bytes (file_low m.geometry (bits_in (fronts plan.parts.items) * m.geometry.bit_bytes) bytes) plan o own address))

  owns : (place : Placing) → IsFilePlace m owners number bytes place → o.entry.address ≡ address_in m place bytes → has_sectors o ≡ nat_lt 0 bytes → OwnOnly m (shared_id place) (o ∷ [])
  owns Nowhere none address some id used = ap (λ (b : Bool). (b && (id_of o.entry.address == id)) || false) (some ∙ ap (nat_lt 0) none)
  owns (Shared share) found address some id used =
      let s = is_shared m (objects_of listings) dir bytes (place_in share) (sym same ∙ found) in
      or_false (is_owner_of id o)
      ∙ ap₂ (λ (b : Bool) (i : ℕ). b && (i == id)) (some ∙ lt-ltb 0 bytes s.some) (ap id_of address ∙ id_at share.id share.low s.low)
  owns (New plan) (none, own) address some id used =
      or_false (is_owner_of id o)
      ∙ ap (λ (i : ℕ). has_sectors o && (i == id)) (ap id_of address ∙ id_at plan.id (file_low m.geometry (bits_in (fronts plan.parts.items) * m.geometry.bit_bytes) bytes)
      (low_small (has_spare_share m.geometry (bits_in (fronts plan.parts.items) * m.geometry.bit_bytes) bytes)))
      ∙ ap (λ (b : Bool). has_sectors o && b) (ne_eqb plan.id id (λ e. clash (is_used m id) used (subst (λ (k : ℕ). is_used m k ≡ false) e own.unused))) ∙ none_of (has_sectors o)
    where
      none_of : (b : Bool) → (b && false) ≡ false
      none_of true = refl
      none_of false = refl

place_stays : (m m' : Map) (address bytes : ℕ) → m'.geometry ≡ m.geometry → id_runs m' (id_of address) ≡ id_runs m (id_of address)
    → sectors_at (Layout.New m') address bytes ≡ sectors_at (Layout.New m) address bytes
unfolding sectors_at
place_stays m m' address bytes geometry runs =
    ap₂ (λ (g : Geometry) (rs : List ZoneRun).
    cond (bytes == 0) (Some [])
    (cond (nat_le 2 (id_of address) && nat_lt (id_of address) (id_limit g))
    (first_part (div_ceil bytes g.sector) (drop ((low_of address - 1) * (g.share / g.sector)) (sectors_of g rs))) None)) geometry runs

directory : (m : Map) → new_dir_size (dir_form (Layout.New m)) ≡ 2048
directory m = by (m.geometry.version == 0)
  where
    by : (b : Bool) → new_dir_size (cond b Ten Long) ≡ 2048
    by true = refl
    by false = refl

pub place_law : PlaceLaw
place_law = record {
  file = λ m nodes listings owners dir number bytes place o is sound held are numbered good address. file m nodes listings owners dir number bytes is sound held are numbered o place good address;
  alone = alone;
  directory = directory;
  owns = λ m nodes listings owners dir number bytes place o is sound held are numbered good address some. owns m nodes listings owners dir number bytes is sound held are numbered o place good address some;
  stays = place_stays;
}
