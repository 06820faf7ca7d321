-- What an image leaves that is as it was, of free space and of the map.
use Rattle.std.proofs.Common.{◌≡◌, inl, ℕ, List, [], Option, Some, None, Result, Ok, refl, ap, subst, ◌∙◌}
use Rattle.fc_record.specs.declared.DiscRecord.{DiscRecord}
use Rattle.fc_record.specs.declared.Kind.{Kind}
use Rattle.fc_record.specs.declared.Kind.TheVariants.{Boot, OneZone, DiscD, DiscL}
use Rattle.fc_record.specs.Record.{geometry}
use Rattle.fc_oldmap.specs.OldMap.{OldMapContent, free_space, hole_fault}
use Rattle.fc_newmap.specs.Map.{Map, ZoneRun, hole_runs}
use Rattle.fc_newmap.specs.RunsLaw.{HasZones}
use Rattle.fc_newmap.specs.Copies.{Chooses, copy_of}
use Rattle.fc_model.specs.Command.{Command}
use Rattle.fc_image.specs.declared.ImageFault.{ImageFault}
use Rattle.fc_image.specs.Layout.{Layout}
use Rattle.fc_image.specs.Opening.{MapAndRoot, Opened, holes_or}
use Rattle.fc_image.specs.Stays.{IsNewKind, OpensAs}
use Rattle.fc_image.specs.effects.Placed.{holes_left}
use Rattle.fc_image.specs.effects.Short.{Growth, growth_in}
use Rattle.fc_image.proofs.FreeLemmas.{parts_of}
use Rattle.fc_image.proofs.MoveLemmas.{open_by}
use Rattle.fc_image.proofs.SameMapLemmas.{new_map}
use Rattle.fc_runs.specs.Space.{IsOwnMap, MayTakeToGrow, SparesNew, SparesOld, SparesSpace, Takes}

-- ---- the map that an image opens with

old_found : (space : OldMapContent) (root : ℕ) (fault : Option ℕ) (found : MapAndRoot) → holes_or (Layout.Old space, root, 0) fault ≡ Ok found → Layout.Old space ≡ found.0
old_found space root None found e = ap (λ (q : MapAndRoot). q.0) (same (Layout.Old space, root, 0) found e)
  where
    same : (x y : MapAndRoot) → (let q : Result MapAndRoot ImageFault = Ok x in q) ≡ Ok y → x ≡ y
    same x y h = cc
old_found space root (Some index) found e = absurd (cc)

never_new : (image : List ℕ) (kind : Kind) (v : Opened) (m : Map) (space : OldMapContent) (root : ℕ) (fault : Option ℕ) (found : MapAndRoot) → holes_or (Layout.Old space, root, 0) fault ≡ Ok found
    → found.0 ≡ v.layout → v.layout ≡ Layout.New m → ⊥
never_new image kind v m space root fault found e layout at = (let clash : Layout.Old space ≡ Layout.New m = old_found space root fault found e ∙ layout ∙ at in cc)

-- A new map is that of a record.
pub new_kind : (kind : Kind) (image : List ℕ) (v : Opened) (m : Map) → OpensAs image kind v → v.layout ≡ Layout.New m → (r : DiscRecord) × IsNewKind kind r
new_kind (Boot r) image v m opens at = (r, refl)
new_kind (OneZone r) image v m opens at = (r, refl)
new_kind DiscD image v m opens at =
    let p = parts_of image DiscD v opens.opened in absurd (never_new image DiscD v m (free_space image 4) 4 (hole_fault image 4) p.0 p.1.1 (ap (λ (w : Opened). w.layout) p.1.4) at)
new_kind (DiscL units) image v m opens at =
    let p = parts_of image (DiscL units) v opens.opened in absurd (never_new image (DiscL units) v m (free_space image 1) 2 (hole_fault image 1) p.0 p.1.1 (ap (λ (w : Opened). w.layout) p.1.4) at)

module _ (image : List ℕ) (kind : Kind) (v : Opened) (m : Map) (opens : OpensAs image kind v) (at : v.layout ≡ Layout.New m) where
  -- Its zones can be read,
  pub zones_right : HasZones m
  zones_right = let new = new_kind kind image v m opens at in (open_by image kind new.0 v m new.1 opens at).zones

  -- and they are those of the copy that counts.
  pub chooses_own : Chooses m.geometry m.zones image
  chooses_own =
      let new = new_kind kind image v m opens at in
      let o = open_by image kind new.0 v m new.1 opens at in
      let f = o.found_map in
      let found : Map = record { geometry = geometry new.0; zones = copy_of (geometry new.0) f.which image } in
      let same : found ≡ m = new_map found m (ap (λ (q : MapAndRoot). q.0) f.is) in
      subst (λ (n : Map). Chooses n.geometry n.zones image) same (record { which = f.which; chosen_one = f.chosen_one; content = refl })

-- ---- nothing is taken

pub grows_none : (m : Map) (o : Option Growth) → MayTakeToGrow m.geometry (holes_left (hole_runs m) []) o []
grows_none m None = refl
grows_none m (Some growth) = inl refl

abbrev pub takes_none : (m : Map) (v : Opened) (c : Command) → Takes m v c
takes_none m v c = record { object = []; directory = []; object_is = inl refl; directory_is = grows_none m (growth_in v c) }

pub own_same : (m : Map) (v : Opened) (c : Command) (parts : List ZoneRun) → HasZones m → IsOwnMap m v c parts m
own_same m v c parts right = record {
  geometry = refl;
  right = right;
  stay = λ id used never. refl;
  added = λ id run at. inl at;
  zones = λ z low. inl (record { header = refl; behind = refl });
}

pub new_same : (m : Map) (v : Opened) (c : Command) (was : List ℕ) → HasZones m → Chooses m.geometry m.zones was → SparesNew m v c was was
new_same m v c was right chooses = record { takes = takes_none m v c; free = λ s hole out. refl; map = λ few. (m, own_same m v c [] right, chooses); still = λ none. chooses }

pub old_same : (space : OldMapContent) (v : Opened) (c : Command) (was : List ℕ) → SparesOld space v c was was
old_same space v c was = record { taken = []; takes = inl refl; free = λ s hole off out. refl; still = λ none. refl }

pub space_same : (kind : Kind) (v : Opened) (c : Command) (was : List ℕ) → OpensAs was kind v → SparesSpace v.layout v c was was
space_same kind v c was opens = by v.layout refl
  where
    by : (l : Layout) → v.layout ≡ l → SparesSpace l v c was was
    by (Layout.New m) at = new_same m v c was (zones_right was kind v m opens at) (chooses_own was kind v m opens at)
    by (Layout.Old space) at = old_same space v c was
