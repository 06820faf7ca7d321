-- Changes in the safe mode, whatever the edit.
use Rattle.std.proofs.Common.{◌≡◌, ◌<◌, ℕ, Bool, true, false, cond, List, [], refl, sym, ap, ap₂, subst, ◌∙◌, Option, None}
use Rattle.std.specs.Prelude.{Ok, ◌==◌}
use Rattle.std.proofs.lemmas.Bool.{eqb-true}
use Rattle.fc_names.specs.declared.name.NameForm.{NameForm}
use Rattle.fc_names.specs.declared.name.NameForm.TheVariants.{Long, Ten}
use Rattle.fc_record.specs.declared.Geometry.{Geometry}
use Rattle.fc_dirs.specs.Directory.{Directory, directory_of}
use Rattle.fc_newmap.specs.Map.{Map, sector_of}
use Rattle.fc_model.specs.Command.{Command}
use Rattle.fc_image.specs.Layout.{Layout, dir_form, sectors_at}
use Rattle.fc_image.specs.Walk.{Object, object_bytes, object_size, reader_of}
use Rattle.fc_image.specs.Opening.{Opened}
use Rattle.fc_image.specs.Moves.{object_in, sectors_or_none}
use Rattle.fc_image.specs.effects.Placed.{made_object}
use Rattle.fc_image.specs.effects.Short.{Growth, growth_in, object_units, slack_for}
use Rattle.fc_image.specs.effects.Steady.{AreWritten, ZoneSteady, expected_zone, zone0_after}
use Rattle.fc_image.specs.safe.SafeShort.{changed_ids}
use Rattle.fc_image.specs.safe.SafeSteady.{SafeGrown, SafeObjectPlaced, need_ids, new_id_list}
use Rattle.fc_tree.specs.Agree.{HasForm}
use Rattle.fc_laws.specs.nodes.Laws.{IsHeld}
use Rattle.fc_laws.specs.agree.Agreed.{CanSay}
use Rattle.fc_laws.proofs.lemmas.agree.BeforeLemmas.{sound}
use Rattle.fc_outcomes.proofs.lemmas.PutLemmas.{reads}
use Rattle.fc_safeedits.specs.SafeChange.{MovedParts, SafeChange}

pub held : (x : MovedParts) → IsHeld x.nodes (Layout.New x.m) x.listings
held x = record { sound = sound x.kind x.m x.nodes x.owners x.root x.listings x.agreed; held = x.agreed.walked.held }

pub form_same : (x : MovedParts) → dir_form (Layout.New x.m') ≡ dir_form (Layout.New x.m)
form_same x = ap (λ (g : Geometry). let f : NameForm = cond (g.version == 0) Ten Long in f) x.geometry

-- a directory that has all its bytes says what they say
pub says_there : (x : SafeChange) (o : Object) (content : Directory) (bytes : List ℕ) → CanSay (Layout.New x.parts.m) o content → AreWritten bytes content
    → object_bytes x.image' (Layout.New x.parts.m') o ≡ bytes → reader_of x.image' (Layout.New x.parts.m') o ≡ Ok content
says_there x o content bytes can written there =
    ap (directory_of (dir_form (Layout.New x.parts.m'))) there
    ∙ reads (dir_form (Layout.New x.parts.m')) o.entry.len bytes content (subst (λ (f : NameForm). HasForm f o.entry.len content) (sym (form_same x.parts)) can.form) written

-- objects of one address and one length have the same sectors by a map
pub sectors_as : (m : Map) (o p : Object) → p.entry.address ≡ o.entry.address → object_size (dir_form (Layout.New m)) p.entry ≡ object_size (dir_form (Layout.New m)) o.entry
    → (object_in (Layout.New m) p).sectors ≡ (object_in (Layout.New m) o).sectors
sectors_as m o p address size = ap₂ (λ (a n : ℕ). sectors_or_none (sectors_at (Layout.New m) a n)) address size

-- the root's place stays in the map's record if it doesn't grow
pub zones_same : (v w : Opened) (c : Command) (m m' : Map) → growth_in v c ≡ None → ((z : ℕ) → z < m.geometry.zones → ZoneSteady m.geometry z (sector_of m z) (sector_of m' z))
    → (z : ℕ) → z < m.geometry.zones → ZoneSteady m.geometry z (expected_zone v w c m z) (sector_of m' z)
zones_same v w c m m' none steady z low = subst (λ (sector : List ℕ). ZoneSteady m.geometry z sector (sector_of m' z)) (sym same) (steady z low)
  where
    by : (b : Bool) → (z == 0) ≡ b → cond b (sector_of m 0) (sector_of m z) ≡ sector_of m z
    by true e = ap (λ (k : ℕ). sector_of m k) (sym (eqb-true z 0 e))
    by false e = refl

    same : expected_zone v w c m z ≡ sector_of m z
    same = ap (λ (g : Option Growth). cond (z == 0) (zone0_after w g (sector_of m 0)) (sector_of m z)) none ∙ by (z == 0) refl

-- ---- a command that makes no object, and no directory grow

pub record IsQuiet (m : Map) (v : Opened) (c : Command) : Type 0 where
  pub needs : (w : Opened) → need_ids m v w c ≡ changed_ids m v c
  pub news : (w : Opened) → new_id_list m v w c ≡ []
  pub object : (m' : Map) (w : Opened) → SafeObjectPlaced m m' (object_units m v c) (slack_for v c) (made_object w c)
  pub grown : (w : Opened) → SafeGrown v w c
