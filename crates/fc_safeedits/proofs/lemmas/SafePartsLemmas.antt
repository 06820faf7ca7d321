-- The parts of a volume after an edit by which identifiers move.
use Rattle.std.proofs.Common.{◌≡◌, ◌⊎◌, inl, inr, ⊎_elim, ℕ, List, [], sym, ap, subst, ◌∙◌}
use Rattle.std.specs.Prelude.{Contains}
use Rattle.fc_dirs.specs.declared.Entry.{Entry}
use Rattle.fc_dirs.specs.Directory.{Directory}
use Rattle.fc_newmap.specs.Map.{Map}
use Rattle.fc_image.specs.Layout.{Layout, dir_form}
use Rattle.fc_image.specs.Walk.{Listing, Object, root_entry}
use Rattle.fc_image.specs.Objects.{objects_of}
use Rattle.fc_image.specs.Order.{held}
use Rattle.fc_tree.specs.Agree.{HasForm}
use Rattle.fc_tree.proofs.MemberLemmas.{contains_here, from_map, no_element}
use Rattle.fc_laws.specs.agree.Agreed.{CanSay}
use Rattle.fc_laws.proofs.lemmas.agree.BeforeLemmas.{had}
use Rattle.fc_laws.proofs.lemmas.agree.WalkedLemmas as on_any
use Rattle.fc_edits.specs.Edit.{Amended, Edit, TopStays, TopTurns}
use Rattle.fc_edits.specs.NewPlaces.{NewPlaces}
use Rattle.fc_edits.specs.PartsEdit.{NewPartsEdit}
use Rattle.fc_edits.specs.Places.{CanSayAll, IsRootEntry}
use Rattle.fc_edits.proofs.lemmas.NewAgreeLemmas.{agree_law}
use Rattle.fc_edits.proofs.lemmas.NewPlaceLemmas.{new_places_law}
use Rattle.fc_safeedits.specs.Relocation.{Relocation, all_amended, amended_in, relocated, turned_in}
use Rattle.fc_safeedits.specs.SafeParts.{SafeParts, SafePartsLaw}
use Rattle.fc_safeedits.proofs.lemmas.LaidLemmas.{amended_or_told, same_listed}
use Rattle.fc_safeedits.proofs.lemmas.RelocatedLemmas.{is_edit', the_top, turned_entry}
use Rattle.fc_safeedits.proofs.lemmas.RelocatedNodesLemmas.{nodes_now}
use Rattle.fc_safeedits.proofs.lemmas.SafePlacesLemmas.{places', safe_places_law}

module _ (y : SafeParts) where
  abbrev x : Relocation
  x = y.move

  abbrev m : Map
  m = x.m

  abbrev m' : Map
  m' = x.m'

  abbrev listings : List Listing
  listings = x.listings

  abbrev e : Edit
  e = x.edit

  pub places : NewPlaces y.kind m m' x.nodes listings (relocated x) y.takings y.gone
  places = places' x y.kind y.owners y.root y.takings y.gone y.agreed y.places

  pub can : CanSayAll (Layout.New m) listings (relocated x)
  can = record {
    few = y.can.few;
    amended = λ b at.
        (let a = from_map (amended_in x) (all_amended x) b at in
        subst (λ (c : Amended). CanSay (Layout.New m) (turned_in x c.was.object) c.content) a.2
        (⊎_elim (λ amended. says_as a.0.was.object a.0.content (y.can.amended a.0 amended))
        (λ k. subst (λ (c : Amended). CanSay (Layout.New m) (turned_in x c.was.object) c.content) k.2 (says_as k.0.object k.0.content (told_can k.0 k.1))) (amended_or_told x a.0 a.1)));
    into = y.can.into;
    into_none = y.can.into_none;
    same = λ k at. absurd (no_element k at);
    root = λ o at path t. root_can o at path;
  }
    where
      says_as : (o : Object) (content : Directory) → CanSay (Layout.New m) (e.turn o) content → CanSay (Layout.New m) (turned_in x o) content
      says_as o content c =
          record { form = subst (λ (z : Entry). HasForm (dir_form (Layout.New m)) z.len content) (sym (turned_entry x o)) c.form; body = c.body }

      told_can : (k : Listing) → Contains e.same k → CanSay (Layout.New m) (e.turn k.object) k.content
      told_can k at = record {
        form = subst (λ (n : ℕ). HasForm (dir_form (Layout.New m)) n k.content) (sym (y.can.same k at)) (y.agreed.walked.forms k (same_listed x k at));
        body = y.agreed.walked.bodies k (same_listed x k at);
      }

      root_as : (o o' : Object) → o'.entry ≡ o.entry → IsRootEntry (Layout.New m) o → IsRootEntry (Layout.New m) o'
      root_as o o' same r = record { address = r.address; size = r.size; entry = same ∙ r.entry; whole = r.whole }

      root_can : (o : Object) → Contains (objects_of listings) o → o.path ≡ [] → IsRootEntry (Layout.New m) (turned_in x o)
      root_can o at path = root_as (e.turn o) (turned_in x o) (turned_entry x o) (by (x.is_edit.top o at path))
        where
          by : TopStays e o ⊎ TopTurns e o → IsRootEntry (Layout.New m) (e.turn o)
          by (inr t) = y.can.root o at path t
          by (inl t) =
              let w = had y.kind m x.nodes y.owners y.root listings y.agreed in
              let there : Contains (objects_of listings) w.top = subst (λ (os : List Object). Contains os w.top) (sym w.objects) (contains_here w.top (held listings)) in
              let one : o ≡ w.top = sym (the_top x o at path) ∙ the_top x w.top there w.is_root.path in
              let whole' = on_any.root_size y.kind (Layout.New m) x.nodes y.root listings y.agreed.walked y.agreed.root_is in
              record {
                address = y.root.entry.address;
                size = y.root.entry.len;
                entry = t.keeps.entry ∙ ap (λ (p : Object). p.entry) one ∙ w.is_root.entry ∙ ap (root_entry y.root.entry.address) whole';
                whole = whole';
              }

  abbrev pub parts : NewPartsEdit
  parts = record {
    kind = y.kind;
    m = m;
    m' = m';
    nodes = x.nodes;
    nodes' = x.nodes';
    owners = y.owners;
    owners' = y.owners';
    root = y.root;
    listings = listings;
    edit = relocated x;
    agreed = y.agreed;
    is_edit = is_edit' x;
    nodes_edited = nodes_now x;
    fit = new_places_law.fit y.kind m m' x.nodes y.owners y.root listings (relocated x) y.takings y.gone y.agreed (is_edit' x) places;
    can = can;
    owners_edited = safe_places_law.owners x y.kind y.owners y.owners' y.root y.takings y.gone y.agreed y.places y.owners_edited;
  }

pub safe_parts_law : SafePartsLaw
safe_parts_law y = agree_law.agree (parts y)
