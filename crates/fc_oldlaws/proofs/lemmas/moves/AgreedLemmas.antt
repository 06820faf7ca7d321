-- The parts of a volume after its objects have slid.
use Rattle.std.proofs.Common.{◌≡◌, ◌<◌, ℕ, ◌^◌, Bool, true, false, cond, List, refl, sym, ap, subst, ◌∙◌, arith}
use Rattle.std.specs.Prelude.{Ok, Contains, ◌==◌}
use Rattle.std.specs.Option.{option_map}
use Rattle.std.proofs.lemmas.List.Sorted.{IsPermutation-refl}
use Rattle.fc_record.specs.declared.Kind.{Kind}
use Rattle.fc_oldmap.specs.Laws.{ReadsBack}
use Rattle.fc_alloc.specs.declared.owner.Owner.{Owner}
use Rattle.fc_dirs.specs.declared.Entry.{Entry}
use Rattle.fc_image.specs.Layout.{Layout, dir_form}
use Rattle.fc_image.specs.Laws.{Tells}
use Rattle.fc_image.specs.Report.{holder_address}
use Rattle.fc_image.specs.Sound.{AreSound}
use Rattle.fc_image.specs.Walk.{Listing, object_size, walk}
use Rattle.fc_image.specs.Objects.{objects_of}
use Rattle.fc_image.specs.Opening.{reserved_in}
use Rattle.fc_image.proofs.EntriesLemmas.{from_map}
use Rattle.fc_image.specs.declared.effects.Owned.{Owned}
use Rattle.fc_tree.specs.declared.node.Node.{Node}
use Rattle.fc_tree.specs.Agree.{Agree, HasForm, IsDirectory, reader_of_nodes}
use Rattle.fc_tree.specs.Parts.{AreOwners}
use Rattle.fc_tree.proofs.WalkedLemmas.{place_of, sound_law}
use Rattle.fc_laws.specs.nodes.Edits.{Nodes}
use Rattle.fc_laws.specs.old.agree.Laws.{AgreeOn, parts_with}
use Rattle.fc_laws.proofs.lemmas.agree.WalkedLemmas.{sound}
use Rattle.fc_laws.proofs.lemmas.old.agree.RoomLemmas.{room}
use Rattle.fc_oldlaws.specs.moves.After.{IsSlide, Slide, form_of, listing_after, listings_after, move_of, space_after}
use Rattle.fc_oldlaws.specs.moves.Laws.{AgreedLaw, BehindLaw, TakenOverLaw}
use Rattle.fc_oldlaws.specs.moves.Nodes.{AreMoved, AreRemade, node_after}
use Rattle.fc_oldlaws.specs.moves.Steps.{opened_after}
use Rattle.fc_oldlaws.proofs.lemmas.moves.CompactedLemmas.{compacted_law}
use Rattle.fc_laws.proofs.lemmas.old.agree.FormLemmas.{not_long}
use Rattle.fc_oldlaws.proofs.lemmas.moves.NodesLemmas.{moved_follow, objects_moved, owners_moved}
use Rattle.fc_oldlaws.proofs.lemmas.moves.PlaceLemmas.{Start, had, holes_behind, root_address}
use Rattle.fc_oldlaws.proofs.lemmas.moves.SayableLemmas.{form_after, moved_low, other_low, say_after, small_by_form}
use Rattle.fc_oldlaws.proofs.lemmas.moves.StartLemmas.{rises}
use Rattle.fc_oldlaws.proofs.lemmas.moves.WalkLemmas.{objects_after, walked_after}
use Rattle.fc_tree.proofs.EndLemmas.{no_twin as apart_names}

module _ (kind : Kind) (s : Slide) (nodes nodes' : Nodes) (owners owners' : List Owner) (root : Node) (listings : List Listing) (a : AgreeOn kind s.space nodes owners root listings)
    (is : IsSlide s (objects_of listings)) (moved : AreMoved s nodes nodes') (made : AreRemade s.space nodes' owners owners') where
  abbrev layout : Layout
  layout = Layout.Old s.space

  abbrev layout' : Layout
  layout' = Layout.Old (space_after s)

  abbrev start : Start
  start = record { kind = kind; read = reader_of_nodes nodes; address = root.entry.address; size = root.entry.len; listings = listings; s = s; walked = a.walked.walked; is = is }

  sound_before : AreSound layout listings
  sound_before = sound kind (Layout.Old s.space) nodes root listings a.walked

  tells : Tells (reader_of_nodes nodes') (listings_after s listings)
  tells = (moved_follow s nodes nodes' moved listings sound_before a.walked.held).say

  walked_now : walk (reader_of_nodes nodes') layout' (reserved_in kind layout') root.entry.address root.entry.len ≡ Ok (listings_after s listings)
  walked_now = walked_after start (reader_of_nodes nodes') tells (let few = room kind s.space nodes owners root listings a in omega (arith, few))

  -- ---- what the directories can say

  low_place : (p : Owned) → Contains s.now p → p.start < 2 ^ 24
  low_place p at =
      let n = place_of s.now p at in
      let inside = (rises s.space.disc_units s.space.sector_units 0 s.now is.kept.bodies.rise n.0 p n.1).inside in
      let disc = is.is_map.disc in
      let some = (rises s.space.disc_units s.space.sector_units 0 s.now is.kept.bodies.rise n.0 p n.1).positive in
      omega (arith, inside, disc, some)

  can_say : (l : Listing) → Contains listings l → IsDirectory (listing_after s listings l).content
  can_say l at =
      let small = small_by_form (dir_form layout) l.object.entry.len l.content (a.walked.forms l at) (not_long s.space) in
      say_after (form_of s) (move_of s) (λ n low. moved_low s.was s.now (2 ^ 24) n low_place low) (λ n other. other_low s.was s.now (2 ^ 24) n low_place other)
      (holder_address listings l.object.path) l.content small.0 small.1 (a.walked.bodies l at)

  bodies_now : (k : Listing) → Contains (listings_after s listings) k → IsDirectory k.content
  bodies_now k at =
      let l = from_map (listing_after s listings) listings k at in
      subst (λ (j : Listing). IsDirectory j.content) l.2 (can_say l.0 l.1)

  forms_now : (k : Listing) → Contains (listings_after s listings) k → HasForm (dir_form layout') k.object.entry.len k.content
  forms_now k at =
      let l = from_map (listing_after s listings) listings k at in
      subst (λ (j : Listing). HasForm (dir_form layout') j.object.entry.len j.content) l.2
      (form_after (dir_form layout) (form_of s) (move_of s) (holder_address listings l.0.object.path) l.0.object.entry.len l.0.content (a.walked.forms l.0 l.1))

  sound_now : AreSound layout' (listings_after s listings)
  sound_now = record {
    read = reader_of_nodes nodes';
    reserved = reserved_in kind layout';
    address = root.entry.address;
    size = root.entry.len;
    walked = walked_now;
    apart = λ l at. apart_names l.content (bodies_now l at);
  }

  -- ---- the root

  root_place : (node_after (form_of s) (move_of s) nodes root).entry.address ≡ root.entry.address
  root_place = either_way (object_size (form_of s) root.entry == 0) root.entry.address (move_of s root.entry.address) (subst (λ (n : ℕ). move_of s n ≡ n) (ap (λ (e : Entry). e.address) (had start).is_root.entry) (root_address start))
    where
      either_way : (b : Bool) (n k : ℕ) → k ≡ n → cond b n k ≡ n
      either_way true n k e = refl
      either_way false n k e = e

  pub agreed_now : Agree kind (parts_with (space_after s) nodes' owners')
  agreed_now = record {
    root = node_after (form_of s) (move_of s) nodes root;
    root_is = moved.each 0 ∙ ap (option_map (node_after (form_of s) (move_of s) nodes)) a.root_is;
    listings = listings_after s listings;
    walked = record {
      walked = subst (λ (n : ℕ). walk (reader_of_nodes nodes') layout' (reserved_in kind layout') n root.entry.len ≡ Ok (listings_after s listings)) (sym root_place) walked_now;
      held = (moved_follow s nodes nodes' moved listings sound_before a.walked.held).hold layout' (listings_after s listings) sound_now (IsPermutation-refl (listings_after s listings));
      forms = forms_now;
      bodies = bodies_now;
    };
    map_placed = refl;
    owned = owners_moved s nodes nodes' moved listings sound_before a.walked.held owners owners' (objects_of (listings_after s listings)) (objects_after start listings listings) a.owned made;
  }

pub agreed_law : AgreedLaw
agreed_law kind s nodes nodes' owners owners' root listings a is moved made = agreed_now kind s nodes nodes' owners owners' root listings a is moved made

pub behind_law : BehindLaw
behind_law kind s nodes owners root listings a is =
    holes_behind (record { kind = kind; read = reader_of_nodes nodes; address = root.entry.address; size = root.entry.len; listings = listings; s = s; walked = a.walked.walked; is = is })

pub taken_over_law : ReadsBack → TakenOverLaw
taken_over_law back kind image slid rewritten image' v s nodes nodes' owners owners' is parts moved made =
    let compacts = compacted_law back kind image slid rewritten image' v s is in
    let layout = is.before.layout in
    let sound_v : AreSound (Layout.Old s.space) v.listings = subst (λ (y : Layout). AreSound y v.listings) layout (sound_law image kind v is.before.opens) in
    let sound_w : AreSound (Layout.Old (space_after s)) (listings_after s v.listings) = sound_law image' kind (opened_after s v) compacts.opens.opens in
    let follows = moved_follow s nodes nodes' moved v.listings sound_v parts.nodes in
    let owned = subst (λ (y : Layout). AreOwners owners nodes y (objects_of v.listings)) (sym parts.layout) parts.owners in (
      compacts,
      record {
        layout = refl;
        nodes = follows.hold (Layout.Old (space_after s)) (listings_after s v.listings) sound_w (IsPermutation-refl (listings_after s v.listings));
        owners = owners_moved s nodes nodes' moved v.listings sound_v parts.nodes owners owners' (objects_of (listings_after s v.listings))
            (objects_moved s v.listings) owned made;
      },
    )
