-- `rename` that copies its file, where no directory grows: each stage can follow on the one before.
use Rattle.std.proofs.Common.{◌≡◌, ◌<◌, ◌^◌, ℕ, Bool, true, cond, List, [], ◌∷◌, refl, sym, ap, subst, ◌∙◌, Option, Some, None, ne_eqb}
use Rattle.std.specs.Prelude.{Contains}
use Rattle.std.specs.Option.{option_map}
use Rattle.fc_alloc.specs.declared.owner.Owner.{Owner}
use Rattle.fc_names.specs.Names.{Path}
use Rattle.fc_newmap.specs.Map.{Map}
use Rattle.fc_drafts.specs.Entries.{renamed_entry}
use Rattle.fc_image.specs.Layout.{Layout}
use Rattle.fc_image.specs.Walk.{Listing, Object}
use Rattle.fc_laws.specs.nodes.Edits.{Nodes}
use Rattle.fc_laws.specs.agree.Agreed.{parts_with}
use Rattle.fc_refusals.specs.declared.target.Renaming.{Renaming}
use Rattle.fc_tree.specs.Parts.{Parts}
use Rattle.fc_tree.proofs.MemberLemmas.{no_element}
use Rattle.fc_change.specs.declared.change.Change.{Change}
use Rattle.fc_change.specs.declared.change.Regrowth.{Regrowth}
use Rattle.fc_change.specs.declared.job.Job.TheVariants as jobs
use Rattle.fc_change.specs.declared.job.Wants.{Wants}
use Rattle.fc_change.specs.declared.spaces.Place.{Place}
use Rattle.fc_change.specs.declared.spaces.Spaces.{Spaces}
use Rattle.fc_change.specs.Directories.{CanTell, CanTellAround, IsGrownThere, Rewriting}
use Rattle.fc_change.specs.Drafts.{CanDraft, CanTellJob, IsChangeOf, address_in, told, told_first}
use Rattle.fc_change.specs.Needs.{AreWants, is_copied, len_at}
use Rattle.fc_change.specs.Places.{CanPlace}
use Rattle.fc_change.specs.Prepared.{CanPrepare, HasPlace}
use Rattle.fc_commands.proofs.RoomyLemmas.{NoneGrows}
use Rattle.fc_commands.specs.Stages.{CanPrepareJob, IsSpaced}
use Rattle.fc_commands.proofs.ArrivalPlaceLemmas.{address_fits}
use Rattle.fc_commands.proofs.CopyingFileLemmas.{IsCopiedFile}
use Rattle.fc_commands.proofs.CopyingPlaceLemmas.{IsCopyPlaced, IsCopyWanted, copy_placed, copy_wanted}
use Rattle.fc_commands.proofs.EmptySpaceLemmas.{none_grown}
use Rattle.fc_commands.proofs.MoveLemmas.{IsSeen, l, o}
use Rattle.fc_commands.proofs.MoveStageLemmas.{IsMoveChange, can_enter, can_last, can_want, move_change, own_place, places}
use Rattle.fc_commands.proofs.MoveTellLemmas.{told_by}
use Rattle.fc_commands.proofs.TargetLemmas as target_of
use Rattle.fc_edits.proofs.lemmas.ShapeLemmas.{of_one}

module _ (m : Map) (nodes : Nodes) (owners : List Owner) (listings : List Listing) (from to : Path) (r : Renaming) (name : List ℕ) (x : IsSeen (Layout.New m) nodes listings from to r name)
    (f : IsCopiedFile m nodes listings from to r (o (Layout.New m) nodes listings from to r name x)) (grows : NoneGrows (parts_with m nodes owners) (jobs.Move r) name) (copied : is_copied (parts_with m nodes owners) r ≡ true)
    (few : len_at nodes r.target.node < 2 ^ 32) where
  abbrev h : Parts
  h = parts_with m nodes owners

  abbrev it : Object
  it = o (Layout.New m) nodes listings from to r name x

  abbrev aim : Listing
  aim = l (Layout.New m) nodes listings from to r name x

  wanted : (w : Wants) → AreWants h (jobs.Move r) name w → IsCopyWanted m nodes owners r name w
  wanted w are = copy_wanted m nodes owners r name w grows copied are

  some : (w : Wants) → AreWants h (jobs.Move r) name w → 0 < w.bytes
  some w are = subst (λ (n : ℕ). 0 < n) (sym ((wanted w are).bytes ∙ f.len)) f.some

  can_place : (w : Wants) → AreWants h (jobs.Move r) name w → CanPlace h w
  can_place w are =
      let wants = wanted w are in
      record {
        few = subst (λ (n : ℕ). n < 2 ^ 32) (sym wants.bytes) few;
        grows = λ g is. absurd (let none = wants.grows in cc);
        copied = λ n is. subst (HasPlace h) (let same : r.target.node ≡ n = (let here = wants.copy in cc) in same) (own_place (Layout.New m) nodes listings from to r name x h refl refl);
        no_growth = λ space at. wants.grows;
        behind = λ space at. absurd (cc);
        free = λ space n at is. absurd (let none = wants.goes in cc);
      }

  pub placed : (w : Wants) (s : Spaces) (spaced : IsSpaced (parts_with m nodes owners) (jobs.Move r) name w s) → IsCopyPlaced m nodes owners r name w s spaced.places.placing
  placed w s spaced = copy_placed m nodes owners r name w (wanted w spaced.wants) (some w spaced.wants) s spaced.places

  place_is : (w : Wants) (s : Spaces) (spaced : IsSpaced h (jobs.Move r) name w s) → address_in s ≡ Some (placed w s spaced).place.address
  place_is w s spaced = ap (option_map (λ (q : Place). q.address)) (placed w s spaced).object

  -- what it tells first
  can_first : (w : Wants) (s : Spaces) (spaced : IsSpaced h (jobs.Move r) name w s) → (q : ℕ × Rewriting)
      → Contains (told_first (jobs.Move r) (renamed_entry it.entry name (placed w s spaced).place.address)) q → CanTell None nodes q.0 q.1
  can_first w s spaced q at =
      let e = renamed_entry it.entry name (placed w s spaced).place.address in
      of_one (λ (p : ℕ × Rewriting). CanTell None nodes p.0 p.1) (r.holder, Rewriting.Enters e)
      (can_enter (Layout.New m) nodes listings from to r name x f.away (placed w s spaced).place.address
      (address_fits h w aim.content aim.object.entry.len x.is_map s (placed w s spaced).place (x.forms aim x.known.destination.listed) (placed w s spaced).object spaced.places)) q
      (subst (λ (b : Bool). Contains (cond b ((r.holder, Rewriting.Renames r.target.at e) ∷ []) ((r.holder, Rewriting.Enters e) ∷ [])) q) (ne_eqb r.holder r.target.holder f.away) at)

  can_tell_job : (w : Wants) (s : Spaces) (spaced : IsSpaced h (jobs.Move r) name w s) → CanTellJob h (jobs.Move r) name (Some (placed w s spaced).place.address) None
  can_tell_job w s spaced = record {
    entry = renamed_entry it.entry name (placed w s spaced).place.address;
    made = (it.entry, target_of.entry (Layout.New m) nodes listings x.sound x.held from r.target x.known.target, refl);
    first = can_first w s spaced;
    last = can_last (Layout.New m) nodes listings from to r name x;
    begins = tt;
  }

  can_draft : (w : Wants) (s : Spaces) → IsSpaced h (jobs.Move r) name w s → CanDraft h (jobs.Move r) name s
  can_draft w s spaced =
      let no = none_grown s (placed w s spaced).grown in
      record {
        own = subst (λ (g : Option Regrowth). CanTellJob h (jobs.Move r) name (address_in s) g) (sym no)
            (subst (λ (a : Option ℕ). CanTellJob h (jobs.Move r) name a None) (sym (place_is w s spaced)) (can_tell_job w s spaced));
        there = subst (IsGrownThere h.nodes) (sym no) tt;
        others = subst (λ (g : Option Regrowth). (ns : List ℕ) → CanTellAround h.nodes g ns) (sym no) (λ ns q at. absurd (no_element q at)) _;
      }

  -- Its change.
  pub change_of : (w : Wants) (s : Spaces) (c : Change) (spaced : IsSpaced (parts_with m nodes owners) (jobs.Move r) name w s) → IsChangeOf (parts_with m nodes owners) (jobs.Move r) name s c
      → IsMoveChange nodes r name (Some (placed w s spaced).place.address) c
  change_of w s c spaced ch = move_change h r name (Some (placed w s spaced).place.address) s c (place_is w s spaced) (placed w s spaced).grown ch

  can_prepare : (w : Wants) (s : Spaces) (c : Change) → IsSpaced h (jobs.Move r) name w s → IsChangeOf h (jobs.Move r) name s c → CanPrepare h c s
  can_prepare w s c spaced ch =
      let change = change_of w s c spaced ch in
      let e = renamed_entry change.was name (placed w s spaced).place.address in
      record {
        placed = λ said at.
            (let q = told_by nodes (told nodes (jobs.Move r) name None e) c.says.items change.tells said at in
            subst (HasPlace h) (sym q.2.number) (places (Layout.New m) nodes listings from to r name x h refl refl e q.0 q.1));
        grows = λ g is. absurd (let none = (placed w s spaced).grown in cc);
      }

  pub can_prepare_job : CanPrepareJob (parts_with m nodes owners) (jobs.Move r) name
  can_prepare_job = record { want = can_want (Layout.New m) nodes listings from to r name x; place = can_place; draft = can_draft; placed = λ w s spaced. tt; prepare = can_prepare }
