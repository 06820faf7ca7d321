-- What comes: each stage can follow on the one before, and what is drafted in the end.
use Rattle.std.proofs.Common.{◌≡◌, ◌<◌, ◌^◌, ℕ, ◌≤◌, true, length, List, [], ◌∷◌, refl, sym, ap, subst, ◌∙◌, arith, Option, Some, None}
use Rattle.std.specs.Prelude.{Contains, is_some, nat_le}
use Rattle.std.specs.Int.{is_in_range}
use Rattle.std.specs.List.{list_all}
use Rattle.std.proofs.lemmas.Bool.{and_parts, leb-true}
use Rattle.std.specs.Option.{option_map, unwrap_or}
use Rattle.fc_names.specs.declared.name.NameForm.{NameForm}
use Rattle.fc_names.specs.declared.name.NameForm.TheVariants as forms
use Rattle.fc_names.specs.Names.{Path, is_writable, is_writable_byte, name_limit}
use Rattle.fc_record.specs.declared.Kind.{Kind}
use Rattle.fc_oldmap.specs.OldMap.{OldMapContent}
use Rattle.fc_model.specs.Command.{Command}
use Rattle.fc_model.specs.Tree.{last_name}
use Rattle.fc_dirs.specs.declared.Entry.{Entry}
use Rattle.fc_dirs.specs.Directory.{Directory, entries_of}
use Rattle.fc_dirs.specs.Entries.{has_name}
use Rattle.fc_drafts.specs.declared.draft.Draft.{Draft}
use Rattle.fc_drafts.specs.Draft.{CanAddress, CanBeCalled, CanName, directory_in}
use Rattle.fc_image.specs.Layout.{Layout, dir_form}
use Rattle.fc_image.specs.Objects.{tree_of}
use Rattle.fc_image.specs.Sound.{AreSound}
use Rattle.fc_image.specs.Walk.{Listing}
use Rattle.fc_image.specs.effects.Short.{new_dir_size}
use Rattle.fc_image.specs.effects.Steady.{new_directory}
use Rattle.fc_tree.specs.Agree.{Agree, HasForm}
use Rattle.fc_tree.specs.Counts.{address_in as node_address}
use Rattle.fc_tree.specs.Parts.{Parts}
use Rattle.fc_tree.proofs.MemberLemmas.{no_element}
use Rattle.fc_tree.proofs.WalkedLemmas.{listed_directory}
use Rattle.fc_laws.specs.nodes.Edits.{Nodes}
use Rattle.fc_laws.proofs.lemmas.agree.BeforeLemmas.{agreed_law}
use Rattle.fc_edits.proofs.lemmas.ShapeLemmas.{of_one, only}
use Rattle.fc_refusals.specs.Targets.{IsVacant}
use Rattle.fc_change.specs.declared.change.Change.{Change}
use Rattle.fc_change.specs.declared.change.Regrowth.{Regrowth}
use Rattle.fc_change.specs.declared.change.Says.{Says}
use Rattle.fc_change.specs.declared.change.Turned.TheVariants as turns
use Rattle.fc_change.specs.declared.job.Job.TheVariants as jobs
use Rattle.fc_change.specs.declared.job.Wants.{Wants}
use Rattle.fc_change.specs.declared.spaces.Place.{Place}
use Rattle.fc_change.specs.declared.spaces.Spaces.{Spaces}
use Rattle.fc_change.specs.Directories.{CanBe, CanTell, CanTellAround, IsGrownThere, Rewriting, TellAll, Tells}
use Rattle.fc_change.specs.Drafts.{CanBegin, CanDraft, CanTellJob, IsChangeOf, IsNewIn, IsPlaced, address_in, told}
use Rattle.fc_change.specs.Needs.{AreWants, CanWant}
use Rattle.fc_change.specs.OldSpace.{LieBehind}
use Rattle.fc_change.specs.Places.{CanPlace}
use Rattle.fc_change.specs.Prepared.{CanPrepare, HasPlace}
use Rattle.fc_commands.specs.Jobs.{IsJobFor}
use Rattle.fc_commands.specs.Run.{IsMapIn}
use Rattle.fc_commands.specs.Stages.{CanPrepareJob, IsSpaced}
use Rattle.fc_commands.proofs.ArrivalLemmas.{Arrival, Brings, CanArrive, IsShort, again, bytes_of, entry_of, few_attrs, job_of, no_last, of_job, writable}
use Rattle.fc_commands.proofs.ArrivalLemmas.{address_is as address_same, name_is as name_same}
use Rattle.fc_commands.proofs.ArrivalPlaceLemmas.{IsItsPlace, address_fits, its_place, wanted, wants_place}
use Rattle.fc_commands.proofs.EmptySpaceLemmas.{none_grown, one_said}
use Rattle.fc_commands.proofs.EnteredLemmas.{can_hold, can_name, small_fits}
use Rattle.fc_commands.proofs.HolderLemmas as holder_of
use Rattle.fc_commands.proofs.NodeLemmas.{can_address, each_at}
use Rattle.fc_commands.proofs.RemovalStageLemmas.{view_of}

-- ---- whose job it is

-- The command brings it to a path that is vacant, and `name` is its last name.
pub record Arrives (h : Parts) (c : Command) (dir : ℕ) (x : Arrival) (name bytes : List ℕ) : Type 0 where
  pub path : Path
  pub brings : Brings x path bytes c
  pub can : CanArrive h path dir
  pub name_is : name ≡ last_name path

pub arrives : (h : Parts) (kind : Kind) (a : Agree kind h) (c : Command) (dir : ℕ) (x : Arrival) (name bytes : List ℕ) → IsJobFor c h (job_of dir x) name bytes → Arrives h c dir x name bytes
arrives h kind a c dir x name bytes j =
    let v = view_of h kind a in
    let sound = agreed_law.sound_by kind h a in
    let parts = agreed_law.viewed kind h a in
    let first = of_job h.nodes a.listings c dir x name bytes (j.is v sound parts) j.bytes_are in
    record {
      path = first.path;
      brings = first.brings;
      can = record {
        vacant = λ w sound' parts'. again h.nodes w.listings first.path c dir x name bytes first.brings (j.is w sound' parts');
        writable = writable (tree_of [] h.layout a.listings) (dir_form h.layout) c x first.path bytes first.brings first.vacant.no_root (j.accepted v [] sound parts);
      };
      name_is = first.name_is;
    }

-- ---- what is drafted

-- What a new directory says; a file says nothing.
abbrev pub OwnsDraft : Layout → Nodes → ℕ → Arrival → List ℕ → Option Draft → Type 0
OwnsDraft layout nodes dir Arrival.Makes name own = (d : Draft) × (own ≡ Some d) × (directory_in d ≡ new_directory (dir_form layout) (node_address nodes dir) name)
OwnsDraft layout nodes dir (Arrival.Saves words) name own = own ≡ None

-- The change is that of one directory, which is told of the new entry, and of an object that comes.
pub record IsArrivalChange (h : Parts) (dir : ℕ) (x : Arrival) (name : List ℕ) (address : ℕ) (c : Change) : Type 0 where
  pub said : Says
  pub says : c.says.items ≡ said ∷ []
  pub tells : Tells None h.nodes dir (Rewriting.Enters (entry_of (dir_form h.layout) x name address)) said
  pub none : c.grown ≡ None
  pub own : Option Draft
  pub comes : c.object ≡ turns.Comes dir (entry_of (dir_form h.layout) x name address) own
  pub owns : OwnsDraft h.layout h.nodes dir x name own

made_change : (h : Parts) (dir : ℕ) (x : Arrival) (name : List ℕ) (address : ℕ) (c : Change) (e : Entry) (own : Option Draft) → e ≡ entry_of (dir_form h.layout) x name address → c.grown ≡ None
    → TellAll None h.nodes ((dir, Rewriting.Enters e) ∷ []) c.says.items → c.object ≡ turns.Comes dir e own → OwnsDraft h.layout h.nodes dir x name own → IsArrivalChange h dir x name address c
made_change h dir x name address c e own is none tells turned owns =
    let one = one_said h.nodes (dir, Rewriting.Enters e) c.says.items tells in
    record {
      said = one.0;
      says = one.1;
      tells = subst (λ (d : Entry). Tells None h.nodes dir (Rewriting.Enters d) one.0) is one.2;
      none = none;
      own = own;
      comes = turned ∙ ap (λ (d : Entry). turns.Comes dir d own) is;
      owns = owns;
    }

pub arrival_change : (h : Parts) (dir : ℕ) (x : Arrival) (name : List ℕ) (s : Spaces) (c : Change) → s.grown ≡ None → IsChangeOf h (job_of dir x) name s c
    → IsArrivalChange h dir x name (unwrap_or (address_in s) 0) c
arrival_change h dir Arrival.Makes name s c none is =
    let no = none_grown s none in
    let object = is.object in
    made_change h dir Arrival.Makes name (unwrap_or (address_in s) 0) c is.entry (Some object.0) is.made (is.grown ∙ no)
    (subst (λ (g : Option Regrowth). TellAll g h.nodes (told h.nodes (jobs.Directory dir) name g is.entry) c.says.items) no is.tells) object.1
    (object.0, refl, subst (λ (g : Option Regrowth). IsNewIn h g dir name object.0) no object.2)
arrival_change h dir (Arrival.Saves words) name s c none is =
    let no = none_grown s none in
    made_change h dir (Arrival.Saves words) name (unwrap_or (address_in s) 0) c is.entry None is.made (is.grown ∙ no)
    (subst (λ (g : Option Regrowth). TellAll g h.nodes (told h.nodes (job_of dir (Arrival.Saves words)) name g is.entry) c.says.items) no is.tells) is.object refl

-- ---- a new directory can be begun

short_limit : (form : NameForm) → (form ≡ forms.Long → ⊥) → name_limit form ≤ 10
short_limit forms.Seven small = omega arith
short_limit forms.Ten small = omega arith
short_limit forms.Long small = absurd (small refl)

short_name : (form : NameForm) → (form ≡ forms.Long → ⊥) → (name : List ℕ) → is_writable form name ≡ true → length name ≤ 10
short_name form small name good =
    let most = short_limit form small in
    let fits = leb-true (length name) (name_limit form) (and_parts (nat_le 1 (length name)) (nat_le (length name) (name_limit form)) (and_parts (is_in_range 1 (name_limit form) (length name)) (list_all (is_writable_byte form) name) good).0).1 in
    omega (arith, most, fits)

begins : (form : NameForm) (address : ℕ) (name : List ℕ) → is_writable form name ≡ true → ((form ≡ forms.Long → ⊥) → address < 2 ^ 24)
    → CanAddress (new_directory form address name) address × CanBeCalled (new_directory form address name) name
begins forms.Seven address name good low = (low (λ e. cc), short_name forms.Seven (λ e. cc) name good)
begins forms.Ten address name good low = (low (λ e. cc), short_name forms.Ten (λ e. cc) name good)
begins forms.Long address name good low = (tt, tt)

-- ---- the stages

module _ (h : Parts) (kind : Kind) (a : Agree kind h) (path : Path) (dir : ℕ) (x : Arrival) (can : CanArrive h path dir) (short : IsShort x) (is_map : IsMapIn h.layout)
    (behind : (space : OldMapContent) → h.layout ≡ Layout.Old space → LieBehind space) (none : (w : Wants) → AreWants h (job_of dir x) (last_name path) w → w.grows ≡ None) where
  abbrev name : List ℕ
  name = last_name path

  abbrev form : NameForm
  form = dir_form h.layout

  abbrev sound : AreSound h.layout a.listings
  sound = agreed_law.sound_by kind h a

  abbrev spot : IsVacant h.nodes a.listings path dir
  spot = can.vacant (view_of h kind a) sound (agreed_law.viewed kind h a)

  abbrev l : Listing
  l = spot.listing

  formed : HasForm form l.object.entry.len l.content
  formed = a.walked.forms l spot.listed

  few_bytes : (y : Arrival) → IsShort y → bytes_of form y < 2 ^ 32
  few_bytes Arrival.Makes few = few_new form
    where
      few_new : (f : NameForm) → new_dir_size f < 2 ^ 32
      few_new forms.Seven = omega arith
      few_new forms.Ten = omega arith
      few_new forms.Long = omega arith
  few_bytes (Arrival.Saves words) few = few

  can_place : (w : Wants) → AreWants h (job_of dir x) name w → CanPlace h w
  can_place w are =
      let is = wanted h dir x name w (none w are) are in
      record {
        few = subst (λ (n : ℕ). n < 2 ^ 32) (sym is.bytes) (few_bytes x short);
        grows = λ g some. absurd (let no = is.grows in cc);
        copied = λ n some. absurd (let no = is.copy in cc);
        no_growth = λ space at. is.grows;
        behind = behind;
        free = λ space n at some. absurd (let no = is.goes in cc);
      }

  -- the directory can be told of the entry
  tell : (address : ℕ) → CanAddress l.content address → CanTell None h.nodes dir (Rewriting.Enters (entry_of form x name address))
  tell address fits =
      let e = entry_of form x name address in
      let can_be : CanBe (Rewriting.Enters e) l.content = (
        subst (λ (n : List ℕ). CanName l.content n) (sym (name_same form x name address)) (can_name form l.content l.object.entry.len name formed can.writable),
        can_hold l.content e (few_attrs form x name address) (no_last form x name address) (subst (CanAddress l.content) (sym (address_same form x name address)) fits),
        ap (has_name (entries_of l.content)) (name_same form x name address) ∙ spot.no_name,
      ) in
      holder_of.can_tell h.layout h.nodes a.listings sound a.walked.held l spot.listed dir spot.holder_is (Rewriting.Enters e) refl can_be a.walked.forms is_map

  -- the directory's own address
  own_address : node_address h.nodes dir ≡ l.object.entry.address
  own_address = holder_of.address_is h.layout h.nodes a.listings sound a.walked.held l spot.listed dir spot.holder_is

  low_address : (form ≡ forms.Long → ⊥) → l.object.entry.address < 2 ^ 24
  low_address small =
      let top = listed_directory h.layout a.listings sound l spot.listed in
      small_fits form l.content l.object.entry.len l.object.entry.address small formed
      (can_address h.layout l.content l.object.entry.len l.object is_map formed top.1 (each_at h.layout a.listings sound l.object top.0))

  begin : (y : Arrival) → CanBegin h (job_of dir y) name None
  begin Arrival.Makes = λ parent is.
      begins form parent name can.writable (λ small. subst (λ (n : ℕ). n < 2 ^ 24) (sym (is ∙ own_address)) (low_address small))
  begin (Arrival.Saves words) = tt

  can_tell_job : (y : Arrival) (address : Option ℕ) → CanTell None h.nodes dir (Rewriting.Enters (entry_of form y name (unwrap_or address 0))) → CanTellJob h (job_of dir y) name address None
  can_tell_job Arrival.Makes address tells = record {
    entry = entry_of form Arrival.Makes name (unwrap_or address 0);
    made = refl;
    first = of_one (λ (q : ℕ × Rewriting). CanTell None h.nodes q.0 q.1) (dir, Rewriting.Enters (entry_of form Arrival.Makes name (unwrap_or address 0))) tells;
    last = λ q at. absurd (no_element q at);
    begins = begin Arrival.Makes;
  }
  can_tell_job (Arrival.Saves words) address tells = record {
    entry = entry_of form (Arrival.Saves words) name (unwrap_or address 0);
    made = refl;
    first = of_one (λ (q : ℕ × Rewriting). CanTell None h.nodes q.0 q.1) (dir, Rewriting.Enters (entry_of form (Arrival.Saves words) name (unwrap_or address 0))) tells;
    last = λ q at. absurd (no_element q at);
    begins = tt;
  }

  module _ (w : Wants) (s : Spaces) (spaced : IsSpaced h (job_of dir x) name w s) where
    its : IsItsPlace s
    its = its_place h dir x w (wants_place h dir x name w (wanted h dir x name w (none w spaced.wants) spaced.wants)) s spaced.places

    address_at : unwrap_or (address_in s) 0 ≡ its.place.address
    address_at = ap (λ (o : Option Place). unwrap_or (option_map (λ (p : Place). p.address) o) 0) its.is

    fits : CanAddress l.content (unwrap_or (address_in s) 0)
    fits = subst (CanAddress l.content) (sym address_at) (address_fits h w l.content l.object.entry.len is_map s its.place formed its.is spaced.places)

    can_draft : CanDraft h (job_of dir x) name s
    can_draft =
        let no = none_grown s its.grown in
        record {
          own = subst (λ (g : Option Regrowth). CanTellJob h (job_of dir x) name (address_in s) g) (sym no) (can_tell_job x (address_in s) (tell (unwrap_or (address_in s) 0) fits));
          there = subst (IsGrownThere h.nodes) (sym no) tt;
          others = subst (λ (g : Option Regrowth). (ns : List ℕ) → CanTellAround h.nodes g ns) (sym no) (λ ns q at. absurd (no_element q at)) _;
        }

    placed : (y : Arrival) → IsPlaced (job_of dir y) (address_in s)
    placed Arrival.Makes = ap (λ (o : Option Place). is_some (option_map (λ (p : Place). p.address) o)) its.is
    placed (Arrival.Saves words) = ap (λ (o : Option Place). is_some (option_map (λ (p : Place). p.address) o)) its.is

    can_prepare : (c : Change) → IsChangeOf h (job_of dir x) name s c → CanPrepare h c s
    can_prepare c is =
        let ch = arrival_change h dir x name s c its.grown is in
        record {
          placed = λ said at.
              subst (λ (n : ℕ). HasPlace h n) (sym ch.tells.number ∙ ap (λ (y : Says). y.node) (only ch.said said (subst (λ (ss : List Says). Contains ss said) ch.says at)))
              (holder_of.has_place h.layout h.nodes a.listings sound a.walked.held l spot.listed dir spot.holder_is h refl refl);
          grows = λ g some. absurd (let no = its.grown in cc);
        }

  want : (y : Arrival) → CanWant h.nodes (job_of dir y)
  want Arrival.Makes = tt
  want (Arrival.Saves words) = tt

  pub can_prepare_job : CanPrepareJob h (job_of dir x) name
  can_prepare_job = record {
    want = want x;
    place = can_place;
    draft = can_draft;
    placed = λ w s spaced. placed w s spaced x;
    prepare = λ w s c spaced is. can_prepare w s spaced c is;
  }
