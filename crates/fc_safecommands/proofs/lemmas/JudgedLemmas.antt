-- The job of a judged command, over parts that agree, in each view that they hold: a directory that grows is a big one.
use Rattle.std.proofs.Common.{◌≡◌, ◌<◌, ◌==◌, ◌%◌, ℕ, Bool, true, cond, List, sym, ap, subst, ◌∙◌, arith, Option, Some, None}
use Rattle.std.specs.Prelude.{Contains, nat_le}
use Rattle.std.specs.Int.{is_in_range}
use Rattle.std.specs.Option.{option_map_or}
use Rattle.std.proofs.lemmas.Bool.{and_parts, leb-true}
use Rattle.fc_names.specs.declared.name.NameForm.{NameForm}
use Rattle.fc_names.specs.declared.name.NameForm.TheVariants as forms
use Rattle.fc_record.specs.declared.Kind.{Kind}
use Rattle.fc_newmap.specs.Map.{Map}
use Rattle.fc_model.specs.Command.{Command}
use Rattle.fc_dirs.specs.Directory.{Directory}
use Rattle.fc_drafts.specs.declared.room.Room.TheVariants as rooms
use Rattle.fc_image.specs.Layout.{Layout, dir_form}
use Rattle.fc_image.specs.Opening.{Opened}
use Rattle.fc_image.specs.Sound.{AreSound}
use Rattle.fc_image.specs.Walk.{Listing}
use Rattle.fc_laws.specs.nodes.Edits.{Nodes}
use Rattle.fc_laws.proofs.lemmas.agree.BeforeLemmas.{agreed_law}
use Rattle.fc_refusals.specs.declared.target.Slot.TheVariants as slots
use Rattle.fc_tree.specs.declared.node.Node.{Node}
use Rattle.fc_tree.specs.Agree.{HasForm, IsDirectory}
use Rattle.fc_tree.specs.Nodes.{number_of}
use Rattle.fc_tree.specs.Parts.{ArePartsOf, Parts}
use Rattle.fc_change.specs.declared.job.Growth.{Growth}
use Rattle.fc_change.specs.declared.job.Job.{Job}
use Rattle.fc_change.specs.declared.job.Job.TheVariants as jobs
use Rattle.fc_change.specs.declared.job.Wants.{Wants}
use Rattle.fc_change.specs.Jobs.{IsJob}
use Rattle.fc_change.specs.Needs.{AreWants, HasRoomOf, IsGrowthOf, len_at}
use Rattle.fc_commands.proofs.ArrivalLemmas.{Arrival, job_of, of_job}
use Rattle.fc_commands.proofs.NodeLemmas as its
use Rattle.fc_commands.proofs.RemovalStageLemmas.{view_of}
use Rattle.fc_safe.specs.Suits.{Suits}
use Rattle.fc_safe.specs.Views.{IsViewOf}
use Rattle.fc_safe.proofs.SuitsLemmas.{suits_are}
use Rattle.fc_safecommands.specs.Jobs.{IsFullIn, IsJobIn, IsJudgedIn, JudgedLaw}
use Rattle.fc_safecommands.proofs.lemmas.CommandLemmas.{bytes_given, given, move_of}
use Rattle.fc_safecommands.proofs.lemmas.PlainJobLemmas.{room_still}

-- ---- the directory that grows

-- It is this one of those that are listed.
pub record IsListed (nodes : Nodes) (listings : List Listing) (n : ℕ) : Type 0 where
  pub listing : Listing
  pub listed : Contains listings listing
  pub number : number_of nodes listing.object.path ≡ Some n

module _ (h : Parts) (listings : List Listing) (c : Command) (name : List ℕ) (w : Wants) (g : Growth) (some : w.grows ≡ Some g) where
  none_grows : (w.grows ≡ None) → IsListed h.nodes listings g.node
  none_grows still = absurd (let bad = sym still ∙ some in cc)

  arrival_listed : (dir : ℕ) (x : Arrival) → IsJob h.nodes listings c (job_of dir x) name → IsGrowthOf dir w.grows → IsListed h.nodes listings g.node
  arrival_listed dir x job_is grown =
      let a = (of_job h.nodes listings c dir x name (bytes_given c) job_is (given c)).vacant in
      record { listing = a.listing; listed = a.listed; number = a.holder_is ∙ ap (λ (n : ℕ). let q : Option ℕ = Some n in q) (sym (subst (IsGrowthOf dir) some grown)) }

  pub grown_listed : (job : Job) → IsJob h.nodes listings c job name → AreWants h job name w → IsListed h.nodes listings g.node
  grown_listed (jobs.File (slots.New dir) words) job_is are = arrival_listed dir (Arrival.Saves words) job_is are.grown
  grown_listed (jobs.File (slots.Over t) words) job_is are = none_grows (room_still w.grows are.room)
  grown_listed (jobs.Directory dir) job_is are = arrival_listed dir Arrival.Makes job_is are.grown
  grown_listed (jobs.Removal t) job_is are = none_grows (room_still w.grows are.room)
  grown_listed (jobs.Move r) job_is are =
      let d = (move_of h.nodes listings c r name job_is).known.destination in
      record { listing = d.listing; listed = d.listed; number = d.holder_is ∙ ap (λ (n : ℕ). let q : Option ℕ = Some n in q) (sym (subst (IsGrowthOf r.holder) some are.grown)) }
  grown_listed (jobs.Words t words) job_is are = none_grows (room_still w.grows are.room)
  grown_listed (jobs.Marks t marks) job_is are = none_grows (room_still w.grows are.room)

-- ---- it has some bytes

big_some : (form : NameForm) (len : ℕ) (content : Directory) → form ≡ forms.Long → HasForm form len content → IsDirectory content → 0 < len
big_some forms.Long len (Directory.Big dir) long has is =
    let range = and_parts (nat_le 2048 dir.size) (nat_le dir.size 4194304) (and_parts (is_in_range 2048 4194304 dir.size) (dir.size % 2048 == 0) is.size).0 in
    let low = leb-true 2048 dir.size range.0 in omega (arith, has, low)
big_some forms.Long len (Directory.Small dir) long has is = absurd has
big_some forms.Seven len content long has is = absurd (cc)
big_some forms.Ten len content long has is = absurd (cc)

long_by : (m : Map) (nodes : Nodes) (layout : Layout) → layout ≡ Layout.New m → Suits layout nodes → dir_form layout ≡ forms.Long
long_by m nodes (Layout.New k) at suit = ap (λ (b : Bool). let f : NameForm = cond b forms.Ten forms.Long in f) suit.0
long_by m nodes (Layout.Old space) at suit = absurd suit

module _ (kind : Kind) (m : Map) (h : Parts) (c : Command) (job : Job) (name bytes : List ℕ) (is : IsJudgedIn kind m h c job name bytes) where
  abbrev v : Opened
  v = view_of h kind is.agree

  sound : AreSound h.layout is.agree.listings
  sound = agreed_law.sound_by kind h is.agree

  viewed : ArePartsOf h (view_of h kind is.agree)
  viewed = agreed_law.viewed kind h is.agree

  listed_some : (n : ℕ) → IsListed h.nodes is.agree.listings n → 0 < len_at h.nodes n
  listed_some n x =
      let walked = is.agree.walked in
      subst (λ (k : ℕ). 0 < k)
      (sym (ap (λ (q : Option Node). option_map_or (λ (k : Node). k.entry.len) q 0) (its.there h.nodes h.layout is.agree.listings sound walked.held x.listing x.listed n x.number)))
      (big_some (dir_form h.layout) x.listing.object.entry.len x.listing.content (long_by m h.nodes h.layout is.layout is.suits) (walked.forms x.listing x.listed) (walked.bodies x.listing x.listed))

  grown_some : (w : Wants) → AreWants h job name w → (g : Growth) → w.grows ≡ Some g → 0 < len_at h.nodes g.node
  grown_some w are g some = listed_some g.node (grown_listed h is.agree.listings c name w g some job (is.judged.is (view_of h kind is.agree) sound viewed) are)

  view_in : (u : Opened) → AreSound u.layout u.listings → ArePartsOf h u → IsViewOf m h u
  view_in u sound' parts = record { is_map = is.is_map; layout = sym parts.layout ∙ is.layout; sound = sound'; parts = parts }

  pub wanted_in : (w : Wants) (u : Opened) → AreSound u.layout u.listings → ArePartsOf h u → AreWants h job name w → IsJobIn m h u c job w
  wanted_in w u sound' parts are = record {
    view = view_in u sound' parts;
    suits = sym (suits_are h true u is.suits sound' parts);
    name = name;
    job_is = is.judged.is u sound' parts;
    wants = are;
    some = grown_some w are;
  }

  pub full_in : (u : Opened) → AreSound u.layout u.listings → ArePartsOf h u → HasRoomOf h.nodes job name rooms.Full → IsFullIn m h u c job
  full_in u sound' parts full = record { view = view_in u sound' parts; name = name; job_is = is.judged.is u sound' parts; full = full }

pub judged_law : JudgedLaw
judged_law = record {
  wanted = λ kind m h c job name bytes w v is sound parts are. wanted_in kind m h c job name bytes is w v sound parts are;
  full = λ kind m h c job name bytes v is sound parts full. full_in kind m h c job name bytes is v sound parts full;
}
