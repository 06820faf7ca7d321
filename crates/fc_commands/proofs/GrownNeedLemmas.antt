-- Whether a directory has to grow for what comes, which its content and the new name tell: what is wanted of the disc then.
use Rattle.std.proofs.Common.{◌≡◌, ◌<◌, ◌^◌, ◌==◌, ℕ, Bool, true, false, cond, List, [], ◌∷◌, ◌++◌, refl, sym, ap, subst, ◌∙◌, arith, Option, Some, None}
use Rattle.std.specs.Option.{option_map}
use Rattle.fc_names.specs.Names.{Path}
use Rattle.fc_names.specs.declared.name.NameForm.{NameForm}
use Rattle.fc_names.specs.declared.name.NameForm.TheVariants as forms
use Rattle.fc_record.specs.declared.Kind.{Kind}
use Rattle.fc_oldmap.specs.OldMap.{OldMapContent}
use Rattle.fc_model.specs.Command.{Command}
use Rattle.fc_model.specs.Tree.{last_name}
use Rattle.fc_drafts.specs.declared.room.Room.TheVariants as rooms
use Rattle.fc_drafts.specs.Draft.{names_of}
use Rattle.fc_drafts.specs.Gains.{GetsName}
use Rattle.fc_image.specs.Layout.{Layout, dir_form}
use Rattle.fc_image.specs.Sound.{AreSound}
use Rattle.fc_image.specs.Walk.{Listing}
use Rattle.fc_image.specs.effects.Short.{Gain, Growth as Grown, growth_with}
use Rattle.fc_laws.proofs.lemmas.agree.BeforeLemmas.{agreed_law}
use Rattle.fc_refusals.specs.Targets.{IsVacant}
use Rattle.fc_tree.specs.Agree.{Agree}
use Rattle.fc_tree.specs.Parts.{Parts}
use Rattle.fc_tree.proofs.WalkedLemmas.{same_some}
use Rattle.fc_change.specs.declared.job.Growth.{Growth}
use Rattle.fc_change.specs.declared.job.Wants.{Wants}
use Rattle.fc_change.specs.Needs.{AreWants, HasRoomFor, IsGrowthOf, SaysAt, room_of}
use Rattle.fc_change.specs.Places.{CanPlace}
use Rattle.fc_commands.specs.Jobs.{IsJobFor}
use Rattle.fc_commands.proofs.ArrivalLemmas.{Arrival, IsShort, bytes_of, job_of}
use Rattle.fc_commands.proofs.ArrivalStageLemmas.{arrives}
use Rattle.fc_commands.proofs.ArrivalTakenLemmas.{GrowsNone}
use Rattle.fc_commands.proofs.GrownWantLemmas.{its_want}
use Rattle.fc_commands.proofs.GrownWalkLemmas.{IsBigOne, big_one}
use Rattle.fc_commands.proofs.HolderLemmas as holder_of
use Rattle.fc_commands.proofs.RemovalStageLemmas.{view_of}

-- A node's directory grows to so many bytes.
abbrev pub to_bytes : ℕ → ℕ → Growth
to_bytes dir n = record { node = dir; len = n }

same_growth : (dir : ℕ) (g : Growth) → g.node ≡ dir → g ≡ to_bytes dir g.len
same_growth dir g is = λ i. record { node = is i; len = g.len }

pub few_bytes : (form : NameForm) (x : Arrival) → IsShort x → bytes_of form x < 2 ^ 32
few_bytes forms.Seven Arrival.Makes few = omega arith
few_bytes forms.Ten Arrival.Makes few = omega arith
few_bytes forms.Long Arrival.Makes few = omega arith
few_bytes form (Arrival.Saves words) few = few

old_form : (b : Bool) → (let f : NameForm = cond b forms.Ten forms.Seven in f) ≡ forms.Long → ⊥
old_form true e = absurd (cc)
old_form false e = absurd (cc)

module _ (h : Parts) (kind : Kind) (a : Agree kind h) (path : Path) (dir : ℕ) (spot : IsVacant h.nodes a.listings path dir) where
  abbrev l : Listing
  l = spot.listing

  sound : AreSound h.layout a.listings
  sound = agreed_law.sound_by kind h a

  says : SaysAt h.nodes dir spot.listing.content
  says = holder_of.says_at h.layout h.nodes a.listings sound a.walked.held spot.listing spot.listed dir spot.holder_is

  -- its content with the name more
  abbrev gain : Gain
  gain = record { listing = spot.listing; name = last_name path; names = names_of spot.listing.content ++ last_name path ∷ [] }

  gets : GetsName spot.listing.content (last_name path) gain
  gets = record { name_is = refl; names_are = refl }

  -- the bytes to which it has to grow, if it has to
  pub needed : Option ℕ
  needed = option_map (λ (g : Grown). g.1) (growth_with spot.listing.object spot.listing.content gain)

  grown_as : (o : Option Grown) → growth_with spot.listing.object spot.listing.content gain ≡ o → option_map (to_bytes dir) needed ≡ option_map (λ (g : Grown). to_bytes dir g.1) o
  unfolding needed
  grown_as o is = ap (λ (q : Option Grown). option_map (to_bytes dir) (option_map (λ (g : Grown). g.1) q)) is ∙ by o
    where
      by : (q : Option Grown) → option_map (to_bytes dir) (option_map (λ (g : Grown). g.1) q) ≡ option_map (λ (g : Grown). to_bytes dir g.1) q
      by None = refl
      by (Some g) = refl

  -- So it grows, or doesn't, by whatever is wanted.
  pub grows_is : (x : Arrival) (w : Wants) → AreWants h (job_of dir x) (last_name path) w → w.grows ≡ option_map (to_bytes dir) needed
  grows_is x w are = by w.grows (its_want h dir x (last_name path) w are).room (its_want h dir x (last_name path) w are).grown
    where
      by : (g : Option Growth) → HasRoomFor h.nodes dir (last_name path) (room_of g) → IsGrowthOf dir g → g ≡ option_map (to_bytes dir) needed
      by None room of = sym (grown_as None ((room spot.listing.content gain says gets).1 spot.listing.object))
      by (Some g) room of =
          ap (λ (x : Growth). let o : Option Growth = Some x in o) (same_growth dir g of) ∙ sym (grown_as (Some (spot.listing.object, g.len)) ((room spot.listing.content gain says gets).1 spot.listing.object))

  -- A directory that has to grow is a big one.
  pub big : (n : ℕ) → HasRoomFor h.nodes dir (last_name path) (rooms.Grows n) → IsBigOne (dir_form h.layout) spot.listing.object.entry.len n
  big n room =
      big_one (dir_form h.layout) l.object.entry.len n l.content gain l.object (a.walked.forms l spot.listed) (a.walked.bodies l spot.listed) ((room l.content gain says gets).1 l.object)

  module _ (x : Arrival) (w : Wants) (are : AreWants h (job_of dir x) (last_name path) w) (growth : Growth) (some : w.grows ≡ Some growth) where
    pub big_growth : IsBigOne (dir_form h.layout) spot.listing.object.entry.len growth.len
    big_growth = big growth.len (subst (λ (g : Option Growth). HasRoomFor h.nodes dir (last_name path) (room_of g)) some (its_want h dir x (last_name path) w are).room)

    -- No directory of a disc with an old map has to.
    pub not_old : (space : OldMapContent) → h.layout ≡ Layout.Old space → ⊥
    not_old space at = old_form (space.sector_units == 4) (ap dir_form (sym at) ∙ big_growth.is_long)

    -- Where it grows, what is wanted can be placed.
    pub can_place : IsShort x → CanPlace h w
    can_place short = record {
      few = subst (λ (n : ℕ). n < 2 ^ 32) (sym (its_want h dir x (last_name path) w are).bytes) (few_bytes (dir_form h.layout) x short);
      grows = λ g is. subst (λ (k : Growth). 0 < k.len) (same_some growth g (sym some ∙ is)) big_growth.more;
      copied = λ n is. absurd (let none = (its_want h dir x (last_name path) w are).copy in cc);
      no_growth = λ space at. absurd (not_old space at);
      behind = λ space at. absurd (not_old space at);
      free = λ space n at goes. absurd (not_old space at);
    }

-- ---- of its name

-- By a name, too, it is known what is wanted: a directory that grows to so many bytes, or none that does.
pub grows_by : (h : Parts) (kind : Kind) (a : Agree kind h) (c : Command) (dir : ℕ) (x : Arrival) (name bytes : List ℕ) (j : IsJobFor c h (job_of dir x) name bytes)
    → (o : Option ℕ) × ((w : Wants) → AreWants h (job_of dir x) name w → w.grows ≡ option_map (to_bytes dir) o)
grows_by h kind a c dir x name bytes j =
    let came = arrives h kind a c dir x name bytes j in
    let spot = came.can.vacant (view_of h kind a) (agreed_law.sound_by kind h a) (agreed_law.viewed kind h a) in
    (needed h kind a came.path dir spot, λ w are. grows_is h kind a came.path dir spot x w (subst (λ (n : List ℕ). AreWants h (job_of dir x) n w) came.name_is are))

-- On a disc with an old map none does.
pub none_old : (h : Parts) (kind : Kind) (a : Agree kind h) (c : Command) (dir : ℕ) (x : Arrival) (name bytes : List ℕ) (j : IsJobFor c h (job_of dir x) name bytes) (space : OldMapContent) → h.layout ≡ Layout.Old space
    → GrowsNone h dir x name
none_old h kind a c dir x name bytes j space at w are =
    let came = arrives h kind a c dir x name bytes j in
    let spot = came.can.vacant (view_of h kind a) (agreed_law.sound_by kind h a) (agreed_law.viewed kind h a) in
    by w.grows refl came.path spot (subst (λ (n : List ℕ). AreWants h (job_of dir x) n w) came.name_is are)
  where
    by : (g : Option Growth) → w.grows ≡ g → (path : Path) → IsVacant h.nodes a.listings path dir → AreWants h (job_of dir x) (last_name path) w → w.grows ≡ None
    by None e path spot wants = e
    by (Some g) e path spot wants = absurd (not_old h kind a path dir spot x w wants g e space at)
