-- A listed directory that is told to say something else; and what `rename` tells, if no directory grows.
use Rattle.std.proofs.Common.{◌≡◌, ◌++◌, ◌==◌, inl, inr, ℕ, Bool, cond, List, [], ◌∷◌, refl, sym, ap, subst, ◌∙◌, Option, Some, None}
use Rattle.std.specs.Prelude.{Contains, IsSome, is_some}
use Rattle.std.specs.FinMap.{get}
use Rattle.std.specs.Option.{option_map_or}
use Rattle.fc_dirs.specs.declared.Entry.{Entry}
use Rattle.fc_dirs.specs.Directory.{Directory}
use Rattle.fc_drafts.specs.Draft.{CanAddress, directory_in}
use Rattle.fc_image.specs.Layout.{Layout, dir_form, sectors_at}
use Rattle.fc_image.specs.Report.{holder_address}
use Rattle.fc_image.specs.Sound.{AreSound}
use Rattle.fc_image.specs.Walk.{Listing, object_size}
use Rattle.fc_tree.specs.declared.node.Node.{Node}
use Rattle.fc_tree.specs.Agree.{HasForm}
use Rattle.fc_tree.specs.Counts.{address_in}
use Rattle.fc_tree.specs.Nodes.{HoldObjects, is_directory_node, number_of}
use Rattle.fc_tree.specs.Parts.{Parts}
use Rattle.fc_tree.proofs.MemberLemmas.{contains_here, no_element}
use Rattle.fc_tree.proofs.WalkedLemmas.{listed_directory}
use Rattle.fc_laws.specs.nodes.Edits.{Nodes}
use Rattle.fc_refusals.specs.declared.target.Renaming.{Renaming}
use Rattle.fc_change.specs.declared.change.Says.{Says}
use Rattle.fc_change.specs.declared.job.Job.TheVariants as jobs
use Rattle.fc_change.specs.Directories.{CanBe, CanTell, IsRewritingBy, Rewriting, TellAll, Tells, above_of}
use Rattle.fc_change.specs.Drafts.{told}
use Rattle.fc_change.specs.Prepared.{HasPlace}
use Rattle.fc_commands.specs.Run.{IsMapIn}
use Rattle.fc_commands.proofs.NodeLemmas.{can_address, content_is, each_at, held_at}
use Rattle.fc_commands.proofs.NodeLemmas as its
use Rattle.fc_image.proofs.EntriesLemmas.{later as contains_later, cases as contains_cases}

-- ---- a listed directory

module _ (layout : Layout) (nodes : Nodes) (listings : List Listing) (sound : AreSound layout listings) (held : HoldObjects nodes listings) (l : Listing) (listed : Contains listings l) (n : ℕ)
    (number : number_of nodes l.object.path ≡ Some n) where
  abbrev node : Node
  node = its.node nodes layout listings sound held l listed n number

  pub there : get nodes n ≡ Some node
  there = its.there nodes layout listings sound held l listed n number

  pub has_node : IsSome (get nodes n)
  has_node = ap is_some there

  pub address_is : address_in nodes n ≡ l.object.entry.address
  address_is = ap (λ (x : Option Node). option_map_or (λ (m : Node). m.entry.address) x 0) there

  pub has_place : (h : Parts) → h.layout ≡ layout → h.nodes ≡ nodes → HasPlace h n
  has_place h at same = record {
    node = node;
    there = ap (λ (ns : Nodes). get ns n) same ∙ there;
    placed = subst (λ (x : Layout). IsSome (sectors_at x node.entry.address (object_size (dir_form x) node.entry))) (sym at)
        (ap is_some (its.placed nodes layout listings sound held l listed n number));
  }

  -- A head can name the directory that holds it, and another listed one.
  pub named : ((d : Listing) → Contains listings d → HasForm (dir_form layout) d.object.entry.len d.content) → IsMapIn layout → (d : Listing) → Contains listings d → CanAddress l.content d.object.entry.address
  named form is d at =
      let top = listed_directory layout listings sound d at in can_address layout l.content l.object.entry.len d.object is (form l listed) top.1 (each_at layout listings sound d.object top.0)

  pub can_tell : (r : Rewriting) → CanAddress l.content (address_in nodes (above_of r node)) → CanBe r l.content → CanTell None nodes n r
  can_tell r addressed can = record {
    node = node;
    content = l.content;
    there = there;
    says = its.says nodes layout listings sound held l listed n number;
    amended = tt;
    addressed = addressed;
    can = λ middle amends. subst (CanBe r) (sym amends) can;
  }

  -- if its holder stays
  pub can_tell_here : (r : Rewriting) → above_of r node ≡ node.holder → CanBe r l.content → ((d : Listing) → Contains listings d → HasForm (dir_form layout) d.object.entry.len d.content) → IsMapIn layout
      → CanTell None nodes n r
  can_tell_here r stays can form is =
      let up = its.above nodes layout listings sound held l listed n number in
      can_tell r (subst (CanAddress l.content) (sym (ap (address_in nodes) stays ∙ its.above_address nodes layout listings sound held l listed n number)) (named form is up.0 up.1)) can

  -- what it was told
  module _ (r : Rewriting) (said : Says) (tells : Tells None nodes n r said) where
    middle_is : tells.middle ≡ l.content
    middle_is = tells.amended ∙ content_is nodes layout listings sound held l listed n number tells.node tells.there tells.content tells.says

    pub rewritten : IsRewritingBy r (address_in nodes (above_of r tells.node)) l.content (directory_in said.draft)
    rewritten = subst (λ (dir : Directory). IsRewritingBy r (address_in nodes (above_of r tells.node)) dir (directory_in said.draft)) middle_is tells.rewritten

    pub rewritten_here : above_of r tells.node ≡ tells.node.holder → IsRewritingBy r (holder_address listings l.object.path) l.content (directory_in said.draft)
    rewritten_here stays =
        subst (λ (p : ℕ). IsRewritingBy r p l.content (directory_in said.draft))
        (ap (address_in nodes) stays ∙ held_at nodes layout listings sound held l listed n number tells.node tells.there) rewritten

-- ---- lists of what is told

-- what is said by the first of them, and by the others
pub record ArePartsTold (nodes : Nodes) (xs ys : List (ℕ × Rewriting)) (ss : List Says) : Type 0 where
  pub first : List Says
  pub later : List Says
  pub are : ss ≡ first ++ later
  pub tell_first : TellAll None nodes xs first
  pub tell_later : TellAll None nodes ys later

pub parts_told : (nodes : Nodes) (xs ys : List (ℕ × Rewriting)) (ss : List Says) → TellAll None nodes (xs ++ ys) ss → ArePartsTold nodes xs ys ss
parts_told nodes [] ys ss tell = record { first = []; later = ss; are = refl; tell_first = tt; tell_later = tell }
parts_told nodes (q ∷ xs) ys [] tell = absurd tell
parts_told nodes (q ∷ xs) ys (s ∷ ss) tell =
    let more = parts_told nodes xs ys ss tell.1 in
    record { first = s ∷ more.first; later = more.later; are = ap (λ (ts : List Says). s ∷ ts) more.are; tell_first = (tell.0, more.tell_first); tell_later = more.tell_later }

-- the first is told the first
pub record IsFirstTold (nodes : Nodes) (q : ℕ × Rewriting) (qs : List (ℕ × Rewriting)) (ss : List Says) : Type 0 where
  pub said : Says
  pub later : List Says
  pub are : ss ≡ said ∷ later
  pub tells : Tells None nodes q.0 q.1 said
  pub tell_later : TellAll None nodes qs later

pub first_told : (nodes : Nodes) (q : ℕ × Rewriting) (qs : List (ℕ × Rewriting)) (ss : List Says) → TellAll None nodes (q ∷ qs) ss → IsFirstTold nodes q qs ss
first_told nodes q qs [] tell = absurd tell
first_told nodes q qs (s ∷ ss) tell = record { said = s; later = ss; are = refl; tells = tell.0; tell_later = tell.1 }

pub none_told : (nodes : Nodes) (ss : List Says) → TellAll None nodes [] ss → ss ≡ []
none_told nodes [] tell = refl
none_told nodes (s ∷ ss) tell = absurd tell

-- what is told to each that says something
pub told_by : (nodes : Nodes) (qs : List (ℕ × Rewriting)) (ss : List Says) → TellAll None nodes qs ss → (s : Says) → Contains ss s → (q : ℕ × Rewriting) × Contains qs q × Tells None nodes q.0 q.1 s
told_by nodes [] [] tell s at = absurd (no_element s at)
told_by nodes [] (t ∷ ss) tell s at = absurd tell
told_by nodes (q ∷ qs) [] tell s at = absurd tell
told_by nodes (q ∷ qs) (t ∷ ss) tell s at = elim (contains_cases t s ss at) [
  | inl here ↦ (q, contains_here q qs, subst (Tells None nodes q.0 q.1) here tell.0)
  | inr later ↦ (let more = told_by nodes qs ss tell.1 s later in (more.0, contains_later q more.0 qs more.1, more.2))
]

-- ---- what `rename` tells

-- the object itself, if it is a directory
abbrev pub own_told : Bool → Renaming → List ℕ → List (ℕ × Rewriting)
own_told b r name = cond b ((r.target.node, Rewriting.Turns r.holder name) ∷ []) []

-- all that it tells, within a directory or to another one
abbrev pub all_told : Nodes → Renaming → List ℕ → Entry → Bool → List (ℕ × Rewriting)
all_told nodes r name e within =
    cond within ((r.holder, Rewriting.Renames r.target.at e) ∷ []) ((r.holder, Rewriting.Enters e) ∷ [])
    ++ (own_told (is_directory_node nodes r.target.node) r name ++ cond within [] ((r.target.holder, Rewriting.Leaves r.target.at) ∷ []))

pub told_is : (nodes : Nodes) (r : Renaming) (name : List ℕ) (e : Entry) (b : Bool) → (r.holder == r.target.holder) ≡ b → told nodes (jobs.Move r) name None e ≡ all_told nodes r name e b
told_is nodes r name e b is = ap (all_told nodes r name e) is
