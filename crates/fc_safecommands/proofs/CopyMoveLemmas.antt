-- `rename` in the safe mode that copies its file, where no directory grows: what is known of it, and its job.
use Rattle.std.proofs.Common.{◌≡◌, ◌<◌, ◌^◌, ◌==◌, ◌||◌, ◌⊎◌, inl, inr, ℕ, Bool, true, false, cond, List, [], ◌∷◌, ◌++◌, refl, sym, ap, ap₂, subst, ◌∙◌, ne_eqb, Option, Some, None}
use Rattle.std.specs.Prelude.{Contains}
use Rattle.std.specs.Option.{option_to_list}
use Rattle.std.proofs.lemmas.Bool.{eqb-true, or_cases}
use Rattle.fc_names.specs.Names.{Path}
use Rattle.fc_alloc.specs.declared.owner.Owner.{Owner}
use Rattle.fc_record.specs.declared.Kind.{Kind}
use Rattle.fc_newmap.specs.Map.{Map}
use Rattle.fc_image.specs.Layout.{Layout}
use Rattle.fc_image.specs.Walk.{Listing, Object}
use Rattle.fc_tree.specs.declared.node.Node.{Node}
use Rattle.fc_tree.specs.Nodes.{number_of}
use Rattle.fc_tree.specs.Parts.{ArePartsOf}
use Rattle.fc_laws.specs.nodes.Edits.{Nodes}
use Rattle.fc_laws.specs.agree.Agreed.{AgreeOn, parts_with}
use Rattle.fc_edits.proofs.lemmas.ShapeLemmas.{not_own}
use Rattle.fc_plan.specs.Giving.{is_one_of}
use Rattle.fc_refusals.specs.declared.target.Renaming.{Renaming}
use Rattle.fc_change.specs.declared.job.Wants.{Wants}
use Rattle.fc_change.specs.Needs.{AreWants, is_copied, len_at}
use Rattle.fc_commands.proofs.CopyingFileLemmas.{IsCopiedFile, copied_file}
use Rattle.fc_commands.proofs.CopyingPlaceLemmas.{IsCopyWanted, copy_wanted}
use Rattle.fc_commands.proofs.MoveLemmas.{IsSeen, h as held_by, holder_other, k, kid_in, node_kind, o}
use Rattle.fc_commands.proofs.RoomyLemmas.{NoneGrows}
use Rattle.fc_safe.specs.Changed.{changed_in}
use Rattle.fc_safe.specs.FirstNeeds.{leaving_of}
use Rattle.fc_safe.specs.Suits.{Suits}
use Rattle.fc_safecommands.proofs.StirredLemmas.{StirredJob}
use Rattle.fc_change.specs.declared.job.Job.TheVariants as jobs

-- By parts that agree it is seen in this view, and its file is copied.
pub record CopyMove : Type 0 where
  pub kind : Kind
  pub m : Map
  pub nodes : Nodes
  pub owners : List Owner
  pub root : Node
  pub listings : List Listing
  pub agreed : AgreeOn kind m nodes owners root listings
  pub parts : ArePartsOf (parts_with m nodes owners) (record { kind = kind; layout = Layout.New m; listings = listings })
  pub suits : Suits (Layout.New m) nodes
  pub from : Path
  pub to : Path
  pub r : Renaming
  pub name : List ℕ
  pub seen : IsSeen (Layout.New m) nodes listings from to r name
  pub copied : is_copied (parts_with m nodes owners) r ≡ true
  pub grows : NoneGrows (parts_with m nodes owners) (jobs.Move r) name
  pub few : len_at nodes r.target.node < 2 ^ 32
  pub wants : Wants
  pub are : AreWants (parts_with m nodes owners) (jobs.Move r) name wants

module _ (c : CopyMove) where
  abbrev pub it : Object
  it = o (Layout.New c.m) c.nodes c.listings c.from c.to c.r c.name c.seen

  pub file : IsCopiedFile c.m c.nodes c.listings c.from c.to c.r (o (Layout.New c.m) c.nodes c.listings c.from c.to c.r c.name c.seen)
  file = copied_file c.m c.nodes c.owners c.listings c.from c.to c.r c.seen.sound c.seen.held c.seen.known c.kind c.agreed.owned c.copied

  pub wanted : IsCopyWanted c.m c.nodes c.owners c.r c.name c.wants
  wanted = copy_wanted c.m c.nodes c.owners c.r c.name c.wants c.grows c.copied c.are

  pub bytes_is : c.wants.bytes ≡ (o (Layout.New c.m) c.nodes c.listings c.from c.to c.r c.name c.seen).entry.len
  bytes_is = wanted.bytes ∙ file.len

  pub some : 0 < c.wants.bytes
  some = subst (λ (n : ℕ). 0 < n) (sym bytes_is) file.some

  -- ---- the job

  pub changed_is : changed_in c.nodes (jobs.Move c.r) None None ≡ c.r.holder ∷ (c.r.target.holder ∷ [])
  changed_is = ap (λ (b : Bool). let ns : List ℕ = c.r.holder ∷ (c.r.target.holder ∷ (cond b (c.r.target.node ∷ []) [] ++ [])) in ns) (node_kind (Layout.New c.m) c.nodes c.listings c.from c.to c.r c.name c.seen ∙ file.file)

  pub leaving_is : leaving_of c.wants None ≡ c.r.target.node ∷ []
  leaving_is = ap₂ (λ (a b : Option ℕ). let ns : List ℕ = option_to_list a ++ (option_to_list b ++ []) in ns) wanted.goes wanted.copy

  either : (n : ℕ) → is_one_of (changed_in c.nodes (jobs.Move c.r) None None) n ≡ true → (c.r.holder ≡ n) ⊎ (c.r.target.holder ≡ n)
  either n e = elim (or_cases (c.r.holder == n) ((c.r.target.holder == n) || false) (sym (ap (λ (ns : List ℕ). is_one_of ns n) changed_is) ∙ e)) [
    | inl first ↦ inl (eqb-true c.r.holder n first)
    | inr second ↦ inr (one (c.r.target.holder == n) refl second)
  ]
    where
      one : (b : Bool) → (c.r.target.holder == n) ≡ b → (b || false) ≡ true → c.r.target.holder ≡ n
      one true f g = eqb-true c.r.target.holder n f
      one false f g = absurd (cc)

  pub told : (n : ℕ) → is_one_of (changed_in c.nodes (jobs.Move c.r) None None) n ≡ true → (l : Listing) × Contains c.listings l × (number_of c.nodes l.object.path ≡ Some n)
  told n e = elim (either n e) [
    | inl first ↦ (c.seen.known.destination.listing, c.seen.known.destination.listed, c.seen.known.destination.holder_is ∙ ap (λ (k : ℕ). let q : Option ℕ = Some k in q) first)
    | inr second ↦ (c.seen.known.target.listing, c.seen.known.target.listed, c.seen.known.target.holder_is ∙ ap (λ (k : ℕ). let q : Option ℕ = Some k in q) second)
  ]

  pub home_other : c.r.target.holder ≡ c.r.target.node → ⊥
  home_other =
      not_own c.nodes (Layout.New c.m) c.listings (k (Layout.New c.m) c.nodes c.listings c.from c.to c.r c.name c.seen) it c.r.target.holder c.r.target.node (held_by (Layout.New c.m) c.nodes c.listings c.from c.to c.r c.name c.seen)
      c.seen.known.target.listed (kid_in (Layout.New c.m) c.nodes c.listings c.from c.to c.r c.name c.seen) c.seen.known.target.holder_is c.seen.known.target.node_is

  pub stay : (n : ℕ) → is_one_of (changed_in c.nodes (jobs.Move c.r) None None) n ≡ true → is_one_of (leaving_of c.wants None) n ≡ false
  stay n e = ap (λ (ns : List ℕ). is_one_of ns n) leaving_is ∙ ap (λ (b : Bool). b || false) (ne_eqb c.r.target.node n (λ same. elim (either n e) [
    | inl first ↦ holder_other (Layout.New c.m) c.nodes c.listings c.from c.to c.r c.name c.seen (first ∙ sym same)
    | inr second ↦ home_other (second ∙ sym same)
  ]))

  abbrev pub job : StirredJob
  job = record {
    kind = c.kind;
    m = c.m;
    nodes = c.nodes;
    owners = c.owners;
    root = c.root;
    listings = c.listings;
    agreed = c.agreed;
    parts = c.parts;
    suits = c.suits;
    job = jobs.Move c.r;
    wants = c.wants;
    still = wanted.grows;
    few = subst (λ (n : ℕ). n < 2 ^ 32) (sym wanted.bytes) c.few;
    told = told;
    stay = stay;
  }
