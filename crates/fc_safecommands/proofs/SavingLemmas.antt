-- `save` and `create` over a file in the safe mode: the job, its place, and what is written for it.
use Rattle.std.proofs.Common.{◌≡◌, ◌<◌, ◌≤◌, ◌^◌, ◌==◌, ◌&&◌, ◌||◌, ◌⊎◌, ◌++◌, inl, inr, ℕ, zero, suc, Bool, true, false, cond, List, [], ◌∷◌, append-nil, flat_map, length, refl, sym, ap, ap₂, subst, ◌∙◌, arith, eq-eqb, Option, Some, None}
use Rattle.std.specs.Prelude.{Contains, Vec, is_none}
use Rattle.std.specs.declared.alloc.Global.{Global}
use Rattle.std.specs.Option.{option_and_then, option_map, option_to_list, unwrap_or}
use Rattle.std.proofs.lemmas.Bool.{eqb-true, ne_eqb}
use Rattle.fc_device.specs.declared.disk.Extent.{Extent}
use Rattle.fc_names.specs.Names.{Path}
use Rattle.fc_names.specs.declared.name.NameForm.{NameForm}
use Rattle.fc_alloc.specs.declared.owner.Owner.{Owner}
use Rattle.fc_record.specs.declared.Kind.{Kind}
use Rattle.fc_newmap.specs.Map.{Map}
use Rattle.fc_image.specs.Layout.{Layout, dir_form, is_among}
use Rattle.fc_image.specs.Sound.{AreSound}
use Rattle.fc_image.specs.Walk.{Listing, Object, is_directory_object, object_size}
use Rattle.fc_dirs.specs.Directory.{directory_size}
use Rattle.fc_drafts.specs.Entries.{saved_entry}
use Rattle.fc_objects.specs.Extents.{sectors_in}
use Rattle.fc_placing.specs.Places.{slack_left}
use Rattle.fc_placing.specs.declared.placing.Placing.{Placing}
use Rattle.fc_placing.specs.declared.placing.Placing.TheVariants as placings
use Rattle.fc_plan.specs.Giving.{is_one_of}
use Rattle.fc_placing.specs.Slack.{place_in}
use Rattle.fc_tree.specs.declared.node.Node.{Node}
use Rattle.fc_tree.proofs.MemberLemmas.{no_element}
use Rattle.fc_tree.specs.Nodes.{number_of}
use Rattle.fc_tree.specs.Parts.{ArePartsOf, Parts}
use Rattle.fc_laws.specs.nodes.Edits.{Nodes}
use Rattle.fc_laws.specs.agree.Agreed.{AgreeOn, parts_with}
use Rattle.fc_laws.proofs.lemmas.agree.BeforeLemmas.{agreed_law}
use Rattle.fc_edits.proofs.lemmas.ShapeLemmas.{not_own}
use Rattle.fc_refusals.specs.Slots.{IsFile}
use Rattle.fc_refusals.specs.declared.target.Target.{Target}
use Rattle.fc_writing.specs.declared.ready.Piece.{Piece}
use Rattle.fc_writing.specs.declared.ready.Ready.{Ready}
use Rattle.fc_writing.specs.declared.ready.Source.{Source}
use Rattle.fc_writing.specs.declared.ready.Source.TheVariants as sources
use Rattle.fc_writing.specs.Ready.{IsSourceEnough, place_of, source_from, source_place}
use Rattle.fc_change.specs.declared.change.Change.{Change}
use Rattle.fc_change.specs.declared.change.Says.{Says}
use Rattle.fc_change.specs.declared.change.Turned.{Turned}
use Rattle.fc_change.specs.declared.change.Turned.TheVariants as turns
use Rattle.fc_change.specs.declared.job.FileWords.{FileWords}
use Rattle.fc_change.specs.declared.job.Wants.{Wants}
use Rattle.fc_change.specs.declared.spaces.Place.{Place}
use Rattle.fc_change.specs.declared.spaces.Spaces.{Spaces}
use Rattle.fc_change.specs.Needs.{AreWants}
use Rattle.fc_change.specs.Places.{IsPlaceFor, is_directory}
use Rattle.fc_change.specs.Prepared.{IsNewPiece, IsSourceOf}
use Rattle.fc_change.specs.Shortage.{slack_for}
use Rattle.fc_commands.specs.declared.stages.Prepared.{Prepared}
use Rattle.fc_commands.proofs.ArrivalLemmas.{Arrival}
use Rattle.fc_commands.proofs.ArrivalPlaceLemmas.{IsItsPlace, WantsPlace}
use Rattle.fc_commands.proofs.EmptySpaceLemmas.{none_copied}
use Rattle.fc_commands.proofs.OverStageLemmas.{IsOverChange, job_of, over_change, over_wants}
use Rattle.fc_commands.proofs.TargetLemmas as target_of
use Rattle.fc_safe.specs.Changed.{changed_in}
use Rattle.fc_safe.specs.FirstNeeds.{leaving_of}
use Rattle.fc_safe.specs.FirstSpace.{ArePlacedFirst, IsFirstPlacing}
use Rattle.fc_safe.specs.Suits.{Suits}
use Rattle.fc_safecommands.specs.Anew.{IsPreparedAnew, IsReadyAnew}
use Rattle.fc_safecommands.proofs.ObjectSpotLemmas.{IsSpot, in_new_space, in_slack, nowhere}
use Rattle.fc_safecommands.proofs.StirredLemmas.{StirredJob, changed_at, sound}
use Rattle.fc_safecommands.proofs.StirredPutLemmas.{IsPutThere, LiesBeside}
use Rattle.fc_safecommands.proofs.StirredStepLemmas.{none_grown}
use Rattle.fc_safecommands.proofs.StirredWrittenLemmas.{AreTold, TellsThese}

module _ (kind : Kind) (m : Map) (nodes : Nodes) (owners : List Owner) (root : Node) (listings : List Listing) (agreed : AgreeOn kind m nodes owners root listings)
    (parts : ArePartsOf (parts_with m nodes owners) (record { kind = kind; layout = Layout.New m; listings = listings })) (suits : Suits (Layout.New m) nodes)
    (t : Target) (words : FileWords) (few : words.len < 2 ^ 32) (path : Path) (file : IsFile nodes listings path t) (name : List ℕ) where
  abbrev pub h : Parts
  h = parts_with m nodes owners

  abbrev pub form : NameForm
  form = dir_form (Layout.New m)

  -- the listing of its directory, and the file that is there
  abbrev pub l : Listing
  l = file.target.listing

  abbrev pub was : Object
  was = file.target.object

  before : AreSound (Layout.New m) listings
  before = agreed_law.sound kind m nodes owners root listings agreed

  pub apart : (t.node == t.holder) ≡ false
  apart = ne_eqb t.node t.holder (λ same. not_own nodes (Layout.New m) listings file.target.listing file.target.object t.holder t.node (record { sound = before; held = agreed.walked.held }) file.target.listed
      (target_of.kid_in (Layout.New m) nodes listings before agreed.walked.held path t file.target) file.target.holder_is file.target.node_is (sym same))

  module _ (w : Wants) (are : AreWants (parts_with m nodes owners) (job_of t words) name w) where
    pub is_wanted : WantsPlace (parts_with m nodes owners) t.holder (Arrival.Saves words) w × (w.goes ≡ Some t.node)
    is_wanted = over_wants h t words name w are

    -- the file that is there leaves
    pub it_leaves : leaving_of w None ≡ t.node ∷ []
    it_leaves = ap₂ (λ (g c : Option ℕ). option_to_list g ++ (option_to_list c ++ [])) is_wanted.1 is_wanted.0.copy

    pub its_dir : (n : ℕ) → is_one_of (changed_in nodes (job_of t words) None None) n ≡ true → t.holder ≡ n
    its_dir n e = eqb-true t.holder n (or_false (t.holder == n) e)
      where
        or_false : (b : Bool) → (b || false) ≡ true → b ≡ true
        or_false true f = refl
        or_false false f = f

    -- the job
    abbrev pub job : StirredJob
    job = record {
      kind = kind;
      m = m;
      nodes = nodes;
      owners = owners;
      root = root;
      listings = listings;
      agreed = agreed;
      parts = parts;
      suits = suits;
      job = job_of t words;
      wants = w;
      still = (is_wanted).0.grows;
      few = subst (λ (n : ℕ). n < 2 ^ 32) (sym (is_wanted).0.bytes) few;
      told = λ n e. (file.target.listing, file.target.listed, file.target.holder_is ∙ ap (λ (k : ℕ). let o : Option ℕ = Some k in o) (its_dir n e));
      stay = λ n e. ap₂ (λ (ns : List ℕ) (k : ℕ). is_one_of ns k) it_leaves (sym (its_dir n e)) ∙ ap (λ (b : Bool). b || false) apart;
    }

    pub dir_changes : (n : ℕ) → n ≡ t.holder → is_one_of (changed_in nodes (job_of t words) None None) n ≡ true
    dir_changes n same = ap (λ (b : Bool). b || false) (eq-eqb t.holder n (sym same))

    -- a change that tells that directory something, and no other
    abbrev pub tells_of : (c : Change) (said : Says) → c.says.items ≡ said ∷ [] → said.node ≡ t.holder → TellsThese job c
    tells_of c said says node = record {
      ds = file.target.listing.object ∷ [];
      are = subst (λ (ss : List Says). AreTold job ss (file.target.listing.object ∷ [])) (sym says)
          (record { changes = dir_changes said.node node; is = changed_at job said.node file.target.listing file.target.listed (file.target.holder_is ∙ ap (λ (k : ℕ). let n : Option ℕ = Some k in n) (sym node)) }, tt);
      once = ((λ q at. absurd (no_element q at)), tt);
    }

    -- ---- its place

    module _ (s : Spaces) (placed : ArePlacedFirst m (parts_with m nodes owners) (job_of t words) w s) where
      some_place : (q : Placing) (o : Option Place) → IsPlaceFor m w q o → (p : Place) × (o ≡ Some p)
      some_place q (Some p) at = (p, refl)
      some_place q None at = absurd (let bad = sym is_wanted.0.slack ∙ at.1 in cc)

      pub its : IsItsPlace s
      its =
          let p = some_place placed.placing s.object placed.object in
          record { place = p.0; is = p.1; copied = none_copied (Layout.New m) nodes w.copied s.copied is_wanted.0.copy placed.copied; grown = none_grown job s placed }

      -- what comes in its place
      abbrev pub o : Object
      o = record { path = file.target.object.path; entry = saved_entry file.target.object.entry words.load words.exec words.len its.place.address; sectors = sectors_in its.place.extents.items }

      pub size : object_size (dir_form (Layout.New m)) o.entry ≡ w.bytes
      size = ap (λ (b : Bool). cond b (directory_size (dir_form (Layout.New m)) words.len) words.len) file.file ∙ sym is_wanted.0.bytes

      pub folder : is_directory w ≡ is_directory_object o
      folder = ap (λ (d : Option ℕ). is_none d && is_none w.copied) is_wanted.0.slack ∙ sym file.file

      -- It lies where nothing lies, in an identifier that doesn't move.
      pub its_spot : IsSpot job s placed o
      its_spot = by placed.placing placed.placed (subst (IsPlaceFor m w placed.placing) its.is placed.object)
        where
          by : (q : Placing) → IsFirstPlacing m owners w placed.plans q → IsPlaceFor m w q (Some its.place) → IsSpot job s placed o
          by placings.Nowhere first place = nowhere job s placed o its.place refl refl size first place
          by (placings.Shared share) first place = in_slack job s placed o its.place refl refl size file.target.listing.object.path t.holder file.target.holder_is is_wanted.0.slack share first place
          by (placings.New plan) first place = in_new_space job s placed o its.place refl refl size plan first.0 first.1 first.2 place folder (λ e. sym is_wanted.0.bytes)

  -- ---- what is ready

  module _ (p : Prepared) (prep : IsPreparedAnew m (parts_with m nodes owners) (job_of t words) name p) where
    abbrev pub x : StirredJob
    x = job prep.wants prep.are_wants

    abbrev pub place : IsItsPlace prep.spaces
    place = its prep.wants prep.are_wants prep.spaces prep.placed

    abbrev pub own : List ℕ
    own = sectors_in place.place.extents.items

    pub change : IsOverChange nodes t words place.place.address p.change
    change =
        subst (λ (n : ℕ). IsOverChange nodes t words n p.change) (ap (λ (q : Option Place). unwrap_or (option_map (λ (k : Place). k.address) q) 0) place.is)
        (over_change (parts_with m nodes owners) t words name prep.spaces p.change place.grown prep.change)

    abbrev pub tells : TellsThese x p.change
    tells = tells_of prep.wants prep.are_wants p.change (change).said (change).says (change).tells.number

    -- ---- its source

    source_of : (u : Turned) → p.change.object ≡ u → IsSourceOf u (Some place.place) None p.ready.source
    source_of u turned =
        subst (λ (q : Option Place). IsSourceOf u q None p.ready.source) place.is
        (subst (λ (q : Option (Vec Extent Global)). IsSourceOf u prep.spaces.object q p.ready.source) place.copied (subst (λ (k : Turned). IsSourceOf k prep.spaces.object prep.spaces.copied p.ready.source) turned prep.ready.source))

    made_of : (u : Turned) → p.change.object ≡ u → IsNewPiece u (Some place.place) prep.ready.early.made
    made_of u turned = subst (λ (q : Option Place). IsNewPiece u q prep.ready.early.made) place.is (subst (λ (k : Turned). IsNewPiece k prep.spaces.object prep.ready.early.made) turned prep.ready.early.makes)

    -- The bytes of the file are given.
    pub from_where : (p.ready.source ≡ sources.Bytes place.place.extents) × (prep.ready.early.made ≡ [])
    from_where = (source_of _ (change).turns, made_of _ (change).turns)

    pub put : IsPutThere x own p.ready prep.ready.early.made
    put = record {
      from = λ u e. absurd (let no : is_among (source_from (sources.Bytes place.place.extents)) u ≡ true = ap (λ (k : Source). is_among (source_from k) u) (sym from_where.0) ∙ e in cc);
      enough = subst IsSourceEnough (sym from_where.0) tt;
      place = inl (ap source_place from_where.0, ap (flat_map place_of) from_where.1);
    }

    pub lies : LiesBeside x prep.spaces prep.placed own
    lies = (its_spot prep.wants prep.are_wants prep.spaces prep.placed).lies
