-- `save`, `create` and `cdir` of what is new in the safe mode, without growth: the job, its place, and what is written for it.
use Rattle.std.proofs.Common.{◌≡◌, ◌<◌, ◌≤◌, ◌^◌, ◌==◌, ◌&&◌, ◌||◌, ◌⊎◌, ◌++◌, inl, inr, ℕ, Bool, true, false, List, [], ◌∷◌, append-nil, flat_map, length, refl, sym, ap, ap₂, subst, ◌∙◌, arith, eq-eqb, Option, Some, None}
use Rattle.std.specs.Prelude.{Vec}
use Rattle.std.specs.declared.alloc.Global.{Global}
use Rattle.std.specs.Option.{option_and_then, option_map, option_to_list, unwrap_or}
use Rattle.std.proofs.lemmas.Bool.{eqb-true}
use Rattle.fc_device.specs.declared.disk.Extent.{Extent}
use Rattle.fc_names.specs.Names.{Path}
use Rattle.fc_names.specs.declared.name.NameForm.{NameForm}
use Rattle.fc_names.specs.declared.name.NameForm.TheVariants as forms
use Rattle.fc_alloc.specs.declared.owner.Owner.{Owner}
use Rattle.fc_record.specs.declared.Kind.{Kind}
use Rattle.fc_newmap.specs.Map.{Map}
use Rattle.fc_model.specs.Tree.{holder, last_name}
use Rattle.fc_dirs.specs.Directory.{Directory}
use Rattle.fc_drafts.specs.Draft.{IsSayable, size_of}
use Rattle.fc_drafts.specs.declared.draft.Draft.{Draft}
use Rattle.fc_image.specs.Layout.{Layout, dir_form, is_among}
use Rattle.fc_image.specs.Walk.{Listing, Object, is_directory_object, object_size}
use Rattle.fc_image.specs.effects.Steady.{AreWritten}
use Rattle.fc_objects.specs.Extents.{sectors_in}
use Rattle.fc_placing.specs.Places.{slack_left}
use Rattle.fc_placing.specs.declared.placing.Placing.{Placing}
use Rattle.fc_placing.specs.declared.placing.Placing.TheVariants as placings
use Rattle.fc_plan.specs.Giving.{is_one_of}
use Rattle.fc_refusals.specs.Targets.{IsVacant}
use Rattle.fc_placing.specs.Slack.{place_in}
use Rattle.fc_tree.specs.declared.node.Node.{Node}
use Rattle.fc_tree.proofs.MemberLemmas.{no_element}
use Rattle.fc_tree.specs.Nodes.{number_of}
use Rattle.fc_tree.specs.Parts.{ArePartsOf, Parts}
use Rattle.fc_laws.specs.nodes.Edits.{Nodes}
use Rattle.fc_laws.specs.agree.Agreed.{AgreeOn, parts_with}
use Rattle.fc_writing.specs.declared.ready.Piece.{Piece}
use Rattle.fc_writing.specs.declared.ready.Source.{Source}
use Rattle.fc_writing.specs.declared.ready.Source.TheVariants as sources
use Rattle.fc_writing.specs.Ready.{IsSourceEnough, place_of, source_from, source_place}
use Rattle.fc_change.specs.declared.change.Change.{Change}
use Rattle.fc_change.specs.declared.change.Says.{Says}
use Rattle.fc_change.specs.declared.change.Turned.{Turned}
use Rattle.fc_change.specs.declared.change.Turned.TheVariants as turns
use Rattle.fc_change.specs.declared.job.Wants.{Wants}
use Rattle.fc_change.specs.declared.spaces.Place.{Place}
use Rattle.fc_change.specs.declared.spaces.Spaces.{Spaces}
use Rattle.fc_change.specs.Needs.{AreWants}
use Rattle.fc_change.specs.Places.{IsPlaceFor, is_directory}
use Rattle.fc_change.specs.Prepared.{IsNewPiece, IsSourceOf}
use Rattle.fc_change.specs.Shortage.{slack_for}
use Rattle.fc_commands.specs.declared.stages.Prepared.{Prepared}
use Rattle.fc_commands.proofs.ArrivalLemmas.{Arrival, IsShort, address_is, bytes_of, entry_of, job_of, size_is}
use Rattle.fc_commands.proofs.ArrivalEditLemmas.{object_of}
use Rattle.fc_commands.proofs.ArrivalPlaceLemmas.{IsItsPlace, IsWanted, dir_some, folder_is, is_folder, shares_of, wanted, wants_place}
use Rattle.fc_commands.proofs.ArrivalReadyLemmas.{SaysOwn}
use Rattle.fc_commands.proofs.ArrivalStageLemmas.{IsArrivalChange, OwnsDraft, arrival_change}
use Rattle.fc_commands.proofs.EmptySpaceLemmas.{none_copied}
use Rattle.fc_commands.proofs.VacantLemmas as vacant
use Rattle.fc_safe.specs.Changed.{changed_in}
use Rattle.fc_safe.specs.FirstNeeds.{leaving_of}
use Rattle.fc_safe.specs.FirstSpace.{ArePlacedFirst, IsFirstPlacing}
use Rattle.fc_safe.specs.Suits.{Suits}
use Rattle.fc_safecommands.specs.Anew.{IsPreparedAnew}
use Rattle.fc_safecommands.proofs.ObjectSpotLemmas.{IsSpot, in_new_space, in_slack, nowhere}
use Rattle.fc_safecommands.proofs.StirredLemmas.{StirredJob, changed_at, sound}
use Rattle.fc_safecommands.proofs.StirredPutLemmas.{IsPutThere, LiesBeside}
use Rattle.fc_safecommands.proofs.StirredStepLemmas.{none_grown}
use Rattle.fc_safecommands.proofs.StirredWrittenLemmas.{AreTold, TellsThese}
pub use Rattle.fc_commands.proofs.GrownNeedLemmas.{few_bytes}

-- it rewrites the directory to which it comes
pub changed_is : (nodes : Nodes) (dir : ℕ) (a : Arrival) → changed_in nodes (job_of dir a) None None ≡ dir ∷ []
changed_is nodes dir Arrival.Makes = refl
changed_is nodes dir (Arrival.Saves words) = refl

module _ (kind : Kind) (m : Map) (nodes : Nodes) (owners : List Owner) (root : Node) (listings : List Listing) (agreed : AgreeOn kind m nodes owners root listings)
    (parts : ArePartsOf (parts_with m nodes owners) (record { kind = kind; layout = Layout.New m; listings = listings })) (suits : Suits (Layout.New m) nodes) (dir : ℕ) (a : Arrival) (few : IsShort a) (path : Path) (spot : IsVacant nodes listings path dir) where
  abbrev pub h : Parts
  h = parts_with m nodes owners

  abbrev pub form : NameForm
  form = dir_form (Layout.New m)

  abbrev pub name : List ℕ
  name = last_name path

  -- the listing of that directory
  abbrev pub l : Listing
  l = spot.listing

  module _ (w : Wants) (are : AreWants (parts_with m nodes owners) (job_of dir a) (last_name path) w) (still : w.grows ≡ None) where
    pub is_wanted : IsWanted h dir a name w
    is_wanted = wanted h dir a name w still are

    pub none_leaves : leaving_of w None ≡ []
    none_leaves = ap₂ (λ (g c : Option ℕ). option_to_list g ++ (option_to_list c ++ [])) is_wanted.goes is_wanted.copy

    pub its_dir : (n : ℕ) → is_one_of (changed_in nodes (job_of dir a) None None) n ≡ true → dir ≡ n
    its_dir n e = eqb-true dir n (or_false (dir == n) (sym (ap (λ (ns : List ℕ). is_one_of ns n) (changed_is nodes dir a)) ∙ e))
      where
        or_false : (b : Bool) → (b || false) ≡ true → b ≡ true
        or_false true f = refl
        or_false false f = f

    -- the job
    abbrev pub job : StirredJob
    job = record {
      kind = kind;
      m = m;
      nodes = nodes;
      owners = owners;
      root = root;
      listings = listings;
      agreed = agreed;
      parts = parts;
      suits = suits;
      job = job_of dir a;
      wants = w;
      still = still;
      few = subst (λ (n : ℕ). n < 2 ^ 32) (sym (is_wanted).bytes) (few_bytes form a few);
      told = λ n e. (spot.listing, spot.listed, spot.holder_is ∙ ap (λ (k : ℕ). let o : Option ℕ = Some k in o) (its_dir n e));
      stay = λ n e. ap (λ (ns : List ℕ). is_one_of ns n) none_leaves;
    }

    pub dir_changes : (n : ℕ) → n ≡ dir → is_one_of (changed_in nodes (job_of dir a) None None) n ≡ true
    dir_changes n same = ap₂ (λ (ns : List ℕ) (k : ℕ). is_one_of ns k) (changed_is nodes dir a) same ∙ ap (λ (b : Bool). b || false) (eq-eqb dir dir refl)

    -- a change that tells that directory something, and no other
    abbrev pub tells_of : (c : Change) (said : Says) → c.says.items ≡ said ∷ [] → said.node ≡ dir → TellsThese job c
    tells_of c said says node = record {
      ds = spot.listing.object ∷ [];
      are = subst (λ (ss : List Says). AreTold job ss (spot.listing.object ∷ [])) (sym says)
          (record { changes = dir_changes said.node node; is = changed_at job said.node spot.listing spot.listed (spot.holder_is ∙ ap (λ (k : ℕ). let n : Option ℕ = Some k in n) (sym node)) }, tt);
      once = ((λ q at. absurd (no_element q at)), tt);
    }

    -- ---- its place

    module _ (s : Spaces) (placed : ArePlacedFirst m (parts_with m nodes owners) (job_of dir a) w s) where
      some_place : (q : Placing) (o : Option Place) → IsPlaceFor m w q o → (p : Place) × (o ≡ Some p)
      some_place q (Some p) at = (p, refl)
      some_place q None at = absurd (by a is_wanted.bytes is_wanted.slack at.0 at.1)
        where
          by : (b : Arrival) → w.bytes ≡ bytes_of form b → w.shares ≡ shares_of dir b → w.bytes ≡ 0 → w.shares ≡ None → ⊥
          by Arrival.Makes bytes shares zero' none = let some = dir_some form in omega (arith, some, bytes, zero')
          by (Arrival.Saves words) bytes shares zero' none = let bad = sym shares ∙ none in cc

      pub its : IsItsPlace s
      its =
          let p = some_place placed.placing s.object placed.object in
          record { place = p.0; is = p.1; copied = none_copied (Layout.New m) nodes w.copied s.copied is_wanted.copy placed.copied; grown = none_grown job s placed }

      abbrev pub sectors : List ℕ
      sectors = sectors_in its.place.extents.items

      -- what comes
      abbrev pub o : Object
      o = object_of (Layout.New m) spot.listing a (last_name path) its.place.address (sectors_in its.place.extents.items)

      pub size : object_size (dir_form (Layout.New m)) o.entry ≡ w.bytes
      size = size_is (dir_form (Layout.New m)) a name its.place.address ∙ sym is_wanted.bytes

      pub folder : is_directory w ≡ is_directory_object o
      folder = folder_is h dir a w (wants_place h dir a name w is_wanted) ∙ by a
        where
          by : (b : Arrival) → is_folder b ≡ is_directory_object (object_of (Layout.New m) spot.listing b (last_name path) its.place.address (sectors_in its.place.extents.items))
          by Arrival.Makes = refl
          by (Arrival.Saves words) = refl

      len_is : is_directory_object o ≡ false → o.entry.len ≡ w.bytes
      len_is e = by a e is_wanted.bytes
        where
          by : (b : Arrival) → is_directory_object (object_of (Layout.New m) spot.listing b (last_name path) its.place.address (sectors_in its.place.extents.items)) ≡ false → w.bytes ≡ bytes_of form b
              → (object_of (Layout.New m) spot.listing b (last_name path) its.place.address (sectors_in its.place.extents.items)).entry.len ≡ w.bytes
          by Arrival.Makes f bytes = absurd (cc)
          by (Arrival.Saves words) f bytes = sym bytes

      -- It lies where nothing lies, in an identifier that doesn't move.
      pub its_spot : IsSpot job s placed o
      its_spot = by placed.placing placed.placed (subst (IsPlaceFor m w placed.placing) its.is placed.object)
        where
          at : o.entry.address ≡ its.place.address
          at = address_is (dir_form (Layout.New m)) a name its.place.address

          near : number_of nodes (holder path) ≡ Some dir
          near = vacant.holder_number (Layout.New m) nodes listings (sound job) path dir spot

          shares : (b : Arrival) → w.shares ≡ shares_of dir b → (share : ℕ × ℕ) → slack_for m owners w ≡ Some share → w.shares ≡ Some dir
          shares Arrival.Makes is share some = absurd (let none : (let n : Option (ℕ × ℕ) = None in n) ≡ Some share = sym (ap (λ (d : Option ℕ). option_and_then (λ (k : ℕ). slack_left m owners k w.bytes) d) is) ∙ some in cc)
          shares (Arrival.Saves words) is share some = is

          by : (q : Placing) → IsFirstPlacing m owners w placed.plans q → IsPlaceFor m w q (Some its.place) → IsSpot job s placed o
          by placings.Nowhere first place = nowhere job s placed o its.place at refl size first place
          by (placings.Shared share) first place = in_slack job s placed o its.place at refl size (holder path) dir near (shares a is_wanted.slack (place_in share) first) share first place
          by (placings.New plan) first place = in_new_space job s placed o its.place at refl size plan first.0 first.1 first.2 place folder len_is

  -- ---- what is ready

  module _ (p : Prepared) (prep : IsPreparedAnew m (parts_with m nodes owners) (job_of dir a) (last_name path) p) (still : prep.wants.grows ≡ None) where
    abbrev pub x : StirredJob
    x = job prep.wants prep.are_wants still

    abbrev pub place : IsItsPlace prep.spaces
    place = its prep.wants prep.are_wants still prep.spaces prep.placed

    abbrev pub own : List ℕ
    own = sectors_in place.place.extents.items

    pub change : IsArrivalChange (parts_with m nodes owners) dir a (last_name path) place.place.address p.change
    change =
        subst (λ (n : ℕ). IsArrivalChange (parts_with m nodes owners) dir a (last_name path) n p.change) (ap (λ (q : Option Place). unwrap_or (option_map (λ (k : Place). k.address) q) 0) place.is)
        (arrival_change (parts_with m nodes owners) dir a (last_name path) prep.spaces p.change place.grown prep.change)

    abbrev pub tells : TellsThese x p.change
    tells = tells_of prep.wants prep.are_wants still p.change (change).said (change).says (change).tells.number

    -- ---- its source, or its piece

    source_of : (t : Turned) → p.change.object ≡ t → IsSourceOf t (Some place.place) None p.ready.source
    source_of t turned =
        subst (λ (q : Option Place). IsSourceOf t q None p.ready.source) place.is
        (subst (λ (q : Option (Vec Extent Global)). IsSourceOf t prep.spaces.object q p.ready.source) place.copied (subst (λ (u : Turned). IsSourceOf u prep.spaces.object prep.spaces.copied p.ready.source) turned prep.ready.source))

    made_of : (t : Turned) → p.change.object ≡ t → IsNewPiece t (Some place.place) prep.ready.early.made
    made_of t turned = subst (λ (q : Option Place). IsNewPiece t q prep.ready.early.made) place.is (subst (λ (u : Turned). IsNewPiece u prep.spaces.object prep.ready.early.made) turned prep.ready.early.makes)

    -- The bytes of a file are given, and a directory's are its piece.
    abbrev pub IsItsSource : Arrival → Type 0
    IsItsSource Arrival.Makes = (p.ready.source ≡ sources.Nothing) × (q : Piece) × (prep.ready.early.made ≡ q ∷ []) × (q.place.items ≡ place.place.extents.items)
    IsItsSource (Arrival.Saves words) = (p.ready.source ≡ sources.Bytes place.place.extents) × (prep.ready.early.made ≡ [])

    pub its_source : (b : Arrival) → (d : Option Draft) → p.change.object ≡ turns.Comes dir (entry_of form b name place.place.address) d → OwnsDraft (Layout.New m) nodes dir b name d → IsItsSource b × SaysOwn (Layout.New m) nodes dir b name prep.ready.early.made
    its_source Arrival.Makes d comes owns =
        let turned = comes ∙ ap (λ (f : Option Draft). turns.Comes dir (entry_of form Arrival.Makes name place.place.address) f) owns.1 in
        let made = made_of _ turned in (
          (source_of _ turned, made.0, made.1, made.2),
          subst (SaysOwn (Layout.New m) nodes dir Arrival.Makes name) (sym made.1)
              (subst (λ (k : Directory). IsSayable k × AreWritten made.0.bytes.items k × (length made.0.bytes.items ≡ size_of k)) owns.2 (made.3.sayable, made.3.bytes, made.3.length_is)),
        )
    its_source (Arrival.Saves words) d comes owns =
        let turned = comes ∙ ap (λ (f : Option Draft). turns.Comes dir (entry_of form (Arrival.Saves words) name place.place.address) f) owns in
        ((source_of _ turned, made_of _ turned), tt)

    pub from_where : IsItsSource a × SaysOwn (Layout.New m) nodes dir a name prep.ready.early.made
    from_where = its_source a change.own change.comes change.owns

    pub put : IsPutThere x own p.ready prep.ready.early.made
    put = by a from_where.0
      where
        by : (b : Arrival) → IsItsSource b → IsPutThere x own p.ready prep.ready.early.made
        by Arrival.Makes is = record {
          from = λ u e. absurd (let no : is_among (source_from sources.Nothing) u ≡ true = ap (λ (k : Source). is_among (source_from k) u) (sym is.0) ∙ e in cc);
          enough = subst IsSourceEnough (sym is.0) tt;
          place = inr (ap source_place is.0, ap (flat_map place_of) is.2 ∙ append-nil (place_of is.1) ∙ ap sectors_in is.3);
        }
        by (Arrival.Saves words) is = record {
          from = λ u e. absurd (let no : is_among (source_from (sources.Bytes place.place.extents)) u ≡ true = ap (λ (k : Source). is_among (source_from k) u) (sym is.0) ∙ e in cc);
          enough = subst IsSourceEnough (sym is.0) tt;
          place = inl (ap source_place is.0, ap (flat_map place_of) is.1);
        }

    pub lies : LiesBeside x prep.spaces prep.placed own
    lies = (its_spot prep.wants prep.are_wants still prep.spaces prep.placed).lies
