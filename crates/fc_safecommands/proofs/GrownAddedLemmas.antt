-- An entry comes to a directory that grows, in the safe mode: the parts after it.
use Rattle.std.proofs.Common.{◌≡◌, ◌<◌, ◌≤◌, ◌==◌, ◌&&◌, ◌||◌, ◌⊎◌, inr, ⊎_elim, ℕ, zero, suc, Bool, true, false, not, List, [], ◌∷◌, ◌++◌, filter, length, map, refl, sym, ap, ap₂, subst, ◌∙◌, arith, eq-eqb, Option, Some, None}
use Rattle.std.specs.Prelude.{Contains, IsPermutation, nat_lt}
use Rattle.std.specs.FinMap.{get}
use Rattle.std.specs.List.{list_any}
use Rattle.std.specs.Option.{unwrap_or}
use Rattle.std.proofs.lemmas.Bool.{eqb-true, ne_eqb}
use Rattle.std.proofs.lemmas.List.Sorted.{list_any-IsPermutation}
use Rattle.fc_names.specs.Names.{is_same_path}
use Rattle.fc_alloc.specs.declared.owner.Owner.{Owner}
use Rattle.fc_newmap.specs.Map.{Map, is_used}
use Rattle.fc_image.specs.Edits.{IsAt}
use Rattle.fc_image.specs.Layout.{Layout, id_of}
use Rattle.fc_image.specs.Objects.{has_sectors, is_owner_of, objects_of}
use Rattle.fc_image.specs.Walk.{Listing, Object, is_directory_object}
use Rattle.fc_image.proofs.EntriesLemmas.{later as contains_later}
use Rattle.fc_image.proofs.HolesLemmas.{apart_at, apart_from}
use Rattle.fc_image.proofs.PathsLemmas.{itself}
use Rattle.fc_changes.proofs.BasicLemmas.{clash}
use Rattle.fc_laws.specs.nodes.Edits.{OwnersEdited, owners_with}
use Rattle.fc_laws.proofs.lemmas.agree.BeforeLemmas.{agreed_law}
use Rattle.fc_laws.proofs.lemmas.agree.KeptLemmas.{alone}
use Rattle.fc_objects.specs.Extents.{sectors_in}
use Rattle.fc_placing.proofs.LeavingLemmas.{any_owner, any_same}
use Rattle.fc_placing.specs.Leaving.{is_kept}
use Rattle.fc_plan.specs.declared.plan.Plan.{Plan}
use Rattle.fc_plan.specs.Applied.{IsTakenIn}
use Rattle.fc_plan.specs.Giving.{is_one_of}
use Rattle.fc_tree.specs.Counts.{address_in}
use Rattle.fc_tree.specs.Nodes.{number_of}
use Rattle.fc_tree.specs.Parts.{owner_of}
use Rattle.fc_tree.proofs.MemberLemmas.{contains_here, no_element}
use Rattle.fc_tree.proofs.SoundLemmas.{same_object}
use Rattle.fc_tree.proofs.WalkedLemmas.{listed_directory, same_some}
use Rattle.fc_edits.specs.Edit.{Amended, IsEdit}
use Rattle.fc_edits.specs.Growing.{regrown, up_of}
use Rattle.fc_edits.specs.GrownAddition.{grown_edit}
use Rattle.fc_edits.specs.NewPlaces.{GivesBack, LiesAgain, is_taken}
use Rattle.fc_edits.specs.Places.{Stays}
use Rattle.fc_image.specs.effects.Steady.{is_given_back}
use Rattle.fc_edits.proofs.lemmas.GrownAdditionLemmas.{grown_addition_law, with_it}
use Rattle.fc_writing.specs.declared.ready.Piece.{Piece}
use Rattle.fc_writing.specs.New.{IsTaken}
use Rattle.fc_change.specs.declared.change.Says.{Says}
use Rattle.fc_change.specs.declared.job.Growth.{Growth}
use Rattle.fc_change.specs.After.{AreOwnersAfter, nodes_after, owners_admitted}
use Rattle.fc_change.specs.declared.change.Regrowth.{Regrowth}
use Rattle.fc_commands.proofs.GrownAroundLemmas.{one_first}
use Rattle.fc_commands.proofs.GrownSaidLemmas.{AllSaid, IsSaid}
use Rattle.fc_drafts.specs.Draft.{directory_in}
use Rattle.fc_edits.specs.Addition.{edit}
use Rattle.fc_edits.proofs.lemmas.GrownMemberLemmas as members
use Rattle.fc_placing.proofs.CopyingLemmas.{dirs_same}
use Rattle.fc_safe.proofs.PlannedLemmas.{grows_out}
use Rattle.fc_safeedits.specs.SafeGrowth.{IsGrownSafely}
use Rattle.std.proofs.lemmas.List.Sorted.{Contains-permutation, IsPermutation-sym}
use Rattle.fc_commands.proofs.GrownOwnerLemmas.{IsOwned, owners_grown}
use Rattle.fc_commands.proofs.NodeLemmas as its_node
use Rattle.fc_safe.specs.FirstNeeds.{first_gone, moving_out, node_of}
use Rattle.fc_safe.specs.Staying.{remains}
use Rattle.fc_safelaws.specs.Relaid.{Reaches}
use Rattle.fc_safeedits.specs.Relocation.{is_moved}
use Rattle.fc_safeedits.specs.SafeChange.{MovedParts, moves_in}
use Rattle.fc_safeedits.specs.SafeSpace.{SafeSpaceLaw, takings_of}
use Rattle.fc_safeedits.specs.SafeGrownAddition.{GrownAddedParts}
use Rattle.fc_safecommands.proofs.GrownArrivalLemmas.{growing, h, job, leaves_one, leaving_is, number as number_is, sound as sound_of}
use Rattle.fc_safecommands.proofs.GrownArrivalStageLemmas.{at_node, first, number_then}
use Rattle.fc_safecommands.proofs.GrownChangeLemmas.{exactly}
use Rattle.fc_safecommands.proofs.GrownComesLemmas.{GrownRun, comes, e, into, o, own, p, tells}
use Rattle.fc_safecommands.proofs.GrownEditionLemmas.{c_add, children, ge, grows, it_comes, nodes_edited}
use Rattle.fc_safecommands.proofs.GrownImageLemmas as image_of
use Rattle.fc_safecommands.proofs.GrownLaidLemmas.{first as laid_first, IsStaying, at_address, grown, grown_new, is_grown, staying}
use Rattle.fc_safecommands.proofs.GrownObjectSpotLemmas.{IsMapThen, IsSpot}
use Rattle.fc_safecommands.proofs.GrownOldLemmas.{its_is, p', ready, tells_these, written}
use Rattle.fc_safecommands.proofs.GrownWaysLemmas as safely
use Rattle.fc_safecommands.proofs.GrownWaysLemmas.{its_sectors}
use Rattle.fc_safecommands.proofs.GrownSpaceLemmas.{unused}
use Rattle.fc_safecommands.proofs.GrownSpotLemmas as spots
use Rattle.fc_safecommands.proofs.GrownSpotLemmas.{d, grown_is, grower}
use Rattle.fc_safecommands.proofs.GrownStepLemmas as step_of
use Rattle.fc_safecommands.proofs.GrownStepLemmas.{shared}
use Rattle.fc_safecommands.proofs.GrownStirLemmas.{GrowingJob, IsChanged, leaving, long}

-- ---- the directory that grows, as it was

module _ (w : GrownRun) where
  abbrev pub x : GrowingJob
  x = growing w.a

  abbrev pub l : Listing
  l = w.a.spot.listing

  l_in : Contains (objects_of w.a.listings) w.a.spot.listing.object
  l_in = (listed_directory (Layout.New w.a.m) w.a.listings (sound_of w.a) w.a.spot.listing w.a.spot.listed).0

  pub l_dir : is_directory_object w.a.spot.listing.object ≡ true
  l_dir = (listed_directory (Layout.New w.a.m) w.a.listings (sound_of w.a) w.a.spot.listing w.a.spot.listed).1

  pub l_grown : is_grown (growing w.a) w.a.spot.listing.object ≡ true
  l_grown = eq-eqb (owner_of w.a.nodes (Layout.New w.a.m) l.object).node w.a.growth.node (ap (λ (q : Option ℕ). unwrap_or q 0) (number_is w.a))

  pub one : d (growing w.a) ≡ w.a.spot.listing.object
  one = grown_is x l.object l_in l_grown

  pub of : IsChanged (growing w.a) w.a.growth.node w.a.spot.listing.object
  of = subst (IsChanged x w.a.growth.node) one (grower x).2

  pub l_at : address_in w.a.nodes w.a.growth.node ≡ w.a.spot.listing.object.entry.address
  l_at = spots.address x ∙ ap (λ (q : Object). q.entry.address) one

  -- whoever is it has its number
  pub grown_number : (q : Object) (n : ℕ) → number_of w.a.nodes q.path ≡ Some n → is_grown (growing w.a) q ≡ true → n ≡ w.a.growth.node
  grown_number q n at e = sym (ap (λ (k : Option ℕ). unwrap_or k 0) at) ∙ eqb-true (owner_of w.a.nodes (Layout.New w.a.m) q).node w.a.growth.node e

  -- Nothing else leaves its identifier.
  pub leaves_grown : (q : Object) → is_one_of (leaving (growing w.a)) (owner_of w.a.nodes (Layout.New w.a.m) q).node ≡ true → is_grown (growing w.a) q ≡ true
  leaves_grown q e = let n = (owner_of w.a.nodes (Layout.New w.a.m) q).node in eq-eqb n w.a.growth.node (leaves_one w.a n (sym (leaving_is w.a n) ∙ e))

  pub stays_plain : (q : Object) → is_grown (growing w.a) q ≡ false → is_one_of (leaving (growing w.a)) (owner_of w.a.nodes (Layout.New w.a.m) q).node ≡ false
  stays_plain q plain = by (is_one_of (leaving x) (owner_of w.a.nodes (Layout.New w.a.m) q).node) refl
    where
      by : (b : Bool) → is_one_of (leaving x) (owner_of w.a.nodes (Layout.New w.a.m) q).node ≡ b → b ≡ false
      by false e = refl
      by true e = absurd (clash (is_grown x q) (leaves_grown q e) plain)

  pub remains_plain : (q : Object) → is_grown (growing w.a) q ≡ false → remains (leaving (growing w.a)) (id_of q.entry.address) (owner_of w.a.nodes (Layout.New w.a.m) q) ≡ true
  remains_plain q plain = ap₂ (λ (a b : Bool). a && not b) (eq-eqb (id_of q.entry.address) (id_of q.entry.address) refl) (stays_plain q plain)

  -- all the others
  pub cut : (stay : List Object) × IsPermutation (objects_of w.a.listings) (w.a.spot.listing.object ∷ stay)
  cut = one_first (objects_of w.a.listings) l.object l_in

  abbrev pub stay : List Object
  stay = cut.0

  pub stay_in : (q : Object) → Contains cut.0 q → Contains (objects_of w.a.listings) q
  stay_in q at = Contains-permutation (l.object ∷ cut.0) (objects_of w.a.listings) q (IsPermutation-sym (objects_of w.a.listings) (l.object ∷ cut.0) cut.1) (contains_later l.object q cut.0 at)

  pub stay_plain : (q : Object) → Contains cut.0 q → is_grown (growing w.a) q ≡ false
  stay_plain q at = by (is_grown x q) refl
    where
      by : (b : Bool) → is_grown x q ≡ b → b ≡ false
      by false e = refl
      by true e = absurd (
          let same : l.object ≡ q = sym one ∙ grown_is x q (stay_in q at) e in
          clash (is_same_path l.object.path q.path) (ap (λ (k : Object). is_same_path l.object.path k.path) (sym same) ∙ itself l.object.path)
          (alone (Layout.New w.a.m) w.a.listings l.object q cut.0 (sound_of w.a) cut.1 at))

  -- ---- what stays, by its owners

  own_part : Bool → ℕ → Bool
  own_part leaves k = (id_of w.a.spot.listing.object.entry.address == k) && not leaves

  stays_by : (k : ℕ) → list_any (remains (leaving (growing w.a)) k) w.a.owners
      ≡ (((id_of w.a.spot.listing.object.entry.address == k) && not (is_one_of (leaving (growing w.a)) w.a.growth.node)) || list_any (is_owner_of k) cut.0)
  stays_by k =
      list_any-IsPermutation (remains (leaving x) k) w.a.owners (map (owner_of w.a.nodes (Layout.New w.a.m)) (filter has_sectors (objects_of w.a.listings))) w.a.agreed.owned
      ∙ any_owner (remains (leaving x) k) (owner_of w.a.nodes (Layout.New w.a.m)) (objects_of w.a.listings)
      ∙ list_any-IsPermutation (λ (q : Object). has_sectors q && remains (leaving x) k (owner_of w.a.nodes (Layout.New w.a.m) q)) (objects_of w.a.listings) (l.object ∷ cut.0) cut.1
      ∙ ap₂ (λ (a b : Bool). a || b)
      (ap₂ (λ (a : Bool) (n : ℕ). a && ((id_of l.object.entry.address == k) && not (is_one_of (leaving x) n))) of.some of.own_node)
      (any_same (λ (q : Object). has_sectors q && remains (leaving x) k (owner_of w.a.nodes (Layout.New w.a.m) q)) (is_owner_of k) cut.0
      (λ q at. ap (λ (b : Bool). has_sectors q && ((id_of q.entry.address == k) && not b)) (stays_plain q (stay_plain q at)) ∙ ap (λ (b : Bool). has_sectors q && b) (and_true (id_of q.entry.address == k))))
    where
      and_true : (b : Bool) → (b && true) ≡ b
      and_true true = refl
      and_true false = refl

  -- ---- after it

  module _ (number : ℕ) (free : get w.a.nodes number ≡ None) (at_spot : IsSpot (growing w.a) w.s w.placed (o w)) (law : SafeSpaceLaw) (m' : Map) (taken : IsTaken w.a.m w.r m') (owners' : List Owner)
      (after : AreOwnersAfter (Layout.New m') w.a.nodes w.c (owners_admitted (Layout.New w.a.m) w.c.object number w.a.owners) owners') where
    abbrev pub moved : MovedParts
    moved = image_of.moved (growing w.a) w.s w.placed w.c (tells_these w) w.r w.ready m' taken law (nodes_after w.c number w.a.nodes) owners'

    pub same : m'.geometry ≡ w.a.m.geometry
    same = image_of.geometry x w.s w.placed w.c (tells_these w) w.r w.ready m' taken

    pub all_taken : (q : Plan) → Contains w.placed.plans q → IsTakenIn m' q
    all_taken = step_of.taken x w.s w.placed m' (image_of.done x w.s w.placed w.c (tells_these w) w.r w.ready m' taken) law

    pub map_then : IsMapThen (growing w.a) w.s w.placed m'
    map_then = record { geometry = same; taken = all_taken; others = (step_of.space x w.s w.placed m' (image_of.done x w.s w.placed w.c (tells_these w) w.r w.ready m' taken) law).others }

    pub lies_now : IsAt (Layout.New m') (o w)
    lies_now = at_spot.at m' map_then

    abbrev ss : List ℕ
    ss = sectors_in (p' w).extents.items

    pub ss_is : sectors_in (p' w).extents.items ≡ its_sectors (growing w.a) w.s w.placed
    ss_is = its_is w

    -- ---- its owners

    abbrev up : ℕ
    up = up_of (ge w number).holder

    is_owned : IsOwned (Layout.New w.a.m) w.a.nodes w.a.owners w.a.listings w.a.spot.listing.object cut.0 (up_of (ge w number).holder) (p w).directory.node
    is_owned = record { sound = sound_of w.a; held = w.a.agreed.walked.held; owned = w.a.agreed.owned; above = (ge w number).above; number = number_then w.a w.s w.placed; others = cut.1; some = of.some }

    new_owners : OwnersEdited w.a.owners owners' (owners_with (Layout.New w.a.m) (up_of (ge w number).holder) (p w).directory.node w.a.spot.listing.object)
        (owners_with (Layout.New m') (up_of (ge w number).holder) (p w).directory.node (safely.placed_in (growing w.a) w.s w.placed w.a.spot.listing.object of l_at l_dir (grown (growing w.a) w.s w.placed)) ++ owners_with (Layout.New m') (p w).directory.node number (o w))
    new_owners =
        let n = its_node.node w.a.nodes (Layout.New w.a.m) w.a.listings (sound_of w.a) w.a.agreed.walked.held l w.a.spot.listed (p w).directory.node (number_then w.a w.s w.placed) in
        owners_grown w.a.m m' w.a.nodes w.a.owners w.a.listings l.object cut.0 up (p w).directory is_owned same (grown x w.s w.placed) n
        (its_node.there w.a.nodes (Layout.New w.a.m) w.a.listings (sound_of w.a) w.a.agreed.walked.held l w.a.spot.listed (p w).directory.node (number_then w.a w.s w.placed))
        (same_some n.holder up
        (sym (w.a.agreed.walked.held.each l.object (its_node.among w.a.nodes (Layout.New w.a.m) w.a.listings (sound_of w.a) w.a.agreed.walked.held l w.a.spot.listed (p w).directory.node (number_then w.a w.s w.placed))).at_holder ∙ (ge w number).above))
        refl number (o w) free lies_now (safely.at_then x w.s w.placed l.object of l_at l_dir m' same all_taken (grown x w.s w.placed) refl) (safely.has_some x w.s w.placed l.object of l_at l_dir m' same all_taken) w.c owners' (own w) (tells w).grown (comes w) after

    pub owners_edited : OwnersEdited w.a.owners owners' (owners_with (Layout.New w.a.m) (up_of (ge w number).holder) (p w).directory.node w.a.spot.listing.object)
        (owners_with (Layout.New m') (up_of (ge w number).holder) (p w).directory.node (safely.placed_in (growing w.a) w.s w.placed w.a.spot.listing.object of l_at l_dir (sectors_in (p' w).extents.items)) ++ owners_with (Layout.New m') (p w).directory.node number (o w))
    owners_edited =
        subst (λ (ws : List Owner). OwnersEdited w.a.owners owners' (owners_with (Layout.New w.a.m) up (p w).directory.node l.object) (ws ++ owners_with (Layout.New m') (p w).directory.node number (o w)))
        (sym (safely.owner_same x w.s w.placed l.object of l_at l_dir m' same all_taken up (p w).directory.node ss ss_is)) new_owners

    -- ---- what goes back

    anew_owns : (k : ℕ) → is_used w.a.m k ≡ true → is_owner_of k (safely.placed_in (growing w.a) w.s w.placed w.a.spot.listing.object of l_at l_dir (sectors_in (p' w).extents.items))
        ≡ ((id_of w.a.spot.listing.object.entry.address == k) && not (is_one_of (leaving (growing w.a)) w.a.growth.node))
    anew_owns k has =
        ap (λ (n : ℕ). nat_lt 0 n && (id_of (p w).directory.address == k)) (ap (λ (ts : List ℕ). length ts) ss_is ∙ safely.as_many x w.s w.placed l.object of l_at l_dir m' same all_taken)
        ∙ ap (λ (b : Bool). b && (id_of (p w).directory.address == k)) (safely.has_some x w.s w.placed l.object of l_at l_dir m' same all_taken)
        ∙ by (moving_out w.a.m (h w.a) (Some w.a.growth)) refl
      where
        by : (q : Option Growth) → moving_out w.a.m (h w.a) (Some w.a.growth) ≡ q → (id_of (p w).directory.address == k) ≡ ((id_of l.object.entry.address == k) && not (is_one_of (leaving x) w.a.growth.node))
        by None f =
            let keeps : is_one_of (leaving x) w.a.growth.node ≡ false = leaving_is w.a w.a.growth.node ∙ ap (λ (q : Option Growth). is_one_of (node_of q) w.a.growth.node) f in
            ap (λ (a : ℕ). id_of a == k) (at_address x w.s w.placed l.object of l_at None f) ∙ sym (ap (λ (b : Bool). (id_of l.object.entry.address == k) && not b) keeps ∙ and_true (id_of l.object.entry.address == k))
          where
            and_true : (b : Bool) → (b && true) ≡ b
            and_true true = refl
            and_true false = refl
        by (Some g) f =
            let fresh = unused x (laid_first x w.s w.placed).plan.id (grown_new x w.s w.placed g f) in
            let leaves : is_one_of (leaving x) w.a.growth.node ≡ true =
            leaving_is w.a w.a.growth.node ∙ ap (λ (q : Option Growth). is_one_of (node_of q) w.a.growth.node) f
            ∙ ap (λ (j : ℕ). (j == w.a.growth.node) || false) (sym (ap (λ (i : Growth). i.node) (same_some w.a.growth g (grows_out w.a.m (h w.a) (Some w.a.growth) g f)))) ∙ ap (λ (b : Bool). b || false) (eq-eqb w.a.growth.node w.a.growth.node refl) in
            ne_eqb (id_of (p w).directory.address) k (λ one'. clash (is_used w.a.m k) has (ap (is_used w.a.m) (sym one' ∙ sym (laid_first x w.s w.placed).id) ∙ fresh))
            ∙ sym (ap (λ (b : Bool). (id_of l.object.entry.address == k) && not b) leaves ∙ and_none (id_of l.object.entry.address == k))
          where
            and_none : (b : Bool) → (b && false) ≡ false
            and_none true = refl
            and_none false = refl

    pub gives : GivesBack w.a.m (takings_of w.placed.plans) (first_gone w.a.m (h w.a) (job w.a) w.a.wants) w.a.listings (grown_edit (c_add w number) (grows w number))
    gives = record {
      stay = cut.0;
      others = subst (λ (os : List Object). IsPermutation (objects_of w.a.listings) (os ++ cut.0)) (sym (ge w number).leave) cut.1;
      exactly = λ k has.
          exactly x w.s w.placed (safely.placed_in x w.s w.placed l.object of l_at l_dir ss ∷ (o w ∷ cut.0)) k has
          (ap₂ (λ (a b : Bool). a || (b || list_any (is_owner_of k) cut.0)) (anew_owns k has) (at_spot.goes_to k has) ∙ turned _ (is_kept (shared x) k) _ ∙ ap (λ (b : Bool). is_kept (shared x) k || b) (sym (stays_by k)))
          ∙ ap (λ (os : List Object). is_given_back (objects_of w.a.listings) (os ++ cut.0) k || is_taken (takings_of w.placed.plans) k) (sym (ge w number).join);
    }
      where
        turned : (a b c : Bool) → (a || (b || c)) ≡ (b || (a || c))
        turned true true c = refl
        turned true false c = refl
        turned false b c = refl

    -- ---- what is told, and what stays

    pub edited : IsEdit w.a.nodes w.a.listings (grown_edit (c_add w number) (grows w number))
    edited = grown_addition_law.is_edit w.a.nodes (Layout.New w.a.m) w.a.listings (c_add w number) (grows w number) (record { sound = sound_of w.a; held = w.a.agreed.walked.held }) (it_comes w number free) refl (ge w number).grows

    abbrev pub All : List Amended → List Says → List Piece → Type 0
    All ams qs ps =
        AllSaid (Layout.New w.a.m) w.a.nodes w.a.listings (agreed_law.sound w.a.kind w.a.m w.a.nodes w.a.owners w.a.root w.a.listings w.a.agreed) w.a.agreed.walked.held w.a.spot.listing w.a.spot.listed (p' w) (number_then w.a w.s w.placed)
        w.a.agreed.walked.forms (directory_in (tells w).said.draft) (children w number) (o w) (into w) number (regrown (edit (c_add w number)) (grows w number)) ams qs ps

    abbrev pub Said : Amended → Says → Piece → Type 0
    Said am q n =
        IsSaid (Layout.New w.a.m) w.a.nodes w.a.listings (agreed_law.sound w.a.kind w.a.m w.a.nodes w.a.owners w.a.root w.a.listings w.a.agreed) w.a.agreed.walked.held w.a.spot.listing w.a.spot.listed (p' w) (number_then w.a w.s w.placed)
        w.a.agreed.walked.forms (directory_in (tells w).said.draft) (children w number) (o w) (into w) number (regrown (edit (c_add w number)) (grows w number)) am q n

    said_at : (ams : List Amended) (qs : List Says) (ps : List Piece) → All ams qs ps → (am : Amended) → Contains ams am → (q : Says) × Contains qs q × (n : Piece) × Said am q n
    said_at [] qs ps all am at = absurd (no_element am at)
    said_at (b ∷ ams) [] ps all am at = absurd all
    said_at (b ∷ ams) (q ∷ qs) [] all am at = absurd all
    said_at (b ∷ ams) (q ∷ qs) (n ∷ ps) all am (zero, low, f) = (q, contains_here q qs, n, subst (λ (c : Amended). Said c q n) f all.0)
    said_at (b ∷ ams) (q ∷ qs) (n ∷ ps) all am (suc i, low, f) = let r = said_at ams qs ps all.1 am (i, omega (arith, low), f) in (r.0, contains_later q r.0 qs r.1, r.2, r.3)

    pub it_says : (am : Amended) → Contains (grown_edit (c_add w number) (grows w number)).amended am → (q : Says) × Contains w.c.says.items q × (n : Piece) × Said am q n
    it_says am at =
        let s = said_at (ge w number).said ((tells w).said ∷ (tells w).others) ((ready w).own ∷ (ready w).pieces) (ge w number).all am ((ge w number).among am at) in
        (s.0, subst (λ (qs : List Says). Contains qs s.0) (sym (tells w).says) s.1, s.2, s.3)

    -- A directory of the edit is told something.
    pub told_by : (am : Amended) → Contains (grown_edit (c_add w number) (grows w number)).amended am
        → (q : Says) × (at : Contains w.c.says.items q) × ((written w q at).0 ≡ am.was.object) × (am.content ≡ directory_in q.draft)
    told_by am at =
        let s = it_says am at in
        let k = written w s.0 s.1 in
        let among = (listed_directory (Layout.New w.a.m) w.a.listings (sound_of w.a) am.was s.3.found).0 in (
          s.0,
          s.1,
          same_object (Layout.New w.a.m) w.a.listings (sound_of w.a) k.0.path k.0 am.was.object k.2.is.there among (itself k.0.path)
              (dirs_alike k.0 am.was.object s.0.node k.2.is.number ((edited.amends am at).number_is ∙ ap (λ (n : ℕ). let q : Option ℕ = Some n in q) s.3.number_is)),
          s.3.content_is,
        )
      where
        dirs_alike : (a b : Object) (n : ℕ) → number_of w.a.nodes a.path ≡ Some n → number_of w.a.nodes b.path ≡ Some n → is_same_path a.path b.path ≡ true
        dirs_alike a b n at_a at_b = sym (dirs_same w.a.nodes a.path b.path n n at_a at_b) ∙ eq-eqb n n refl

    pub moves : (am : Amended) → Contains (grown_edit (c_add w number) (grows w number)).amended am → is_same_path w.a.spot.listing.object.path am.was.object.path ≡ false → is_moved (moves_in moved) am.was.object ≡ true
    moves am at other =
        let t = told_by am at in
        let k = written w t.0 t.1 in
        let plain : is_grown x k.0 ≡ false = not_it k.0 k.2.is.there (λ same'. clash (is_same_path l.object.path am.was.object.path) (ap (λ (q : Object). is_same_path l.object.path q.path) (sym t.2 ∙ sym same') ∙ itself l.object.path) other) in
        subst (λ (q : Object). is_moved (moves_in moved) q ≡ true) t.2 (image_of.dir_moves x w.s w.placed w.c (tells_these w) w.r w.ready m' taken law (nodes_after w.c number w.a.nodes) owners' k.0 k.1 plain)
      where
        not_it : (q : Object) → Contains (objects_of w.a.listings) q → (l.object ≡ q → ⊥) → is_grown x q ≡ false
        not_it q among other' = by (is_grown x q) refl
          where
            by : (b : Bool) → is_grown x q ≡ b → b ≡ false
            by false e = refl
            by true e = absurd (other' (sym one ∙ grown_is x q among e))

    pub plain_stays : (q : Object) → Stays w.a.nodes w.a.listings (grown_edit (c_add w number) (grows w number)) q → is_grown (growing w.a) q ≡ false
    plain_stays q s = by (is_grown x q) refl
      where
        by : (b : Bool) → is_grown x q ≡ b → b ≡ false
        by false e = refl
        by true e = absurd (
            members.stays_other (with_it w.a.nodes (Layout.New w.a.m) w.a.listings (c_add w number) (grows w number) (record { sound = sound_of w.a; held = w.a.agreed.walked.held }) (it_comes w number free) refl (ge w number).grows) q s
            (grown_number q s.number s.number_is e ∙ sym (at_node w.a w.s w.placed)))

    pub stays_where : (q : Object) → Stays w.a.nodes w.a.listings (grown_edit (c_add w number) (grows w number)) q → is_moved (moves_in moved) q ≡ true → has_sectors q ≡ true → (is_grown (growing w.a) q ≡ false) × IsStaying (growing w.a) q
    stays_where q s at some =
        let plain = plain_stays q s in
        (plain, staying x q s.among some (image_of.it_moves x w.s w.placed w.c (tells_these w) w.r w.ready m' taken law (nodes_after w.c number w.a.nodes) owners' q at) (remains_plain q plain))

    pub reaches : (q : Object) → Stays w.a.nodes w.a.listings (grown_edit (c_add w number) (grows w number)) q → is_moved (moves_in moved) q ≡ true → Reaches m' q
    reaches q s at = image_of.each_reaches x w.s w.placed w.c (tells_these w) w.r w.ready m' taken law (nodes_after w.c number w.a.nodes) owners' q s.among at (λ some. stays_where q s at some)

    pub lies : LiesAgain w.a.m w.a.nodes w.a.listings (edit (c_add w number)) (o w)
    lies = inr (at_spot.may, λ q stay' one'. apart_from (o w).sectors q.sectors (λ u e f. (let no = apart_at q.sectors (o w).sectors u (at_spot.lies.apart q stay'.among) f in cc)))

    -- These are they.
    abbrev pub added : GrownAddedParts moved
    added = record {
      c = c_add w number;
      growing = grows w number;
      comes = it_comes w number free;
      new = refl;
      its = refl;
      grows = (ge w number).grows;
      nodes_edited = nodes_edited w number free;
      owners_edited = owners_edited;
      gives = gives;
      some = some;
      lies_grown = lies_grown;
      moves = moves;
      elsewhere = at_spot.still;
      at = lies_now;
      lies = lies;
      other = at_spot.other;
      reaches = reaches;
    }
      where
        some : 0 < (p w).directory.len
        some = let least = long x in let len = ap (λ (g : Regrowth). g.len) (first w.a w.s w.placed).directory in omega (arith, least, len)

        lies_grown : IsGrownSafely moved (grows w number)
        lies_grown =
            safely.grows_safely x w.s w.placed l.object of l_at l_dir w.c (tells_these w) w.r w.ready m' taken law (nodes_after w.c number w.a.nodes) owners' (ge w number).again (ge w number).same (ge w number).holder (ge w number).others ss ss_is
