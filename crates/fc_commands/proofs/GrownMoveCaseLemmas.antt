-- An edit by which one object leaves a directory and joins one that grows: the growth as a part of it, by what holds the grown directory. It is the
-- root, or held by a directory that is told nothing else, or by the one that loses the object.
use Rattle.fc_change.specs.Directories.{is_told}
use Rattle.fc_change.specs.declared.change.Regrowth.{Regrowth}
use Rattle.fc_change.specs.declared.change.Says.{Says}
use Rattle.fc_changes.proofs.BasicLemmas.{clash, holder_pushed}
use Rattle.fc_commands.proofs.GrownAroundLemmas.{IsCutAround, in_filtered, one_first}
use Rattle.fc_commands.proofs.GrownMoveEditLemmas.{AllReady, AllSaidNow, IsSaidNow, OneReady, become, both_said_now, is_free, other_path, plain_kid, stays}
use Rattle.fc_commands.proofs.GrownMovePartLemmas.{IsGrownMove, PlainMove, all_first, around_said, become_grown, enters_of, first_enters, first_joins, first_leaves, joins_of, kids_said, kids_told, leaves_of, no_flat, rest_is, said_can, skipped, told_of, told_were}
use Rattle.fc_commands.proofs.GrownMoveSaidLemmas.{anew, l, numb, numb_is}
use Rattle.fc_commands.proofs.GrownMoveWalkLemmas as walk
use Rattle.fc_commands.proofs.GrownMoveWantLemmas.{GrownRename}
use Rattle.fc_commands.proofs.GrownMoveWantLemmas as want
use Rattle.fc_commands.proofs.GrownNodeLemmas.{body_commute}
use Rattle.fc_commands.proofs.GrownSpaceLemmas.{growing_of}
use Rattle.fc_commands.proofs.MoveSaidLemmas.{last_first}
use Rattle.fc_dirs.specs.Directory.{entries_of}
use Rattle.fc_drafts.specs.Draft.{directory_in}
use Rattle.fc_edits.specs.Edit.{Amended, objects}
use Rattle.fc_edits.specs.Growing.{Holder, IsTold, Told, holding, regrown, told}
use Rattle.fc_edits.specs.NewNodes.{tell}
use Rattle.fc_image.proofs.EntriesLemmas.{cases as contains_cases, later as contains_later}
use Rattle.fc_image.specs.Layout.{Layout}
use Rattle.fc_image.specs.Walk.{Listing, Object}
use Rattle.fc_image.specs.effects.Steady.{regrown_entry}
use Rattle.fc_model.specs.Tree.{holder as holder_path}
use Rattle.fc_names.specs.Names.{Path, is_same_path}
use Rattle.fc_placing.proofs.CopyingLemmas.{dirs_same}
use Rattle.fc_tree.proofs.MemberLemmas.{contains_here, from_map, no_element}
use Rattle.fc_tree.proofs.WalkedLemmas.{child_path, same_some}
use Rattle.fc_tree.specs.Nodes.{body_in, number_of}
use Rattle.fc_writing.specs.declared.ready.Piece.{Piece}
use Rattle.std.proofs.Common.{Bool, List, None, Option, Some, [], ap, append_assoc, ap₂, cond, eq-eqb, false, filter, flat_map, inl, inr, map, refl, subst, sym, true, ℕ, ⊎_elim, ◌++◌, ◌∙◌, ◌∷◌, ◌≡◌, ◌⊎◌}
use Rattle.std.proofs.lemmas.List.{append-nil}
use Rattle.std.proofs.lemmas.List.Elements.{Contains-append_cases, Contains-append_left, Contains-append_right}
use Rattle.std.proofs.lemmas.List.Sorted.{Contains-permutation, IsPermutation-append_comm, IsPermutation-append_left, IsPermutation-cons, IsPermutation-middle, IsPermutation-refl, IsPermutation-sym, IsPermutation-trans}
use Rattle.std.specs.Prelude.{Contains, IsPermutation}

module _ (q : GrownRename) (x : PlainMove q) where
  abbrev g : Regrowth
  g = (want.grown q).0.directory

  abbrev t : Listing → Bool
  t = is_free q x.numbers

  -- the directories in it that are told nothing else, and all that are told nothing
  abbrev in_it : List Listing → List Listing
  in_it kids = filter (is_free q x.numbers) (cond (stays q) [] kids)

  abbrev behind : List Listing → List Listing → List Listing
  behind kids left = cond (stays q) (filter t kids ++ filter t left) (filter t left)

  parted : (kids left : List Listing) → (let ds : List Listing = in_it kids in ds) ++ behind kids left ≡ filter t kids ++ filter t left
  parted kids left = by (stays q)
    where
      by : (b : Bool) → filter t (cond b [] kids) ++ cond b (filter t kids ++ filter t left) (filter t left) ≡ filter t kids ++ filter t left
      by true = refl
      by false = refl

  kid_of : (kids : List Listing) (d : Listing) → Contains (filter (is_free q x.numbers) (cond (stays q) [] kids)) d → (stays q ≡ false) × Contains (filter t kids) d
  kid_of kids d at = by (stays q) refl at
    where
      by : (b : Bool) → stays q ≡ b → Contains (filter t (cond b [] kids)) d → (stays q ≡ false) × Contains (filter t kids) d
      by true e here = absurd (no_element d here)
      by false e here = (e, here)

  kept : (kids left : List Listing) (d : Listing) → Contains (behind kids left) d → ((stays q ≡ true) × Contains kids d) ⊎ Contains left d
  kept kids left d at = by (stays q) refl at
    where
      by : (b : Bool) → stays q ≡ b → Contains (cond b (filter t kids ++ filter t left) (filter t left)) d → ((stays q ≡ true) × Contains kids d) ⊎ Contains left d
      by true e here = ⊎_elim (λ kid. inl (e, in_filtered t kids d kid)) (λ other. inr (in_filtered t left d other)) (Contains-append_cases (filter t kids) (filter t left) d here)
      by false e here = inr (in_filtered t left d here)

  module _ (tops kids left : List Listing) (cut : IsCutAround q.listings q.seen.known.destination.listing tops kids left) where
    rest : IsPermutation x.edit.same (filter t tops ++ (filter t kids ++ filter t left))
    rest = rest_is q x tops kids left cut

    in_same : (d : Listing) → Contains (filter t tops ++ (filter t kids ++ filter t left)) d → Contains x.edit.same d
    in_same d at = Contains-permutation (filter t tops ++ (filter t kids ++ filter t left)) x.edit.same d (IsPermutation-sym x.edit.same (filter t tops ++ (filter t kids ++ filter t left)) rest) at

    kid_same : (d : Listing) → Contains (in_it kids) d → Contains x.edit.same d × (is_same_path q.seen.known.destination.listing.object.path d.object.path ≡ false)
    kid_same d at = (
      in_same d (Contains-append_right (filter t tops) (filter t kids ++ filter t left) d (Contains-append_left (filter t kids) (filter t left) d (kid_of kids d at).1)),
      other_path q tops kids left cut d (Contains-append_right tops (cond (stays q) [] kids) d (in_filtered t (cond (stays q) [] kids) d at)),
    )

    kid_is_told : (ss : List Says) (ps : List Piece) → AllReady q (in_it kids) ss ps → (u : Told) → Contains (kids_told q x (in_it kids) ss) u → IsTold q.nodes u
    kid_is_told ss ps ready u at =
        let r = told_of q x (in_it kids) ss ps ready u at in
        record {
          number_is = numb_is q u.was r.2.found ∙ ap (λ (v : Told). let y : Option ℕ = Some v.number in y) (sym r.3);
          entries = ap (λ (v : Told). entries_of v.content) r.3 ∙ r.2.plain (plain_kid q tops kids left cut u.was (in_filtered t (cond (stays q) [] kids) u.was r.4));
        }

    kid_told_by : (ss : List Says) (ps : List Piece) → AllReady q (in_it kids) ss ps → (u : Told) → Contains (kids_told q x (in_it kids) ss) u → (stays q ≡ false) × Contains kids u.was
    kid_told_by ss ps ready u at =
        let r = told_of q x (in_it kids) ss ps ready u at in let kid = kid_of kids u.was r.4 in (kid.0, in_filtered t kids u.was kid.1)

  -- a directory that is told another address alone
  kid_whose : (tops kids : List Listing) (ss : List Says) (ps : List Piece) → AllReady q (in_it kids) ss ps → (a : Amended) → Contains (map (told x.edit) (kids_told q x (in_it kids) ss)) a
      → Contains (tops ++ cond (stays q) [] kids) a.was
  kid_whose tops kids ss ps ready a at =
      let u = from_map (told x.edit) (kids_told q x (in_it kids) ss) a at in
      let r = told_of q x (in_it kids) ss ps ready u.0 u.1 in
      subst (λ (b : Amended). Contains (tops ++ cond (stays q) [] kids) b.was) u.2 (Contains-append_right tops (cond (stays q) [] kids) u.0.was (in_filtered t (cond (stays q) [] kids) u.0.was r.4))

  -- and one that the edit tells more
  more_whose : (tops kids : List Listing) (ss : List Says) (ps : List Piece) → AllReady q (in_it kids) ss ps → (bs : List Amended) → ((b : Amended) → Contains bs b → Contains (x.own ++ x.home) b) → (a : Amended)
      → Contains (x.first ∷ (map (told x.edit) (kids_told q x (in_it kids) ss) ++ bs)) a
      → ((b : Amended) × Contains (x.first ∷ (x.own ++ x.home)) b × (b.was ≡ a.was)) ⊎ Contains (tops ++ cond (stays q) [] kids) a.was
  more_whose tops kids ss ps ready bs in_more a at =
      ⊎_elim (λ is. inl (x.first, contains_here x.first (x.own ++ x.home), ap (λ (b : Amended). b.was) is))
      (λ later. ⊎_elim (λ kid. inr (kid_whose tops kids ss ps ready a kid)) (λ more. inl (a, contains_later x.first a (x.own ++ x.home) (in_more a more), refl))
      (Contains-append_cases (map (told x.edit) (kids_told q x (in_it kids) ss)) bs a later)) (contains_cases x.first a (map (told x.edit) (kids_told q x (in_it kids) ss) ++ bs) at)

  first_in : Contains x.edit.amended x.first
  first_in =
      Contains-permutation (x.first ∷ (x.own ++ x.home)) x.edit.amended x.first (IsPermutation-sym x.edit.amended (x.first ∷ (x.own ++ x.home)) x.is.amended_is) (contains_here x.first (x.own ++ x.home))

  -- ---- the root grows

  pub at_top : (kids left : List Listing) (ss : List Says) (ps : List Piece) (hs : List Says) (hps : List Piece) → IsCutAround q.listings q.seen.known.destination.listing [] kids left
      → q.seen.known.destination.listing.object.path ≡ [] → AllReady q (filter (is_free q x.numbers) (cond (stays q) [] kids)) ss ps → AllSaidNow q (become q x.edit) x.up x.home hs hps
      → IsGrownMove q x (x.s0 ∷ (ss ++ (x.os ++ hs))) (x.p0 ∷ (ps ++ (x.ops ++ hps)))
  at_top kids left ss ps hs hps cut top ready home_said =
      let again = kids_told q x (in_it kids) ss in
      let same = behind kids left in
      let ts = map (told x.edit) again in
      let others = x.first ∷ (ts ++ (x.own ++ x.home)) in
      let all : AllSaidNow q (become q x.edit) x.up others (x.s0 ∷ (ss ++ (x.os ++ hs))) (x.p0 ∷ (ps ++ (x.ops ++ hps))) = (
        x.first_said,
        both_said_now q (become q x.edit) x.up ts (x.own ++ x.home) ss (x.os ++ hs) ps (x.ops ++ hps) (kids_said q x (in_it kids) ss ps (kid_same [] kids left cut) ready)
            (both_said_now q (become q x.edit) x.up x.own x.home x.os hs x.ops hps x.own_said home_said),
      ) in
      record {
        tops = [];
        kids = kids;
        left = left;
        cut = cut;
        again = again;
        same = same;
        holder = None;
        others = others;
        order = others;
        above = ap (λ (p : Path). number_of q.nodes (holder_path p)) top;
        grows = record {
          form = walk.form q;
          dir_is = walk.number q;
          stays = x.is.stays;
          listed = (x.first, first_in, ap (λ (d : Listing). d.object) x.is.first_is);
          none_leave = x.is.none_leave;
          none_join = x.is.none_join;
          same_is = subst (λ (ds : List Listing). IsPermutation x.edit.same (ds ++ same)) (sym (told_were q x (in_it kids) ss ps ready))
              (subst (IsPermutation x.edit.same) (sym (parted kids left)) (rest [] kids left cut));
          told_is = kid_is_told [] kids left cut ss ps ready;
          amended_is = IsPermutation-trans (x.edit.amended ++ ts) ((x.first ∷ (x.own ++ x.home)) ++ ts) others (IsPermutation-append_left ts x.edit.amended (x.first ∷ (x.own ++ x.home)) x.is.amended_is)
              (IsPermutation-cons x.first ((x.own ++ x.home) ++ ts) (ts ++ (x.own ++ x.home)) (IsPermutation-append_comm (x.own ++ x.home) ts));
          held = top;
          says = λ a at. said_can q x others (x.s0 ∷ (ss ++ (x.os ++ hs))) (x.p0 ∷ (ps ++ (x.ops ++ hps))) all a at;
        };
        all = all;
        among = λ a at. at;
        back = λ a at. at;
        order_is = IsPermutation-refl others;
        retold = λ ns. refl;
        enters = ap₂ (λ (o : Object) (rs : List (ℕ × (ℕ × Object))). (0, (0, o)) ∷ rs) (become_grown q x) (first_enters q x again)
            ∙ ap (λ (n : ℕ). (0, (n, anew q)) ∷ (g.node, (x.number, x.moved)) ∷ []) (sym (same_some g.node 0 (sym (walk.number q) ∙ ap (number_of q.nodes) top)));
        leave = ap (λ (rs : List (ℕ × Object)). (l q).object ∷ objects rs) (first_leaves q x again);
        join = ap₂ (λ (o : Object) (rs : List (ℕ × Object)). o ∷ objects rs) (become_grown q x) (first_joins q x again);
        whose = λ a at. more_whose [] kids ss ps ready (x.own ++ x.home) (λ b there. there) a at;
        told_by = λ u at. inr (kid_told_by [] kids left cut ss ps ready u at);
        kept_by = kept kids left;
      }

  -- ---- below a directory that is told nothing else

  pub below : (h : Listing) (kids left : List Listing) (s : Says) (p : Piece) (ss : List Says) (ps : List Piece) (hs : List Says) (hps : List Piece)
      → IsCutAround q.listings q.seen.known.destination.listing (h ∷ []) kids left → Contains h.children q.seen.known.destination.listing.object → is_free q x.numbers h ≡ true → OneReady q h s p
      → AllReady q (filter (is_free q x.numbers) (cond (stays q) [] kids)) ss ps → AllSaidNow q (become q x.edit) x.up x.home hs hps
      → IsGrownMove q x (x.s0 ∷ ((s ∷ ss) ++ (x.os ++ hs))) (x.p0 ∷ ((p ∷ ps) ++ (x.ops ++ hps)))
  below h kids left s p ss ps hs hps cut kid free top ready home_said =
      let first : Told = record { was = h; number = numb q h; content = h.content } in
      let more = kids_told q x (in_it kids) ss in
      let again = first ∷ more in
      let same = behind kids left in
      let ts = map (told x.edit) more in
      let others = x.first ∷ (ts ++ (x.own ++ x.home)) in
      let parting = one_first h.children (l q).object kid in
      let hd : Holder = record { amended = told x.edit first; content = directory_in s.draft; kids = parting.0 } in
      let gr = growing_of (l q).object (want.grown q).0 again same (Some hd) others in
      let order = x.first ∷ (holding x.edit gr hd ∷ (ts ++ (x.own ++ x.home))) in
      let one : filter t (h ∷ []) ≡ h ∷ [] = ap (λ (b : Bool). let ds : List Listing = cond b (h ∷ []) [] in ds) free in
      let rest' : IsPermutation x.edit.same (h ∷ (filter t kids ++ filter t left)) = subst (λ (ds : List Listing). IsPermutation x.edit.same (ds ++ (filter t kids ++ filter t left))) one (rest (h ∷ []) kids left cut) in
      let there = Contains-permutation (h ∷ (filter t kids ++ filter t left)) x.edit.same h (IsPermutation-sym x.edit.same (h ∷ (filter t kids ++ filter t left)) rest') (contains_here h (filter t kids ++ filter t left)) in
      let shorter : is_same_path (l q).object.path h.object.path ≡ false = other_path q (h ∷ []) kids left cut h (contains_here h (cond (stays q) [] kids)) in
      let all : AllSaidNow q (become q x.edit) x.up order (x.s0 ∷ ((s ∷ ss) ++ (x.os ++ hs))) (x.p0 ∷ ((p ∷ ps) ++ (x.ops ++ hps))) = (
        x.first_said,
        (
          around_said q x (holding x.edit gr hd) s p top there shorter refl refl,
          both_said_now q (become q x.edit) x.up ts (x.own ++ x.home) ss (x.os ++ hs) ps (x.ops ++ hps) (kids_said q x (in_it kids) ss ps (kid_same (h ∷ []) kids left cut) ready)
              (both_said_now q (become q x.edit) x.up x.own x.home x.os hs x.ops hps x.own_said home_said),
        ),
      ) in
      let among : (a : Amended) → Contains (holding x.edit gr hd ∷ others) a → Contains order a = λ a at.
      ⊎_elim (λ is. contains_later x.first a (holding x.edit gr hd ∷ (ts ++ (x.own ++ x.home))) (subst (Contains (holding x.edit gr hd ∷ (ts ++ (x.own ++ x.home)))) is (contains_here (holding x.edit gr hd) (ts ++ (x.own ++ x.home)))))
      (λ other. ⊎_elim (λ is. subst (Contains order) is (contains_here x.first (holding x.edit gr hd ∷ (ts ++ (x.own ++ x.home)))))
      (λ later. contains_later x.first a (holding x.edit gr hd ∷ (ts ++ (x.own ++ x.home))) (contains_later (holding x.edit gr hd) a (ts ++ (x.own ++ x.home)) later))
      (contains_cases x.first a (ts ++ (x.own ++ x.home)) other)) (contains_cases (holding x.edit gr hd) a others at) in
      let path = child_path (Layout.New q.m) q.listings q.seen.sound h (l q).object top.found kid in
      let apart : numb q h ≡ x.first.number → ⊥ = λ e.
      clash (is_same_path (l q).object.path h.object.path)
      (sym (dirs_same q.nodes (l q).object.path h.object.path g.node (numb q h) (walk.number q) (numb_is q h top.found)) ∙ eq-eqb g.node (numb q h) (sym (e ∙ x.is.first_number))) shorter in
      record {
        tops = h ∷ [];
        kids = kids;
        left = left;
        cut = cut;
        again = again;
        same = same;
        holder = Some hd;
        others = others;
        order = order;
        above = ap (number_of q.nodes) (ap holder_path path ∙ holder_pushed h.object.path (l q).object.entry.name) ∙ numb_is q h top.found;
        grows = record {
          form = walk.form q;
          dir_is = walk.number q;
          stays = x.is.stays;
          listed = (x.first, first_in, ap (λ (d : Listing). d.object) x.is.first_is);
          none_leave = x.is.none_leave;
          none_join = x.is.none_join;
          same_is = subst (λ (ds : List Listing). IsPermutation x.edit.same (h ∷ (ds ++ same))) (sym (told_were q x (in_it kids) ss ps ready))
              (subst (λ (ds : List Listing). IsPermutation x.edit.same (h ∷ ds)) (sym (parted kids left)) rest');
          told_is = λ u at.
              ⊎_elim (λ is. subst (IsTold q.nodes) is (record { number_is = numb_is q h top.found; entries = refl }))
              (λ later. kid_is_told (h ∷ []) kids left cut ss ps ready u later) (contains_cases first u more at);
          amended_is = IsPermutation-trans (x.edit.amended ++ (told x.edit first ∷ ts)) ((x.first ∷ (x.own ++ x.home)) ++ (told x.edit first ∷ ts)) (told x.edit first ∷ others)
              (IsPermutation-append_left (told x.edit first ∷ ts) x.edit.amended (x.first ∷ (x.own ++ x.home)) x.is.amended_is)
              (IsPermutation-trans ((x.first ∷ (x.own ++ x.home)) ++ (told x.edit first ∷ ts)) (told x.edit first ∷ ((x.first ∷ (x.own ++ x.home)) ++ ts)) (told x.edit first ∷ others)
              (IsPermutation-middle (x.first ∷ (x.own ++ x.home)) (told x.edit first) ts)
              (IsPermutation-cons (told x.edit first) ((x.first ∷ (x.own ++ x.home)) ++ ts) others
              (IsPermutation-cons x.first ((x.own ++ x.home) ++ ts) (ts ++ (x.own ++ x.home)) (IsPermutation-append_comm (x.own ++ x.home) ts))));
          held = record { none_join = refl; kids = parting.1; entries = top.entries };
          says = λ a at. said_can q x order (x.s0 ∷ ((s ∷ ss) ++ (x.os ++ hs))) (x.p0 ∷ ((p ∷ ps) ++ (x.ops ++ hps))) all a (among a at);
        };
        all = all;
        among = among;
        back = λ a at.
            ⊎_elim (λ is. contains_later (holding x.edit gr hd) a others (subst (Contains others) is (contains_here x.first (ts ++ (x.own ++ x.home)))))
            (λ other. ⊎_elim (λ is. subst (Contains (holding x.edit gr hd ∷ others)) is (contains_here (holding x.edit gr hd) others))
            (λ later. contains_later (holding x.edit gr hd) a others (contains_later x.first a (ts ++ (x.own ++ x.home)) later))
            (contains_cases (holding x.edit gr hd) a (ts ++ (x.own ++ x.home)) other)) (contains_cases x.first a (holding x.edit gr hd ∷ (ts ++ (x.own ++ x.home))) at);
        order_is = IsPermutation-middle (holding x.edit gr hd ∷ []) x.first (ts ++ (x.own ++ x.home));
        retold = λ ns. ap (tell (ts ++ (x.own ++ x.home))) (body_commute (numb q h) x.first.number (body_in (directory_in s.draft)) (body_in x.first.content) ns apart);
        enters = ap (λ (rs : List (ℕ × Object)). map (λ (o : ℕ × Object). let r : ℕ × (ℕ × Object) = (0, o) in r) rs ++ ((numb q h, (g.node, regrown x.edit gr (l q).object)) ∷ flat_map (enters_of q x) others)) x.is.none_join
            ∙ ap₂ (λ (o : Object) (rs : List (ℕ × (ℕ × Object))). (numb q h, (g.node, o)) ∷ rs) (become_grown q x) (first_enters q x more);
        leave = ap (λ (rs : List (ℕ × Object)). objects (rs ++ ((g.node, (l q).object) ∷ flat_map (leaves_of q x) others))) x.is.none_leave ∙ ap (λ (rs : List (ℕ × Object)). (l q).object ∷ objects rs) (first_leaves q x more);
        join = ap (λ (rs : List (ℕ × Object)). objects (rs ++ ((g.node, regrown x.edit gr (l q).object) ∷ flat_map (joins_of q x) others))) x.is.none_join
            ∙ ap₂ (λ (o : Object) (rs : List (ℕ × Object)). o ∷ objects rs) (become_grown q x) (first_joins q x more);
        whose = λ a at.
            ⊎_elim (λ is. more_whose (h ∷ []) kids ss ps ready (x.own ++ x.home) (λ b there. there) a (subst (Contains others) is (contains_here x.first (ts ++ (x.own ++ x.home)))))
            (λ other. ⊎_elim (λ is. inr (subst (λ (b : Amended). Contains ((h ∷ []) ++ cond (stays q) [] kids) b.was) is (contains_here h (cond (stays q) [] kids))))
            (λ later. more_whose (h ∷ []) kids ss ps ready (x.own ++ x.home) (λ b there. there) a (contains_later x.first a (ts ++ (x.own ++ x.home)) later))
            (contains_cases (holding x.edit gr hd) a (ts ++ (x.own ++ x.home)) other)) (contains_cases x.first a (holding x.edit gr hd ∷ (ts ++ (x.own ++ x.home))) at);
        told_by = λ u at. ⊎_elim (λ is. inl (subst (λ (v : Told). Contains (h ∷ []) v.was) is (contains_here h []))) (λ later. inr (kid_told_by (h ∷ []) kids left cut ss ps ready u later)) (contains_cases first u more at);
        kept_by = kept kids left;
      }

  -- ---- below the directory that loses the object

  -- That is told to lose it, and says the new entry of the grown one too; a is what it would say without the growth.
  pub record HoldsBoth (a : Amended) (s : Says) (p : Piece) : Type 0 where
    pub home_is : x.home ≡ a ∷ []
    pub leaves : a.leave ≡ (x.number, x.gone) ∷ []
    pub first_none : x.first.leave ≡ []
    pub apart : (b : Amended) → Contains (x.first ∷ x.own) b → a.number ≡ b.number → ⊥
    pub listed : Contains q.listings a.was
    pub number_at : number_of q.nodes a.was.object.path ≡ Some a.number
    pub holds : Contains a.was.children q.seen.known.destination.listing.object
    pub keeps : Contains a.kids q.seen.known.destination.listing.object
    pub entries : entries_of (directory_in s.draft) ≡ map (regrown_entry a.was.object.path (Some (anew q))) (entries_of a.content)
    pub said : IsSaidNow q (become q x.edit) x.up (record a { content = directory_in s.draft }) s p

  pub by_home : (a : Amended) (s : Says) (p : Piece) (both : HoldsBoth a s p) (kids left : List Listing) (ss : List Says) (ps : List Piece) → IsCutAround q.listings q.seen.known.destination.listing (a.was ∷ []) kids left
      → AllReady q (filter (is_free q x.numbers) (cond (stays q) [] kids)) ss ps → IsGrownMove q x (x.s0 ∷ (ss ++ (x.os ++ s ∷ []))) (x.p0 ∷ (ps ++ (x.ops ++ p ∷ [])))
  by_home a s p both kids left ss ps cut ready =
      let again = kids_told q x (in_it kids) ss in
      let same = behind kids left in
      let ts = map (told x.edit) again in
      let others = x.first ∷ (ts ++ x.own) in
      let parting = one_first a.kids (l q).object both.keeps in
      let hd : Holder = record { amended = a; content = directory_in s.draft; kids = parting.0 } in
      let gr = growing_of (l q).object (want.grown q).0 again same (Some hd) others in
      let now' = holding x.edit gr hd in
      let order = others ++ now' ∷ [] in
      let home_in : Contains (x.first ∷ (x.own ++ x.home)) a = contains_later x.first a (x.own ++ x.home)
      (Contains-append_right x.own x.home a (subst (λ (bs : List Amended). Contains bs a) (sym both.home_is) (contains_here a []))) in
      let none : filter t (a.was ∷ []) ≡ [] = ap (λ (b : Bool). let ds : List Listing = cond b (a.was ∷ []) [] in ds) (all_first q x a home_in) in
      let rest' : IsPermutation x.edit.same (filter t kids ++ filter t left) = subst (λ (ds : List Listing). IsPermutation x.edit.same (ds ++ (filter t kids ++ filter t left))) none (rest (a.was ∷ []) kids left cut) in
      let its : IsSaidNow q (become q x.edit) x.up now' s p = record {
        found = both.said.found;
        number_at = both.said.number_at;
        number_is = both.said.number_is;
        content_is = both.said.content_is;
        says = both.said.says;
        can = both.said.can;
        place = both.said.place;
        bytes = both.said.bytes;
        long = both.said.long;
      } in
      let first_all : AllSaidNow q (become q x.edit) x.up others (x.s0 ∷ (ss ++ x.os)) (x.p0 ∷ (ps ++ x.ops)) = (
        x.first_said,
        both_said_now q (become q x.edit) x.up ts x.own ss x.os ps x.ops (kids_said q x (in_it kids) ss ps (kid_same (a.was ∷ []) kids left cut) ready) x.own_said,
      ) in
      let joined : AllSaidNow q (become q x.edit) x.up order ((x.s0 ∷ (ss ++ x.os)) ++ s ∷ []) ((x.p0 ∷ (ps ++ x.ops)) ++ p ∷ []) =
      both_said_now q (become q x.edit) x.up others (now' ∷ []) (x.s0 ∷ (ss ++ x.os)) (s ∷ []) (x.p0 ∷ (ps ++ x.ops)) (p ∷ []) first_all (its, tt) in
      let all : AllSaidNow q (become q x.edit) x.up order (x.s0 ∷ (ss ++ (x.os ++ s ∷ []))) (x.p0 ∷ (ps ++ (x.ops ++ p ∷ []))) =
      subst (λ (ys : List Says). AllSaidNow q (become q x.edit) x.up order (x.s0 ∷ ys) (x.p0 ∷ (ps ++ (x.ops ++ p ∷ [])))) (append_assoc ss x.os (s ∷ []))
      (subst (λ (ys : List Piece). AllSaidNow q (become q x.edit) x.up order (x.s0 ∷ ((ss ++ x.os) ++ s ∷ [])) (x.p0 ∷ ys)) (append_assoc ps x.ops (p ∷ [])) joined) in
      let among : (b : Amended) → Contains (now' ∷ others) b → Contains order b = λ b at.
      ⊎_elim (λ is. Contains-append_right others (now' ∷ []) b (subst (Contains (now' ∷ [])) is (contains_here now' []))) (λ other. Contains-append_left others (now' ∷ []) b other) (contains_cases now' b others at) in
      let told_a : is_told x.numbers (numb q a.was) ≡ true = x.is.are_told a home_in in
      let number_a : a.number ≡ numb q a.was = same_some a.number (numb q a.was) (sym both.number_at ∙ numb_is q a.was both.listed) in
      let apart : (b : Amended) → Contains others b → a.number ≡ b.number → ⊥ = λ b at.
      ⊎_elim (λ is. both.apart b (subst (Contains (x.first ∷ x.own)) is (contains_here x.first x.own)))
      (λ later. ⊎_elim
      (λ kid e.
      (let u = from_map (told x.edit) again b kid in
      let r = told_of q x (in_it kids) ss ps ready u.0 u.1 in
      let there = (kid_same (a.was ∷ []) kids left cut u.0.was r.4).0 in
      let number_u : b.number ≡ numb q u.0.was = ap (λ (c : Amended). c.number) (sym u.2) ∙ ap (λ (v : Told). v.number) r.3 in
      clash (is_told x.numbers (numb q a.was)) told_a (ap (is_told x.numbers) (sym number_a ∙ e ∙ number_u) ∙ x.is.untold u.0.was there)))
      (λ own. both.apart b (contains_later x.first b x.own own)) (Contains-append_cases ts x.own b later)) (contains_cases x.first b (ts ++ x.own) at) in
      let path = child_path (Layout.New q.m) q.listings q.seen.sound a.was (l q).object both.listed both.holds in
      let home_join : a.join ≡ [] = x.home_join a (subst (λ (bs : List Amended). Contains bs a) (sym both.home_is) (contains_here a [])) in
      let first_alone : IsPermutation x.edit.amended (a ∷ (x.first ∷ x.own)) =
      IsPermutation-trans x.edit.amended ((x.first ∷ x.own) ++ a ∷ []) (a ∷ (x.first ∷ x.own))
      (subst (λ (bs : List Amended). IsPermutation x.edit.amended (x.first ∷ (x.own ++ bs))) both.home_is x.is.amended_is)
      (subst (λ (bs : List Amended). IsPermutation ((x.first ∷ x.own) ++ a ∷ []) (a ∷ bs)) (append-nil (x.first ∷ x.own)) (IsPermutation-middle (x.first ∷ x.own) a [])) in
      record {
        tops = a.was ∷ [];
        kids = kids;
        left = left;
        cut = cut;
        again = again;
        same = same;
        holder = Some hd;
        others = others;
        order = order;
        above = ap (number_of q.nodes) (ap holder_path path ∙ holder_pushed a.was.object.path (l q).object.entry.name) ∙ both.number_at;
        grows = record {
          form = walk.form q;
          dir_is = walk.number q;
          stays = x.is.stays;
          listed = (x.first, first_in, ap (λ (d : Listing). d.object) x.is.first_is);
          none_leave = x.is.none_leave;
          none_join = x.is.none_join;
          same_is = subst (λ (ds : List Listing). IsPermutation x.edit.same (ds ++ same)) (sym (told_were q x (in_it kids) ss ps ready))
              (subst (IsPermutation x.edit.same) (sym (parted kids left)) rest');
          told_is = kid_is_told (a.was ∷ []) kids left cut ss ps ready;
          amended_is = IsPermutation-trans (x.edit.amended ++ ts) ((a ∷ (x.first ∷ x.own)) ++ ts) (a ∷ others) (IsPermutation-append_left ts x.edit.amended (a ∷ (x.first ∷ x.own)) first_alone)
              (IsPermutation-cons a ((x.first ∷ x.own) ++ ts) others (IsPermutation-cons x.first (x.own ++ ts) (ts ++ x.own) (IsPermutation-append_comm x.own ts)));
          held = record { none_join = home_join; kids = parting.1; entries = both.entries };
          says = λ b at. said_can q x order (x.s0 ∷ (ss ++ (x.os ++ s ∷ []))) (x.p0 ∷ (ps ++ (x.ops ++ p ∷ []))) all b (among b at);
        };
        all = all;
        among = among;
        back = λ b at.
            ⊎_elim (λ other. contains_later now' b others other)
            (λ last. ⊎_elim (λ is. subst (Contains (now' ∷ others)) is (contains_here now' others)) (λ none'. absurd (no_element b none')) (contains_cases now' b [] last)) (Contains-append_cases others (now' ∷ []) b at);
        order_is = IsPermutation-append_comm (now' ∷ []) others;
        retold = λ ns. last_first others now' ns apart;
        enters = ap (λ (rs : List (ℕ × Object)). map (λ (o : ℕ × Object). let r : ℕ × (ℕ × Object) = (0, o) in r) rs ++ flat_map (enters_of q x) (now' ∷ others)) x.is.none_join
            ∙ ap₂ (λ (o : Object) (js : List (ℕ × Object)). map (λ (y : ℕ × Object). let r : ℕ × (ℕ × Object) = (a.number, y) in r) ((g.node, o) ∷ js) ++ flat_map (enters_of q x) others) (become_grown q x) home_join
            ∙ ap (λ (rs : List (ℕ × (ℕ × Object))). (a.number, (g.node, anew q)) ∷ rs)
            (skipped q x (enters_of q x) again x.own (λ u. refl)
            ∙ ap₂ (λ (b c : List (ℕ × (ℕ × Object))). b ++ c) (ap (map (λ (o : ℕ × Object). let r : ℕ × (ℕ × Object) = (x.first.number, o) in r)) x.first_join ∙ ap (λ (n : ℕ). (n, (x.number, x.moved)) ∷ []) x.is.first_number)
            (no_flat (enters_of q x) x.own (λ b at. ap (map (λ (o : ℕ × Object). let r : ℕ × (ℕ × Object) = (b.number, o) in r)) (x.own_none b at).1)));
        leave = ap (λ (rs : List (ℕ × Object)). objects (rs ++ flat_map (leaves_of q x) (now' ∷ others))) x.is.none_leave
            ∙ ap₂ (λ (js rs : List (ℕ × Object)). (l q).object ∷ objects (js ++ rs)) both.leaves
            (skipped q x (leaves_of q x) again x.own (λ u. refl) ∙ ap₂ (λ (b c : List (ℕ × Object)). b ++ c) both.first_none (no_flat (leaves_of q x) x.own (λ b at. (x.own_none b at).0)));
        join = ap (λ (rs : List (ℕ × Object)). objects (rs ++ flat_map (joins_of q x) (now' ∷ others))) x.is.none_join
            ∙ ap₂ (λ (o : Object) (js : List (ℕ × Object)). objects (((g.node, o) ∷ js) ++ flat_map (joins_of q x) others)) (become_grown q x) home_join
            ∙ ap (λ (rs : List (ℕ × Object)). anew q ∷ objects rs)
            (skipped q x (joins_of q x) again x.own (λ u. refl) ∙ ap₂ (λ (b c : List (ℕ × Object)). b ++ c) x.first_join (no_flat (joins_of q x) x.own (λ b at. (x.own_none b at).1)));
        whose = λ b at.
            ⊎_elim (λ other. more_whose (a.was ∷ []) kids ss ps ready x.own (λ c there. Contains-append_left x.own x.home c there) b other)
            (λ last. ⊎_elim (λ is. inl (a, home_in, ap (λ (c : Amended). c.was) is)) (λ none'. absurd (no_element b none')) (contains_cases now' b [] last)) (Contains-append_cases others (now' ∷ []) b at);
        told_by = λ u at. inr (kid_told_by (a.was ∷ []) kids left cut ss ps ready u at);
        kept_by = kept kids left;
      }
