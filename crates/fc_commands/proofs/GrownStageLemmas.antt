-- A directory that grows by an entry, and those around it, can be told so, and have their places.
use Rattle.std.proofs.Common.{◌≡◌, ◌⊎◌, inl, inr, ⊎_elim, ℕ, ◌==◌, Bool, true, false, cond, not, List, [], ◌∷◌, ◌++◌, filter, refl, sym, ap, subst, ◌∙◌, Some}
use Rattle.std.specs.Prelude.{Contains, IsFalse, IsSome, is_some}
use Rattle.std.specs.FinMap.{get}
use Rattle.std.proofs.lemmas.List.Elements.{Contains-append_cases, Contains-append_left, Contains-append_right}
use Rattle.std.proofs.lemmas.List.Sorted.{Contains-permutation, IsPermutation-sym}
use Rattle.fc_names.specs.declared.name.NameForm.{NameForm}
use Rattle.fc_names.specs.declared.name.NameForm.TheVariants as forms
use Rattle.fc_dirs.specs.declared.Entry.{Entry}
use Rattle.fc_dirs.specs.Directory.{Directory, entries_of}
use Rattle.fc_dirs.specs.Entries.{has_name}
use Rattle.fc_drafts.specs.Draft.{CanAddress, CanHold, CanName}
use Rattle.fc_drafts.specs.Entries.{regrown}
use Rattle.fc_image.specs.Layout.{Layout, dir_form, sectors_at}
use Rattle.fc_image.specs.Sound.{AreSound}
use Rattle.fc_image.specs.Walk.{Listing, Object, object_size}
use Rattle.fc_changes.proofs.BasicLemmas.{clash}
use Rattle.fc_laws.specs.nodes.Edits.{Nodes}
use Rattle.fc_tree.specs.Agree.{HasForm}
use Rattle.fc_tree.specs.Nodes.{HoldObjects, number_of}
use Rattle.fc_tree.specs.Parts.{Parts}
use Rattle.fc_tree.proofs.MemberLemmas.{from_map, in_map, no_element}
use Rattle.fc_tree.proofs.SoundLemmas.{children_stored}
use Rattle.fc_tree.proofs.WalkedLemmas.{same_some}
use Rattle.fc_change.specs.declared.change.Regrowth.{Regrowth}
use Rattle.fc_change.specs.Directories.{Amends, AmendsIf, CanAmend, CanBe, CanTell, CanTellAround, Rewriting, around, is_holder, is_told}
use Rattle.fc_change.specs.Prepared.{HasPlace}
use Rattle.fc_commands.proofs.GrownAroundLemmas.{IsCutAround, cut_around, in_filtered, none_holds}
use Rattle.fc_commands.proofs.GrownToldLemmas as of
use Rattle.fc_commands.proofs.GrownToldLemmas.{num, num_is}
use Rattle.fc_commands.proofs.NodeLemmas as its
use Rattle.fc_laws.proofs.lemmas.nodes.OtherLemmas.{name_there}
use Rattle.std.proofs.lemmas.Bool.{true_from_ne_false as not_false}
use Rattle.fc_image.proofs.EntriesLemmas.{later as contains_later, cases as contains_cases}

-- ---- big directories

pub address_any : (form : NameForm) (len address : ℕ) (content : Directory) → form ≡ forms.Long → HasForm form len content → CanAddress content address
address_any form len address (Directory.Big dir) is has = tt
address_any form len address (Directory.Small dir) is has = absurd (subst (λ (f : NameForm). HasForm f len (Directory.Small dir)) is has)

pub name_any : (form : NameForm) (len : ℕ) (name : List ℕ) (content : Directory) → form ≡ forms.Long → HasForm form len content → CanName content name
name_any form len name (Directory.Big dir) is has = tt
name_any form len name (Directory.Small dir) is has = absurd (subst (λ (f : NameForm). HasForm f len (Directory.Small dir)) is has)

-- An entry that it can hold may have any address and length.
pub hold_any : (form : NameForm) (len address size : ℕ) (content : Directory) (e : Entry) → form ≡ forms.Long → HasForm form len content → CanHold content e → CanHold content (regrown e address size)
hold_any form len address size (Directory.Big dir) e is has can = can
hold_any form len address size (Directory.Small dir) e is has can = absurd (subst (λ (f : NameForm). HasForm f len (Directory.Small dir)) is has)

hold_new : (form : NameForm) (len : ℕ) (content : Directory) (e : Entry) → form ≡ forms.Long → HasForm form len content → e.last ≡ 0 → CanHold content e
hold_new form len (Directory.Big dir) e is has none = none
hold_new form len (Directory.Small dir) e is has none = absurd (subst (λ (f : NameForm). HasForm f len (Directory.Small dir)) is has)

module _ (layout : Layout) (nodes : Nodes) (listings : List Listing) (sound : AreSound layout listings) (held : HoldObjects nodes listings) (l : Listing) (listed : Contains listings l)
    (g : Regrowth) (number : number_of nodes l.object.path ≡ Some g.node) (fits : (k : Listing) → Contains listings k → HasForm (dir_form layout) k.object.entry.len k.content) (form : dir_form layout ≡ forms.Long) where
  abbrev numb : Listing → ℕ
  numb k = num layout nodes listings sound held l listed g number k

  -- a directory, by what is amended in it
  tell : (k : Listing) (at : Contains listings k) (r : Rewriting) → CanAmend (Some g) nodes (numb k) k.content → ((middle : Directory) → Amends (Some g) nodes (numb k) k.content middle → CanBe r middle) → CanTell (Some g) nodes (numb k) r
  tell k at r amended can =
      let n = num_is layout nodes listings sound held l listed g number k at in
      record {
        node = its.node nodes layout listings sound held k at (numb k) n;
        content = k.content;
        there = its.there nodes layout listings sound held k at (numb k) n;
        says = its.says nodes layout listings sound held k at (numb k) n;
        amended = amended;
        addressed = address_any (dir_form layout) k.object.entry.len _ k.content form (fits k at);
        can = can;
      }

  -- The one that holds it can have its entry amended,
  pub tell_holder : (k : Listing) → Contains listings k → Contains k.children l.object → CanTell (Some g) nodes (numb k) Rewriting.Stays
  tell_holder k at kid =
      tell k at Rewriting.Stays
      (λ holds. record {
        node = its.node nodes layout listings sound held l listed g.node number;
        there = its.there nodes layout listings sound held l listed g.node number;
        named = not_false (has_name (entries_of k.content) l.object.entry.name) (name_there (entries_of k.content) l.object.entry.name l.object.entry
            (subst (λ (es : List Entry). Contains es l.object.entry) (children_stored layout listings sound k at) (in_map (λ (p : Object). p.entry) k.children l.object kid)) refl);
        held = λ e can. hold_any (dir_form layout) k.object.entry.len g.address g.len k.content e form (fits k at) can;
      })
      (λ middle amends. tt)

  -- and those in it can be told its address.
  pub tell_kid : (k : Listing) → Contains listings k → is_holder nodes g (numb k) ≡ false → CanTell (Some g) nodes (numb k) Rewriting.Stays
  tell_kid k at none = tell k at Rewriting.Stays (λ holds. absurd (clash (is_holder nodes g (numb k)) holds none)) (λ middle amends. tt)

  -- It can itself get an entry.
  own_none : is_holder nodes g (numb l) ≡ false
  own_none =
      ap (is_holder nodes g) (same_some (numb l) g.node (sym (num_is layout nodes listings sound held l listed g number l listed) ∙ number)) ∙ of.not_its_own layout nodes listings sound held l listed g number

  pub tell_own : (e : Entry) → e.last ≡ 0 → IsFalse (has_name (entries_of l.content) e.name) → CanTell (Some g) nodes g.node (Rewriting.Enters e)
  tell_own e none absent =
      subst (λ (n : ℕ). CanTell (Some g) nodes n (Rewriting.Enters e)) (same_some (numb l) g.node (sym (num_is layout nodes listings sound held l listed g number l listed) ∙ number))
      (tell l listed (Rewriting.Enters e) (λ holds. absurd (clash (is_holder nodes g (numb l)) holds own_none))
      (λ middle amends. subst (CanBe (Rewriting.Enters e)) (sym (subst (λ (b : Bool). AmendsIf b nodes g l.content middle) own_none amends)) (
        name_any (dir_form layout) l.object.entry.len e.name l.content form (fits l listed),
        hold_new (dir_form layout) l.object.entry.len l.content e form (fits l listed) none,
        absent,
      )))

  -- ---- all around it

  cut : (tops kids left : List Listing) × IsCutAround listings l tops kids left
  cut = cut_around layout listings sound l listed

  abbrev stays : Bool
  stays = l.object.entry.address == g.address

  tell_about : (k : Listing) → Contains (cut.0 ++ cond stays [] cut.1) k → Contains listings k × CanTell (Some g) nodes (numb k) Rewriting.Stays
  tell_about k there = ⊎_elim (λ top. above cut.3.tops_are top) (λ kid. inside stays kid) (Contains-append_cases cut.0 (cond stays [] cut.1) k there)
    where
      above : ((l.object.path ≡ []) × (cut.0 ≡ [])) ⊎ ((h : Listing) × (cut.0 ≡ h ∷ []) × Contains listings h × Contains h.children l.object) → Contains cut.0 k
          → Contains listings k × CanTell (Some g) nodes (numb k) Rewriting.Stays
      above (inl root) top = absurd (no_element k (subst (λ (ks : List Listing). Contains ks k) root.1 top))
      above (inr (h, one, at, kid)) top =
          ⊎_elim (λ is. subst (λ (j : Listing). Contains listings j × CanTell (Some g) nodes (numb j) Rewriting.Stays) is (at, tell_holder h at kid)) (λ none. absurd (no_element k none))
          (contains_cases h k [] (subst (λ (ks : List Listing). Contains ks k) one top))

      inside : (b : Bool) → Contains (cond b [] cut.1) k → Contains listings k × CanTell (Some g) nodes (numb k) Rewriting.Stays
      inside true none = absurd (no_element k none)
      inside false kid =
          let at : Contains listings k =
          Contains-permutation (l ∷ (cut.0 ++ (cut.1 ++ cut.2))) listings k (IsPermutation-sym listings (l ∷ (cut.0 ++ (cut.1 ++ cut.2))) cut.3.all)
          (contains_later l k (cut.0 ++ (cut.1 ++ cut.2)) (Contains-append_right cut.0 (cut.1 ++ cut.2) k (Contains-append_left cut.1 cut.2 k kid))) in (
            at,
            tell_kid k at (of.holds_none layout nodes listings sound held l listed g number k at
                (λ same. absurd (none_holds layout listings nodes sound held l listed cut.0 cut.1 cut.2 cut.3 k (Contains-append_left cut.1 cut.2 k kid) same))),
          )

  module _ (told : List ℕ) where
    from_around : (q : ℕ × Rewriting) → Contains (around (Some g) nodes told) q → (k : Listing) × Contains (cut.0 ++ cond stays [] cut.1) k × ((let r : ℕ × Rewriting = (numb k, Rewriting.Stays) in r) ≡ q)
    from_around q there =
        let back = from_map (λ (k : Listing). let r : ℕ × Rewriting = (numb k, Rewriting.Stays) in r) (filter (λ (k : Listing). not (is_told told (numb k))) (cut.0 ++ cond stays [] cut.1)) q
        (subst (λ (qs : List (ℕ × Rewriting)). Contains qs q) (of.around_is layout nodes listings sound held l listed g number cut.0 cut.1 cut.2 cut.3 told) there) in
        (back.0, in_filtered (λ (k : Listing). not (is_told told (numb k))) (cut.0 ++ cond stays [] cut.1) back.0 back.1, back.2)

    -- All of them can be told.
    pub can_tell_around : CanTellAround nodes (Some g) told
    can_tell_around q there = let k = from_around q there in subst (λ (r : ℕ × Rewriting). CanTell (Some g) nodes r.0 r.1) k.2 (tell_about k.0 k.1).1

    -- They have their places.
    pub around_places : (h : Parts) → h.layout ≡ layout → h.nodes ≡ nodes → (q : ℕ × Rewriting) → Contains (around (Some g) nodes told) q → HasPlace h q.0
    around_places h at same q there =
        let k = from_around q there in
        subst (λ (r : ℕ × Rewriting). HasPlace h r.0) k.2 (place_of k.0 (tell_about k.0 k.1).0)
      where
        place_of : (k : Listing) → Contains listings k → HasPlace h (numb k)
        place_of k in_it =
            let n = num_is layout nodes listings sound held l listed g number k in_it in
            record {
              node = its.node nodes layout listings sound held k in_it (numb k) n;
              there = ap (λ (ns : Nodes). get ns (numb k)) same ∙ its.there nodes layout listings sound held k in_it (numb k) n;
              placed = subst (λ (x : Layout). IsSome (sectors_at x k.object.entry.address (object_size (dir_form x) k.object.entry))) (sym at) (ap is_some (its.placed nodes layout listings sound held k in_it (numb k) n));
            }
