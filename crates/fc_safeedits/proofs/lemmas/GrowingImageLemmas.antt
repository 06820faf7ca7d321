-- The image after an edit in which a directory grows, in the safe mode.
use Rattle.std.proofs.Common.{◌≡◌, ◌<◌, ◌⊎◌, inl, inr, ⊎_elim, ℕ, Bool, true, false, List, [], ◌∷◌, ◌++◌, length, map, refl, sym, ap, ap₂, subst, ◌∙◌, arith, Option, None, Some}
use Rattle.std.specs.Prelude.{Contains, IsPermutation, Ok}
use Rattle.fc_names.specs.Names.{Path, is_same_path}
use Rattle.fc_names.specs.declared.name.NameForm.{NameForm}
use Rattle.fc_dirs.specs.declared.Entry.{Entry}
use Rattle.fc_dirs.specs.Directory.{directory_size}
use Rattle.fc_image.specs.Edits.{IsAt}
use Rattle.fc_image.specs.Layout.{Layout, dir_form}
use Rattle.fc_image.specs.Walk.{Object, object_bytes, reader_of, root_entry}
use Rattle.fc_image.specs.Objects.{objects_of}
use Rattle.fc_image.specs.Moves.{object_in, sectors_or_none}
use Rattle.fc_image.specs.effects.Steady.{AreWritten}
use Rattle.fc_image.proofs.EntriesLemmas.{later as contains_later, cases as contains_cases}
use Rattle.fc_image.proofs.LookupLemmas.{lookup_law}
use Rattle.fc_image.proofs.PathsLemmas.{itself}
use Rattle.fc_tree.specs.Agree.{HasForm}
use Rattle.fc_tree.specs.Nodes.{number_of}
use Rattle.fc_tree.proofs.MemberLemmas.{contains_here, in_map, no_element}
use Rattle.fc_tree.proofs.WalkedLemmas.{given, listed_directory, same_some}
use Rattle.fc_laws.specs.nodes.Laws.{IsHeld}
use Rattle.fc_laws.proofs.lemmas.nodes.OtherLemmas.{top_object, unlike}
use Rattle.fc_edits.specs.Edit.{Amended, Edit, TopStays, TopTurns}
use Rattle.fc_edits.specs.Growing.{EditGrowing, Growing, Holder, IsHeldBy, amended_by, amended_first, at_place, holding, regrown, told, top_by}
use Rattle.fc_edits.specs.NodesEdit.{NodesEdit}
use Rattle.fc_edits.specs.Places.{Stays}
use Rattle.fc_edits.proofs.lemmas.AroundLemmas as ar
use Rattle.fc_edits.proofs.lemmas.GrowingLawLemmas as law
use Rattle.fc_edits.proofs.lemmas.GrowingLemmas as growing
use Rattle.fc_edits.proofs.lemmas.GrownMemberLemmas as members
use Rattle.fc_edits.proofs.lemmas.NumberLemmas as n_
use Rattle.fc_safeedits.specs.Relocation.{Relocation, is_moved, laid, turned_in, unmoved}
use Rattle.fc_safeedits.specs.SafeChange.{SafeChange, moves_in}
use Rattle.fc_safeedits.specs.SafeImage.{IsUnamended, RootAnew, RootKept}
use Rattle.fc_safeedits.proofs.lemmas.LaidLemmas.{laid_still, laid_there}
use Rattle.fc_safeedits.proofs.lemmas.RelocatedLemmas.{turned_entry}
use Rattle.fc_safeedits.proofs.lemmas.SafeChangeLemmas.{form_same, says_there}
use Rattle.fc_safeedits.specs.SafeGrowth.{GrowsAnew, GrowsAtTop, GrowsAway, GrowsBelow, GrowsInside}
use Rattle.fc_safeedits.proofs.lemmas.GrowingPlacesLemmas as p_
use Rattle.fc_safeedits.proofs.lemmas.GrowingPlacesLemmas.{SafeGrowing}

-- an object in its place
in_place : (layout : Layout) (o : Object) → IsAt layout o → object_in layout o ≡ o
in_place layout o at = ap (λ (q : Option (List ℕ)). let p : Object = record o { sectors = sectors_or_none q } in p) at

-- A directory that says something else with growth, and did so without it.
pub record SaysThen (x : SafeChange) (q : SafeGrowing x.parts) (b : Amended) : Type 0 where
  pub amended : Amended
  pub there : Contains (p_.e' x.parts q).amended amended
  pub was : amended.was ≡ b.was
  pub number : amended.number ≡ b.number

module _ (x : SafeChange) (q : SafeGrowing x.parts) where
  abbrev g : Growing
  g = q.growing

  abbrev y : Layout
  y = Layout.New x.parts.m

  abbrev y' : Layout
  y' = Layout.New x.parts.m'

  abbrev anew : Object
  anew = at_place g g.o

  abbrev h : IsHeld x.parts.nodes y x.parts.listings
  h = p_.h x.parts q

  abbrev eg : EditGrowing
  eg = p_.eg x.parts q

  abbrev e' : Edit
  e' = p_.e' x.parts q

  abbrev move : Relocation
  move = p_.move x.parts q

  abbrev ne : NodesEdit
  ne = unmoved move

  -- ---- the directory says something else

  pub says_then : (b : Amended) → Contains q.edit.amended b → SaysThen x q b
  says_then b at = by g.holder q.grows.amended_is (λ a there. there)
    where
      by : (t : Option Holder) → IsPermutation (q.edit.amended ++ map (told q.edit) g.again) (amended_first t g.others)
          → ((a : Amended) → Contains (amended_by q.edit g t) a → Contains e'.amended a) → SaysThen x q b
      by None cut within = record { amended = b; there = within b (ar.still_amended eg None cut b at); was = refl; number = refl }
      by (Some hd) cut within =
          ⊎_elim
          (λ same. record {
            amended = holding q.edit g hd;
            there = within (holding q.edit g hd) (contains_here (holding q.edit g hd) g.others);
            was = ap (λ (a : Amended). a.was) same;
            number = ap (λ (a : Amended). a.number) same;
          })
          (λ later. record { amended = b; there = within b (contains_later (holding q.edit g hd) b g.others later); was = refl; number = refl })
          (contains_cases hd.amended b g.others (ar.still_amended eg (Some hd) cut b at))

  pub says_else : {A : Type 0} → IsUnamended e' g.o → A
  says_else other =
      let l = q.grows.listed in
      let t = says_then l.0 l.1 in
      absurd (other t.amended t.there (ap (λ k. k.object) t.was ∙ l.2))

  -- ---- places

  -- the object at its path is the directory
  pub the_one : (o : Object) → Contains (objects_of x.parts.listings) o → is_same_path g.o.path o.path ≡ true → g.o ≡ o
  the_one o at same =
      same_some g.o o
      (sym (lookup_law.object y x.parts.listings g.o.path g.o h.sound (growing.o_in eg) (itself g.o.path)) ∙ lookup_law.object y x.parts.listings g.o.path o h.sound at same)

  was_in : (a : Amended) → Contains e'.amended a → Contains (objects_of x.parts.listings) a.was.object
  was_in a at = (listed_directory y x.parts.listings h.sound a.was (n_.stay_in ne a.was (n_.was_in ne a at))).0

  -- it lies at its new place
  its_now : turned_in move g.o ≡ object_in y' (regrown q.edit g g.o)
  its_now = subst (λ (p : Object). laid x.parts.m' (moves_in x.parts) p ≡ object_in y' p) (sym (growing.its_turn eg)) (by q.lies_grown)
    where
      by : GrowsInside x.parts g ⊎ GrowsAnew x.parts g ⊎ GrowsAway x.parts g → laid x.parts.m' (moves_in x.parts) anew ≡ object_in y' anew
      by (inl i) = laid_there x.parts.m' (moves_in x.parts) anew (p_.its_moves x.parts q i.moves i.address)
      by (inr (inl a)) = laid_there x.parts.m' (moves_in x.parts) anew (p_.its_moves x.parts q a.moves a.address)
      by (inr (inr w)) = laid_still x.parts.m' (moves_in x.parts) anew (p_.its_still x.parts q w.is_new) ∙ sym (in_place y' anew w.at)

  -- what stays beside keeps its place in its identifier
  pub still_now : (o : Object) → is_same_path g.o.path o.path ≡ false → is_moved (moves_in x.parts) (q.edit.turn o) ≡ true → turned_in move o ≡ object_in y' (q.edit.turn o)
  still_now o other m = ap (laid x.parts.m' (moves_in x.parts)) (growing.other_turn eg o other) ∙ laid_there x.parts.m' (moves_in x.parts) (q.edit.turn o) m

  pub unlike_it : (o : Object) → Stays x.parts.nodes x.parts.listings e' o → is_same_path g.o.path o.path ≡ false
  unlike_it o s = unlike x.parts.nodes g.o.path o.path g.dir s.number q.grows.dir_is s.number_is (λ same. members.stays_other eg o s (sym same))

  -- the directories that say something else lie in identifiers that move, but for the one that grows
  module _ (moves : (a : Amended) → Contains e'.amended a → is_same_path g.o.path a.was.object.path ≡ false → is_moved (moves_in x.parts) (q.edit.turn a.was.object) ≡ true) where
    pub dir_now : (a : Amended) → Contains e'.amended a → turned_in move a.was.object ≡ object_in y' (regrown q.edit g a.was.object)
    dir_now a at = by (is_same_path g.o.path a.was.object.path) refl
      where
        by : (b : Bool) → is_same_path g.o.path a.was.object.path ≡ b → turned_in move a.was.object ≡ object_in y' (regrown q.edit g a.was.object)
        by true same = subst (λ (p : Object). turned_in move p ≡ object_in y' (regrown q.edit g p)) (the_one a.was.object (was_in a at) same) its_now
        by false other =
            still_now a.was.object other (moves a at other) ∙ sym (ap (object_in y') (growing.other_turn eg a.was.object other))

    module _ (there : (a : Amended) → Contains e'.amended a → AreWritten (object_bytes x.image' y' (object_in y' (regrown q.edit g a.was.object))) a.content) where
      pub dir_written : (a : Amended) → Contains e'.amended a → AreWritten (object_bytes x.image' y' (turned_in move a.was.object)) a.content
      dir_written a at = subst (λ (o : Object). AreWritten (object_bytes x.image' y' o) a.content) (sym (dir_now a at)) (there a at)

      pub dir_says : (a : Amended) → Contains e'.amended a → reader_of x.image' y' (turned_in move a.was.object) ≡ Ok a.content
      dir_says a at =
          let can = q.grows.says a at in
          says_there x (turned_in move a.was.object) a.content (object_bytes x.image' y' (turned_in move a.was.object))
          (record { form = subst (λ (z : Entry). HasForm (dir_form y) z.len a.content) (sym (turned_entry move a.was.object)) can.form; body = can.body }) (dir_written a at) refl

  -- ---- the root

  -- a directory below the root leaves that as it is
  root_stays : 0 < length g.o.path → TopStays e' x.parts.top
  root_stays below = by ((law.is_edit eg).top x.parts.top x.parts.top_in x.parts.top_path)
    where
      held_below : (t : Option Holder) → IsHeldBy g t → top_by t g.o q.edit.top_leave ≡ (0, x.parts.top) ∷ [] → ⊥
      held_below None at_top same = let long = ap (λ (s : Path). length s) at_top in omega (arith, below, long)
      held_below (Some hd) hs same =
          no_element (0, x.parts.top) (subst (λ (ps : List (ℕ × Object)). Contains ps (0, x.parts.top)) (sym same ∙ q.grows.none_leave) (contains_here (0, x.parts.top) []))

      by : TopStays e' x.parts.top ⊎ TopTurns e' x.parts.top → TopStays e' x.parts.top
      by (inl t) = t
      by (inr t) = absurd (held_below g.holder q.grows.held t.leaves)

  -- a root that grows has its new entry, and says something else
  root_anew : GrowsAtTop x g → RootAnew move x.r
  root_anew t = record {
    own = t.own;
    agreed = t.agreed;
    entry =
        (let rt = given y x.parts.listings h.sound in
        let its_top = top_object y x.parts.listings x.parts.nodes h.sound h.held g.o (growing.o_in eg) t.at_top in
        let one : x.parts.top ≡ g.o = top_object y x.parts.listings x.parts.nodes h.sound h.held x.parts.top x.parts.top_in x.parts.top_path ∙ sym its_top in
        ap (λ (p : Object). (e'.turn p).entry) one ∙ ap (λ (p : Object). p.entry) (growing.its_turn eg)
        ∙ ap (λ (z : Entry). let n : Entry = record z { address = g.address; len = g.len } in n) (ap (λ (p : Object). p.entry) its_top ∙ rt.1.entry)
        ∙ ap₂ root_entry (sym t.address) (sym (ap (λ (f : NameForm). directory_size f t.own.root_size) (form_same x.parts ∙ q.grows.form) ∙ t.len)));
    says =
        (let l = q.grows.listed in
        let n = says_then l.0 l.1 in
        let number : l.0.number ≡ 0 =
        same_some l.0.number 0 (sym (q.is_edit.amends l.0 l.1).number_is ∙ ap (number_of x.parts.nodes) (ap (λ (o : Object). o.path) l.2 ∙ t.at_top)) in
        subst (Contains (map (λ (a : Amended). a.number) e'.amended)) (n.number ∙ number) (in_map (λ (a : Amended). a.number) e'.amended n.amended n.there));
  }

  pub root_now : GrowsBelow x g ⊎ GrowsAtTop x g → RootKept move ⊎ RootAnew move x.r
  root_now (inl b) = inl (record { record_stays = b.record_stays; stays = root_stays b.below })
  root_now (inr t) = inr (root_anew t)
