-- `rename` that copies its file on images with new maps, by the laws of outcomes.
use Rattle.std.proofs.Common.{◌≡◌, ◌<◌, inl, inr, ⊎_elim, ℕ, ◌*◌, Bool, true, false, cond, ◌||◌, List, [], ◌∷◌, refl, sym, ap, ap₂, subst, ◌∙◌, Option, Some, None}
use Rattle.std.specs.Prelude.{Contains, IfSome, IsSomeAnd, nat_lt, ◌≤◌}
use Rattle.std.specs.Option.{option_map_or}
use Rattle.std.proofs.lemmas.Bool.{lt-ltb, false_from_ne_true as unless}
use Rattle.fc_names.specs.Names.{Path, is_same_path}
use Rattle.fc_names.specs.declared.name.NameForm.{NameForm}
use Rattle.fc_record.specs.declared.Geometry.{Geometry}
use Rattle.fc_newmap.specs.Map.{bits_in, hole_runs, id_runs, is_used}
use Rattle.fc_model.specs.Command.{Command}
use Rattle.fc_model.specs.Tree.{holder, last_name}
use Rattle.fc_dirs.specs.declared.Entry.{Entry}
use Rattle.fc_dirs.specs.Directory.{directory_size, entries_of}
use Rattle.fc_image.specs.Layout.{Layout, bytes_in, dir_form, id_of, sector_bytes, sectors_at}
use Rattle.fc_image.specs.Walk.{Listing, Object, is_directory_object, object_bytes, object_size}
use Rattle.fc_image.specs.Objects.{is_owned, object_at, objects_of}
use Rattle.fc_image.specs.Opening.{Opened}
use Rattle.fc_image.specs.Commanded.{IsMoved, moved_path}
use Rattle.fc_image.specs.effects.Effect.{copies_file}
use Rattle.fc_image.specs.effects.Placed.{GrowthPlacedIn, NewObjectPlaced, StandsInNewSpace, file_low, made_object, object_parts}
use Rattle.fc_image.specs.effects.Sharing.{units}
use Rattle.fc_image.specs.effects.Short.{Growth, is_copied, moved_growth, new_length}
use Rattle.fc_image.specs.effects.Steady.{DirectorySteady, EntrySteady, IsRewritten, NamedStays, gets_parent, has_new_holder, is_moved_by, named_entry, with_made}
use Rattle.fc_image.proofs.CommandLemmas.{command_law}
use Rattle.fc_image.proofs.LookupLemmas.{lookup_law}
use Rattle.fc_image.proofs.PathsLemmas.{is_at, itself}
use Rattle.fc_image.proofs.RenameLemmas.{last_pushed, moved_itself}
use Rattle.fc_plan.proofs.Units.{units_some}
use Rattle.fc_tree.specs.Nodes.{number_of}
use Rattle.fc_tree.proofs.MemberLemmas.{contains_here, many_permuted, no_element}
use Rattle.fc_tree.proofs.WalkedLemmas.{listed_directory}
use Rattle.fc_changes.proofs.BasicLemmas.{clash, map_or_none}
use Rattle.fc_changes.proofs.ChangeLemmas.{a_sector}
use Rattle.fc_changes.proofs.DirectoriesLemmas.{entries_now, moved_none, no_new_holder}
use Rattle.fc_changes.proofs.MadeLemmas.{file_low_small, stands_new}
use Rattle.fc_changes.proofs.OutsideLemmas.{object_owns}
use Rattle.fc_changes.proofs.PlacedLemmas.{high, id_is, same_bits, same_left, unused}
use Rattle.fc_changes.proofs.SpaceLemmas.{untaken_is}
use Rattle.fc_laws.specs.nodes.Laws.{IsHeld}
use Rattle.fc_laws.specs.agree.Agreed.{parts_with}
use Rattle.fc_laws.proofs.lemmas.agree.BeforeLemmas.{new_shape}
use Rattle.fc_laws.proofs.lemmas.nodes.OtherLemmas.{unlike}
use Rattle.fc_edits.specs.Copying.{Copying, NewCopying, copied, edit, from_it, new_path, to_it}
use Rattle.fc_edits.specs.Edit.{Amended, leaving, numbers, now}
use Rattle.fc_edits.specs.NewPlaces.{is_taken}
use Rattle.fc_edits.specs.NodesEdit.{NodesEdit}
use Rattle.fc_edits.specs.PartsEdit.{NewPartsEdit, PartsEdit}
use Rattle.fc_edits.specs.Placing.{takings_of}
use Rattle.fc_edits.proofs.lemmas.AgreeLemmas as ag
use Rattle.fc_edits.proofs.lemmas.CopyingLemmas as memory
use Rattle.fc_edits.proofs.lemmas.ListLemmas.{two_apart}
use Rattle.fc_edits.proofs.lemmas.NewAgreeLemmas as na
use Rattle.fc_edits.proofs.lemmas.NumberLemmas as n_
use Rattle.fc_edits.proofs.lemmas.NumberLemmas.{few_listings}
use Rattle.fc_edits.proofs.lemmas.OwnedLemmas.{joins_found}
use Rattle.fc_edits.proofs.lemmas.ShapeLemmas.{not_own, of_one, only}
use Rattle.fc_outcomes.specs.Copying.{CopyingLaw, CopyingWritten, new_view}
use Rattle.fc_outcomes.specs.NewImage as new
use Rattle.fc_outcomes.specs.NewImage.{IsBelowRoot, NewImageEdit, Outcome}
use Rattle.fc_outcomes.specs.Puts.{ArePutsOf, IsDirectoryPut, Put}
use Rattle.fc_outcomes.specs.Written.{MovesPaths}
use Rattle.fc_outcomes.proofs.lemmas.AddedLemmas.{taken_is, untaken_one}
use Rattle.fc_outcomes.proofs.lemmas.CopiedMayLemmas as may
use Rattle.fc_outcomes.proofs.lemmas.CopiedPathLemmas as path
use Rattle.fc_outcomes.proofs.lemmas.NewImageLemmas as new_image
use Rattle.fc_outcomes.proofs.lemmas.PutLemmas.{directory_bytes}
use Rattle.fc_outcomes.proofs.lemmas.RenamePathLemmas.{after_same, edited_by, kept_name, named_rename, other_of, turned_other}
use Rattle.fc_outcomes.proofs.lemmas.SteadyLemmas.{holder_still, unnamed}
use Rattle.fc_outcomes.proofs.lemmas.WordLemmas.{same_length}
use Rattle.fc_image.proofs.EntriesLemmas.{later as contains_later, cases as contains_cases}

module _ (x : NewCopying) (from to : Path) (k_bytes l_bytes stored image image' : List ℕ) (w : CopyingWritten x from to k_bytes l_bytes stored image image') where
  abbrev c : Copying
  c = x.c

  abbrev o : Object
  o = copied x.c x.c.o

  abbrev y : Layout
  y = Layout.New x.m

  abbrev y' : Layout
  y' = Layout.New x.m'

  abbrev v : Opened
  v = new_view x

  abbrev command : Command
  command = Command.Rename from to

  abbrev parts : NewPartsEdit
  parts = memory.new_parts x

  abbrev mem : PartsEdit
  mem = na.held_edit parts

  abbrev ne : NodesEdit
  ne = ag.ne mem

  pub h : IsHeld x.nodes y x.listings
  h = memory.new_held x

  form : dir_form y' ≡ dir_form y
  form = (na.walk_fits parts).form

  size : sector_bytes y' ≡ sector_bytes y
  size i = (x.geometry i).sector

  copy_is : o ≡ record { path = new_path c; entry = record c.o.entry { name = c.name; address = c.address }; sectors = c.sectors }
  copy_is = memory.is_copy c

  k_in : Contains x.listings c.k
  k_in = memory.k_in x.nodes y x.listings c h x.copying

  l_in : Contains x.listings c.l
  l_in = memory.l_in x.nodes y x.listings c h x.copying

  kid : Contains c.k.children c.o
  kid = memory.kid_in x.nodes y x.listings c h x.copying

  among : Contains (objects_of x.listings) c.o
  among = memory.among x.nodes y x.listings c h x.copying

  dir_stays : (k : Listing) → Contains x.listings k → copied c k.object ≡ k.object
  dir_stays k at = memory.dir_stays x.nodes y x.listings c h x.copying k at

  -- ---- paths

  dir_other : (k : Listing) → Contains x.listings k → is_same_path c.o.path k.object.path ≡ false
  dir_other k at = path.dir_other x.nodes y x.listings c h (memory.copies x.nodes y x.listings c x.copying) k at

  its_path : (p : Object) → Contains (objects_of x.listings) p → is_same_path c.o.path p.path ≡ false → moved_path c.o.path (new_path c) p.path ≡ p.path
  its_path p at other = path.its_path x.nodes y x.listings c h (memory.copies x.nodes y x.listings c x.copying) p at other

  apart : is_same_path c.k.object.path c.l.object.path ≡ false
  apart = unless (is_same_path c.k.object.path c.l.object.path) (λ same.
      let t : Listing → Bool = λ (d : Listing). is_at c.k.object.path d.object in
      two_apart t (c.k ∷ []) (c.l ∷ c.rest) c.k c.l
      (subst (λ n. n ≤ 1) (sym (many_permuted t x.listings (c.k ∷ (c.l ∷ c.rest)) x.copying.found)) (few_listings y x.listings h.sound c.k.object.path)) (contains_here c.k []) (contains_here c.l c.rest)
      (itself c.k.object.path) same)

  from_holds : is_same_path (holder from) c.k.object.path ≡ true
  from_holds = may.from_holds x from to w.its

  to_holds : is_same_path (holder to) c.l.object.path ≡ true
  to_holds = may.to_holds x from to w.its

  -- ---- what is written

  abbrev its_k : Put
  its_k = record { sectors = c.k.object.sectors; bytes = k_bytes }

  abbrev its_l : Put
  its_l = record { sectors = c.l.object.sectors; bytes = l_bytes }

  abbrev own : Put
  own = record { sectors = c.sectors; bytes = stored }

  abbrev all : List Put
  all = its_k ∷ (its_l ∷ (own ∷ []))

  k_put : IsDirectoryPut y' (copied c c.k.object) c.k_content all
  k_put =
      subst (λ (p : Object). IsDirectoryPut y' p c.k_content all) (sym (dir_stays c.k k_in))
      (record { bytes = k_bytes; among = contains_here its_k (its_l ∷ (own ∷ [])); says = w.k_written; long = w.k_long ∙ ap (λ (f : NameForm). object_size f c.k.object.entry) (sym form) })

  l_put : IsDirectoryPut y' (copied c c.l.object) c.l_content all
  l_put =
      subst (λ (p : Object). IsDirectoryPut y' p c.l_content all) (sym (dir_stays c.l l_in))
      (record {
        bytes = l_bytes;
        among = contains_later its_k its_l (its_l ∷ (own ∷ [])) (contains_here its_l (own ∷ []));
        says = w.l_written;
        long = w.l_long ∙ ap (λ (f : NameForm). object_size f c.l.object.entry) (sym form);
      })

  of_both : (P : Amended → Type 0) → P (from_it c) → P (to_it c) → (a : Amended) → Contains (edit c).amended a → P a
  of_both P first second a at =
      ⊎_elim (λ same. subst P same first) (λ later. of_one P (to_it c) second a later) (contains_cases (from_it c) a (to_it c ∷ []) at)

  puts_of : ArePutsOf y y' x.nodes (edit c) all image image'
  puts_of = record {
    says = of_both (λ (a : Amended). IsDirectoryPut y' (copied c a.was.object) a.content all) k_put l_put;
    into_say = λ d at. absurd (no_element d at);
    whose = λ p at.
        ⊎_elim (λ same. inl (from_it c, contains_here (from_it c) (to_it c ∷ []), ap (λ (q : Put). q.sectors) (sym same) ∙ ap (λ (q : Object). q.sectors) (sym (dir_stays c.k k_in))))
        (λ later.
        ⊎_elim
        (λ same. inl (to_it c, contains_later (from_it c) (to_it c) (to_it c ∷ []) (contains_here (to_it c) []), ap (λ (q : Put). q.sectors) (sym same) ∙ ap (λ (q : Object). q.sectors) (sym (dir_stays c.l l_in))))
        (λ last. inr ((c.number, o), contains_here (c.number, o) [], ap (λ (q : Put). q.sectors) (sym (only own p last)) ∙ ap (λ (q : Object). q.sectors) (sym copy_is)))
        (contains_cases its_l p (own ∷ []) later))
        (contains_cases its_k p (its_l ∷ (own ∷ [])) at);
    carried = λ k n at f goes.
        (let number = only c.number n goes in
        let k_listed = n_.stay_in ne k (n_.same_in ne k at) in
        absurd (clash (is_same_path c.o.path k.object.path)
        (n_.same_at ne c.o.path k.object.path n (x.copying.number_is ∙ ap (λ (i : ℕ). Some i) number) f) (dir_other k k_listed)));
  }

  abbrev on_new : NewImageEdit
  on_new = record {
    parts = parts;
    takings = takings_of x.id x.parts;
    gone = x.gone;
    r = w.r;
    image = image;
    image' = image';
    puts = all;
    new_kind = w.new_kind;
    opens = w.opens;
    places = memory.new_places x;
    out = w.out;
    puts_of = puts_of;
    root = inl (record { after = w.after; stays = λ p at none. ⊎_elim (λ t. t) (λ t. absurd (let gone = t.leaves in cc)) (parts.is_edit.top p at none) });
  }

  -- ---- the tree

  copy_file : is_directory_object o ≡ false
  copy_file = ap is_directory_object copy_is ∙ x.copying.file

  bytes_now : object_bytes image' y' o ≡ object_bytes image y c.o
  bytes_now =
      ap (object_bytes image' y') copy_is
      ∙ ap₂ (λ (s n : ℕ). bytes_in s image' c.sectors n) size (ap (λ (b : Bool). cond b (directory_size (dir_form y') c.o.entry.len) c.o.entry.len) x.copying.file ∙ sym w.stored_long)
      ∙ w.out.there own (contains_later its_k own (its_l ∷ (own ∷ [])) (contains_later its_l own (own ∷ []) (contains_here own []))) ∙ w.stored_is

  moves : MovesPaths image image' y y' x.nodes x.listings (edit c) c.o.path (new_path c)
  moves = record {
    no_root = path.some x.nodes y x.listings c h (memory.copies x.nodes y x.listings c x.copying);
    none_goes = refl;
    none_comes = refl;
    paths = λ p s. ap (λ (q : Object). q.path) (memory.stays x.nodes y x.listings c h x.copying p s.number s.number_is (away s.number s.stays)) ∙ sym (its_path p s.among (other p s.number s.number_is s.stays));
    others = λ p s. other p s.number s.number_is s.stays;
    moving = of_one (λ (p : Object). IsMoved c.o.path (new_path c) image image' y y' p (copied c p)) c.o
        (record {
          path = ap (λ (q : Object). q.path) copy_is ∙ sym (moved_itself c.o.path (new_path c) c.o.path refl);
          name = ap (λ (q : Object). q.entry.name) copy_is ∙ sym (ap (λ (b : Bool). cond b (last_name (new_path c)) c.o.entry.name) (itself c.o.path) ∙ last_pushed c.l.object.path c.name);
          attrs = ap (λ (q : Object). q.entry.attrs) copy_is;
          load = ap (λ (q : Object). q.entry.load) copy_is;
          exec = ap (λ (q : Object). q.entry.exec) copy_is;
          bytes = λ file. bytes_now;
        });
  }
    where
      away : (n : ℕ) → (Contains (numbers (leaving (edit c))) n → ⊥) → n ≡ c.number → ⊥
      away n none e = none (subst (Contains (c.number ∷ [])) (sym e) (contains_here c.number []))

      other : (p : Object) (n : ℕ) → number_of x.nodes p.path ≡ Some n → (Contains (numbers (leaving (edit c))) n → ⊥) → is_same_path c.o.path p.path ≡ false
      other p n is none = unlike x.nodes c.o.path p.path c.number n x.copying.number_is is (λ e. away n none (sym e))

  -- ---- what the command asks

  was_there : object_at x.listings from ≡ Some c.o
  was_there = lookup_law.object y x.listings from c.o h.sound among w.its.from_is

  its_length : new_length v command ≡ c.o.entry.len
  its_length =
      ap (λ (q : Option Object). option_map_or (λ (p : Object). cond (is_copied v from to p) p.entry.len 0) q 0) was_there ∙ ap (λ (b : Bool). cond b c.o.entry.len 0) w.its.shares

  copies : copies_file v command ≡ true
  copies = ap (λ (q : Option Object). option_map_or (is_copied v from to) q false) was_there ∙ w.its.shares

  abbrev low : ℕ
  low = file_low x.m.geometry (bits_in x.parts * x.m.geometry.bit_bytes) c.o.entry.len

  small : low < 256
  small = file_low_small x.m.geometry (bits_in x.parts * x.m.geometry.bit_bytes) c.o.entry.len

  its_id : id_of o.entry.address ≡ x.id
  its_id = id_is x.m x.m' c.o.entry.len low x.id x.parts x.gone o x.agreed.is_map x.geometry small w.its.place x.space

  fresh_id : (k : ℕ) → is_taken (takings_of x.id x.parts) k ≡ true → is_used x.m k ≡ false
  fresh_id k taken =
      subst (λ (j : ℕ). is_used x.m j ≡ false) (sym (taken_is x.id x.parts k taken)) (unused x.m x.m' c.o.entry.len low x.id x.parts x.gone o x.agreed.is_map x.geometry small w.its.place x.space)

  low_again : file_low x.m'.geometry (bits_in (id_runs x.m' (id_of o.entry.address)) * x.m'.geometry.bit_bytes) o.entry.len ≡ low
  low_again =
      ap (λ (g : Geometry). file_low g (bits_in (id_runs x.m' (id_of o.entry.address)) * g.bit_bytes) o.entry.len) x.geometry
      ∙ ap₂ (λ (k len : ℕ). file_low x.m.geometry (bits_in (id_runs x.m' k) * x.m.geometry.bit_bytes) len) its_id (ap (λ (q : Object). q.entry.len) copy_is)
      ∙ ap (λ (k : ℕ). file_low x.m.geometry (k * x.m.geometry.bit_bytes) c.o.entry.len) (same_bits x.m x.m' c.o.entry.len low x.id x.parts x.gone o x.agreed.is_map x.geometry small w.its.place x.space)

  stands : StandsInNewSpace x.m x.m' c.o.entry.len o
  stands =
      stands_new x.m x.m' c.o.entry.len low x.id x.parts x.gone o x.agreed.is_map x.geometry small w.its.place x.space
      (ap (λ (b : Bool). cond b 0 (file_low x.m'.geometry (bits_in (id_runs x.m' (id_of o.entry.address)) * x.m'.geometry.bit_bytes) o.entry.len)) copy_file ∙ low_again)

  l_number_other : c.dir ≡ c.number → ⊥
  l_number_other e =
      clash (is_same_path c.o.path c.l.object.path) (n_.same_at ne c.o.path c.l.object.path c.number x.copying.number_is (x.copying.dir_is ∙ ap (λ (i : ℕ). Some i) e)) (dir_other c.l l_in)

  asked : new.IsAskedOf on_new command
  asked found sound' order =
      let now' = new.is_now on_new found in
      let joins = joins_found mem found sound' order (c.number, o) (contains_here (c.number, o) []) in
      let there : object_at found to ≡ Some o =
      lookup_law.object y' found to o sound' joins (ap (λ (q : Object). is_same_path to q.path) copy_is ∙ w.its.to_is) in
      let entry_is : named_entry now' command ≡ Some o.entry = named_rename from to now' o there in
      let k_holder = holder_still ne y' found sound' order (λ d at. ap (λ (q : Object). q.entry.address) (dir_stays d at)) c.k c.home (n_.was_in ne (from_it c) (contains_here (from_it c) (to_it c ∷ []))) x.copying.home_is
      (λ at. not_own x.nodes y x.listings c.k c.o c.home c.number h k_in kid x.copying.home_is x.copying.number_is (sym (only c.number c.home at))) in
      let l_holder = holder_still ne y' found sound' order (λ d at. ap (λ (q : Object). q.entry.address) (dir_stays d at)) c.l c.dir
      (n_.was_in ne (to_it c) (contains_later (from_it c) (to_it c) (to_it c ∷ []) (contains_here (to_it c) []))) x.copying.dir_is (λ at. l_number_other (sym (only c.number c.dir at))) in
      let made : object_parts x.m x.m' v command (made_object now' command) ≡ id_runs x.m' x.id =
      ap (λ (q : Option Object). object_parts x.m x.m' v command q) there
      ∙ ap (λ (n : ℕ). cond (nat_lt 0 (units x.m.geometry n)) (id_runs x.m' (id_of o.entry.address)) []) its_length
      ∙ ap (λ (b : Bool). cond b (id_runs x.m' (id_of o.entry.address)) []) (lt-ltb 0 (units x.m.geometry c.o.entry.len) (units_some x.m c.o.entry.len x.agreed.is_map w.its.place.some))
      ∙ ap (id_runs x.m') its_id in
      record {
        root_keeps = subst IsBelowRoot (sym w.its.no_growth) tt;
        map = record {
          left = λ k used.
              unless (is_taken (takings_of x.id x.parts) k) (λ taken. clash (is_used x.m k) used (fresh_id k taken))
              ∙ sym (map_or_none _ (moved_growth v command) false (moved_none v now' command w.its.no_growth));
          fresh = λ k taken used.
              (let same = taken_is x.id x.parts k taken in
              let sector : 0 < x.m'.geometry.sector = subst (λ (g : Geometry). 0 < g.sector) (sym x.geometry) (new_shape x.m x.agreed.is_map).some in
              let at : sectors_at y' o.entry.address c.o.entry.len ≡ Some o.sectors = subst (λ (j : ℕ). sectors_at y' o.entry.address j ≡ Some o.sectors) (may.size_is x from to w.its) x.at in
              let s = a_sector x.m' o.entry.address c.o.entry.len o.sectors w.its.place.some sector at in (
                subst (λ (j : ℕ). 3 ≤ j) (sym same) (high x.m x.m' c.o.entry.len low x.id x.parts x.gone o x.agreed.is_map x.geometry small w.its.place x.space),
                subst (λ (j : ℕ). is_owned (objects_of found) j ≡ true) (its_id ∙ sym same) (object_owns (objects_of found) o s.0 joins s.1),
              ));
          untaken_is = untaken_one (hole_runs x.m) x.id x.parts
              ∙ sym (untaken_is v now' command x.m x.m' (id_runs x.m' x.id) w.its.no_growth made
              ∙ same_left x.m x.m' c.o.entry.len low x.id x.parts x.gone o x.agreed.is_map x.geometry small w.its.place x.space);
        };
        placed = record {
          object = subst (λ (n : ℕ). NewObjectPlaced x.m x.m' n None (made_object now' command)) (sym its_length)
              (λ more. subst (λ (q : Option Object). IsSomeAnd q (StandsInNewSpace x.m x.m' c.o.entry.len)) (sym there) stands);
          empty = λ none. absurd (cc);
          growth = subst (λ (q : Option Growth). GrowthPlacedIn v now' command q) (sym w.its.no_growth) tt;
        };
        directories = record {
          out = λ k at. absurd (no_element k at);
          paths = λ k at.
              (let listed' = n_.stay_in ne k at in
              ap (is_same_path _) (ap (λ (q : Object). q.path) (dir_stays k listed') ∙ sym (its_path k.object (listed_directory y x.listings h.sound k listed').0 (dir_other k listed')))
              ∙ after_same from to c.o.path (new_path c) k.object.path w.its.from_is w.its.to_is);
          amended = of_both (λ (a : Amended). DirectorySteady image image' v now' command a.was (now (edit c) a))
              (record {
                entries = w.left
                    ∙ sym (edited_by from to c.k.object.path (named_entry now' command) (entries_of c.k.content) true false from_holds
                    (other_of (holder to) c.l.object.path c.k.object.path to_holds (turned_other c.k.object.path c.l.object.path apart)))
                    ∙ sym (entries_now v now' command w.its.no_growth c.k);
                head = inr (record {
                  may = may.k_may x from to w.its;
                  says = subst (λ (n : ℕ). IsRewritten command c.k.object.path n c.k.content c.k_content) (sym k_holder) w.k_says;
                  bytes = directory_bytes y y' all image image' (copied c c.k.object) c.k_content size w.out k_put;
                });
              })
              (record {
                entries = w.joined ∙ ap (λ (q : Option Entry). with_made q (entries_of c.l.content)) (sym entry_is)
                    ∙ sym (edited_by from to c.l.object.path (named_entry now' command) (entries_of c.l.content) false true (other_of (holder from) c.k.object.path c.l.object.path from_holds apart) to_holds)
                    ∙ sym (entries_now v now' command w.its.no_growth c.l);
                head = inr (record {
                  may = may.l_may x from to w.its;
                  says = subst (λ (n : ℕ). IsRewritten command c.l.object.path n c.l.content c.l_content) (sym l_holder) w.l_says;
                  bytes = directory_bytes y y' all image image' (copied c c.l.object) c.l_content size w.out l_put;
                });
              });
          same = λ k at.
              (let not_it = other_of from c.o.path k.object.path w.its.from_is (dir_other k (n_.stay_in ne k (n_.same_in ne k at))) in
              let not_from = unnamed ne from c.k k c.home k_in x.copying.home_is (contains_here c.home (c.dir ∷ [])) from_holds at in
              let not_to = unnamed ne to c.l k c.dir l_in x.copying.dir_is (contains_later c.home c.dir (c.dir ∷ []) (contains_here c.dir [])) to_holds at in
              record {
                entries = sym (edited_by from to k.object.path (named_entry now' command) (entries_of k.content) false false not_from not_to) ∙ sym (entries_now v now' command w.its.no_growth k);
                parent = λ gets. absurd (clash (gets_parent v command k.object.path) gets
                    (ap (λ (b : Bool). b || has_new_holder v command k.object.path) (turned_other from k.object.path not_it) ∙ no_new_holder v now' command w.its.no_growth k.object.path));
                name = kept_name from to k.object.path not_it k.content;
              });
        };
        named = subst (λ (b : Bool). NamedStays v now' command b) (sym copies) tt;
        entry = subst (λ (q : Option Object). IfSome q (EntrySteady (dir_form y) (is_moved_by command) (object_at x.listings from))) (sym there)
            (subst (λ (q : Option Object). EntrySteady (dir_form y) (is_moved_by command) q o) (sym was_there)
            (record { last = inl (ap (λ (q : Object). q.entry.last) copy_is); len = λ dir. same_length (dir_form y) c.o.entry.len o.entry.len (ap (λ (q : Object). q.entry.len) copy_is) }));
        made = tt;
      }

  pub new_copied : Outcome x.kind image image' (new_view x) command (parts_with x.m' x.nodes' x.owners')
  new_copied =
      new_image.moves_by on_new command c.o.path (new_path c) moves asked
      (λ found is_move. command_law.rename image image' y y' x.listings found from to c.o.path (new_path c) is_move w.its.from_is w.its.to_is (w.its.name_is ∙ sym (last_pushed c.l.object.path c.name)))

pub copying_law : CopyingLaw
copying_law = record {
  new = λ x from to k_bytes l_bytes stored image image' w. new_copied x from to k_bytes l_bytes stored image image' w;
  new_may = λ x from to image opens its. may.may_new x from to its image opens;
}
