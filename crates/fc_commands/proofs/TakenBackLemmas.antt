-- A change that isn't made since its bytes weren't given: the owner that was admitted for it is taken back, and the holdings still stand
-- for the disk.
use Rattle.std.proofs.Common.{◌≡◌, ◌≤◌, ◌<◌, ◌++◌, ◌+◌, ℕ, Bool, true, false, List, [], ◌∷◌, length, get_or, refl, sym, ap, subst, ◌∙◌, arith, Option, Some, None}
use Rattle.std.specs.Prelude.{Contains, IsPermutation, if◌then◌else◌}
use Rattle.std.specs.Option.{ForSome}
use Rattle.std.proofs.Math.Seq.{get_or-append_seam}
use Rattle.std.proofs.lemmas.List.{append-nil, length-append}
use Rattle.std.proofs.lemmas.List.Sorted.{Contains-permutation, IsPermutation-refl, IsPermutation-sym, IsPermutation-to_front, IsPermutation-trans}
use Rattle.fc_alloc.specs.declared.owner.Owner.{Owner}
use Rattle.fc_alloc.specs.Owners.{has_node}
use Rattle.fc_device.specs.declared.disk.Disk.{Ghosts}
use Rattle.fc_device.specs.Calls.{SameForm, StopsAndExitsLeave}
use Rattle.fc_device.proofs.DiskLaws.{Laws}
use Rattle.fc_device.proofs.StopLemmas.{led}
use Rattle.fc_newmap.proofs.PassLemmas.{keeps_told}
use Rattle.fc_record.specs.declared.Kind.{Kind}
use Rattle.fc_oldmap.specs.Laws.{ReadsBack}
use Rattle.fc_model.specs.Command.{Command}
use Rattle.fc_image.specs.Layout.{Layout, disc_sectors, dir_form, sector_bytes}
use Rattle.fc_image.specs.Opening.{Opened}
use Rattle.fc_image.proofs.ShuffleLemmas.{IsPermutation-unappend}
use Rattle.fc_laws.specs.nodes.Edits.{Nodes}
use Rattle.fc_space.specs.declared.space.Space.{Space}
use Rattle.fc_space.specs.Space.{layout_of}
use Rattle.fc_tree.specs.Agree.{Agree}
use Rattle.fc_tree.specs.Nodes.{nodes_of}
use Rattle.fc_tree.specs.Parts.{ArePartsOf, Parts}
use Rattle.fc_writing.specs.declared.copies.Copies.{Copies}
use Rattle.fc_change.specs.declared.job.Job.{Job}
use Rattle.fc_change.specs.declared.change.Turned.{Turned}
use Rattle.fc_change.specs.declared.change.Turned.TheVariants as turns
use Rattle.fc_change.specs.After.{owners_admitted}
use Rattle.fc_change.specs.Owned.{owner_if, owners_with_room}
use Rattle.fc_given.specs.Law.{IsBegun}
use Rattle.fc_given.proofs.MapLemmas.{beforehand_law}
use Rattle.fc_holdings.specs.declared.holdings.Holdings.{Holdings}
use Rattle.fc_holdings.specs.Holdings.{CopiesAre, HoldsMap, Stands, TellsVersion, parts_of}
use Rattle.fc_commands.specs.declared.stages.Prepared.{Prepared}
use Rattle.fc_commands.specs.Given.{IsFile, OpensAlikeOf}
use Rattle.fc_commands.specs.Jobs.{IsJobFor}
use Rattle.fc_commands.specs.Run.{IsMapIn}
use Rattle.fc_commands.specs.Stages.{IsPreparedFor}
use Rattle.fc_commands.specs.Written.{CanWriteOn}
use Rattle.fc_commands.proofs.AlikeLemmas.{opens_alike}
use Rattle.fc_commands.proofs.GivenLemmas.{copies_on}

-- ---- owners

-- It is out again, and the others are there in some order.
pub taken_out : (was more old now : List Owner) (count : ℕ) (none : Owner) → length was ≡ count → old ≡ was ++ more → length more ≤ 1 → count < length old
    → ((o : Owner) → Contains old o → o.node ≡ (get_or old count none).node → IsPermutation old (o ∷ now)) → IsPermutation was now
taken_out was [] old now count none long is few low out = absurd (let all = ap length is ∙ length-append was [] in omega (arith, low, all, long))
taken_out was (o ∷ []) old now count none long is few low out =
    let seam : get_or old count none ≡ o = ap (λ (xs : List Owner). get_or xs count none) is ∙ ap (λ (n : ℕ). get_or (was ++ o ∷ []) n none) (sym long) ∙ get_or-append_seam was o [] none in
    let front = IsPermutation-to_front was o in
    let there : Contains old o = subst (λ (xs : List Owner). Contains xs o) (sym is) (Contains-permutation (o ∷ was) (was ++ o ∷ []) o (IsPermutation-sym (was ++ o ∷ []) (o ∷ was) front) (0, omega arith, refl)) in
    let cut : IsPermutation (was ++ o ∷ []) (o ∷ now) = subst (λ (xs : List Owner). IsPermutation xs (o ∷ now)) is (out o there (ap (λ (x : Owner). x.node) (sym seam))) in
    IsPermutation-unappend (o ∷ []) was now (IsPermutation-trans (o ∷ was) (was ++ o ∷ []) (o ∷ now) (IsPermutation-sym (was ++ o ∷ []) (o ∷ was) front) cut)
taken_out was (o ∷ (p ∷ more)) old now count none long is few low out = absurd (omega (arith, few))

-- One owner more at most is admitted.
pub record IsOneMore (was now : List Owner) : Type 0 where
  pub more : List Owner
  pub few : length more ≤ 1
  pub is : now ≡ was ++ more

none_more : (owners : List Owner) → IsOneMore owners owners
none_more owners = record { more = []; few = omega arith; is = sym (append-nil owners) }

with_room : (o : Option Owner) (owners : List Owner) → IsOneMore owners (owners_with_room o owners)
with_room None owners = none_more owners
with_room (Some o) owners = by (has_node owners o.node)
  where
    by : (b : Bool) → IsOneMore owners (if b then owners else owners ++ o ∷ [])
    by true = none_more owners
    by false = record { more = o ∷ []; few = omega arith; is = refl }

pub one_admitted : (layout : Layout) (object : Turned) (number : ℕ) (owners : List Owner) → IsOneMore owners (owners_admitted layout object number owners)
one_admitted layout (turns.Comes dir e own) number owners = with_room (owner_if layout number dir e) owners
one_admitted layout (turns.Turns n dir e) number owners = with_room (owner_if layout n dir e) owners
one_admitted layout (turns.Goes n) number owners = none_more owners

-- ---- parts

-- In which order the owners are kept says nothing.
module _ (layout : Layout) (nodes : Nodes) (owners now : List Owner) (order : IsPermutation owners now) where
  abbrev was_parts : Parts
  was_parts = record { layout = layout; nodes = nodes; owners = owners }

  abbrev now_parts : Parts
  now_parts = record { layout = layout; nodes = nodes; owners = now }

  agree_still : (kind : Kind) → Agree kind was_parts → Agree kind now_parts
  agree_still kind a = record {
    root = a.root;
    root_is = a.root_is;
    listings = a.listings;
    walked = a.walked;
    map_placed = a.map_placed;
    owned = IsPermutation-trans now owners _ (IsPermutation-sym owners now order) a.owned;
  }

  parts_still : (v : Opened) → ArePartsOf was_parts v → ArePartsOf now_parts v
  parts_still v parts = record { layout = parts.layout; nodes = parts.nodes; owners = IsPermutation-trans now owners _ (IsPermutation-sym owners now order) parts.owners }

-- ---- holdings

-- They stand for an image that opens as the very same.
stands_by : {D : Type 0} (d : Ghosts D) (old new : D) (places : Space) (was now : Holdings) → was.places ≡ places → now.places ≡ places → now.copies ≡ was.copies → nodes_of now.tree ≡ nodes_of was.tree → IsPermutation was.owners now.owners
    → Stands d was old → SameForm d old new → ForSome (d.bytes new) (λ image. (first : List ℕ) × (d.bytes old ≡ Some first) × OpensAlikeOf (parts_of was) first image) → ForSome (d.bytes new) (CopiesAre was.copies (layout_of was.places)) → Stands d now new
stands_by d old new places was now was_at now_at copies nodes order stands form alike known =
    let layout : layout_of was.places ≡ layout_of now.places = ap layout_of (was_at ∙ sym now_at) in
    record {
      size = form.size_stays ∙ stands.size ∙ ap sector_bytes layout;
      room = subst (λ (n : ℕ). disc_sectors (layout_of now.places) ≤ n) (sym form.sectors_stay) (subst (λ (l : Layout). disc_sectors l ≤ d.sectors old) layout stands.room);
      map_room = subst (HoldsMap (layout_of now.places)) (sym form.sectors_stay) (subst (λ (l : Layout). HoldsMap l (d.sectors old)) layout stands.map_room);
      version = subst TellsVersion layout stands.version;
      agree = (
        stands.agree.0,
        subst (λ (l : Layout). Agree stands.agree.0 (record { layout = l; nodes = nodes_of now.tree; owners = now.owners })) layout
            (subst (λ (ns : Nodes). Agree stands.agree.0 (record { layout = layout_of was.places; nodes = ns; owners = now.owners })) (sym nodes)
            (agree_still (layout_of was.places) (nodes_of was.tree) was.owners now.owners order stands.agree.0 stands.agree.1)),
      );
      image = λ image told.
          let first = alike image told in
          let there = stands.image first.0 first.1 in
          let opens = first.2 there.0 there.1 there.2 there.3 in (
            there.0,
            there.1,
            opens.opens,
            subst (λ (l : Layout). ArePartsOf (record { layout = l; nodes = nodes_of now.tree; owners = now.owners }) there.1) layout
                (subst (λ (ns : Nodes). ArePartsOf (record { layout = layout_of was.places; nodes = ns; owners = now.owners }) there.1) (sym nodes)
                (parts_still (layout_of was.places) (nodes_of was.tree) was.owners now.owners order there.1 there.3)),
          );
      copies = λ image told. subst (λ (l : Layout). CopiesAre now.copies l image) layout (subst (λ (k : Copies). CopiesAre k (layout_of was.places) image) (sym copies) (known image told));
    }

pub stands_still : {D : Type 0} (d : Ghosts D) (old new : D) (was now : Holdings) → now.places ≡ was.places → now.copies ≡ was.copies → nodes_of now.tree ≡ nodes_of was.tree → IsPermutation was.owners now.owners → Stands d was old
    → SameForm d old new → ForSome (d.bytes new) (λ image. (first : List ℕ) × (d.bytes old ≡ Some first) × OpensAlikeOf (parts_of was) first image) → ForSome (d.bytes new) (CopiesAre was.copies (layout_of was.places)) → Stands d now new
stands_still d old new was now places = stands_by d old new was.places was now refl places

-- ---- a file's job, of which some of the bytes were written

module _ {D : Type 0} (d : Ghosts D) (law : Laws d) (back : ReadsBack) (was : Holdings) (old new : D) (job : Job) (name : List ℕ) (p : Prepared) (prep : IsPreparedFor (parts_of was) job name p) (c : Command) (bytes given : List ℕ)
    (file : IsFile job) (is_map : IsMapIn (layout_of was.places)) (stands : Stands d was old) (can : CanWriteOn (layout_of was.places) (d.sectors old) p.ready) (j : IsJobFor c (parts_of was) job name bytes)
    (begun : StopsAndExitsLeave d old new (IsBegun (sector_bytes (layout_of was.places)) p.ready given)) where
  alike_at : (first image : List ℕ) → d.bytes old ≡ Some first → IsBegun (sector_bytes (layout_of was.places)) p.ready given first image → OpensAlikeOf (parts_of was) first image
  alike_at first image told part = opens_alike back (parts_of was) job name p prep (d.sectors old) was.copies c bytes given first image file is_map stands.map_room can j (stands.copies first told) part

  -- At any moment the image opens as it did,
  pub still_alike : StopsAndExitsLeave d old new (OpensAlikeOf (parts_of was))
  still_alike = keeps_told law begun (λ first image told part. alike_at first image told part)

  -- and the holdings stand for it, if only room was made in them.
  pub still_stands : (now : Holdings) → now.places ≡ was.places → now.copies ≡ was.copies → nodes_of now.tree ≡ nodes_of was.tree → IsPermutation was.owners now.owners → SameForm d old new → Stands d now new
  still_stands now places copies nodes order form =
      stands_still d old new was now places copies nodes order stands form (λ image told. let first = led law begun image told in (first.0, first.1, alike_at first.0 image first.1 first.2))
      (λ image told. let first = led law begun image told in copies_on beforehand_law (layout_of was.places) (d.sectors old) p.ready was.copies given first.0 image can first.2 (stands.copies first.0 first.1))
