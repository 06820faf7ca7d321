-- A job that needs no new object rewrites one directory: what stays in that one's identifier, and how far it reaches.
use Rattle.std.proofs.Common.{◌≡◌, ◌<◌, ◌≤◌, ◌+◌, ◌*◌, ◌^◌, ◌&&◌, ◌||◌, ⊎_elim, ℕ, suc, Bool, true, false, not, cond, List, [], ◌∷◌, ◌++◌, filter, length, map, take, drop, min, inl, inr, refl, sym, ap, ap₂, subst, ◌∙◌, arith, eq-eqb, Option, Some, None}
use Rattle.std.specs.Prelude.{◌==◌, All, Contains, is_some, nat_lt}
use Rattle.std.specs.List.{find}
use Rattle.std.specs.List.Sorted.{IsStrictlyIncreasing}
use Rattle.std.specs.Int.{div_ceil}
use Rattle.std.specs.Option.{option_to_list, unwrap_or}
use Rattle.std.proofs.Math.Nat.{div-le_self, mul-le-mul_right}
use Rattle.std.proofs.lemmas.Bool.{cases_lt, eqb-true, ltb-true, and_parts}
use Rattle.std.proofs.lemmas.Grind.{div_ceil_times}
use Rattle.std.proofs.lemmas.List.{length-drop, length-take}
use Rattle.std.proofs.lemmas.List.Elements.{All-cons, All-nil}
use Rattle.std.proofs.lemmas.List.Sorted.{Contains-permutation}
use Rattle.std.proofs.lemmas.Nat.{mul-le}
use Rattle.std.proofs.lemmas.Map.Steps.{length-le_from_distinct_below}
use Rattle.fc_names.specs.Names.{Path}
use Rattle.fc_alloc.specs.declared.owner.Owner.{Owner}
use Rattle.fc_alloc.specs.Owners.{is_node}
use Rattle.fc_record.specs.declared.Geometry.{Geometry}
use Rattle.fc_record.specs.declared.Kind.{Kind}
use Rattle.fc_record.specs.Record.{id_limit}
use Rattle.fc_newmap.specs.Map.{Map, id_runs}
use Rattle.fc_newmap.specs.RunsLaw.{IsGeometry}
use Rattle.fc_newmap.proofs.CoverLemmas.{id_Distinct, run_on_disc}
use Rattle.fc_newmap.proofs.PlaceLemmas.{holder_of, id_run_in}
use Rattle.fc_model.specs.Command.{Command}
use Rattle.fc_image.specs.Layout.{Layout, dir_form, disc_sectors, id_of, id_sectors, low_of, low_start}
use Rattle.fc_image.specs.Walk.{Listing, Object, object_size}
use Rattle.fc_image.specs.Objects.{has_sectors, objects_of}
use Rattle.fc_image.specs.Opening.{Opened}
use Rattle.fc_image.specs.Sound.{AreSound}
use Rattle.fc_image.specs.safe.SafeShort.{takes_slack}
use Rattle.fc_image.proofs.RoomLemmas.{std_Distinct, std_any}
use Rattle.fc_changes.proofs.NewPlaceLemmas.{some_there}
use Rattle.fc_plan.specs.Giving.{is_one_of}
use Rattle.fc_tree.specs.Parts.{Parts, owner_of}
use Rattle.fc_tree.specs.declared.node.Node.{Node}
use Rattle.fc_tree.proofs.MemberLemmas.{found_passes, from_map, in_filter}
use Rattle.fc_laws.specs.nodes.Edits.{Nodes}
use Rattle.fc_laws.specs.agree.Agreed.{AgreeOn, parts_with}
use Rattle.fc_laws.proofs.lemmas.agree.BeforeLemmas.{agreed_law, new_facts, new_shape}
use Rattle.fc_laws.proofs.lemmas.agree.RoomLemmas.{dir_sector}
use Rattle.fc_placing.proofs.LeavingLemmas.{from_kept}
use Rattle.fc_refusals.specs.Targets.{IsTarget}
use Rattle.fc_refusals.specs.declared.target.Target.{Target}
use Rattle.fc_change.specs.declared.job.Growth.{Growth}
use Rattle.fc_change.specs.declared.job.Job.{Job}
use Rattle.fc_change.specs.declared.job.Wants.{Wants}
use Rattle.fc_change.specs.Shortage.{bytes_left, slack_for}
use Rattle.fc_commands.proofs.NodeLemmas.{each_at}
use Rattle.fc_commands.proofs.OwnerLemmas.{only_owner, owner_is}
use Rattle.fc_commands.proofs.TargetLemmas as target_of
use Rattle.fc_safe.specs.declared.needs.Need.{Need}
use Rattle.fc_safe.specs.FirstNeeds.{Stir, first_needs, leaving_of, moving_out, need_of, needs_by, stir_of}
use Rattle.fc_safe.specs.Moving.{IsPlacedOwner}
use Rattle.fc_safe.specs.Needs.{CanNeed}
use Rattle.fc_safe.specs.Staying.{changed_ids, end_then, holds_changed, last_end, remains}
use Rattle.fc_safe.specs.Views.{IsPlainFor, StirsAs}
use Rattle.fc_safe.proofs.GivenLemmas.{owner_low}
use Rattle.fc_safe.proofs.ListLemmas.{any_of, found_of, most_above, most_below, same_test}
use Rattle.fc_safe.proofs.MovingLemmas.{set_is}
use Rattle.fc_safe.proofs.PlainLemmas.{plain_stir}
use Rattle.fc_safelaws.proofs.RelaidLemmas.{Within, within}

-- ---- what is known of such a job

-- The job is the command's, by parts that agree; `t` is what it is about, and `goes` the node that goes. It has these wants and these
-- spaces.
pub record PlainJob : Type 0 where
  pub kind : Kind
  pub m : Map
  pub nodes : Nodes
  pub owners : List Owner
  pub root : Node
  pub listings : List Listing
  pub agreed : AgreeOn kind m nodes owners root listings
  pub c : Command
  pub job : Job
  pub wants : Wants
  pub its : IsPlainFor m (parts_with m nodes owners) (record { kind = kind; layout = Layout.New m; listings = listings }) c job wants
  pub still : wants.grows ≡ None
  pub no_bytes : wants.bytes ≡ 0
  pub no_share : wants.shares ≡ None
  pub path : Path
  pub t : Target
  pub target : IsTarget nodes listings path t
  pub goes : Option ℕ
  pub stays : is_one_of (option_to_list goes ++ []) t.holder ≡ false
  pub stir : stir_of m (parts_with m nodes owners) job wants ≡ plain_stir t.holder goes
  pub stirs : StirsAs m (parts_with m nodes owners) (record { kind = kind; layout = Layout.New m; listings = listings }) c (plain_stir t.holder goes)
  pub no_slack : (id : ℕ) → takes_slack (record { kind = kind; layout = Layout.New m; listings = listings }) c id ≡ false

-- ---- objects with sectors

-- An object's sectors are these of its identifier, from where it begins there.
pub record LiesIn (m : Map) (p : Object) : Type 0 where
  pub many : length p.sectors ≡ div_ceil (object_size (dir_form (Layout.New m)) p.entry) m.geometry.sector
  pub room : low_start m (low_of p.entry.address) + length p.sectors ≤ length (id_sectors m (id_of p.entry.address))
  pub is : take (length p.sectors) (drop (low_start m (low_of p.entry.address)) (id_sectors m (id_of p.entry.address))) ≡ p.sectors

module _ (x : PlainJob) where
  abbrev pub h : Parts
  h = parts_with x.m x.nodes x.owners

  abbrev pub y : Layout
  y = Layout.New x.m

  abbrev pub v : Opened
  v = record { kind = x.kind; layout = Layout.New x.m; listings = x.listings }

  abbrev g : Geometry
  g = x.m.geometry

  -- the directory that is rewritten
  abbrev pub d : Object
  d = x.target.listing.object

  -- its identifier
  abbrev pub i : ℕ
  i = id_of d.entry.address

  pub sound : AreSound y x.listings
  sound = agreed_law.sound x.kind x.m x.nodes x.owners x.root x.listings x.agreed

  shape : IsGeometry g
  shape = new_shape x.m x.agreed.is_map

  pub d_in : Contains (objects_of x.listings) d
  d_in = target_of.dir_among y x.nodes x.listings sound x.agreed.walked.held x.path x.t x.target

  pub d_some : has_sectors d ≡ true
  d_some = let s = dir_sector x.kind x.m x.nodes x.owners x.root x.listings x.agreed x.target.listing x.target.listed in some_there d.sectors s.0 s.1

  abbrev pub own : Owner
  own = owner_of x.nodes y d

  pub own_node : own.node ≡ x.t.holder
  own_node = ap (λ (r : Option ℕ). unwrap_or r 0) x.target.holder_is

  pub own_found : find (is_node x.t.holder) x.owners ≡ Some own
  own_found = owner_is y x.nodes x.listings x.owners d x.t.holder sound x.agreed.walked.held x.agreed.owned x.target.holder_is d_in ∙ ap (λ (b : Bool). cond b (Some own) None) d_some

  pub own_in : Contains x.owners own
  own_in = (found_passes (is_node x.t.holder) x.owners own own_found).0

  -- each owner is one of an object with sectors
  pub owner_object : (o : Owner) → Contains x.owners o → (p : Object) × Contains (objects_of x.listings) p × (has_sectors p ≡ true) × (owner_of x.nodes y p ≡ o)
  owner_object o at =
      let p = from_map (owner_of x.nodes y) (filter has_sectors (objects_of x.listings)) o
      (Contains-permutation x.owners (map (owner_of x.nodes y) (filter has_sectors (objects_of x.listings))) o x.agreed.owned at) in
      let q = from_kept has_sectors (objects_of x.listings) p.0 p.1 in
      (p.0, q.0, q.1, p.2)

  pub lies_in : (p : Object) → Contains (objects_of x.listings) p → has_sectors p ≡ true → LiesIn x.m p
  lies_in p at some = ⊎_elim (λ none. absurd (nothing p.sectors none.1 some)) (λ w. by w) (within x.m p.entry.address (object_size (dir_form y) p.entry) p.sectors (each_at y x.listings sound p at))
    where
      n : ℕ
      n = div_ceil (object_size (dir_form y) p.entry) g.sector

      nothing : (xs : List ℕ) → xs ≡ [] → nat_lt 0 (length xs) ≡ true → ⊥
      nothing xs none more = let bad : nat_lt 0 0 ≡ true = ap (λ (ys : List ℕ). nat_lt 0 (length ys)) (sym none) ∙ more in cc

      by : Within x.m p.entry.address (object_size (dir_form y) p.entry) p.sectors → LiesIn x.m p
      by w =
          let part : List ℕ = drop (low_start x.m (low_of p.entry.address)) (id_sectors x.m (id_of p.entry.address)) in
          let count : length p.sectors ≡ n = ap (λ (xs : List ℕ). length xs) (sym w.is) ∙ length-take n part ∙ fits n (length part) w.room in
          let size = length-drop (low_start x.m (low_of p.entry.address)) (id_sectors x.m (id_of p.entry.address)) in
          let long = ltb-true 0 (length p.sectors) some in
          let room = w.room in
          record { many = count; room = omega (arith, count, size, long, room); is = ap (λ (k : ℕ). take k part) count ∙ w.is }
        where
          fits : (a b : ℕ) → a ≤ b → min a b ≡ a
          fits a b low = omega (arith, low)

  -- An identifier has no more sectors than the disc.
  pub few_sectors : (id : ℕ) → length (id_sectors x.m id) ≤ 2 ^ 40
  few_sectors id =
      let facts = new_facts x.m x.agreed.is_map in
      let some = shape.some in
      let most = length-le_from_distinct_below (id_sectors x.m id) (disc_sectors y) (std_Distinct (id_sectors x.m id) (id_Distinct x.m shape x.agreed.is_map.right facts.zones id)) (λ s e.
      (let p = holder_of g (id_runs x.m id) s (std_any s (id_sectors x.m id) e) in
      let p_in = id_run_in x.m id p.0 facts.zones p.1.0 in
      run_on_disc x.m shape x.agreed.is_map.right facts.zones facts.begun p.0 s p_in.0 p.1.1)) in
      let bytes = facts.bytes in
      let less = div-le_self (g.disc_bits * g.bit_bytes) g.sector in
      omega (arith, most, bytes, less)

  -- what is known of every owner
  pub placed_owner : (o : Owner) → Contains x.owners o → IsPlacedOwner g None o
  placed_owner o at =
      let p = owner_object o at in
      let l = lies_in p.0 p.1 p.2 in
      let few = few_sectors (id_of p.0.entry.address) in
      let room = l.room in
      let id = owner_low x.m h v x.its.view (id_of p.0.entry.address) p.0 p.1 (ap₂ (λ (a b : Bool). a && b) p.2 (eq-eqb (id_of p.0.entry.address) (id_of p.0.entry.address) refl)) in
      subst (IsPlacedOwner g None) p.3
      (record { sized = record { some = ltb-true 0 (length p.0.sectors) p.2; few = omega (arith, room, few) }; id_low = id.0; id_high = id.1 })

  -- ---- the identifier that moves

  abbrev pub leaving : List ℕ
  leaving = option_to_list x.goes ++ []

  -- what goes, since nothing is copied
  pub leaving_is : leaving_of x.wants None ≡ option_to_list x.goes ++ []
  leaving_is = ap (λ (out : Option Growth). leaving_of x.wants out) (sym (ap (moving_out x.m h) x.still)) ∙ ap (λ (s : Stir). s.leaving) x.stir

  pub id_low : (2 ≤ i) × (i < id_limit g)
  id_low = let o = placed_owner own own_in in (o.id_low, o.id_high)

  -- the only one that holds a directory which is rewritten
  pub holds_at : (k : ℕ) → is_one_of (i ∷ []) k ≡ holds_changed (x.t.holder ∷ []) leaving x.owners k
  holds_at k = same_test ((i == k) || false) (holds_changed (x.t.holder ∷ []) leaving x.owners k) there back
    where
      or_no : (b : Bool) → (b || false) ≡ b
      or_no true = refl
      or_no false = refl

      there : ((i == k) || false) ≡ true → holds_changed (x.t.holder ∷ []) leaving x.owners k ≡ true
      there e =
          any_of (λ (o : Owner). is_one_of (x.t.holder ∷ []) o.node && remains leaving k o) x.owners own own_in
          (ap₂ (λ (a b : Bool). (a || false) && b) (eq-eqb x.t.holder own.node (sym own_node)) (ap₂ (λ (a b : Bool). a && not b) (sym (or_no (i == k)) ∙ e) (ap (is_one_of leaving) own_node ∙ x.stays)))

      back : holds_changed (x.t.holder ∷ []) leaving x.owners k ≡ true → ((i == k) || false) ≡ true
      back e =
          let r = found_of (λ (o : Owner). is_one_of (x.t.holder ∷ []) o.node && remains leaving k o) x.owners e in
          let both = and_parts (is_one_of (x.t.holder ∷ []) r.0.node) (remains leaving k r.0) r.2 in
          let node : r.0.node ≡ x.t.holder = sym (eqb-true x.t.holder r.0.node (sym (or_no (x.t.holder == r.0.node)) ∙ both.0)) in
          let one = (only_owner y x.nodes x.listings x.owners d x.t.holder sound x.agreed.walked.held x.agreed.owned x.target.holder_is d_in r.0 r.1 node).0 in
          or_no (i == k) ∙ ap (λ (o : Owner). o.id == k) (sym one) ∙ (and_parts (r.0.id == k) (not (is_one_of leaving r.0.node)) both.1).0

  one_rises : IsStrictlyIncreasing (i ∷ [])
  one_rises k less = absurd (omega (arith, less))

  pub changed_one : changed_ids g (x.t.holder ∷ []) leaving x.owners ≡ i ∷ []
  changed_one = sym (set_is (holds_changed (x.t.holder ∷ []) leaving x.owners) (id_limit g) (i ∷ []) one_rises holds_at low)
    where
      low : (k : ℕ) → holds_changed (x.t.holder ∷ []) leaving x.owners k ≡ true → k < id_limit g
      low k e = let same = eqb-true i k (no_or (i == k) (holds_at k ∙ e)) in let high = id_low.1 in omega (arith, same, high)
        where
          no_or : (b : Bool) → (b || false) ≡ true → b ≡ true
          no_or true f = refl
          no_or false f = f

  -- ---- how far it reaches

  -- the end of the last owner that stays
  abbrev pub end : ℕ
  end = last_end g leaving None x.owners i

  -- Each owner that stays ends before that.
  pub ends_within : (o : Owner) → Contains x.owners o → remains leaving i o ≡ true → (o.first + o.sectors) * g.sector ≤ end
  ends_within o at stay =
      most_above (end_then g None) 0 (filter (remains leaving i) x.owners) o (in_filter (remains leaving i) x.owners o at stay)

  pub sector_end : (o : Owner) → Contains x.owners o → remains leaving i o ≡ true → o.first + o.sectors ≤ div_ceil end g.sector
  sector_end o at stay = cancel (o.first + o.sectors) (div_ceil end g.sector) g.sector shape.some (let within = ends_within o at stay in let whole = (div_ceil_times end g.sector shape.some).0 in omega (arith, within, whole))
    where
      cancel : (a b k : ℕ) → 0 < k → a * k ≤ b * k → a ≤ b
      cancel a b k some low = elim (cases_lt b a) [
        | inl less ↦ absurd (let more = mul-le-mul_right {m = suc b} {n = a} k (omega (arith, less)) in omega (arith, more, low, some))
        | inr fits ↦ fits
      ]

  pub own_stays : remains leaving i own ≡ true
  own_stays = ap₂ (λ (a b : Bool). a && not b) (eq-eqb i i refl) (ap (is_one_of leaving) own_node ∙ x.stays)

  pub end_some : 0 < end
  end_some =
      let within = ends_within own own_in own_stays in
      let sized = (placed_owner own own_in).sized.some in
      let more = mul-le-mul_right {m = 1} {n = own.first + own.sectors} g.sector (omega (arith, sized)) in
      let some = shape.some in
      omega (arith, within, more, some)

  pub end_few : end ≤ 2 ^ 48 * 1024
  end_few = most_below (end_then g None) 0 (2 ^ 48 * 1024) (filter (remains leaving i) x.owners) (omega arith) (λ o at.
      (let few = (placed_owner o (from_kept (remains leaving i) x.owners o at).0).sized.few in
      let size = sector_high in
      let less = mul-le (o.first + o.sectors) g.sector (2 ^ 48) 1024 (omega (arith, few)) size in less))
    where
      sector_high : g.sector ≤ 1024
      sector_high = elim (new_facts x.m x.agreed.is_map).size [ inl a ↦ omega (arith, a) | inr b ↦ elim b [ inl c ↦ omega (arith, c) | inr e ↦ omega (arith, e) ] ]

  -- ---- what is needed

  abbrev pub need : Need
  need = record { id = Some i; bytes = end }

  none_left : bytes_left x.m x.owners x.wants ≡ 0
  none_left = by (is_some (slack_for x.m x.owners x.wants))
    where
      by : (b : Bool) → (let n : ℕ = cond b 0 x.wants.bytes in n) ≡ 0
      by true = refl
      by false = x.no_bytes

  pub needs_are : first_needs x.m h x.job x.wants ≡ need ∷ []
  needs_are =
      ap₂ (λ (s : Stir) (n : ℕ). needs_by x.m h s n) x.stir none_left
      ∙ ap (λ (ids : List ℕ). map (need_of (last_end g leaving None x.owners)) ids ++ []) changed_one

  pub can_need : All CanNeed (need ∷ [])
  can_need = All-cons CanNeed need [] (record { some = end_some; few = (let few = end_few in omega (arith, few)) }) (All-nil CanNeed)
