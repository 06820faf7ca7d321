-- A job by which a directory grows: which identifiers move, how far each reaches, and what is needed of space.
use Rattle.std.proofs.Common.{◌≡◌, ◌<◌, ◌≤◌, ◌+◌, ◌*◌, ◌/◌, ◌%◌, ◌^◌, ◌==◌, ◌&&◌, ◌||◌, ⊎_elim, ℕ, suc, Bool, true, false, not, cond, List, [], ◌∷◌, ◌++◌, filter, length, map, take, drop, min, ◌⊎◌, inl, inr, refl, sym, ap, ap₂, subst, ◌∙◌, arith, eq-eqb, Option, Some, None}
use Rattle.std.specs.Prelude.{All, Contains, is_some, nat_le, nat_lt}
use Rattle.std.specs.List.{find, range_with_len}
use Rattle.std.specs.Int.{div_ceil, is_in_range}
use Rattle.std.specs.Option.{option_to_list, unwrap_or}
use Rattle.std.proofs.Math.Nat.{div-le_self, mul-le-mul_right}
use Rattle.std.proofs.lemmas.Bool.{and_parts, cases_eq, cases_lt, eqb-true, leb-true, ltb-true}
use Rattle.std.proofs.lemmas.Grind.{div_ceil_times}
use Rattle.std.proofs.lemmas.List.{length-drop, length-take}
use Rattle.std.proofs.lemmas.List.Sorted.{Contains-permutation, IsPermutation-sym}
use Rattle.std.proofs.lemmas.Nat.{le-div, mul-le}
use Rattle.std.proofs.lemmas.Map.Steps.{length-le_from_distinct_below}
use Rattle.fc_alloc.specs.declared.owner.Owner.{Owner}
use Rattle.fc_alloc.specs.Owners.{is_node}
use Rattle.fc_bytes.specs.Checks.{is_big_size}
use Rattle.fc_record.specs.declared.Geometry.{Geometry}
use Rattle.fc_record.specs.declared.Kind.{Kind}
use Rattle.fc_record.specs.Record.{id_limit}
use Rattle.fc_newmap.specs.Map.{Map, id_runs}
use Rattle.fc_newmap.specs.RunsLaw.{IsGeometry}
use Rattle.fc_newmap.proofs.CoverLemmas.{id_Distinct, run_on_disc}
use Rattle.fc_newmap.proofs.PlaceLemmas.{holder_of, id_run_in}
use Rattle.fc_image.specs.Layout.{Layout, dir_form, disc_sectors, id_of, id_sectors, low_of, low_start}
use Rattle.fc_image.specs.Walk.{Listing, Object, is_directory_object, object_size}
use Rattle.fc_image.specs.Objects.{has_sectors, objects_of}
use Rattle.fc_image.specs.Opening.{Opened}
use Rattle.fc_image.specs.Sound.{AreSound}
use Rattle.fc_image.proofs.RoomLemmas.{std_Distinct, std_any}
use Rattle.fc_changes.proofs.NewPlaceLemmas.{some_there}
use Rattle.fc_plan.specs.Giving.{is_one_of}
use Rattle.fc_tree.specs.Nodes.{number_of}
use Rattle.fc_tree.specs.Parts.{ArePartsOf, Parts, owner_of}
use Rattle.fc_tree.specs.declared.node.Node.{Node}
use Rattle.fc_tree.proofs.MemberLemmas.{found_passes, from_map, in_filter, in_map}
use Rattle.fc_tree.proofs.WalkedLemmas.{listed_directory}
use Rattle.fc_laws.specs.nodes.Edits.{Nodes}
use Rattle.fc_laws.specs.agree.Agreed.{AgreeOn, parts_with}
use Rattle.fc_laws.proofs.lemmas.agree.BeforeLemmas.{agreed_law, new_facts, new_shape}
use Rattle.fc_laws.proofs.lemmas.agree.RoomLemmas.{dir_sector}
use Rattle.fc_changes.proofs.StepsLemmas.{any_append}
use Rattle.fc_placing.proofs.LeavingLemmas.{from_kept}
use Rattle.fc_change.specs.declared.job.Growth.{Growth}
use Rattle.fc_change.specs.declared.job.Job.{Job}
use Rattle.fc_change.specs.declared.job.Wants.{Wants}
use Rattle.fc_change.specs.Shortage.{bytes_left, slack_for}
use Rattle.fc_commands.proofs.NodeLemmas.{each_at}
use Rattle.fc_commands.proofs.OwnerLemmas.{only_owner, owner_is}
use Rattle.fc_safe.specs.declared.needs.Need.{Need}
use Rattle.fc_safe.specs.Changed.{changed_in}
use Rattle.fc_safe.specs.FirstNeeds.{Stir, first_needs, leaving_of, longer_of, moving_out, need_of, node_of, out_need, own_need, stir_of}
use Rattle.fc_safe.specs.declared.staying.Longer.{Longer}
use Rattle.fc_safe.specs.Moving.{IsPlacedOwner}
use Rattle.fc_safe.specs.Staying.{IsSized, changed_ids, end_then, holds_changed, last_end, remains, sectors_then}
use Rattle.fc_safe.specs.Suits.{Suits, is_low_directory}
use Rattle.fc_safe.specs.Views.{IsViewOf}
use Rattle.fc_safe.proofs.GivenLemmas.{owner_low}
use Rattle.fc_safe.proofs.ListLemmas.{any_of, found_of, most_above, most_below}
use Rattle.fc_safe.proofs.SuitsLemmas.{low_of as low_there}
use Rattle.fc_safelaws.proofs.RelaidLemmas.{Within, within}
use Rattle.fc_safecommands.proofs.PlainLemmas.{LiesIn}

-- ---- what is known of such a job

-- It is one of parts that agree, and has these wants, by which a directory grows. Each directory that it rewrites is there, and stays in its
-- identifier, but for the one that grows, which leaves it only for another.
pub record GrowingJob : Type 0 where
  pub kind : Kind
  pub m : Map
  pub nodes : Nodes
  pub owners : List Owner
  pub root : Node
  pub listings : List Listing
  pub agreed : AgreeOn kind m nodes owners root listings
  pub parts : ArePartsOf (parts_with m nodes owners) (record { kind = kind; layout = Layout.New m; listings = listings })
  pub suits : Suits (Layout.New m) nodes
  pub job : Job
  pub wants : Wants
  pub few : wants.bytes < 2 ^ 32
  pub growth : Growth
  pub grows : wants.grows ≡ Some growth
  pub big : is_big_size growth.len ≡ true
  pub told : (n : ℕ) → is_one_of (stir_of m (parts_with m nodes owners) job wants).changed n ≡ true → (l : Listing) × Contains listings l × (number_of nodes l.object.path ≡ Some n)
  pub grower : is_one_of (stir_of m (parts_with m nodes owners) job wants).changed growth.node ≡ true
  pub stay : (n : ℕ) → is_one_of (stir_of m (parts_with m nodes owners) job wants).changed n ≡ true → is_one_of (stir_of m (parts_with m nodes owners) job wants).leaving n ≡ true → n ≡ growth.node
  pub keeps : moving_out m (parts_with m nodes owners) (Some growth) ≡ None → is_one_of (stir_of m (parts_with m nodes owners) job wants).leaving growth.node ≡ false
  pub both : (n : ℕ) → is_one_of (stir_of m (parts_with m nodes owners) job wants).leaving n ≡ true → (is_one_of (leaving_of wants None) n ≡ true) ⊎ (n ≡ growth.node)

module _ (x : GrowingJob) where
  abbrev pub h : Parts
  h = parts_with x.m x.nodes x.owners

  abbrev pub y : Layout
  y = Layout.New x.m

  abbrev pub v : Opened
  v = record { kind = x.kind; layout = Layout.New x.m; listings = x.listings }

  abbrev g : Geometry
  g = x.m.geometry

  pub sound : AreSound y x.listings
  sound = agreed_law.sound x.kind x.m x.nodes x.owners x.root x.listings x.agreed

  shape : IsGeometry g
  shape = new_shape x.m x.agreed.is_map

  pub view : IsViewOf x.m h v
  view = record { is_map = x.agreed.is_map; layout = refl; sound = sound; parts = x.parts }

  -- ---- owners and their objects

  pub owner_object : (o : Owner) → Contains x.owners o → (p : Object) × Contains (objects_of x.listings) p × (has_sectors p ≡ true) × (owner_of x.nodes y p ≡ o)
  owner_object o at =
      let p = from_map (owner_of x.nodes y) (filter has_sectors (objects_of x.listings)) o
      (Contains-permutation x.owners (map (owner_of x.nodes y) (filter has_sectors (objects_of x.listings))) o x.agreed.owned at) in
      let q = from_kept has_sectors (objects_of x.listings) p.0 p.1 in
      (p.0, q.0, q.1, p.2)

  pub owner_in : (p : Object) → Contains (objects_of x.listings) p → has_sectors p ≡ true → Contains x.owners (owner_of x.nodes y p)
  owner_in p at some =
      Contains-permutation (map (owner_of x.nodes y) (filter has_sectors (objects_of x.listings))) x.owners (owner_of x.nodes y p) (IsPermutation-sym x.owners (map (owner_of x.nodes y) (filter has_sectors (objects_of x.listings))) x.agreed.owned)
      (in_map (owner_of x.nodes y) (filter has_sectors (objects_of x.listings)) p (in_filter has_sectors (objects_of x.listings) p at some))

  pub lies_in : (p : Object) → Contains (objects_of x.listings) p → has_sectors p ≡ true → LiesIn x.m p
  lies_in p at some = ⊎_elim (λ none. absurd (nothing p.sectors none.1 some)) (λ w. by w) (within x.m p.entry.address (object_size (dir_form y) p.entry) p.sectors (each_at y x.listings sound p at))
    where
      n : ℕ
      n = div_ceil (object_size (dir_form y) p.entry) g.sector

      nothing : (xs : List ℕ) → xs ≡ [] → nat_lt 0 (length xs) ≡ true → ⊥
      nothing xs none more = let bad : nat_lt 0 0 ≡ true = ap (λ (ys : List ℕ). nat_lt 0 (length ys)) (sym none) ∙ more in cc

      by : Within x.m p.entry.address (object_size (dir_form y) p.entry) p.sectors → LiesIn x.m p
      by w =
          let part : List ℕ = drop (low_start x.m (low_of p.entry.address)) (id_sectors x.m (id_of p.entry.address)) in
          let count : length p.sectors ≡ n = ap (λ (xs : List ℕ). length xs) (sym w.is) ∙ length-take n part ∙ fits n (length part) w.room in
          let size = length-drop (low_start x.m (low_of p.entry.address)) (id_sectors x.m (id_of p.entry.address)) in
          let long = ltb-true 0 (length p.sectors) some in
          let room = w.room in
          record { many = count; room = omega (arith, count, size, long, room); is = ap (λ (k : ℕ). take k part) count ∙ w.is }
        where
          fits : (a b : ℕ) → a ≤ b → min a b ≡ a
          fits a b low = omega (arith, low)

  -- An identifier has no more sectors than the disc.
  pub few_sectors : (id : ℕ) → length (id_sectors x.m id) ≤ 2 ^ 40
  few_sectors id =
      let facts = new_facts x.m x.agreed.is_map in
      let some = shape.some in
      let most = length-le_from_distinct_below (id_sectors x.m id) (disc_sectors y) (std_Distinct (id_sectors x.m id) (id_Distinct x.m shape x.agreed.is_map.right facts.zones id)) (λ s e.
      (let p = holder_of g (id_runs x.m id) s (std_any s (id_sectors x.m id) e) in
      let p_in = id_run_in x.m id p.0 facts.zones p.1.0 in
      run_on_disc x.m shape x.agreed.is_map.right facts.zones facts.begun p.0 s p_in.0 p.1.1)) in
      let bytes = facts.bytes in
      let less = div-le_self (g.disc_bits * g.bit_bytes) g.sector in
      omega (arith, most, bytes, less)

  -- ---- what is stirred

  abbrev pub stir : Stir
  stir = stir_of x.m (parts_with x.m x.nodes x.owners) x.job x.wants

  abbrev pub changed : List ℕ
  changed = (stir_of x.m (parts_with x.m x.nodes x.owners) x.job x.wants).changed

  abbrev pub leaving : List ℕ
  leaving = (stir_of x.m (parts_with x.m x.nodes x.owners) x.job x.wants).leaving

  abbrev pub longer : Option Longer
  longer = longer_of x.m.geometry x.wants.grows

  -- ---- the size that the directory then has

  bounds : (is_in_range 2048 4194304 x.growth.len ≡ true) × ((x.growth.len % 2048 == 0) ≡ true)
  bounds = and_parts (is_in_range 2048 4194304 x.growth.len) (x.growth.len % 2048 == 0) x.big

  pub long : 2048 ≤ x.growth.len
  long = leb-true 2048 x.growth.len (and_parts (nat_le 2048 x.growth.len) (nat_le x.growth.len 4194304) bounds.0).0

  pub short : x.growth.len < 2 ^ 32
  short = let high = leb-true x.growth.len 4194304 (and_parts (nat_le 2048 x.growth.len) (nat_le x.growth.len 4194304) bounds.0).1 in omega (arith, high)

  -- It is a whole number of sectors.
  pub whole : x.growth.len / x.m.geometry.sector ≡ div_ceil x.growth.len x.m.geometry.sector
  whole =
      let even = eqb-true (x.growth.len % 2048) 0 bounds.1 in
      elim (new_facts x.m x.agreed.is_map).size [
        | inl a ↦ subst (λ (n : ℕ). x.growth.len / n ≡ div_ceil x.growth.len n) (sym a) (omega (arith, even))
        | inr b ↦ elim b [
          | inl c ↦ subst (λ (n : ℕ). x.growth.len / n ≡ div_ceil x.growth.len n) (sym c) (omega (arith, even))
          | inr e ↦ subst (λ (n : ℕ). x.growth.len / n ≡ div_ceil x.growth.len n) (sym e) (omega (arith, even))
        ]
      ]

  -- Who goes or is copied leaves its identifier.
  pub goes_too : (n : ℕ) → is_one_of (leaving_of x.wants None) n ≡ true → is_one_of (stir_of x.m (parts_with x.m x.nodes x.owners) x.job x.wants).leaving n ≡ true
  goes_too n e =
      let goes = option_to_list x.wants.goes in
      let copied = option_to_list x.wants.copied in
      let last = node_of (moving_out x.m h x.wants.grows) in
      let is : ℕ → Bool = λ k. k == n in
      any_append is goes (copied ++ last) ∙ ap (λ (b : Bool). is_one_of goes n || b) (any_append is copied last)
      ∙ by (is_one_of goes n) (is_one_of copied n) (is_one_of last n) (sym (any_append is goes (copied ++ []) ∙ ap (λ (b : Bool). is_one_of goes n || b) (any_append is copied [])) ∙ e)
    where
      by : (a b c : Bool) → (a || (b || false)) ≡ true → (a || (b || c)) ≡ true
      by true b c f = refl
      by false true c f = refl
      by false false c f = absurd (cc)

  sector_high : g.sector ≤ 1024
  sector_high = elim (new_facts x.m x.agreed.is_map).size [ inl a ↦ omega (arith, a) | inr b ↦ elim b [ inl c ↦ omega (arith, c) | inr e ↦ omega (arith, e) ] ]

  -- The grown directory has some sectors, and not too many.
  pub grown_some : 0 < x.growth.len / x.m.geometry.sector
  grown_some =
      let size = sector_high in
      let high = long in
      let below = le-div 1 x.growth.len g.sector shape.some (omega (arith, size, high)) in
      omega (arith, below)

  pub grown_few : x.growth.len / x.m.geometry.sector < 2 ^ 32
  grown_few = let down = div-le_self x.growth.len g.sector in let most = short in omega (arith, down, most)

  -- and so has each owner then
  then_sized : (o : Owner) → 0 < o.sectors → o.first + o.sectors < 2 ^ 41 → IsSized longer o
  then_sized o some few = subst (λ (q : Option Growth). IsSized (longer_of g q) o) (sym x.grows) (record { some = some_by (o.node == x.growth.node); few = few_by (o.node == x.growth.node) })
    where
      some_by : (b : Bool) → (let n : ℕ = cond b (x.growth.len / g.sector) o.sectors in 0 < n)
      some_by true = grown_some
      some_by false = some

      few_by : (b : Bool) → (let n : ℕ = cond b (x.growth.len / g.sector) o.sectors in o.first + n < 2 ^ 48)
      few_by true = let more = grown_few in omega (arith, more, few)
      few_by false = omega (arith, few)

  -- what is known of every owner
  pub placed_owner : (o : Owner) → Contains x.owners o → IsPlacedOwner x.m.geometry (longer_of x.m.geometry x.wants.grows) o
  placed_owner o at =
      let p = owner_object o at in
      let l = lies_in p.0 p.1 p.2 in
      let few = few_sectors (id_of p.0.entry.address) in
      let room = l.room in
      let id = owner_low x.m h v view (id_of p.0.entry.address) p.0 p.1 (ap₂ (λ (a b : Bool). a && b) p.2 (eq-eqb (id_of p.0.entry.address) (id_of p.0.entry.address) refl)) in
      subst (IsPlacedOwner g longer) p.3
      (record { sized = then_sized (owner_of x.nodes y p.0) (ltb-true 0 (length p.0.sectors) p.2) (omega (arith, room, few)); id_low = id.0; id_high = id.1 })

  -- ---- the directories that change

  -- that of a node is an object with sectors, in an identifier that isn't the map's
  pub record IsChanged (n : ℕ) (d : Object) : Type 0 where
    pub there : Contains (objects_of x.listings) d
    pub some : has_sectors d ≡ true
    pub number : number_of x.nodes d.path ≡ Some n
    pub high : 3 ≤ id_of d.entry.address
    pub own_in : Contains x.owners (owner_of x.nodes y d)
    pub own_node : (owner_of x.nodes y d).node ≡ n
    pub own_found : find (is_node n) x.owners ≡ Some (owner_of x.nodes y d)

  pub changed_object : (n : ℕ) → is_one_of changed n ≡ true → (l : Listing) × Contains x.listings l × IsChanged n l.object
  changed_object n e =
      let t = x.told n e in
      let dir = listed_directory y x.listings sound t.0 t.1 in
      let sector = dir_sector x.kind x.m x.nodes x.owners x.root x.listings x.agreed t.0 t.1 in
      let some = some_there t.0.object.sectors sector.0 sector.1 in
      let own = owner_in t.0.object dir.0 some in (
        t.0,
        t.1,
        record {
          there = dir.0;
          some = some;
          number = t.2;
          high = above t.0.object dir.0 dir.1 (placed_owner (owner_of x.nodes y t.0.object) own).id_low;
          own_in = own;
          own_node = ap (λ (r : Option ℕ). unwrap_or r 0) t.2;
          own_found = owner_is y x.nodes x.listings x.owners t.0.object n sound x.agreed.walked.held x.agreed.owned t.2 dir.0
              ∙ ap (λ (b : Bool). cond b (Some (owner_of x.nodes y t.0.object)) None) some;
        },
      )
    where
      above : (d : Object) → Contains (objects_of x.listings) d → is_directory_object d ≡ true → 2 ≤ id_of d.entry.address → 3 ≤ id_of d.entry.address
      above d at dir low = elim (cases_eq (id_of d.entry.address) 2) [
        | inl two ↦ absurd (
            let has = x.agreed.walked.held.each d at in
            let not_low : is_low_directory d.entry ≡ false = sym (ap low_there has.is) ∙ x.suits.1 has.number in
            let is_low : is_low_directory d.entry ≡ true = ap₂ (λ (a b : Bool). a && b) dir (eq-eqb (id_of d.entry.address) 2 two) in cc)
        | inr other ↦ more (id_of d.entry.address) low other
      ]
        where
          more : (k : ℕ) → 2 ≤ k → (k ≡ 2 → ⊥) → 3 ≤ k
          more k least not_two = elim (cases_lt 2 k) [
            | inl less ↦ omega (arith, less)
            | inr most ↦ absurd (not_two (omega (arith, least, most)))
          ]

  -- ---- the identifiers that move

  -- the identifier holds a directory that changes and stays in it
  abbrev pub moves : ℕ → Bool
  moves k = holds_changed (stir_of x.m (parts_with x.m x.nodes x.owners) x.job x.wants).changed (stir_of x.m (parts_with x.m x.nodes x.owners) x.job x.wants).leaving x.owners k

  abbrev pub ids : List ℕ
  ids = changed_ids x.m.geometry (stir_of x.m (parts_with x.m x.nodes x.owners) x.job x.wants).changed (stir_of x.m (parts_with x.m x.nodes x.owners) x.job x.wants).leaving x.owners

  pub changed_remains : (n : ℕ) → is_one_of leaving n ≡ false → (d : Object) → IsChanged n d → remains leaving (id_of d.entry.address) (owner_of x.nodes y d) ≡ true
  changed_remains n stay d is = ap₂ (λ (a b : Bool). a && not b) (eq-eqb (id_of d.entry.address) (id_of d.entry.address) refl) (ap (is_one_of leaving) is.own_node ∙ stay)

  -- that of a directory that changes does, if it stays
  pub changed_moves : (n : ℕ) → is_one_of changed n ≡ true → is_one_of leaving n ≡ false → (d : Object) → IsChanged n d → moves (id_of d.entry.address) ≡ true
  changed_moves n e stay d is =
      any_of (λ (o : Owner). is_one_of changed o.node && remains leaving (id_of d.entry.address) o) x.owners (owner_of x.nodes y d) is.own_in
      (ap₂ (λ (a b : Bool). a && b) (ap (is_one_of changed) is.own_node ∙ e) (changed_remains n stay d is))

  -- whichever does is that of one
  pub record MovesBy (k n : ℕ) (d : Object) : Type 0 where
    pub changes : is_one_of changed n ≡ true
    pub stays : is_one_of leaving n ≡ false
    pub is : IsChanged n d
    pub id : id_of d.entry.address ≡ k

  pub moves_of : (k : ℕ) → moves k ≡ true → (n : ℕ) × (d : Object) × MovesBy k n d
  moves_of k e =
      let r = found_of (λ (o : Owner). is_one_of changed o.node && remains leaving k o) x.owners e in
      let both = and_parts (is_one_of changed r.0.node) (remains leaving k r.0) r.2 in
      let stays = and_parts (r.0.id == k) (not (is_one_of leaving r.0.node)) both.1 in
      let c = changed_object r.0.node both.0 in
      let one = (only_owner y x.nodes x.listings x.owners c.0.object r.0.node sound x.agreed.walked.held x.agreed.owned c.2.number c.2.there r.0 r.1 refl).0 in (
        r.0.node,
        c.0.object,
        record { changes = both.0; stays = not_one (is_one_of leaving r.0.node) stays.1; is = c.2; id = ap (λ (o : Owner). o.id) (sym one) ∙ eqb-true r.0.id k stays.0 },
      )
    where
      not_one : (b : Bool) → not b ≡ true → b ≡ false
      not_one true e = absurd (cc)
      not_one false e = refl

  pub moves_high : (k : ℕ) → moves k ≡ true → (3 ≤ k) × (k < id_limit g)
  moves_high k e =
      let r = moves_of k e in
      let high = r.2.is.high in
      let low = (placed_owner (owner_of x.nodes y r.1) r.2.is.own_in).id_high in
      let same = r.2.id in
      (omega (arith, same, high), omega (arith, same, low))

  -- ---- how far one reaches

  -- the end of the last owner that stays in it
  abbrev pub end : ℕ → ℕ
  end k = last_end x.m.geometry (stir_of x.m (parts_with x.m x.nodes x.owners) x.job x.wants).leaving (longer_of x.m.geometry x.wants.grows) x.owners k

  ends_within : (k : ℕ) (o : Owner) → Contains x.owners o → remains leaving k o ≡ true → (o.first + sectors_then longer o) * g.sector ≤ end k
  ends_within k o at stays = most_above (end_then g longer) 0 (filter (remains leaving k) x.owners) o (in_filter (remains leaving k) x.owners o at stays)

  pub sector_end : (k : ℕ) (o : Owner) → Contains x.owners o → remains leaving k o ≡ true → o.first + sectors_then longer o ≤ div_ceil (end k) g.sector
  sector_end k o at stays =
      cancel (o.first + sectors_then longer o) (div_ceil (end k) g.sector) g.sector shape.some (let inside = ends_within k o at stays in let whole = (div_ceil_times (end k) g.sector shape.some).0 in omega (arith, inside, whole))
    where
      cancel : (a b n : ℕ) → 0 < n → a * n ≤ b * n → a ≤ b
      cancel a b n some low = elim (cases_lt b a) [
        | inl less ↦ absurd (let more = mul-le-mul_right {m = suc b} {n = a} n (omega (arith, less)) in omega (arith, more, low, some))
        | inr fits ↦ fits
      ]

  pub end_some : (k : ℕ) → moves k ≡ true → 0 < end k
  end_some k e =
      let r = found_of (λ (o : Owner). is_one_of changed o.node && remains leaving k o) x.owners e in
      let inside = ends_within k r.0 r.1 (and_parts (is_one_of changed r.0.node) (remains leaving k r.0) r.2).1 in
      let sized = (placed_owner r.0 r.1).sized.some in
      let more = mul-le-mul_right {m = 1} {n = r.0.first + sectors_then longer r.0} g.sector (omega (arith, sized)) in
      let some = shape.some in
      omega (arith, inside, more, some)

  pub end_few : (k : ℕ) → end k ≤ 2 ^ 48 * 1024
  end_few k = most_below (end_then g longer) 0 (2 ^ 48 * 1024) (filter (remains leaving k) x.owners) (omega arith) (λ o at.
      (let few = (placed_owner o (from_kept (remains leaving k) x.owners o at).0).sized.few in
      let size = sector_high in
      mul-le (o.first + sectors_then longer o) g.sector (2 ^ 48) 1024 (omega (arith, few)) size))

  -- ---- what is needed

  -- the bytes of a new object that need space of their own
  abbrev pub own_bytes : ℕ
  own_bytes = bytes_left x.m x.owners x.wants

  pub own_few : own_bytes < 2 ^ 32
  own_few = by (is_some (slack_for x.m x.owners x.wants))
    where
      by : (b : Bool) → (let n : ℕ = cond b 0 x.wants.bytes in n) < 2 ^ 32
      by true = omega arith
      by false = x.few

  -- the object's own, if it has some, one for each identifier that moves, and one for the grown directory, if it leaves its own
  pub needs_are : first_needs x.m h x.job x.wants ≡ own_need own_bytes ++ (map (need_of end) ids ++ out_need (moving_out x.m h x.wants.grows))
  needs_are = refl
