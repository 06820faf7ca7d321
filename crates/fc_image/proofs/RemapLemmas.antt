-- Walks in which each sector is another.
use Rattle.std.proofs.Common.{◌≡◌, ◌≤◌, ℕ, zero, suc, ◌+◌, Bool, true, false, cond, List, [], ◌∷◌, ◌++◌, length, map, refl, sym, ap, ap₂, subst, ◌∙◌, inl, inr, ◌⊎◌, arith, Some, None, Option, take, drop}
use Rattle.std.specs.Prelude.{Result, Ok, Err, filter, nat_le, ◌==◌, ◌||◌}
use Rattle.std.proofs.lemmas.Bool.{eqb-true, eq-eqb, ne_eqb, leb-true, le-leb}
use Rattle.std.proofs.lemmas.List.{length-map, length-append}
use Rattle.fc_device.specs.Sectors.{sector_at}
use Rattle.fc_newmap.proofs.PlaceLemmas.{in_back, in_either}
use Rattle.fc_newmap.proofs.CoverLemmas.{Distinct}
use Rattle.fc_names.specs.Names.{Path}
use Rattle.fc_dirs.specs.declared.Entry.{Entry}
use Rattle.fc_dirs.specs.Directory.{entries_of, directory_size}
use Rattle.fc_image.specs.declared.ImageFault.{ImageFault}
use Rattle.fc_image.specs.declared.ImageFault.TheVariants as faults
use Rattle.fc_image.specs.Layout.{Layout, dir_form, disc_sectors, first_part, sectors_at, is_among, is_apart}
use Rattle.fc_image.specs.Walk.{Object, Listing, Reader, at_path, object_of, placed_on, children_of, is_directory_object, object_size, listings_from, root_entry, walk}
use Rattle.fc_image.specs.Moves.{Carried}
use Rattle.fc_image.proofs.WalkLemmas.{bind_ok}
use Rattle.fc_image.proofs.HolesLemmas.{Each, Each-append, Each-filter, children_each, apart_from, apart_at}
use Rattle.fc_image.proofs.EditLemmas.{ok_object, ok_children, ok_listings}

-- ---- a list of sectors for another

-- where the sector is in the first list, the one at its place in the second
unfoldable pub moved_to : List ℕ → List ℕ → ℕ → ℕ
moved_to [] new s = s
moved_to (o ∷ old) [] s = s
moved_to (o ∷ old) (n ∷ new) s = cond (o == s) n (moved_to old new s)

pub map_agree : (f g : ℕ → ℕ) (xs : List ℕ) → ((s : ℕ) → is_among xs s ≡ true → f s ≡ g s) → map f xs ≡ map g xs
map_agree f g [] same = refl
map_agree f g (x ∷ xs) same =
    ap₂ (λ (y : ℕ) (ys : List ℕ). y ∷ ys) (same x (ap (λ b. b || is_among xs x) (eq-eqb x x refl))) (map_agree f g xs (λ s e. same s (in_back (x ∷ []) xs s e)))

pub map_fixed : (f : ℕ → ℕ) (xs : List ℕ) → ((s : ℕ) → is_among xs s ≡ true → f s ≡ s) → map f xs ≡ xs
map_fixed f [] same = refl
map_fixed f (x ∷ xs) same =
    ap₂ (λ (y : ℕ) (ys : List ℕ). y ∷ ys) (same x (ap (λ b. b || is_among xs x) (eq-eqb x x refl))) (map_fixed f xs (λ s e. same s (in_back (x ∷ []) xs s e)))

pub in_map : (f : ℕ → ℕ) (xs : List ℕ) (t : ℕ) → is_among (map f xs) t ≡ true → (s : ℕ) × ((is_among xs s ≡ true) × (f s ≡ t))
in_map f [] t e = absurd (cc)
in_map f (x ∷ xs) t e = by (f x == t) refl e (in_map f xs t)
  where
    by : (b : Bool) → (f x == t) ≡ b → (b || is_among (map f xs) t) ≡ true → (is_among (map f xs) t ≡ true → (s : ℕ) × ((is_among xs s ≡ true) × (f s ≡ t)))
        → (s : ℕ) × ((is_among (x ∷ xs) s ≡ true) × (f s ≡ t))
    by true h g more = (x, (ap (λ b. b || is_among xs x) (eq-eqb x x refl), eqb-true (f x) t h))
    by false h g more = let r = more g in (r.0, (in_back (x ∷ []) xs r.0 r.1.0, r.1.1))

module _ (size : ℕ) (image other holes : List ℕ) where
  pub moved_out : (old new : List ℕ) (s : ℕ) → is_among old s ≡ false → moved_to old new s ≡ s
  unfolding moved_to
  moved_out [] new s e = refl
  moved_out (o ∷ old) [] s e = refl
  moved_out (o ∷ old) (n ∷ new) s e = by (o == s) e (moved_out old new s)
    where
      by : (b : Bool) → (b || is_among old s) ≡ false → (is_among old s ≡ false → moved_to old new s ≡ s) → cond b n (moved_to old new s) ≡ s
      by true f more = absurd (cc)
      by false f more = more f

  pub moved_in : (old new : List ℕ) (s : ℕ) → Carried size image other holes old new → is_among old s ≡ true
      → (is_among new (moved_to old new s) ≡ true) × (sector_at size other (moved_to old new s) ≡ sector_at size image s)
      × ((moved_to old new s ≡ s) ⊎ (is_among holes (moved_to old new s) ≡ true))
  unfolding moved_to
  moved_in [] new s c e = absurd (cc)
  moved_in (o ∷ old) [] s c e = absurd c
  moved_in (o ∷ old) (n ∷ new) s c e = by (o == s) refl e (moved_in old new s c.2)
    where
      by : (b : Bool) → (o == s) ≡ b → (b || is_among old s) ≡ true
          → (is_among old s ≡ true → (is_among new (moved_to old new s) ≡ true) × (sector_at size other (moved_to old new s) ≡ sector_at size image s)
          × ((moved_to old new s ≡ s) ⊎ (is_among holes (moved_to old new s) ≡ true)))
          → (is_among (n ∷ new) (cond b n (moved_to old new s)) ≡ true) × (sector_at size other (cond b n (moved_to old new s)) ≡ sector_at size image s)
          × ((cond b n (moved_to old new s) ≡ s) ⊎ (is_among holes (cond b n (moved_to old new s)) ≡ true))
      by true h f more =
          let same = eqb-true o s h in (
            ap (λ b. b || is_among new n) (eq-eqb n n refl),
            c.0 ∙ ap (sector_at size image) same,
            subst (λ (k : ℕ). (n ≡ k) ⊎ (is_among holes n ≡ true)) same c.1,
          )
      by false h f more = let r = more f in (in_back (n ∷ []) new (moved_to old new s) r.0, r.1, r.2)

  pub map_moved : (old new : List ℕ) → Distinct old → Carried size image other holes old new → (extra : List ℕ) × (new ≡ map (moved_to old new) old ++ extra)
  unfolding moved_to
  map_moved [] new d c = (new, refl)
  map_moved (o ∷ old) [] d c = absurd c
  map_moved (o ∷ old) (n ∷ new) d c =
      let rest = map_moved old new d.1 c.2 in
      let here : moved_to (o ∷ old) (n ∷ new) o ≡ n = ap (λ b. cond b n (moved_to old new o)) (eq-eqb o o refl) in
      let later : map (moved_to (o ∷ old) (n ∷ new)) old ≡ map (moved_to old new) old =
      map_agree (moved_to (o ∷ old) (n ∷ new)) (moved_to old new) old
      (λ s e. ap (λ b. cond b n (moved_to old new s)) (ne_eqb o s (λ same. let yes = subst (λ (k : ℕ). is_among old k ≡ true) (sym same) e in let no = d.0 in cc))) in
      (rest.0, ap (λ (ys : List ℕ). n ∷ ys) rest.1 ∙ ap₂ (λ (y : ℕ) (ys : List ℕ). y ∷ (ys ++ rest.0)) (sym here) (sym later))

  pub moved_one : (old new : List ℕ) (s t : ℕ) → Distinct new → Carried size image other holes old new → is_among old s ≡ true → is_among old t ≡ true
      → moved_to old new s ≡ moved_to old new t → s ≡ t
  unfolding moved_to
  moved_one [] new s t d c a b e = absurd (cc)
  moved_one (o ∷ old) [] s t d c a b e = absurd c
  moved_one (o ∷ old) (n ∷ new) s t d c a b e = by (o == s) (o == t) refl refl a b e (moved_one old new s t d.1 c.2)
    where
      by : (x y : Bool) → (o == s) ≡ x → (o == t) ≡ y → (x || is_among old s) ≡ true → (y || is_among old t) ≡ true
          → cond x n (moved_to old new s) ≡ cond y n (moved_to old new t)
          → (is_among old s ≡ true → is_among old t ≡ true → moved_to old new s ≡ moved_to old new t → s ≡ t) → s ≡ t
      by true true h k f g same more = sym (eqb-true o s h) ∙ eqb-true o t k
      by true false h k f g same more =
          absurd (let yes = subst (λ (z : ℕ). is_among new z ≡ true) (sym same) (moved_in old new t c.2 g).0 in let no = d.0 in cc)
      by false true h k f g same more =
          absurd (let yes = subst (λ (z : ℕ). is_among new z ≡ true) same (moved_in old new s c.2 f).0 in let no = d.0 in cc)
      by false false h k f g same more = more f g same

  -- two sectors that lie in no hole stay two
  pub moved_apart : (old new : List ℕ) (s t : ℕ) → Distinct new → Carried size image other holes old new → is_among holes s ≡ false → is_among holes t ≡ false
      → moved_to old new s ≡ moved_to old new t → s ≡ t
  moved_apart old new s t d c free_s free_t e = by (is_among old s) (is_among old t) refl refl
    where
      stays : (x y : ℕ) → is_among old x ≡ true → is_among old y ≡ false → is_among holes y ≡ false → moved_to old new x ≡ moved_to old new y → x ≡ y
      stays x y within without free same =
          let there : moved_to old new x ≡ y = same ∙ moved_out old new y without in
          elim (moved_in old new x c within).2 [
            | inl here ↦ sym here ∙ there
            | inr hole ↦ absurd (let h = subst (λ (z : ℕ). is_among holes z ≡ true) there hole in cc)
          ]

      by : (a b : Bool) → is_among old s ≡ a → is_among old t ≡ b → s ≡ t
      by true true h k = moved_one old new s t d c h k e
      by true false h k = stays s t h k free_t e
      by false true h k = sym (stays t s k h free_s (sym e))
      by false false h k = sym (moved_out old new s h) ∙ e ∙ moved_out old new t k

-- ---- parts of lists

take_same : (f : ℕ → ℕ) (k : ℕ) (xs extra : List ℕ) → k ≤ length xs → take k (map f xs ++ extra) ≡ map f (take k xs)
take_same f zero xs extra low = refl
take_same f (suc k) [] extra low = absurd (omega arith)
take_same f (suc k) (x ∷ xs) extra low = ap (λ (ys : List ℕ). f x ∷ ys) (take_same f k xs extra (omega arith))

first_here : (f : ℕ → ℕ) (k : ℕ) (xs extra sectors : List ℕ) → first_part k xs ≡ Some sectors → first_part k (map f xs ++ extra) ≡ Some (map f sectors)
first_here f k xs extra sectors e = by (nat_le k (length xs)) refl e
  where
    some_same : (a b : List ℕ) → Some a ≡ Some b → a ≡ b
    some_same a b g = cc

    by : (b : Bool) → nat_le k (length xs) ≡ b → cond b (Some (take k xs)) None ≡ Some sectors → first_part k (map f xs ++ extra) ≡ Some (map f sectors)
    by false h g = absurd (cc)
    by true h g =
        let low = leb-true k (length xs) h in
        let long : nat_le k (length (map f xs ++ extra)) ≡ true = le-leb k (length (map f xs ++ extra)) (omega (arith, length-append (map f xs) extra, length-map xs f)) in
        ap (λ b. cond b (Some (take k (map f xs ++ extra))) None) long ∙ ap (λ (ys : List ℕ). Some ys) (take_same f k xs extra low ∙ ap (map f) (some_same (take k xs) sectors g))

too_few : (k : ℕ) (sectors : List ℕ) → first_part (suc k) [] ≡ Some sectors → ⊥
too_few k sectors e = by (nat_le (suc k) 0) refl e
  where
    by : (b : Bool) → nat_le (suc k) 0 ≡ b → cond b (Some (take (suc k) [])) None ≡ Some sectors → ⊥
    by true h g = let low = leb-true (suc k) 0 h in omega arith
    by false h g = cc

pub first_same : (f : ℕ → ℕ) (k j : ℕ) (xs extra sectors : List ℕ) → first_part k (drop j xs) ≡ Some sectors → first_part k (drop j (map f xs ++ extra)) ≡ Some (map f sectors)
first_same f k zero xs extra sectors e = first_here f k xs extra sectors e
first_same f zero (suc j) [] extra sectors e = first_here f zero [] (drop (suc j) extra) sectors e
first_same f (suc k) (suc j) [] extra sectors e = absurd (too_few k sectors e)
first_same f k (suc j) (x ∷ xs) extra sectors e = first_same f k j xs extra sectors e

map_append : (f : ℕ → ℕ) (xs ys : List ℕ) → map f (xs ++ ys) ≡ map f xs ++ map f ys
map_append f [] ys = refl
map_append f (x ∷ xs) ys = ap (λ (zs : List ℕ). f x ∷ zs) (map_append f xs ys)

-- ---- the walk

abbrev pub carry : (ℕ → ℕ) → Object → Object
carry f o = record o { sectors = map f o.sectors }

abbrev pub carry_listing : (ℕ → ℕ) → Listing → Listing
carry_listing f l = record { object = carry f l.object; content = l.content; children = map (carry f) l.children }

carry_append : (f : ℕ → ℕ) (xs ys : List Object) → map (carry f) (xs ++ ys) ≡ map (carry f) xs ++ map (carry f) ys
carry_append f [] ys = refl
carry_append f (x ∷ xs) ys = ap (λ (zs : List Object). carry f x ∷ zs) (carry_append f xs ys)

carry_filter : (f : ℕ → ℕ) (xs : List Object) → map (carry f) (filter is_directory_object xs) ≡ filter is_directory_object (map (carry f) xs)
carry_filter f [] = refl
carry_filter f (x ∷ xs) = by (is_directory_object x) (carry_filter f xs)
  where
    by : (b : Bool) → map (carry f) (filter is_directory_object xs) ≡ filter is_directory_object (map (carry f) xs)
        → map (carry f) (cond b (x ∷ filter is_directory_object xs) (filter is_directory_object xs))
        ≡ cond b (carry f x ∷ filter is_directory_object (map (carry f) xs)) (filter is_directory_object (map (carry f) xs))
    by true e = ap (λ (zs : List Object). carry f x ∷ zs) e
    by false e = e

abbrev pub AllIn : (ℕ → Type 0) → List ℕ → Type 0
AllIn D xs = (s : ℕ) → is_among xs s ≡ true → D s

module _ (layout layout' : Layout) (f : ℕ → ℕ) (D : ℕ → Type 0) (read read' : Reader)
    (form : dir_form layout' ≡ dir_form layout) (disc : disc_sectors layout' ≡ disc_sectors layout)
    (sect : (a n : ℕ) (xs : List ℕ) → sectors_at layout a n ≡ Some xs → (sectors_at layout' a n ≡ Some (map f xs)) × AllIn D xs)
    (one : (s t : ℕ) → D s → D t → f s ≡ f t → s ≡ t)
    (P : Object → Type 0) (Q : List ℕ → Type 0)
    (step : (taken : List ℕ) (path : Path) (e : Entry) (o : Object) → Q taken → object_of layout taken path e ≡ Ok o → P o × Q (o.sectors ++ taken))
    (reads : (o : Object) → P o → read' (carry f o) ≡ read o) where
  carry_apart : (xs taken : List ℕ) → AllIn D xs → AllIn D taken → is_apart xs taken ≡ true → is_apart (map f xs) (map f taken) ≡ true
  carry_apart xs taken in_xs in_taken e =
      apart_from (map f xs) (map f taken) (λ s a b.
      let p = in_map f xs s a in
      let q = in_map f taken s b in
      let same = one p.0 q.0 (in_xs p.0 p.1.0) (in_taken q.0 q.1.0) (p.1.1 ∙ sym q.1.1) in
      let no = apart_at xs taken p.0 e p.1.0 in
      let yes = subst (λ (t : ℕ). is_among taken t ≡ true) (sym same) q.1.0 in
      cc)

  carry_object : (taken : List ℕ) (path : Path) (e : Entry) (o : Object) → AllIn D taken → object_of layout taken path e ≡ Ok o
      → (object_of layout' (map f taken) path e ≡ Ok (carry f o)) × AllIn D (o.sectors ++ taken)
  carry_object taken path e o within h = by (sectors_at layout e.address (object_size (dir_form layout) e)) refl h
    where
      then : (sectors : List ℕ) (b : Bool) → is_apart sectors taken ≡ b → sectors_at layout e.address (object_size (dir_form layout) e) ≡ Some sectors
          → cond b (Ok (record { path = path; entry = e; sectors = sectors })) (Err (faults.Overlap path)) ≡ Ok o
          → (object_of layout' (map f taken) path e ≡ Ok (carry f o)) × AllIn D (o.sectors ++ taken)
      then sectors false t k g = absurd (cc)
      then sectors true t k g =
          let is = ok_object (record { path = path; entry = e; sectors = sectors }) o g in
          let at = sect e.address (object_size (dir_form layout) e) sectors k in
          let apart = carry_apart sectors taken at.1 within t in
          let placed : sectors_at layout' e.address (object_size (dir_form layout') e) ≡ Some (map f sectors) = ap (λ n. sectors_at layout' e.address (object_size n e)) form ∙ at.0 in
          let there : Object = record { path = path; entry = e; sectors = map f sectors } in (
            ap (placed_on (map f taken) path e) placed
                ∙ ap (λ b. cond b (Ok there) (Err (faults.Overlap path))) apart
                ∙ ap (λ (x : Object). let q : Result Object ImageFault = Ok (carry f x) in q) is,
            subst (λ (x : Object). AllIn D (x.sectors ++ taken)) is (λ s i. elim (in_either sectors taken s i) [ Ok here ↦ at.1 s here | Err later ↦ within s later ]),
          )

      by : (s : Option (List ℕ)) → sectors_at layout e.address (object_size (dir_form layout) e) ≡ s → placed_on taken path e s ≡ Ok o
          → (object_of layout' (map f taken) path e ≡ Ok (carry f o)) × AllIn D (o.sectors ++ taken)
      by None k g = absurd (cc)
      by (Some sectors) k g = then sectors (is_apart sectors taken) refl k g

  carry_children : (taken : List ℕ) (path : Path) (entries : List Entry) (got : List Object × List ℕ) → AllIn D taken → children_of layout taken path entries ≡ Ok got
      → (children_of layout' (map f taken) path entries ≡ Ok (map (carry f) got.0, map f got.1)) × AllIn D got.1
  unfolding children_of
  carry_children taken path [] got within h =
      let is = ok_children ([], taken) got h in (
        ap (λ (g : List Object × List ℕ). let q : Result (List Object × List ℕ) ImageFault = Ok (map (carry f) g.0, map f g.1) in q) is,
        subst (λ (g : List Object × List ℕ). AllIn D g.1) is within,
      )
  carry_children taken path (e ∷ entries) got within h =
      let a = bind_ok (object_of layout taken (path ++ e.name ∷ []) e) _ got h in
      let b = bind_ok (children_of layout (a.0.sectors ++ taken) path entries) _ got a.2 in
      let first = carry_object taken (path ++ e.name ∷ []) e a.0 within a.1 in
      let rest = carry_children (a.0.sectors ++ taken) path entries b.0 first.1 b.1 in
      let is = ok_children (a.0 ∷ b.0.0, b.0.1) got b.2 in
      let next : children_of layout' (map f a.0.sectors ++ map f taken) path entries ≡ Ok (map (carry f) b.0.0, map f b.0.1) =
      subst (λ (xs : List ℕ). children_of layout' xs path entries ≡ Ok (map (carry f) b.0.0, map f b.0.1)) (map_append f a.0.sectors taken) rest.0 in (
        rw (first.0, next) (ap (λ (g : List Object × List ℕ). let q : Result (List Object × List ℕ) ImageFault = Ok (map (carry f) g.0, map f g.1) in q) is),
        subst (λ (g : List Object × List ℕ). AllIn D g.1) is rest.1,
      )

  carry_listings : (fuel : ℕ) (taken : List ℕ) (waiting : List Object) (listings : List Listing) → AllIn D taken → Q taken → Each P waiting
      → listings_from read layout fuel taken waiting ≡ Ok listings
      → listings_from read' layout' fuel (map f taken) (map (carry f) waiting) ≡ Ok (map (carry_listing f) listings)
  unfolding listings_from
  carry_listings zero taken [] listings within q w h = ap (λ (ls : List Listing). let q : Result (List Listing) ImageFault = Ok (map (carry_listing f) ls) in q) (ok_listings [] listings h)
  carry_listings zero taken (o ∷ waiting) listings within q w h = absurd (cc)
  carry_listings (suc fuel) taken [] listings within q w h = ap (λ (ls : List Listing). let q : Result (List Listing) ImageFault = Ok (map (carry_listing f) ls) in q) (ok_listings [] listings h)
  carry_listings (suc fuel) taken (o ∷ waiting) listings within q w h =
      let a = bind_ok (at_path o.path (read o)) _ listings h in
      let b = bind_ok (children_of layout taken o.path (entries_of a.0)) _ listings a.2 in
      let d = bind_ok (listings_from read layout fuel b.0.1 (waiting ++ filter is_directory_object b.0.0)) _ listings b.2 in
      let first : Listing = record { object = o; content = a.0; children = b.0.0 } in
      let same = ok_listings (first ∷ d.0) listings d.2 in
      let here : at_path o.path (read' (carry f o)) ≡ Ok a.0 = ap (at_path o.path) (reads o w.0) ∙ a.1 in
      let kids = carry_children taken o.path (entries_of a.0) b.0 within b.1 in
      let each = children_each read layout P Q step taken o.path (entries_of a.0) b.0 q b.1 in
      let next = Each-append P waiting (filter is_directory_object b.0.0) w.1 (Each-filter P is_directory_object b.0.0 each.0) in
      let queue : map (carry f) (waiting ++ filter is_directory_object b.0.0) ≡ map (carry f) waiting ++ filter is_directory_object (map (carry f) b.0.0) =
      carry_append f waiting (filter is_directory_object b.0.0) ∙ ap (λ (xs : List Object). map (carry f) waiting ++ xs) (carry_filter f b.0.0) in
      let rest : listings_from read' layout' fuel (map f b.0.1) (map (carry f) waiting ++ filter is_directory_object (map (carry f) b.0.0)) ≡ Ok (map (carry_listing f) d.0) =
      subst (λ (xs : List Object). listings_from read' layout' fuel (map f b.0.1) xs ≡ Ok (map (carry_listing f) d.0)) queue
      (carry_listings fuel b.0.1 (waiting ++ filter is_directory_object b.0.0) d.0 kids.1 each.1 next d.1) in
      rw (here, kids.0, rest) (ap (λ (ls : List Listing). let q : Result (List Listing) ImageFault = Ok (map (carry_listing f) ls) in q) same)

  pub carry_walk : (reserved : List ℕ) (address size : ℕ) (listings : List Listing) → AllIn D reserved → Q reserved → map f reserved ≡ reserved
      → walk read layout reserved address size ≡ Ok listings → walk read' layout' reserved address size ≡ Ok (map (carry_listing f) listings)
  unfolding walk
  carry_walk reserved address size listings within q fixed h =
      let e = root_entry address (directory_size (dir_form layout) size) in
      let root = bind_ok (object_of layout reserved [] e) _ listings h in
      let first = carry_object reserved [] e root.0 within root.1 in
      let start = step reserved [] e root.0 q root.1 in
      let entry : root_entry address (directory_size (dir_form layout') size) ≡ e = ap (λ n. root_entry address (directory_size n size)) form in
      let here : object_of layout' reserved [] (root_entry address (directory_size (dir_form layout') size)) ≡ Ok (carry f root.0) =
      ap (object_of layout' reserved []) entry ∙ subst (λ (xs : List ℕ). object_of layout' xs [] e ≡ Ok (carry f root.0)) fixed first.0 in
      let rest = carry_listings (disc_sectors layout + 1) (root.0.sectors ++ reserved) (root.0 ∷ []) listings first.1 start.1 (start.0, tt) root.2 in
      let taken : map f (root.0.sectors ++ reserved) ≡ map f root.0.sectors ++ reserved = map_append f root.0.sectors reserved ∙ ap (λ (xs : List ℕ). map f root.0.sectors ++ xs) fixed in
      let all : listings_from read' layout' (disc_sectors layout' + 1) (map f root.0.sectors ++ reserved) (carry f root.0 ∷ []) ≡ Ok (map (carry_listing f) listings) =
      ap (λ n. listings_from read' layout' (n + 1) (map f root.0.sectors ++ reserved) (carry f root.0 ∷ [])) disc
      ∙ subst (λ (xs : List ℕ). listings_from read' layout' (disc_sectors layout + 1) xs (carry f root.0 ∷ []) ≡ Ok (map (carry_listing f) listings)) taken rest in
      rw here all
