-- Places of objects, by what is taken.
use Rattle.std.proofs.Common.{◌≡◌, ◌<◌, ℕ, Bool, true, false, cond, List, [], ◌∷◌, ◌++◌, not, refl, sym, ap, ap₂, subst, ◌∙◌, Some, None, Option}
use Rattle.std.specs.Prelude.{◌||◌, Result, Ok, Err}
use Rattle.std.specs.List.{list_any}
use Rattle.std.proofs.lemmas.Bool.{eq-eqb}
use Rattle.fc_newmap.proofs.PlaceLemmas.{in_front, in_back}
use Rattle.fc_names.specs.Names.{Path}
use Rattle.fc_dirs.specs.declared.Entry.{Entry}
use Rattle.fc_image.specs.declared.ImageFault.{ImageFault}
use Rattle.fc_image.specs.declared.ImageFault.TheVariants as faults
use Rattle.fc_image.specs.Layout.{Layout, dir_form, disc_sectors, is_among, is_apart, sectors_at}
use Rattle.fc_image.specs.Walk.{Object, object_of, object_size, placed_on}
use Rattle.fc_image.specs.Edits.{IsAt}
use Rattle.fc_space.specs.Space.{Suffice}
use Rattle.fc_tree.specs.Taken.{AreTaken, Marks, has_mark, is_free}

any_same : (m : Marks) (before : List ℕ) (xs : List ℕ) → AreTaken m before → ((s : ℕ) → is_among xs s ≡ true → s < m.sectors) → list_any (has_mark m) xs ≡ list_any (is_among before) xs
any_same m before [] taken low = refl
any_same m before (x ∷ xs) taken low =
    ap₂ (λ (a b : Bool). a || b) (taken x (low x (in_front (x ∷ []) xs x (ap (λ (b : Bool). b || false) (eq-eqb x x refl)))))
    (any_same m before xs taken (λ s e. low s (in_back (x ∷ []) xs s e)))

-- sectors of the disc are free that are apart from what is taken
pub free_apart : (m : Marks) (before xs : List ℕ) → AreTaken m before → ((s : ℕ) → is_among xs s ≡ true → s < m.sectors) → is_free m xs ≡ is_apart xs before
free_apart m before xs taken low = ap not (any_same m before xs taken low) ∙ as_not (list_any (is_among before) xs)
  where
    as_not : (b : Bool) → not b ≡ cond b false true
    as_not true = refl
    as_not false = refl

module _ (layout : Layout) (m : Marks) (before : List ℕ) (path : Path) (e : Entry) (xs : List ℕ) (bytes : ℕ) (disc : m.sectors ≡ disc_sectors layout) (taken : AreTaken m before)
    (size : bytes ≡ object_size (dir_form layout) e) (place : sectors_at layout e.address bytes ≡ Some xs) (suffice : Suffice layout bytes xs) where
  judged : (free : Bool) → free ≡ is_free m xs → object_of layout before path e ≡ cond free (Ok (record { path = path; entry = e; sectors = xs })) (Err (faults.Overlap path))
  judged free is =
      ap (λ (n : ℕ). placed_on before path e (sectors_at layout e.address n)) (sym size) ∙ ap (placed_on before path e) place
      ∙ ap (λ (b : Bool). let r : Result Object ImageFault = cond b (Ok (record { path = path; entry = e; sectors = xs })) (Err (faults.Overlap path)) in r)
      (sym (is ∙ free_apart m before xs taken (λ s h. subst (λ (n : ℕ). s < n) (sym disc) (suffice.on_disc s h))))

  pub claimed : (m' : Marks) (free : Bool) → free ≡ is_free m xs → free ≡ true → ((t : List ℕ) → AreTaken m t → AreTaken m' (xs ++ t))
      → (o : Object) × (object_of layout before path e ≡ Ok o) × AreTaken m' (o.sectors ++ before)
  claimed m' free is right takes = (
    record { path = path; entry = e; sectors = xs },
    judged free is ∙ ap (λ (b : Bool). let r : Result Object ImageFault = cond b (Ok (record { path = path; entry = e; sectors = xs })) (Err (faults.Overlap path)) in r) right,
    takes before taken,
  )

  pub refused : (free : Bool) → free ≡ is_free m xs → free ≡ false → object_of layout before path e ≡ Err (faults.Overlap path)
  refused free is wrong =
      judged free is ∙ ap (λ (b : Bool). let r : Result Object ImageFault = cond b (Ok (record { path = path; entry = e; sectors = xs })) (Err (faults.Overlap path)) in r) wrong

-- what an object has by its entry
pub object_is : (layout : Layout) (before : List ℕ) (path : Path) (e : Entry) (o : Object) → object_of layout before path e ≡ Ok o
    → (o.path ≡ path) × (o.entry ≡ e) × IsAt layout o × (is_apart o.sectors before ≡ true)
object_is layout before path e o h = by (sectors_at layout e.address (object_size (dir_form layout) e)) refl h
  where
    ok_same : (x y : Object) → (let r : Result Object ImageFault = Ok x in r) ≡ Ok y → x ≡ y
    ok_same x y f = cc

    by : (place : Option (List ℕ)) → sectors_at layout e.address (object_size (dir_form layout) e) ≡ place → placed_on before path e place ≡ Ok o
        → (o.path ≡ path) × (o.entry ≡ e) × IsAt layout o × (is_apart o.sectors before ≡ true)
    by None is f = absurd (cc)
    by (Some xs) is f = on (is_apart xs before) refl f
      where
        on : (b : Bool) → is_apart xs before ≡ b → cond b (Ok (record { path = path; entry = e; sectors = xs })) (Err (faults.Overlap path)) ≡ Ok o
            → (o.path ≡ path) × (o.entry ≡ e) × IsAt layout o × (is_apart o.sectors before ≡ true)
        on true free g =
            let same : record { path = path; entry = e; sectors = xs } ≡ o = ok_same _ o g in (
              sym (ap (λ (x : Object). x.path) same),
              sym (ap (λ (x : Object). x.entry) same),
              subst (λ (x : Object). IsAt layout x) same is,
              subst (λ (x : Object). is_apart x.sectors before ≡ true) same free,
            )
        on false free g = absurd (cc)
