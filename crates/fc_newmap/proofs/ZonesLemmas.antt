-- Commits of a map of which nothing or something has changed.
use Rattle.std.proofs.Common.{◌≡◌, ◌<◌, ℕ, suc, true, List, [], ◌∷◌, length, get_or, refl, sym, ap, ap₂, subst, ◌∙◌, arith, inl, Some, IsFalse}
use Rattle.std.specs.Prelude.{Contains, Ok}
use Rattle.std.specs.List.{range_with_len}
use Rattle.std.specs.Option.{ForSome}
use Rattle.std.proofs.lemmas.List.{length-map}
use Rattle.std.proofs.lemmas.List.FromFn.{length-range_with_len}
use Rattle.fc_device.specs.Sectors.{sector_at}
use Rattle.fc_device.specs.declared.disk.Disk.{Ghosts}
use Rattle.fc_device.specs.Stops.{Keeps}
use Rattle.fc_device.proofs.DiskLaws.{Laws}
use Rattle.fc_device.proofs.StopLemmas.{started}
use Rattle.fc_newmap.specs.Map.{Map}
use Rattle.fc_newmap.specs.NewMap.{IsNewMap}
use Rattle.fc_newmap.specs.declared.copies.Which.TheVariants.{One}
use Rattle.fc_newmap.specs.Committing.{CanWrite}
use Rattle.fc_newmap.specs.Copies.{ChangesCopies, CommitEnds, CommitLeaves, HoldsCopies, chosen, copy_of, copy_start, is_sound}

pub same_sectors : (xs ys : List (List ℕ)) → length xs ≡ length ys → ((k : ℕ) → k < length xs → get_or xs k [] ≡ get_or ys k []) → xs ≡ ys
same_sectors [] [] long same = refl
same_sectors [] (y ∷ ys) long same = absurd (omega (arith, long))
same_sectors (x ∷ xs) [] long same = absurd (omega (arith, long))
same_sectors (x ∷ xs) (y ∷ ys) long same =
    ap₂ (λ (z : List ℕ) (zs : List (List ℕ)). z ∷ zs) (same 0 (omega arith)) (same_sectors xs ys (omega (arith, long)) (λ k low. same (suc k) (omega (arith, low))))

nothing_in_none : (z : ℕ) → Contains (let none : List ℕ = [] in none) z → ⊥
nothing_in_none z at = omega (arith, at.1)

module _ (m : Map) (is : IsNewMap m) (image : List ℕ) (ready : CanWrite m [] image) where
  base_long : length ready.base ≡ m.geometry.zones
  base_long = ap (λ (zs : List (List ℕ)). length zs) (sym ready.copies.first) ∙ length-map (range_with_len (copy_start m.geometry One) m.geometry.zones) (sector_at m.geometry.sector image)
      ∙ length-range_with_len (copy_start m.geometry One) m.geometry.zones

  zones_are : m.zones ≡ ready.base
  zones_are = same_sectors m.zones ready.base (is.all ∙ sym base_long) (λ z low. ready.others z (let all = is.all in omega (arith, low, all)) (nothing_in_none z))

  -- the copies are the map's
  pub holds : HoldsCopies m.geometry m.zones image
  holds = subst (λ (zs : List (List ℕ)). HoldsCopies m.geometry zs image) (sym zones_are) ready.copies

  frame_same : ChangesCopies m.geometry image image
  frame_same = record { same_length = refl; outside = λ s there. refl }

  pub ends_at_once : CommitEnds m.geometry image m.zones image
  ends_at_once = record { frame = frame_same; copies = holds }

  first_sound : is_sound (copy_of m.geometry One image) ≡ true
  first_sound = ap is_sound ready.copies.first ∙ ready.copies.sound

  first_chosen : chosen m.geometry image ≡ Ok One
  unfolding chosen
  first_chosen = rw first_sound refl

  pub leaves_at_once : CommitLeaves m.geometry image (copy_of m.geometry One image) m.zones image
  leaves_at_once = record { frame = frame_same; content = inl (record { which = One; chosen_one = first_chosen; content = refl }) }

-- no call is made
pub keeps_at_once : {D : Type 0} {d : Ghosts D} (law : Laws d) (R : List ℕ → List ℕ → Type 0) (s : D) → IsFalse (d.pending s) → ((was : List ℕ) → d.bytes s ≡ Some was → R was was)
    → Keeps d.moment d.left_since d.bytes s s R
keeps_at_once {d = d} law R s quiet same = record {
  stops = started law s (λ image. ForSome (d.bytes s) (λ was. R was image)) (λ image left was told. subst (λ (i : List ℕ). R was i) (sym (law.settled s quiet was told image left)) (same was told));
  exit = λ was told. (was, told, same was told);
  told = λ image told. (image, told);
}
