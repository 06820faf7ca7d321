-- Objects that lie apart, and what directories hold.
use Rattle.std.proofs.Common.{◌≡◌, ⊎_elim, ℕ, true, List, [], ◌∷◌, ◌++◌, map, refl, sym, subst}
use Rattle.std.specs.Prelude.{Contains}
use Rattle.std.proofs.lemmas.List.Elements.{Contains-append_cases}
use Rattle.fc_names.specs.Names.{Path}
use Rattle.fc_image.specs.Layout.{Layout, is_apart}
use Rattle.fc_image.specs.Walk.{Object, Listing, Reader}
use Rattle.fc_image.specs.Edits.{Apart, AreChildren, IsAt, IsListing, StayListed}
use Rattle.fc_image.proofs.EditLemmas.{apart_law}
use Rattle.fc_image.proofs.RelistLemmas.{edited_apart_law}
use Rattle.fc_tree.proofs.MemberLemmas.{contains_here}
use Rattle.fc_edits.specs.Places.{ApartPairs}
use Rattle.fc_image.proofs.EntriesLemmas.{later as contains_later}

-- ---- objects that lie apart

pub same_apart : (taken : List ℕ) (g : Object → Object) (os : List Object) → ((o : Object) → Contains os o → (g o).sectors ≡ o.sectors) → Apart taken os → Apart taken (map g os)
same_apart taken g [] same a = tt
same_apart taken g (o ∷ os) same a = (
  subst (λ (ss : List ℕ). is_apart ss taken ≡ true) (sym (same o (contains_here o os))) a.0,
  subst (λ (ss : List ℕ). Apart (ss ++ taken) (map g os)) (sym (same o (contains_here o os))) (same_apart (o.sectors ++ taken) g os (λ p at. same p (contains_later o p os at)) a.1),
)

-- objects that come to others
pub come_apart : (taken : List ℕ) (others come : List Object) → Apart taken others → ((o : Object) → Contains come o → is_apart o.sectors taken ≡ true)
    → ((o p : Object) → Contains come o → Contains others p → is_apart o.sectors p.sectors ≡ true) → ApartPairs come → Apart taken (come ++ others)
come_apart taken others [] a free each pairs = a
come_apart taken others (o ∷ come) a free each pairs =
    apart_law.added taken [] (come ++ others) o
    (come_apart taken others come a (λ p at. free p (contains_later o p come at)) (λ p q at bt. each p q (contains_later o p come at) bt) pairs.1)
    (edited_apart_law.from taken (come ++ others) o (free o (contains_here o come))
    (λ p at. ⊎_elim (λ new. pairs.0 p new) (λ old. each o p (contains_here o come) old) (Contains-append_cases come others p at)))

-- ---- what directories hold

pub children_from : (layout : Layout) (path : Path) (os : List Object) → ((o : Object) → Contains os o → (o.path ≡ path ++ o.entry.name ∷ []) × IsAt layout o)
    → AreChildren layout path (map (λ (o : Object). o.entry) os) os
children_from layout path [] each = tt
children_from layout path (o ∷ os) each =
    let here = each o (contains_here o os) in
    (here.0, refl, here.1, children_from layout path os (λ p at. each p (contains_later o p os at)))

pub stay_listed : (read : Reader) (layout : Layout) (ls : List Listing) → ((l : Listing) → Contains ls l → IsListing read layout l) → StayListed read layout ls
stay_listed read layout [] each = tt
stay_listed read layout (l ∷ ls) each = (each l (contains_here l ls), stay_listed read layout ls (λ k at. each k (contains_later l k ls at)))
