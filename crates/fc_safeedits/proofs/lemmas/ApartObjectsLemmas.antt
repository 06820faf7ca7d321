-- Objects that lie apart from each other.
use Rattle.std.proofs.Common.{◌≡◌, ⊎_elim, ℕ, true, List, [], ◌∷◌, ◌++◌, map, subst}
use Rattle.std.specs.Prelude.{Contains}
use Rattle.std.proofs.lemmas.List.Elements.{Contains-append_cases}
use Rattle.fc_newmap.proofs.PlaceLemmas.{in_back, in_front}
use Rattle.fc_image.specs.Layout.{id_of, is_among, is_apart}
use Rattle.fc_image.specs.Walk.{Object}
use Rattle.fc_image.specs.Edits.{Apart}
use Rattle.fc_image.proofs.EntriesLemmas.{later as contains_later, cases as contains_cases}
use Rattle.fc_image.proofs.HolesLemmas.{apart_at, apart_from}
use Rattle.fc_tree.proofs.MemberLemmas.{contains_here, from_map, no_element}
use Rattle.fc_edits.specs.NewPlaces.{ApartInOne}

-- what lies apart from taken sectors lies apart from some of them
apart_some : (taken : List ℕ) (os : List Object) → Apart taken os → (p : Object) → Contains os p → (xs : List ℕ) → ((s : ℕ) → is_among xs s ≡ true → is_among taken s ≡ true) → is_apart p.sectors xs ≡ true
apart_some taken [] a p at xs within = absurd (no_element p at)
apart_some taken (q ∷ os) a p at xs within =
    ⊎_elim (λ same. subst (λ (r : Object). is_apart r.sectors xs ≡ true) same (apart_from q.sectors xs (λ s i j. let out = apart_at q.sectors taken s a.0 i in let there = within s j in cc)))
    (λ later. apart_some (q.sectors ++ taken) os a.1 p later xs (λ s i. in_back q.sectors taken s (within s i))) (contains_cases q p os at)

pub turned_apart : (xs ys : List ℕ) → is_apart ys xs ≡ true → is_apart xs ys ≡ true
turned_apart xs ys apart = apart_from xs ys (λ s i j. let out = apart_at ys xs s apart j in cc)

-- objects that lie apart, each turned, and apart still
pub one_by_one : (taken : List ℕ) (os : List Object) → Apart taken os → (P : Object → Type 0) → ((o : Object) → Contains os o → P o) → (g : Object → Object)
    → ((o p : Object) → P o → P p → is_apart o.sectors p.sectors ≡ true → is_apart (g o).sectors (g p).sectors ≡ true) → ApartInOne (map g os)
one_by_one taken [] a P each g still = tt
one_by_one taken (o ∷ os) a P each g still = (
  λ q at id.
      (let p = from_map g os q at in
      let apart = apart_some (o.sectors ++ taken) os a.1 p.0 p.1 o.sectors (λ s i. in_front o.sectors taken s i) in
      subst (λ (r : Object). is_apart (g o).sectors r.sectors ≡ true) p.2 (still o p.0 (each o (contains_here o os)) (each p.0 (contains_later o p.0 os p.1)) (turned_apart o.sectors p.0.sectors apart))),
  one_by_one (o.sectors ++ taken) os a.1 P (λ p at. each p (contains_later o p os at)) g still,
)

-- two lists, each apart and each from the other
pub both_apart : (os ps : List Object) → ApartInOne os → ApartInOne ps → ((o p : Object) → Contains os o → Contains ps p → id_of o.entry.address ≡ id_of p.entry.address → is_apart o.sectors p.sectors ≡ true)
    → ApartInOne (os ++ ps)
both_apart [] ps a b between = b
both_apart (o ∷ os) ps a b between = (
  λ q at id.
      ⊎_elim (λ first. a.0 q first id) (λ second. between o q (contains_here o os) second id) (Contains-append_cases os ps q at),
  both_apart os ps a.1 b (λ u p at. between u p (contains_later o u os at)),
)
