-- Nodes whose directories have been told what to say.
use Rattle.std.proofs.Common.{◌≡◌, ◌≤◌, ◌⊎◌, inl, inr, ℕ, Bool, List, [], ◌∷◌, ◌++◌, length, map, refl, sym, ap, subst, ◌∙◌, Some}
use Rattle.std.specs.Prelude.{Contains}
use Rattle.std.specs.FinMap.{len}
use Rattle.std.proofs.lemmas.List.Elements.{Contains-append_left}
use Rattle.fc_names.specs.Names.{Path}
use Rattle.fc_image.specs.Layout.{Layout}
use Rattle.fc_image.specs.Walk.{Listing}
use Rattle.fc_image.proofs.PathsLemmas.{is_at, itself, many}
use Rattle.fc_tree.specs.declared.node.Body.{Body}
use Rattle.fc_tree.specs.Nodes.{body_in, number_of}
use Rattle.fc_tree.proofs.MemberLemmas.{contains_here, from_map, in_map, many_permuted, no_element}
use Rattle.fc_tree.proofs.PlaceLemmas.{one_path}
use Rattle.fc_laws.specs.nodes.Edits.{Nodes, with_body}
use Rattle.fc_laws.specs.nodes.Laws.{IsHeld}
use Rattle.fc_laws.proofs.lemmas.nodes.ShapeLemmas.{body_held, body_other, body_said, edited_length}
use Rattle.fc_laws.specs.nodes.Lookups.{held_as, says_at}
use Rattle.fc_edits.specs.Edit.{Amended, Edit, IsEdit}
use Rattle.fc_edits.specs.NewNodes.{tell}
use Rattle.fc_edits.proofs.lemmas.ListLemmas.{few_second, two_apart}
use Rattle.fc_edits.proofs.lemmas.NumberLemmas.{few_listings}
use Rattle.fc_image.proofs.EntriesLemmas.{later as contains_later, cases as contains_cases}
use Rattle.fc_image.proofs.CommandLemmas.{same_by_folds}

pub tell_held : (bs : List Amended) (nodes : Nodes) (m : ℕ) → held_as (tell bs nodes) m ≡ held_as nodes m
tell_held [] nodes m = refl
tell_held (a ∷ bs) nodes m = tell_held bs (with_body a.number (body_in a.content) nodes) m ∙ body_held nodes a.number (body_in a.content) m

pub tell_length : (bs : List Amended) (nodes : Nodes) → len (tell bs nodes) ≡ len nodes
tell_length [] nodes = refl
tell_length (a ∷ bs) nodes = tell_length bs (with_body a.number (body_in a.content) nodes) ∙ edited_length nodes a.number (λ node. record node { body = body_in a.content })

pub tell_other : (bs : List Amended) (nodes : Nodes) (m : ℕ) → (Contains (map (λ (a : Amended). a.number) bs) m → ⊥) → says_at (tell bs nodes) m ≡ says_at nodes m
tell_other [] nodes m none = refl
tell_other (a ∷ bs) nodes m none =
    tell_other bs (with_body a.number (body_in a.content) nodes) m (λ at. none (contains_later a.number m (map (λ (b : Amended). b.number) bs) at))
    ∙ body_other nodes a.number (body_in a.content) m (λ e. none (subst (Contains (a.number ∷ map (λ (b : Amended). b.number) bs)) (sym e) (contains_here a.number (map (λ (b : Amended). b.number) bs))))

-- No number stands twice.
abbrev pub AreOnce : List Amended → Type 0
AreOnce [] = Unit {0}
AreOnce (a ∷ bs) = ((b : Amended) → Contains bs b → a.number ≡ b.number → ⊥) × AreOnce bs

not_listed : (bs : List Amended) (n : ℕ) → ((b : Amended) → Contains bs b → n ≡ b.number → ⊥) → Contains (map (λ (b : Amended). b.number) bs) n → ⊥
not_listed bs n none at = let b = from_map (λ (c : Amended). c.number) bs n at in none b.0 b.1 (sym b.2)

pub tell_said : (bs : List Amended) (nodes : Nodes) (a : Amended) (was : Body) → AreOnce bs → Contains bs a → says_at nodes a.number ≡ Some was
    → says_at (tell bs nodes) a.number ≡ Some (body_in a.content)
tell_said [] nodes a was once at had = absurd (no_element a at)
tell_said (b ∷ bs) nodes a was once at had =
    by (contains_cases b a bs at)
    (λ later. tell_said bs (with_body b.number (body_in b.content) nodes) a was once.1 later (body_other nodes b.number (body_in b.content) a.number (λ e. once.0 a later (sym e)) ∙ had))
  where
    by : (b ≡ a) ⊎ Contains bs a → (Contains bs a → says_at (tell bs (with_body b.number (body_in b.content) nodes)) a.number ≡ Some (body_in a.content))
        → says_at (tell bs (with_body b.number (body_in b.content) nodes)) a.number ≡ Some (body_in a.content)
    by (inl same) more =
        subst (λ (c : Amended). says_at (tell bs (with_body b.number (body_in b.content) nodes)) c.number ≡ Some (body_in c.content)) same
        (tell_other bs (with_body b.number (body_in b.content) nodes) b.number (not_listed bs b.number once.0)
        ∙ body_said nodes b.number (body_in b.content) was (ap (λ (c : Amended). says_at nodes c.number) same ∙ had))
    by (inr later) more = more later

-- the directories of an edit have different numbers
once_from : (nodes : Nodes) (bs : List Amended) (rest : List Listing) → ((path : Path) → many (λ (k : Listing). is_at path k.object) (map (λ (a : Amended). a.was) bs ++ rest) ≤ 1)
    → ((a : Amended) → Contains bs a → number_of nodes a.was.object.path ≡ Some a.number) → AreOnce bs
once_from nodes [] rest few each = tt
once_from nodes (a ∷ bs) rest few each = (
  λ b at same.
      (let is_a = each a (contains_here a bs) in
      let is_b = each b (contains_later a b bs at) ∙ ap (λ (n : ℕ). Some n) (sym same) in
      let t : Listing → Bool = λ k. is_at a.was.object.path k.object in
      two_apart t (a.was ∷ []) (map (λ (c : Amended). c.was) bs ++ rest) a.was b.was (few a.was.object.path) (contains_here a.was [])
      (Contains-append_left (map (λ (c : Amended). c.was) bs) rest b.was (in_map (λ (c : Amended). c.was) bs b at)) (itself a.was.object.path)
      (same_by_folds a.was.object.path b.was.object.path (one_path nodes a.number (length a.was.object.path) a.was.object.path b.was.object.path refl is_a is_b))),
  once_from nodes bs rest (λ path. few_second (λ (k : Listing). is_at path k.object) (a.was ∷ []) (map (λ (c : Amended). c.was) bs ++ rest) (few path)) (λ b at. each b (contains_later a b bs at)),
)

pub once_amended : (nodes : Nodes) (layout : Layout) (listings : List Listing) (e : Edit) → IsHeld nodes layout listings → IsEdit nodes listings e → AreOnce e.amended
once_amended nodes layout listings e h is =
    let all = map (λ (a : Amended). a.was) e.amended ++ e.same in
    once_from nodes e.amended e.same
    (λ path.
    let t : Listing → Bool = λ k. is_at path k.object in
    few_second t e.out all (subst (λ k. k ≤ 1) (sym (many_permuted t listings (e.out ++ all) is.found)) (few_listings layout listings h.sound path)))
    (λ a at. (is.amends a at).number_is)
