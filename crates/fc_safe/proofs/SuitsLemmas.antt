-- Directories in the map's identifier, as nodes and as objects.
use Rattle.std.proofs.Common.{◌≡◌, ◌&&◌, ◌==◌, inl, inr, ℕ, Bool, true, false, List, map, Option, Some, None, refl, sym, ap, subst, ◌∙◌, []}
use Rattle.std.specs.Prelude.{Contains, not}
use Rattle.std.specs.List.{list_any}
use Rattle.std.specs.Option.{option_map_or}
use Rattle.std.specs.FinMap.{get}
use Rattle.std.proofs.lemmas.Bool.{cases_Bool}
use Rattle.fc_dirs.specs.declared.Entry.{Entry}
use Rattle.fc_newmap.specs.Map.{Map}
use Rattle.fc_image.specs.Layout.{Layout}
use Rattle.fc_image.specs.Walk.{Listing, Object}
use Rattle.fc_image.specs.Objects.{objects_of}
use Rattle.fc_image.specs.Opening.{Opened}
use Rattle.fc_image.specs.Sound.{AreSound}
use Rattle.fc_image.specs.safe.SafeShort.{is_suitable, suits}
use Rattle.fc_image.proofs.EntriesLemmas.{from_map, in_mapped}
use Rattle.fc_laws.specs.nodes.Edits.{Nodes}
use Rattle.fc_tree.specs.Nodes.{HoldObjects, number_of}
use Rattle.fc_tree.specs.Parts.{ArePartsOf, Parts}
use Rattle.fc_tree.specs.declared.node.Node.{Node}
use Rattle.fc_tree.proofs.FindLemmas.{object_of_number}
use Rattle.fc_safe.specs.Suits.{AnswersSuits, Suits, SuitsNot, is_low_directory, is_low_node}
use Rattle.fc_safe.proofs.ListLemmas.{any_of, found_of}
use Rattle.fc_laws.proofs.lemmas.agree.WalkedLemmas.{same_number as one_number}

abbrev entry_in : Object → Entry
entry_in o = o.entry

abbrev pub low_of : Option Node → Bool
low_of o = option_map_or (λ (node : Node). is_low_directory node.entry) o false

module _ (layout : Layout) (nodes : Nodes) (listings : List Listing) (sound : AreSound layout listings) (held : HoldObjects nodes listings) where
  abbrev entries : List Entry
  entries = map entry_in (objects_of listings)

  -- the node of an object
  low_there : (o : Object) (n : ℕ) → Contains (objects_of listings) o → number_of nodes o.path ≡ Some n → is_low_node nodes n ≡ is_low_directory o.entry
  low_there o n at e =
      let h = held.each o at in
      ap (λ (k : ℕ). is_low_node nodes k) (one_number n h.number (sym e ∙ h.at_path)) ∙ ap low_of h.is

  none_low : ((n : ℕ) → is_low_node nodes n ≡ false) → list_any is_low_directory entries ≡ false
  none_low all = elim (cases_Bool (list_any is_low_directory entries)) [
    | inl some ↦ absurd (
        let r = found_of is_low_directory entries some in
        let s = from_map entry_in (objects_of listings) r.0 r.1 in
        let h = held.each s.0 s.1 in
        let bad : true ≡ false = sym r.2 ∙ ap is_low_directory (sym s.2) ∙ sym (low_there s.0 h.number s.1 h.at_path) ∙ all h.number in cc)
    | inr none ↦ none
  ]

  some_low : (n : ℕ) → is_low_node nodes n ≡ true → list_any is_low_directory entries ≡ true
  some_low n low = by (get nodes n) refl
    where
      by : (o : Option Node) → get nodes n ≡ o → list_any is_low_directory entries ≡ true
      by None e = absurd (let bad : true ≡ false = sym low ∙ ap low_of e in cc)
      by (Some node) e =
          let r = object_of_number layout listings nodes sound held n node e in
          any_of is_low_directory entries r.0.entry (in_mapped entry_in (objects_of listings) r.0 r.1) (sym (low_there r.0 n r.1 r.2) ∙ low)

  by_version : (a b c : Bool) → a ≡ false → b ≡ c → c ≡ false → true ≡ (not a && not b)
  by_version true b c e same f = absurd (cc)
  by_version false true c e same f = absurd (cc)
  by_version false false c e same f = refl

  suits_by : (l : Layout) (b : Bool) → l ≡ layout → AnswersSuits (record { layout = l; nodes = nodes; owners = [] }) b → b ≡ suits l entries
  suits_by (Layout.Old space) true is answers = absurd answers
  suits_by (Layout.Old space) false is answers = refl
  suits_by (Layout.New m) true is answers = by_version (m.geometry.version == 0) (list_any is_low_directory entries) false answers.0 (none_low answers.1) refl
  suits_by (Layout.New m) false is (inl old) = ap (λ (a : Bool). not a && not (list_any is_low_directory entries)) (sym old)
  suits_by (Layout.New m) false is (inr low) = by (m.geometry.version == 0) (list_any is_low_directory entries) (some_low low.0 low.1)
    where
      by : (a b : Bool) → b ≡ true → false ≡ (not a && not b)
      by true b e = refl
      by false true e = refl
      by false false e = absurd (cc)

pub suits_are : (h : Parts) (b : Bool) (v : Opened) → AnswersSuits h b → AreSound v.layout v.listings → ArePartsOf h v → b ≡ is_suitable v
suits_are h b v answers sound parts =
    suits_by v.layout h.nodes v.listings sound parts.nodes h.layout b parts.layout (same b answers) ∙ ap (λ (l : Layout). suits l (map entry_in (objects_of v.listings))) parts.layout
  where
    same : (b : Bool) → AnswersSuits h b → AnswersSuits (record { layout = h.layout; nodes = h.nodes; owners = [] }) b
    same true a = a
    same false a = a

-- a new map whose directories are big
pub suits_new : (h : Parts) (m : Map) (low : Bool) → h.layout ≡ Layout.New m → (m.geometry.version == 0) ≡ false → (low ≡ true → (n : ℕ) × (is_low_node h.nodes n ≡ true))
    → (low ≡ false → (n : ℕ) → is_low_node h.nodes n ≡ false) → AnswersSuits h (not low)
suits_new h m true is big found none = subst (λ (l : Layout). SuitsNot l h.nodes) (sym is) (inr (found refl))
suits_new h m false is big found none = subst (λ (l : Layout). Suits l h.nodes) (sym is) (big, none refl)
