-- The nodes after an edit with identifiers that move.
use Rattle.std.proofs.Common.{◌≡◌, ◌⊎◌, inl, inr, ⊎_elim, ℕ, ◌+◌, Bool, true, false, cond, List, [], ◌∷◌, ◌++◌, length, map, refl, sym, ap, subst, ◌∙◌, arith, Option, Some, None, length-append}
use Rattle.std.specs.Prelude.{Contains}
use Rattle.std.specs.Option.{option_map}
use Rattle.std.specs.FinMap.{get, len}
use Rattle.std.proofs.lemmas.List.{length-map}
use Rattle.std.proofs.lemmas.List.Elements.{Contains-append_cases, Contains-append_left, Contains-append_right}
use Rattle.std.proofs.lemmas.List.Sorted.{length_permutation}
use Rattle.fc_names.specs.Names.{Path, is_directory}
use Rattle.fc_dirs.specs.declared.Entry.{Entry}
use Rattle.fc_model.specs.Tree.{holder}
use Rattle.fc_image.specs.Layout.{Layout}
use Rattle.fc_image.specs.Walk.{Listing, Object, is_directory_object}
use Rattle.fc_tree.specs.declared.node.Body.TheVariants as bodies
use Rattle.fc_tree.specs.Nodes.{body_in, number_of}
use Rattle.fc_tree.proofs.MemberLemmas.{contains_here, from_flat, from_map, in_map, no_element}
use Rattle.fc_tree.proofs.WalkedLemmas.{listed_directory, same_some}
use Rattle.fc_laws.specs.nodes.Laws.{IsHeld}
use Rattle.fc_laws.proofs.lemmas.nodes.FitsLemmas.{fits_at, kid_at}
use Rattle.fc_laws.proofs.lemmas.nodes.ListLemmas.{in_first, in_other}
use Rattle.fc_laws.proofs.lemmas.nodes.OtherLemmas.{no_file}
use Rattle.fc_edits.specs.Edit.{Amended, AreEdited, Edit, IsEdit, TopStays, TopTurns, joined_in, joining, leaving, left_in, numbers}
use Rattle.fc_laws.specs.nodes.Lookups.{held_as, held_by, said, says_at}
use Rattle.fc_edits.specs.Places.{Stays}
use Rattle.fc_edits.proofs.lemmas.NumberLemmas as n_
use Rattle.fc_edits.proofs.lemmas.ShapeLemmas.{only}
use Rattle.fc_safeedits.specs.Relocation.{IsCarried, JoinsBefore, Relocation, RelocationLaw, all_amended, amended_in, carried, is_moved, laid_at, number_at, relocated, told_again, turned_at, turned_in}
use Rattle.fc_safeedits.proofs.lemmas.LaidLemmas.{all_amend, all_child, all_kid, all_listed, all_object, amended_or_told, from_carried, laid_entry, ne, number_is, same_listed}
use Rattle.fc_safeedits.proofs.lemmas.RelocatedLemmas.{e', extra, is_edit', joined', leaving_more, left', left_more, still_there, turned_entry}
use Rattle.fc_image.proofs.TreeLemmas.{map_both as map_append}

module _ (x : Relocation) where
  abbrev e : Edit
  e = x.edit

  abbrev is : IsEdit x.nodes x.listings e
  is = x.is_edit

  abbrev ed : AreEdited x.nodes x.nodes' e
  ed = x.nodes_edited

  abbrev h : IsHeld x.nodes (Layout.New x.m) x.listings
  h = x.held

  abbrev moved : Object → Bool
  moved = is_moved x.moves

  abbrev top_was : TopStays e x.top ⊎ TopTurns e x.top
  top_was = is.top x.top x.top_in x.top_path

  top_true : {A : Type 0} (a b : A) → moved x.top ≡ true → cond (moved x.top) a b ≡ a
  top_true a b m = ap (λ (t : Bool). cond t a b) m

  top_false : {A : Type 0} (a b : A) → moved x.top ≡ false → cond (moved x.top) a b ≡ b
  top_false a b m = ap (λ (t : Bool). cond t a b) m

  -- ---- what joins a directory

  pub top_still : TopStays e x.top → Stays x.nodes x.listings e x.top
  top_still t = record {
    among = x.top_in;
    number = 0;
    number_is = ap (number_of x.nodes) x.top_path;
    stays = λ at. n_.left_lower (ne x) 0 (subst (λ (ps : List (ℕ × Object)). Contains (numbers (ps ++ left_in e)) 0) t.leaves at) refl;
  }

  -- what is carried along would have stayed
  pub carried_stays : (q : ℕ × Object) → Contains (extra x) q → Stays x.nodes x.listings x.edit q.1 × (is_moved x.moves q.1 ≡ true)
  carried_stays q at =
      let a = from_flat (λ (b : Amended). carried x b.kids) (all_amended x) q at in
      let c = from_carried x a.0.kids q a.2 in
      let there = all_object x a.0 q.1 a.1 c.among in
      let n = number_at x.nodes q.1.path in (
        record { among = there; number = n; number_is = number_is x q.1 there; stays = n_.kid_away (ne x) q.1 n (all_kid x a.0 q.1 a.1 c.among) (number_is x q.1 there) },
        c.moved,
      )

  carried_is : (q : ℕ × Object) → Contains (extra x) q → IsCarried x (turned_at x q)
  carried_is q at =
      let a = from_flat (λ (b : Amended). carried x b.kids) (all_amended x) q at in
      let c = from_carried x a.0.kids q a.2 in
      let s = carried_stays q at in
      record { was = q.1; stays = s.0; moved = s.1; number = number_is x q.1 s.0.among ∙ ap (λ (k : ℕ). Some k) (sym c.number); is = refl }

  pub joins' : (p : ℕ × Object) → Contains (joining (relocated x)) p → JoinsBefore x p ⊎ IsCarried x p
  joins' p at = ⊎_elim (λ own. in_top own (moved x.top) refl top_was) (λ later. below later) (Contains-append_cases (e' x).top_join (joined_in (e' x)) p at)
    where
      in_top : Contains (e' x).top_join p → (b : Bool) → moved x.top ≡ b → TopStays e x.top ⊎ TopTurns e x.top → JoinsBefore x p ⊎ IsCarried x p
      in_top own true m (inl t) =
          let same : (0, turned_in x x.top) ≡ p =
          only (0, turned_in x x.top) p (subst (λ (ps : List (ℕ × Object)). Contains ps p) (top_true ((0, turned_in x x.top) ∷ []) (map (laid_at x) e.top_join) m) own) in
          inr (subst (IsCarried x) same (record { was = x.top; stays = top_still t; moved = m; number = ap (number_of x.nodes) x.top_path; is = refl }))
      in_top own true m (inr t) =
          let same : (0, turned_in x x.top) ≡ p =
          only (0, turned_in x x.top) p (subst (λ (ps : List (ℕ × Object)). Contains ps p) (top_true ((0, turned_in x x.top) ∷ []) (map (laid_at x) e.top_join) m) own) in
          inl (subst (JoinsBefore x) same
          (record {
            was = (0, e.turn x.top);
            joins = subst (λ (ps : List (ℕ × Object)). Contains (ps ++ joined_in e) (0, e.turn x.top)) (sym t.joins) (contains_here (0, e.turn x.top) (joined_in e));
            is = refl;
          }))
      in_top own false m t =
          let q = from_map (laid_at x) e.top_join p (subst (λ (ps : List (ℕ × Object)). Contains ps p) (top_false ((0, turned_in x x.top) ∷ []) (map (laid_at x) e.top_join) m) own) in
          inl (record { was = q.0; joins = Contains-append_left e.top_join (joined_in e) q.0 q.1; is = sym q.2 })

      below : Contains (joined_in (e' x)) p → JoinsBefore x p ⊎ IsCarried x p
      below later =
          ⊎_elim (λ first. let q = from_map (laid_at x) (joined_in e) p first in inl (record { was = q.0; joins = Contains-append_right e.top_join (joined_in e) q.0 q.1; is = sym q.2 }))
          (λ second. let q = from_map (turned_at x) (extra x) p second in inr (subst (IsCarried x) q.2 (carried_is q.0 q.1)))
          (Contains-append_cases (map (laid_at x) (joined_in e)) (map (turned_at x) (extra x)) p (in_other (joined_in (e' x)) (map (laid_at x) (joined_in e) ++ map (turned_at x) (extra x)) (joined' x) p later))

  -- all that joined before does so now
  joined_more : (p : ℕ × Object) → Contains (joined_in e) p → Contains (joined_in (e' x)) (laid_at x p)
  joined_more p at =
      in_first (joined_in (e' x)) (map (laid_at x) (joined_in e) ++ map (turned_at x) (extra x)) (joined' x) (laid_at x p)
      (Contains-append_left (map (laid_at x) (joined_in e)) (map (turned_at x) (extra x)) (laid_at x p) (in_map (laid_at x) (joined_in e) p at))

  extra_joins : (q : ℕ × Object) → Contains (extra x) q → Contains (joined_in (e' x)) (turned_at x q)
  extra_joins q at =
      in_first (joined_in (e' x)) (map (laid_at x) (joined_in e) ++ map (turned_at x) (extra x)) (joined' x) (turned_at x q)
      (Contains-append_right (map (laid_at x) (joined_in e)) (map (turned_at x) (extra x)) (turned_at x q) (in_map (turned_at x) (extra x) q at))

  pub joining_more : (p : ℕ × Object) → Contains (joining e) p → Contains (joining (e' x)) (laid_at x p)
  joining_more p at =
      ⊎_elim (λ own. Contains-append_left (e' x).top_join (joined_in (e' x)) (laid_at x p) (in_top own (moved x.top) refl top_was))
      (λ later. Contains-append_right (e' x).top_join (joined_in (e' x)) (laid_at x p) (joined_more p later)) (Contains-append_cases e.top_join (joined_in e) p at)
    where
      in_top : Contains e.top_join p → (b : Bool) → moved x.top ≡ b → TopStays e x.top ⊎ TopTurns e x.top → Contains (e' x).top_join (laid_at x p)
      in_top own true m (inl t) = absurd (no_element p (subst (λ (ps : List (ℕ × Object)). Contains ps p) t.joins own))
      in_top own true m (inr t) =
          let same : (0, e.turn x.top) ≡ p = only (0, e.turn x.top) p (subst (λ (ps : List (ℕ × Object)). Contains ps p) t.joins own) in
          subst (λ (ps : List (ℕ × Object)). Contains ps (laid_at x p)) (sym (top_true ((0, turned_in x x.top) ∷ []) (map (laid_at x) e.top_join) m))
          (subst (λ (q : ℕ × Object). Contains ((0, turned_in x x.top) ∷ []) (laid_at x q)) same (contains_here (0, turned_in x x.top) []))
      in_top own false m t =
          subst (λ (ps : List (ℕ × Object)). Contains ps (laid_at x p)) (sym (top_false ((0, turned_in x x.top) ∷ []) (map (laid_at x) e.top_join) m)) (in_map (laid_at x) e.top_join p own)

  joining_number : (n : ℕ) → Contains (numbers (joining e)) n → Contains (numbers (joining (e' x))) n
  joining_number n at =
      let q = from_map (λ (p : ℕ × Object). p.0) (joining e) n at in
      subst (Contains (numbers (joining (e' x)))) q.2 (in_map (λ (p : ℕ × Object). p.0) (joining (e' x)) (laid_at x q.0) (joining_more q.0 q.1))

  -- Who leaves now did so before, or joins again.
  leaves_or_joins : (n : ℕ) → Contains (numbers (leaving (e' x))) n → Contains (numbers (leaving e)) n ⊎ Contains (numbers (joining (e' x))) n
  leaves_or_joins n at = ⊎_elim (λ own. in_top own (moved x.top) refl) below (n_in (e' x).top_leave (left_in (e' x)) at)
    where
      n_in : (ps qs : List (ℕ × Object)) → Contains (numbers (ps ++ qs)) n → Contains (numbers ps) n ⊎ Contains (numbers qs) n
      n_in ps qs there = n_.in_numbers (ne x) ps qs n there

      in_top : Contains (numbers (e' x).top_leave) n → (b : Bool) → moved x.top ≡ b → Contains (numbers (leaving e)) n ⊎ Contains (numbers (joining (e' x))) n
      in_top own true m =
          let zero : 0 ≡ n = only 0 n (subst (λ (ps : List (ℕ × Object)). Contains (numbers ps) n) (top_true ((0, x.top) ∷ []) e.top_leave m) own) in
          let joins : Contains (joining (e' x)) (0, turned_in x x.top) =
          subst (λ (ps : List (ℕ × Object)). Contains (ps ++ joined_in (e' x)) (0, turned_in x x.top)) (sym (top_true ((0, turned_in x x.top) ∷ []) (map (laid_at x) e.top_join) m))
          (contains_here (0, turned_in x x.top) (joined_in (e' x))) in
          inr (subst (Contains (numbers (joining (e' x)))) zero (in_map (λ (p : ℕ × Object). p.0) (joining (e' x)) (0, turned_in x x.top) joins))
      in_top own false m =
          inl (subst (λ (ns : List ℕ). Contains ns n) (sym (map_append (λ (p : ℕ × Object). p.0) e.top_leave (left_in e)))
          (Contains-append_left (numbers e.top_leave) (numbers (left_in e)) n (subst (λ (ps : List (ℕ × Object)). Contains (numbers ps) n) (top_false ((0, x.top) ∷ []) e.top_leave m) own)))

      below : Contains (numbers (left_in (e' x))) n → Contains (numbers (leaving e)) n ⊎ Contains (numbers (joining (e' x))) n
      below later =
          let q = from_map (λ (p : ℕ × Object). p.0) (left_in (e' x)) n later in
          ⊎_elim (λ first. inl (n_.left_leaves (ne x) n (subst (Contains (numbers (left_in e))) q.2 (in_map (λ (p : ℕ × Object). p.0) (left_in e) q.0 first))))
          (λ second. inr (subst (Contains (numbers (joining (e' x)))) q.2
          (in_map (λ (p : ℕ × Object). p.0) (joining (e' x)) (turned_at x q.0) (Contains-append_right (e' x).top_join (joined_in (e' x)) (turned_at x q.0) (extra_joins q.0 second)))))
          (Contains-append_cases (left_in e) (extra x) q.0 (in_other (left_in (e' x)) (left_in e ++ extra x) (left' x) q.0 q.1))

  -- ---- what nodes say

  says_told : (k : Listing) → Contains e.same k → says_at x.nodes' (number_at x.nodes k.object.path) ≡ Some (body_in k.content)
  says_told k at =
      let there = same_listed x k at in
      let n = number_at x.nodes k.object.path in
      let f = number_is x k.object (listed_directory (Layout.New x.m) x.listings h.sound k there).0 in
      let was = (fits_at (Layout.New x.m) x.listings x.nodes h.sound h.held k n there f).says in
      ed.silent n (λ none. let two : ◌≡◌ {A = Option _} None (Some (body_in k.content)) = sym (ap (option_map said) none) ∙ was in cc) (n_.same_other (ne x) k n at f)
      (n_.dir_leaves (ne x) k n (n_.same_in (ne x) k at) f) ∙ was

  -- a file that is carried along still says nothing
  file_told : (a : Amended) (o : Object) → Contains (all_amended x) a → Contains a.kids o → is_directory_object o ≡ false → says_at x.nodes' (number_at x.nodes o.path) ≡ Some bodies.File
  file_told a o at kid is_file =
      let n = number_at x.nodes o.path in
      let f = number_is x o (all_object x a o at kid) in
      let listed = n_.stay_in (ne x) a.was (all_listed x a at) in
      let g = number_is x a.was.object (listed_directory (Layout.New x.m) x.listings h.sound a.was listed).0 in
      let was = (kid_at (Layout.New x.m) x.listings x.nodes h.sound h.held a.was o (number_at x.nodes a.was.object.path) n listed (all_child x a o at kid) g f).file is_file in
      ed.silent n (λ none. let two : ◌≡◌ {A = Option _} None (Some bodies.File) = sym (ap (option_map said) none) ∙ was in cc)
      (λ there.
      let b = from_map (λ (c : Amended). c.number) e.amended n there in
      let i = is.amends b.0 b.1 in
      let says = (fits_at (Layout.New x.m) x.listings x.nodes h.sound h.held b.0.was b.0.number (n_.stay_in (ne x) b.0.was (n_.was_in (ne x) b.0 b.1)) i.number_is).says in
      no_file b.0.was.content (same_some (body_in b.0.was.content) bodies.File (sym says ∙ ap (says_at x.nodes) b.2 ∙ was)))
      (λ leaves. absurd (n_.kid_away (ne x) o n (all_kid x a o at kid) f leaves)) ∙ was

  -- ---- who holds them

  all_number : (a : Amended) → Contains (all_amended x) a → number_of x.nodes a.was.object.path ≡ Some a.number
  all_number a at = (all_amend x a at).number_is

  held_carried : (a : Amended) (q : ℕ × Object) → Contains (all_amended x) a → Contains (carried x a.kids) q → held_as x.nodes' q.0 ≡ Some (a.number, (turned_in x q.1).entry)
  held_carried a q at there =
      let c = from_carried x a.kids q there in
      let o = q.1 in
      let n = number_at x.nodes o.path in
      let f = number_is x o (all_object x a o at c.among) in
      let u = n_.kid_in (ne x) a.was o a.number n (all_listed x a at) (all_child x a o at c.among) (all_number a at) f (n_.kid_away (ne x) o n (all_kid x a o at c.among) f) in
      ap (held_as x.nodes') c.number ∙ u.held ∙ ap (λ (y : Entry). Some (a.number, y)) (sym (turned_entry x o))

  -- the root holds itself
  root_held : held_as x.nodes 0 ≡ Some (0, x.top.entry)
  root_held =
      let n = h.held.each x.top x.top_in in
      let zero : 0 ≡ n.number = same_some 0 n.number (ap (number_of x.nodes) (sym x.top_path) ∙ n.at_path) in
      let own : 0 ≡ n.holder_number = same_some 0 n.holder_number (ap (λ (p : Path). number_of x.nodes (holder p)) (sym x.top_path) ∙ n.at_holder) in
      ap (λ (k : ℕ). option_map held_by (get x.nodes k)) zero ∙ ap (option_map held_by) n.is ∙ ap (λ (k : ℕ). Some (k, x.top.entry)) (sym own)

  top_held : TopStays e x.top ⊎ TopTurns e x.top → held_as x.nodes' 0 ≡ Some (0, (turned_in x x.top).entry)
  top_held (inl t) =
      ed.others 0 (λ at. n_.left_lower (ne x) 0 (subst (λ (ps : List (ℕ × Object)). Contains (numbers (ps ++ left_in e)) 0) t.leaves at) refl)
      (λ at.
      let q = from_map (λ (p : ℕ × Object). p.0) (joined_in e) 0 (subst (λ (ps : List (ℕ × Object)). Contains (numbers (ps ++ joined_in e)) 0) t.joins at) in
      n_.join_lower (ne x) q.0 q.1 q.2) ∙ root_held ∙ ap (λ (y : Entry). Some (0, y)) (sym (turned_entry x x.top ∙ t.keeps.entry))
  top_held (inr t) =
      ed.top (0, e.turn x.top) (subst (λ (ps : List (ℕ × Object)). Contains ps (0, e.turn x.top)) (sym t.joins) (contains_here (0, e.turn x.top) []))
      ∙ ap (λ (y : Entry). Some (0, y)) (sym (turned_entry x x.top))

  -- ---- the nodes

  joined_held : (a : Amended) (p : ℕ × Object) → Contains (all_amended x) a → Contains (amended_in x a).join p → held_as x.nodes' p.0 ≡ Some (a.number, p.1.entry)
  joined_held a p at there =
      ⊎_elim
      (λ first.
      let q = from_map (laid_at x) a.join p first in
      subst (λ (y : ℕ × Object). held_as x.nodes' y.0 ≡ Some (a.number, y.1.entry)) q.2 (before q.0 q.1 ∙ ap (λ (y : Entry). Some (a.number, y)) (sym (laid_entry x.m' x.moves q.0.1))))
      (λ later.
      let q = from_map (turned_at x) (carried x a.kids) p later in
      subst (λ (y : ℕ × Object). held_as x.nodes' y.0 ≡ Some (a.number, y.1.entry)) q.2 (held_carried a q.0 at q.1))
      (Contains-append_cases (map (laid_at x) a.join) (map (turned_at x) (carried x a.kids)) p there)
    where
      before : (q : ℕ × Object) → Contains a.join q → held_as x.nodes' q.0 ≡ Some (a.number, q.1.entry)
      before q in_a =
          ⊎_elim (λ amended. ed.joined a q amended in_a) (λ k. absurd (no_element q (subst (λ (b : Amended). Contains b.join q) (sym k.2) in_a))) (amended_or_told x a at)

  top_joined : (p : ℕ × Object) → Contains (e' x).top_join p → held_as x.nodes' p.0 ≡ Some (0, p.1.entry)
  top_joined p own = by (moved x.top) refl
    where
      by : (b : Bool) → moved x.top ≡ b → held_as x.nodes' p.0 ≡ Some (0, p.1.entry)
      by true m =
          let same : (0, turned_in x x.top) ≡ p =
          only (0, turned_in x x.top) p (subst (λ (ps : List (ℕ × Object)). Contains ps p) (top_true ((0, turned_in x x.top) ∷ []) (map (laid_at x) e.top_join) m) own) in
          subst (λ (y : ℕ × Object). held_as x.nodes' y.0 ≡ Some (0, y.1.entry)) same (top_held top_was)
      by false m =
          let q = from_map (laid_at x) e.top_join p (subst (λ (ps : List (ℕ × Object)). Contains ps p) (top_false ((0, turned_in x x.top) ∷ []) (map (laid_at x) e.top_join) m) own) in
          subst (λ (y : ℕ × Object). held_as x.nodes' y.0 ≡ Some (0, y.1.entry)) q.2 (ed.top q.0 q.1 ∙ ap (λ (y : Entry). Some (0, y)) (sym (laid_entry x.m' x.moves q.0.1)))

  file_now : (p : ℕ × Object) → Contains (joined_in (e' x)) p → is_directory_object p.1 ≡ false → says_at x.nodes' p.0 ≡ Some bodies.File
  file_now p at is_file =
      ⊎_elim
      (λ first.
      let q = from_map (laid_at x) (joined_in e) p first in
      ap (says_at x.nodes') (ap (λ (y : ℕ × Object). y.0) (sym q.2))
      ∙ ed.files q.0 q.1 (ap (λ (y : Entry). is_directory y.attrs) (sym (laid_entry x.m' x.moves q.0.1)) ∙ ap (λ (y : ℕ × Object). is_directory_object y.1) q.2 ∙ is_file))
      (λ later.
      let q = from_map (turned_at x) (extra x) p later in
      let a = from_flat (λ (b : Amended). carried x b.kids) (all_amended x) q.0 q.1 in
      let c = from_carried x a.0.kids q.0 a.2 in
      let file : is_directory_object q.0.1 ≡ false = sym (is.kinds q.0.1) ∙ ap (λ (y : Entry). is_directory y.attrs) (sym (turned_entry x q.0.1)) ∙ ap (λ (y : ℕ × Object). is_directory_object y.1) q.2 ∙ is_file in
      ap (says_at x.nodes') (ap (λ (y : ℕ × Object). y.0) (sym q.2) ∙ c.number) ∙ file_told a.0 q.0.1 a.1 c.among file)
      (Contains-append_cases (map (laid_at x) (joined_in e)) (map (turned_at x) (extra x)) p (in_other (joined_in (e' x)) (map (laid_at x) (joined_in e) ++ map (turned_at x) (extra x)) (joined' x) p at))

  silent_now : (n : ℕ) → (get x.nodes n ≡ None → ⊥) → (Contains (map (λ (a : Amended). a.number) (e' x).amended) n → ⊥) → (Contains (numbers (leaving (e' x))) n → Contains (numbers (joining (e' x))) n)
      → says_at x.nodes' n ≡ says_at x.nodes n
  silent_now n there quiet again = ed.silent n there (λ at. quiet (amended_more at)) (λ leaves. joins_before leaves (again (leaving_more x n leaves)))
    where
      amended_more : Contains (map (λ (a : Amended). a.number) e.amended) n → Contains (map (λ (a : Amended). a.number) (e' x).amended) n
      amended_more at =
          let a = from_map (λ (b : Amended). b.number) e.amended n at in
          subst (Contains (map (λ (b : Amended). b.number) (e' x).amended)) a.2
          (in_map (λ (b : Amended). b.number) (e' x).amended (amended_in x a.0) (in_map (amended_in x) (all_amended x) a.0 (Contains-append_left e.amended (map (told_again x) e.same) a.0 a.1)))

      joins_before : Contains (numbers (leaving e)) n → Contains (numbers (joining (e' x))) n → Contains (numbers (joining e)) n
      joins_before leaves at =
          let p = from_map (λ (q : ℕ × Object). q.0) (joining (e' x)) n at in
          ⊎_elim
          (λ (b : JoinsBefore x p.0). subst (Contains (numbers (joining e))) (ap (λ (q : ℕ × Object). q.0) (sym b.is) ∙ p.2) (in_map (λ (q : ℕ × Object). q.0) (joining e) b.was b.joins))
          (λ (c : IsCarried x p.0). absurd (c.stays.stays (subst (Contains (numbers (leaving e))) (sym (same_some c.stays.number n (sym c.stays.number_is ∙ c.number ∙ ap (λ (k : ℕ). Some k) p.2))) leaves))) (joins' p.0 p.1)

  pub nodes_now : AreEdited x.nodes x.nodes' (e' x)
  nodes_now = record {
    others = λ n stays apart. ed.others n (λ at. stays (leaving_more x n at)) (λ at. apart (joining_number n at));
    joined = λ b p at there.
        (let a = from_map (amended_in x) (all_amended x) b at in
        subst (λ (c : Amended). Contains c.join p → held_as x.nodes' p.0 ≡ Some (c.number, p.1.entry)) a.2 (λ in_a. joined_held a.0 p a.1 in_a) there);
    top = top_joined;
    gone = λ n leaves never. ⊎_elim (λ was. ed.gone n was (λ at. never (joining_number n at))) (λ joins. absurd (never joins)) (leaves_or_joins n leaves);
    says = λ b at.
        (let a = from_map (amended_in x) (all_amended x) b at in
        subst (λ (c : Amended). says_at x.nodes' c.number ≡ Some (body_in c.content)) a.2
        (⊎_elim (λ amended. ed.says a.0 amended) (λ k. subst (λ (c : Amended). says_at x.nodes' c.number ≡ Some (body_in c.content)) k.2 (says_told k.0 k.1)) (amended_or_told x a.0 a.1)));
    into_say = ed.into_say;
    files = file_now;
    silent = silent_now;
    free = λ p at. ⊎_elim
        (λ first.
        let q = from_map (laid_at x) (joined_in e) p first in
        subst (λ (k : ℕ). Contains (numbers (left_in (e' x))) k ⊎ ((get x.nodes k ≡ None) × (k ≡ 0 → ⊥))) (ap (λ (y : ℕ × Object). y.0) q.2)
        (⊎_elim (λ left. inl (left_more x q.0.0 left)) (λ new. inr new) (ed.free q.0 q.1)))
        (λ later.
        let q = from_map (turned_at x) (extra x) p later in
        inl (subst (Contains (numbers (left_in (e' x)))) (ap (λ (y : ℕ × Object). y.0) q.2)
        (in_map (λ (y : ℕ × Object). y.0) (left_in (e' x)) q.0 (in_first (left_in (e' x)) (left_in e ++ extra x) (left' x) q.0 (Contains-append_right (left_in e) (extra x) q.0 q.1)))))
        (Contains-append_cases (map (laid_at x) (joined_in e)) (map (turned_at x) (extra x)) p (in_other (joined_in (e' x)) (map (laid_at x) (joined_in e) ++ map (turned_at x) (extra x)) (joined' x) p at));
    new = ed.new;
    count = count';
  }
    where
      count' : len x.nodes' + length (left_in (e' x)) ≡ len x.nodes + length (joined_in (e' x))
      count' =
          let l = length_permutation (left_in (e' x)) (left_in e ++ extra x) (left' x) in
          let l2 = length-append (left_in e) (extra x) in
          let j = length_permutation (joined_in (e' x)) (map (laid_at x) (joined_in e) ++ map (turned_at x) (extra x)) (joined' x) in
          let j2 = length-append (map (laid_at x) (joined_in e)) (map (turned_at x) (extra x)) in
          let j3 = length-map (joined_in e) (laid_at x) in
          let j4 = length-map (extra x) (turned_at x) in
          omega (arith, l, l2, j, j2, j3, j4, ed.count)

pub relocation_law : RelocationLaw
relocation_law = record {
  is_edit = is_edit';
  nodes = nodes_now;
  stays = λ x o s. (
    record { among = s.among; number = s.number; number_is = s.number_is; stays = λ at. s.stays (leaving_more x s.number at) },
    still_there x o s.number s.among s.number_is s.stays,
  );
  joins = joins';
}
