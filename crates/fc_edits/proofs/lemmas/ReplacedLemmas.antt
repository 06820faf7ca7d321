-- The nodes after a file has come in the place of another, whose node it gets.
use Rattle.std.proofs.Common.{◌≡◌, ◌⊎◌, inl, ⊎_elim, ℕ, true, false, List, [], ◌∷◌, ◌++◌, length, map, refl, sym, ap, subst, ◌∙◌, arith, None, Some}
use Rattle.std.specs.Prelude.{Contains}
use Rattle.std.specs.Option.{option_map}
use Rattle.std.specs.FinMap.{get, insert as put}
use Rattle.std.proofs.lemmas.Bool.{cases_eq}
use Rattle.fc_dirs.specs.declared.Entry.{Entry}
use Rattle.fc_image.specs.Layout.{Layout}
use Rattle.fc_image.specs.Walk.{Listing, Object, is_directory_object}
use Rattle.fc_tree.specs.declared.node.Body.{Body}
use Rattle.fc_tree.specs.declared.node.Body.TheVariants as bodies
use Rattle.fc_tree.specs.declared.node.Node.{Node}
use Rattle.fc_tree.specs.Nodes.{body_in}
use Rattle.fc_tree.proofs.MemberLemmas.{contains_here, from_map, no_element}
use Rattle.fc_tree.proofs.WalkedLemmas.{child_is_object, same_some}
use Rattle.fc_changes.proofs.BasicLemmas.{clash}
use Rattle.fc_laws.specs.nodes.Edits.{Nodes}
use Rattle.fc_laws.specs.nodes.Laws.{IsHeld}
use Rattle.fc_laws.proofs.lemmas.nodes.ListLemmas.{in_first}
use Rattle.fc_laws.proofs.lemmas.nodes.ShapeLemmas.{put_here, put_other, body_other, body_said}
use Rattle.fc_laws.proofs.lemmas.nodes.FitsLemmas.{kid_at, fits_at}
use Rattle.fc_edits.specs.Addition.{Addition, GetsNode, IsAddition, Replaces, amended, edit, leaves, nodes_over}
use Rattle.fc_edits.specs.Edit.{Amended, AreEdited, leaving, numbers}
use Rattle.fc_laws.specs.nodes.Lookups.{held_as, held_by, said, says_at}
use Rattle.fc_edits.specs.NewNodes.{entered}
use Rattle.fc_edits.proofs.lemmas.AdditionLemmas.{l_in, own_listed}
use Rattle.fc_edits.proofs.lemmas.EnterLemmas.{enter_length, entered_held, entered_says, none_new}
use Rattle.fc_edits.proofs.lemmas.ShapeLemmas.{not_own, of_one}
use Rattle.fc_edits.proofs.lemmas.TellLemmas.{tell_held, tell_length}

module _ (nodes : Nodes) (layout : Layout) (listings : List Listing) (c : Addition) (h : IsHeld nodes layout listings) (d : IsAddition nodes layout listings c) (p : Object) (over : c.over ≡ p ∷ []) where
  gets : Replaces nodes c.number p c.o
  gets = subst (λ (os : List Object). GetsNode nodes c.number os c.o) over d.node

  abbrev n : ℕ
  n = c.number

  abbrev node : Node
  node = entered c.dir c.o (get nodes n)

  abbrev first : Nodes
  first = put nodes n node

  abbrev said_now : Body
  said_now = body_in c.content

  there : Contains listings c.l
  there = l_in nodes layout listings c h d

  kid : Contains c.l.children p
  kid = in_first c.l.children (c.over ++ c.kids) d.had p (subst (λ (os : List Object). Contains (os ++ c.kids) p) (sym over) (contains_here p c.kids))

  dir_other : c.dir ≡ n → ⊥
  dir_other = not_own nodes layout listings c.l p c.dir n h there kid d.dir_is gets.number_is

  dir_says : says_at nodes c.dir ≡ Some (body_in c.l.content)
  dir_says = (fits_at layout listings nodes h.sound h.held c.l c.dir there d.dir_is).says

  was_file : says_at nodes n ≡ Some bodies.File
  was_file = (kid_at layout listings nodes h.sound h.held c.l p c.dir n there kid d.dir_is gets.number_is).file gets.was_file

  was_node : (a : Node) × (get nodes n ≡ Some a)
  was_node =
      let k = h.held.each p (child_is_object layout listings h.sound c.l p there kid) in
      (_, ap (get nodes) (same_some n k.number (sym gets.number_is ∙ k.at_path)) ∙ k.is)

  leave_is : numbers (leaving (edit c)) ≡ n ∷ []
  leave_is = subst (λ (os : List Object). numbers (map (λ (q : Object). (n, q)) os ++ []) ≡ n ∷ []) (sym over) refl

  long : length (leaves c ++ []) ≡ 1
  long = subst (λ (os : List Object). length {A = ℕ × Object} (map (λ (q : Object). (n, q)) os ++ []) ≡ 1) (sym over) refl

  its_file : says_at (nodes_over c nodes) n ≡ Some bodies.File
  its_file =
      body_other first c.dir said_now n (λ e. dir_other (sym e)) ∙ ap (option_map said) (put_here nodes n node) ∙ ap (λ (b : Body). Some b) (entered_says c.dir c.o (get nodes n) bodies.File was_file)

  pub replaced_edited : AreEdited nodes (nodes_over c nodes) (edit c)
  replaced_edited = record {
    others = λ m stays away.
        tell_held (amended c ∷ []) first m
        ∙ ap (option_map held_by) (put_other nodes n m node (λ e. away (subst (Contains (n ∷ [])) (sym e) (contains_here n []))));
    joined = λ a q at joins.
        of_one (λ (b : Amended). (x : ℕ × Object) → Contains b.join x → held_as (nodes_over c nodes) x.0 ≡ Some (b.number, x.1.entry)) (amended c)
        (of_one (λ (x : ℕ × Object). held_as (nodes_over c nodes) x.0 ≡ Some (c.dir, x.1.entry)) (n, c.o)
        (tell_held (amended c ∷ []) first n ∙ ap (option_map held_by) (put_here nodes n node) ∙ ap (λ (y : ℕ × Entry). Some y) (entered_held c.dir c.o (get nodes n)))) a at q joins;
    top = λ q at. absurd (no_element q at);
    gone = λ m at away. absurd (away (subst (λ (ns : List ℕ). Contains ns m) leave_is at));
    says = of_one (λ (b : Amended). says_at (nodes_over c nodes) b.number ≡ Some (body_in b.content)) (amended c)
        (body_said first c.dir said_now (body_in c.l.content) (ap (option_map said) (put_other nodes n c.dir node dir_other) ∙ dir_says));
    into_say = λ x at.
        (let k = from_map (λ (y : Listing). (n, y)) c.into x at in
        absurd (clash (is_directory_object c.o) (own_listed layout c.into c.o d.alone k.0 k.1).directory gets.file));
    files = λ q at file. of_one (λ (x : ℕ × Object). is_directory_object x.1 ≡ false → says_at (nodes_over c nodes) x.0 ≡ Some bodies.File) (n, c.o) (λ f. its_file) q at file;
    silent = λ m there' none leaves'.
        ⊎_elim (λ same. subst (λ (k : ℕ). says_at (nodes_over c nodes) k ≡ says_at nodes k) (sym same) (its_file ∙ sym was_file))
        (λ other. body_other first c.dir said_now m (λ e. none (subst (Contains (c.dir ∷ [])) (sym e) (contains_here c.dir []))) ∙ ap (option_map said) (put_other nodes n m node other)) (cases_eq m n);
    free = of_one (λ (x : ℕ × Object). (Contains (numbers (leaving (edit c))) x.0) ⊎ ((get nodes x.0 ≡ None) × (x.0 ≡ 0 → ⊥))) (n, c.o)
        (inl (subst (λ (ns : List ℕ). Contains ns n) (sym leave_is) (contains_here n [])));
    new = λ q at directory. of_one (λ (x : ℕ × Object). is_directory_object x.1 ≡ true → get nodes x.0 ≡ None) (n, c.o) (λ f. absurd (clash (is_directory_object c.o) f gets.file)) q at directory;
    count =
        (let one = tell_length (amended c ∷ []) first in
        let more = enter_length ((c.dir, (n, c.o)) ∷ []) nodes ((λ at. no_element n at), tt) in
        let old = none_new nodes (n ∷ []) (of_one (λ (k : ℕ). (a : Node) × (get nodes k ≡ Some a)) n was_node) in
        let left = long in
        omega (arith, one, more, old, left));
  }
