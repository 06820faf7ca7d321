-- On a fresh volume the commands for a tree that fits leave the tree, and only want of space stops them.
use Rattle.std.proofs.Common.{◌≡◌, ℕ, false, List, [], ◌∷◌, ◌++◌, length, map, refl, sym, ap, subst, ◌∙◌, Option, Some, None, arith, length-append}
use Rattle.std.specs.Prelude.{Contains, Ok, Result}
use Rattle.std.specs.FinMap.{from_entries}
use Rattle.fc_names.specs.declared.name.NameForm.{NameForm}
use Rattle.fc_names.specs.declared.refusal.Refusal.{Refusal}
use Rattle.fc_names.specs.Names.{Path, folded_path}
use Rattle.fc_record.specs.declared.Kind.{Kind}
use Rattle.fc_model.specs.Answer.{answer, answer_or, changed, first_of, reasons}
use Rattle.fc_model.specs.Command.{Command}
use Rattle.fc_model.specs.Tree.{Node, Tree, root_node}
use Rattle.fc_image.specs.Layout.{Layout}
use Rattle.fc_image.specs.Sound.{AreSound}
use Rattle.fc_image.specs.Walk.{Listing, Object}
use Rattle.fc_image.specs.Objects.{node_of, objects_of, tree_entry, tree_of}
use Rattle.fc_image.specs.Opening.{Opened, open_image}
use Rattle.fc_image.specs.declared.ImageFault.{ImageFault}
use Rattle.fc_image.specs.Stays.{OpensAs}
use Rattle.fc_image.specs.effects.Effect.{State, tree_in}
use Rattle.fc_image.specs.effects.Short.{short}
use Rattle.fc_format.specs.declared.Format.{Format}
use Rattle.fc_format.specs.Fresh.{format_size, zeros}
use Rattle.fc_format.specs.Opens.{FreshLaw, IsRootAlone}
use Rattle.fc_tree.proofs.MemberLemmas.{contains_here}
use Rattle.fc_tree.proofs.WalkedLemmas.{same_some, sound_law}
use Rattle.fc_fit.specs.Commands.{commands_for, making_command, object_commands, objects_in}
use Rattle.fc_fit.specs.Doing.{ConvertsLaw, DoAll, Does, HasNoRoom, IsFreshState, IsShort, StopIn, refusal_by}
use Rattle.fc_fit.specs.Fit.{form_of, spelled_key}
use Rattle.fc_fit.specs.Makes.{Accepts, MakesTree, tree_with}
use Rattle.fc_fit.proofs.RisingLemmas.{node_there, tree_is}
use Rattle.fc_fit.proofs.ShortLemmas.{mark_fits, set_fits}
use Rattle.fc_fit.proofs.TreeLemmas.{makes_law}

-- ---- what commands leave

same_ok : (a b : Tree) → (let r : Result Tree Refusal = Ok a in r) ≡ Ok b → a ≡ b
same_ok a b e = cc

-- the tree that a command leaves is the one that is answered
after_one : (form : NameForm) (kind : Kind) (s mid : State) (t t' : Tree) (c : Command) → tree_in s ≡ t → answer t form false c ≡ Ok t' → Does form kind s c mid → tree_in mid ≡ t'
after_one form kind s mid t t' c is accepted done =
    done.3.tree ∙ same_ok done.0 t' (sym done.1 ∙ ap (λ (u : Tree). answer u form false c) is ∙ accepted)

pub do_tree : (form : NameForm) (kind : Kind) (s s' : State) (t t' : Tree) (commands : List Command) → tree_in s ≡ t → Accepts form t commands t' → DoAll form kind s commands s' → tree_in s' ≡ t'
do_tree form kind s s' t t' [] is accepted done = ap tree_in done ∙ is ∙ sym accepted
do_tree form kind s s' t t' (c ∷ commands) is accepted done =
    do_tree form kind done.0 s' accepted.0 t' commands (after_one form kind s done.0 t accepted.0 c is accepted.1 done.1) accepted.2 done.2

pub do_opens : (form : NameForm) (kind : Kind) (s s' : State) (commands : List Command) → OpensAs s.image kind s.view → DoAll form kind s commands s' → OpensAs s'.image kind s'.view
do_opens form kind s s' [] opens done = subst (λ (x : State). OpensAs x.image kind x.view) (sym done) opens
do_opens form kind s s' (c ∷ commands) opens done = do_opens form kind done.0 s' commands done.1.3.opens.opens done.2

-- ---- refusals

first_last : (os : List (Option Refusal)) (o : Option Refusal) → first_of os ≡ None → first_of (os ++ o ∷ []) ≡ o
first_last [] None none = refl
first_last [] (Some r) none = refl
first_last (None ∷ os) o none = first_last os o none
first_last (Some r ∷ os) o none = absurd (cc)

accepted_none : (t t' : Tree) (form : NameForm) (c : Command) → answer t form false c ≡ Ok t' → first_of (reasons t form false c) ≡ None
unfolding answer
accepted_none t t' form c is = by (first_of (reasons t form false c)) is
  where
    by : (o : Option Refusal) → answer_or (changed t c) o ≡ Ok t' → o ≡ None
    by None e = refl
    by (Some r) e = absurd (cc)

-- what the tree accepts is refused for want of space alone
short_is : (form : NameForm) (s : State) (t' : Tree) (c : Command) (refusal : Refusal) → answer (tree_in s) form false c ≡ Ok t' → refusal_by form s c ≡ Some refusal → short s.view c ≡ Some refusal
short_is form s t' c refusal accepted refused =
    sym (first_last (reasons (tree_in s) form false c) (short s.view c) (accepted_none (tree_in s) t' form c accepted)) ∙ refused

-- A command that wants no space isn't refused.
not_refused : (form : NameForm) (kind : Kind) (s state : State) (t t' : Tree) (front : List Command) (next : Command) (rest : List Command) (refusal : Refusal) → tree_in s ≡ t
    → Accepts form t (front ++ next ∷ rest) t' → DoAll form kind s front state → short state.view next ≡ None → refusal_by form state next ≡ Some refusal → ⊥
not_refused form kind s state t t' [] next rest refusal is accepted done fits refused =
    let tree : tree_in state ≡ t = ap tree_in done ∙ is in
    let want = short_is form state accepted.0 next refusal (ap (λ (u : Tree). answer u form false next) tree ∙ accepted.1) refused in
    let two : None ≡ Some refusal = sym fits ∙ want in
    absurd (cc)
not_refused form kind s state t t' (c ∷ front) next rest refusal is accepted done fits refused =
    not_refused form kind done.0 state accepted.0 t' front next rest refusal (after_one form kind s done.0 t accepted.0 c is accepted.1 done.1) accepted.2 done.2 fits refused

same_head : (a b : Command) (xs ys : List Command) → a ∷ xs ≡ b ∷ ys → (a ≡ b) × (xs ≡ ys)
same_head a b xs ys e = (cc, cc)

no_cons : (front : List Command) (next : Command) (rest : List Command) → [] ≡ front ++ next ∷ rest → ⊥
no_cons front next rest e = let long = ap length e in let both = length-append front (next ∷ rest) in omega (arith, long, both)

-- Of an object's commands only the first is refused.
making_stops : (form : NameForm) (kind : Kind) (s state : State) (t t' : Tree) (path : Path) (n : Node) (refusal : Refusal) → tree_in s ≡ t → OpensAs s.image kind s.view
    → Accepts form t (object_commands path n) t' → StopIn form kind (object_commands path n) s state refusal → (state ≡ s) × IsShort form s (making_command path n) refusal
making_stops form kind s state t t' path n refusal is opens accepted stop = by stop.front stop.cut stop.done
  where
    fits : (front : List Command) → DoAll form kind s front state → (o : Command) → stop.next ≡ o → short state.view o ≡ None → Accepts form t (front ++ stop.next ∷ stop.rest) t' → ⊥
    fits front done o same none accepts =
        not_refused form kind s state t t' front stop.next stop.rest refusal is accepts done (ap (short state.view) same ∙ none) stop.refused

    by : (front : List Command) → object_commands path n ≡ front ++ stop.next ∷ stop.rest → DoAll form kind s front state → (state ≡ s) × IsShort form s (making_command path n) refusal
    by [] cut done =
        let making : making_command path n ≡ stop.next = (same_head (making_command path n) stop.next _ stop.rest cut).0 in
        let answered : answer (tree_in s) form false (making_command path n) ≡ Ok accepted.0 = ap (λ (u : Tree). answer u form false (making_command path n)) is ∙ accepted.1 in
        let refused : refusal_by form s (making_command path n) ≡ Some refusal = ap (refusal_by form s) making ∙ ap (λ (x : State). refusal_by form x stop.next) (sym done) ∙ stop.refused in
        (done, (accepted.0, answered, short_is form s accepted.0 (making_command path n) refusal answered refused))
    by (c ∷ []) cut done =
        let rest = (same_head (making_command path n) c _ (stop.next ∷ stop.rest) cut).1 in
        let set = (same_head (Command.Set path n.load n.exec (Rattle.std.specs.Prelude.◌%◌ n.attrs 8)) stop.next _ stop.rest rest).0 in
        absurd (fits (c ∷ []) done _ (sym set) (set_fits state.image kind state.view path n.load n.exec (Rattle.std.specs.Prelude.◌%◌ n.attrs 8) (do_opens form kind s state (c ∷ []) opens done))
        (subst (λ (cs : List Command). Accepts form t cs t') cut accepted))
    by (c ∷ d ∷ []) cut done =
        let rest = (same_head (making_command path n) c _ (d ∷ stop.next ∷ stop.rest) cut).1 in
        let later = (same_head _ d _ (stop.next ∷ stop.rest) rest).1 in
        let mark = (same_head (Command.Mark path n.attrs) stop.next [] stop.rest later).0 in
        absurd (fits (c ∷ d ∷ []) done _ (sym mark) (mark_fits state.image kind state.view path n.attrs (do_opens form kind s state (c ∷ d ∷ []) opens done))
        (subst (λ (cs : List Command). Accepts form t cs t') cut accepted))
    by (c ∷ d ∷ e ∷ front) cut done =
        let rest = (same_head (making_command path n) c _ (d ∷ e ∷ front ++ stop.next ∷ stop.rest) cut).1 in
        let later = (same_head _ d _ (e ∷ front ++ stop.next ∷ stop.rest) rest).1 in
        let last = (same_head (Command.Mark path n.attrs) e [] (front ++ stop.next ∷ stop.rest) later).1 in
        absurd (no_cons front stop.next stop.rest last)

-- ---- the fresh volume

pub same_opened : (a b : Opened) → (let r : Result Opened ImageFault = Ok a in r) ≡ Ok b → a ≡ b
same_opened a b e = cc

alone_tree : (image : List ℕ) (layout : Layout) (listings : List Listing) → AreSound layout listings → IsRootAlone listings → tree_of image layout listings ≡ tree_with []
unfolding tree_of
alone_tree image layout listings sound alone =
    ap (λ (os : List Object). from_entries (map (tree_entry image layout) os)) one
    ∙ ap (λ (e : Path × Node). from_entries (e ∷ [])) (λ i. (folded_path (alone.at_top i), node i))
  where
    one : objects_of listings ≡ alone.root.object ∷ []
    one = ap objects_of alone.alone ∙ ap (λ (os : List Object). alone.root.object ∷ os ++ []) alone.no_children

    there : Contains (objects_of listings) alone.root.object
    there = subst (λ (os : List Object). Contains os alone.root.object) (sym one) (contains_here alone.root.object [])

    node : node_of image layout alone.root.object ≡ root_node
    node =
        same_some (node_of image layout alone.root.object) root_node
        (sym (node_there image layout listings sound alone.root.object there)
        ∙ ap (λ (p : Path). Rattle.std.specs.FinMap.get (tree_of image layout listings) (folded_path p)) alone.at_top
        ∙ (tree_is image layout listings sound).root)

fresh_tree : FreshLaw → (format : Format) (kind : Kind) (s : State) → IsFreshState format kind s → tree_in s ≡ tree_with []
fresh_tree fresh_law format kind s fresh =
    let law = fresh_law format (zeros (format_size format)) in
    let same : law.0 ≡ s.view = same_opened law.0 s.view (sym law.1 ∙ ap open_image (sym fresh.image) ∙ fresh.accepted) in
    alone_tree s.image s.view.layout s.view.listings (sound_law s.image kind s.view fresh.opens) (subst (λ (v : Opened). IsRootAlone v.listings) same law.2)

-- ---- the law

pub converts_law : FreshLaw → ConvertsLaw
converts_law fresh_law format kind t fresh is_tree marked fits starts = record {
  all = λ s done. record {
    fresh = fresh;
    starts = starts;
    done = done;
    opens = do_opens (form_of format) kind fresh s (commands_for t (objects_in t)) starts.opens done;
    tree = do_tree (form_of format) kind fresh s (tree_with []) t (commands_for t (objects_in t)) empty makes.all done;
  };
  some = λ before next behind mid s refusal cut done stop.
      (let accepted = makes.before before next behind cut in
      let tree = do_tree (form_of format) kind fresh mid (tree_with []) (tree_with before) (commands_for t before) empty accepted.0 done in
      let opens = do_opens (form_of format) kind fresh mid (commands_for t before) starts.opens done in
      let stops = making_stops (form_of format) kind mid s (tree_with before) (tree_with (before ++ next ∷ [])) (spelled_key t next.0) next.1 refusal tree opens accepted.1 stop in
      subst (λ (x : State). HasNoRoom format kind t (spelled_key t next.0) refusal x) (sym stops.0)
      (record {
        fresh = fresh;
        starts = starts;
        before = before;
        next = next;
        behind = behind;
        cut = cut;
        done = done;
        opens = opens;
        tree = tree;
        at = refl;
        refused = stops.1;
      }));
}
  where
    makes : MakesTree format t
    makes = makes_law format t is_tree marked fits

    empty : tree_in fresh ≡ tree_with []
    empty = fresh_tree fresh_law format kind fresh starts
