-- What each directory that a job names can be told, and those around a grown one.
use Rattle.std.proofs.Common.{◌≡◌, ◌==◌, ◌||◌, ℕ, ◌<◌, zero, suc, length, arith, Bool, true, false, not, cond, List, [], ◌∷◌, ◌++◌, Option, Some, refl, sym, ap, subst, ◌∙◌, append_assoc, eq-eqb, ne_eqb}
use Rattle.std.specs.Prelude.{Contains, filter, get_or, map}
use Rattle.std.specs.FinMap.{get}
use Rattle.std.specs.List.{flat_map, list_any}
use Rattle.std.specs.Option.{option_map_or}
use Rattle.std.proofs.lemmas.List.{append-nil, map-append}
use Rattle.std.proofs.lemmas.List.Elements.{Contains-append_left, Contains-append_right, filter-append}
use Rattle.fc_dirs.specs.declared.Entry.{Entry}
use Rattle.fc_laws.specs.nodes.Edits.{Nodes}
use Rattle.fc_refusals.specs.declared.target.Renaming.{Renaming}
use Rattle.fc_refusals.specs.declared.target.Target.{Target}
use Rattle.fc_tree.proofs.MemberLemmas.{contains_here}
use Rattle.fc_tree.proofs.WalkedLemmas.{same_some}
use Rattle.fc_refusals.specs.Places.{entries_in}
use Rattle.fc_tree.specs.Counts.{address_in}
use Rattle.fc_tree.specs.Nodes.{is_directory_node}
use Rattle.fc_tree.specs.declared.node.Node.{Node}
use Rattle.fc_change.specs.declared.change.Regrowth.{Regrowth}
use Rattle.fc_change.specs.declared.change.Says.{Says}
use Rattle.fc_change.specs.declared.job.Job.TheVariants as jobs
use Rattle.fc_change.specs.Directories.{CanTell, CanTellThese, HasToldMore, Rewriting, TellAll, child_of, children_of, directories_in, holders_of, is_told, nodes_told, told_around}
use Rattle.fc_change.specs.Drafts.{IsEntryOf, IsMadeOf, told_first, told_last}
use Rattle.fc_change.proofs.DraftLemmas.{tell_append}

-- ---- the directories of an object that is renamed

pub can_rename : (grown : Option Regrowth) (nodes : Nodes) (r : Renaming) (e : Entry) → r.holder ≡ r.target.holder → CanTellThese nodes grown (told_first (jobs.Move r) e) → CanTell grown nodes r.holder (Rewriting.Renames r.target.at e)
can_rename grown nodes r e same can =
    can (r.holder, Rewriting.Renames r.target.at e)
    (subst (λ (b : Bool). Contains {X = ℕ × Rewriting} (cond b ((r.holder, Rewriting.Renames r.target.at e) ∷ []) ((r.holder, Rewriting.Enters e) ∷ [])) (r.holder, Rewriting.Renames r.target.at e))
    (sym (eq-eqb r.holder r.target.holder same)) (contains_here (r.holder, Rewriting.Renames r.target.at e) []))

pub can_enter : (grown : Option Regrowth) (nodes : Nodes) (r : Renaming) (e : Entry) → (r.holder ≡ r.target.holder → ⊥) → CanTellThese nodes grown (told_first (jobs.Move r) e) → CanTell grown nodes r.holder (Rewriting.Enters e)
can_enter grown nodes r e other can =
    can (r.holder, Rewriting.Enters e)
    (subst (λ (b : Bool). Contains {X = ℕ × Rewriting} (cond b ((r.holder, Rewriting.Renames r.target.at e) ∷ []) ((r.holder, Rewriting.Enters e) ∷ [])) (r.holder, Rewriting.Enters e))
    (sym (ne_eqb r.holder r.target.holder other)) (contains_here (r.holder, Rewriting.Enters e) []))

abbrev turned : Nodes → Renaming → List ℕ → List (ℕ × Rewriting)
turned nodes r name = cond (is_directory_node nodes r.target.node) ((r.target.node, Rewriting.Turns r.holder name) ∷ []) []

abbrev left : Renaming → List (ℕ × Rewriting)
left r = cond (r.holder == r.target.holder) [] ((r.target.holder, Rewriting.Leaves r.target.at) ∷ [])

pub can_turn : (grown : Option Regrowth) (nodes : Nodes) (r : Renaming) (name : List ℕ) → true ≡ is_directory_node nodes r.target.node → CanTellThese nodes grown (told_last nodes (jobs.Move r) name)
    → CanTell grown nodes r.target.node (Rewriting.Turns r.holder name)
can_turn grown nodes r name is can =
    can (r.target.node, Rewriting.Turns r.holder name)
    (subst (λ (b : Bool). Contains {X = ℕ × Rewriting} (cond b ((r.target.node, Rewriting.Turns r.holder name) ∷ []) [] ++ left r) (r.target.node, Rewriting.Turns r.holder name)) is
    (contains_here (r.target.node, Rewriting.Turns r.holder name) (left r)))

pub can_leave : (grown : Option Regrowth) (nodes : Nodes) (r : Renaming) (name : List ℕ) → (r.holder ≡ r.target.holder → ⊥) → CanTellThese nodes grown (told_last nodes (jobs.Move r) name)
    → CanTell grown nodes r.target.holder (Rewriting.Leaves r.target.at)
can_leave grown nodes r name other can =
    can (r.target.holder, Rewriting.Leaves r.target.at)
    (Contains-append_right (turned nodes r name) (left r) (r.target.holder, Rewriting.Leaves r.target.at)
    (subst (λ (b : Bool). Contains {X = ℕ × Rewriting} (cond b [] ((r.target.holder, Rewriting.Leaves r.target.at) ∷ [])) (r.target.holder, Rewriting.Leaves r.target.at)) (sym (ne_eqb r.holder r.target.holder other))
    (contains_here (r.target.holder, Rewriting.Leaves r.target.at) [])))

-- A target has one entry, so what is made of it is one.
pub same_made : (nodes : Nodes) (t : Target) (f : Entry → Entry) (e now was : Entry) → IsMadeOf nodes t f e → IsEntryOf nodes t was → now ≡ f was → e ≡ now
same_made nodes t f e now was made is made_now = made.2 ∙ ap f (same_some made.0 was (sym made.1 ∙ is)) ∙ sym made_now

-- ---- those around a grown one

any_told : (n : ℕ) (ss : List Says) → list_any (λ (s : Says). s.node == n) ss ≡ is_told (nodes_told ss) n
any_told n [] = refl
any_told n (s ∷ ss) = ap (λ (b : Bool). (s.node == n) || b) (any_told n ss)

pub told_is : (first n : ℕ) (last : List Says) (b : Bool) → (first ≡ n → ⊥) → b ≡ list_any (λ (s : Says). s.node == n) last → b ≡ is_told (first ∷ nodes_told last) n
told_is first n last b other any = any ∙ any_told n last ∙ ap (λ (x : Bool). x || is_told (nodes_told last) n) (sym (ne_eqb first n other))

pub can_stay : (grown : Option Regrowth) (nodes : Nodes) (told : List ℕ) (n : ℕ) → false ≡ is_told told n → CanTellThese nodes grown (told_around told (n ∷ [])) → CanTell grown nodes n Rewriting.Stays
can_stay grown nodes told n other can =
    can (n, Rewriting.Stays)
    (subst (λ (b : Bool). Contains {X = ℕ × Rewriting} (map (λ (k : ℕ). (k, Rewriting.Stays)) (cond (not b) (n ∷ []) [])) (n, Rewriting.Stays)) other (contains_here (n, Rewriting.Stays) []))

told_append : (told ns ms : List ℕ) → told_around told (ns ++ ms) ≡ told_around told ns ++ told_around told ms
told_append told ns ms =
    ap (map (λ (n : ℕ). (n, Rewriting.Stays))) (filter-append (λ (n : ℕ). not (is_told told n)) ns ms)
    ∙ map-append (λ (n : ℕ). (n, Rewriting.Stays)) (filter (λ (n : ℕ). not (is_told told n)) ns) (filter (λ (n : ℕ). not (is_told told n)) ms)

-- Those that are told one after another are told together.
pub told_more : (grown : Option Regrowth) (nodes : Nodes) (told ns ms all : List ℕ) (was mid now : List Says) → HasToldMore nodes grown (told_around told ns) was mid → HasToldMore nodes grown (told_around told ms) mid now
    → all ≡ ns ++ ms → HasToldMore nodes grown (told_around told all) was now
told_more grown nodes told ns ms all was mid now one two are = record {
  more = one.more ++ two.more;
  after = two.after ∙ ap (λ (ss : List Says). ss ++ two.more) one.after ∙ append_assoc was one.more two.more;
  tell = subst (λ (qs : List (ℕ × Rewriting)). TellAll grown nodes qs (one.more ++ two.more)) (sym (ap (told_around told) are ∙ told_append told ns ms))
      (tell_append grown nodes (told_around told ns) (told_around told ms) one.more two.more one.tell two.tell);
}

-- Those that an entry names are among those that all entries name.
told_of : (told : List ℕ) (f : Entry → List ℕ) (es : List Entry) (i : ℕ) (e : Entry) (q : ℕ × Rewriting) → i < length es → get_or es i e ≡ e → Contains (told_around told (f e)) q
    → Contains (told_around told (flat_map f es)) q
told_of told f [] i e q low is at = absurd (omega (arith, low))
told_of told f (x ∷ es) zero e q low is at =
    subst (λ (qs : List (ℕ × Rewriting)). Contains qs q) (sym (told_append told (f x) (flat_map f es)))
    (Contains-append_left (told_around told (f x)) (told_around told (flat_map f es)) q (subst (λ (y : Entry). Contains (told_around told (f y)) q) (sym is) at))
told_of told f (x ∷ es) (suc i) e q low is at =
    subst (λ (qs : List (ℕ × Rewriting)). Contains qs q) (sym (told_append told (f x) (flat_map f es)))
    (Contains-append_right (told_around told (f x)) (told_around told (flat_map f es)) q (told_of told f es i e q (omega (arith, low)) is at))

pub can_tell_child : (grown : Option Regrowth) (nodes : Nodes) (told : List ℕ) (f : Entry → List ℕ) (es : List Entry) (e : Entry) → Contains es e → CanTellThese nodes grown (told_around told (flat_map f es))
    → CanTellThese nodes grown (told_around told (f e))
can_tell_child grown nodes told f es e here can q at = can q (told_of told f es here.0 e q here.1 here.2 at)

-- Of two groups each can be told.
pub can_first : (grown : Option Regrowth) (nodes : Nodes) (told ns ms : List ℕ) → CanTellThese nodes grown (told_around told (ns ++ ms)) → CanTellThese nodes grown (told_around told ns)
can_first grown nodes told ns ms can q at =
    can q (subst (λ (qs : List (ℕ × Rewriting)). Contains qs q) (sym (told_append told ns ms)) (Contains-append_left (told_around told ns) (told_around told ms) q at))

pub can_second : (grown : Option Regrowth) (nodes : Nodes) (told ns ms : List ℕ) → CanTellThese nodes grown (told_around told (ns ++ ms)) → CanTellThese nodes grown (told_around told ms)
can_second grown nodes told ns ms can q at =
    can q (subst (λ (qs : List (ℕ × Rewriting)). Contains qs q) (sym (told_append told ns ms)) (Contains-append_right (told_around told ns) (told_around told ms) q at))

-- Nothing is told to none.
pub none_told : (grown : Option Regrowth) (nodes : Nodes) (told ns : List ℕ) (says : List Says) → ns ≡ [] → HasToldMore nodes grown (told_around told ns) says says
none_told grown nodes told ns says none = record {
  more = [];
  after = sym (append-nil says);
  tell = subst (λ (ks : List ℕ). TellAll grown nodes (told_around told ks) []) (sym none) tt;
}

-- ---- which they are

-- The root has no holder, and another directory one.
pub no_holders : (nodes : Nodes) (g : Regrowth) → g.node ≡ 0 → holders_of nodes g ≡ []
no_holders nodes g root = ap (λ (b : Bool). cond b [] (option_map_or (λ (node : Node). node.holder ∷ []) (get nodes g.node) [])) (eq-eqb g.node 0 root)

pub holders_are : (nodes : Nodes) (g : Regrowth) (x : Node) → get nodes g.node ≡ Some x → (g.node ≡ 0 → ⊥) → holders_of nodes g ≡ x.holder ∷ []
holders_are nodes g x there other =
    ap (λ (b : Bool). cond b [] (option_map_or (λ (node : Node). node.holder ∷ []) (get nodes g.node) [])) (ne_eqb g.node 0 other)
    ∙ ap (λ (o : Option Node). option_map_or (λ (node : Node). node.holder ∷ []) o []) there

-- the address of a node's object
address_is : (nodes : Nodes) (g : Regrowth) (x : Node) → get nodes g.node ≡ Some x → address_in nodes g.node ≡ x.entry.address
address_is nodes g x there = ap (λ (o : Option Node). option_map_or (λ (node : Node). node.entry.address) o 0) there

-- One that keeps its address has none to tell, and another the directories in it.
pub no_children : (nodes : Nodes) (g : Regrowth) (x : Node) → get nodes g.node ≡ Some x → x.entry.address ≡ g.address → children_of nodes g ≡ []
no_children nodes g x there same = ap (λ (b : Bool). cond b [] (directories_in nodes g.node)) (eq-eqb (address_in nodes g.node) g.address (address_is nodes g x there ∙ same))

pub children_are : (nodes : Nodes) (g : Regrowth) (x : Node) (es : List Entry) → get nodes g.node ≡ Some x → (x.entry.address ≡ g.address → ⊥) → es ≡ entries_in x.body
    → children_of nodes g ≡ flat_map (child_of nodes g.node) es
children_are nodes g x es there other are =
    ap (λ (b : Bool). cond b [] (directories_in nodes g.node)) (ne_eqb (address_in nodes g.node) g.address (λ e. other (sym (address_is nodes g x there) ∙ e)))
    ∙ ap (λ (o : Option Node). flat_map (child_of nodes g.node) (option_map_or (λ (node : Node). entries_in node.body) o [])) there
    ∙ ap (flat_map (child_of nodes g.node)) (sym are)
