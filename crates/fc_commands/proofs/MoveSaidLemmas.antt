-- What directories are told, as directories of an edit that say something else; and the nodes that say so.
use Rattle.std.proofs.Common.{◌≡◌, ◌⊎◌, ⊎_elim, inl, inr, ℕ, Bool, true, false, List, [], ◌∷◌, ◌++◌, refl, sym, ap, ap₂, subst, ◌∙◌, Some, None}
use Rattle.std.specs.Prelude.{Contains}
use Rattle.std.specs.Cmp.{nat_cmp_total}
use Rattle.std.specs.FinMap.{get, nat_cmp-IsAntisymmetric, same_map}
use Rattle.std.specs.Option.{option_map}
use Rattle.std.proofs.lemmas.Bool.{cases_eq}
use Rattle.std.proofs.lemmas.List.Elements.{Contains-append_cases}
use Rattle.fc_names.specs.Names.{Path}
use Rattle.fc_dirs.specs.Directory.{Directory}
use Rattle.fc_drafts.specs.Draft.{directory_in}
use Rattle.fc_drafts.specs.Rewriting.{HasMoved}
use Rattle.fc_image.specs.Layout.{Layout}
use Rattle.fc_image.specs.Walk.{Listing, Object}
use Rattle.fc_tree.specs.declared.node.Node.{Node}
use Rattle.fc_tree.specs.Counts.{address_in}
use Rattle.fc_tree.specs.Nodes.{body_in, is_directory_node, number_of}
use Rattle.fc_tree.specs.declared.node.Body.{Body}
use Rattle.fc_tree.proofs.MemberLemmas.{contains_here, no_element}
use Rattle.fc_laws.specs.nodes.Edits.{Nodes, with_body}
use Rattle.fc_laws.proofs.lemmas.nodes.ShapeLemmas.{edited_here, edited_other}
use Rattle.fc_edits.specs.Edit.{Amended}
use Rattle.fc_edits.specs.NewNodes.{tell}
use Rattle.fc_edits.proofs.lemmas.ShapeLemmas.{of_one, only}
use Rattle.fc_edits.proofs.lemmas.TellLemmas.{AreOnce}
use Rattle.fc_refusals.specs.declared.target.Renaming.{Renaming}
use Rattle.fc_change.specs.declared.change.Says.{Says}
use Rattle.fc_change.specs.After.{with_said}
use Rattle.fc_change.specs.Directories.{Rewriting, TellAll}
use Rattle.fc_commands.proofs.MoveLemmas.{IsOwn, IsSeen, among, node_kind, o, own_listing}
use Rattle.fc_commands.proofs.MoveTellLemmas.{first_told, none_told, own_told, rewritten}
use Rattle.fc_image.proofs.EntriesLemmas.{later as contains_later, cases as contains_cases}

-- ---- one said for each of them

pub record IsSaid (nodes : Nodes) (listings : List Listing) (a : Amended) (s : Says) : Type 0 where
  pub listed : Contains listings a.was
  pub number : number_of nodes a.was.object.path ≡ Some a.number
  pub node : s.node ≡ a.number
  pub content : directory_in s.draft ≡ a.content

-- in this order
abbrev pub AreSaid : Nodes → List Listing → List Amended → List Says → Type 0
AreSaid nodes listings [] [] = Unit {0}
AreSaid nodes listings (a ∷ bs) (s ∷ ss) = IsSaid nodes listings a s × AreSaid nodes listings bs ss
AreSaid nodes listings _ _ = ⊥

pub both_said : (nodes : Nodes) (listings : List Listing) (xs ys : List Amended) (ss ts : List Says) → AreSaid nodes listings xs ss → AreSaid nodes listings ys ts → AreSaid nodes listings (xs ++ ys) (ss ++ ts)
both_said nodes listings [] ys [] ts first later = later
both_said nodes listings [] ys (s ∷ ss) ts first later = absurd first
both_said nodes listings (a ∷ xs) ys [] ts first later = absurd first
both_said nodes listings (a ∷ xs) ys (s ∷ ss) ts first later = (first.0, both_said nodes listings xs ys ss ts first.1 later)

-- ---- the nodes that say so

pub nodes_said : (nodes : Nodes) (listings : List Listing) (bs : List Amended) (ss : List Says) → AreSaid nodes listings bs ss → (ns : Nodes) → with_said ss ns ≡ tell bs ns
nodes_said nodes listings [] [] said ns = refl
nodes_said nodes listings [] (s ∷ ss) said ns = absurd said
nodes_said nodes listings (a ∷ bs) [] said ns = absurd said
nodes_said nodes listings (a ∷ bs) (s ∷ ss) said ns =
    ap₂ (λ (n : ℕ) (dir : Directory). with_said ss (with_body n (body_in dir) ns)) said.0.node said.0.content ∙ nodes_said nodes listings bs ss said.1 (with_body a.number (body_in a.content) ns)

-- two that are told one after the other
swapped : (ns : Nodes) (n m : ℕ) (a b : Body) → (n ≡ m → ⊥) → with_body n a (with_body m b ns) ≡ with_body m b (with_body n a ns)
swapped ns n m a b other = same_map nat_cmp_total nat_cmp-IsAntisymmetric (with_body n a (with_body m b ns)) (with_body m b (with_body n a ns)) (λ q. at q (cases_eq q n) (cases_eq q m))
  where
    says : Body → Node → Node
    says c node = record node { body = c }

    at : (q : ℕ) → (q ≡ n) ⊎ (q ≡ n → ⊥) → (q ≡ m) ⊎ (q ≡ m → ⊥) → get (with_body n a (with_body m b ns)) q ≡ get (with_body m b (with_body n a ns)) q
    at q (inl first) (inl second) = absurd (other (sym first ∙ second))
    at q (inl first) (inr second) =
        subst (λ (k : ℕ). get (with_body n a (with_body m b ns)) k ≡ get (with_body m b (with_body n a ns)) k) (sym first)
        (edited_here (with_body m b ns) n (says a) ∙ ap (option_map (says a)) (edited_other ns m (says b) n other)
        ∙ sym (edited_other (with_body n a ns) m (says b) n other ∙ edited_here ns n (says a)))
    at q (inr first) (inl second) =
        subst (λ (k : ℕ). get (with_body n a (with_body m b ns)) k ≡ get (with_body m b (with_body n a ns)) k) (sym second)
        (edited_other (with_body m b ns) n (says a) m (λ e. other (sym e)) ∙ edited_here ns m (says b)
        ∙ sym (edited_here (with_body n a ns) m (says b) ∙ ap (option_map (says b)) (edited_other ns n (says a) m (λ e. other (sym e)))))
    at q (inr first) (inr second) =
        edited_other (with_body m b ns) n (says a) q first ∙ edited_other ns m (says b) q second
        ∙ sym (edited_other (with_body n a ns) m (says b) q second ∙ edited_other ns n (says a) q first)

-- The last of them may as well be told first.
pub last_first : (bs : List Amended) (a : Amended) (ns : Nodes) → ((b : Amended) → Contains bs b → a.number ≡ b.number → ⊥) → tell (bs ++ a ∷ []) ns ≡ tell (a ∷ bs) ns
last_first [] a ns other = refl
last_first (b ∷ bs) a ns other =
    last_first bs a (with_body b.number (body_in b.content) ns) (λ c at. other c (contains_later b c bs at))
    ∙ ap (tell bs) (swapped ns a.number b.number (body_in a.content) (body_in b.content) (other b (contains_here b bs)))

-- Another number may stand last.
pub once_last : (bs : List Amended) (a : Amended) → AreOnce bs → ((b : Amended) → Contains bs b → b.number ≡ a.number → ⊥) → AreOnce (bs ++ a ∷ [])
once_last [] a once other = ((λ b at. absurd (no_element b at)), tt)
once_last (b ∷ bs) a once other = (
  λ d at. ⊎_elim (once.0 d) (λ is same. other b (contains_here b bs) (same ∙ ap (λ (f : Amended). f.number) (sym (only a d is)))) (Contains-append_cases bs (a ∷ []) d at),
  once_last bs a once.1 (λ d at. other d (contains_later b d bs at)),
)

-- ---- the object itself, if it is a directory

-- what it says
abbrev pub AreOwnSaid : ℕ → List (Listing × Directory) → List Says → Type 0
AreOwnSaid number [] [] = Unit {0}
AreOwnSaid number (d ∷ own) (s ∷ ss) = (s.node ≡ number) × (directory_in s.draft ≡ d.1) × AreOwnSaid number own ss
AreOwnSaid number _ _ = ⊥

pub said_own : (number : ℕ) (own : List (Listing × Directory)) (ss : List Says) → AreOwnSaid number own ss → (d : Listing × Directory) → Contains own d → (s : Says) × Contains ss s × (directory_in s.draft ≡ d.1)
said_own number [] [] are d at = absurd (no_element d at)
said_own number [] (s ∷ ss) are d at = absurd are
said_own number (e ∷ own) [] are d at = absurd are
said_own number (e ∷ own) (s ∷ ss) are d at = elim (contains_cases e d own at) [
  | inl here ↦ (s, contains_here s ss, are.1 ∙ ap (λ (f : Listing × Directory). f.1) here)
  | inr later ↦ (let more = said_own number own ss are.2 d later in (more.0, contains_later s more.0 ss more.1, more.2))
]

-- It has its new name, and the address of the directory that holds it then.
pub record IsOwnTold (nodes : Nodes) (listings : List Listing) (o : Object) (r : Renaming) (name : List ℕ) (ss : List Says) : Type 0 where
  pub own : List (Listing × Directory)
  pub is : IsOwn listings o own
  pub said : AreOwnSaid r.target.node own ss
  pub moved : (d : Listing × Directory) → Contains own d → HasMoved (address_in nodes r.holder) name d.0.content d.1

module _ (layout : Layout) (nodes : Nodes) (listings : List Listing) (from to : Path) (r : Renaming) (name : List ℕ) (x : IsSeen layout nodes listings from to r name) where
  abbrev it : Object
  it = o layout nodes listings from to r name x

  pub own_said : (ss : List Says) → TellAll None nodes (own_told (is_directory_node nodes r.target.node) r name) ss → IsOwnTold nodes listings it r name ss
  own_said ss tell = by (is_directory_node nodes r.target.node) refl tell
    where
      by : (b : Bool) → is_directory_node nodes r.target.node ≡ b → TellAll None nodes (own_told b r name) ss → IsOwnTold nodes listings it r name ss
      by true e t =
          let first = first_told nodes (r.target.node, Rewriting.Turns r.holder name) [] ss t in
          let d = own_listing layout listings x.sound it (among layout nodes listings from to r name x) (sym (node_kind layout nodes listings from to r name x) ∙ e) in
          let number : number_of nodes d.0.object.path ≡ Some r.target.node = ap (λ (p : Object). number_of nodes p.path) d.2 ∙ x.known.target.node_is in
          let content = directory_in first.said.draft in
          record {
            own = (d.0, content) ∷ [];
            is = inr ((d.0, content), refl, d.1, d.2);
            said = subst (AreOwnSaid r.target.node ((d.0, content) ∷ [])) (sym (first.are ∙ ap (λ (ts : List Says). first.said ∷ ts) (none_told nodes first.later first.tell_later)))
                (first.tells.number, refl, tt);
            moved = of_one (λ (q : Listing × Directory). HasMoved (address_in nodes r.holder) name q.0.content q.1) (d.0, content)
                (rewritten layout nodes listings x.sound x.held d.0 d.1 r.target.node number (Rewriting.Turns r.holder name) first.said first.tells);
          }
      by false e t = record {
        own = [];
        is = inl (sym (node_kind layout nodes listings from to r name x) ∙ e, refl);
        said = subst (AreOwnSaid r.target.node []) (sym (none_told nodes ss t)) tt;
        moved = λ d at. absurd (no_element d at);
      }
