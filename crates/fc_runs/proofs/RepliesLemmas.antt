-- Replies settle the tree.
use Rattle.std.proofs.Common.{◌≡◌, ℕ, Bool, true, false, List, [], ◌∷◌, get_or, refl, arith, sym, ap, ap₂, subst, ◌∙◌, Option, Some, None, ◌==◌, if◌then◌else◌}
use Rattle.std.specs.Prelude.{Result, Ok, Err}
use Rattle.std.specs.Option.{option_map}
use Rattle.fc_names.specs.declared.refusal.Refusal.{Refusal}
use Rattle.fc_names.specs.declared.name.NameForm.{NameForm}
use Rattle.fc_names.specs.declared.name.NameForm.TheVariants.{Ten, Long}
use Rattle.fc_record.specs.declared.Geometry.{Geometry}
use Rattle.fc_record.specs.declared.Kind.{Kind}
use Rattle.fc_model.specs.Tree.{Tree}
use Rattle.fc_model.specs.Command.{Command}
use Rattle.fc_model.specs.Answer.{answer, changed, first_of}
use Rattle.fc_image.specs.Layout.{Layout, dir_form}
use Rattle.fc_image.specs.Walk.{Object}
use Rattle.fc_image.specs.Opening.{Opened}
use Rattle.fc_image.specs.Stays.{IsNewLayout}
use Rattle.fc_image.specs.effects.Short.{short}
use Rattle.fc_image.specs.effects.Steady.{OutsideSteady}
use Rattle.fc_image.specs.effects.Effect.{State, tree_in}
use Rattle.fc_image.specs.safe.SafeShort.{SafeRefusal, safe_refusal}
use Rattle.fc_image.specs.safe.Reclaim.{ReclaimOutside}
use Rattle.fc_script.specs.Lines.{command_of}
use Rattle.fc_script.specs.Texts.{ok_line, refusal_line}
use Rattle.fc_runs.specs.Run.{Mode, ChangesBy, Effect, Serves, Answers, Takes, Steps, shortage, safe_line, layout_reason, reply_of, keeps_tree}
use Rattle.fc_runs.proofs.TreeLemmas.{effect_tree, answer_ok}

-- ---- the form of names stays

-- a new map, with directories of the same form
abbrev pub Kept : Layout → Layout → Type 0
Kept l l' = IsNewLayout l' × (dir_form l' ≡ dir_form l)

abbrev form_by : Geometry → NameForm
form_by g = if g.version == 0 then Ten else Long

outside_kept : (old new : List ℕ) (v w : Opened) (c : Command) (l l' : Layout) → IsNewLayout l → OutsideSteady old new v w c l l' → Kept l l'
outside_kept old new v w c (Layout.New m) (Layout.New m') h x = (tt, ap form_by x.geometry)
outside_kept old new v w c (Layout.New m) (Layout.Old space') h x = absurd x
outside_kept old new v w c (Layout.Old space) l' h x = absurd h

reclaim_kept : (old new : List ℕ) (kind : Kind) (l l' : Layout) (objects : List Object) → ReclaimOutside old new kind l l' objects → Kept l l'
reclaim_kept old new kind (Layout.New m) (Layout.New m') objects x = (tt, ap form_by x.geometry)
reclaim_kept old new kind (Layout.New m) (Layout.Old space') objects x = absurd x
reclaim_kept old new kind (Layout.Old space) (Layout.New m') objects x = absurd x
reclaim_kept old new kind (Layout.Old space) (Layout.Old space') objects x = absurd x

pub same_kept : (s s' : State) → IsNewLayout s.view.layout → s' ≡ s → Kept s.view.layout s'.view.layout
same_kept s s' h e = subst (λ (r : State). Kept s.view.layout r.view.layout) (sym e) (h, refl)

changes_kept : (safe : Bool) (kind : Kind) (s s' : State) (c : Command) (t : Tree) → IsNewLayout s.view.layout → ChangesBy safe kind s s' c t → Kept s.view.layout s'.view.layout
changes_kept true kind s s' c t h e = outside_kept s.image s'.image s.view s'.view c s.view.layout s'.view.layout h e.steady.outside
changes_kept false kind s s' c t h e = outside_kept s.image s'.image s.view s'.view c s.view.layout s'.view.layout h e.steady.outside

effect_kept : (mode : Mode) (s s' : State) (c : Command) (t : Tree) → IsNewLayout s.view.layout → Effect mode s c t s' → Kept s.view.layout s'.view.layout
effect_kept mode s s' (Command.Cat path) t h e = same_kept s s' h e
effect_kept mode s s' (Command.Load path) t h e = same_kept s s' h e
effect_kept mode s s' (Command.Digest path) t h e = same_kept s s' h e
effect_kept mode s s' Command.Free t h e = same_kept s s' h e
effect_kept mode s s' Command.Check t h e = same_kept s s' h e
effect_kept mode s s' Command.Compact t h e = outside_kept s.image s'.image s.view s'.view Command.Compact s.view.layout s'.view.layout h e.outside
effect_kept mode s s' Command.Reclaim t h e = reclaim_kept s.image s'.image mode.kind s.view.layout s'.view.layout _ e.outside
effect_kept mode s s' (Command.Save path load exec bytes) t h e = changes_kept mode.safe mode.kind s s' (Command.Save path load exec bytes) t h e
effect_kept mode s s' (Command.Create path load exec len) t h e = changes_kept mode.safe mode.kind s s' (Command.Create path load exec len) t h e
effect_kept mode s s' (Command.Cdir path) t h e = changes_kept mode.safe mode.kind s s' (Command.Cdir path) t h e
effect_kept mode s s' (Command.Delete path) t h e = changes_kept mode.safe mode.kind s s' (Command.Delete path) t h e
effect_kept mode s s' (Command.Rename from to) t h e = changes_kept mode.safe mode.kind s s' (Command.Rename from to) t h e
effect_kept mode s s' (Command.Set path load exec access) t h e = changes_kept mode.safe mode.kind s s' (Command.Set path load exec access) t h e
effect_kept mode s s' (Command.Mark path attrs) t h e = changes_kept mode.safe mode.kind s s' (Command.Mark path attrs) t h e

served_kept : (mode : Mode) (s s' : State) (reply : List ℕ) (c : Command) (t : Tree) (line : Option (List ℕ)) → IsNewLayout s.view.layout
    → Serves mode s c t line reply s' → Kept s.view.layout s'.view.layout
served_kept mode s s' reply c t (Some line) h x = same_kept s s' h x.1
served_kept mode s s' reply c t None h x = effect_kept mode s s' c t h x.1

answered_kept : (mode : Mode) (s s' : State) (reply : List ℕ) (c : Command) (a : Result Tree Refusal) → IsNewLayout s.view.layout
    → Answers mode s c a reply s' → Kept s.view.layout s'.view.layout
answered_kept mode s s' reply c (Err refusal) h x = same_kept s s' h x.1
answered_kept mode s s' reply c (Ok t) h x = served_kept mode s s' reply c t (shortage mode.safe s.view c) h x

pub taken_kept : (mode : Mode) (s s' : State) (reply : List ℕ) (r : Result Command Refusal) → IsNewLayout s.view.layout
    → Takes mode s r reply s' → Kept s.view.layout s'.view.layout
taken_kept mode s s' reply (Err refusal) h x = same_kept s s' h x.1
taken_kept mode s s' reply (Ok c) h x = answered_kept mode s s' reply c (answer (tree_in s) (dir_form s.view.layout) mode.read_only c) h x

-- ---- a refusal and an `ok` are not the same reply

-- the first byte
abbrev first : List ℕ → ℕ
first line = get_or line 0 0

-- the line, if there is one, begins as an error
abbrev IsError : Option (List ℕ) → Type 0
IsError None = Unit {0}
IsError (Some line) = first line ≡ 101

plain_error : (r : Option Refusal) → IsError (option_map refusal_line r)
plain_error None = tt
plain_error (Some refusal) = refl

safe_error : (r : Option SafeRefusal) → IsError (option_map safe_line r)
safe_error None = tt
safe_error (Some (SafeRefusal.Refused refusal)) = refl
safe_error (Some (SafeRefusal.Spread zones)) = refl

shortage_error : (safe : Bool) (v : Opened) (c : Command) → IsError (shortage safe v c)
shortage_error true v c = safe_error (safe_refusal v c)
shortage_error false v c = plain_error (first_of (layout_reason v.layout c ∷ short v c ∷ []))

pub changing_reply : (s s' : State) (c : Command) → keeps_tree c ≡ false → reply_of s c s' ≡ ok_line
changing_reply s s' (Command.Cat path) h = absurd (cc)
changing_reply s s' (Command.Load path) h = absurd (cc)
changing_reply s s' (Command.Digest path) h = absurd (cc)
changing_reply s s' Command.Free h = absurd (cc)
changing_reply s s' Command.Check h = absurd (cc)
changing_reply s s' Command.Compact h = absurd (cc)
changing_reply s s' Command.Reclaim h = absurd (cc)
changing_reply s s' (Command.Save path load exec bytes) h = refl
changing_reply s s' (Command.Create path load exec len) h = refl
changing_reply s s' (Command.Cdir path) h = refl
changing_reply s s' (Command.Delete path) h = refl
changing_reply s s' (Command.Rename from to) h = refl
changing_reply s s' (Command.Set path load exec access) h = refl
changing_reply s s' (Command.Mark path attrs) h = refl

pub kept_tree : (t : Tree) (c : Command) → keeps_tree c ≡ true → changed t c ≡ t
kept_tree t (Command.Cat path) h = refl
kept_tree t (Command.Load path) h = refl
kept_tree t (Command.Digest path) h = refl
kept_tree t Command.Free h = refl
kept_tree t Command.Check h = refl
kept_tree t Command.Compact h = refl
kept_tree t Command.Reclaim h = refl
kept_tree t (Command.Save path load exec bytes) h = absurd (cc)
kept_tree t (Command.Create path load exec len) h = absurd (cc)
kept_tree t (Command.Cdir path) h = absurd (cc)
kept_tree t (Command.Delete path) h = absurd (cc)
kept_tree t (Command.Rename from to) h = absurd (cc)
kept_tree t (Command.Set path load exec access) h = absurd (cc)
kept_tree t (Command.Mark path attrs) h = absurd (cc)

not_both : (line : List ℕ) → first line ≡ 101 → line ≡ ok_line → ⊥
not_both line error ok =
    (let clash : 101 ≡ 111 = sym error ∙ ap first ok in
    absurd (omega (arith, clash)))

-- ---- one line

-- Where one step refuses for want of space and the other serves, with the same reply, the command leaves the tree.
mixed : (mode : Mode) (x y y' : State) (c : Command) (t : Tree) (reply line : List ℕ) (keeps : Bool) → keeps_tree c ≡ keeps → first line ≡ 101
    → reply ≡ line → t ≡ changed (tree_in y) c → tree_in x ≡ tree_in y → reply ≡ reply_of y c y' → Effect mode y c t y' → tree_in y' ≡ tree_in x
mixed mode x y y' c t reply line true k error refused h same served e = effect_tree mode y y' c t h e ∙ h ∙ kept_tree (tree_in y) c k ∙ sym same
mixed mode x y y' c t reply line false k error refused h same served e =
    absurd (not_both line error (sym refused ∙ served ∙ changing_reply y y' c k))

served_same : (mode : Mode) (x y x' y' : State) (reply : List ℕ) (c : Command) (t : Tree) (p q : Option (List ℕ)) → IsError p → IsError q
    → tree_in x ≡ tree_in y → t ≡ changed (tree_in x) c → t ≡ changed (tree_in y) c
    → Serves mode x c t p reply x' → Serves mode y c t q reply y' → tree_in x' ≡ tree_in y'
served_same mode x y x' y' reply c t (Some line) (Some other) ep eq same hx hy a b = ap tree_in a.1 ∙ same ∙ sym (ap tree_in b.1)
served_same mode x y x' y' reply c t None None ep eq same hx hy a b = effect_tree mode x x' c t hx a.1 ∙ sym (effect_tree mode y y' c t hy b.1)
served_same mode x y x' y' reply c t (Some line) None ep eq same hx hy a b =
    ap tree_in a.1 ∙ sym (mixed mode x y y' c t reply line (keeps_tree c) refl ep a.0 hy same b.0 b.1)
served_same mode x y x' y' reply c t None (Some line) ep eq same hx hy a b =
    mixed mode y x x' c t reply line (keeps_tree c) refl eq b.0 hx (sym same) a.0 a.1 ∙ sym (ap tree_in b.1)

answered_same : (mode : Mode) (x y x' y' : State) (reply : List ℕ) (c : Command) (a : Result Tree Refusal) → tree_in x ≡ tree_in y
    → answer (tree_in x) (dir_form x.view.layout) mode.read_only c ≡ a → answer (tree_in y) (dir_form y.view.layout) mode.read_only c ≡ a
    → Answers mode x c a reply x' → Answers mode y c a reply y' → tree_in x' ≡ tree_in y'
answered_same mode x y x' y' reply c (Err refusal) same ax ay a b = ap tree_in a.1 ∙ same ∙ sym (ap tree_in b.1)
answered_same mode x y x' y' reply c (Ok t) same ax ay a b =
    served_same mode x y x' y' reply c t (shortage mode.safe x.view c) (shortage mode.safe y.view c)
    (shortage_error mode.safe x.view c) (shortage_error mode.safe y.view c) same
    (answer_ok (tree_in x) t (dir_form x.view.layout) mode.read_only c ax) (answer_ok (tree_in y) t (dir_form y.view.layout) mode.read_only c ay) a b

pub taken_same : (mode : Mode) (x y x' y' : State) (reply : List ℕ) (r : Result Command Refusal) → tree_in x ≡ tree_in y
    → dir_form x.view.layout ≡ dir_form y.view.layout → Takes mode x r reply x' → Takes mode y r reply y' → tree_in x' ≡ tree_in y'
taken_same mode x y x' y' reply (Err refusal) same form a b = ap tree_in a.1 ∙ same ∙ sym (ap tree_in b.1)
taken_same mode x y x' y' reply (Ok c) same form a b =
    (let answers : answer (tree_in y) (dir_form y.view.layout) mode.read_only c ≡ answer (tree_in x) (dir_form x.view.layout) mode.read_only c
    = ap₂ (λ (t : Tree) (f : NameForm). answer t f mode.read_only c) (sym same) (sym form) in
    answered_same mode x y x' y' reply c (answer (tree_in x) (dir_form x.view.layout) mode.read_only c) same refl answers a
    (subst (λ (r : Result Tree Refusal). Answers mode y c r reply y') answers b))

-- ---- lines in turn

pub steps_same : (mode : Mode) (x y a b : State) (lines replies : List (List ℕ)) → IsNewLayout x.view.layout → IsNewLayout y.view.layout
    → tree_in x ≡ tree_in y → dir_form x.view.layout ≡ dir_form y.view.layout
    → Steps (λ between. Unit {0}) mode x lines replies a → Steps (λ between. Unit {0}) mode y lines replies b → tree_in a ≡ tree_in b
steps_same mode x y a b [] [] nx ny same form p q = ap tree_in p ∙ same ∙ sym (ap tree_in q)
steps_same mode x y a b [] (reply ∷ replies) nx ny same form p q = absurd p
steps_same mode x y a b (line ∷ lines) [] nx ny same form p q = absurd p
steps_same mode x y a b (line ∷ lines) (reply ∷ replies) nx ny same form p q =
    (let kx = taken_kept mode x p.0 reply (command_of line) nx p.2 in
    let ky = taken_kept mode y q.0 reply (command_of line) ny q.2 in
    steps_same mode p.0 q.0 a b lines replies kx.0 ky.0
    (taken_same mode x y p.0 q.0 reply (command_of line) same form p.2 q.2) (kx.1 ∙ form ∙ sym ky.1) p.3 q.3)
