-- What a copied volume has, by the source's tree.
use Rattle.std.proofs.Common.{◌≡◌, ◌⊎◌, inl, inr, List, [], ◌∷◌, ◌++◌, map, drop, false, refl, sym, ap, ap₂, subst, ◌∙◌, Option, Some, None, Ok, Err, Result}
use Rattle.std.specs.Prelude.{Contains}
use Rattle.std.specs.FinMap.{entries}
use Rattle.std.proofs.lemmas.List.Elements.{Contains-append_left, Contains-append_right}
use Rattle.fc_device.specs.declared.disk.Disk.{Ghosts}
use Rattle.fc_device.specs.Calls.{SameForm}
use Rattle.fc_device.specs.Faults.{Rose}
use Rattle.fc_names.specs.declared.name.NameForm.{NameForm}
use Rattle.fc_names.specs.declared.refusal.Refusal.{Refusal}
use Rattle.fc_names.specs.Names.{Path}
use Rattle.fc_record.specs.declared.Kind.{Kind}
use Rattle.fc_model.specs.Command.{Command}
use Rattle.fc_model.specs.Tree.{Node, Tree, node_at}
use Rattle.fc_image.proofs.EntriesLemmas.{later as contains_later}
use Rattle.fc_image.specs.effects.Effect.{State, tree_in}
use Rattle.fc_format.specs.declared.Format.{Format}
use Rattle.fc_format.specs.Opens.{form_of}
use Rattle.fc_tree.specs.Nodes.{nodes_of}
use Rattle.fc_tree.proofs.MemberLemmas.{contains_here}
use Rattle.fc_tree.proofs.WalkedLemmas.{same_some, sound_law}
use Rattle.fc_fit.specs.declared.counts.Counts.{Counts}
use Rattle.fc_fit.specs.Commands.{commands_for, object_commands, objects_in}
use Rattle.fc_fit.specs.Counts.{counts_of}
use Rattle.fc_fit.specs.Doing.{ConvertsLaw, ConvertsTree, DoAll, HasNoRoom, IsFreshState, StopIn}
use Rattle.fc_fit.specs.Fit.{spelled_key, unfit}
use Rattle.fc_fit.specs.Rising.{RisingLaw, TellTree, misfit_in}
use Rattle.fc_volume.specs.Volume.{Volume}
use Rattle.fc_convert.specs.declared.ending.ConvertEnd.{ConvertEnd}
use Rattle.fc_convert.specs.declared.ending.ConvertEnd.TheVariants as ends
use Rattle.fc_convert.specs.Convert.{ConvertWords}
use Rattle.fc_convert.specs.Converting.{AreFitting, CopiesBy, ForSource, IsUnfit}
use Rattle.fc_convert.specs.Copying.{AreCopied, AreNodesAt, CopiesAll, IsNodeAt, StopsCopying, UnlessToFault, all_commands}
use Rattle.fc_convert.specs.Opened.{Holds, NoTargetFor, OpensTarget}
use Rattle.fc_convert.specs.Promise.{AsksOnce}

-- a cut of mapped things is one of the things
pub record CutOf {X Y : Type 0} (f : X → Y) (xs : List X) (front : List Y) (y : Y) (rest : List Y) : Type 0 where
  pub before : List X
  pub next : X
  pub behind : List X
  pub cut : xs ≡ before ++ next ∷ behind
  pub fronts : map f before ≡ front
  pub at : f next ≡ y

pub cut_of : {X Y : Type 0} (f : X → Y) (xs : List X) (front : List Y) (y : Y) (rest : List Y) → map f xs ≡ front ++ y ∷ rest → CutOf f xs front y rest
cut_of f [] [] y rest is = absurd (cc)
cut_of f (x ∷ xs) [] y rest is = record { before = []; next = x; behind = xs; cut = refl; fronts = refl; at = cc }
cut_of f [] (z ∷ front) y rest is = absurd (cc)
cut_of {X} {Y} f (x ∷ xs) (z ∷ front) y rest is =
    let tail : map f xs ≡ front ++ y ∷ rest = ap (drop 1) is in
    let head : f x ≡ z = cc in
    let more = cut_of f xs front y rest tail in
    record {
      before = x ∷ more.before;
      next = more.next;
      behind = more.behind;
      cut = ap (λ (ys : List X). x ∷ ys) more.cut;
      fronts = ap₂ (λ (a : Y) (more : List Y). a ∷ more) head more.fronts;
      at = more.at;
    }

module _ {D : Type 0} {d : Ghosts D} (v : Volume) (disk : D) (kind : Kind) (s : State) (holds : Holds d kind s v disk) where
  -- nodes at the paths of a tree's entries are those of the entries
  pub same_commands : (es : List (Path × Node)) (paths : List Path) (objects : List (Path × Node)) → map (λ e. spelled_key (tree_in s) e.0) es ≡ paths
      → ((e : Path × Node) → Contains es e → node_at (tree_in s) (spelled_key (tree_in s) e.0) ≡ Some e.1) → AreNodesAt d v disk paths objects → all_commands objects ≡ commands_for (tree_in s) es
  same_commands [] [] [] is there are = refl
  same_commands [] [] (o ∷ objects) is there are = absurd are
  same_commands [] (p ∷ paths) objects is there are = absurd (cc)
  same_commands (e ∷ es) [] objects is there are = absurd (cc)
  same_commands (e ∷ es) (p ∷ paths) [] is there are = absurd are
  same_commands (e ∷ es) (p ∷ paths) (o ∷ objects) is there are =
      let head : spelled_key (tree_in s) e.0 ≡ p = cc in
      let tail : map (λ x. spelled_key (tree_in s) x.0) es ≡ paths = ap (drop 1) is in
      let node : o.1 ≡ e.1 = same_some o.1 e.1 (sym (are.1 kind s holds) ∙ ap (node_at (tree_in s)) (sym head) ∙ there e (contains_here e es)) in
      ap₂ (λ (cs more : List Command). cs ++ more) (ap₂ object_commands (are.0 ∙ sym head) node)
      (same_commands es paths objects tail (λ x at. there x (contains_later e x es at)) are.2)

-- ---- how a volume is copied

-- an end as a result
abbrev pub failed : ConvertEnd → Result Counts ConvertEnd
failed end = Err end

module _ {D E : Type 0} (d : Ghosts D) (e : Ghosts E) (w : ConvertWords) (v : Volume) (from from' : D) (to to' : E) where
  -- not all objects fit
  pub by_fitting : (end : ConvertEnd) → IsUnfit w.format v end → CopiesBy d e w v from from to to (Err end)
  by_fitting ends.Done is = absurd is
  by_fitting (ends.Unfit path what) is = (λ kind s holds. is s.view.layout s.view.listings s.image (sound_law s.image kind s.view holds.opens) holds.parts.nodes, refl)
  by_fitting ends.BadWords is = absurd is
  by_fitting (ends.BadImage fault) is = absurd is
  by_fitting ends.FromFault is = absurd is
  by_fitting ends.ToFault is = absurd is
  by_fitting ends.OutFault is = absurd is
  by_fitting ends.NoMemory is = inl refl
  by_fitting (ends.NoRoom path refusal) is = absurd is
  by_fitting ends.NoSource is = absurd is
  by_fitting ends.NoTarget is = absurd is
  by_fitting (ends.BadTarget fault) is = absurd is

  -- the target isn't opened
  pub by_opening : ForSource d v from (λ t. unfit w.format t ≡ None) → AsksOnce e w to to' → (end : ConvertEnd) → NoTargetFor e w to to' end → CopiesBy d e w v from from to to' (Err end)
  by_opening fits asks ends.Done is = absurd is
  by_opening fits asks (ends.Unfit path what) is = absurd is
  by_opening fits asks ends.BadWords is = absurd is
  by_opening fits asks (ends.BadImage fault) is = absurd is
  by_opening fits asks ends.FromFault is = absurd is
  by_opening fits asks ends.ToFault is = (fits, asks, is)
  by_opening fits asks ends.OutFault is = absurd is
  by_opening fits asks ends.NoMemory is = inr asks
  by_opening fits asks (ends.NoRoom path refusal) is = absurd is
  by_opening fits asks ends.NoSource is = absurd is
  by_opening fits asks ends.NoTarget is = (fits, asks, is)
  by_opening fits asks (ends.BadTarget fault) is = (fits, asks, is)

-- what copying objects answers if it ends early
abbrev pub ended : ConvertEnd → Result (Unit {0}) ConvertEnd
ended end = Err end

-- what comes after the first
drop_one : {X Y : Type 0} (f : X → Y) (xs : List X) → map f (drop 1 xs) ≡ drop 1 (map f xs)
drop_one f [] = refl
drop_one f (x ∷ xs) = refl

from_later : {X : Type 0} (xs : List X) (y : X) → Contains (drop 1 xs) y → Contains xs y
from_later [] y at = at
from_later (x ∷ xs) y at = contains_later x y xs at

-- the paths that are copied, by the source's tree
module _ {D : Type 0} {d : Ghosts D} (rising : RisingLaw) (format : Format) (v : Volume) (from : D) (paths : List Path) (fitting : AreFitting format v paths) (kind : Kind) (s : State) (holds : Holds d kind s v from) where
  abbrev pub t : Tree
  t = tree_in s

  pub tell : TellTree (nodes_of v.tree) paths t
  tell =
      let sound = sound_law s.image kind s.view holds.opens in
      rising s.image s.view.layout s.view.listings (nodes_of v.tree) paths sound holds.parts.nodes (fitting.0 s.view.layout s.view.listings s.image sound holds.parts.nodes)

  pub all_fit : unfit format t ≡ None
  all_fit = tell.fits format ∙ ap (misfit_in paths) fitting.1

  spelled : map (λ (e : Path × Node). spelled_key t e.0) (objects_in t) ≡ drop 1 paths
  spelled =
      ap (map (λ (e : Path × Node). spelled_key t e.0)) tell.objects ∙ drop_one (λ (e : Path × Node). spelled_key t e.0) (entries t) ∙ ap (drop 1) (sym tell.spelled)

  stand : (e : Path × Node) → Contains (objects_in t) e → node_at t (spelled_key t e.0) ≡ Some e.1
  stand e at = tell.stand e (from_later (entries t) e (subst (λ (es : List (Path × Node)). Contains es e) tell.objects at))

  pub copied_commands : (objects : List (Path × Node)) → AreNodesAt d v from (drop 1 paths) objects → all_commands objects ≡ commands_for t (objects_in t)
  copied_commands objects are = same_commands v from kind s holds (objects_in t) (drop 1 paths) objects spelled stand are

  -- those before one, and the one
  pub stopped_commands : (before : List Path) (path : Path) (behind : List Path) (objects : List (Path × Node)) (next : Node) → drop 1 paths ≡ before ++ path ∷ behind
      → AreNodesAt d v from before objects → IsNodeAt d v from path next
      → (c : CutOf (λ (e : Path × Node). spelled_key t e.0) (objects_in t) before path behind) × (all_commands objects ≡ commands_for t c.before) × (next ≡ c.next.1)
  stopped_commands before path behind objects next cut are is =
      let c = cut_of (λ (e : Path × Node). spelled_key t e.0) (objects_in t) before path behind (spelled ∙ cut) in
      let there = subst (λ (es : List (Path × Node)). Contains es c.next) (sym c.cut) (Contains-append_right c.before (c.next ∷ c.behind) c.next (contains_here c.next c.behind)) in (
        c,
        same_commands v from kind s holds c.before before objects c.fronts
            (λ e at. stand e (subst (λ (es : List (Path × Node)). Contains es e) (sym c.cut) (Contains-append_left c.before (c.next ∷ c.behind) e at))) are,
        same_some next c.next.1 (sym (is kind s holds) ∙ ap (node_at t) (sym c.at) ∙ stand c.next there),
      )

module _ {D E : Type 0} (d : Ghosts D) (e : Ghosts E) (rising : RisingLaw) (converts : ConvertsLaw) (w : ConvertWords) (v opened last : Volume) (from from' : D) (to mid to' : E) (paths : List Path)
    (fitting : AreFitting w.format v paths) (asks : AsksOnce e w to mid) (told : OpensTarget e w to mid opened) (form : SameForm e mid to') where
  fits : ForSource d v from (λ t. unfit w.format t ≡ None)
  fits kind s holds = all_fit rising w.format v from paths fitting kind s holds

  asked : AsksOnce e w to to'
  asked = form.asked_stays ∙ asks

  -- the law over the fresh volume
  law_of : (kind : Kind) (s : State) (holds : Holds d kind s v from) (k : Kind) (fresh : State) → IsFreshState w.format k fresh → ConvertsTree w.format k (tree_in s) fresh
  law_of kind s holds k fresh starts =
      let facts = tell rising w.format v from paths fitting kind s holds in
      converts w.format k (tree_in s) fresh facts.is_tree facts.marked (fits kind s holds) starts

  -- all were copied
  pub by_all : (counts : Counts) → AreCopied d e v from opened last mid to' (drop 1 paths) → e.pending to' ≡ false → counts ≡ counts_of (nodes_of v.tree) paths → CopiesBy d e w v from from' to to' (Ok counts)
  by_all counts copied settled is = (
    fits,
    asked,
    (told.given, settled),
    λ kind s holds. (
      is ∙ (tell rising w.format v from paths fitting kind s holds).counts,
      λ was here.
          (let fresh = told.holds was here in
          let done = copied.2 fresh.0 fresh.1 fresh.3 in
          let commands = copied_commands rising w.format v from paths fitting kind s holds copied.0 copied.1 in (
            fresh.0,
            done.0,
            (law_of kind s holds fresh.0 fresh.1 fresh.2).all done.0
                (subst (λ (cs : List Command). DoAll (form_of w.format) fresh.0 fresh.1 cs done.0) commands
                (subst (λ (f : NameForm). DoAll f fresh.0 fresh.1 (all_commands copied.0) done.0) told.form done.1)),
            done.2.bytes,
          )),
    ),
  )

  -- one wasn't
  by_stop : (path : Path) (refusal : Refusal) → StopsCopying d e v from opened mid to' (drop 1 paths) path refusal → e.pending to' ≡ false → CopiesBy d e w v from from' to to' (Err (ends.NoRoom path refusal))
  by_stop path refusal stops settled = (
    fits,
    asked,
    (told.given, settled),
    λ kind s holds was here.
        (let fresh = told.holds was here in
        let at = stops.stops fresh.0 fresh.1 fresh.3 in
        let c = stopped_commands rising w.format v from paths fitting kind s holds stops.before path stops.behind stops.objects stops.next stops.cut stops.nodes stops.stands in
        let before = subst (λ (cs : List Command). DoAll (form_of w.format) fresh.0 fresh.1 cs at.0) c.1
        (subst (λ (f : NameForm). DoAll f fresh.0 fresh.1 (all_commands stops.objects) at.0) told.form at.1) in
        let stop = subst (λ (f : NameForm). StopIn f fresh.0 (object_commands path stops.next) at.0 at.2.0 refusal) told.form at.2.1 in
        let stop_of = subst (λ (n : Node). StopIn (form_of w.format) fresh.0 (object_commands path n) at.0 at.2.0 refusal) c.2 stop in
        let stop_there = subst (λ (p : Path). StopIn (form_of w.format) fresh.0 (object_commands p c.0.next.1) at.0 at.2.0 refusal) (sym c.0.at) stop_of in
        let room = (law_of kind s holds fresh.0 fresh.1 fresh.2).some c.0.before c.0.next c.0.behind at.0 at.2.0 refusal c.0.cut before stop_there in
        (fresh.0, at.2.0, subst (λ (p : Path). HasNoRoom w.format fresh.0 (tree_in s) p refusal at.2.0) c.0.at room, at.2.2)),
  )

  -- it ended there
  pub by_copying : (end : ConvertEnd) → CopiesAll d e v from opened last mid to' (drop 1 paths) (Err end) → UnlessToFault (Err end) (e.pending to' ≡ false)
      → (ended end ≡ Err ends.FromFault → Rose (d.faults from) (d.faults from')) → (ended end ≡ Err ends.ToFault → Rose (e.faults to) (e.faults to'))
      → CopiesBy d e w v from from' to to' (Err end)
  by_copying ends.Done is settled from_fault to_fault = absurd is
  by_copying (ends.Unfit path what) is settled from_fault to_fault = absurd is
  by_copying ends.BadWords is settled from_fault to_fault = absurd is
  by_copying (ends.BadImage fault) is settled from_fault to_fault = absurd is
  by_copying ends.FromFault is settled from_fault to_fault = (fits, asked, from_fault refl)
  by_copying ends.ToFault is settled from_fault to_fault = (fits, asked, to_fault refl)
  by_copying ends.OutFault is settled from_fault to_fault = absurd is
  by_copying ends.NoMemory is settled from_fault to_fault = inr asked
  by_copying (ends.NoRoom path refusal) is settled from_fault to_fault = by_stop path refusal is settled
  by_copying ends.NoSource is settled from_fault to_fault = absurd is
  by_copying ends.NoTarget is settled from_fault to_fault = absurd is
  by_copying (ends.BadTarget fault) is settled from_fault to_fault = absurd is
