-- Objects copied one after another.
use Rattle.std.proofs.Common.{◌≡◌, ◌⊎◌, ◌≤◌, ⊎_elim, ℕ, ◌+◌, ◌-◌, ◌^◌, min, false, true, List, [], ◌∷◌, ◌++◌, refl, sym, ap, subst, ◌∙◌, Option, Some, None, Result, Ok, Err, ◌<◌, length, take, drop, get_or, arith, append-nil, append_assoc}
use Rattle.std.specs.Prelude.{All, IsSome}
use Rattle.std.proofs.lemmas.Grind.{flat_map-append}
use Rattle.std.proofs.lemmas.List.{take-append-drop, take_more}
use Rattle.std.proofs.lemmas.List.Elements.{All-get_or}
use Rattle.fc_device.specs.declared.disk.Disk.{Ghosts}
use Rattle.fc_device.specs.Calls.{OnlyReads, SameForm}
use Rattle.fc_device.specs.Faults.{Rose}
use Rattle.fc_device.specs.Stops.{LeavesOnly}
use Rattle.fc_device.proofs.DiskLaws.{Laws, form_same, form_then}
use Rattle.fc_device.proofs.StopLemmas.{goes_on, reads_start, reads_then, started}
use Rattle.fc_names.specs.declared.name.NameForm.{NameForm}
use Rattle.fc_names.specs.declared.refusal.Refusal.{Refusal}
use Rattle.fc_names.specs.Names.{Path}
use Rattle.fc_record.specs.declared.Kind.{Kind}
use Rattle.fc_model.specs.Command.{Command}
use Rattle.fc_model.specs.Tree.{Node}
use Rattle.fc_image.specs.Layout.{dir_form}
use Rattle.fc_image.specs.effects.Effect.{State}
use Rattle.fc_tree.specs.declared.node.Node.{Node as Found}
use Rattle.fc_tree.specs.Nodes.{nodes_of}
use Rattle.fc_fit.specs.Commands.{object_commands}
use Rattle.fc_fit.specs.Doing.{DoAll}
use Rattle.fc_fit.specs.Found.{node_in}
use Rattle.fc_volume.specs.Volume.{StandsFor, Volume, parts_of}
use Rattle.fc_convert.specs.declared.copying.CopyError.{CopyError}
use Rattle.fc_convert.specs.declared.copying.CopyError.TheVariants as errors
use Rattle.fc_convert.specs.declared.ending.ConvertEnd.{ConvertEnd}
use Rattle.fc_convert.specs.declared.ending.ConvertEnd.TheVariants as ends
use Rattle.fc_convert.specs.Copying.{AreCopied, AreNodesAt, CopiesAll, IsNodeAt, KeepsOpen, KeepsTarget, Makes, MakesAll, MakesObject, StopsAt, StopsCopying, UnlessTo, UnlessToFault, all_commands, model_of}
use Rattle.fc_convert.specs.Ends.{copy_end}
use Rattle.fc_convert.specs.Opened.{Holds, IsOpen}
use Rattle.fc_convert.proofs.MakingLemmas.{do_then}

-- what copying an object answers if it fails
abbrev pub failed : CopyError → Result (Unit {0}) CopyError
failed error = Err error

-- ---- the paths

-- the node to which a path leads
pub leads : {X : Type 0} (o : Option X) → IsSome o → (x : X) × (o ≡ Some x)
leads None there = absurd (cc)
leads (Some x) there = (x, refl)

-- one path more
module _ (paths : List Path) (i : ℕ) (path : Path) (low : i < length paths) (is : path ≡ get_or paths i path) where
  pub path_more : take (i + 1) paths ≡ take i paths ++ path ∷ []
  path_more = take_more paths i path low ∙ ap (λ (p : Path). take i paths ++ p ∷ []) (sym is)

  pub path_cut : paths ≡ take i paths ++ path ∷ drop (i + 1) paths
  path_cut = sym (take-append-drop (i + 1) paths) ∙ ap (λ (ps : List Path). ps ++ drop (i + 1) paths) path_more ∙ append_assoc (take i paths) (path ∷ []) (drop (i + 1) paths)

  pub path_has : (P : Path → Type 0) → All P paths → P path
  path_has P all = subst P (sym is) (All-get_or P paths i path low all)

-- an end is told by what is answered
pub same_end : (a b : ConvertEnd) → (let r : Result (Unit {0}) ConvertEnd = Err a in r) ≡ Err b → a ≡ b
same_end a b is = cc

-- ---- the source

pub stands_read : {D : Type 0} (d : Ghosts D) (v : Volume) (old new : D) → OnlyReads d old new → StandsFor d v old → StandsFor d v new
stands_read d v old new reads stands = record {
  size = reads.form.size_stays ∙ stands.size;
  room = rw reads.form.sectors_stay stands.room;
  map_room = rw reads.form.sectors_stay stands.map_room;
  version = stands.version;
  agree = stands.agree;
  image = rw reads.bytes stands.image;
  copies = rw reads.bytes stands.copies;
}

pub open_read : {D : Type 0} (d : Ghosts D) (b : Rattle.std.proofs.Common.Bool) (v : Volume) (old new : D) → OnlyReads d old new → IsOpen d b v old → IsOpen d b v new
open_read d b v old new reads ready = record {
  attached = reads.form.attached_stays ∙ ready.attached;
  settled = reads.pending ∙ ready.settled;
  fit = ready.fit;
  rights = ready.rights;
  stands = stands_read d v old new reads ready.stands;
}

pub holds_read : {D : Type 0} (d : Ghosts D) (v : Volume) (old new : D) → OnlyReads d old new → (kind : Kind) (s : State) → Holds d kind s v old → Holds d kind s v new
holds_read d v old new reads kind s holds = record { bytes = reads.bytes ∙ holds.bytes; opens = holds.opens; parts = holds.parts }

node_read : {D : Type 0} (d : Ghosts D) (v : Volume) (old new : D) (path : Path) (node : Node) → OnlyReads d old new → IsNodeAt d v new path node → IsNodeAt d v old path node
node_read d v old new path node reads is kind s holds = is kind s (holds_read d v old new reads kind s holds)

nodes_then : {D : Type 0} (d : Ghosts D) (v : Volume) (disk : D) (paths : List Path) (objects : List (Path × Node)) (path : Path) (node : Node) → AreNodesAt d v disk paths objects
    → IsNodeAt d v disk path node → AreNodesAt d v disk (paths ++ path ∷ []) (objects ++ (path, node) ∷ [])
nodes_then d v disk [] [] path node are is = (refl, is, tt)
nodes_then d v disk (p ∷ paths) (o ∷ objects) path node are is = (are.0, are.1, nodes_then d v disk paths objects path node are.2 is)
nodes_then d v disk [] (o ∷ objects) path node are is = absurd are
nodes_then d v disk (p ∷ paths) [] path node are is = absurd are

commands_then : (objects : List (Path × Node)) (path : Path) (node : Node) → all_commands (objects ++ (path, node) ∷ []) ≡ all_commands objects ++ object_commands path node
commands_then objects path node =
    flat_map-append (λ (o : Path × Node). object_commands o.0 o.1) objects ((path, node) ∷ []) ∙ ap (λ (cs : List Command). all_commands objects ++ cs) (append-nil (object_commands path node))

-- ---- a turn

-- where it stands after some paths
pub record IsAt {D E : Type 0} (d : Ghosts D) (e : Ghosts E) (source : Volume) (first from : D) (was v : Volume) (old to : E) (done : List Path) : Type 0 where
  pub reads : OnlyReads d first from
  pub ready : IsOpen e false v to
  pub dirs : dir_form (parts_of v).layout ≡ dir_form (parts_of was).layout
  pub form : SameForm e old to
  pub goes : LeavesOnly e.moment e.left_since old to (λ image. Unit {0})
  pub faults : e.faults old ≤ e.faults to
  pub copied : AreCopied d e source first was v old to done

pub at_start : {D E : Type 0} {d : Ghosts D} {e : Ghosts E} (law : Laws d) (rule : Laws e) (source : Volume) (from : D) (was : Volume) (to : E) → IsOpen e false was to → IsAt d e source from from was was to to []
at_start {e = e} law rule source from was to ready = record {
  reads = reads_start law from;
  ready = ready;
  dirs = refl;
  form = form_same e to;
  goes = started rule to (λ image. Unit {0}) (λ image left. tt);
  faults = omega arith;
  copied = ([], tt, λ kind s holds. (s, refl, holds));
}

module _ {D E : Type 0} {d : Ghosts D} {e : Ghosts E} (law : Laws d) (rule : Laws e) (source : Volume) (first from more : D) (was v w : Volume) (old to new : E) (done : List Path) (path : Path) (node : Found)
    (there : node_in (nodes_of source.tree) path ≡ Some node) (at : IsAt d e source first from was v old to done) (reads : OnlyReads d from more) where
  -- one object more
  pub goes_by : (unit : Unit {0}) → MakesObject d e object_commands source from path v w to new (Ok unit) → KeepsTarget e v w to new (Ok unit) → IsAt d e source first more was w old new (done ++ path ∷ [])
  goes_by unit made keeps =
      let one = made.1 node there in
      record {
        reads = reads_then law at.reads reads;
        ready = keeps.ready;
        dirs = keeps.dirs ∙ at.dirs;
        form = form_then e at.form keeps.form;
        goes = goes_on rule at.goes keeps.goes (λ image left. tt);
        faults = let a = at.faults in let b = keeps.faults in omega (arith, a, b);
        copied = (
          at.copied.0 ++ (path, model_of node made.0) ∷ [],
          nodes_then d source first done at.copied.0 path (model_of node made.0) at.copied.1 (node_read d source first from path (model_of node made.0) at.reads one.0),
          λ kind s holds.
              (let before = at.copied.2 kind s holds in
              let after : Makes e (dir_form (parts_of was).layout) kind (object_commands path (model_of node made.0)) before.0 w new (Ok unit) =
              subst (λ (f : NameForm). Makes e f kind (object_commands path (model_of node made.0)) before.0 w new (Ok unit)) at.dirs (one.1 kind before.0 before.2) in (
                after.0,
                subst (λ (cs : List Command). DoAll (dir_form (parts_of was).layout) kind s cs after.0) (sym (commands_then at.copied.0 path (model_of node made.0)))
                    (do_then (dir_form (parts_of was).layout) kind s before.0 after.0 (all_commands at.copied.0) (object_commands path (model_of node made.0)) before.1 after.1),
                after.2,
              )),
        );
      }

  -- it stops there
  pub stops_by : (refusal : Refusal) (paths behind : List Path) → paths ≡ done ++ path ∷ behind → MakesObject d e object_commands source from path v w to new (Err (errors.Refused refusal))
      → StopsCopying d e source first was old new paths path refusal
  stops_by refusal paths behind cut made =
      let one = made.1 node there in
      record {
        before = done;
        behind = behind;
        cut = cut;
        objects = at.copied.0;
        nodes = at.copied.1;
        next = model_of node made.0;
        stands = node_read d source first from path (model_of node made.0) at.reads one.0;
        stops = λ kind s holds.
            (let before = at.copied.2 kind s holds in (
              before.0,
              before.1,
              subst (λ (f : NameForm). StopsAt e f kind (object_commands path (model_of node made.0)) before.0 new refusal) at.dirs (one.1 kind before.0 before.2),
            ));
      }

  -- what is answered then
  pub ends_by : (error : CopyError) (end : ConvertEnd) (paths behind : List Path) → paths ≡ done ++ path ∷ behind → MakesObject d e object_commands source from path v w to new (Err error)
      → (end ≡ copy_end error path) ⊎ ((end ≡ ends.NoMemory) × ((refusal : Refusal) × (error ≡ errors.Refused refusal))) → CopiesAll d e source first was w old new paths (Err end)
  ends_by error end paths behind cut made is =
      ⊎_elim (λ same. subst (λ (x : ConvertEnd). CopiesAll d e source first was w old new paths (Err x)) (sym same) (by error made))
      (λ short. subst (λ (x : ConvertEnd). CopiesAll d e source first was w old new paths (Err x)) (sym short.0) tt) is
    where
      by : (x : CopyError) → MakesObject d e object_commands source from path v w to new (Err x) → CopiesAll d e source first was w old new paths (Err (copy_end x path))
      by (errors.Refused refusal) m = stops_by refusal paths behind cut m
      by errors.From m = tt
      by errors.To m = tt
      by errors.NoMemory m = tt

  pub keeps_by : (error : CopyError) (end : ConvertEnd) → KeepsTarget {T = Unit {0}} e v w to new (Err error)
      → (end ≡ copy_end error path) ⊎ ((end ≡ ends.NoMemory) × ((refusal : Refusal) × (error ≡ errors.Refused refusal))) → KeepsOpen e old new (Err end)
  keeps_by error end keeps is = record {
    settled =
        ⊎_elim (λ same. subst (λ (x : ConvertEnd). UnlessToFault (Err x) (e.pending new ≡ false)) (sym same) (by error keeps.ready))
        (λ short.
        (let open_still : IsOpen e false w new = subst (λ (x : CopyError). UnlessTo {T = Unit {0}} (Err x) (IsOpen e false w new)) short.1.1 keeps.ready in
        subst (λ (x : ConvertEnd). UnlessToFault (Err x) (e.pending new ≡ false)) (sym short.0) open_still.settled)) is;
    form = form_then e at.form keeps.form;
    goes = goes_on rule at.goes keeps.goes (λ image left. tt);
    faults = let a = at.faults in let b = keeps.faults in omega (arith, a, b);
  }
    where
      by : (x : CopyError) → UnlessTo {T = Unit {0}} (Err x) (IsOpen e false w new) → UnlessToFault (Err (copy_end x path)) (e.pending new ≡ false)
      by (errors.Refused refusal) ready = ready.settled
      by errors.From ready = ready.settled
      by errors.To ready = tt
      by errors.NoMemory ready = ready.settled

  pub from_by : (error : CopyError) (end : ConvertEnd) → (failed error ≡ Err errors.From → Rose (d.faults from) (d.faults more))
      → (end ≡ copy_end error path) ⊎ ((end ≡ ends.NoMemory) × ((refusal : Refusal) × (error ≡ errors.Refused refusal))) → end ≡ ends.FromFault → Rose (d.faults first) (d.faults more)
  from_by error end cause is fault =
      ⊎_elim (λ same. by error cause (sym same ∙ fault)) (λ short. absurd (let two : ends.NoMemory ≡ ends.FromFault = sym short.0 ∙ fault in cc)) is
    where
      by : (x : CopyError) → (failed x ≡ Err errors.From → Rose (d.faults from) (d.faults more)) → copy_end x path ≡ ends.FromFault → Rose (d.faults first) (d.faults more)
      by (errors.Refused refusal) c e = absurd (cc)
      by errors.From c e = let a = at.reads.faults in let b = c refl in omega (arith, a, b)
      by errors.To c e = absurd (cc)
      by errors.NoMemory c e = absurd (cc)

  pub to_by : (error : CopyError) (end : ConvertEnd) → KeepsTarget {T = Unit {0}} e v w to new (Err error)
      → (end ≡ copy_end error path) ⊎ ((end ≡ ends.NoMemory) × ((refusal : Refusal) × (error ≡ errors.Refused refusal))) → end ≡ ends.ToFault → Rose (e.faults old) (e.faults new)
  to_by error end keeps is fault =
      ⊎_elim (λ same. by error keeps.cause (sym same ∙ fault)) (λ short. absurd (let two : ends.NoMemory ≡ ends.ToFault = sym short.0 ∙ fault in cc)) is
    where
      by : (x : CopyError) → (failed x ≡ Err errors.To → Rose (e.faults to) (e.faults new)) → copy_end x path ≡ ends.ToFault → Rose (e.faults old) (e.faults new)
      by (errors.Refused refusal) c m = absurd (cc)
      by errors.From c m = absurd (cc)
      by errors.To c m = let a = at.faults in let b = c refl in omega (arith, a, b)
      by errors.NoMemory c m = absurd (cc)
