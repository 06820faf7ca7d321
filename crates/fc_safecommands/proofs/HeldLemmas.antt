-- Holdings that suit: their map, the laws of their job, and what a change of them leaves.
use Rattle.std.proofs.Common.{◌≡◌, ℕ, List, refl, sym, subst, ◌∙◌, Option}
use Rattle.std.specs.Option.{ForSome}
use Rattle.fc_device.specs.declared.disk.Disk.{Ghosts}
use Rattle.fc_newmap.specs.Map.{Map}
use Rattle.fc_image.specs.Layout.{Layout}
use Rattle.fc_laws.specs.nodes.Edits.{Nodes}
use Rattle.fc_space.specs.Space.{layout_of}
use Rattle.fc_writing.specs.declared.copies.Copies.{Copies}
use Rattle.fc_writing.specs.Copies.{HasCopies}
use Rattle.fc_writing.specs.New.{IsGiven, IsTaken}
use Rattle.fc_writing.specs.Steps.{HasStepped}
use Rattle.fc_holdings.specs.declared.holdings.Holdings.{Holdings}
use Rattle.fc_holdings.specs.Holdings.{CopiesAre, Stands, TellsVersion, parts_of}
use Rattle.fc_change.specs.declared.job.Job.{Job}
use Rattle.fc_commands.specs.declared.stages.Prepared.{Prepared}
use Rattle.fc_commands.specs.Jobs.{HasLaws, IsJudged}
use Rattle.fc_commands.specs.Run.{IsMapIn}
use Rattle.fc_safe.specs.Suits.{Suits}
use Rattle.fc_tree.specs.Parts.{Parts}
use Rattle.fc_safecommands.specs.Anew.{IsPreparedAnew}
use Rattle.fc_safecommands.specs.Laws.{SafeCourseLaw, SafeJobLaws}

-- ---- the map

pub map_in : (layout : Layout) (nodes : Nodes) → Suits layout nodes → (m : Map) × (layout ≡ Layout.New m)
map_in (Layout.New m) nodes suits = (m, refl)
map_in (Layout.Old space) nodes suits = absurd suits

pub one_map : (layout : Layout) (m n : Map) → layout ≡ Layout.New m → layout ≡ Layout.New n → m ≡ n
one_map layout m n at other = same m n (sym at ∙ other)
  where
    same : (a b : Map) → Layout.New a ≡ Layout.New b → a ≡ b
    same a b e = cc

-- ---- the laws

pub laws_for : {D : Type 0} (d : Ghosts D) (was : Holdings) (old : D) → SafeCourseLaw → (stands : Stands d was old) → IsMapIn (layout_of was.places) → Suits (layout_of was.places) (parts_of was).nodes
    → (job : Job) (name bytes : List ℕ) → HasLaws (parts_of was) job name → IsJudged (parts_of was) job name bytes → (m : Map) → layout_of was.places ≡ Layout.New m
    → SafeJobLaws stands.agree.0 m (parts_of was) job name bytes
laws_for d was old law stands is suits job name bytes has judged m at = law stands.agree.0 m (parts_of was) job name bytes has (subst IsMapIn at is) (subst TellsVersion at stands.version) at suits stands.agree.1 judged

-- what is known of the copies
pub known_by : (layout : Layout) (m : Map) (copies : Copies) (told : Option (List ℕ)) → layout ≡ Layout.New m → ForSome told (CopiesAre copies layout) → ForSome told (HasCopies copies m)
known_by layout m copies told at known = subst (λ (l : Layout). ForSome told (CopiesAre copies l)) at known

-- the map after it is the one that its single step makes
pub taken_by : (m m' : Map) (h : Parts) (job : Job) (name : List ℕ) (p : Prepared) → IsPreparedAnew m h job name p → IsGiven m p.ready m' → IsTaken m p.ready m'
taken_by m m' h job name p prep given = subst (IsTaken m p.ready) (sym (subst (HasStepped given.0 m') prep.ready.no_give given.2)) given.1
