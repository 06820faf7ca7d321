-- Directories that are told what they say, and entries that are made of others.
use Rattle.std.proofs.Common.{◌≡◌, ◌==◌, ℕ, Bool, true, false, cond, List, [], ◌∷◌, ◌++◌, Option, refl, sym, ap, ap₂, subst, ◌∙◌}
use Rattle.std.specs.Prelude.{Vec}
use Rattle.std.specs.declared.alloc.Global.{Global}
use Rattle.fc_dirs.specs.declared.Entry.{Entry}
use Rattle.fc_laws.specs.nodes.Edits.{Nodes}
use Rattle.fc_refusals.specs.declared.target.Target.{Target}
use Rattle.fc_tree.proofs.WalkedLemmas.{same_some}
use Rattle.fc_change.specs.declared.change.Regrowth.{Regrowth}
use Rattle.fc_change.specs.declared.change.Says.{Says}
use Rattle.fc_change.specs.Directories.{CanTell, CanTellAround, Rewriting, TellAll, around, nodes_told, numbers}
use Rattle.fc_change.specs.Drafts.{IsChangeOf, IsEntryOf, IsMade, IsMadeOf, IsToldBy, IsTurnedBy, address_in, grown_in, told, told_first, told_last}
use Rattle.fc_change.specs.declared.drafts.Told.{Told}
use Rattle.fc_change.specs.declared.job.Job.{Job}
use Rattle.fc_change.specs.declared.job.Job.TheVariants as jobs
use Rattle.fc_change.specs.declared.spaces.Spaces.{Spaces}
use Rattle.fc_refusals.specs.declared.target.Slot.TheVariants as slots
use Rattle.fc_tree.specs.Parts.{Parts}

-- The entry that is made of a target's is the one that its directory can have.
pub can_reword : (grown : Option Regrowth) (nodes : Nodes) (t : Target) (f : Entry → Entry) (e now was : Entry) → CanTell grown nodes t.holder (Rewriting.Replaces t.at e) → IsMadeOf nodes t f e
    → IsEntryOf nodes t was → now ≡ f was → CanTell grown nodes t.holder (Rewriting.Replaces t.at now)
can_reword grown nodes t f e now was can made is made_now =
    subst (λ (d : Entry). CanTell grown nodes t.holder (Rewriting.Replaces t.at d)) (made.2 ∙ ap f (same_some made.0 was (sym made.1 ∙ is)) ∙ sym made_now) can

-- What is told one after another is told together.
pub tell_append : (grown : Option Regrowth) (nodes : Nodes) (qs rs : List (ℕ × Rewriting)) (ss ts : List Says) → TellAll grown nodes qs ss → TellAll grown nodes rs ts → TellAll grown nodes (qs ++ rs) (ss ++ ts)
tell_append grown nodes [] rs [] ts one two = two
tell_append grown nodes [] rs (s ∷ ss) ts one two = absurd one
tell_append grown nodes (q ∷ qs) rs [] ts one two = absurd one
tell_append grown nodes (q ∷ qs) rs (s ∷ ss) ts one two = (one.0, tell_append grown nodes qs rs ss ts one.1 two)

-- The numbers are those of the nodes.
pub numbers_told : (grown : Option Regrowth) (nodes : Nodes) (qs : List (ℕ × Rewriting)) (ss : List Says) → TellAll grown nodes qs ss → numbers qs ≡ nodes_told ss
numbers_told grown nodes [] [] tell = refl
numbers_told grown nodes [] (s ∷ ss) tell = absurd tell
numbers_told grown nodes (q ∷ qs) [] tell = absurd tell
numbers_told grown nodes (q ∷ qs) (s ∷ ss) tell = ap₂ (λ (n : ℕ) (ns : List ℕ). n ∷ ns) (sym tell.0.number) (numbers_told grown nodes qs ss tell.1)

-- All that a job and a grown directory tell, in their order.
pub gathered : (grown : Option Regrowth) (nodes : Nodes) (first : Says) (last more says : List Says) → TellAll grown nodes (around grown nodes (first.node ∷ nodes_told last)) more
    → says ≡ (first ∷ more) ++ last → (firsts lasts : List (ℕ × Rewriting)) → TellAll grown nodes firsts (first ∷ []) → TellAll grown nodes lasts last
    → TellAll grown nodes (firsts ++ (around grown nodes (numbers (firsts ++ lasts)) ++ lasts)) says
gathered grown nodes first last more says others are firsts lasts one two =
    let all : numbers (firsts ++ lasts) ≡ first.node ∷ nodes_told last = numbers_told grown nodes (firsts ++ lasts) ((first ∷ []) ++ last) (tell_append grown nodes firsts lasts (first ∷ []) last one two) in
    subst (λ (ss : List Says). TellAll grown nodes (firsts ++ (around grown nodes (numbers (firsts ++ lasts)) ++ lasts)) ss) (sym are)
    (tell_append grown nodes firsts (around grown nodes (numbers (firsts ++ lasts)) ++ lasts) (first ∷ []) (more ++ last) one
    (tell_append grown nodes (around grown nodes (numbers (firsts ++ lasts))) lasts more last (subst (λ (ns : List ℕ). TellAll grown nodes (around grown nodes ns) more) (sym all) others) two))

-- Which directories a job names doesn't depend on the entry.
same_numbers : (job : Job) (a b : Entry) (lasts : List (ℕ × Rewriting)) → numbers (told_first job a ++ lasts) ≡ numbers (told_first job b ++ lasts)
same_numbers (jobs.File (slots.New dir) words) a b lasts = refl
same_numbers (jobs.File (slots.Over t) words) a b lasts = refl
same_numbers (jobs.Directory dir) a b lasts = refl
same_numbers (jobs.Removal t) a b lasts = refl
same_numbers (jobs.Move r) a b lasts = by (r.holder == r.target.holder)
  where
    by : (within : Bool) → numbers (cond within ((r.holder, Rewriting.Renames r.target.at a) ∷ []) ((r.holder, Rewriting.Enters a) ∷ []) ++ lasts)
        ≡ numbers (cond within ((r.holder, Rewriting.Renames r.target.at b) ∷ []) ((r.holder, Rewriting.Enters b) ∷ []) ++ lasts)
    by true = refl
    by false = refl
same_numbers (jobs.Words t words) a b lasts = refl
same_numbers (jobs.Marks t attrs) a b lasts = refl

-- Those around a grown directory can be told once the job has told its own.
pub can_around : (h : Parts) (job : Job) (name : List ℕ) (address : Option ℕ) (grown : Option Regrowth) (t : Told) (own : Entry) → IsToldBy h job name address grown t
    → CanTellAround h.nodes grown (numbers (told_first job own ++ told_last h.nodes job name)) → CanTellAround h.nodes grown (t.first.node ∷ nodes_told t.last.items)
can_around h job name address grown t own is can =
    let lasts = told_last h.nodes job name in
    subst (CanTellAround h.nodes grown)
    (same_numbers job own is.entry lasts
    ∙ numbers_told grown h.nodes (told_first job is.entry ++ lasts) ((t.first ∷ []) ++ t.last.items) (tell_append grown h.nodes (told_first job is.entry) lasts (t.first ∷ []) t.last.items is.first is.last))
    can

-- What a job has told, and those around a grown directory, are its change.
pub is_change : (h : Parts) (job : Job) (name : List ℕ) (spaces : Spaces) (t : Told) (says : Vec Says Global) (address : Option ℕ) (grown : Option Regrowth) → address ≡ address_in spaces → grown ≡ grown_in spaces
    → IsToldBy h job name address grown t
    → ((firsts lasts : List (ℕ × Rewriting)) → TellAll grown h.nodes firsts (t.first ∷ []) → TellAll grown h.nodes lasts t.last.items
    → TellAll grown h.nodes (firsts ++ (around grown h.nodes (numbers (firsts ++ lasts)) ++ lasts)) says.items)
    → IsChangeOf h job name spaces (record { says = says; object = t.object; grown = grown })
is_change h job name spaces t says address grown at grows is all = record {
  entry = is.entry;
  made = subst (λ (a : Option ℕ). IsMade h job name a is.entry) at is.made;
  grown = grows;
  tells = subst (λ (g : Option Regrowth). TellAll g h.nodes (told h.nodes job name g is.entry) says.items) grows (all (told_first job is.entry) (told_last h.nodes job name) is.first is.last);
  object = subst (λ (g : Option Regrowth). IsTurnedBy h job name g is.entry t.object) grows is.object;
}
