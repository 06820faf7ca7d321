-- Names that stand in a heap, through changes of the entries and of the heap.
use Rattle.std.proofs.Common.{◌≡◌, ◌≤◌, ◌<◌, ℕ, zero, suc, ◌+◌, ◌%◌, List, [], ◌∷◌, ◌++◌, length, get_or, insert, remove, take, drop, replicate, refl, ap, ◌∙◌, subst, arith, append_assoc, length-append}
use Rattle.std.specs.List.{AllByRecursion}
use Rattle.std.proofs.lemmas.List.{take_at, drop_at, take-take, take-append-le, drop-append-le, length-drop}
use Rattle.fc_dirs.specs.declared.Entry.{Entry}
use Rattle.fc_dirs.specs.Entries.{padded_name}
use Rattle.fc_dirs.specs.Big.{AllStand, StandsInHeap, name_space, packed_heap, packed_places}
use Rattle.fc_smalldir.proofs.NameLemmas.{length-padded}

-- ---- by recursion

pub recursion_insert : {X : Type 0} (P : X → Type 0) (xs : List X) (i : ℕ) (x : X) → AllByRecursion P xs → P x → AllByRecursion P (insert xs i x)
recursion_insert P xs zero x all here = (here, all)
recursion_insert P [] (suc i) x all here = (here, tt)
recursion_insert P (y ∷ xs) (suc i) x all here = (all.0, recursion_insert P xs i x all.1 here)

pub recursion_remove : {X : Type 0} (P : X → Type 0) (xs : List X) (i : ℕ) → AllByRecursion P xs → AllByRecursion P (remove xs i)
recursion_remove P [] zero all = tt
recursion_remove P [] (suc i) all = tt
recursion_remove P (y ∷ xs) zero all = all.1
recursion_remove P (y ∷ xs) (suc i) all = (all.0, recursion_remove P xs i all.1)

-- ---- the heap stays

pub stand_insert : (heap places : List ℕ) (es : List Entry) (p at : ℕ) (e : Entry) → AllStand heap places es → StandsInHeap heap at e.name → AllStand heap (insert places p at) (insert es p e)
stand_insert heap places es zero at e stand here = (here, stand)
stand_insert heap [] [] (suc p) at e stand here = (here, tt)
stand_insert heap [] (x ∷ es) (suc p) at e stand here = absurd stand
stand_insert heap (y ∷ places) [] (suc p) at e stand here = absurd stand
stand_insert heap (y ∷ places) (x ∷ es) (suc p) at e stand here = (stand.0, stand_insert heap places es p at e stand.1 here)

pub stand_remove : (heap places : List ℕ) (es : List Entry) (i : ℕ) → AllStand heap places es → AllStand heap (remove places i) (remove es i)
stand_remove heap [] [] zero stand = tt
stand_remove heap [] [] (suc i) stand = tt
stand_remove heap [] (x ∷ es) i stand = absurd stand
stand_remove heap (y ∷ places) [] i stand = absurd stand
stand_remove heap (y ∷ places) (x ∷ es) zero stand = stand.1
stand_remove heap (y ∷ places) (x ∷ es) (suc i) stand = (stand.0, stand_remove heap places es i stand.1)

-- the name of a number
pub stand_at : (heap places : List ℕ) (es : List Entry) (i : ℕ) (d : Entry) → AllStand heap places es → i < length es → StandsInHeap heap (get_or places i 0) (get_or es i d).name
stand_at heap [] [] i d stand within = absurd (omega arith)
stand_at heap [] (x ∷ es) i d stand within = absurd stand
stand_at heap (y ∷ places) [] i d stand within = absurd stand
stand_at heap (y ∷ places) (x ∷ es) zero d stand within = stand.0
stand_at heap (y ∷ places) (x ∷ es) (suc i) d stand within = stand_at heap places es i d stand.1 (omega arith)

-- ---- a longer heap

stands_longer : (heap more : List ℕ) (at : ℕ) (name : List ℕ) → StandsInHeap heap at name → StandsInHeap (heap ++ more) at name
stands_longer heap more at name stands =
    let inside = stands.inside in
    record {
      inside = omega (arith, inside, length-append heap more);
      spelled = ap (take (length name)) (drop-append-le at heap more (omega (arith, inside))) ∙ take-append-le (length name) (drop at heap) more (omega (arith, inside, length-drop at heap)) ∙ stands.spelled;
    }

pub stand_longer : (heap more places : List ℕ) (es : List Entry) → AllStand heap places es → AllStand (heap ++ more) places es
stand_longer heap more [] [] stand = tt
stand_longer heap more [] (x ∷ es) stand = absurd stand
stand_longer heap more (y ∷ places) [] stand = absurd stand
stand_longer heap more (y ∷ places) (x ∷ es) stand = (stands_longer heap more y x.name stand.0, stand_longer heap more places es stand.1)

-- the space of a name
pub space_holds : (name : List ℕ) → length name ≤ name_space name
space_holds name = omega arith

pub name_whole : (name : List ℕ) → name_space name % 4 ≡ 0
name_whole name = omega arith

-- a name after the heap
pub stands_behind : (heap name : List ℕ) → StandsInHeap (heap ++ padded_name (name_space name) name) (length heap) name
stands_behind heap name =
    let space = name_space name in
    let padded = padded_name space name in
    let size = length-padded space name in
    let holds = space_holds name in
    record {
      inside = omega (arith, length-append heap padded, size, holds);
      spelled = ap (take (length name)) (drop_at heap padded (length heap) refl) ∙ take-take (length name) space (name ++ 13 ∷ replicate space 0) holds ∙ take_at name (13 ∷ replicate space 0) (length name) refl;
    }

-- ---- a heap made anew

packed_behind : (front : List ℕ) (at : ℕ) (es : List Entry) → length front ≡ at → AllStand (front ++ packed_heap es) (packed_places at es) es
packed_behind front at [] is = tt
packed_behind front at (e ∷ es) is =
    let padded = padded_name (name_space e.name) e.name in
    let split : front ++ padded ++ packed_heap es ≡ front ++ (padded ++ packed_heap es) = append_assoc front padded (packed_heap es) in
    let first : StandsInHeap (front ++ padded ++ packed_heap es) at e.name = subst (λ n. StandsInHeap (front ++ padded ++ packed_heap es) n e.name) is (stands_longer (front ++ padded) (packed_heap es) (length front) e.name (stands_behind front e.name)) in
    let more = packed_behind (front ++ padded) (at + name_space e.name) es (length-append front padded ∙ omega (arith, is, length-padded (name_space e.name) e.name)) in
    (subst (λ h. StandsInHeap h at e.name) split first, subst (λ h. AllStand h (packed_places (at + name_space e.name) es) es) split more)

pub packed_stand : (es : List Entry) → AllStand (packed_heap es) (packed_places 0 es) es
packed_stand es = packed_behind [] 0 es refl

pub packed_whole : (es : List Entry) → length (packed_heap es) % 4 ≡ 0
packed_whole [] = refl
packed_whole (e ∷ es) =
    omega (arith, length-append (padded_name (name_space e.name) e.name) (packed_heap es), length-padded (name_space e.name) e.name, name_whole e.name, packed_whole es)
