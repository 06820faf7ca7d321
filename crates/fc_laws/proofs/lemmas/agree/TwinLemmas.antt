-- Entries of the same names have the same twins.
use Rattle.std.proofs.Common.{◌≡◌, ℕ, zero, suc, Bool, true, false, cond, List, [], ◌∷◌, length, map, take, refl, ap, ap₂, ◌∙◌, Option, Some, None, slice_get}
use Rattle.std.specs.Prelude.{find, is_some}
use Rattle.std.specs.List.{range_with_len}
use Rattle.std.specs.Option.{option_map, option_map_or}
use Rattle.std.proofs.lemmas.List.{length-map}
use Rattle.fc_names.specs.Names.{is_same_name}
use Rattle.fc_dirs.specs.declared.Entry.{Entry}
use Rattle.fc_dirs.specs.Entries.{first_twin, has_name, is_twin}

-- the first changed element that passes a test
pub find_changed : {X : Type 0} (t : X → Bool) (f : X → X) → ((x : X) → t (f x) ≡ t x) → (xs : List X) → find t (map f xs) ≡ option_map f (find t xs)
find_changed t f same [] = refl
find_changed {X} t f same (x ∷ xs) = ap (λ (b : Bool). cond b (Some (f x)) (find t (map f xs))) (same x) ∙ by (t x) (find_changed t f same xs)
  where
    by : (b : Bool) → find t (map f xs) ≡ option_map f (find t xs) → cond b (Some (f x)) (find t (map f xs)) ≡ option_map f (cond b (Some x) (find t xs))
    by true more = refl
    by false more = more

take_mapped : (f : Entry → Entry) (n : ℕ) (es : List Entry) → take n (map f es) ≡ map f (take n es)
take_mapped f zero es = refl
take_mapped f (suc n) [] = refl
take_mapped f (suc n) (e ∷ es) = ap (λ (xs : List Entry). f e ∷ xs) (take_mapped f n es)

get_mapped : (f : Entry → Entry) (n : ℕ) (es : List Entry) → slice_get (map f es) n ≡ option_map f (slice_get es n)
get_mapped f n [] = refl
get_mapped f zero (e ∷ es) = refl
get_mapped f (suc n) (e ∷ es) = get_mapped f n es

some_mapped : (f : Entry → Entry) (o : Option Entry) → is_some (option_map f o) ≡ is_some o
some_mapped f None = refl
some_mapped f (Some e) = refl

named : (f : Entry → Entry) → ((e : Entry) → (f e).name ≡ e.name) → (es : List Entry) (name : List ℕ) → has_name (map f es) name ≡ has_name es name
named f same es name =
    ap is_some (find_changed (λ (e : Entry). is_same_name name e.name) f (λ e. ap (is_same_name name) (same e)) es)
    ∙ some_mapped f (find (λ (e : Entry). is_same_name name e.name) es)

twin_same : (f : Entry → Entry) → ((e : Entry) → (f e).name ≡ e.name) → (es : List Entry) (i : ℕ) → is_twin (map f es) i ≡ is_twin es i
twin_same f same es i =
    ap₂ (λ (xs : List Entry) (o : Option Entry). option_map_or (λ (e : Entry). has_name xs e.name) o false) (take_mapped f i es) (get_mapped f i es) ∙ by (slice_get es i)
  where
    by : (o : Option Entry) → option_map_or (λ (e : Entry). has_name (map f (take i es)) e.name) (option_map f o) false ≡ option_map_or (λ (e : Entry). has_name (take i es) e.name) o false
    by None = refl
    by (Some e) = ap (has_name (map f (take i es))) (same e) ∙ named f same (take i es) e.name

find_alike : (p q : ℕ → Bool) → ((n : ℕ) → p n ≡ q n) → (xs : List ℕ) → find p xs ≡ find q xs
find_alike p q same [] = refl
find_alike p q same (x ∷ xs) = ap₂ (λ (b : Bool) (o : Option ℕ). cond b (Some x) o) (same x) (find_alike p q same xs)

pub twins_same : (f : Entry → Entry) → ((e : Entry) → (f e).name ≡ e.name) → (es : List Entry) → first_twin (map f es) ≡ first_twin es
twins_same f same es =
    ap (λ (n : ℕ). find (is_twin (map f es)) (range_with_len 0 n)) (length-map es f)
    ∙ find_alike (is_twin (map f es)) (is_twin es) (twin_same f same es) (range_with_len 0 (length es))
