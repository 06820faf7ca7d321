-- Names of what is open, when more is asked for.
use Rattle.std.specs.Prelude.{◌≡◌, ◌++◌, ◌∷◌, [], ℕ, List, Option, Some, Contains}
use Rattle.std.proofs.Math.Logic.{∥∥₁_map}
use Rattle.std.proofs.lemmas.Grind.{merely}
use Rattle.std.proofs.lemmas.List.Elements.{Contains-append_left, Contains-push}
use Rattle.std.proofs.Common.{◌∙◌, subst, sym}
use Rattle.fc_device.specs.Asked.{Asked}
use Rattle.fc_files.specs.Named.{IsNamed, WasAsked}

-- What was asked for stays so, and the same file may be open.
pub asked_more : (named now : Option (List ℕ)) (asks asks' : List Asked) (a : Asked) → now ≡ named → asks' ≡ asks ++ a ∷ [] → ∥ WasAsked named asks ∥₁ → ∥ WasAsked now asks' ∥₁
asked_more named now asks asks' a same more was =
    ∥∥₁_map was (λ (w : WasAsked named asks). λ name is. let x = w name (subst (λ (o : Option (List ℕ)). o ≡ Some name) same is) in
    (x.0, subst (λ (l : List Asked). Contains l (name, x.0)) (sym more) (Contains-append_left asks (a ∷ []) (name, x.0) x.1)))

-- A file of the last name may be open.
pub asked_last : (now : Option (List ℕ)) (asks asks' : List Asked) (name asked : List ℕ) (blank : Option ℕ) → asked ≡ name → asks' ≡ asks ++ (asked, blank) ∷ [] → IsNamed now name
    → ∥ WasAsked now asks' ∥₁
asked_last now asks asks' name asked blank same more named =
    merely (λ other is. (
      blank,
      subst (λ (l : List Asked). Contains l (other, blank)) (sym more)
          (subst (λ (n : List ℕ). Contains {X = Asked} (asks ++ (asked, blank) ∷ []) (n, blank)) (same ∙ sym (named other is)) (Contains-push {X = Asked} asks (asked, blank))),
    ))

-- So may a file of the same name.
pub named_still : (named now : Option (List ℕ)) (asks : List Asked) → now ≡ named → ∥ WasAsked named asks ∥₁ → ∥ WasAsked now asks ∥₁
named_still named now asks same was = subst (λ (o : Option (List ℕ)). ∥ WasAsked o asks ∥₁) (sym same) was
