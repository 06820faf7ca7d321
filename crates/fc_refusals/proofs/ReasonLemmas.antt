-- Lists of reasons that are the same one by one.
use Rattle.std.proofs.Common.{◌≡◌, Bool, List, ◌∷◌, ap, ap₂, Option}
use Rattle.fc_names.specs.declared.refusal.Refusal.{Refusal}
use Rattle.fc_model.specs.Answer.{when}

pub first : {p q : Option Refusal} {ps qs : List (Option Refusal)} → p ≡ q → ps ≡ qs → (p ∷ ps) ≡ (q ∷ qs)
first e f = ap₂ (λ (x : Option Refusal) (xs : List (Option Refusal)). x ∷ xs) e f

pub test : (refusal : Refusal) {a b : Bool} → a ≡ b → when a refusal ≡ when b refusal
test refusal e = ap (λ (c : Bool). when c refusal) e
