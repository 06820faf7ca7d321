use Rattle.std.proofs.Common.{◌≡◌, ◌∷◌, ◌++◌, [], ◌∙◌, ap, sym, subst, ℕ, List}
use Rattle.fc_newmap.specs.Committing.{CanWrite}
use Rattle.fc_compact.proofs.slides.commit_zone.Goals as goal

pub commit-requires-clause-ready : goal.commit-requires-clause-ready
commit-requires-clause-ready g c = λ image told.
    let listed : c.push.new.self.items ≡ c.args.z ∷ [] = c.push.ensures.items ∙ ap (λ (xs : List ℕ). xs ++ c.args.z ∷ []) c.new-changed.ensures in
    subst (λ (xs : List ℕ). CanWrite c.args.map.now xs image) (sym listed) (c.requires.ready image told)
