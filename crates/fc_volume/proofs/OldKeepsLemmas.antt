-- What compaction keeps of an old map.
use Rattle.std.proofs.Common.{◌≡◌, ℕ, sym, ap, subst, ◌∙◌}
use Rattle.fc_oldmap.specs.OldMap.{OldMapContent}
use Rattle.fc_image.specs.Layout.{Layout, dir_form}
use Rattle.fc_holdings.specs.Holdings.{IsSameKind}

-- Both are old ones, of sectors of the same size.
pub old_kinds : (l l' : Layout) (space space' : OldMapContent) → l ≡ Layout.Old space → l' ≡ Layout.Old space' → IsSameKind l l'
old_kinds l l' space space' is is' = subst (λ (x : Layout). IsSameKind x l') (sym is) (subst (λ (x : Layout). IsSameKind (Layout.Old space) x) (sym is') tt)

pub same_form : (l l' : Layout) (space space' : OldMapContent) → l ≡ Layout.Old space → l' ≡ Layout.Old space' → space'.sector_units ≡ space.sector_units → dir_form l' ≡ dir_form l
same_form l l' space space' is is' units =
    ap dir_form is' ∙ ap (λ (u : ℕ). dir_form (Layout.Old (record space { sector_units = u }))) units ∙ sym (ap dir_form is)
