-- What becomes of the map of a disc.
use Rattle.std.proofs.Common.{◌≡◌, ℕ, List, refl, sym, subst, ◌∙◌}
use Rattle.std.specs.Prelude.{IfOk, Result, Ok, Err}
use Rattle.fc_device.specs.declared.disk.Disk.{Ghosts}
use Rattle.fc_newmap.specs.Map.{Map}
use Rattle.fc_alloc.specs.declared.owner.Owner.{Owner}
use Rattle.fc_image.specs.Layout.{Layout}
use Rattle.fc_volume.specs.Reclaiming.{HasGivenBack}

-- What the map's call gave back, in the words of a layout that has this map.
pub layout_given : {D E : Type 0} (d : Ghosts D) (old new : D) (was m' : Map) (owners : List Owner) (layout : Layout) (result : Result ℕ E) → layout ≡ Layout.New was
    → IfOk result (λ bytes. HasGivenBack d was m' owners bytes old new)
    → IfOk result (λ bytes. (m : Map) → layout ≡ Layout.New m → (x : Map) × (Layout.New m' ≡ Layout.New x) × HasGivenBack d m x owners bytes old new)
layout_given d old new was m' owners layout (Err e) at given = tt
layout_given d old new was m' owners layout (Ok bytes) at given = λ m is. (m', refl, subst (λ (n : Map). HasGivenBack d n m' owners bytes old new) (one_map was m (sym at ∙ is)) given)
  where
    one_map : (a b : Map) → Layout.New a ≡ Layout.New b → a ≡ b
    one_map a b e = cc
