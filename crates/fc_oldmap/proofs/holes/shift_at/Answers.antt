use Rattle.std.proofs.Common.{◌≡◌, ◌+◌, ◌<◌, ◌^◌, List, slice_set, slice_index_or, sym, ap, subst, ◌∙◌, arith, refl}
use Rattle.std.specs.Prelude.{All}
use Rattle.std.proofs.lemmas.Option.{slice_get-get_or}
use Rattle.fc_oldmap.specs.declared.Hole.{Hole}
use Rattle.fc_oldmap.specs.Holes.{hole, hole_end, joined_at}
use Rattle.fc_oldmap.proofs.FitLemmas.{shifted-at}
use Rattle.fc_oldmap.proofs.SpaceLemmas.{ends_fit, ends_fit-set}
use Rattle.fc_oldmap.proofs.holes.shift_at.Goals as goal
use Rattle.fc_oldmap.proofs.holes.shift_at.Goals.{After-set}

-- the list in which the hole is moved
moved : (c : After-set) → c.set.new.holes.items ≡ slice_set c.args.holes.now.items c.args.index (hole ((slice_index_or c.args.holes.now.items c.args.index (hole 0 0)).start + c.args.n) (slice_index_or c.args.holes.now.items c.args.index (hole 0 0)).len)
moved c = c.set.ensures ∙ ap (λ (l : List Hole). slice_set c.args.holes.now.items c.args.index (hole ((slice_index_or l c.args.index (hole 0 0)).start + c.args.n) (slice_index_or l c.args.index (hole 0 0)).len)) c.deref.ensures.0

pub join_next-requires : goal.join_next-requires
join_next-requires c =
    let old = c.args.holes.now.items in
    let at = slice_get-get_or old c.args.index (hole 0 0) c.requires.there in
    let fits = c.requires.fits (slice_index_or old c.args.index (hole 0 0)) at in
    let All_fit : List Hole → Type 0 = λ l. All (λ h. hole_end h < 2 ^ 32) l in
    subst All_fit (sym (moved (goal.at.join_next-requires c).After-set))
    (ends_fit-set old c.args.index (hole ((slice_index_or old c.args.index (hole 0 0)).start + c.args.n) (slice_index_or old c.args.index (hole 0 0)).len) (ends_fit old old c.requires.holes refl) (omega (arith, fits)))

pub returns : goal.returns
returns c =
    c.join_next.ensures ∙ ap (joined_at c.args.index) (moved (goal.at.returns c).After-set)
    ∙ sym (shifted-at c.args.holes.now.items c.args.index c.args.n (hole 0 0) c.requires.there)
