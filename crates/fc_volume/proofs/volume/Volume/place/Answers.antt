use Rattle.std.proofs.Common.{ap, subst, sym, refl, ◌∙◌}
use Rattle.std.specs.Option.{option_map}
use Rattle.std.specs.FinMap.{get}
use Rattle.std.specs.Prelude.{Err, IsErrOf}
use Rattle.fc_space.specs.declared.PlaceError.{PlaceError}
use Rattle.fc_space.specs.Space.{layout_of}
use Rattle.fc_tree.specs.Nodes.{nodes_of}
use Rattle.fc_volume.proofs.PieceLemmas.{not_outside, place_is}
use Rattle.fc_volume.proofs.volume.Volume.place.Goals as goal

pub returns-in-Ok : goal.returns-in-Ok
returns-in-Ok c =
    place_is c.args.self.now c.args.f.now c.unwrap-node.result.now (layout_of c.self.inside.holdings.places) c.in-Ok.place.items
    (ap (λ v. get (nodes_of v.tree) c.args.f.now.node) (sym c.self.view_is) ∙ sym c.node.ensures ∙ ap (option_map (λ n. n.now)) c.unwrap-node.ensures)
    (ap (λ v. layout_of v.space) c.self.view_is) c.in-Ok.ensures.place c.in-Ok.ensures.suffice

pub unreachable-requires : goal.unreachable-requires
unreachable-requires c =
    not_outside c.args.self.now c.args.f.now c.unwrap-node.result.now c.requires.agree c.requires.named
    (ap (λ v. get (nodes_of v.tree) c.args.f.now.node) (sym c.self.view_is) ∙ sym c.node.ensures ∙ ap (option_map (λ n. n.now)) c.unwrap-node.ensures)
    (layout_of c.self.inside.holdings.places) (ap (λ v. layout_of v.space) c.self.view_is) (c.place_of.ensures.outside (subst (λ r. IsErrOf r PlaceError.Outside) (sym (c.in-Err-Outside.is ∙ ap Err c.in-Err-Outside.field-0-is)) refl))
