use Rattle.std.proofs.Common.{◌≡◌, ◌++◌, ◌∷◌, [], List, ℕ, length, length-append, ap, ap₂, sym, ◌∙◌, append_assoc, arith}
use Rattle.fc_compact.proofs.SideLemmas.{above, below, sides_few}
use Rattle.fc_compact.proofs.lookup.with_zone.Goals as goal

pub push_below-requires : goal.push_below-requires
push_below-requires c =
    let few = sides_few c.args.zone c.deref.result.now in
    omega (arith, few, c.deref.ensures.1, ap length c.new-changed.ensures)

pub push-requires : goal.push-requires
push-requires c =
    let zone = c.args.zone in
    let few = sides_few zone c.deref.result.now in
    omega (arith, few, c.requires, ap length c.deref.ensures.0, ap length c.new-changed.ensures, ap length c.push_below.ensures, length-append c.new-changed.result.items (below zone c.deref.result.now))

pub push_above-requires : goal.push_above-requires
push_above-requires c =
    let zone = c.args.zone in
    let few = sides_few zone c.deref-2.result.now in
    let same : length (below zone c.deref.result.now) ≡ length (below zone c.deref-2.result.now) =
    ap (λ (zs : List ℕ). length (below zone zs)) c.deref.ensures.0 ∙ sym (ap (λ (zs : List ℕ). length (below zone zs)) c.deref-2.ensures.0) in
    omega (arith, few, same, c.requires, ap length c.deref-2.ensures.0, ap length c.new-changed.ensures, ap length c.push_below.ensures, length-append c.new-changed.result.items (below zone c.deref.result.now), c.push.ensures.len)

pub returns : goal.returns
returns c =
    let zone = c.args.zone in
    let zones = c.args.zones.now.items in
    let one : c.push_below.new.list.items ≡ below zone zones = c.push_below.ensures ∙ ap₂ (λ (xs ys : List ℕ). xs ++ below zone ys) c.new-changed.ensures c.deref.ensures.0 in
    let two : c.push.new.self.items ≡ below zone zones ++ zone ∷ [] = c.push.ensures.items ∙ ap (λ (xs : List ℕ). xs ++ zone ∷ []) one in
    c.push_above.ensures ∙ ap₂ (λ (xs ys : List ℕ). xs ++ above zone ys) two c.deref-2.ensures.0 ∙ append_assoc (below zone zones) (zone ∷ []) (above zone zones)
