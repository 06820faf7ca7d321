use Rattle.std.proofs.Common.{◌∙◌, ap, take, drop, refl, arith}
use Rattle.std.proofs.lemmas.List.{take-take}
use Rattle.fc_smalldir.proofs.HeadLemmas.{head_says_2048, head_says_1280}
use Rattle.fc_smalldir.proofs.head.read_head.Goals as goal

pub returns-in-Bytes2048 : goal.returns-in-Bytes2048
returns-in-Bytes2048 c =
    head_says_2048 c.args.b.now c.args.form _ _ _ _ _ _ c.in-Bytes2048.is c.is_hugo.ensures refl c.le24.ensures.bytes c.array_at.ensures c.array_at-in-Bytes2048.ensures c.two_reserved.ensures

pub returns-in-Bytes1280 : goal.returns-in-Bytes1280
returns-in-Bytes1280 c =
    head_says_1280 c.args.b.now c.args.form _ _ _ _ _ _ c.in-Bytes1280.is c.is_hugo-in-Bytes1280.ensures refl c.le24-in-Bytes1280.ensures.bytes c.array_at-in-Bytes1280.ensures
    c.array_at-in-Bytes1280-2.ensures (ap (take 14) c.array_at-in-Bytes1280-3.ensures ∙ take-take 14 14 (drop 1260 c.args.b.now) (omega arith))
