use Rattle.std.proofs.Common.{subst, ap, ◌∙◌}
use Rattle.fc_dirs.specs.Entries.{padded_name}
use Rattle.fc_dirs.specs.Small.{byte_limit}
use Rattle.fc_dirs.specs.SmallBytes.{with_tops}
use Rattle.fc_smalldir.proofs.NameLemmas.{ArePrinted, padded_name_low}
use Rattle.fc_smalldir.proofs.entry.name_bytes.Goals as goal

pub with_tops-requires : goal.with_tops-requires
with_tops-requires c =
    let printed : ArePrinted 128 c.args.e.now.name =
    subst (λ form. ArePrinted (byte_limit form) c.args.e.now.name) c.in-Bytes1280.is c.requires.printed in
    rw (c.padded-field.ensures, c.bytes.ensures.same) (padded_name_low c.args.e.now.name printed)

pub returns-in-Bytes1280 : goal.returns-in-Bytes1280
returns-in-Bytes1280 c =
    rw c.in-Bytes1280.is (c.with_tops.ensures ∙ ap (with_tops c.args.e.now.attrs) (c.padded-field.ensures ∙ ap (padded_name 10) c.bytes.ensures.same))
