use Rattle.std.proofs.Common.{◌≡◌, refl, rules, subst, option_map}
use Rattle.fc_format.specs.Fresh.{zeros}
use Rattle.fc_program.proofs.FreshLemmas.{fresh_bytes}
use Rattle.fc_program.proofs.image.make_image.Goals as goal

pub returns-in-Ok-clause-bytes : goal.returns-in-Ok-clause-bytes
returns-in-Ok-clause-bytes g c is =
    let bytes = g.D.Disk.bytes in
    let blank : bytes c.attach.new.self ≡ option_map (λ image. zeros c.size.result) (bytes c.args.disk.now) = c.in_ok-attach.ensures.blank_bytes (search rules) c.size.result refl in
    fresh_bytes c.args.format (bytes c.args.disk.now) (bytes c.attach.new.self) (bytes c.make.new.disk)
    (subst (λ n. bytes c.attach.new.self ≡ option_map (λ image. zeros n) (bytes c.args.disk.now)) c.size.ensures blank) c.in-Ok.ensures.fresh
