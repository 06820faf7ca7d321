use Rattle.std.proofs.Common.{◌≡◌, ap, ◌∙◌, take, replicate, refl, ℕ}
use Rattle.fc_dirs.specs.declared.SmallForm.{SmallForm}
use Rattle.fc_dirs.specs.declared.SmallForm.TheVariants.{Bytes1280, Bytes2048}
use Rattle.fc_dirs.specs.Entries.{padded_name}
use Rattle.fc_dirs.specs.Small.{tail_of}
use Rattle.fc_smalldir.proofs.small.SmallDir.empty.Goals as goal

zeros : (form : SmallForm) → take {A = ℕ} (tail_of form).reserved_len (replicate 14 0) ≡ replicate (tail_of form).reserved_len 0
zeros Bytes2048 = refl
zeros Bytes1280 = refl

pub returns : goal.returns
returns c =
    let name = c.padded.ensures ∙ ap (padded_name 10) c.bytes.ensures.same in
    let title = c.padded-2.ensures ∙ ap (padded_name 19) c.bytes-2.ensures.same in
    λ i. record {
      form = c.args.form;
      is_hugo = c.has_old_word.ensures i;
      sequence = 0;
      parent = c.args.parent;
      name = name i;
      title = title i;
      reserved = zeros c.args.form i;
      entries = c.new.ensures.items i;
    }
