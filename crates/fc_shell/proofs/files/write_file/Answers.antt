use Rattle.std.proofs.lemmas.Result.{err_from_is_err_and}
use Rattle.hex.specs.Hex.{encode_lower}
use Rattle.fc_image.specs.Layout.{bytes_in}
use Rattle.fc_objects.specs.Extents.{sectors_in}
use Rattle.fc_script.specs.Texts.{load_reply}
use Rattle.fc_shell.proofs.ToldLemmas.{digits_cut, end_cut, told_stopped}
use Rattle.fc_shell.proofs.files.write_file.Goals as goal

pub returns-in_err-write_place-clause-told : goal.returns-in_err-write_place-clause-told
returns-in_err-write_place-clause-told g c image told =
    let taken = g.K.Sink.taken in
    let bytes = bytes_in c.args.size image (sectors_in c.args.place.now) c.args.len in
    let p = err_from_is_err_and c.from_residual.result c.from_residual.ensures.1 in
    told_stopped (load_reply bytes) (taken c.args.out.now) (taken c.write_place.new.out) c.from_residual.result p.0 p.1
    (digits_cut (taken c.args.out.now) (taken c.write_place.new.out) (encode_lower bytes) (c.in_err-write_place.ensures.told image told))

pub returns-in_err-write_all-clause-told : goal.returns-in_err-write_all-clause-told
returns-in_err-write_all-clause-told g c image told =
    let taken = g.K.Sink.taken in
    let bytes = bytes_in c.args.size image (sectors_in c.args.place.now) c.args.len in
    let p = err_from_is_err_and c.from_residual-in_err-write_all.result c.from_residual-in_err-write_all.ensures.1 in
    told_stopped (load_reply bytes) (taken c.args.out.now) (taken c.write_all.new.out) c.from_residual-in_err-write_all.result p.0 p.1
    (end_cut (taken c.args.out.now) (taken c.write_place.new.out) (taken c.write_all.new.out) (encode_lower bytes) (c.in_ok-write_place.ensures.told image told) c.write_all.ensures.part)
