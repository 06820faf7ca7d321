use Rattle.std.proofs.Common.{◌≡◌, ◌+◌, ◌∙◌, ap, ℕ, List, length, Some, arith}
use Rattle.std.proofs.lemmas.List.{length-set}
use Rattle.fc_device.specs.Sectors.{sector_at}
use Rattle.fc_device.proofs.DiskLaws.{laws}
use Rattle.fc_newmap.specs.Passes.{masked}
use Rattle.fc_newmap.proofs.PassLemmas.{pass_same, pass_start, pass_write, written_none, written_one, written_same}
use Rattle.fc_newmap.proofs.copies.repairing.copy_first.Goals as goal

pub returns-in_err-write-clause-keeps : goal.returns-in_err-write-clause-keeps
returns-in_err-write-clause-keeps g c =
    let law = laws g.met.D.Disk in
    let d = g.D.Disk in
    let start = c.args.disk.now in
    let to = c.args.to in
    let new_of : List ℕ → ℕ → List ℕ = λ was z. masked c.args.mask (sector_at (d.sector_size start) was c.args.from) in
    let read = pass_same law start to 0 1 new_of (pass_start law start to 0 1 new_of c.requires.settled) c.read.ensures.stops c.read.ensures.bytes in
    let piece = masked c.args.mask c.read.new.into in
    let place : to ≡ to + 0 = omega arith in
    let whole : length piece ≡ d.sector_size start = length-set c.read.new.into 0 _ ∙ (let e : length c.read.new.into ≡ d.sector_size start = omega (arith, c.read.auto.into, c.requires.whole) in e) in
    let piece_is : (image : List ℕ) → d.bytes start ≡ Some image → piece ≡ new_of image 0 = λ image told. ap (masked c.args.mask) (c.in_ok-read.ensures.filled image told) in
    pass_write law start to 0 1 new_of c.read.new.self c.write.new.self read c.read.ensures.form.size_stays 0 to place (omega arith) (omega arith) c.requires.to piece whole piece_is c.write.ensures.stops c.write.ensures.old_or_new

pub returns-in_err-sync-clause-keeps : goal.returns-in_err-sync-clause-keeps
returns-in_err-sync-clause-keeps g c =
    let law = laws g.met.D.Disk in
    let d = g.D.Disk in
    let start = c.args.disk.now in
    let to = c.args.to in
    let new_of : List ℕ → ℕ → List ℕ = λ was z. masked c.args.mask (sector_at (d.sector_size start) was c.args.from) in
    let read = pass_same law start to 0 1 new_of (pass_start law start to 0 1 new_of c.requires.settled) c.read.ensures.stops c.read.ensures.bytes in
    let piece = masked c.args.mask c.read.new.into in
    let place : to ≡ to + 0 = omega arith in
    let whole : length piece ≡ d.sector_size start = length-set c.read.new.into 0 _ ∙ (let e : length c.read.new.into ≡ d.sector_size start = omega (arith, c.read.auto.into, c.requires.whole) in e) in
    let piece_is : (image : List ℕ) → d.bytes start ≡ Some image → piece ≡ new_of image 0 = λ image told. ap (masked c.args.mask) (c.in_ok-read.ensures.filled image told) in
    let written = pass_write law start to 0 1 new_of c.read.new.self c.write.new.self read c.read.ensures.form.size_stays 0 to place (omega arith) (omega arith) c.requires.to piece whole piece_is c.write.ensures.stops c.write.ensures.old_or_new in
    pass_same law start to 0 1 new_of written c.sync.ensures.stops c.sync.ensures.bytes

pub returns-clause-keeps : goal.returns-clause-keeps
returns-clause-keeps g c =
    let law = laws g.met.D.Disk in
    let d = g.D.Disk in
    let start = c.args.disk.now in
    let to = c.args.to in
    let new_of : List ℕ → ℕ → List ℕ = λ was z. masked c.args.mask (sector_at (d.sector_size start) was c.args.from) in
    let read = pass_same law start to 0 1 new_of (pass_start law start to 0 1 new_of c.requires.settled) c.read.ensures.stops c.read.ensures.bytes in
    let piece = masked c.args.mask c.read.new.into in
    let place : to ≡ to + 0 = omega arith in
    let whole : length piece ≡ d.sector_size start = length-set c.read.new.into 0 _ ∙ (let e : length c.read.new.into ≡ d.sector_size start = omega (arith, c.read.auto.into, c.requires.whole) in e) in
    let piece_is : (image : List ℕ) → d.bytes start ≡ Some image → piece ≡ new_of image 0 = λ image told. ap (masked c.args.mask) (c.in_ok-read.ensures.filled image told) in
    let written = pass_write law start to 0 1 new_of c.read.new.self c.write.new.self read c.read.ensures.form.size_stays 0 to place (omega arith) (omega arith) c.requires.to piece whole piece_is c.write.ensures.stops c.write.ensures.old_or_new in
    pass_same law start to 0 1 new_of written c.sync.ensures.stops c.sync.ensures.bytes

pub returns-clause-written : goal.returns-clause-written
returns-clause-written g c =
    let law = laws g.met.D.Disk in
    let d = g.D.Disk in
    let start = c.args.disk.now in
    let to = c.args.to in
    let new_of : List ℕ → ℕ → List ℕ = λ was z. masked c.args.mask (sector_at (d.sector_size start) was c.args.from) in
    let read = pass_same law start to 0 1 new_of (pass_start law start to 0 1 new_of c.requires.settled) c.read.ensures.stops c.read.ensures.bytes in
    let piece = masked c.args.mask c.read.new.into in
    let place : to ≡ to + 0 = omega arith in
    let whole : length piece ≡ d.sector_size start = length-set c.read.new.into 0 _ ∙ (let e : length c.read.new.into ≡ d.sector_size start = omega (arith, c.read.auto.into, c.requires.whole) in e) in
    let piece_is : (image : List ℕ) → d.bytes start ≡ Some image → piece ≡ new_of image 0 = λ image told. ap (masked c.args.mask) (c.in_ok-read.ensures.filled image told) in
    let kept = written_same law start to 0 1 new_of 0 (written_none law start to 0 1 new_of start) c.read.ensures.bytes in
    let one = written_one law start to 0 1 new_of c.read.new.self c.write.new.self read c.read.ensures.form.size_stays 0 to place (omega arith) (omega arith) c.requires.to piece whole piece_is kept c.in_ok-write.ensures.written in
    written_same law start to 0 1 new_of 1 one c.sync.ensures.bytes
