use Rattle.std.proofs.Common.{◌≡◌, ◌<◌, ◌∙◌, ◌++◌, inl, inr, [], ◌∷◌, All, ℕ, List, Result, Ok, Err, OnErr, Option, take, refl, ap, subst, sym, arith, append_assoc}
use Rattle.std.specs.Option.{ForSome}
use Rattle.std.proofs.lemmas.List.{append-nil}
use Rattle.std.proofs.lemmas.Result.{err_from_is_err_and}
use Rattle.fc_device.specs.declared.disk.DiskFault.{DiskFault}
use Rattle.fc_device.specs.declared.disk.Failed.{Failed}
use Rattle.fc_device.proofs.DiskLaws.{laws}
use Rattle.fc_device.proofs.StopLemmas.{reads_start, reads_then}
use Rattle.fc_host.specs.Asked.{Asked}
use Rattle.fc_host.specs.Answers.{joined}
use Rattle.fc_host.specs.Calls.{append_asked}
use Rattle.fc_host.specs.Files.{MayBeAdded}
use Rattle.fc_host.specs.HostLaws.{own_stays}
use Rattle.fc_objects.specs.Bytes.{bytes_ahead, first_bytes}
use Rattle.fc_objects.specs.Extents.{sectors_in}
use Rattle.fc_export.specs.Exports.{Adds, added_of}
use Rattle.fc_export.specs.Readable.{told_bytes}
use Rattle.fc_export.proofs.ExportLemmas.{all_ahead, all_joined, answered_more, asks_more, known_by, own_failed, piece_next, there_more}
use Rattle.fc_export.proofs.file.add_blocks.Goals as goal

pub loop-count-init : goal.loop-count-init
loop-count-init g c =
    let reader = c.new-reader.result in
    let at = c.new-reader.ensures in
    let disk = c.requires.disk in
    record {
      reads = reads_start (laws g.met.D.Disk) c.args.disk.now;
      disk = record {
        is_attached = disk.is_attached;
        sized = disk.sized;
        few = disk.few;
        on_disk = subst (λ (xs : List ℕ). All (λ s. s < g.D.Disk.sectors c.args.disk.now) xs) (sym at.sectors) disk.on_disk;
      };
      size = at.size;
      room = c.requires.room;
      faults = omega arith;
      own = c.requires.own;
      there = c.requires.there;
      added = (
        [],
        sym (append-nil (g.H.Host.asked c.args.host.now)),
        refl,
        λ image told. all_ahead c.args.size image (sectors_in c.args.place.now) c.args.len reader at.sectors at.size at.len,
      );
    }

pub loop-count-preserved : goal.loop-count-preserved
loop-count-preserved g c =
    let inv = c.loop-count.invariant in
    let was = inv.added in
    let name = c.args.name.now in
    let reads = c.read.ensures.reads in
    let piece = take c.in_ok-count.count c.read.new.into in
    let asked = g.H.Host.asked in
    let files = g.H.Host.files in
    let append = c.in_ok-append.ensures in
    record {
      reads = reads_then (laws g.met.D.Disk) inv.reads reads;
      disk = record {
        is_attached = reads.form.attached_stays ∙ inv.disk.is_attached;
        sized = reads.form.size_stays ∙ inv.disk.sized;
        few = inv.disk.few;
        on_disk = c.read.ensures.on_disk;
      };
      size = c.read.ensures.size_stays ∙ inv.size;
      room = omega (arith, inv.room, c.read.auto.into);
      faults = omega (arith, inv.faults, c.append.ensures.cause.later);
      own = own_stays (asked c.loop-count.host) (asked c.append.new.self) name name piece append.asked inv.own;
      there = there_more (files c.loop-count.host) (files c.append.new.self) name piece append.added;
      added = (
        was.0 ++ piece ∷ [],
        asks_more name (asked c.args.host.now) (asked c.loop-count.host) (asked c.append.new.self) was.0 piece was.1 append.asked,
        answered_more name (files c.args.host.now) (files c.loop-count.host) (files c.append.new.self) was.0 piece was.2 append.added,
        λ image told. piece_next (first_bytes c.args.size image (sectors_in c.args.place.now) c.args.len) was.0 (bytes_ahead image c.loop-count.reader) piece (bytes_ahead image c.read.new.self)
            (was.3 image told) (c.in_ok-count.ensures.bytes image (inv.reads.bytes ∙ told)),
      );
    }

-- the bytes that are known stand after those that were added
begun_first : (known : Option (List ℕ)) (part : List ℕ → List ℕ) (pieces : List (List ℕ)) (piece : List ℕ) → ForSome known (λ image. (rest : List ℕ) × (part image ≡ joined pieces ++ (piece ++ rest)))
    → ForSome known (λ image. (rest : List ℕ) × (part image ≡ (joined pieces ++ piece) ++ rest))
begun_first known part pieces piece have image told = let h = have image told in (h.0, h.1 ∙ sym (append_assoc (joined pieces) piece h.0))

pub returns-in_err-count-clause-added : goal.returns-in_err-count-clause-added
returns-in_err-count-clause-added g c =
    let inv = c.loop-count.invariant in
    let was = inv.added in
    let name = c.args.name.now in
    let asked = g.H.Host.asked in
    let part : List ℕ → List ℕ = λ image. first_bytes c.args.size image (sectors_in c.args.place.now) c.args.len in
    let p = err_from_is_err_and c.from_residual.result c.from_residual.ensures.1 in
    subst (Adds g.H.Host name (told_bytes g.D.Disk c.args.disk.now c.args.size (sectors_in c.args.place.now) c.args.len) c.args.host.now c.loop-count.host) (sym p.1)
    (record {
      pieces = was.0;
      piece = [];
      failed = [];
      between = g.H.Host.files c.loop-count.host;
      asks = was.1 ∙ ap (λ (l : List Asked). asked c.args.host.now ++ l) (sym (append-nil (added_of name was.0)));
      answered = was.2;
      ended = inl (refl, refl, refl);
      first = known_by (g.D.Disk.bytes c.args.disk.now) part (λ all. (rest : List ℕ) × (all ≡ (joined was.0 ++ []) ++ rest))
          (begun_first (g.D.Disk.bytes c.args.disk.now) part was.0 [] (λ image told. (bytes_ahead image c.loop-count.reader, was.3 image told)));
      own = inv.own;
    })

pub returns-then-count-eq0-clause-added : goal.returns-then-count-eq0-clause-added
returns-then-count-eq0-clause-added g c =
    let was = c.loop-count.invariant.added in
    let part : List ℕ → List ℕ = λ image. first_bytes c.args.size image (sectors_in c.args.place.now) c.args.len in
    let none : c.in_ok-count.count ≡ 0 = omega (arith, c.if-count-eq0.true) in
    let end = c.in_ok-count.ensures.end (ap (λ (n : ℕ). let r : Result ℕ DiskFault = Ok n in r) none) in
    record {
      pieces = was.0;
      asks = was.1;
      answered = was.2;
      all = known_by (g.D.Disk.bytes c.args.disk.now) part (λ all. joined was.0 ≡ all)
          (λ image told. all_joined (part image) was.0 (bytes_ahead image c.loop-count.reader) (was.3 image told) (end.1 image));
    }

pub returns-in_err-append-clause-added : goal.returns-in_err-append-clause-added
returns-in_err-append-clause-added g c =
    let inv = c.loop-count.invariant in
    let was = inv.added in
    let name = c.args.name.now in
    let asked = g.H.Host.asked in
    let files = g.H.Host.files in
    let piece = take c.in_ok-count.count c.read.new.into in
    let part : List ℕ → List ℕ = λ image. first_bytes c.args.size image (sectors_in c.args.place.now) c.args.len in
    let p = err_from_is_err_and c.from_residual-in_err-append.result c.from_residual-in_err-append.ensures.1 in
    let failed = c.in_err-append.was in
    let now = subst (λ (r : Result (Unit {0}) Failed). asked c.append.new.self ≡ asked c.loop-count.host ++ append_asked name piece r ∷ []) failed c.append.ensures.asked in
    let left = subst (λ (r : Result (Unit {0}) Failed). OnErr r (MayBeAdded name piece (files c.loop-count.host) (files c.append.new.self))) failed c.append.ensures.part in
    subst (Adds g.H.Host name (told_bytes g.D.Disk c.args.disk.now c.args.size (sectors_in c.args.place.now) c.args.len) c.args.host.now c.append.new.self) (sym p.1)
    (record {
      pieces = was.0;
      piece = piece;
      failed = append_asked name piece (Err c.in_err-append.field-0.0) ∷ [];
      between = files c.loop-count.host;
      asks = now ∙ ap (λ (l : List Asked). l ++ append_asked name piece (Err c.in_err-append.field-0.0) ∷ []) was.1
          ∙ append_assoc (asked c.args.host.now) (added_of name was.0) (append_asked name piece (Err c.in_err-append.field-0.0) ∷ []);
      answered = was.2;
      ended = inr (refl, left);
      first = known_by (g.D.Disk.bytes c.args.disk.now) part (λ all. (rest : List ℕ) × (all ≡ (joined was.0 ++ piece) ++ rest))
          (begun_first (g.D.Disk.bytes c.args.disk.now) part was.0 piece
          (λ image told. (bytes_ahead image c.read.new.self, was.3 image told ∙ ap (λ (l : List ℕ). joined was.0 ++ l) (c.in_ok-count.ensures.bytes image (inv.reads.bytes ∙ told)))));
      own = own_failed (asked c.loop-count.host) (asked c.append.new.self) name name piece now inv.own;
    })

pub returns-in_err-append-clause-reads : goal.returns-in_err-append-clause-reads
returns-in_err-append-clause-reads g c = reads_then (laws g.met.D.Disk) c.loop-count.invariant.reads c.read.ensures.reads
