use Rattle.std.proofs.Common.{◌∙◌, ◌++◌, List, ℕ, take, length, ap, sym, append_assoc, length-append, ◌≡◌, arith}
use Rattle.std.proofs.lemmas.List.{length-take-le}
use Rattle.fc_device.proofs.DiskLaws.{laws}
use Rattle.fc_device.proofs.StopLemmas.{reads_then}
use Rattle.fc_objects.specs.Bytes.{bytes_ahead}
use Rattle.fc_tree.proofs.reading.append_bytes.Goals as goal

pub loop-count-preserved : goal.loop-count-preserved
loop-count-preserved g c =
    let inv = c.loop-count.invariant in
    let grown : c.extend_from_slice.new.self.items ≡ c.loop-count.into.items ++ take c.in_ok-count.count c.read.new.into = rw c.if-is_err.ensures.negation at c.extend_from_slice.ensures.items in
    record {
      reads = reads_then (laws g.met.D.Disk) inv.reads c.read.ensures.reads;
      few = omega (arith, c.in_ok-count.ensures.calls, inv.few);
      size = c.read.ensures.size_stays ∙ inv.size;
      on_disk = c.read.ensures.on_disk;
      bytes = λ image told.
          inv.bytes image told ∙ ap (λ (xs : List ℕ). c.loop-count.into.items ++ xs) (c.in_ok-count.ensures.bytes image (inv.reads.bytes ∙ told))
          ∙ sym (append_assoc c.loop-count.into.items (take c.in_ok-count.count c.read.new.into) (bytes_ahead image c.read.new.self))
          ∙ ap (λ (xs : List ℕ). xs ++ bytes_ahead image c.read.new.self) (sym grown);
      long = omega (arith, inv.long, c.in_ok-count.ensures.length, ap length grown, length-append c.loop-count.into.items (take c.in_ok-count.count c.read.new.into), length-take-le c.in_ok-count.count c.read.new.into c.in_ok-count.ensures.bound);
    }
