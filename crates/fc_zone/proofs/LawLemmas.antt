-- Edits that undo one another.
use Rattle.std.proofs.Common.{◌≡◌, ◌≤◌, ℕ, ◌+◌, ◌-◌, List, ◌∷◌, ◌++◌, refl, sym, ap, ◌∙◌, arith}
use Rattle.fc_bytes.specs.Bits.{bits}
use Rattle.fc_zone.specs.declared.ZoneShape.{ZoneShape}
use Rattle.fc_zone.specs.declared.Run.{Run}
use Rattle.fc_zone.specs.declared.RunKind.TheVariants.{Hole, Id}
use Rattle.fc_zone.specs.Zone.{Zone}
use Rattle.fc_zone.specs.Edits.{HasHoleAt, HasRunToSplit, KeepsOutside, Merges, Relabels, Splits}
use Rattle.fc_zone.specs.Laws.{IsAgain, LeavesRest}
use Rattle.fc_zone.proofs.HolderLemmas.{run_ext}
use Rattle.fc_zone.proofs.ReadingLemmas.{runs_of_zone}
use Rattle.fc_zone.proofs.SpellingLemmas.{one_sector_of}
use Rattle.fc_zone.proofs.WrittenLemmas.{edit_keeps, stays_written}

-- the same runs again
again : (shape : ZoneShape) (s t u : List ℕ) (before between : List Run) → 32 ≤ shape.first → Zone shape s before → Zone shape t between → Zone shape u before → LeavesRest shape s t → LeavesRest shape t u → IsAgain shape s u
again shape s t u before between header zs zt zu one two =
    let rs = runs_of_zone shape s before zs in
    let rt = runs_of_zone shape t between zt in
    let ru = runs_of_zone shape u before zu in
    let outside : KeepsOutside shape s u = λ k free beyond. two.outside k free beyond ∙ one.outside k free beyond in
    record {
      runs = ru ∙ sym rs;
      all_bits = λ written.
          (let ws = rw rs at written in
          let wt = stays_written shape s t before between (edit_keeps shape (bits s) (bits t) before between (rw (rs, rt) at one.links)) ws in
          let wu = stays_written shape t u between before (edit_keeps shape (bits t) (bits u) between before (rw (rt, ru) at two.links)) wt in
          one_sector_of shape s u before header zs zu ws wu (two.size ∙ one.size) outside);
    }

pub split_merged : (shape : ZoneShape) (s t u : List ℕ) (start len : ℕ) → 32 ≤ shape.first → HasRunToSplit shape s start len → Splits shape s t start len → LeavesRest shape s t → Merges shape t u start → LeavesRest shape t u → IsAgain shape s u
split_merged shape s t u start len header (run, (at, can, (front, (rest, zone)))) splits one merges two =
    let first : Run = record run { len = len } in
    let second : Run = record run { start = start + len; len = run.len - len } in
    let joined : Run = record run { len = len + (run.len - len) } in
    let room = can.rest_room in
    let whole : joined ≡ run = run_ext joined run refl (omega arith) refl in
    let runs : front ++ joined ∷ rest ≡ front ++ run ∷ rest = ap (λ (r : Run). front ++ r ∷ rest) whole in
    let zt = splits front rest run zone at in
    let zu = merges front rest first second zt at in
    again shape s t u (front ++ run ∷ rest) (front ++ first ∷ (second ∷ rest)) header zone zt (rw runs at zu) one two

pub label_released : (shape : ZoneShape) (s t u : List ℕ) (start id : ℕ) → 32 ≤ shape.first → HasHoleAt shape s start → Relabels shape s t start (Id id) → LeavesRest shape s t → Relabels shape t u start Hole → LeavesRest shape t u → IsAgain shape s u
label_released shape s t u start id header (run, (at, kind, (front, (rest, zone)))) labels one releases two =
    let labelled : Run = record run { kind = Id id } in
    let released : Run = record run { kind = Hole } in
    let whole : released ≡ run = run_ext released run refl refl (sym kind) in
    let runs : front ++ released ∷ rest ≡ front ++ run ∷ rest = ap (λ (r : Run). front ++ r ∷ rest) whole in
    let zt = labels front rest run zone at in
    let zu = releases front rest labelled zt at in
    again shape s t u (front ++ run ∷ rest) (front ++ labelled ∷ rest) header zone zt (rw runs at zu) one two
