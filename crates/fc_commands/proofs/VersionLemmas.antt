-- The version in the record of a new map stays, whatever a change writes there.
use Rattle.std.proofs.Common.{◌≡◌, ◌≤◌, ◌++◌, ℕ, List, length, take, drop, refl, sym, ap, subst, ◌∙◌, arith, length-append, length-drop, append_assoc, Option, Some, None}
use Rattle.std.proofs.lemmas.List.{drop-drop, drop-take, drop_at, length-take-le, take_at}
use Rattle.byteorder.specs.Endian.{little_bytes, little_number}
use Rattle.byteorder.specs.Numbers.{length-bytes_low_first, little_from-take}
use Rattle.fc_record.specs.declared.DiscRecord.{DiscRecord}
use Rattle.fc_record.specs.declared.Geometry.{Geometry}
use Rattle.fc_record.specs.Kinds.{map_record}
use Rattle.fc_newmap.specs.Map.{Map, sector_of, with_root}
use Rattle.fc_newmap.specs.NewMap.{IsNewMap}
use Rattle.fc_image.specs.Layout.{Layout}
use Rattle.fc_writing.specs.declared.ready.MapStep.{MapStep}
use Rattle.fc_writing.specs.declared.ready.MapStep.TheVariants as steps
use Rattle.fc_writing.specs.declared.ready.Ready.{Ready}
use Rattle.fc_writing.specs.declared.ready.RootPlace.{RootPlace}
use Rattle.fc_writing.specs.Steps.{HasStepped, rooted_map}
use Rattle.fc_writing.proofs.NewLemmas.{step_geometry}
use Rattle.fc_holdings.specs.Holdings.{TellsVersion}
use Rattle.fc_commands.specs.Run.{IsMapIn}
use Rattle.fc_commands.specs.Written.{IsGivenOn}
use Rattle.fc_commands.proofs.GrownMapLemmas.{fits, there}

-- ---- a sector with another root

-- The version stands between the root's address and its length.
in_between : (s : List ℕ) → (map_record s).version ≡ little_number 4 (drop 28 (take 32 (drop 20 s)))
in_between s =
    ap (little_number 4) (drop-take 44 16 (drop 4 s)) ∙ little_from-take 0 4 16 (drop 44 (drop 4 s)) (omega arith) ∙ ap (little_number 4) (drop-drop 44 4 s)
    ∙ sym (ap (little_number 4) (drop-take 28 4 (drop 20 s)) ∙ little_from-take 0 4 4 (drop 28 (drop 20 s)) (omega arith) ∙ ap (little_number 4) (drop-drop 28 20 s))

module _ (s : List ℕ) (root size : ℕ) (long : 56 ≤ length s) where
  abbrev between : List ℕ
  between = take 32 (drop 20 s)

  abbrev rest : List ℕ
  rest = little_bytes 4 size ++ drop 56 s

  front_long : length (take 16 s ++ little_bytes 4 root) ≡ 20
  front_long = omega (arith, length-append (take 16 s) (little_bytes 4 root), length-take-le 16 s (omega (arith, long)), length-bytes_low_first 0 4 root)

  cut : with_root s root size ≡ (take 16 s ++ little_bytes 4 root) ++ (take 32 (drop 20 s) ++ (little_bytes 4 size ++ drop 56 s))
  cut =
      append_assoc ((take 16 s ++ little_bytes 4 root) ++ take 32 (drop 20 s)) (little_bytes 4 size) (drop 56 s)
      ∙ append_assoc (take 16 s ++ little_bytes 4 root) (take 32 (drop 20 s)) (little_bytes 4 size ++ drop 56 s)

  stays_between : take 32 (drop 20 (with_root s root size)) ≡ take 32 (drop 20 s)
  stays_between =
      ap (λ (xs : List ℕ). take 32 (drop 20 xs)) cut ∙ ap (take 32) (drop_at (take 16 s ++ little_bytes 4 root) (between ++ rest) 20 front_long)
      ∙ take_at between rest 32 (length-take-le 32 (drop 20 s) (omega (arith, long, length-drop 20 s)))

  same_version : (map_record (with_root s root size)).version ≡ (map_record s).version
  same_version = in_between (with_root s root size) ∙ ap (λ (xs : List ℕ). little_number 4 (drop 28 xs)) stays_between ∙ sym (in_between s)

-- ---- a step

root_version : (m : Map) → IsNewMap m → (root : Option RootPlace) → (map_record (sector_of (rooted_map root m) 0)).version ≡ (map_record (sector_of m 0)).version
root_version m is None = refl
root_version m is (Some p) = ap (λ (s : List ℕ). (map_record s).version) (there m is p) ∙ same_version (sector_of m 0) p.address p.len (fits m is p)

step_version : (m n : Map) (step : MapStep) → IsNewMap m → HasStepped m n step → IsNewMap n × ((map_record (sector_of n 0)).version ≡ (map_record (sector_of m 0)).version)
step_version m n (steps.New s) is done = (done.edited.is_map, ap (λ (r : DiscRecord). r.version) done.edited.record_stays ∙ root_version m is s.root)
step_version m n (steps.Old space) is done = absurd done
step_version m n steps.Nothing is done = (subst IsNewMap (sym done) is, ap (λ (x : Map). (map_record (sector_of x 0)).version) done)

-- The map after a change tells it, if that before does.
pub tells_version : (layout layout' : Layout) (r : Ready) → IsMapIn layout → IsGivenOn layout r layout' → TellsVersion layout → TellsVersion layout'
tells_version (Layout.New m) (Layout.New m') r is given tells =
    let first = step_version m given.0 r.take is given.1 in
    let second = step_version given.0 m' r.give first.0 given.2 in
    second.1 ∙ first.1 ∙ tells ∙ sym (ap (λ (g : Geometry). g.version) (step_geometry given.0 m' r.give given.2 ∙ step_geometry m given.0 r.take given.1))
tells_version (Layout.New m) (Layout.Old now) r is given tells = absurd given
tells_version (Layout.Old space) (Layout.New m') r is given tells = absurd given
tells_version (Layout.Old space) (Layout.Old now) r is given tells = tt
