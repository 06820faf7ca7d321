-- What a directory says, told for the place that it had: the laws of edits speak of it there.
use Rattle.std.proofs.Common.{◌≡◌, ◌<◌, ◌^◌, ◌||◌, ℕ, Bool, List, [], ◌∷◌, length, map, refl, sym, ap, ap₂, ◌∙◌, arith, Option, Some}
use Rattle.std.specs.FinMap.{get}
use Rattle.std.specs.List.{list_any}
use Rattle.std.proofs.lemmas.List.{length-map}
use Rattle.fc_device.specs.declared.disk.Extent.{Extent}
use Rattle.fc_image.specs.Layout.{Layout}
use Rattle.fc_objects.specs.Extents.{sectors_in}
use Rattle.fc_writing.specs.declared.ready.Piece.{Piece}
use Rattle.fc_change.specs.declared.change.Says.{Says}
use Rattle.fc_change.specs.Prepared.{IsDrafted, IsPieceOf}
use Rattle.fc_commands.proofs.NodeLemmas.{each_at}
use Rattle.fc_safecommands.proofs.PlainLemmas.{PlainJob, d, d_in, d_some, few_sectors, i, lies_in, sound, y}

-- sectors, one by one
abbrev pub one_by_one : List ℕ → List Extent
one_by_one ss = map (λ (s : ℕ). let e : Extent = record { first = s; sectors = 1 } in e) ss

pub one_by_one_is : (ss : List ℕ) → sectors_in (one_by_one ss) ≡ ss
one_by_one_is [] = refl
one_by_one_is (s ∷ ss) = ap (λ (xs : List ℕ). s ∷ xs) (one_by_one_is ss)

pub few_there : (x : PlainJob) → length (one_by_one (d x).sectors) < 2 ^ 63
few_there x =
    let room = (lies_in x (d x) (d_in x) (d_some x)).room in
    let few = few_sectors x (i x) in
    let same = length-map (d x).sectors (λ (s : ℕ). let e : Extent = record { first = s; sectors = 1 } in e) in
    omega (arith, room, few, same)

-- the piece for the sectors that the directory had
abbrev pub piece_there : PlainJob → Piece → Piece
piece_there x p = record {
  place = record p.place { items = one_by_one (d x).sectors; len = length (one_by_one (d x).sectors); cap = length (one_by_one (d x).sectors); ok = (refl, omega arith); small = few_there x };
  bytes = p.bytes;
}

pub piece_before : (x : PlainJob) (said : Says) (p : Piece) → said.node ≡ x.t.holder → IsDrafted said.draft p → IsPieceOf (Layout.New x.m) x.nodes said (piece_there x p)
piece_before x said p node drafted =
    let has = x.agreed.walked.held.each (d x) (d_in x) in
    record {
      node = _;
      there = ap (get x.nodes) (node ∙ same_number x.t.holder has.number (sym x.target.holder_is ∙ has.at_path)) ∙ has.is;
      place = each_at (y x) x.listings (sound x) (d x) (d_in x) ∙ ap (λ (ss : List ℕ). let o : Option (List ℕ) = Some ss in o) (sym (one_by_one_is (d x).sectors));
      drafted = record { bytes = drafted.bytes; length_is = drafted.length_is; sayable = drafted.sayable };
    }
  where
    same_number : (a b : ℕ) → (let o : Option ℕ = Some a in o) ≡ Some b → a ≡ b
    same_number a b e = cc

pub any_alike : {X : Type 0} (t u : X → Bool) → ((x : X) → t x ≡ u x) → (xs : List X) → list_any t xs ≡ list_any u xs
any_alike t u same [] = refl
any_alike t u same (x ∷ xs) = ap₂ (λ (a b : Bool). a || b) (same x) (any_alike t u same xs)
