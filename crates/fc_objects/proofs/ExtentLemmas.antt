-- The sectors of some extents, by their numbers.
use Rattle.std.proofs.Common.{◌≡◌, ◌≤◌, ◌<◌, inl, inr, ℕ, ◌+◌, ◌-◌, List, [], ◌∷◌, length, drop, get_or, length-append, refl, sym, ◌∙◌, subst, arith}
use Rattle.std.proofs.Math.ListN.{get_or-append, drop_of_length-le}
use Rattle.std.proofs.Math.Seq.{get_or-append_right}
use Rattle.std.proofs.lemmas.Bool.{cases_lt}
use Rattle.std.proofs.lemmas.List.{drop_more}
use Rattle.std.proofs.lemmas.List.FromFn.{length-range_with_len, get_or-range_with_len}
use Rattle.fc_device.specs.declared.disk.Extent.{Extent}
use Rattle.fc_objects.specs.Extents.{extent_sectors, object_sector, sectors_in}

-- the first sectors are those of the first extent
pub object_sector-here : (e : Extent) (es : List Extent) (n : ℕ) → n < e.sectors → object_sector (e ∷ es) n ≡ e.first + n
object_sector-here e es n within =
    get_or-append (extent_sectors e) (sectors_in es) 0 n (omega (arith, length-range_with_len e.first e.sectors))
    ∙ get_or-range_with_len e.first e.sectors n 0 within

-- the others are those of the other extents
pub object_sector-past : (e : Extent) (es : List Extent) (n : ℕ) → e.sectors ≤ n → object_sector (e ∷ es) n ≡ object_sector es (n - e.sectors)
object_sector-past e es n past =
    let size = length-range_with_len e.first e.sectors in
    let moved : object_sector (e ∷ es) n ≡ object_sector es (n - length (extent_sectors e)) = get_or-append_right (extent_sectors e) (sectors_in es) n 0 (omega (arith, size)) in
    rw size at moved

pub length-past : (e : Extent) (es : List Extent) → length (sectors_in (e ∷ es)) ≡ e.sectors + length (sectors_in es)
length-past e es = omega (arith, length-append (extent_sectors e) (sectors_in es), length-range_with_len e.first e.sectors)

-- ---- the walk over the extents

abbrev pub blank : Extent
blank = record { first = 0; sectors = 0 }

-- what is left of the number at an extent leads to the sector, among those from that extent on
pub record LeadsTo (extents : List Extent) (sector i left : ℕ) : Type 0 where
  pub within : left < length (sectors_in (drop i extents))
  pub same : object_sector (drop i extents) left ≡ object_sector extents sector

pub leads_first : (es : List Extent) (sector : ℕ) → sector < length (sectors_in es) → LeadsTo es sector 0 sector
leads_first es sector within = record { within = within; same = refl }

-- an extent is left
pub leads_there : (es : List Extent) (sector i left : ℕ) → LeadsTo es sector i left → i < length es
leads_there es sector i left leads = elim (cases_lt i (length es)) [
  | inl lt ↦ lt
  | inr past ↦
      let none : drop i es ≡ [] = drop_of_length-le es past in
      let empty : left < 0 = subst (λ (l : List Extent). left < length (sectors_in l)) none leads.within in
      absurd (omega (arith, empty))
]

-- it is past this extent
pub leads_past : (es : List Extent) (sector i left : ℕ) → LeadsTo es sector i left → (get_or es i blank).sectors ≤ left → LeadsTo es sector (i + 1) (left - (get_or es i blank).sectors)
leads_past es sector i left leads past =
    let e = get_or es i blank in
    let others = drop (i + 1) es in
    let split : drop i es ≡ e ∷ others = drop_more es i blank (leads_there es sector i left leads) in
    let within : left < length (sectors_in (e ∷ others)) = subst (λ (l : List Extent). left < length (sectors_in l)) split leads.within in
    let same : object_sector (e ∷ others) left ≡ object_sector es sector = subst (λ (l : List Extent). object_sector l left ≡ object_sector es sector) split leads.same in
    record {
      within = omega (arith, within, past, length-past e others);
      same = sym (object_sector-past e others left past) ∙ same;
    }

-- it lies in this extent
pub leads_here : (es : List Extent) (sector i left : ℕ) → LeadsTo es sector i left → left < (get_or es i blank).sectors → (get_or es i blank).first + left ≡ object_sector es sector
leads_here es sector i left leads here =
    let e = get_or es i blank in
    let others = drop (i + 1) es in
    let split : drop i es ≡ e ∷ others = drop_more es i blank (leads_there es sector i left leads) in
    let same : object_sector (e ∷ others) left ≡ object_sector es sector = subst (λ (l : List Extent). object_sector l left ≡ object_sector es sector) split leads.same in
    sym (object_sector-here e others left here) ∙ same
