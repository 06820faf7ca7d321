-- What calls that move objects keep, one after another, from a start on.
use Rattle.std.proofs.Common.{◌≡◌, ◌<◌, ◌≤◌, ℕ, ◌+◌, ◌*◌, ◌/◌, List, refl, sym, ap, subst, ◌∙◌, arith, IsFalse}
use Rattle.std.specs.Prelude.{Result, Ok, Err, OnOk, OnErr, IsErr}
use Rattle.fc_record.specs.declared.Geometry.{Geometry}
use Rattle.std.specs.Option.{ForSome}
use Rattle.fc_device.specs.declared.disk.Disk.{Ghosts}
use Rattle.fc_device.specs.Calls.{FailsByFault, SameForm, StopsAndExitsLeave}
use Rattle.fc_device.specs.Faults.{Rose}
use Rattle.fc_device.proofs.DiskLaws.{Laws as DiskLaws, form_same, form_then}
use Rattle.fc_device.proofs.StopLemmas.{keeps_start, keeps_then, keeps_weaker}
use Rattle.fc_newmap.specs.Map.{Map}
use Rattle.fc_newmap.specs.NewMap.{IsNewMap}
use Rattle.fc_alloc.specs.declared.owner.Owner.{Owner}
use Rattle.fc_compact.specs.Laws.{Laws}
use Rattle.fc_compact.specs.Ready.{HoldsDisc, IsReady, Stands}
use Rattle.fc_compact.specs.Steps.{Leads, MoveKeeps, Packs, Preserves}
use Rattle.fc_compact.proofs.PacksLemmas.{packs_none, packs_then}
use Rattle.fc_compact.proofs.PreservesLemmas.{preserves_from, preserves_same, preserves_then}

-- what two clauses say of an Ok, together
pub on_ok_both : {T E : Type 0} (r : Result T E) {P Q R : Type 0} → (P → Q → R) → OnOk r P → OnOk r Q → OnOk r R
on_ok_both (Ok x) f p q = f p q
on_ok_both (Err e) f p q = tt

on_err_weaker : {T E : Type 0} (r : Result T E) {P Q : Type 0} → (P → Q) → OnErr r P → OnErr r Q
on_err_weaker (Ok x) f p = tt
on_err_weaker (Err e) f p = f p

no_ok : {T E : Type 0} (r : Result T E) (P : Type 0) → IsErr r → OnOk r P
no_ok (Ok x) P none = absurd (cc)
no_ok (Err e) P is_err = tt

any_err : {T E : Type 0} (r : Result T E) {P : Type 0} → P → OnErr r P
any_err (Ok x) p = tt
any_err (Err e) p = p

rose_more : (a b c : ℕ) → a ≤ b → Rose b c → Rose a c
rose_more a b c le rose = omega (arith, le, rose)

pub cause_then : {D T E : Type 0} (d : Ghosts D) (old mid new : D) (r : Result T E) → d.faults old ≤ d.faults mid → FailsByFault d mid new r → FailsByFault d old new r
cause_then d old mid new r le cause = record {
  later = (let l = cause.later in omega (arith, le, l));
  failed = on_err_weaker r (rose_more (d.faults old) (d.faults mid) (d.faults new) le) cause.failed;
}

-- a zone of the map before is one of the map now
pub still_zone : (m m' : Map) → m'.geometry ≡ m.geometry → (z : ℕ) → z < m.geometry.zones → z < m'.geometry.zones
still_zone m m' geometry z low = subst (λ (g : Geometry). z < g.zones) (sym geometry) low

-- what the next call asks
pub disc_then : {D : Type 0} (d : Ghosts D) (old new : D) (m m' : Map) → SameForm d old new → m'.geometry ≡ m.geometry → HoldsDisc d old m → HoldsDisc d new m'
disc_then d old new m m' form geometry was =
    let s = form.sectors_stay in
    let room = was.room in
    record {
      attached = form.attached_stays ∙ was.attached;
      size = form.size_stays ∙ was.size ∙ ap (λ (g : Geometry). g.sector) (sym geometry);
      room = subst (λ (g : Geometry). g.disc_bits * g.bit_bytes / g.sector ≤ d.sectors new) (sym geometry) (omega (arith, room, s));
    }

module _ {D : Type 0} {d : Ghosts D} (owners : List Owner) (old new : D) (m m' : Map) (was : Stands d old m owners) where
  pub stands_then : SameForm d old new → m'.geometry ≡ m.geometry → IsFalse (d.pending new) → ForSome (d.bytes new) (IsReady m' owners) → Stands d new m' owners
  stands_then form geometry quiet ready =
      let s = form.sectors_stay in
      let copies = was.copies in
      record {
        disc = disc_then d old new m m' form geometry was.disc;
        copies = subst (λ (g : Geometry). g.map_sector + 2 * g.zones ≤ d.sectors new) (sym geometry) (omega (arith, copies, s));
        settled = quiet;
        ready = ready;
      }

  -- what a call keeps, of which the parts are known
  pub kept : {T E : Type 0} (r : Result T E) → StopsAndExitsLeave d old new (Preserves m owners) → OnOk r (ForSome (d.bytes new) (IsReady m' owners)) → OnOk r (IsFalse (d.pending new))
      → m'.geometry ≡ m.geometry → SameForm d old new → FailsByFault d old new r → MoveKeeps d old new m m' owners r
  kept r leaves ready quiet geometry form cause = record {
    leaves = leaves;
    stands = on_ok_both r (λ ok still. stands_then form geometry still ok) ready quiet;
    geometry = geometry;
    form = form;
    cause = cause;
  }

-- what is kept doesn't depend on what else is answered
module _ {D : Type 0} {d : Ghosts D} (owners : List Owner) (old new : D) (m m' : Map) where
  pub kept_ok : {T U E F : Type 0} (x : T) (y : U) → MoveKeeps {E = E} d old new m m' owners (Ok x) → MoveKeeps {E = F} d old new m m' owners (Ok y)
  kept_ok x y kept = record { leaves = kept.leaves; stands = kept.stands; geometry = kept.geometry; form = kept.form; cause = record { later = kept.cause.later; failed = tt } }

  pub kept_err : {T U E F : Type 0} (e : E) (r : Result U F) → IsErr r → MoveKeeps {T = T} d old new m m' owners (Err e) → MoveKeeps d old new m m' owners r
  kept_err e r is_err kept = record {
    leaves = kept.leaves;
    stands = no_ok r _ is_err;
    geometry = kept.geometry;
    form = kept.form;
    cause = record { later = kept.cause.later; failed = any_err r kept.cause.failed };
  }

-- From a start on, what must be kept is, and the map stands for the disk now.
abbrev pub KeptSo : {D : Type 0} → Ghosts D → List Owner → D → Map → D → Map → Type 0
KeptSo d owners start m0 now m = MoveKeeps {T = ℕ} {E = ℕ} d start now m0 m owners (Ok 0)

-- And what may move is packed.
pub record Gone {D : Type 0} (d : Ghosts D) (owners : List Owner) (start : D) (m0 : Map) (now : D) (m : Map) : Type 0 where
  pub keeps : KeptSo d owners start m0 now m
  pub packs : Packs owners m0 m

module _ {D : Type 0} {d : Ghosts D} (disk : DiskLaws d) (law : Laws) (owners : List Owner) (start : D) (m0 : Map) where
  pub kept_start : {T E : Type 0} (x : T) → Stands d start m0 owners → MoveKeeps {E = E} d start start m0 m0 owners (Ok x)
  kept_start x stands = record {
    leaves = keeps_start disk (preserves_same law m0 owners) start stands.settled;
    stands = stands;
    geometry = refl;
    form = form_same d start;
    cause = record { later = omega arith; failed = tt };
  }

  pub kept_then : (mid : D) (m : Map) → KeptSo d owners start m0 mid m → Leads owners m0 m → (new : D) (m' : Map) {T E : Type 0} (r : Result T E) → MoveKeeps d mid new m m' owners r
      → MoveKeeps d start new m0 m' owners r
  kept_then mid m was leads new m' r now = record {
    leaves = keeps_then disk (preserves_then law m0 owners) was.leaves (keeps_weaker disk now.leaves (preserves_from m0 m owners leads));
    stands = now.stands;
    geometry = now.geometry ∙ was.geometry;
    form = form_then d was.form now.form;
    cause = cause_then d start mid new r was.cause.later now.cause;
  }

  pub gone_start : IsNewMap m0 → Stands d start m0 owners → Gone d owners start m0 start m0
  gone_start is stands = record { keeps = kept_start 0 stands; packs = packs_none owners m0 is }

  pub gone_ok : (now : D) (m : Map) → Gone d owners start m0 now m → {T E : Type 0} (x : T) → MoveKeeps {E = E} d start now m0 m owners (Ok x)
  gone_ok now m gone x = kept_ok owners start now m0 m 0 x gone.keeps

  module _ (mid : D) (m : Map) (was : Gone d owners start m0 mid m) (new : D) (m' : Map) where
    pub gone_keeps : {T E : Type 0} (r : Result T E) → MoveKeeps d mid new m m' owners r → MoveKeeps d start new m0 m' owners r
    gone_keeps r now = kept_then mid m was.keeps was.packs.leads new m' r now

    pub gone_then : {T E : Type 0} (x : T) → MoveKeeps {E = E} d mid new m m' owners (Ok x) → Packs owners m m' → Gone d owners start m0 new m'
    gone_then x now packs = record {
      keeps = kept_ok owners start new m0 m' x 0 (gone_keeps (Ok x) now);
      packs = packs_then owners m0 m m' was.packs packs;
    }

    -- at an exit with an error
    pub gone_err : {T U E F : Type 0} (e : E) (r : Result U F) → IsErr r → MoveKeeps {T = T} d mid new m m' owners (Err e) → MoveKeeps d start new m0 m' owners r
    gone_err e r is_err now = kept_err owners start new m0 m' e r is_err (gone_keeps (Err e) now)
