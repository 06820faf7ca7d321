-- The first condition that a record fails, and what a record meets that fails none.
use Rattle.std.proofs.Common.{◌≡◌, ℕ, Bool, true, false, cond, List, [], ◌∷◌, refl, Option, Some, None}
use Rattle.std.specs.Prelude.{not}
use Rattle.std.specs.List.{find}
use Rattle.std.specs.Option.{option_map}
use Rattle.fc_record.specs.declared.DiscRecord.{DiscRecord}
use Rattle.fc_record.specs.declared.RecordFault.{RecordFault}
use Rattle.fc_record.specs.Record.{is_sector_right, is_idlen_right, is_bit_right, are_zones_right, is_spare_right, is_size_right, is_root_right, is_root_size_right, conditions, record_fault}

-- the first of these conditions that fails
abbrev fault_in : List (ℕ × ℕ × Bool) → Option RecordFault
fault_in cs = option_map (λ c. record { field = c.0; value = c.1 }) (find (λ c. not c.2) cs)

abbrev fault_at : ℕ → ℕ → Option RecordFault
fault_at field value = Some (record { field = field; value = value })

-- one condition at the front
fails : (field value : ℕ) (right : Bool) (rest : List (ℕ × ℕ × Bool)) → false ≡ right → fault_at field value ≡ fault_in ((field, value, right) ∷ rest)
fails field value false rest e = refl
fails field value true rest e = absurd (cc)

passes : (field value : ℕ) (right : Bool) (rest : List (ℕ × ℕ × Bool)) (answer : Option RecordFault) → true ≡ right → answer ≡ fault_in rest
    → answer ≡ fault_in ((field, value, right) ∷ rest)
passes field value true rest answer e rest_is = rest_is
passes field value false rest answer e rest_is = absurd (cc)

-- the conditions from each one on
abbrev from_none : DiscRecord → List (ℕ × ℕ × Bool)
from_none r = []

abbrev from_root_size : DiscRecord → List (ℕ × ℕ × Bool)
from_root_size r = (48, r.root_size, is_root_size_right r) ∷ from_none r

abbrev from_root : DiscRecord → List (ℕ × ℕ × Bool)
from_root r = (12, r.root, is_root_right r) ∷ from_root_size r

abbrev from_size : DiscRecord → List (ℕ × ℕ × Bool)
from_size r = (16, r.size, is_size_right r) ∷ from_root r

abbrev from_spare : DiscRecord → List (ℕ × ℕ × Bool)
from_spare r = (10, r.spare, is_spare_right r) ∷ from_size r

abbrev from_zones : DiscRecord → List (ℕ × ℕ × Bool)
from_zones r = (9, r.zones, are_zones_right r) ∷ from_spare r

abbrev from_bit : DiscRecord → List (ℕ × ℕ × Bool)
from_bit r = (5, r.log2_bit, is_bit_right r) ∷ from_zones r

abbrev from_idlen : DiscRecord → List (ℕ × ℕ × Bool)
from_idlen r = (4, r.idlen, is_idlen_right r) ∷ from_bit r

pub sector_fails : (r : DiscRecord) → false ≡ is_sector_right r → fault_at 0 r.log2_sector ≡ record_fault r
unfolding record_fault
sector_fails r a = fails 0 r.log2_sector (is_sector_right r) (from_idlen r) a

pub idlen_fails : (r : DiscRecord) → true ≡ is_sector_right r → false ≡ is_idlen_right r → fault_at 4 r.idlen ≡ record_fault r
unfolding record_fault
idlen_fails r a b = passes 0 r.log2_sector (is_sector_right r) (from_idlen r) (fault_at 4 r.idlen) a (fails 4 r.idlen (is_idlen_right r) (from_bit r) b)

pub bit_fails : (r : DiscRecord) → true ≡ is_sector_right r → true ≡ is_idlen_right r → false ≡ is_bit_right r → fault_at 5 r.log2_bit ≡ record_fault r
unfolding record_fault
bit_fails r a b c = passes 0 r.log2_sector (is_sector_right r) (from_idlen r) (fault_at 5 r.log2_bit) a (passes 4 r.idlen (is_idlen_right r) (from_bit r) (fault_at 5 r.log2_bit) b (fails 5 r.log2_bit (is_bit_right r) (from_zones r) c))

pub zones_fails : (r : DiscRecord) → true ≡ is_sector_right r → true ≡ is_idlen_right r → true ≡ is_bit_right r → false ≡ are_zones_right r → fault_at 9 r.zones ≡ record_fault r
unfolding record_fault
zones_fails r a b c d = passes 0 r.log2_sector (is_sector_right r) (from_idlen r) (fault_at 9 r.zones) a (passes 4 r.idlen (is_idlen_right r) (from_bit r) (fault_at 9 r.zones) b (passes 5 r.log2_bit (is_bit_right r) (from_zones r) (fault_at 9 r.zones) c (fails 9 r.zones (are_zones_right r) (from_spare r) d)))

pub spare_fails : (r : DiscRecord) → true ≡ is_sector_right r → true ≡ is_idlen_right r → true ≡ is_bit_right r → true ≡ are_zones_right r → false ≡ is_spare_right r → fault_at 10 r.spare ≡ record_fault r
unfolding record_fault
spare_fails r a b c d e = passes 0 r.log2_sector (is_sector_right r) (from_idlen r) (fault_at 10 r.spare) a (passes 4 r.idlen (is_idlen_right r) (from_bit r) (fault_at 10 r.spare) b (passes 5 r.log2_bit (is_bit_right r) (from_zones r) (fault_at 10 r.spare) c (passes 9 r.zones (are_zones_right r) (from_spare r) (fault_at 10 r.spare) d (fails 10 r.spare (is_spare_right r) (from_size r) e))))

pub size_fails : (r : DiscRecord) → true ≡ is_sector_right r → true ≡ is_idlen_right r → true ≡ is_bit_right r → true ≡ are_zones_right r → true ≡ is_spare_right r → false ≡ is_size_right r → fault_at 16 r.size ≡ record_fault r
unfolding record_fault
size_fails r a b c d e f = passes 0 r.log2_sector (is_sector_right r) (from_idlen r) (fault_at 16 r.size) a (passes 4 r.idlen (is_idlen_right r) (from_bit r) (fault_at 16 r.size) b (passes 5 r.log2_bit (is_bit_right r) (from_zones r) (fault_at 16 r.size) c (passes 9 r.zones (are_zones_right r) (from_spare r) (fault_at 16 r.size) d (passes 10 r.spare (is_spare_right r) (from_size r) (fault_at 16 r.size) e (fails 16 r.size (is_size_right r) (from_root r) f)))))

pub root_fails : (r : DiscRecord) → true ≡ is_sector_right r → true ≡ is_idlen_right r → true ≡ is_bit_right r → true ≡ are_zones_right r → true ≡ is_spare_right r → true ≡ is_size_right r → false ≡ is_root_right r → fault_at 12 r.root ≡ record_fault r
unfolding record_fault
root_fails r a b c d e f g = passes 0 r.log2_sector (is_sector_right r) (from_idlen r) (fault_at 12 r.root) a (passes 4 r.idlen (is_idlen_right r) (from_bit r) (fault_at 12 r.root) b (passes 5 r.log2_bit (is_bit_right r) (from_zones r) (fault_at 12 r.root) c (passes 9 r.zones (are_zones_right r) (from_spare r) (fault_at 12 r.root) d (passes 10 r.spare (is_spare_right r) (from_size r) (fault_at 12 r.root) e (passes 16 r.size (is_size_right r) (from_root r) (fault_at 12 r.root) f (fails 12 r.root (is_root_right r) (from_root_size r) g))))))

pub root_size_fails : (r : DiscRecord) → true ≡ is_sector_right r → true ≡ is_idlen_right r → true ≡ is_bit_right r → true ≡ are_zones_right r → true ≡ is_spare_right r → true ≡ is_size_right r → true ≡ is_root_right r → false ≡ is_root_size_right r → fault_at 48 r.root_size ≡ record_fault r
unfolding record_fault
root_size_fails r a b c d e f g h = passes 0 r.log2_sector (is_sector_right r) (from_idlen r) (fault_at 48 r.root_size) a (passes 4 r.idlen (is_idlen_right r) (from_bit r) (fault_at 48 r.root_size) b (passes 5 r.log2_bit (is_bit_right r) (from_zones r) (fault_at 48 r.root_size) c (passes 9 r.zones (are_zones_right r) (from_spare r) (fault_at 48 r.root_size) d (passes 10 r.spare (is_spare_right r) (from_size r) (fault_at 48 r.root_size) e (passes 16 r.size (is_size_right r) (from_root r) (fault_at 48 r.root_size) f (passes 12 r.root (is_root_right r) (from_root_size r) (fault_at 48 r.root_size) g (fails 48 r.root_size (is_root_size_right r) (from_none r) h)))))))

pub none_fails : (r : DiscRecord) → true ≡ is_sector_right r → true ≡ is_idlen_right r → true ≡ is_bit_right r → true ≡ are_zones_right r → true ≡ is_spare_right r → true ≡ is_size_right r → true ≡ is_root_right r → true ≡ is_root_size_right r → None ≡ record_fault r
unfolding record_fault
none_fails r a b c d e f g h = passes 0 r.log2_sector (is_sector_right r) (from_idlen r) None a (passes 4 r.idlen (is_idlen_right r) (from_bit r) None b (passes 5 r.log2_bit (is_bit_right r) (from_zones r) None c (passes 9 r.zones (are_zones_right r) (from_spare r) None d (passes 10 r.spare (is_spare_right r) (from_size r) None e (passes 16 r.size (is_size_right r) (from_root r) None f (passes 12 r.root (is_root_right r) (from_root_size r) None g (passes 48 r.root_size (is_root_size_right r) (from_none r) None h refl)))))))

-- Each condition is met.
pub record MeetsEach (r : DiscRecord) : Type 0 where
  pub sector : is_sector_right r ≡ true
  pub idlen : is_idlen_right r ≡ true
  pub bit : is_bit_right r ≡ true
  pub zones : are_zones_right r ≡ true
  pub spare : is_spare_right r ≡ true
  pub size : is_size_right r ≡ true
  pub root : is_root_right r ≡ true
  pub root_size : is_root_size_right r ≡ true

no_fault : (o : Option (ℕ × ℕ × Bool)) → option_map (λ c. let f : RecordFault = record { field = c.0; value = c.1 } in f) o ≡ None → o ≡ None
no_fault None e = refl
no_fault (Some c) e = absurd (cc)

abbrev pub AllRight : List (ℕ × ℕ × Bool) → Type 0
AllRight [] = Unit {0}
AllRight (c ∷ cs) = (c.2 ≡ true) × AllRight cs

pub all_right : (cs : List (ℕ × ℕ × Bool)) → find (λ c. not c.2) cs ≡ None → AllRight cs
all_right [] e = tt
all_right (c ∷ cs) e = by c.2 e (all_right cs)
  where
    by : (b : Bool) → cond (not b) (Some c) (find (λ d. not d.2) cs) ≡ None → (find (λ d. not d.2) cs ≡ None → AllRight cs) → (b ≡ true) × AllRight cs
    by true h rest = (refl, rest h)
    by false h rest = absurd (cc)

pub valid_meets : (r : DiscRecord) → record_fault r ≡ None → MeetsEach r
unfolding record_fault
valid_meets r e =
    let all = all_right (conditions r) (no_fault (find (λ c. not c.2) (conditions r)) e) in
    record {
      sector = all.0;
      idlen = all.1.0;
      bit = all.1.1.0;
      zones = all.1.1.1.0;
      spare = all.1.1.1.1.0;
      size = all.1.1.1.1.1.0;
      root = all.1.1.1.1.1.1.0;
      root_size = all.1.1.1.1.1.1.1.0;
    }
