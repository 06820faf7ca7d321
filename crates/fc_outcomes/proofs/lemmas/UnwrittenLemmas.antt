-- Objects whose sectors aren't written.
use Rattle.std.proofs.Common.{◌≡◌, ℕ, Bool, true, cond, List, refl, sym, subst, ◌∙◌}
use Rattle.std.specs.Prelude.{Contains}
use Rattle.fc_names.specs.declared.name.NameForm.{NameForm}
use Rattle.fc_dirs.specs.Directory.{directory_size}
use Rattle.fc_image.specs.Layout.{Layout, bytes_in, dir_form, is_among, map_place, sector_bytes}
use Rattle.fc_image.specs.Walk.{Object, is_directory_object, object_bytes}
use Rattle.fc_image.specs.Objects.{objects_of}
use Rattle.fc_image.specs.Opening.{reserved_in}
use Rattle.fc_image.specs.Edits.{Apart}
use Rattle.fc_image.specs.Stays.{HasSectorsOf}
use Rattle.fc_image.proofs.FreeLemmas.{object_same}
use Rattle.fc_image.proofs.HolesLemmas.{apart_at}
use Rattle.fc_changes.proofs.BasicLemmas.{clash}
use Rattle.fc_laws.proofs.lemmas.agree.WalkedLemmas as on_any
use Rattle.fc_edits.specs.PartsEdit.{PartsEdit}
use Rattle.fc_edits.proofs.lemmas.LeavingLemmas.{one_of_sector}
use Rattle.fc_outcomes.specs.Puts.{ArePutOut, Put}
use Rattle.fc_outcomes.proofs.lemmas.KeptLemmas.{map_reserved}
use Rattle.std.proofs.lemmas.Bool.{false_from_ne_true as unless}

-- two objects with one sector
pub one_of_both : (pe : PartsEdit) (q o : Object) (s : ℕ) → Contains (objects_of pe.listings) q → Contains (objects_of pe.listings) o → is_among q.sectors s ≡ true → is_among o.sectors s ≡ true → q ≡ o
one_of_both pe q o s among at j i =
    let was = on_any.had pe.kind pe.layout pe.nodes pe.root pe.listings pe.walked in
    one_of_sector (reserved_in pe.kind pe.layout) (objects_of pe.listings) q o s (subst (Apart (reserved_in pe.kind pe.layout)) (sym was.objects) was.apart) among at j i

-- An object keeps its bytes, if no write goes to its sectors.
pub never_written : (pe : PartsEdit) (puts : List Put) (image image' : List ℕ) → ArePutOut pe.layout puts image image' → (o : Object) → Contains (objects_of pe.listings) o
    → ((p : Put) (s : ℕ) → Contains puts p → is_among o.sectors s ≡ true → is_among p.sectors s ≡ true → ⊥) → HasSectorsOf (sector_bytes pe.layout) o.sectors image image'
never_written pe puts image image' out o at never s i =
    out.others s
    (unless (is_among (map_place pe.layout) s)
    (λ m. clash (is_among (reserved_in pe.kind pe.layout) s) (map_reserved pe.kind pe.layout s m)
    (apart_at o.sectors (reserved_in pe.kind pe.layout) s (on_any.object_lies pe.kind pe.layout pe.nodes pe.root pe.listings pe.walked o at).apart i)))
    (λ p there. unless (is_among p.sectors s) (λ j. never p s there i j))

-- So it does if each goes to another object's.
pub unwritten : (pe : PartsEdit) (puts : List Put) (image image' : List ℕ) → ArePutOut pe.layout puts image image' → (o : Object) → Contains (objects_of pe.listings) o
    → ((p : Put) → Contains puts p → (q : Object) × Contains (objects_of pe.listings) q × (p.sectors ≡ q.sectors) × (q ≡ o → ⊥)) → HasSectorsOf (sector_bytes pe.layout) o.sectors image image'
unwritten pe puts image image' out o at others =
    never_written pe puts image image' out o at
    (λ p s there i j. let q = others p there in q.3 (one_of_both pe q.0 o s q.1 at (subst (λ (ss : List ℕ). is_among ss s ≡ true) q.2 j) i))

-- So it has the bytes that it had, with whatever words.
pub turned_bytes : (layout layout' : Layout) (image image' : List ℕ) (o x : Object) → sector_bytes layout' ≡ sector_bytes layout → dir_form layout' ≡ dir_form layout
    → HasSectorsOf (sector_bytes layout) o.sectors image image' → x.sectors ≡ o.sectors → x.entry.len ≡ o.entry.len → is_directory_object x ≡ is_directory_object o
    → object_bytes image' layout' x ≡ object_bytes image layout o
turned_bytes layout layout' image image' o x size form same sectors len kind =
    (λ i. bytes_in (size i) image' (sectors i) (let k : ℕ = len i in let f : NameForm = form i in let b : Bool = kind i in cond b (directory_size f k) k))
    ∙ object_same (sector_bytes layout) image image' layout o refl same
