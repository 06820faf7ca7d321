-- What a writer leaves is what an edit needs.
use Rattle.std.proofs.Common.{◌≡◌, ◌≤◌, ◌⊎◌, ◌*◌, inl, inr, ⊎_elim, ℕ, true, false, length, List, [], ◌∷◌, sym, ap, subst, ◌∙◌}
use Rattle.std.specs.Prelude.{Contains, Err, None, Ok, get_or}
use Rattle.fc_names.specs.declared.name.NameForm.{NameForm}
use Rattle.fc_names.specs.declared.name.NameForm.TheVariants.{Long, Seven, Ten}
use Rattle.fc_newmap.proofs.PlaceLemmas.{in_back, in_either, in_front}
use Rattle.fc_dirs.specs.declared.SmallForm.{SmallForm}
use Rattle.fc_dirs.specs.declared.SmallForm.TheVariants.{Bytes1280, Bytes2048}
use Rattle.fc_dirs.specs.Small.{SmallDir, small_dir, small_fault}
use Rattle.fc_dirs.specs.Big.{BigDir, big_dir, big_fault}
use Rattle.fc_dirs.specs.Directory.{Directory, directory_of}
use Rattle.fc_image.specs.Layout.{Layout, bytes_in, dir_form, is_among, map_place, sector_bytes}
use Rattle.fc_image.specs.Walk.{Object, object_bytes, reader_of}
use Rattle.fc_image.specs.effects.Steady.{AreWritten}
use Rattle.fc_device.specs.Sectors.{sector_at}
use Rattle.fc_objects.specs.Bytes.{first_bytes}
use Rattle.fc_objects.specs.Written.{HasParts, part_at}
use Rattle.fc_objects.proofs.WriteLemmas.{reads_back}
use Rattle.fc_tree.specs.Agree.{HasForm}
use Rattle.fc_tree.proofs.MemberLemmas.{contains_here, no_element}
use Rattle.fc_changes.proofs.BasicLemmas.{clash}
use Rattle.fc_changes.proofs.ReadsLemmas.{told}
use Rattle.fc_laws.specs.agree.Agreed.{CanSay}
use Rattle.fc_edits.specs.PartsEdit.{PartsEdit}
use Rattle.fc_outcomes.specs.Written.{IsEditWritten, WritesForEdit}
use Rattle.fc_outcomes.specs.Puts.{AreContents, ArePutOut, ArePutsOf, IsDirectoryPut, Put, PutsLaw, put_sectors}
use Rattle.fc_outcomes.proofs.lemmas.KeptLemmas.{stays_same}
use Rattle.std.proofs.lemmas.Bool.{false_from_ne_true as unless}
use Rattle.fc_image.proofs.EntriesLemmas.{later as contains_later, cases as contains_cases}

-- ---- what bytes say

-- A directory's bytes, all of them, read back as the directory.
pub reads : (form : NameForm) (len : ℕ) (bytes : List ℕ) (content : Directory) → HasForm form len content → AreWritten bytes content → directory_of form bytes ≡ Ok content
reads Seven len bytes (Directory.Small dir) is written =
    told (small_fault Bytes1280 bytes) (Directory.Small (small_dir Bytes1280 bytes)) (Directory.Small dir)
    (subst (λ (f : SmallForm). small_fault f bytes ≡ None) is written.reads.right)
    (ap (λ (d : SmallDir). Directory.Small d) (subst (λ (f : SmallForm). small_dir f bytes ≡ dir) is written.reads.says))
reads Seven len bytes (Directory.Big dir) is written = absurd is
reads Ten len bytes (Directory.Small dir) is written =
    told (small_fault Bytes2048 bytes) (Directory.Small (small_dir Bytes2048 bytes)) (Directory.Small dir)
    (subst (λ (f : SmallForm). small_fault f bytes ≡ None) is written.reads.right)
    (ap (λ (d : SmallDir). Directory.Small d) (subst (λ (f : SmallForm). small_dir f bytes ≡ dir) is written.reads.says))
reads Ten len bytes (Directory.Big dir) is written = absurd is
reads Long len bytes (Directory.Small dir) is written = absurd is
reads Long len bytes (Directory.Big dir) is written = told (big_fault bytes) (Directory.Big (big_dir bytes)) (Directory.Big dir) written.reads.right (ap (λ (d : BigDir). Directory.Big d) written.reads.says)

-- ---- all sectors

put_among : (puts : List Put) (p : Put) (s : ℕ) → Contains puts p → is_among p.sectors s ≡ true → is_among (put_sectors puts) s ≡ true
put_among [] p s at i = absurd (no_element p at)
put_among (q ∷ puts) p s at i =
    ⊎_elim (λ same. in_front q.sectors (put_sectors puts) s (subst (λ (x : Put). is_among x.sectors s ≡ true) (sym same) i))
    (λ later. in_back q.sectors (put_sectors puts) s (put_among puts p s later i)) (contains_cases q p puts at)

among_put : (puts : List Put) (s : ℕ) → is_among (put_sectors puts) s ≡ true → (p : Put) × Contains puts p × (is_among p.sectors s ≡ true)
among_put [] s i = absurd (cc)
among_put (q ∷ puts) s i = elim (in_either q.sectors (put_sectors puts) s i) [
  | Ok first ↦ (q, contains_here q puts, first)
  | Err second ↦ (let r = among_put puts s second in (r.0, contains_later q r.0 puts r.1, r.2))
]

-- ---- the law

pub directory_bytes : (layout layout' : Layout) (puts : List Put) (image image' : List ℕ) (o : Object) (content : Directory) → sector_bytes layout' ≡ sector_bytes layout
    → ArePutOut layout puts image image' → IsDirectoryPut layout' o content puts → AreWritten (object_bytes image' layout' o) content
directory_bytes layout layout' puts image image' o content same out put =
    subst (λ (bytes : List ℕ). AreWritten bytes content)
    (sym ((λ i. bytes_in (same i) image' o.sectors (sym put.long i)) ∙ out.there (record { sectors = o.sectors; bytes = put.bytes }) put.among)) put.says

module _ (x : PartsEdit) (puts : List Put) (image image' : List ℕ) (out : ArePutOut x.layout puts image image') (of : ArePutsOf x.layout x.layout' x.nodes x.edit puts image image') where
  pub written_for : WritesForEdit image image' x.layout x.edit (put_sectors puts)
  written_for = record {
    writes = λ s none map. out.others s map (λ p at. unless (is_among p.sectors s) (λ i. clash (is_among (put_sectors puts) s) (put_among puts p s at i) none));
    whose = λ s i.
        (let p = among_put puts s i in
        ⊎_elim (λ a. inl (a.0, a.1, subst (λ (ss : List ℕ). is_among ss s ≡ true) a.2 p.2)) (λ q. inr (q.0, q.1, subst (λ (ss : List ℕ). is_among ss s ≡ true) q.2 p.2)) (of.whose p.0 p.1));
  }

  pub edit_written : sector_bytes x.layout' ≡ sector_bytes x.layout → IsEditWritten image image' x.layout x.layout' x.nodes x.listings x.edit
  edit_written same = record {
    sector = same;
    length_stays = out.length_stays;
    says = λ a at. said (x.edit.turn a.was.object) a.content (x.can.amended a at) (of.says a at);
    into_say = λ d at. said d.1.object d.1.content (x.can.into d at) (of.into_say d at);
    stays = λ o t other. stays_same x image image' (put_sectors puts) written_for o t other;
    carried = of.carried;
  }
    where
      said : (o : Object) (content : Directory) → CanSay x.layout o content → IsDirectoryPut x.layout' o content puts → reader_of image' x.layout' o ≡ Ok content
      said o content can put =
          reads (dir_form x.layout') o.entry.len (object_bytes image' x.layout' o) content (subst (λ (f : NameForm). HasForm f o.entry.len content) (sym x.fit.form) can.form)
          (directory_bytes x.layout x.layout' puts image image' o content same out put)

parts_out : (layout : Layout) (puts : List Put) (image image' : List ℕ) → length image' ≡ length image
    → ((p : Put) → Contains puts p → HasParts (sector_bytes layout) p.sectors p.bytes image' × (length p.bytes ≤ length p.sectors * sector_bytes layout))
    → ((s : ℕ) → is_among (map_place layout) s ≡ false → ((p : Put) → Contains puts p → is_among p.sectors s ≡ false) → sector_at (sector_bytes layout) image' s ≡ sector_at (sector_bytes layout) image s)
    → ArePutOut layout puts image image'
unfolding bytes_in first_bytes
parts_out layout puts image image' same parts others = record {
  length_stays = same;
  there = λ p at. (let q = parts p at in reads_back (sector_bytes layout) image' p.sectors p.bytes q.0 q.1);
  others = others;
}

contents_out : (layout : Layout) (puts : List Put) (contents : List (ℕ × List ℕ)) (image image' : List ℕ) → length image' ≡ length image → AreContents (sector_bytes layout) puts contents
    → ((c : ℕ × List ℕ) → Contains contents c → sector_at (sector_bytes layout) image' c.0 ≡ c.1)
    → ((s : ℕ) → is_among (map_place layout) s ≡ false → (sector_at (sector_bytes layout) image' s ≡ sector_at (sector_bytes layout) image s) ⊎ Contains contents (s, sector_at (sector_bytes layout) image' s))
    → ArePutOut layout puts image image'
contents_out layout puts contents image image' same are written others =
    parts_out layout puts image image' same
    (λ p at. ((λ i low. written (get_or p.sectors i 0, part_at (sector_bytes layout) p.bytes i) (are.there p at i low)), are.long p at))
    (λ s map none.
    ⊎_elim (λ stays. stays)
    (λ at. let p = are.only (s, sector_at (sector_bytes layout) image' s) at in absurd (clash (is_among p.0.sectors s) p.2 (none p.0 p.1))) (others s map))

pub puts_law : PutsLaw
puts_law = record {
  contents = contents_out;
  parts = parts_out;
  written = λ x puts image image' same out of. edit_written x puts image image' out of same;
  only = λ x puts image image' out of. written_for x puts image image' out of;
  bytes = directory_bytes;
}
