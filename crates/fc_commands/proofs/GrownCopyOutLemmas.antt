-- What is written of a change that copies sectors, as puts: those of its pieces, and one of all bytes that were copied.
use Rattle.fc_changes.proofs.BasicLemmas.{clash}
use Rattle.fc_commands.proofs.PutLemmas.{AreLong, are_contents, contents_of, flat_app, flat_pieces, put_of, puts_of, source_puts}
use Rattle.fc_device.specs.Sectors.{sector_at}
use Rattle.fc_image.proofs.EntriesLemmas.{cases as contains_cases, later as contains_later}
use Rattle.fc_image.specs.Layout.{Layout, bytes_in, is_among, map_place, sector_bytes}
use Rattle.fc_laws.specs.takeover.Copied.{AreCopied}
use Rattle.fc_objects.proofs.WriteLemmas.{reads_back}
use Rattle.fc_objects.specs.Bytes.{first_bytes}
use Rattle.fc_objects.specs.Extents.{sectors_in}
use Rattle.fc_objects.specs.Written.{part_at}
use Rattle.fc_outcomes.specs.Puts.{ArePutOut, Put}
use Rattle.fc_tree.proofs.MemberLemmas.{contains_here}
use Rattle.fc_writing.proofs.ContentLemmas.{among_get, numbered_here, numbered_is}
use Rattle.fc_writing.specs.Content.{Content, HasContent, IsPart, copied}
use Rattle.fc_writing.specs.Ready.{all_content, carried_by, content_of, late_content, source_content}
use Rattle.fc_writing.specs.declared.ready.Ready.{Ready}
use Rattle.fc_writing.specs.declared.ready.Source.{Source}
use Rattle.fc_writing.specs.declared.ready.Source.TheVariants as sources
use Rattle.fc_writing.specs.declared.ready.Transfer.{Transfer}
use Rattle.std.proofs.Common.{List, [], ap, append_assoc, ap₂, flat_map, get_or, inl, inr, length, map, subst, sym, true, ℕ, ⊎_elim, ◌++◌, ◌∙◌, ◌∷◌, ◌≡◌, ◌⊎◌}
use Rattle.std.proofs.lemmas.List.Elements.{Contains-append_cases, Contains-append_left, Contains-append_right}
use Rattle.std.specs.Prelude.{Contains}

abbrev pieces : Ready → List Put
pieces r = map put_of r.early.items ++ map put_of r.late.items

module _ (size : ℕ) (was bytes : List ℕ) (r : Ready) (t : Transfer) (source : r.source ≡ sources.Sectors t) (carried : r.carried.items ≡ []) where
  abbrev over : Content
  over = copied size was (sectors_in t.from.items) (sectors_in t.to.items)

  pub no_more : puts_of r bytes ≡ map put_of r.early.items ++ map put_of r.late.items
  no_more = ap (λ (s : Source). source_puts s bytes ++ pieces r) source

  -- the copied sectors, and the pieces
  pub content_is : all_content size was bytes r ≡ copied size was (sectors_in t.from.items) (sectors_in t.to.items) ++ contents_of size (map put_of r.early.items ++ map put_of r.late.items)
  content_is =
      (λ i. (source_content size was bytes (source i) ++ (flat_map (carried_by size was) (carried i) ++ flat_map (content_of size) r.early.items)) ++ late_content size r)
      ∙ append_assoc over (flat_map (content_of size) r.early.items) (late_content size r)
      ∙ ap (λ (c : Content). over ++ c)
      (sym (flat_app size (map put_of r.early.items) (map put_of r.late.items) ∙ ap₂ (λ (a b : Content). a ++ b) (flat_pieces size r.early.items) (flat_pieces size r.late.items)))

  module _ (image : List ℕ) (has : HasContent size (all_content size was bytes r) image) where
    pub are_copied : AreCopied size was image (sectors_in t.from.items) (sectors_in t.to.items)
    are_copied i low =
        has (get_or (sectors_in t.to.items) i 0, sector_at size was (get_or (sectors_in t.from.items) i 0))
        (subst (λ (c : Content). Contains c (get_or (sectors_in t.to.items) i 0, sector_at size was (get_or (sectors_in t.from.items) i 0))) (sym content_is)
        (Contains-append_left over (contents_of size (pieces r)) (get_or (sectors_in t.to.items) i 0, sector_at size was (get_or (sectors_in t.from.items) i 0))
        (numbered_here (λ (j : ℕ). sector_at size was (get_or (sectors_in t.from.items) j 0)) (sectors_in t.to.items) i low)))

    module _ (long : AreLong size (map put_of r.early.items ++ map put_of r.late.items)) where
      piece_there : (p : Put) → Contains (map put_of r.early.items ++ map put_of r.late.items) p → bytes_in size image p.sectors (length p.bytes) ≡ p.bytes
      unfolding bytes_in first_bytes
      piece_there p at =
          reads_back size image p.sectors p.bytes
          (λ i low.
          has (get_or p.sectors i 0, part_at size p.bytes i)
          (subst (λ (c : Content). Contains c (get_or p.sectors i 0, part_at size p.bytes i)) (sym content_is)
          (Contains-append_right over (contents_of size (pieces r)) (get_or p.sectors i 0, part_at size p.bytes i) ((are_contents size (pieces r) long).there p at i low)))) (long p at)

      whose : (c : ℕ × List ℕ) → Contains (all_content size was bytes r) c → (is_among (sectors_in t.to.items) c.0 ≡ true) ⊎ ((p : Put) × Contains (map put_of r.early.items ++ map put_of r.late.items) p × (is_among p.sectors c.0 ≡ true))
      whose c at =
          ⊎_elim
          (λ here. inl (let n = numbered_is (λ (j : ℕ). sector_at size was (get_or (sectors_in t.from.items) j 0)) (sectors_in t.to.items) c here in
          subst (λ (s : ℕ). is_among (sectors_in t.to.items) s ≡ true) n.2 (among_get (sectors_in t.to.items) n.0 n.1)))
          (λ later. inr ((are_contents size (pieces r) long).only c later))
          (Contains-append_cases over (contents_of size (pieces r)) c (subst (λ (d : Content). Contains d c) content_is at))

      -- So these sectors have their bytes, with those of the copy.
      pub copied_out : (layout : Layout) → sector_bytes layout ≡ size → IsPart size (map_place layout) (all_content size was bytes r) was image → (file : Put) → file.sectors ≡ sectors_in t.to.items
          → bytes_in size image file.sectors (length file.bytes) ≡ file.bytes → ArePutOut layout (file ∷ (map put_of r.early.items ++ map put_of r.late.items)) was image
      copied_out layout same part file to there = record {
        length_stays = part.length_stays;
        there = λ p at.
            subst (λ (n : ℕ). bytes_in n image p.sectors (length p.bytes) ≡ p.bytes) (sym same)
            (⊎_elim (λ is. subst (λ (x : Put). bytes_in size image x.sectors (length x.bytes) ≡ x.bytes) is there) (λ later. piece_there p later) (contains_cases file p (pieces r) at));
        others = λ s outside none.
            subst (λ (n : ℕ). sector_at n image s ≡ sector_at n was s) (sym same)
            (⊎_elim (λ stays. stays)
            (λ written.
            absurd (⊎_elim (λ here. clash (is_among (sectors_in t.to.items) s) here (ap (λ (ss : List ℕ). is_among ss s) (sym to) ∙ none file (contains_here file (pieces r))))
            (λ piece. clash (is_among piece.0.sectors s) piece.2 (none piece.0 (contains_later file piece.0 (pieces r) piece.1)))
            (whose (s, sector_at size image s) written)))
            (part.each s outside));
      }
