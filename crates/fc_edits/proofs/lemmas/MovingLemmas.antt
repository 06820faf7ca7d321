-- `rename` without a copied file, by the laws of edits.
use Rattle.std.proofs.Common.{◌≡◌, ◌<◌, ℕ, false, List, [], ◌∷◌, length, map, refl, arith, Some}
use Rattle.std.specs.Prelude.{Contains}
use Rattle.fc_names.specs.Names.{is_same_path}
use Rattle.fc_dirs.specs.Directory.{Directory}
use Rattle.fc_image.specs.Layout.{Layout}
use Rattle.fc_image.specs.Walk.{Listing, Object}
use Rattle.fc_image.specs.Objects.{objects_of}
use Rattle.fc_tree.specs.Nodes.{number_of}
use Rattle.fc_tree.proofs.MemberLemmas.{no_element}
use Rattle.fc_laws.specs.nodes.Edits.{Nodes}
use Rattle.fc_laws.specs.nodes.Laws.{IsHeld}
use Rattle.fc_laws.proofs.lemmas.agree.BeforeLemmas.{sound as new_sound}
use Rattle.fc_laws.proofs.lemmas.old.agree.BeforeLemmas.{sound}
use Rattle.fc_edits.specs.Places.{CanSayAll}
use Rattle.fc_edits.specs.NewNodes.{nodes_after}
use Rattle.fc_edits.specs.Edit.{Amended, AreEdited, IsEdit, joined_in, left_in, numbers}
use Rattle.fc_edits.specs.Moving.{Moves, IsMoving, Moving, MovingLaw, NewMoving, OldMoving, edit, itself, moved}
use Rattle.fc_edits.specs.PartsEdit.{NewPartsEdit, OldPartsEdit}
use Rattle.fc_edits.proofs.lemmas.NewPlaceLemmas.{places_fit}
use Rattle.fc_edits.proofs.lemmas.OldPlaceLemmas.{old_fit}
use Rattle.fc_edits.proofs.lemmas.StillLemmas.{IsStill, still_new, still_old}
use Rattle.fc_edits.proofs.lemmas.NewAgreeLemmas.{agree_law, agree_now}
use Rattle.fc_edits.proofs.lemmas.MovesLemmas as m_

-- ---- what its directories say can be said

pub moves : (nodes : Nodes) (layout : Layout) (listings : List Listing) (c : Moving) → IsMoving nodes layout listings c → Moves nodes listings c
moves nodes layout listings c g = record {
  found = g.found;
  amends = g.amends;
  touched = g.touched;
  there = g.there;
  leaves = g.leaves;
  joins = g.joins;
  number_is = g.number_is;
  not_into = g.not_into;
  own_is = g.own_is;
  others = g.others;
}

module _ (nodes : Nodes) (layout : Layout) (listings : List Listing) (c : Moving) (h : IsHeld nodes layout listings) (g : IsMoving nodes layout listings c) where
  abbrev ms : Moves nodes listings c
  ms = moves nodes layout listings c g

  pub left_is : left_in (edit c) ≡ (c.number, c.o) ∷ []
  left_is = m_.left_is nodes layout listings c h ms

  pub joined_is : joined_in (edit c) ≡ (c.number, moved c c.o) ∷ []
  joined_is = m_.joined_is nodes layout listings c h ms

  pub dir_in : (a : Amended) → Contains c.dirs a → Contains listings a.was
  dir_in = m_.dir_in nodes layout listings c h ms

  abbrev pub home : (a : Amended) × Contains c.dirs a × Contains a.was.children c.o
  home = m_.home nodes layout listings c h ms

  pub home_in : Contains listings home.0.was
  home_in = m_.home_in nodes layout listings c h ms

  pub among : Contains (objects_of listings) c.o
  among = m_.among nodes layout listings c h ms

  pub some : 0 < length c.o.path
  some = m_.some nodes layout listings c h ms

  pub unspelled : (p : Object) (n : ℕ) → number_of nodes p.path ≡ Some n → (n ≡ c.number → ⊥) → is_same_path c.o.path p.path ≡ false
  unspelled = m_.unspelled nodes layout listings c h ms

  pub own_amended : (a : Amended) → Contains (map (itself c) c.own) a → (d : Listing × Directory) × Contains c.own d × (itself c d ≡ a)
  own_amended = m_.own_amended nodes layout listings c h ms

  pub own_there : (d : Listing × Directory) → Contains c.own d → Contains (edit c).amended (itself c d)
  own_there = m_.own_there nodes layout listings c h ms

  pub others : (n : ℕ) → (Contains (numbers (left_in (edit c))) n → ⊥) → n ≡ c.number → ⊥
  others = m_.others nodes layout listings c h ms

  pub is_edit : IsEdit nodes listings (edit c)
  is_edit = m_.is_edit nodes layout listings c h ms

  pub are_edited : AreEdited nodes (nodes_after (edit c) nodes) (edit c)
  are_edited = m_.are_edited nodes layout listings c h ms

  pub is_still : IsStill listings (edit c) c.number c.o (moved c c.o)
  is_still = m_.is_still nodes layout listings c h ms

-- ---- the law

-- The length of an entry that moves stays.
same_len : (c : Moving) (p : Object) → (moved c p).entry.len ≡ p.entry.len
same_len c p = refl

pub can_say : (nodes : Nodes) (layout : Layout) (listings : List Listing) (c : Moving) → IsMoving nodes layout listings c → CanSayAll layout listings (edit c)
can_say nodes layout listings c g = record {
  few = omega arith;
  amended = g.says;
  into = λ x at. absurd (no_element x at);
  into_none = λ x at. absurd (no_element x at);
  same = λ k at. same_len c k.object;
  root = λ p at path t. absurd (let none = t.leaves in cc);
}

abbrev pub new_held : (x : NewMoving) → IsHeld x.nodes (Layout.New x.m) x.listings
new_held x = record { sound = new_sound x.kind x.m x.nodes x.owners x.root x.listings x.agreed; held = x.agreed.walked.held }

abbrev pub new_parts : NewMoving → NewPartsEdit
new_parts x =
    let is = is_edit x.nodes (Layout.New x.m) x.listings x.c (new_held x) x.is_moving in
    record {
      kind = x.kind;
      m = x.m;
      m' = x.m;
      nodes = x.nodes;
      nodes' = x.nodes';
      owners = x.owners;
      owners' = x.owners';
      root = x.root;
      listings = x.listings;
      edit = edit x.c;
      agreed = x.agreed;
      is_edit = is;
      nodes_edited = x.nodes_edited;
      fit = places_fit x.kind x.m x.m x.nodes x.owners x.root x.listings (edit x.c) [] [] x.agreed is
          (still_new x.listings (edit x.c) x.c.number x.c.o (moved x.c x.c.o) (is_still x.nodes (Layout.New x.m) x.listings x.c (new_held x) x.is_moving) x.kind x.m x.nodes x.owners x.root x.agreed);
      can = can_say x.nodes (Layout.New x.m) x.listings x.c x.is_moving;
      owners_edited = x.owners_edited;
    }

abbrev pub old_held : (x : OldMoving) → IsHeld x.nodes (Layout.Old x.space) x.listings
old_held x = record { sound = sound x.kind x.space x.nodes x.owners x.root x.listings x.agreed; held = x.agreed.walked.held }

abbrev pub old_parts_of : OldMoving → OldPartsEdit
old_parts_of x =
    let is = is_edit x.nodes (Layout.Old x.space) x.listings x.c (old_held x) x.is_moving in
    record {
      kind = x.kind;
      space = x.space;
      holes = x.space.holes;
      nodes = x.nodes;
      nodes' = x.nodes';
      owners = x.owners;
      owners' = x.owners';
      root = x.root;
      listings = x.listings;
      edit = edit x.c;
      agreed = x.agreed;
      is_edit = is;
      nodes_edited = x.nodes_edited;
      is_map = x.agreed.is_map;
      in_order = x.agreed.holes;
      fit = old_fit x.kind x.space x.space.holes x.nodes x.owners x.root x.listings (edit x.c) x.agreed is
          (still_old x.listings (edit x.c) x.c.number x.c.o (moved x.c x.c.o) (is_still x.nodes (Layout.Old x.space) x.listings x.c (old_held x) x.is_moving) x.kind x.space x.nodes x.owners x.root x.agreed);
      can = can_say x.nodes (Layout.Old x.space) x.listings x.c x.is_moving;
      owners_edited = x.owners_edited;
    }

pub moving_law : MovingLaw
moving_law = record {
  is_edit = is_edit;
  nodes = are_edited;
  can = can_say;
  new = λ x. agree_now (new_parts x);
  old = λ x. agree_law.old (old_parts_of x);
}
