-- `set` and `mark` in the safe mode: what their stages need, and what they promise.
use Rattle.std.proofs.Common.{◌≡◌, ◌≤◌, ◌==◌, ◌&&◌, ◌||◌, ℕ, Bool, true, false, List, ◌∷◌, length, refl, sym, ap, ap₂, subst, ◌∙◌, eq-eqb, None}
use Rattle.std.specs.Prelude.{Contains, IsPermutation, nat_lt}
use Rattle.std.specs.List.{list_any}
use Rattle.std.proofs.lemmas.List.Sorted.{list_any-IsPermutation}
use Rattle.fc_names.specs.Names.{Path}
use Rattle.fc_alloc.specs.declared.owner.Owner.{Owner}
use Rattle.fc_record.specs.declared.DiscRecord.{DiscRecord}
use Rattle.fc_record.specs.declared.Kind.{Kind}
use Rattle.fc_newmap.specs.Map.{Map}
use Rattle.fc_model.specs.Answer.{changed}
use Rattle.fc_model.specs.Command.{Command}
use Rattle.fc_image.specs.Layout.{Layout, dir_form, disc_sectors, id_of}
use Rattle.fc_image.specs.Objects.{has_sectors, is_owner_of, objects_of, tree_of}
use Rattle.fc_image.specs.Opening.{Opened}
use Rattle.fc_image.specs.Sound.{AreSound}
use Rattle.fc_image.specs.Stays.{IsNewKind, OpensAs}
use Rattle.fc_image.specs.Walk.{Listing, Object}
use Rattle.fc_image.specs.safe.SafeEffect.{HasTree}
use Rattle.fc_tree.specs.declared.node.Node.{Node}
use Rattle.fc_tree.specs.Agree.{Agree}
use Rattle.fc_tree.specs.Nodes.{HoldObjects}
use Rattle.fc_tree.specs.Parts.{ArePartsOf, Parts, owner_of}
use Rattle.fc_laws.specs.nodes.Edits.{Nodes}
use Rattle.fc_laws.specs.agree.Agreed.{AgreeOn, parts_with}
use Rattle.fc_laws.proofs.lemmas.agree.BeforeLemmas.{agreed_law}
use Rattle.fc_laws.proofs.lemmas.agree.CutLemmas.{cut_law}
use Rattle.fc_edits.specs.NewPlaces.{GivesBack}
use Rattle.fc_refusals.specs.declared.target.Target.{Target}
use Rattle.fc_writing.specs.declared.ready.Piece.{Piece}
use Rattle.fc_writing.specs.New.{CanWrite, IsChanged, IsTaken}
use Rattle.fc_change.specs.declared.job.Wants.{Wants}
use Rattle.fc_change.specs.Needs.{AreWants}
use Rattle.fc_change.specs.Prepared.{IsPieceOf}
use Rattle.fc_commands.specs.declared.stages.Prepared.{Prepared}
use Rattle.fc_safe.specs.Staying.{remains}
use Rattle.fc_safe.specs.Suits.{Suits}
use Rattle.fc_safe.proofs.SuitsLemmas.{suits_are}
use Rattle.fc_safecrash.specs.Crash.{IsThere}
use Rattle.fc_safeedits.specs.Relocation.{is_moved}
use Rattle.fc_safeedits.specs.SafeChange.{MovedParts, moves_in}
use Rattle.fc_safeedits.specs.SafeOutcome.{SafeOutcome}
use Rattle.fc_safeedits.specs.SafeSpace.{SafeSpaceLaw, takings_of}
use Rattle.fc_safeedits.specs.SafeWriting.{SafeWritingLaw}
use Rattle.fc_safecommands.specs.Anew.{IsPreparedAnew}
use Rattle.fc_safecommands.specs.Laws.{mapped}
use Rattle.fc_safecommands.proofs.ChangeLemmas as change_of
use Rattle.fc_safecommands.proofs.GoneLemmas.{exactly, moved_is}
use Rattle.fc_safecommands.proofs.LaidLemmas.{IsStaying, staying}
use Rattle.fc_safecommands.proofs.PlainLemmas.{PlainJob, i, leaving}
use Rattle.fc_safecommands.proofs.SpaceLemmas.{none_grown}
use Rattle.fc_safecommands.proofs.StageLemmas.{by, changed_image, whole}
use Rattle.fc_safecommands.proofs.WrittenLemmas.{TellsOne, owner_in, piece}
use Rattle.fc_image.specs.safe.SafeShort.{takes_slack}
use Rattle.fc_edits.specs.NewNodes as edited
use Rattle.fc_edits.specs.Rewording.{IsReworded, Rewording, edit}
use Rattle.fc_outcomes.specs.Rewording.{HasReworded}
use Rattle.fc_refusals.specs.Targets.{IsTarget}
use Rattle.fc_change.specs.After.{nodes_after}
use Rattle.fc_change.specs.Directories.{Rewriting, Tells}
use Rattle.fc_change.specs.Jobs.{IsJob}
use Rattle.fc_commands.proofs.RewordingLemmas.{Fit, Gives, Wording, job_of as job_by, worded}
use Rattle.fc_commands.proofs.RewordingLemmas as rewording
use Rattle.fc_commands.proofs.RewordingStageLemmas.{IsRewordingChange, rewording_change, tells_it, turns_it, wants_none}
use Rattle.fc_safe.specs.FirstNeeds.{first_gone, stir_of}
use Rattle.fc_safe.specs.Views.{IsPlain, IsViewOf, StirsAs}
use Rattle.fc_alloc.specs.Owners.{owns}
use Rattle.fc_safe.proofs.PlainLemmas.{marks_stir, marks_stirs, plain_stir, words_stir, words_stirs}
use Rattle.fc_safe.proofs.ViewLemmas.{owns_same}
use Rattle.fc_safeedits.specs.SafeRewording.{RewordedParts, SafeRewording, SafeRewordingLaw}
use Rattle.fc_safecommands.proofs.OldPlaceLemmas.{any_alike, piece_before, piece_there}

-- ---- what a wording says of its job

pub plain_of : (t : Target) (w : Wording) → IsPlain (job_by t w)
plain_of t (Wording.Set words) = tt
plain_of t (Wording.Mark attrs) = tt

pub stir_is : (m : Map) (h : Parts) (t : Target) (w : Wording) (wants : Wants) → wants.grows ≡ None → wants.copied ≡ None → wants.goes ≡ None → stir_of m h (job_by t w) wants ≡ plain_stir t.holder None
stir_is m h t (Wording.Set words) wants still copied goes = words_stir m h t words wants still copied goes
stir_is m h t (Wording.Mark attrs) wants still copied goes = marks_stir m h t attrs wants still copied goes

pub stirs_are : (m : Map) (h : Parts) (v : Opened) (path : Path) (t : Target) (w : Wording) (c : Command) → Gives w path c → IsViewOf m h v → IsTarget h.nodes v.listings path t → StirsAs m h v c (plain_stir t.holder None)
stirs_are m h v path t (Wording.Set words) c given view is =
    subst (λ (d : Command). StirsAs m h v d (plain_stir t.holder None)) (sym given) (words_stirs m h v path words.load words.exec words.access t view is)
stirs_are m h v path t (Wording.Mark attrs) c given view is =
    subst (λ (d : Command). StirsAs m h v d (plain_stir t.holder None)) (sym given) (marks_stirs m h v path attrs t view is)

pub no_slack_of : (v : Opened) (w : Wording) (path : Path) (c : Command) → Gives w path c → (id : ℕ) → takes_slack v c id ≡ false
no_slack_of v (Wording.Set words) path c given id = ap (λ (d : Command). takes_slack v d id) given
no_slack_of v (Wording.Mark attrs) path c given id = ap (λ (d : Command). takes_slack v d id) given

-- ---- of a view

module _ (kind : Kind) (m : Map) (nodes : Nodes) (owners : List Owner) (root : Node) (listings : List Listing) (agreed : AgreeOn kind m nodes owners root listings)
    (parts : ArePartsOf (parts_with m nodes owners) (record { kind = kind; layout = Layout.New m; listings = listings }))
    (t : Target) (w : Wording) (path : Path) (target : IsTarget nodes listings path t) (command : Command) (given : Gives w path command) (fit : Fit (dir_form (Layout.New m)) w)
    (suits : Suits (Layout.New m) nodes) (name : List ℕ) (job_is : IsJob nodes listings command (job_by t w) name) where
  abbrev h : Parts
  h = parts_with m nodes owners

  abbrev v : Opened
  v = record { kind = kind; layout = Layout.New m; listings = listings }

  abbrev before : AreSound (Layout.New m) listings
  before = agreed_law.sound kind m nodes owners root listings agreed

  abbrev held : HoldObjects nodes listings
  held = agreed.walked.held

  pub seen : IsViewOf m h v
  seen = record { is_map = agreed.is_map; layout = refl; sound = before; parts = parts }

  -- the job, as one that needs no new object
  abbrev pub job_of : (wants : Wants) → AreWants h (job_by t w) name wants → PlainJob
  job_of wants are =
      let none = wants_none h t w name wants are in
      record {
        kind = kind;
        m = m;
        nodes = nodes;
        owners = owners;
        root = root;
        listings = listings;
        agreed = agreed;
        c = command;
        job = job_by t w;
        wants = wants;
        its = record { view = seen; suits = sym (suits_are h true v suits before parts); name = name; job_is = job_is; plain = plain_of t w; wants = are };
        still = none.0.grows;
        no_bytes = none.0.bytes;
        no_share = none.0.slack;
        path = path;
        t = t;
        target = target;
        goes = None;
        stays = refl;
        stir = stir_is m h t w wants none.0.grows none.0.copy none.1;
        stirs = stirs_are m h v path t w command given seen target;
        no_slack = no_slack_of v w path command given;
      }

  -- ---- what is ready

  module _ (p : Prepared) (prep : IsPreparedAnew m h (job_by t w) name p) where
    abbrev pub x : PlainJob
    x = job_of prep.wants prep.are_wants

    pub change : IsRewordingChange nodes t w p.change
    change = rewording_change h t w name prep.spaces p.change (none_grown x prep.spaces prep.placed) prep.change

    abbrev pub tells : TellsOne x p.change
    tells = record { said = change.said; says = change.says; node = change.tells.number }

    pub can_write : (n : ℕ) → disc_sectors (Layout.New m) ≤ n → CanWrite n m p.ready
    can_write n room = change_of.can_write x prep.spaces prep.placed p.change tells p.ready prep.ready n room

    -- ---- the rewording

    abbrev pub its_tells : Tells None nodes t.holder (Rewriting.Replaces t.at (worded w target.object.entry)) change.said
    its_tells = tells_it (Layout.New m) nodes listings before held path t target w p.change change

    abbrev pub written_piece : Piece
    written_piece = (piece x prep.spaces prep.placed p.change tells p.ready prep.ready).0

    abbrev pub old_piece : Piece
    old_piece = piece_there x written_piece

    pub is_piece : IsPieceOf (Layout.New m) nodes change.said old_piece
    is_piece = piece_before x change.said written_piece change.tells.number (piece x prep.spaces prep.placed p.change tells p.ready prep.ready).1.drafted

    abbrev pub c : Rewording
    c = rewording.rewording (Layout.New m) nodes listings before held path t target w fit agreed.walked.forms change.said its_tells old_piece is_piece

    pub is_reworded : IsReworded nodes (Layout.New m) listings c
    is_reworded = rewording.is_reworded (Layout.New m) nodes listings before held path t target w fit agreed.walked.forms change.said its_tells old_piece is_piece

    pub has_words : HasReworded command path (Layout.New m) listings c written_piece.bytes.items
    has_words = rewording.has_reworded (Layout.New m) nodes listings before held path t target w fit agreed.walked.forms change.said its_tells old_piece is_piece command given

    abbrev pub nodes_now : Nodes
    nodes_now = edited.nodes_after (edit c) nodes

    pub nodes_same : (number : ℕ) → nodes_now ≡ nodes_after p.change number nodes
    nodes_same number =
        sym (rewording.nodes_are (Layout.New m) nodes listings before held path t target w fit agreed.walked.forms change.said its_tells old_piece is_piece p.change number change.none
        (turns_it (Layout.New m) nodes listings before held path t target w p.change change) change.says)

    -- ---- after it

    module _ (space : SafeSpaceLaw) (m' : Map) (taken : IsTaken m p.ready m') (owners' : List Owner) (same : owners' ≡ owners) where
      abbrev pub moved : MovedParts
      moved = change_of.moved x prep.spaces prep.placed p.change tells p.ready prep.ready m' taken space nodes_now owners'

      -- all owners stay
      all_stay : (k : ℕ) → list_any (is_owner_of k) (objects_of listings) ≡ list_any (remains (leaving x) k) owners
      all_stay k =
          sym (owns_same m h v command (plain_stir t.holder None) seen (stirs_are m h v path t w command given seen target) k)
          ∙ any_alike (owns k) (remains (leaving x) k) (λ o. sym (and_true (o.id == k))) owners
        where
          and_true : (b : Bool) → (b && true) ≡ b
          and_true true = refl
          and_true false = refl

      others : (stay : List Object) × IsPermutation (objects_of listings) (target.object ∷ stay)
      others = cut_law.others (Layout.New m) listings target.listing t.at target.object before target.listed target.at

      -- the object with its words, too
      own_turned : (k : ℕ) → is_owner_of k (c.turn target.object) ≡ is_owner_of k target.object
      own_turned k =
          let is = rewording.is_rewording w (dir_form (Layout.New m)) target.object.path fit in
          ap₂ (λ (ss : List ℕ) (n : ℕ). nat_lt 0 (length ss) && (id_of n == k)) (is.sectors target.object) (is.address target.object)

      those_now : (k : ℕ) → list_any (is_owner_of k) (c.turn target.object ∷ others.0) ≡ list_any (remains (leaving x) k) owners
      those_now k =
          ap (λ (b : Bool). b || list_any (is_owner_of k) others.0) (own_turned k)
          ∙ sym (list_any-IsPermutation (is_owner_of k) (objects_of listings) (target.object ∷ others.0) others.1)
          ∙ all_stay k

      pub gives : GivesBack m (takings_of prep.placed.plans) (first_gone m h (job_by t w) prep.wants) listings (edit c)
      gives = record { stay = others.0; others = others.1; exactly = λ k used. exactly x prep.spaces prep.placed (c.turn target.object ∷ others.0) those_now k }

      -- what stays in the identifier that moves
      pub stays_in : (o : Object) → Contains (objects_of listings) o → is_moved (moves_in moved) o ≡ true → has_sectors o ≡ true → remains (leaving x) (i x) (owner_of nodes (Layout.New m) o) ≡ true
      stays_in o among at some = ap (λ (b : Bool). b && true) (eq-eqb (id_of o.entry.address) (i x) (moved_is x prep.spaces prep.placed (id_of o.entry.address) at))

      pub stays_where : (o : Object) → Contains (objects_of listings) o → is_moved (moves_in moved) o ≡ true → has_sectors o ≡ true → IsStaying x prep.spaces prep.placed o
      stays_where o among at some =
          staying x prep.spaces prep.placed o among some (stays_in o among at some) (owner_in x prep.spaces prep.placed p.change tells p.ready prep.ready o among some)

      abbrev pub reworded : RewordedParts moved
      reworded = record {
        c = c;
        reworded = is_reworded;
        nodes_edited = rewording.nodes_edited (Layout.New m) nodes listings before held path t target w fit agreed.walked.forms change.said its_tells old_piece is_piece;
        owners_stay = same;
        gives = gives;
        moves = change_of.dir_moves x prep.spaces prep.placed p.change tells p.ready prep.ready m' taken space nodes_now owners';
        reaches = λ o among at. change_of.each_reaches x prep.spaces prep.placed p.change tells p.ready prep.ready m' taken space nodes_now owners' o among at (stays_where o among at);
      }

      pub agrees : SafeRewordingLaw → Agree kind (parts_with m' nodes_now owners')
      agrees law = law.agrees moved reworded

      -- ---- the image

      module _ (writing : SafeWritingLaw) (disc : DiscRecord) (image : List ℕ) (new_kind : IsNewKind kind disc) (opens : OpensAs image kind v) (bytes image' : List ℕ)
          (there : IsThere (mapped m (by x disc image new_kind opens)) p.ready bytes m' image') where
        abbrev pub done : SafeRewording
        done = record {
          x = changed_image x disc image new_kind opens prep.spaces prep.placed p.change tells p.ready prep.ready m' taken space writing nodes_now owners' bytes image' there;
          parts = reworded;
          command = command;
          path = path;
          bytes = written_piece.bytes.items;
          record_stays = change_of.record_stays x prep.spaces prep.placed p.change tells p.ready prep.ready m' taken space nodes_now owners';
          has_words = has_words;
          there = change_of.dir_there x prep.spaces prep.placed p.change tells p.ready prep.ready m' taken space nodes_now owners' writing (by x disc image new_kind opens) refl refl bytes image' there has_words.long;
          copied = λ o among at other. change_of.copied_as x prep.spaces prep.placed p.change tells p.ready prep.ready m' taken space nodes_now owners' writing (by x disc image new_kind opens) refl refl bytes image' there
              o among at (λ some. (stays_in o among at some, change_of.other_node x prep.spaces prep.placed p.change tells p.ready prep.ready o among other, stays_where o among at some));
        }

        pub tree : SafeRewordingLaw → HasTree kind (changed (tree_of image (Layout.New m) listings) command) image'
        tree law = law.tree done

        pub outcome : SafeRewordingLaw → IsChanged m m' p.ready bytes image image' → SafeOutcome kind image image' v command (parts_with m' nodes_now owners')
        outcome law is = law.outcome done
            (change_of.takes x prep.spaces prep.placed p.change tells p.ready prep.ready m' taken space nodes_now owners')
            (whole x disc image new_kind opens prep.spaces prep.placed p.change tells p.ready prep.ready m' taken space writing nodes_now owners' bytes image' there is)
