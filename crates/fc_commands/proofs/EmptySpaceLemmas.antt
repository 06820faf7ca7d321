-- A job that wants no space: what its stages leave, and what is ready if one directory is told something.
use Rattle.std.proofs.Common.{◌≡◌, ℕ, Bool, List, [], ◌∷◌, ◌++◌, refl, sym, ap, subst, ◌∙◌, arith, Option, Some, None}
use Rattle.std.specs.Prelude.{Vec}
use Rattle.std.specs.declared.alloc.Global.{Global}
use Rattle.std.specs.Option.{option_map}
use Rattle.fc_alloc.specs.declared.owner.Owner.{Owner}
use Rattle.fc_device.specs.declared.disk.Extent.{Extent}
use Rattle.fc_drafts.specs.declared.room.Room.TheVariants as rooms
use Rattle.fc_oldmap.specs.OldMap.{OldMapContent}
use Rattle.fc_newmap.specs.Map.{Map}
use Rattle.fc_image.specs.Layout.{Layout, sectors_at}
use Rattle.fc_tree.specs.Parts.{Parts}
use Rattle.fc_laws.specs.nodes.Edits.{Nodes}
use Rattle.fc_objects.specs.Extents.{sectors_in}
use Rattle.fc_placing.specs.declared.placing.Placing.{Placing}
use Rattle.fc_placing.specs.declared.placing.Placing.TheVariants as placings
use Rattle.fc_plan.specs.declared.plan.Plan.{Plan}
use Rattle.fc_writing.specs.declared.ready.MapStep.{MapStep}
use Rattle.fc_writing.specs.declared.ready.Piece.{Piece}
use Rattle.fc_writing.specs.declared.ready.Ready.{Ready}
use Rattle.fc_writing.specs.declared.ready.Source.{Source}
use Rattle.fc_writing.specs.declared.ready.Source.TheVariants as sources
use Rattle.fc_writing.specs.Ready.{source_place}
use Rattle.fc_change.specs.declared.change.Change.{Change}
use Rattle.fc_change.specs.declared.change.Says.{Says}
use Rattle.fc_change.specs.declared.change.Turned.{Turned}
use Rattle.fc_change.specs.declared.change.Turned.TheVariants as turns
use Rattle.fc_change.specs.declared.job.Growth.{Growth}
use Rattle.fc_change.specs.declared.job.Wants.{Wants}
use Rattle.fc_change.specs.declared.spaces.GrownPlace.{GrownPlace}
use Rattle.fc_change.specs.declared.spaces.Place.{Place}
use Rattle.fc_change.specs.declared.spaces.Spaces.{Spaces}
use Rattle.fc_change.specs.Directories.{Rewriting, TellAll, Tells}
use Rattle.fc_change.specs.Drafts.{grown_in}
use Rattle.fc_change.specs.GrownSpace.{IsGrown, gone_at_once, kept_parts, plans_of, root_of}
use Rattle.fc_change.specs.Needs.{room_of}
use Rattle.fc_change.specs.Places.{ArePlacesFor, ArePlacesOn, IsCopiedFrom, IsOldPlaced, IsPlaceFor, IsPlacingFor, extents_in, plan_in}
use Rattle.fc_change.specs.Prepared.{ArePiecesOf, IsGrownPiece, IsNewPiece, IsPieceOf, IsReadyFor, IsSourceOf, PiecesMatch}
use Rattle.fc_change.specs.Steps.{IsStep}
use Rattle.fc_commands.proofs.PutLemmas.{CopiesNone}

-- ---- what is wanted

pub no_growth : (g : Option Growth) → room_of g ≡ rooms.Fits → g ≡ None
no_growth None e = refl
no_growth (Some g) e = absurd (cc)

-- No space is wanted.
pub record WantsNoSpace (w : Wants) : Type 0 where
  pub bytes : w.bytes ≡ 0
  pub slack : w.shares ≡ None
  pub copy : w.copied ≡ None
  pub grows : w.grows ≡ None

-- ---- where that lies

pub none_copied : (layout : Layout) (nodes : Nodes) (copied : Option ℕ) (from : Option (Vec Extent Global)) → copied ≡ None → IsCopiedFrom layout nodes copied (extents_in from) → from ≡ None
none_copied layout nodes None None e is = refl
none_copied layout nodes None (Some v) e is = absurd is
none_copied layout nodes (Some n) from e is = absurd (cc)

no_sectors : (layout : Layout) (address bytes : ℕ) (sectors : List ℕ) → bytes ≡ 0 → sectors_at layout address bytes ≡ Some sectors → sectors ≡ []
unfolding sectors_at
no_sectors layout address bytes sectors none is = same sectors (subst (λ (n : ℕ). sectors_at layout address n ≡ Some sectors) none is)
  where
    same : (xs : List ℕ) → (let q : Option (List ℕ) = Some [] in q) ≡ Some xs → xs ≡ []
    same xs e = cc

-- An object of no bytes has no sectors.
abbrev pub HasNoSectors : Option Place → Type 0
HasNoSectors None = Unit {0}
HasNoSectors (Some p) = sectors_in p.extents.items ≡ []

-- Nothing is placed, nothing is copied, and no directory grows.
pub record IsEmptySpace (s : Spaces) : Type 0 where
  pub object : HasNoSectors s.object
  pub copied : s.copied ≡ None
  pub grown : s.grown ≡ None

module _ (h : Parts) (w : Wants) (none : WantsNoSpace w) where
  -- on a new map nothing is planned
  pub placed_nowhere : (m : Map) (owners : List Owner) (placing : Placing) → IsPlacingFor m owners w placing → placing ≡ placings.Nowhere
  placed_nowhere m owners placings.Nowhere is = refl
  placed_nowhere m owners (placings.Shared share) is = absurd (let some = is.1 in let slack = none.slack in cc)
  placed_nowhere m owners (placings.New plan) is = absurd (let some = is.1.some in let bytes = none.bytes in omega (arith, some, bytes))

  new_object : (m : Map) (placing : Placing) (place : Option Place) → placing ≡ placings.Nowhere → IsPlaceFor m w placing place → HasNoSectors place
  new_object m placing None at is = tt
  new_object m placings.Nowhere (Some p) at is = no_sectors (Layout.New m) p.address w.bytes (sectors_in p.extents.items) none.bytes is.1
  new_object m (placings.Shared share) (Some p) at is = absurd (cc)
  new_object m (placings.New plan) (Some p) at is = absurd (cc)

  old_object : (space : OldMapContent) (place : Option Place) → IsOldPlaced space w place → HasNoSectors place
  old_object space None is = tt
  old_object space (Some p) is = no_sectors (Layout.Old space) p.address w.bytes (sectors_in p.extents.items) none.bytes is.sectors

  -- no directory is planned on a new map
  pub none_planned : (m : Map) (object dir : Option Plan) (place : Option GrownPlace) → IsGrown m h object w.grows dir place → (dir ≡ None) × (place ≡ None)
  none_planned m object dir place is = subst (λ (g : Option Growth). IsGrown m h object g dir place) none.grows is

  empty_on : (layout : Layout) (s : Spaces) → h.layout ≡ layout → ArePlacesFor h w s → IsEmptySpace s
  empty_on (Layout.New m) s at places =
      let p = subst (λ (x : Layout). ArePlacesOn x h w s) at places in
      record {
        object = new_object m p.placing s.object (placed_nowhere m h.owners p.placing p.is) p.object;
        copied = none_copied (Layout.New m) h.nodes w.copied s.copied none.copy p.copied;
        grown = (none_planned m (plan_in p.placing) p.dir s.grown p.grown).1;
      }
  empty_on (Layout.Old space) s at places =
      let p = subst (λ (x : Layout). ArePlacesOn x h w s) at places in record { object = old_object space s.object p.object; copied = p.copied; grown = p.grown }

  pub empty_space : (s : Spaces) → ArePlacesFor h w s → IsEmptySpace s
  empty_space s places = empty_on h.layout s refl places

pub none_grown : (s : Spaces) → s.grown ≡ None → grown_in s ≡ None
none_grown s none = ap (λ (g : Option GrownPlace). option_map (λ (p : GrownPlace). p.directory) g) none

-- On a new map nothing is taken then.
pub takes_none : (m : Map) (alone : Bool) (placing : Placing) (dir : Option Plan) (place : Option GrownPlace) (take : MapStep) → placing ≡ placings.Nowhere → dir ≡ None → place ≡ None
    → IsStep m (plans_of (plan_in placing) dir) (gone_at_once dir alone) (kept_parts dir alone) (root_of place) take → IsStep m [] [] [] None take
takes_none m alone placing dir place take nowhere no_dir no_place is =
    let rooted = subst (λ (g : Option GrownPlace). IsStep m (plans_of (plan_in placing) dir) (gone_at_once dir alone) (kept_parts dir alone) (root_of g) take) no_place is in
    let planned = subst (λ (d : Option Plan). IsStep m (plans_of (plan_in placing) d) (gone_at_once d alone) (kept_parts d alone) None take) no_dir rooted in
    subst (λ (x : Placing). IsStep m (plans_of (plan_in x) None) [] [] None take) nowhere planned

-- ---- what is told

-- what one directory is told
pub one_said : (nodes : Nodes) (q : ℕ × Rewriting) (says : List Says) → TellAll None nodes (q ∷ []) says → (said : Says) × (says ≡ said ∷ []) × Tells None nodes q.0 q.1 said
one_said nodes q [] is = absurd is
one_said nodes q (s ∷ []) is = (s, refl, is.0)
one_said nodes q (s ∷ r ∷ says) is = absurd is.1

-- ---- what is ready

pub one_piece : (layout : Layout) (nodes : Nodes) (said : Says) (ps : List Piece) → PiecesMatch layout nodes None (said ∷ []) ps → (p : Piece) × (ps ≡ p ∷ []) × IsPieceOf layout nodes said p
one_piece layout nodes said [] is = absurd is
one_piece layout nodes said (p ∷ []) is = (p, refl, is.0)
one_piece layout nodes said (p ∷ q ∷ ps) is = absurd is.1

-- No new object comes.
abbrev pub BringsNone : Turned → Type 0
BringsNone (turns.Comes dir e own) = ⊥
BringsNone (turns.Turns n dir e) = Unit {0}
BringsNone (turns.Goes n) = Unit {0}

no_new : (x : Turned) (place : Option Place) (ps : List Piece) → BringsNone x → IsNewPiece x place ps → ps ≡ []
no_new (turns.Comes dir e own) place ps none is = absurd none
no_new (turns.Turns n dir e) None ps none is = is
no_new (turns.Turns n dir e) (Some p) ps none is = is
no_new (turns.Goes n) None ps none is = is
no_new (turns.Goes n) (Some p) ps none is = is

-- Nothing is written for an object: there are no bytes for it, nor sectors.
pub record WritesNone (s : Source) : Type 0 where
  pub plain : CopiesNone s
  pub place : source_place s ≡ []

nothing_written : (s : Source) → s ≡ sources.Nothing → WritesNone s
nothing_written s is = subst WritesNone (sym is) (record { plain = tt; place = refl })

no_source : (x : Turned) (place : Option Place) (from : Option (Vec Extent Global)) (s : Source) → BringsNone x → HasNoSectors place → from ≡ None → IsSourceOf x place from s → WritesNone s
no_source (turns.Comes dir e own) place from s brings none is source = absurd brings
no_source (turns.Turns n dir e) None from s brings none is source = nothing_written s source
no_source (turns.Turns n dir e) (Some p) None s brings none is source = subst WritesNone (sym source) (record { plain = tt; place = none })
no_source (turns.Turns n dir e) (Some p) (Some v) s brings none is source = absurd (cc)
no_source (turns.Goes n) None from s brings none is source = nothing_written s source
no_source (turns.Goes n) (Some p) None s brings none is source = subst WritesNone (sym source) (record { plain = tt; place = none })
no_source (turns.Goes n) (Some p) (Some v) s brings none is source = absurd (cc)

-- One directory is written, after the map's first step, and nothing else but the map.
pub record IsOnePiece (r : Ready) (p : Piece) : Type 0 where
  pub source : WritesNone r.source
  pub carried : r.carried.items ≡ []
  pub early : r.early.items ≡ []
  pub late : r.late.items ≡ p ∷ []

-- what is ready then
pub record IsOneReady (layout : Layout) (nodes : Nodes) (said : Says) (s : Spaces) (r : Ready) : Type 0 where
  pub piece : Piece
  pub is_piece : IsPieceOf layout nodes said piece
  pub one : IsOnePiece r piece
  pub take : r.take ≡ s.take
  pub give : r.give ≡ s.give

pub one_ready : (h : Parts) (c : Change) (s : Spaces) (r : Ready) (said : Says) → IsEmptySpace s → c.says.items ≡ said ∷ [] → BringsNone c.object → IsReadyFor h c s r → IsOneReady h.layout h.nodes said s r
one_ready h c s r said empty is_said brings is =
    let says = subst (λ (ss : List Says). ArePiecesOf h.layout h.nodes s.grown ss r.late.items) is_said is.late in
    let one = one_piece h.layout h.nodes said r.late.items (subst (λ (g : Option GrownPlace). ArePiecesOf h.layout h.nodes g (said ∷ []) r.late.items) empty.grown says) in
    let made : is.made ≡ [] = no_new c.object s.object is.made brings is.makes in
    let grown : is.grown ≡ [] = subst (λ (g : Option GrownPlace). IsGrownPiece g c.says.items is.grown) empty.grown is.grows in
    record {
      piece = one.0;
      is_piece = one.2;
      one = record {
        source = no_source c.object s.object s.copied r.source brings empty.object empty.copied is.source;
        carried = is.carried;
        early = is.early ∙ ap (λ (ps : List Piece). ps ++ is.grown) made ∙ grown;
        late = one.1;
      };
      take = is.take;
      give = is.give;
    }
