-- A volume that suits the safe mode still suits it after a job that needs no new object.
use Rattle.std.proofs.Common.{◌≡◌, ◌==◌, ⊎_elim, ℕ, Bool, false, refl, sym, ap, subst, ◌∙◌, Option, Some, None}
use Rattle.std.specs.FinMap.{get, insert as put, remove as take}
use Rattle.std.specs.Option.{option_map_or}
use Rattle.std.proofs.lemmas.Bool.{cases_eq}
use Rattle.fc_record.specs.declared.Geometry.{Geometry}
use Rattle.fc_newmap.specs.Map.{Map}
use Rattle.fc_image.specs.Layout.{Layout}
use Rattle.fc_image.specs.Opening.{Opened}
use Rattle.fc_image.specs.safe.SafeShort.{safe_refusal, safe_short}
use Rattle.fc_model.specs.Command.{Command}
use Rattle.fc_tree.specs.declared.node.Node.{Node}
use Rattle.fc_tree.specs.Nodes.{body_in}
use Rattle.fc_laws.specs.nodes.Edits.{Nodes, with_body, with_edited}
use Rattle.fc_laws.proofs.lemmas.nodes.ShapeLemmas.{put_here, put_other, take_here, take_other}
use Rattle.fc_edits.specs.Deletion.{Deletion, nodes_without}
use Rattle.fc_safe.specs.Suits.{Suits, is_low_directory, is_low_node}
use Rattle.fc_safe.proofs.SuitsLemmas.{low_of}

-- no directory lies in the map's identifier
abbrev pub NoneLow : Nodes → Type 0
NoneLow nodes = (n : ℕ) → is_low_node nodes n ≡ false

pub put_low : (nodes : Nodes) (k : ℕ) (x : Node) → is_low_directory x.entry ≡ false → NoneLow nodes → NoneLow (put nodes k x)
put_low nodes k x own none n = ⊎_elim (λ same. here same) (λ other. ap low_of (put_other nodes k n x other) ∙ none n) (cases_eq n k)
  where
    here : n ≡ k → is_low_node (put nodes k x) n ≡ false
    here same = ap (is_low_node (put nodes k x)) same ∙ ap low_of (put_here nodes k x) ∙ own

taken_low : (nodes : Nodes) (k : ℕ) → NoneLow nodes → NoneLow (take nodes k)
taken_low nodes k none n = ⊎_elim (λ same. here same) (λ other. ap low_of (take_other nodes k n other) ∙ none n) (cases_eq n k)
  where
    here : n ≡ k → is_low_node (take nodes k) n ≡ false
    here same = ap (is_low_node (take nodes k)) same ∙ ap low_of (take_here nodes k)

-- one says something else
pub said_low : (nodes : Nodes) (k : ℕ) (f : Node → Node) → ((x : Node) → (f x).entry ≡ x.entry) → NoneLow nodes → NoneLow (with_edited k f nodes)
said_low nodes k f same none = by (get nodes k) refl
  where
    by : (o : Option Node) → get nodes k ≡ o → NoneLow (option_map_or (λ (node : Node). put nodes k (f node)) o nodes)
    by None e = none
    by (Some x) e = put_low nodes k (f x) (ap is_low_directory (same x) ∙ sym (ap low_of e) ∙ none k) none

pub without_low : (c : Deletion) (nodes : Nodes) → NoneLow nodes → NoneLow (nodes_without c nodes)
without_low c nodes none = taken_low (with_body c.dir (body_in c.content) nodes) c.number (said_low nodes c.dir (λ (node : Node). record node { body = body_in c.content }) (λ x. refl) none)

pub still_suits : (m m' : Map) (nodes nodes' : Nodes) → m'.geometry ≡ m.geometry → Suits (Layout.New m) nodes → NoneLow nodes' → Suits (Layout.New m') nodes'
still_suits m m' nodes nodes' same suits none = (ap (λ (g : Geometry). g.version == 0) same ∙ suits.0, none)

-- ---- the refusal of a new map

pub refusal_new : (v : Opened) (c : Command) (m : Map) → v.layout ≡ Layout.New m → safe_refusal v c ≡ safe_short m v c
refusal_new v c m at =
    subst (λ (l : Layout). safe_refusal (record { kind = v.kind; layout = l; listings = v.listings }) c ≡ safe_short m (record { kind = v.kind; layout = l; listings = v.listings }) c) (sym at) refl
