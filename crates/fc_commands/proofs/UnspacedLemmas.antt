-- `set` and `mark` are refused for want of space as what they want is: on a map that is sound, never.
use Rattle.std.proofs.Common.{◌≡◌, List, length, None, sym, ap, ◌∙◌}
use Rattle.fc_names.specs.Names.{Path}
use Rattle.fc_alloc.specs.declared.owner.Owner.{Owner}
use Rattle.fc_oldmap.specs.OldMap.{OldMapContent}
use Rattle.fc_newmap.specs.Map.{Map, bits_in, hole_runs}
use Rattle.fc_model.specs.Answer.{first_of}
use Rattle.fc_model.specs.Command.{Command}
use Rattle.fc_image.specs.Layout.{Layout}
use Rattle.fc_image.specs.Opening.{Opened}
use Rattle.fc_image.specs.effects.Sharing.{new_ids}
use Rattle.fc_image.specs.effects.Short.{short, space_reasons}
use Rattle.fc_tree.specs.Parts.{Parts}
use Rattle.fc_laws.specs.nodes.Edits.{Nodes}
use Rattle.fc_change.specs.declared.job.Wants.{Wants}
use Rattle.fc_change.specs.Shortage.{shortage}
use Rattle.fc_commands.proofs.EmptySpaceLemmas.{WantsNoSpace}
use Rattle.fc_commands.proofs.RewordingLemmas.{Gives, Wording}
use Rattle.fc_commands.proofs.ShortLemmas.{enough}

-- nothing is wanted
abbrev none_wanted : Wants
none_wanted = record { bytes = 0; shares = None; copied = None; goes = None; grows = None }

wants_are : (w : Wants) → WantsNoSpace w × (w.goes ≡ None) → w ≡ none_wanted
wants_are w none = λ i. record { bytes = none.0.bytes i; shares = none.0.slack i; copied = none.0.copy i; goes = none.1 i; grows = none.0.grows i }

-- what the command is refused by is what the disc has no space for
reasons_are : (v : Opened) (layout : Layout) (x : Wording) (path : Path) (c : Command) → Gives x path c → v.layout ≡ layout → short v c ≡ first_of (space_reasons layout v c)
unfolding short
reasons_are v layout (Wording.Set w) path c given is =
    let d = Command.Set path w.load w.exec w.access in
    ap (short v) given ∙ ap (λ (l : Layout). first_of (space_reasons l v d)) is ∙ sym (ap (λ (y : Command). first_of (space_reasons layout v y)) given)
reasons_are v layout (Wording.Mark attrs) path c given is =
    let d = Command.Mark path attrs in
    ap (short v) given ∙ ap (λ (l : Layout). first_of (space_reasons l v d)) is ∙ sym (ap (λ (y : Command). first_of (space_reasons layout v y)) given)

new_reasons : (m : Map) (v : Opened) (x : Wording) (path : Path) (c : Command) → Gives x path c → first_of (space_reasons (Layout.New m) v c) ≡ None
new_reasons m v (Wording.Set w) path c given = ap (λ (y : Command). first_of (space_reasons (Layout.New m) v y)) given ∙ enough (length (new_ids m)) (bits_in (hole_runs m))
new_reasons m v (Wording.Mark attrs) path c given = ap (λ (y : Command). first_of (space_reasons (Layout.New m) v y)) given ∙ enough (length (new_ids m)) (bits_in (hole_runs m))

old_reasons : (space : OldMapContent) (nodes : Nodes) (owners : List Owner) (v : Opened) (x : Wording) (path : Path) (c : Command) → Gives x path c
    → first_of (space_reasons (Layout.Old space) v c) ≡ shortage (record { layout = Layout.Old space; nodes = nodes; owners = owners }) none_wanted
old_reasons space nodes owners v (Wording.Set w) path c given = ap (λ (y : Command). first_of (space_reasons (Layout.Old space) v y)) given
old_reasons space nodes owners v (Wording.Mark attrs) path c given = ap (λ (y : Command). first_of (space_reasons (Layout.Old space) v y)) given

pub new_short : (m : Map) (nodes : Nodes) (owners : List Owner) (w : Wants) (v : Opened) (x : Wording) (path : Path) (c : Command) → Gives x path c → WantsNoSpace w × (w.goes ≡ None) → v.layout ≡ Layout.New m
    → short v c ≡ shortage (record { layout = Layout.New m; nodes = nodes; owners = owners }) w
new_short m nodes owners w v x path c given none at =
    let h : Parts = record { layout = Layout.New m; nodes = nodes; owners = owners } in
    let no : shortage h none_wanted ≡ None = enough (length (new_ids m)) (bits_in (hole_runs m)) in
    reasons_are v (Layout.New m) x path c given at ∙ new_reasons m v x path c given ∙ sym no ∙ sym (ap (shortage h) (wants_are w none))

pub old_short : (space : OldMapContent) (nodes : Nodes) (owners : List Owner) (w : Wants) (v : Opened) (x : Wording) (path : Path) (c : Command) → Gives x path c → WantsNoSpace w × (w.goes ≡ None)
    → v.layout ≡ Layout.Old space → short v c ≡ shortage (record { layout = Layout.Old space; nodes = nodes; owners = owners }) w
old_short space nodes owners w v x path c given none at =
    let h : Parts = record { layout = Layout.Old space; nodes = nodes; owners = owners } in
    reasons_are v (Layout.Old space) x path c given at ∙ old_reasons space nodes owners v x path c given ∙ sym (ap (shortage h) (wants_are w none))
