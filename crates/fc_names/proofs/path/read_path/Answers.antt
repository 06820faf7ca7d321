use Rattle.std.proofs.Common.{rules, ◌≡◌, false, [], ◌∷◌, ◌++◌, ◌∙◌, sym, ap, refl, subst, Some, List, ℕ, Option, Bor}
use Rattle.std.specs.Option.{option_map}
use Rattle.fc_names.proofs.PathLemmas.{AreRead, AreRead-start, AreRead-next, path_of-other, root_from_test, other_from_test}
use Rattle.fc_names.proofs.path.read_path.Goals as goal

-- what a text that may be there holds
abbrev text_in : Option (Bor (List ℕ)) → Option (List ℕ)
text_in text = option_map (λ t. t.now) text

pub returns-then-ne-clause-bad_name : goal.returns-then-ne-clause-bad_name
returns-then-ne-clause-bad_name c =
    let other = other_from_test _ _ _ c.ne.ensures c.if-ne.true c.as_slice.ensures in
    (λ e. path_of-other _ _ (text_in c.cut.result.1) c.cut.ensures.parts other, λ e. refl)

pub loop-rest-init : goal.loop-rest-init
loop-rest-init c =
    let root = root_from_test _ _ _ c.ne.ensures c.if-ne.false c.as_slice.ensures in
    rw c.root-path.ensures (AreRead-start _ _ (text_in c.cut.result.1) c.cut.ensures.parts root)

pub loop-rest-preserved : goal.loop-rest-preserved
loop-rest-preserved c =
    let next : text_in c.loop-rest.rest ≡ Some c.in-Some.names.now = ap text_in c.in-Some.is in
    let read = subst (λ rest. AreRead c.args.text.now rest c.loop-rest.full c.loop-rest.path) next c.loop-rest.invariant in
    let name = sym c.spelled_bytes.ensures.name ∙ ap (λ b. option_map (λ bytes. bytes.items) b) c.in-Some-spelled_bytes.is in
    let pushed : c.push_unless-full.result ≡ false → (c.loop-rest.full ≡ false) × (c.push_unless-full.new.path ≡ c.loop-rest.path ++ c.in-Some-spelled_bytes.name.items ∷ []) =
    search rules in
    AreRead-next _ _ _ _ (text_in c.cut-in-Some.result.1) _ _ _ _ read c.cut-in-Some.ensures.parts name pushed
