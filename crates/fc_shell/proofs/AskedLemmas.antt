-- Which script a run has, and what is told of it.
use Rattle.std.proofs.Common.{◌≡◌, ◌<◌, ◌≤◌, ℕ, List, length, Option, Some, None, refl, sym, ap, subst, ◌∙◌, arith}
use Rattle.std.specs.Option.{ForSome}
use Rattle.fc_runs.specs.Demo.{demo_script}
use Rattle.fc_words.specs.CommandLine.{Request}
use Rattle.fc_shell.specs.Replies.{AsksNoDemo, asked_script, script_limit, told_script}

-- Without a demo it is the source's,
pub told_plain : (demo : Option ℕ) (told : Option (List ℕ)) → demo ≡ None → told_script demo told ≡ told
told_plain demo told plain = ap (λ (d : Option ℕ). told_script d told) plain

pub asked_plain : (o : Option Request) (told : Option (List ℕ)) → AsksNoDemo o → asked_script o told ≡ told
asked_plain None told plain = refl
asked_plain (Some r) told plain = told_plain r.demo told plain

-- with one the demo's.
pub told_demo_script : (demo : Option ℕ) (n : ℕ) (told : Option (List ℕ)) → demo ≡ Some n → (text : List ℕ) → told_script demo told ≡ Some text → demo_script n ≡ text
told_demo_script demo n told is text left =
    let here : Some (demo_script n) ≡ Some text = sym (ap (λ (d : Option ℕ). told_script d told) is) ∙ left in
    cc

-- ---- of a script that was run

-- It isn't too long.
pub never_long : (told : Option (List ℕ)) (text : List ℕ) → ((other : List ℕ) → told ≡ Some other → text ≡ other) → length text ≤ script_limit
    → (X : Type 0) → ForSome told (λ other. script_limit < length other → X)
never_long told text is short X other left long =
    let few = subst (λ (t : List ℕ). length t ≤ script_limit) (is other left) short in
    absurd (omega (arith, long, few))
