use Rattle.std.proofs.Common.{◌≡◌, ◌∙◌, ap, is_some, map, option_and_then, refl, subst, []}
use Rattle.std.specs.String.{string_bytes}
use Rattle.fc_words.specs.CommandLine.{Settings, request_from, request_of}
use Rattle.fc_words.specs.Judging.{Holds, rest_after}
use Rattle.fc_words.specs.declared.judging.Given.{Given}
use Rattle.fc_words.proofs.judging.are_request.Goals as goal

pub returns : goal.returns
returns c =
    let judged : (s : Settings) → Holds c.none.result s → c.make_request.result ≡ is_some (option_and_then request_from (rest_after c.none.result.next (map string_bytes c.as_slice.result.now) s)) = c.make_request.ensures in
    let none = subst (λ (g : Given). (s : Settings) → Holds g s → c.make_request.result ≡ is_some (option_and_then request_from (rest_after g.next (map string_bytes c.as_slice.result.now) s))) c.none.ensures judged in
    none [] (refl, refl, refl, refl, refl) ∙ ap (λ ws. is_some (request_of (map string_bytes ws))) c.as_slice.ensures.value
