-- What an answer says of the text that was written.
use Rattle.std.proofs.Common.{◌≡◌, ℕ, List, [], ◌∷◌, ◌++◌, Option, Result, Err, sym, subst, append_assoc}
use Rattle.fc_script.specs.Texts.{line_of, ok_line}
use Rattle.fc_shell.specs.declared.answer.LineFault.{LineFault}
use Rattle.fc_shell.specs.Answered.{Told}
use Rattle.fc_shell.specs.Writing.{Wrote, WrotePart}
use Rattle.fc_shell.proofs.WritingLemmas.{part_of_first, part_of_second}

-- it stopped with a part
pub told_stopped : {T : Type 0} (reply : List ℕ) (before after : Option (List ℕ)) (result : Result T LineFault) (fault : LineFault) → result ≡ Err fault
    → WrotePart before after reply → Told reply before after result
told_stopped reply before after result fault is part = subst (Told reply before after) (sym is) part

-- digits in a line of their own, and `ok`
line_parts : (digits : List ℕ) → digits ++ (10 ∷ ok_line) ≡ line_of (digits ∷ []) ++ ok_line
line_parts digits = sym (append_assoc digits (10 ∷ []) ok_line)

-- a part of the digits
pub digits_cut : (before after : Option (List ℕ)) (digits : List ℕ) → WrotePart before after digits → WrotePart before after (line_of (digits ∷ []) ++ ok_line)
digits_cut before after digits part = subst (WrotePart before after) (line_parts digits) (part_of_first before after digits (10 ∷ ok_line) part)

-- all digits, and a part of the end
pub end_cut : (before mid after : Option (List ℕ)) (digits : List ℕ) → Wrote before mid digits → WrotePart mid after (10 ∷ ok_line) → WrotePart before after (line_of (digits ∷ []) ++ ok_line)
end_cut before mid after digits first part = subst (WrotePart before after) (line_parts digits) (part_of_second before mid after digits (10 ∷ ok_line) first part)
