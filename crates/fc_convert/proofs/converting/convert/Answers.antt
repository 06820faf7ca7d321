use Rattle.std.proofs.Common.{◌≡◌, ◌∙◌, List, ℕ, Some, subst}
use Rattle.fc_tree.proofs.WalkedLemmas.{same_some}
use Rattle.fc_convert.specs.Convert.{ConvertWords}
use Rattle.fc_convert.specs.Promise.{HasTreeOf, Outside}
use Rattle.fc_convert.specs.Words.{words_in}
use Rattle.fc_convert.proofs.PromiseLemmas.{same_tree}
use Rattle.fc_convert.proofs.converting.convert.Goals as goal

pub returns-clause-same_tree : goal.returns-clause-same_tree
returns-clause-same_tree g c = λ w is done source told was here.
    subst (λ (x : ConvertWords). (target : List ℕ) × (g.E.Disk.bytes c.convert_asked.new.to ≡ Some target) × HasTreeOf x.format source target) (same_some (words_in c.in-Some.asked) w (c.in-Some.ensures ∙ is))
    (same_tree g.D.Disk g.E.Disk g.K.Sink (words_in c.in-Some.asked) (record { from = c.args.from.now; to = c.args.to.now; out = c.args.out.now })
    (record { from = c.convert_asked.new.from; to = c.convert_asked.new.to; out = c.convert_asked.new.out }) c.convert_asked.result c.convert_asked.ensures done source told was here)
