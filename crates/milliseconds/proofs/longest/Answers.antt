-- `milliseconds::longest` meets its contract. Assumes nothing.
use Rattle.std.proofs.Common.{◌≡◌, sym, max, ap, ◌∙◌}
use Rattle.std.specs.List.{reduce}
use Rattle.std.specs.Option.{unwrap_or}
use Rattle.std.proofs.lemmas.Iterator.{YieldsList-from_slice}
use Rattle.std.proofs.lemmas.Iterator.Adapters.{option_map_id}
use Rattle.std.proofs.lemmas.Iterator.Consumers.{max_from_yields_List, YieldsList-from_copied}
use lib.Dec.{ltb}
use Rattle.milliseconds.proofs.ConversionLaws.{longest_is, longest_or_0}
use Rattle.milliseconds.proofs.longest.Goals as goal

pub returns : goal.returns
returns c n =
    let l = c.args.delays.now in
    let e : c.max.result ≡ reduce max l = sym (option_map_id _) ∙ max_from_yields_List c.copied.result c.max.result c.max.ensures.ran (YieldsList-from_copied (YieldsList-from_slice l (cc))) in
    longest_is l n ∙ ap (ltb n) (sym (c.unwrap_or.ensures ∙ ap (λ o. unwrap_or o 0) e ∙ longest_or_0 l))
