use Rattle.std.proofs.Common.{[], ◌&&◌, sym, ap, ◌∙◌}
use Rattle.std.specs.List.{list_any}
use Rattle.access_tries.specs.Paths.{is_same}
use Rattle.access_tries.specs.Tails.{tails}
use Rattle.access_tries.proofs.Tails.{first_ends_at}
use Rattle.access_tries.proofs.least.marks_first.Goals as goal

pub returns-then-mark : goal.returns-then-mark
returns-then-mark c =
    let addresses = c.args.addresses.now in
    let depth = c.args.depth in
    c.goes_along.ensures ∙ first_ends_at depth addresses c.index-addresses-0.result c.requires.some c.index-addresses-0.is c.requires.rise ∙ sym (ap (λ m. m && list_any (is_same []) (tails depth addresses)) c.if-mark.true)
