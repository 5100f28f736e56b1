use Rattle.std.proofs.Common.{◌∙◌, sym}
use Rattle.access_tries.proofs.Prefixes.{next_left}
use Rattle.access_tries.proofs.least.is_gone_on.Goals as goal

pub returns-then-place-paths : goal.returns-then-place-paths
returns-then-place-paths c = λ yes.
    next_left c.args.paths.now c.args.place c.index-paths-place-then-place-paths.result c.index-paths-place.result c.if-place-paths.true
    c.index-paths-place-then-place-paths.is c.index-paths-place.is (sym c.goes_on.ensures ∙ yes)
