use Rattle.std.proofs.Common.{◌≡◌, Option, Some, None, option_map, refl, ap, ◌∙◌, Bor}
use Rattle.json.specs.Value.{value_view}
use Rattle.json.specs.declared.value.Value.{Value}
use Rattle.json_trees.specs.Trees.{data_of, tree_view}
use Rattle.json_trees.proofs.Found.{member_got}
use Rattle.json_trees.proofs.lookups.get.Goals as goal

seen : {A : Type 0} (o : Option (Bor (Value A))) → option_map (λ t. tree_view t.now) o ≡ option_map data_of (option_map (λ t. value_view t.now) o)
seen None = refl
seen (Some t) = refl

pub returns : goal.returns
returns c = seen c.get.result ∙ ap (option_map data_of) c.get.ensures ∙ member_got c.args.name.now (value_view c.args.tree.now)
