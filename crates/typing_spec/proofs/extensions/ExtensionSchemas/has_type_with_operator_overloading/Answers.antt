use Rattle.std.specs.Cmp.Lexicographic.{nat_list_cmp_total}
use Rattle.std.proofs.lemmas.Map.Lookups.{exact_bytes}
use Rattle.std.proofs.lemmas.Map.Views.{btree_set_contains_iff}
use Rattle.typing_spec.proofs.extensions.ExtensionSchemas.has_type_with_operator_overloading.Goals as goal

pub returns : goal.returns
returns c = rw (c.contains.ensures, ← c.self.view_is) (btree_set_contains_iff nat_list_cmp_total exact_bytes c.self.inside.types_with_operator_overloading c.args.name.now)
