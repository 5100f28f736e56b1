-- Parts of values are smaller.
use Rattle.std.proofs.Common.{◌≡◌, ℕ, ◌<◌, ◌≤◌, List, [], ◌∷◌, length, get_or, Bool, true, false, Option, Some, cond, is_some, ap, ◌∙◌, refl, arith, ◌||◌}
use Rattle.std.specs.BTreeMap.{is_at}
use Rattle.std.specs.Map.{lookup}
use Rattle.policy_values.specs.Uid.{text_cmp}
use Rattle.type_relations.specs.Member.{has_field}
use Rattle.policy_values.specs.Value.{Val, size_of, size_of_all, vals_of, fields_of}
use Rattle.policy_values.proofs.Sizes.{size_of-get_or}
use Rattle.plain_lemmas.proofs.Options.{is_some_cond}
use Rattle.type_relations.proofs.MemberSteps.{size_in, lookup_field}
