use Rattle.std.proofs.Common.{subst, IsTrue, ◌↔◌}
use Rattle.schema_types.specs.Names.{AreAmong}
use Rattle.schema_types.proofs.entity_lub.EntityLUB.is_subtype.Goals as goal

pub returns : goal.returns
returns c =
    let r = IsTrue c.is_subset.result in
    let names = c.self.inside.lub_elements.value.keys in
    let left = subst (λ a. r ↔ AreAmong a.keys c.as_ref-2.result.now.keys) c.as_ref.ensures c.is_subset.ensures in
    let right = subst (λ b. r ↔ AreAmong names b.keys) c.as_ref-2.ensures left in
    subst (λ ms. r ↔ AreAmong ms c.args.other.now) c.self.view_is (subst (λ ns. r ↔ AreAmong names ns) c.other.view_is right)
