use Rattle.std.proofs.Common.{subst, IsTrue, ◌↔◌}
use Rattle.schema_types.specs.Names.{AreApart}
use Rattle.schema_types.proofs.entity_lub.EntityLUB.is_disjoint.Goals as goal

pub returns : goal.returns
returns c =
    let r = IsTrue c.is_disjoint.result in
    let names = c.self.inside.lub_elements.value.keys in
    let left = subst (λ a. r ↔ AreApart a.keys c.as_ref-2.result.now.keys) c.as_ref.ensures c.is_disjoint.ensures in
    let right = subst (λ b. r ↔ AreApart names b.keys) c.as_ref-2.ensures left in
    subst (λ ms. r ↔ AreApart ms c.args.other.now) c.self.view_is (subst (λ ns. r ↔ AreApart names ns) c.other.view_is right)
