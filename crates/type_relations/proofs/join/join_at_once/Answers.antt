use Rattle.std.proofs.Common.{sym, ◌∙◌}
use Rattle.std.proofs.lemmas.Map.Views.{tells_apart}
use Rattle.schema_types.specs.TyLaws.{exact_ty}
use Rattle.type_relations.specs.declared.mode.SubtypeMode.TheVariants.{Strict}
use Rattle.type_relations.proofs.GreaterLaws.{join_greater}
use Rattle.type_relations.proofs.SubtypeLaws.{subtype_refl}
use Rattle.type_relations.proofs.join.join_at_once.Goals as goal

pub returns-in_ok-try_clone-in-Strict : goal.returns-in_ok-try_clone-in-Strict
returns-in_ok-try_clone-in-Strict c =
    let a = c.args.a.now in
    let same = tells_apart exact_ty a c.args.b.now (sym c.eq.ensures ∙ c.if-eq.true) in
    rw (c.in-Strict.is, ← same, c.in_ok-try_clone-in-Strict.ensures) (sym (join_greater a a (subtype_refl Strict a)).0)
