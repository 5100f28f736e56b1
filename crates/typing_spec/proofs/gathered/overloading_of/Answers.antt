use Rattle.std.proofs.Common.{◌≡◌, ◌+◌, ◌++◌, ◌∷◌, [], take, refl, sym, ap, ◌∙◌}
use Rattle.std.proofs.lemmas.List.{take_more}
use Rattle.schema_types.specs.Names.{union}
use Rattle.typing_spec.specs.Table.{overloading_in}
use Rattle.typing_spec.proofs.ByName.{overloading_more}
use Rattle.typing_spec.proofs.gathered.overloading_of.Goals as goal

pub loop-schema-preserved : goal.loop-schema-preserved
loop-schema-preserved c =
    let es = c.args.extension_schemas.now in
    let i = c.loop-schema.schema-index in
    let e = c.schema-item.result in
    let next : take (i + 1) es ≡ take i es ++ e ∷ [] = take_more es i e c.loop-schema-test.true ∙ rw (← c.schema-item.is) refl in
    record {
      value = c.in_ok-add_names.ensures.value ∙ ap (λ ns. union ns c.types_with_operator_overloading.result.now.keys) c.loop-schema.invariant.value ∙ ap (union (overloading_in (take i es))) c.types_with_operator_overloading.ensures.value ∙ sym (ap overloading_in next ∙ overloading_more (take i es) e);
      ordered = c.in_ok-add_names.ensures.ordered;
    }
