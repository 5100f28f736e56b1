use Rattle.std.proofs.Common.{refl, ap, Bool, Result, Ok, Err, IfOk, IsTrue}
use Rattle.schema_core.specs.RequestEnvs.{env_data_of}
use Rattle.edit_witnesses.proofs.confirming.is_of_environment.Goals as goal

-- what is answered says more
carried : {E : Type 0} (P Q : Type 0) → (P → Q) → (r : Result Bool E) → IfOk r (λ b. IsTrue b → P) → IfOk r (λ b. IsTrue b → Q)
carried P Q f (Ok b) h = λ e. f (h e)
carried P Q f (Err e) h = tt

pub returns : goal.returns
returns c =
    carried _ _ (λ same. (
      _,
      ap env_data_of c.in-DeclaredAction.is,
      record {
        principal = c.if-not-is_of_type.ensures refl;
        action = c.if-not-is_id.ensures refl;
        resource = c.if-not-is_of_type-2.ensures refl;
        context = same;
      },
    ))
    c.is_context_of.result c.is_context_of.ensures
