-- Errors and warnings that are equal are the same: each is a struct of which all fields are compared.
use Rattle.std.proofs.Common.{◌≡◌, true, true≢false, refl, sym, subst}
use Rattle.findings.specs.declared.error.ValidationError.{ValidationError}
use Rattle.findings.specs.declared.error.ValidationError.TheVariants as error
use Rattle.findings.specs.contracts.error.ValidationErrorPartialEq.TheImpl as error_test
use Rattle.findings.specs.contracts.error.ValidationErrorEq.TheImpl.Laws.{laws-law as error_laws}
use Rattle.findings.specs.declared.error.ValidationWarning.{ValidationWarning}
use Rattle.findings.specs.declared.error.ValidationWarning.TheVariants as warning
use Rattle.findings.specs.contracts.error.ValidationWarningPartialEq.TheImpl as warning_test
use Rattle.findings.specs.contracts.error.ValidationWarningEq.TheImpl.Laws.{laws-law as warning_laws}
use Rattle.finding_laws.specs.Laws.{ErrorEqualityIsExact, WarningEqualityIsExact}
use Rattle.finding_laws.proofs.Exact.{lists, options, both, variant}
use Rattle.finding_laws.proofs.Parts.{numbers, booleans, texts, ids, places, unions, types, hints, helps, contexts, meanings, unlisted_ids, accesses, violations}

same_error : (a b : ValidationError) → error_test.ghosts.eq a b ≡ true → a ≡ b
same_error (error.UnrecognizedEntityType a) (error.UnrecognizedEntityType b) h =
    variant error.UnrecognizedEntityType (λ e. (e.source_loc, (e.policy_id, e.actual_entity_type))) (λ v. record { source_loc = v.0; policy_id = v.1.0; actual_entity_type = v.1.1 }) (λ _. refl)
    (both places (both texts texts)) a b h
same_error (error.UnrecognizedActionId a) (error.UnrecognizedActionId b) h =
    variant error.UnrecognizedActionId (λ e. (e.source_loc, (e.policy_id, (e.actual_action_id, e.hint)))) (λ v. record { source_loc = v.0; policy_id = v.1.0; actual_action_id = v.1.1.0; hint = v.1.1.1 }) (λ _. refl)
    (both places (both texts (both ids (options meanings)))) a b h
same_error (error.InvalidEnumEntity a) (error.InvalidEnumEntity b) h =
    variant error.InvalidEnumEntity (λ e. (e.source_loc, (e.policy_id, e.err))) (λ v. record { source_loc = v.0; policy_id = v.1.0; err = v.1.1 }) (λ _. refl)
    (both places (both texts unlisted_ids)) a b h
same_error (error.InvalidActionApplication a) (error.InvalidActionApplication b) h =
    variant error.InvalidActionApplication (λ e. (e.source_loc, (e.policy_id, (e.would_in_fix_principal, e.would_in_fix_resource)))) (λ v. record { source_loc = v.0; policy_id = v.1.0; would_in_fix_principal = v.1.1.0; would_in_fix_resource = v.1.1.1 }) (λ _. refl)
    (both places (both texts (both booleans booleans))) a b h
same_error (error.UnexpectedType a) (error.UnexpectedType b) h =
    variant error.UnexpectedType (λ e. (e.source_loc, (e.policy_id, (e.expected, (e.actual, e.help))))) (λ v. record { source_loc = v.0; policy_id = v.1.0; expected = v.1.1.0; actual = v.1.1.1.0; help = v.1.1.1.1 }) (λ _. refl)
    (both places (both texts (both (lists types) (both types (options helps))))) a b h
same_error (error.IncompatibleTypes a) (error.IncompatibleTypes b) h =
    variant error.IncompatibleTypes (λ e. (e.source_loc, (e.policy_id, (e.types, (e.hint, e.context))))) (λ v. record { source_loc = v.0; policy_id = v.1.0; types = v.1.1.0; hint = v.1.1.1.0; context = v.1.1.1.1 }) (λ _. refl)
    (both places (both texts (both (lists types) (both hints contexts)))) a b h
same_error (error.UnsafeAttributeAccess a) (error.UnsafeAttributeAccess b) h =
    variant error.UnsafeAttributeAccess (λ e. (e.source_loc, (e.policy_id, (e.attribute_access, e.may_exist)))) (λ v. record { source_loc = v.0; policy_id = v.1.0; attribute_access = v.1.1.0; may_exist = v.1.1.1 }) (λ _. refl)
    (both places (both texts (both accesses booleans))) a b h
same_error (error.UnsafeOptionalAttributeAccess a) (error.UnsafeOptionalAttributeAccess b) h =
    variant error.UnsafeOptionalAttributeAccess (λ e. (e.source_loc, (e.policy_id, e.attribute_access))) (λ v. record { source_loc = v.0; policy_id = v.1.0; attribute_access = v.1.1 }) (λ _. refl)
    (both places (both texts accesses)) a b h
same_error (error.UnsafeTagAccess a) (error.UnsafeTagAccess b) h =
    variant error.UnsafeTagAccess (λ e. (e.source_loc, (e.policy_id, (e.entity_ty, e.tag)))) (λ v. record { source_loc = v.0; policy_id = v.1.0; entity_ty = v.1.1.0; tag = v.1.1.1 }) (λ _. refl)
    (both places (both texts (both (options unions) texts))) a b h
same_error (error.NoTagsAllowed a) (error.NoTagsAllowed b) h =
    variant error.NoTagsAllowed (λ e. (e.source_loc, (e.policy_id, e.entity_ty))) (λ v. record { source_loc = v.0; policy_id = v.1.0; entity_ty = v.1.1 }) (λ _. refl)
    (both places (both texts (options texts))) a b h
same_error (error.UndefinedFunction a) (error.UndefinedFunction b) h =
    variant error.UndefinedFunction (λ e. (e.source_loc, (e.policy_id, e.name))) (λ v. record { source_loc = v.0; policy_id = v.1.0; name = v.1.1 }) (λ _. refl)
    (both places (both texts texts)) a b h
same_error (error.WrongNumberArguments a) (error.WrongNumberArguments b) h =
    variant error.WrongNumberArguments (λ e. (e.source_loc, (e.policy_id, (e.expected, e.actual)))) (λ v. record { source_loc = v.0; policy_id = v.1.0; expected = v.1.1.0; actual = v.1.1.1 }) (λ _. refl)
    (both places (both texts (both numbers numbers))) a b h
same_error (error.FunctionArgumentValidation a) (error.FunctionArgumentValidation b) h =
    variant error.FunctionArgumentValidation (λ e. (e.source_loc, (e.policy_id, e.msg))) (λ v. record { source_loc = v.0; policy_id = v.1.0; msg = v.1.1 }) (λ _. refl)
    (both places (both texts texts)) a b h
same_error (error.EntityDerefLevelViolation a) (error.EntityDerefLevelViolation b) h =
    variant error.EntityDerefLevelViolation (λ e. (e.source_loc, (e.policy_id, e.violation_kind))) (λ v. record { source_loc = v.0; policy_id = v.1.0; violation_kind = v.1.1 }) (λ _. refl)
    (both places (both texts violations)) a b h
same_error (error.EmptySetForbidden a) (error.EmptySetForbidden b) h =
    variant error.EmptySetForbidden (λ e. (e.source_loc, e.policy_id)) (λ v. record { source_loc = v.0; policy_id = v.1 }) (λ _. refl)
    (both places texts) a b h
same_error (error.NonLitExtConstructor a) (error.NonLitExtConstructor b) h =
    variant error.NonLitExtConstructor (λ e. (e.source_loc, e.policy_id)) (λ v. record { source_loc = v.0; policy_id = v.1 }) (λ _. refl)
    (both places texts) a b h
same_error (error.TooDeep a) (error.TooDeep b) h =
    variant error.TooDeep (λ e. (e.source_loc, e.policy_id)) (λ v. record { source_loc = v.0; policy_id = v.1 }) (λ _. refl)
    (both places texts) a b h
same_error a b h = absurd (true≢false (sym h))

pub errors : ErrorEqualityIsExact
errors a b = (same_error a b, λ h. subst (λ c. error_test.ghosts.eq a c ≡ true) h (error_laws.refl a))

same_warning : (a b : ValidationWarning) → warning_test.ghosts.eq a b ≡ true → a ≡ b
same_warning (warning.ImpossiblePolicy a) (warning.ImpossiblePolicy b) h =
    variant warning.ImpossiblePolicy (λ e. (e.source_loc, e.policy_id)) (λ v. record { source_loc = v.0; policy_id = v.1 }) (λ _. refl)
    (both places texts) a b h

pub warnings : WarningEqualityIsExact
warnings a b = (same_warning a b, λ h. subst (λ c. warning_test.ghosts.eq a c ≡ true) h (warning_laws.refl a))
