-- Equality is exact of what findings are made of.
use Rattle.std.proofs.Common.{◌≡◌, ◌==◌, true, refl, ap}
use Rattle.std.specs.Bool.{beq}
use Rattle.std.specs.Option.{option_eq}
use Rattle.std.specs.Cmp.{unsigned_Decides, booleans_Decides}
use Rattle.std.specs.Cmp.Lexicographic.{pointwise}
use Rattle.policy_values.specs.contracts.entity_uid.EntityUIDPartialEq.TheImpl as uid
use Rattle.policy_expressions.specs.contracts.kinds.LocPartialEq.TheImpl as loc
use Rattle.schema_types.specs.NameLaws.{exact_texts}
use Rattle.schema_types.specs.TyLaws.{exact_ty}
use Rattle.schema_types.specs.contracts.entity_lub.EntityLUBPartialEq.TheImpl as lub
use Rattle.schema_types.specs.contracts.compared.TypePartialEq.TheImpl as type
use Rattle.schema_types.specs.contracts.kinds.LubHelp as hint
use Rattle.schema_types.specs.contracts.kinds.LubHelpPartialEq.TheImpl as hint_test
use Rattle.findings.specs.contracts.helps.UnexpectedTypeHelp as help
use Rattle.findings.specs.contracts.helps.UnexpectedTypeHelpPartialEq.TheImpl as help_test
use Rattle.findings.specs.contracts.helps.LubContext as context
use Rattle.findings.specs.contracts.helps.LubContextPartialEq.TheImpl as context_test
use Rattle.findings.specs.declared.rules.UnrecognizedActionIdHelp.{UnrecognizedActionIdHelp}
use Rattle.findings.specs.declared.rules.UnrecognizedActionIdHelp.TheVariants.{AvoidActionTypeInActionId}
use Rattle.findings.specs.contracts.rules.UnrecognizedActionIdHelpPartialEq.TheImpl as meant
use Rattle.findings.specs.contracts.rules.InvalidEnumEntityErrorPartialEq.TheImpl as unlisted
use Rattle.findings.specs.declared.access.AttributeAccess.{AttributeAccess}
use Rattle.findings.specs.declared.access.AttributeAccess.TheVariants as access
use Rattle.findings.specs.contracts.access.AttributeAccessPartialEq.TheImpl as access_test
use Rattle.findings.specs.declared.level.EntityDerefViolationKind.{EntityDerefViolationKind}
use Rattle.findings.specs.declared.level.EntityDerefViolationKind.TheVariants.{MaximumLevelExceeded, LiteralDerefTarget}
use Rattle.findings.specs.contracts.level.EntityDerefLevelPartialEq.TheImpl as level
use Rattle.findings.specs.contracts.level.EntityDerefViolationKindPartialEq.TheImpl as violation
use Rattle.finding_laws.proofs.Exact.{IsExact, lists, options, ties, bare, both, through}

pub numbers : IsExact ◌==◌
numbers = record { same = λ x y. (unsigned_Decides x y).0 }

pub booleans : IsExact beq
booleans = record { same = λ x y. (booleans_Decides x y).0 }

pub texts : IsExact (pointwise ◌==◌)
texts = lists numbers

pub ids : IsExact uid.ghosts.eq
ids = through (λ u. (u.entity_type, u.eid)) (λ p. record { entity_type = p.0; eid = p.1 }) (λ _. refl) (both texts texts)

pub places : IsExact (option_eq loc.ghosts.eq)
places = options (through (λ l. (l.start, l.end)) (λ p. record { start = p.0; end = p.1 }) (λ _. refl) (both numbers numbers))

pub unions : IsExact lub.ghosts.eq
unions = ties exact_texts

pub types : IsExact type.ghosts.eq
types = ties exact_ty

pub hints : IsExact hint_test.ghosts.eq
hints = bare hint.the_type tt

pub helps : IsExact help_test.ghosts.eq
helps = bare help.the_type tt

pub contexts : IsExact context_test.ghosts.eq
contexts = bare context.the_type tt

same_meaning : (x y : UnrecognizedActionIdHelp) → meant.ghosts.eq x y ≡ true → x ≡ y
same_meaning (AvoidActionTypeInActionId x) (AvoidActionTypeInActionId y) h = ap AvoidActionTypeInActionId (ids.same x y h)

pub meanings : IsExact meant.ghosts.eq
meanings = record { same = same_meaning }

pub unlisted_ids : IsExact unlisted.ghosts.eq
unlisted_ids = through (λ e. (e.uid, e.choices)) (λ p. record { uid = p.0; choices = p.1 }) (λ _. refl) (both ids (lists texts))

same_access : (x y : AttributeAccess) → access_test.ghosts.eq x y ≡ true → x ≡ y
same_access (access.EntityLUB x xs) (access.EntityLUB y ys) h = ap (λ p. access.EntityLUB p.0 p.1) ((both unions (lists texts)).same (x, xs) (y, ys) h)
same_access (access.Context x xs) (access.Context y ys) h = ap (λ p. access.Context p.0 p.1) ((both ids (lists texts)).same (x, xs) (y, ys) h)
same_access (access.Other xs) (access.Other ys) h = ap access.Other ((lists texts).same xs ys h)
same_access x y h = cc

pub accesses : IsExact access_test.ghosts.eq
accesses = record { same = same_access }

levels : IsExact level.ghosts.eq
levels = through (λ l. l.level) (λ n. record { level = n }) (λ _. refl) numbers

same_violation : (x y : EntityDerefViolationKind) → violation.ghosts.eq x y ≡ true → x ≡ y
same_violation (MaximumLevelExceeded x u) (MaximumLevelExceeded y v) h = ap (λ p. MaximumLevelExceeded p.0 p.1) ((both levels levels).same (x, u) (y, v) h)
same_violation LiteralDerefTarget LiteralDerefTarget h = refl
same_violation x y h = cc

pub violations : IsExact violation.ghosts.eq
violations = record { same = same_violation }
