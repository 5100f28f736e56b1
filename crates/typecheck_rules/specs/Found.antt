-- Findings and what is expected, in code, as the definitions'.
use Rattle.std.specs.Prelude.{List, map}
use Rattle.findings.specs.Finding as definition
use Rattle.typecheck_rules.specs.Expected as definition_of
use Rattle.typecheck_rules.specs.Expected.{a_boolean, a_long, a_string, a_set, a_typed_set, an_entity, entities, an_owner, an_argument, no_help, sum_help, product_help, like_help, empty_help, contains_help, single_help, test_help, in_help, contents_help}
use Rattle.typecheck_rules.specs.declared.finding.FindingKind.{FindingKind}
use Rattle.typecheck_rules.specs.declared.finding.FindingKind.TheVariants as kind
use Rattle.typecheck_rules.specs.declared.finding.Finding.{Finding}
use Rattle.typecheck_rules.specs.declared.expected.Expected.{Expected}
use Rattle.typecheck_rules.specs.declared.expected.Expected.TheVariants as expected

abbrev pub kind_of : FindingKind → definition.Kind
kind_of (kind.UnexpectedType ts t h) = definition.UnexpectedType ts.items t h
kind_of (kind.IncompatibleTypes ts why place) = definition.IncompatibleTypes ts.keys why place
kind_of (kind.UnsafeAttributeAccess a b) = definition.UnsafeAttributeAccess a b
kind_of (kind.UnsafeOptionalAttributeAccess a) = definition.UnsafeOptionalAttributeAccess a
kind_of (kind.UnsafeTagAccess types tag) = definition.UnsafeTagAccess types tag
kind_of (kind.NoTagsAllowed type) = definition.NoTagsAllowed type
kind_of (kind.UndefinedFunction name) = definition.UndefinedFunction name
kind_of (kind.WrongNumberArguments m n) = definition.WrongNumberArguments m n
kind_of (kind.FunctionArgumentValidation text) = definition.FunctionArgumentValidation text
kind_of kind.EmptySetForbidden = definition.EmptySetForbidden
kind_of kind.NonLitExtConstructor = definition.NonLitExtConstructor

abbrev pub finding_of : Finding → definition.Finding
finding_of f = record { kind = kind_of f.kind; loc = f.loc }

abbrev pub findings_from : List Finding → List definition.Finding
findings_from fs = map finding_of fs

abbrev pub expected_of : Expected → definition_of.Expected
expected_of expected.Boolean = a_boolean
expected_of expected.Long = a_long no_help
expected_of expected.LongOfSum = a_long sum_help
expected_of expected.LongOfProduct = a_long product_help
expected_of expected.Tag = a_string no_help
expected_of expected.StringOfLike = a_string like_help
expected_of expected.SetOfIsEmpty = a_set empty_help
expected_of expected.SetOfContains = a_typed_set
expected_of expected.LeftSet = a_set contains_help
expected_of expected.RightSet = a_set single_help
expected_of expected.EntityOfTag = an_entity no_help
expected_of expected.EntityOfIs = an_entity test_help
expected_of expected.EntityOfIn = an_entity in_help
expected_of expected.Entities = entities
expected_of expected.Owner = an_owner no_help
expected_of expected.OwnerOfHas = an_owner contents_help
expected_of (expected.Argument t) = an_argument t.now
