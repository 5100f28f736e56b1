use Rattle.typing_spec.proofs.Tests.{tests_are_subtyping}
use Rattle.typing_spec.proofs.laws.tests_are_subtyping.Goals as goal

pub returns : goal.returns
returns c = tests_are_subtyping
